-- A correct client accepts as soon as the first replies of f+1 hosts to its last request agree.
--
-- After any events it waits, has accepted, or has asked nothing (`Stands`). While it waits, what it counted are the first replies of the hosts that it heard, and
-- no f+1 of them agree. Once f+1 agree it has accepted what they say, and no other f+1 say anything else.
use Rattle.std.proofs.Common.{◌≡◌, ℕ, zero, suc, ◌+◌, ◌≤◌, ◌<◌, ◌⊎◌, Bool, true, false, ◌&&◌, List, [], ◌∷◌, refl, sym, ap, subst, ◌∙◌, inl, inr, arith, Option, Some, None}
use Rattle.std.specs.Prelude.{◌==◌, if◌then◌else◌, slice_get}
use Rattle.std.specs.List.{AllByRecursion, list_any}
use Rattle.std.proofs.lemmas.Bool.{cases_Bool, and_parts, and_from, and_right, eqb-true, eq-eqb, leb-true, le-leb}
use Rattle.mb_base.specs.Shapes.{Bytes, host_count, quorum, tally, HasQuorum}
use Rattle.mb_usig.specs.Tags.{same_bytes, reply_tag}
use Rattle.mb_usig.proofs.Laws.{same_bytes-true}
use Rattle.mb_msg.specs.declared.normal.Reply.{Reply}
use Rattle.mb_msg.specs.declared.message.Message.TheVariants as message
use Rattle.mb_msg.specs.Fits.{FitsReply}
use Rattle.mb_model.specs.Histories.{onto}
use Rattle.mb_model.specs.Clients.{Asker, asks, agreeing, counted, is_right, is_awaited, completes, taken, takes}
use Rattle.mb_model.specs.Members.{In}
use Rattle.mb_model.proofs.Members.{in_contained, contained, all_in}
use Rattle.mb_model.proofs.Options.{option_cases}
use Rattle.mb_model.proofs.Quorums.{quorums_meet}
use Rattle.mb_model.proofs.ShapesFit.{shape_fits}
use Rattle.mb_schedule.specs.declared.schedule.Schedule.{Schedule}
use Rattle.mb_schedule.specs.Limits.{is_faulty_client}
use Rattle.mb_steps.proofs.StepPotential.{tally_same}
use Rattle.mb_steps.proofs.StepRounds.{tally_more}
use Rattle.mb_world_model.specs.World.{World, System}
use Rattle.mb_world_model.specs.WorldSteps.{world}
use Rattle.mb_reading_laws.proofs.ReadFits.{read_fits}
use Rattle.mb_results.specs.Accepts.{first_of, says, asked_count, is_answer, heard, HasAccepted, AcceptsAtQuorum, ClientsAccept}
use Rattle.mb_results.proofs.Tallies.{AreDistinct, tally_none, none_said, some_said, said_more, said_new, said_other, said_same, count_is_tally}
use Rattle.mb_results.proofs.Turns.{Turns, after_turns}

module _ {S : Type 0} (system : System S) (c : ℕ) where
  abbrev s : Schedule
  s = system.schedule

  abbrev hosts : ℕ
  hosts = host_count s.shape

  -- f+1 hosts said this first.
  abbrev IsSaid : List Reply → ℕ → Bytes → Type 0
  IsSaid l pos result = HasQuorum s.shape (λ h. says pos result (first_of l h))

  abbrev AreBelow : ℕ → List Reply → Type 0
  AreBelow n l = AllByRecursion (λ (r : Reply). r.seq < n) l

  record IsWaiting (a : Asker) (n : ℕ) (l : List Reply) : Type 0 where
    waits : a.waits ≡ true
    below : AreBelow n a.accepted
    first : (h : ℕ) → first_of a.replies h ≡ first_of l h
    distinct : AreDistinct a.replies
    near : AllByRecursion (λ (r : Reply). r.host < hosts) a.replies
    none : (pos : ℕ) (result : Bytes) → IsSaid l pos result → ⊥

  record IsServed (a : Asker) (n : ℕ) (l : List Reply) : Type 0 where
    waits : a.waits ≡ false
    reply : Reply
    rest : List Reply
    accepted : a.accepted ≡ reply ∷ rest
    number : reply.seq ≡ n
    below : AreBelow n rest
    told : IsSaid l reply.pos reply.result

  record IsNew (a : Asker) (n : ℕ) (l : List Reply) : Type 0 where
    waits : a.waits ≡ false
    never : n ≡ 0
    accepted : a.accepted ≡ []
    unheard : l ≡ []

  abbrev IsOneOf : Asker → ℕ → List Reply → Type 0
  IsOneOf a n l = IsWaiting a n l ⊎ (IsServed a n l ⊎ IsNew a n l)

  record Stands (a : Asker) (n : ℕ) (l : List Reply) : Type 0 where
    number : a.number ≡ n
    is : IsOneOf a n l

  -- ---- it asks

  none_said_yet : (pos : ℕ) (result : Bytes) → IsSaid [] pos result → ⊥
  unfolding first_of
  none_said_yet pos result q = let z = tally_none (λ h. says pos result None) hosts (λ h. refl) in absurd (omega (arith, q, z))

  lower : (n : ℕ) (l : List Reply) → AreBelow n l → AreBelow (n + 1) l
  lower n [] a = tt
  lower n (r ∷ l) a = let lt = a.0 in (omega (arith, lt), lower n l a.1)

  all_low : (a : Asker) (n : ℕ) (l : List Reply) → IsOneOf a n l → AreBelow (n + 1) a.accepted
  all_low a n l (inl x) = lower n a.accepted x.below
  all_low a n l (inr (inl x)) = let e = x.number in subst (AreBelow (n + 1)) (sym x.accepted) (omega (arith, e), lower n x.rest x.below)
  all_low a n l (inr (inr x)) = subst (AreBelow (n + 1)) (sym x.accepted) tt

  stands_asks : (a : Asker) (n : ℕ) (l : List Reply) → Stands a n l → Stands (asks a) (n + 1) []
  stands_asks a n l x = record {
    number = ap (λ (k : ℕ). k + 1) x.number;
    is = inl (record { waits = refl; below = all_low a n l x.is; first = λ h. refl; distinct = tt; near = tt; none = none_said_yet });
  }

  -- ---- a reply to its last request

  -- Such a reply is rightly tagged, and a rightly tagged one of this number is such a reply.
  right_of : (n : ℕ) (r : Reply) → is_answer system c n r ≡ true → (r.seq ≡ n) × (is_right s.shape s.secret c r ≡ true)
  right_of n r e =
      let p = and_parts (r.client == c) (r.seq == n && same_bytes r.tag (reply_tag s.secret r.host c n r.pos r.result)) e in
      let q = and_parts (r.seq == n) (same_bytes r.tag (reply_tag s.secret r.host c n r.pos r.result)) p.1 in
      let client : r.client ≡ c = eqb-true r.client c p.0 in
      let seq : r.seq ≡ n = eqb-true r.seq n q.0 in
      let tag : same_bytes r.tag (reply_tag s.secret r.host r.client r.seq r.pos r.result) ≡ true =
      subst (λ (k : ℕ). same_bytes r.tag (reply_tag s.secret r.host k r.seq r.pos r.result) ≡ true) (sym client)
      (subst (λ (k : ℕ). same_bytes r.tag (reply_tag s.secret r.host c k r.pos r.result) ≡ true) (sym seq) q.1) in
      (seq, and_from (r.client == c) (same_bytes r.tag (reply_tag s.secret r.host r.client r.seq r.pos r.result)) p.0 tag)

  of_right : (n : ℕ) (r : Reply) → r.seq ≡ n → is_right s.shape s.secret c r ≡ true → is_answer system c n r ≡ true
  of_right n r seq e =
      let p = and_parts (r.client == c) (same_bytes r.tag (reply_tag s.secret r.host r.client r.seq r.pos r.result)) e in
      let client : r.client ≡ c = eqb-true r.client c p.0 in
      let tag : same_bytes r.tag (reply_tag s.secret r.host c n r.pos r.result) ≡ true =
      subst (λ (k : ℕ). same_bytes r.tag (reply_tag s.secret r.host c k r.pos r.result) ≡ true) seq
      (subst (λ (k : ℕ). same_bytes r.tag (reply_tag s.secret r.host k r.seq r.pos r.result) ≡ true) client p.1) in
      and_from (r.client == c) (r.seq == n && same_bytes r.tag (reply_tag s.secret r.host c n r.pos r.result)) p.0
      (and_from (r.seq == n) (same_bytes r.tag (reply_tag s.secret r.host c n r.pos r.result)) (eq-eqb r.seq n seq) tag)

  -- ---- what a reply leaves

  bad_taken : (a : Asker) (r : Reply) → is_right s.shape s.secret c r ≡ false → takes s.shape s.secret c a r ≡ a
  unfolding takes taken
  bad_taken a r wrong = rw wrong refl

  other_taken : (a : Asker) (r : Reply) → is_right s.shape s.secret c r ≡ true → is_awaited s.shape s.secret c a r ≡ false → takes s.shape s.secret c a r ≡ a
  unfolding takes taken
  other_taken a r right other = rw (right, other) refl

  accepted_taken : (a : Asker) (r : Reply) → is_right s.shape s.secret c r ≡ true → is_awaited s.shape s.secret c a r ≡ true → completes s.shape s.secret c a r ≡ true
      → takes s.shape s.secret c a r ≡ record a { waits = false; replies = []; accepted = r ∷ a.accepted }
  unfolding takes taken
  accepted_taken a r right awaited complete = rw (right, awaited, complete) refl

  counted_taken : (a : Asker) (r : Reply) → is_right s.shape s.secret c r ≡ true → is_awaited s.shape s.secret c a r ≡ true → completes s.shape s.secret c a r ≡ false
      → takes s.shape s.secret c a r ≡ record a { replies = counted a.replies r }
  unfolding takes taken
  counted_taken a r right awaited open_still = rw (right, awaited, open_still) refl

  -- no reply to its last request, or it waits for none
  not_taken : (a : Asker) (n : ℕ) (r : Reply) → a.number ≡ n → is_answer system c n r ≡ false → takes s.shape s.secret c a r ≡ a
  not_taken a n r number none = elim (cases_Bool (is_right s.shape s.secret c r)) [
    | inr wrong ↦ bad_taken a r wrong
    | inl right ↦ elim (cases_Bool (r.seq == a.number)) [
      | inr other ↦ other_taken a r right (and_right a.waits (r.seq == a.number) other)
      | inl same ↦ let yes_so = of_right n r (eqb-true r.seq a.number same ∙ number) right in absurd (untrue (is_answer system c n r) none yes_so)
    ]
  ] where
    untrue : (b : Bool) → b ≡ false → b ≡ true → ⊥
    untrue b e f = absurd cc

  done_taken : (a : Asker) (r : Reply) → is_right s.shape s.secret c r ≡ true → a.waits ≡ false → takes s.shape s.secret c a r ≡ a
  done_taken a r right waits = other_taken a r right (rw waits refl)

  -- ---- what is said with one reply more

  said_true : (pos : ℕ) (result : Bytes) (o : Option Reply) → says pos result o ≡ true → (y : Reply) × (o ≡ Some y) × (pos ≡ y.pos) × (result ≡ y.result)
  said_true pos result None e = absurd cc
  said_true pos result (Some y) e = let p = and_parts (pos == y.pos) (same_bytes result y.result) e in (y, refl, eqb-true pos y.pos p.0, same_bytes-true result y.result p.1)

  still_said : (l : List Reply) (r : Reply) (pos : ℕ) (result : Bytes) → IsSaid l pos result → IsSaid (r ∷ l) pos result
  still_said l r pos result q =
      let more = tally_more (λ h. says pos result (first_of l h)) (λ h. says pos result (first_of (r ∷ l) h)) hosts (λ h e.
      let y = said_true pos result (first_of l h) e in
      subst (λ (o : Option Reply). says pos result o ≡ true) (y.1 ∙ sym (said_more l r h y.0 y.1)) e) in
      omega (arith, q, more)

  -- where the new one says something else
  said_before : (l : List Reply) (r : Reply) (pos : ℕ) (result : Bytes) → says pos result (Some r) ≡ false → IsSaid (r ∷ l) pos result → IsSaid l pos result
  said_before l r pos result differs q =
      let more = tally_more (λ h. says pos result (first_of (r ∷ l) h)) (λ h. says pos result (first_of l h)) hosts by_host in
      omega (arith, q, more) where
        differs_so : (b : Bool) → says pos result (if b then Some r else None) ≡ true → ⊥
        differs_so true e = let f : true ≡ false = sym e ∙ differs in absurd cc
        differs_so false e = absurd cc

        by_host : (h : ℕ) → says pos result (first_of (r ∷ l) h) ≡ true → says pos result (first_of l h) ≡ true
        by_host h e = elim (option_cases (first_of l h)) [
          | inr (y, there) ↦ subst (λ (o : Option Reply). says pos result o ≡ true) (said_more l r h y there ∙ sym there) e
          | inl none ↦ absurd (differs_so (r.host == h) (subst (λ (o : Option Reply). says pos result o ≡ true) (said_new l r h none) e))
        ]

  -- ---- what is counted with one reply more

  module _ (a : Asker) (n : ℕ) (l : List Reply) (r : Reply) (x : IsWaiting a n l) (fits : FitsReply s.shape r) where
    abbrev known : Bool
    known = list_any (λ (y : Reply). y.host == r.host) a.replies

    record Counts : Type 0 where
      first : (h : ℕ) → first_of (counted a.replies r) h ≡ first_of (r ∷ l) h
      distinct : AreDistinct (counted a.replies r)
      near : AllByRecursion (λ (y : Reply). y.host < hosts) (counted a.replies r)

    again_first : known ≡ true → (h : ℕ) → first_of a.replies h ≡ first_of (r ∷ l) h
    again_first again h = elim (cases_Bool (r.host == h)) [
      | inr other ↦ x.first h ∙ sym (said_other l r h other)
      | inl same ↦
          let here : r.host ≡ h = eqb-true r.host h same in
          let y = some_said a.replies r.host again in
          let there : first_of a.replies h ≡ Some y.0 = ap (first_of a.replies) (sym here) ∙ y.1 in
          there ∙ sym (said_more l r h y.0 (sym (x.first h) ∙ there))
    ]

    counts : Counts
    counts = elim (cases_Bool known) [
      | inl again ↦ record { first = rw again (again_first again); distinct = rw again x.distinct; near = rw again x.near }
      | inr new ↦ record {
        first = rw new (λ h. said_same a.replies l r h (x.first h));
        distinct = rw new (none_said a.replies r.host new, x.distinct);
        near = rw new (fits.host, x.near);
      }
    ]

    as_many : agreeing (counted a.replies r) r ≡ tally (λ h. says r.pos r.result (first_of (r ∷ l) h)) hosts
    as_many =
        let k : Counts = counts in
        count_is_tally (says r.pos r.result) refl (counted a.replies r) hosts k.distinct k.near
        ∙ tally_same (λ h. says r.pos r.result (first_of (counted a.replies r) h)) (λ h. says r.pos r.result (first_of (r ∷ l) h)) hosts (λ h. ap (says r.pos r.result) (k.first h))

    now_said : completes s.shape s.secret c a r ≡ true → IsSaid (r ∷ l) r.pos r.result
    now_said complete =
        let le : quorum s.shape ≤ agreeing (counted a.replies r) r = leb-true (quorum s.shape) (agreeing (counted a.replies r) r) complete in
        omega (arith, le, as_many)

    not_said : completes s.shape s.secret c a r ≡ false → (pos : ℕ) (result : Bytes) → IsSaid (r ∷ l) pos result → ⊥
    not_said open_still pos result q = elim (cases_Bool (says pos result (Some r))) [
      | inr differs ↦ x.none pos result (said_before l r pos result differs q)
      | inl same ↦
          let p = and_parts (pos == r.pos) (same_bytes result r.result) same in
          let place : pos ≡ r.pos = eqb-true pos r.pos p.0 in
          let is : result ≡ r.result = same_bytes-true result r.result p.1 in
          let here : IsSaid (r ∷ l) r.pos r.result = subst (λ (b : Bytes). IsSaid (r ∷ l) r.pos b) is (subst (λ (k : ℕ). IsSaid (r ∷ l) k result) place q) in
          let le : completes s.shape s.secret c a r ≡ true = le-leb (quorum s.shape) (agreeing (counted a.replies r) r) (omega (arith, here, as_many)) in
          absurd (let f : true ≡ false = sym le ∙ open_still in cc)
    ]

    waiting_takes : a.number ≡ n → r.seq ≡ n → is_right s.shape s.secret c r ≡ true → Stands (takes s.shape s.secret c a r) n (r ∷ l)
    waiting_takes number seq right =
        let awaited : is_awaited s.shape s.secret c a r ≡ true = and_from a.waits (r.seq == a.number) x.waits (eq-eqb r.seq a.number (seq ∙ sym number)) in
        let k : Counts = counts in
        elim (cases_Bool (completes s.shape s.secret c a r)) [
          | inl complete ↦ subst (λ (b : Asker). Stands b n (r ∷ l)) (sym (accepted_taken a r right awaited complete)) (record {
            number = number;
            is = inr (inl (record { waits = refl; reply = r; rest = a.accepted; accepted = refl; number = seq; below = x.below; told = now_said complete }));
          })
          | inr open_still ↦ subst (λ (b : Asker). Stands b n (r ∷ l)) (sym (counted_taken a r right awaited open_still)) (record {
            number = number;
            is = inl (record { waits = x.waits; below = x.below; first = k.first; distinct = k.distinct; near = k.near; none = not_said open_still });
          })
        ]

  -- ---- any reply

  answer_stands : (a : Asker) (n : ℕ) (l : List Reply) (r : Reply) → FitsReply s.shape r → a.number ≡ n → r.seq ≡ n → is_right s.shape s.secret c r ≡ true → IsOneOf a n l → Stands (takes s.shape s.secret c a r) n (r ∷ l)
  answer_stands a n l r fits number seq right (inl x) = waiting_takes a n l r x fits number seq right
  answer_stands a n l r fits number seq right (inr (inl x)) = subst (λ (b : Asker). Stands b n (r ∷ l)) (sym (done_taken a r right x.waits)) (record {
    number = number;
    is = inr (inl (record { waits = x.waits; reply = x.reply; rest = x.rest; accepted = x.accepted; number = x.number; below = x.below; told = still_said l r x.reply.pos x.reply.result x.told }));
  })
  answer_stands a n l r fits number seq right (inr (inr x)) = let some = fits.seq.0 in let none = x.never in absurd (omega (arith, some, none, seq))

  reply_stands : (a : Asker) (n : ℕ) (l : List Reply) (r : Reply) → FitsReply s.shape r → Stands a n l → Stands (takes s.shape s.secret c a r) n (onto (if is_answer system c n r then Some r else None) l)
  reply_stands a n l r fits x = elim (cases_Bool (is_answer system c n r)) [
    | inl yes_so ↦ let p = right_of n r yes_so in rw yes_so (answer_stands a n l r fits x.number p.0 p.1 x.is)
    | inr none ↦ rw none (subst (λ (b : Asker). Stands b n l) (sym (not_taken a n r x.number none)) x)
  ]

  -- ---- each event

  module _ (w v : World) (l : List Reply) where
    abbrev StandsIn : World → List Reply → Type 0
    StandsIn u k = Stands (u.askers c) (asked_count system c u) k

    moved : (a : Asker) (n : ℕ) (k k' : List Reply) → v.askers c ≡ a → asked_count system c v ≡ n → k' ≡ k → Stands a n k → StandsIn v k'
    moved a n k k' asker count said x =
        subst (λ (b : Asker). Stands b (asked_count system c v) k') (sym asker)
        (subst (λ (m : ℕ). Stands a m k') (sym count) (subst (Stands a n) (sym said) x))

    turned : (k : List Reply) → StandsIn w l → Turns system c w v l k → StandsIn v k
    turned k x (inl t) = moved (w.askers c) (asked_count system c w) l k t.asker t.count t.heard x
    turned k x (inr (inl t)) = moved (asks (w.askers c)) (asked_count system c w + 1) [] k t.asker t.count t.heard (stands_asks (w.askers c) (asked_count system c w) l x)
    turned k x (inr (inr t)) =
        let fits : FitsReply s.shape t.reply = read_fits s.shape (shape_fits s.shape) t.bytes (message.Reply t.reply) t.reads in
        moved (takes s.shape s.secret c (w.askers c) t.reply) (asked_count system c w) (onto (if is_answer system c (asked_count system c w) t.reply then Some t.reply else None) l) k t.asker t.count t.heard
        (reply_stands (w.askers c) (asked_count system c w) l t.reply fits x)

  stands : is_faulty_client s c ≡ false → (k : ℕ) → Stands ((world system k).askers c) (asked_count system c (world system k)) (heard system c k)
  unfolding world heard
  stands correct zero = record { number = refl; is = inr (inr (record { waits = refl; never = refl; accepted = refl; unheard = refl })) }
  stands correct (suc k) =
      let w : World = world system k in
      turned w (world system (suc k)) (heard system c k) (heard system c (suc k)) (stands correct k) (after_turns system c w correct (slice_get s.events k) (heard system c k))

  -- ---- what it accepted

  module _ (w : World) (l : List Reply) (x : Stands (w.askers c) (asked_count system c w) l) where
    abbrev n : ℕ
    n = asked_count system c w

    served_as : (y : IsServed (w.askers c) n l) (pos : ℕ) (result : Bytes) → IsSaid l pos result → HasAccepted system c w pos result
    served_as y pos result q =
        let one = quorums_meet s.shape (λ h. says pos result (first_of l h)) (λ h. says y.reply.pos y.reply.result (first_of l h)) q y.told in
        let a = said_true pos result (first_of l one.0) one.2 in
        let b = said_true y.reply.pos y.reply.result (first_of l one.0) one.3 in
        let same : a.0 ≡ b.0 = some_same a.0 b.0 (sym a.1 ∙ b.1) in
        record {
          reply = y.reply;
          there = contained (w.askers c).accepted y.reply (subst (λ (k : List Reply). In k y.reply) (sym y.accepted) (inl refl));
          number = y.number;
          position = b.2 ∙ ap (λ (r : Reply). r.pos) (sym same) ∙ sym a.2;
          is = b.3 ∙ ap (λ (r : Reply). r.result) (sym same) ∙ sym a.3;
        } where
          some_same : (a b : Reply) → Some a ≡ Some b → a ≡ b
          some_same a b e = cc

    told_so : IsOneOf (w.askers c) n l → (pos : ℕ) (result : Bytes) → IsSaid l pos result → HasAccepted system c w pos result
    told_so (inl y) pos result q = absurd (y.none pos result q)
    told_so (inr (inl y)) pos result q = served_as y pos result q
    told_so (inr (inr y)) pos result q = absurd (none_said_yet pos result (subst (λ (k : List Reply). IsSaid k pos result) y.unheard q))

    alone_so : IsOneOf (w.askers c) n l → (r : Reply) → In (w.askers c).accepted r → r.seq ≡ n → IsSaid l r.pos r.result
    alone_so (inl y) r i e = let lt = all_in (λ (z : Reply). z.seq < n) (w.askers c).accepted r y.below i in absurd (omega (arith, lt, e))
    alone_so (inr (inr y)) r i e = absurd (subst (λ (k : List Reply). In k r) y.accepted i)
    alone_so (inr (inl y)) r i e = elim (subst (λ (k : List Reply). In k r) y.accepted i) [
      | inl is ↦ subst (λ (z : Reply). IsSaid l z.pos z.result) is y.told
      | inr before ↦ let lt = all_in (λ (z : Reply). z.seq < n) y.rest r y.below before in absurd (omega (arith, lt, e))
    ]

  pub accepts : is_faulty_client s c ≡ false → (k : ℕ) → AcceptsAtQuorum system c k
  accepts correct k =
      let x = stands correct k in
      record {
        numbers = x.number;
        told = told_so (world system k) (heard system c k) x x.is;
        alone = λ r there e. alone_so (world system k) (heard system c k) x x.is r (in_contained ((world system k).askers c).accepted r there) e;
      }

pub clients_accept : (S : Type 0) → ClientsAccept S
clients_accept S system c k correct = accepts system c correct k
