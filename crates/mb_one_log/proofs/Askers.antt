-- What a correct client counts and accepts: replies of different hosts to its request, of which those of correct hosts were made by them; and of f+1
-- that agree one is of a correct host.
use Rattle.std.proofs.Common.{◌≡◌, ℕ, ◌≤◌, ◌<◌, Bool, true, false, List, [], ◌∷◌, length, refl, sym, subst, inl, inr, arith, eqb}
use Rattle.std.specs.Prelude.{◌==◌, count_by, filter}
use Rattle.std.specs.List.{AllByRecursion, list_any}
use Rattle.std.proofs.lemmas.Bool.{and_parts, cases_Bool, eqb-true, leb-true}
use Rattle.std.proofs.lemmas.List.Sums.{length-filter}
use Rattle.mb_base.specs.Shapes.{host_count, max_faults, quorum, tally, HasQuorum}
use Rattle.mb_base.specs.declared.shape.Shape.{Shape}
use Rattle.mb_usig.specs.Tags.{same_bytes, reply_tag}
use Rattle.mb_msg.specs.declared.normal.Reply.{Reply}
use Rattle.mb_msg.specs.declared.message.Message.{Message}
use Rattle.mb_msg.specs.declared.message.Message.TheVariants as message
use Rattle.mb_msg.specs.Fits.{FitsReply}
use Rattle.mb_msg.specs.Spelling.{spelling}
use Rattle.mb_model.specs.Clients.{Asker, no_asker, asks, agrees, agreeing, counted, is_right, is_awaited, completes, taken, takes}
use Rattle.mb_model.proofs.Quorums.{quorum_has_correct}
use Rattle.mb_model.specs.Members.{In}
use Rattle.mb_model.proofs.Members.{any_in, all_in}
use Rattle.mb_schedule.specs.declared.schedule.Schedule.{Schedule}
use Rattle.mb_schedule.specs.Limits.{is_faulty}
use Rattle.mb_world_model.specs.WorldEvents.{IsCorrect}
use Rattle.mb_host_laws.proofs.Cases.{not_true}
use Rattle.mb_model.proofs.PlanLaws.{one_more}

-- ---- lists of different hosts

abbrev has_host : List Reply → ℕ → Bool
has_host l h = list_any (λ (x : Reply). x.host == h) l

abbrev AreDistinct : List Reply → Type 0
AreDistinct [] = Unit {0}
AreDistinct (x ∷ l) = (has_host l x.host ≡ false) × AreDistinct l

as_many : (n : ℕ) (l : List Reply) → AreDistinct l → AllByRecursion (λ (x : Reply). x.host < n) l → length l ≤ tally (has_host l) n
as_many n [] d a = omega arith
as_many n (x ∷ l) d a =
    let rest = as_many n l d.1 a.1 in
    let more = one_more (has_host l) x.host n d.0 a.0 in
    omega (arith, rest, more)

filtered_none : (t : Reply → Bool) (l : List Reply) (h : ℕ) → has_host l h ≡ false → has_host (filter t l) h ≡ false
filtered_none t [] h e = refl
filtered_none t (x ∷ l) h e = elim (cases_Bool (eqb x.host h)) [
  | inl same ↦ absurd (let f : true ≡ false = rw same at e in cc)
  | inr other ↦ elim (cases_Bool (t x)) [
    | inl kept ↦ rw (kept, other) (filtered_none t l h (rw other at e))
    | inr gone ↦ rw gone (filtered_none t l h (rw other at e))
  ]
]

filtered_distinct : (t : Reply → Bool) (l : List Reply) → AreDistinct l → AreDistinct (filter t l)
filtered_distinct t [] d = tt
filtered_distinct t (x ∷ l) d = elim (cases_Bool (t x)) [
  | inl kept ↦ rw kept (filtered_none t l x.host d.0, filtered_distinct t l d.1)
  | inr gone ↦ rw gone (filtered_distinct t l d.1)
]

filtered_all : (P : Reply → Type 0) (t : Reply → Bool) (l : List Reply) → AllByRecursion P l → AllByRecursion (λ (x : Reply). P x × (t x ≡ true)) (filter t l)
filtered_all P t [] a = tt
filtered_all P t (x ∷ l) a = elim (cases_Bool (t x)) [
  | inl kept ↦ rw kept ((a.0, kept), filtered_all P t l a.1)
  | inr gone ↦ rw gone (filtered_all P t l a.1)
]

all_but : (P Q : Reply → Type 0) → ((x : Reply) → P x → Q x) → (l : List Reply) → AllByRecursion P l → AllByRecursion Q l
all_but P Q f [] a = tt
all_but P Q f (x ∷ l) a = (f x a.0, all_but P Q f l a.1)

-- Of so many replies that pass a test, of different hosts, one is of a correct host.
one_correct : (s : Shape) (faulty : ℕ → Bool) (P : Reply → Type 0) (t : Reply → Bool) (l : List Reply) → tally faulty (host_count s) ≤ max_faults s → AreDistinct l → AllByRecursion P l → ((x : Reply) → P x → x.host < host_count s)
    → quorum s ≤ count_by t l → (x : Reply) × P x × (t x ≡ true) × (faulty x.host ≡ false)
one_correct s faulty P t l few d a hosts many =
    let k : List Reply = filter t l in
    let all : AllByRecursion (λ (x : Reply). P x × (t x ≡ true)) k = filtered_all P t l a in
    let low : AllByRecursion (λ (x : Reply). x.host < host_count s) k = all_but (λ (x : Reply). P x × (t x ≡ true)) (λ (x : Reply). x.host < host_count s) (λ x p. hosts x p.0) k all in
    let q : HasQuorum s (has_host k) = omega (arith, many, length-filter t l, as_many (host_count s) k (filtered_distinct t l d) low) in
    let found = quorum_has_correct s (has_host k) faulty q few in
    let member = any_in (λ (x : Reply). x.host == found.0) k found.2 in
    let same : member.0.host ≡ found.0 = eqb-true member.0.host found.0 member.2 in
    let p = all_in (λ (x : Reply). P x × (t x ≡ true)) k member.0 all member.1 in
    (member.0, p.0, p.1, subst (λ (h : ℕ). faulty h ≡ false) (sym same) (not_true (faulty found.0) found.3))

-- ---- a client

module _ (s : Schedule) (c : ℕ) where
  -- It is of the grammar, to this request of the client, and made by its host, where that one is correct.
  pub record IsCounted (tagged : List Message) (number : ℕ) (r : Reply) : Type 0 where
    pub fits : FitsReply s.shape r
    pub client : r.client ≡ c
    pub seq : r.seq ≡ number
    pub made : is_faulty s r.host ≡ false → (m : Message) × In tagged m × (spelling m ≡ spelling (message.Reply r))

  -- A correct host made a reply that agrees with it.
  pub record IsAnswer (tagged : List Message) (r : Reply) : Type 0 where
    pub reply : Reply
    pub counted : IsCounted tagged r.seq reply
    pub correct : IsCorrect s reply.host
    pub like : agrees r reply ≡ true

  pub record AskerStands (tagged : List Message) (a : Asker) : Type 0 where
    pub replies : AllByRecursion (IsCounted tagged a.number) a.replies
    pub distinct : AreDistinct a.replies
    pub accepted : AllByRecursion (IsAnswer tagged) a.accepted

  counted_more : (tagged more : List Message) → ((m : Message) → In tagged m → In more m) → (n : ℕ) (r : Reply) → IsCounted tagged n r → IsCounted more n r
  counted_more tagged more f n r x = record { fits = x.fits; client = x.client; seq = x.seq; made = λ e. let y = x.made e in (y.0, f y.0 y.1, y.2) }

  pub stands_more : (tagged more : List Message) → ((m : Message) → In tagged m → In more m) → (a : Asker) → AskerStands tagged a → AskerStands more a
  stands_more tagged more f a x = record {
    replies = all_but (IsCounted tagged a.number) (IsCounted more a.number) (λ r y. counted_more tagged more f a.number r y) a.replies x.replies;
    distinct = x.distinct;
    accepted = all_but (IsAnswer tagged) (IsAnswer more) (λ r y. record { reply = y.reply; counted = counted_more tagged more f r.seq y.reply y.counted; correct = y.correct; like = y.like }) a.accepted x.accepted;
  }

  pub stands_first : (tagged : List Message) → AskerStands tagged no_asker
  stands_first tagged = record { replies = tt; distinct = tt; accepted = tt }

  pub stands_asks : (tagged : List Message) (a : Asker) → AskerStands tagged a → AskerStands tagged (asks a)
  stands_asks tagged a x = record { replies = tt; distinct = tt; accepted = x.accepted }

  module _ (few : tally (is_faulty s) (host_count s.shape) ≤ max_faults s.shape) (tagged : List Message) (a : Asker) (r : Reply) (x : AskerStands tagged a) (fits : FitsReply s.shape r)
      (made : is_right s.shape s.secret c r ≡ true → is_faulty s r.host ≡ false → (m : Message) × In tagged m × (spelling m ≡ spelling (message.Reply r))) where
    record Counts : Type 0 where
      replies : AllByRecursion (IsCounted tagged a.number) (counted a.replies r)
      distinct : AreDistinct (counted a.replies r)

    counts : is_right s.shape s.secret c r ≡ true → is_awaited s.shape s.secret c a r ≡ true → Counts
    counts right awaited =
        let p = and_parts (r.client == c) (same_bytes r.tag (reply_tag s.secret r.host r.client r.seq r.pos r.result)) right in
        let q = and_parts a.waits (r.seq == a.number) awaited in
        elim (cases_Bool (has_host a.replies r.host)) [
          | inl again ↦ record { replies = rw again x.replies; distinct = rw again x.distinct }
          | inr new ↦ record {
            replies = rw new (record { fits = fits; client = eqb-true r.client c p.0; seq = eqb-true r.seq a.number q.1; made = made right }, x.replies);
            distinct = rw new (new, x.distinct);
          }
        ]

    accepts : Counts → is_awaited s.shape s.secret c a r ≡ true → completes s.shape s.secret c a r ≡ true → AskerStands tagged (record a { waits = false; replies = []; accepted = r ∷ a.accepted })
    accepts k awaited complete =
        let q = and_parts a.waits (r.seq == a.number) awaited in
        let seq : r.seq ≡ a.number = eqb-true r.seq a.number q.1 in
        let one = one_correct s.shape (is_faulty s) (IsCounted tagged a.number) (agrees r) (counted a.replies r) few k.distinct k.replies (λ y z. z.fits.host) (leb-true (quorum s.shape) (agreeing (counted a.replies r) r) complete) in
        record {
          replies = tt;
          distinct = tt;
          accepted = (record { reply = one.0; counted = subst (λ (n : ℕ). IsCounted tagged n one.0) (sym seq) one.1; correct = (one.1.fits.host, one.3); like = one.2 }, x.accepted);
        }

    pub stands_takes : AskerStands tagged (takes s.shape s.secret c a r)
    unfolding takes taken
    stands_takes = elim (cases_Bool (is_right s.shape s.secret c r)) [
      | inr wrong ↦ rw wrong x
      | inl right ↦ elim (cases_Bool (is_awaited s.shape s.secret c a r)) [
        | inr other ↦ rw (right, other) x
        | inl awaited ↦
            let k : Counts = counts right awaited in
            elim (cases_Bool (completes s.shape s.secret c a r)) [
              | inl complete ↦ rw (right, awaited, complete) (accepts k awaited complete)
              | inr waits ↦ rw (right, awaited, waits) (record { replies = k.replies; distinct = k.distinct; accepted = x.accepted })
            ]
      ]
    ]
