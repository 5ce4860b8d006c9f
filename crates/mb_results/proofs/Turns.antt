-- What an event does to a correct client: nothing, or it asks its next request, or it takes a reply that the event brings.
use Rattle.std.proofs.Common.{◌≡◌, ℕ, ◌+◌, ◌⊎◌, Bool, true, false, cond, List, [], refl, sym, ap, subst, inl, inr, arith, Option, Some, None, Ok, Err}
use Rattle.std.specs.Prelude.{◌==◌, Result, option_and_then, if◌then◌else◌}
use Rattle.std.proofs.lemmas.Bool.{cases_Bool, cases_eq, eq-eqb, ne_eqb}
use Rattle.std.proofs.lemmas.List.Sums.{sum_by-cons}
use Rattle.mb_base.specs.Shapes.{Bytes, host_count}
use Rattle.mb_parts.specs.declared.request.Request.{Request}
use Rattle.mb_msg.specs.declared.normal.Reply.{Reply}
use Rattle.mb_msg.specs.declared.message.Message.{Message}
use Rattle.mb_msg.specs.declared.message.Message.TheVariants as message
use Rattle.mb_msg.specs.declared.stamped.Stamped.{Stamped as StampedMessage}
use Rattle.mb_msg.specs.declared.event.Event.{Event}
use Rattle.mb_msg.specs.declared.event.Event.TheVariants as event
use Rattle.mb_msg.specs.Reading.{message_of}
use Rattle.mb_msg.specs.Spelling.{spelling}
use Rattle.mb_msg.specs.Stamps.{as_stamped}
use Rattle.mb_model.specs.Histories.{onto}
use Rattle.mb_model.specs.Clients.{asks, takes}
use Rattle.mb_schedule.specs.declared.schedule.Name.TheVariants as name
use Rattle.mb_schedule.specs.declared.schedule.WorldEvent.{WorldEvent}
use Rattle.mb_schedule.specs.declared.schedule.WorldEvent.TheVariants.{Ask, Give, Take, Raw, Patience, Nudge, Sign, TagReply, TagWish, StampPrepare, StampCommit, StampCheckpoint, StampChange, StampAs, StampRaw}
use Rattle.mb_schedule.specs.declared.schedule.Schedule.{Schedule}
use Rattle.mb_schedule.specs.Limits.{is_faulty, is_faulty_client}
use Rattle.mb_world_model.specs.World.{World, System, numbered, read, request_of, made, heard as hashed_too, client_reads, give_client, give_host, signal}
use Rattle.mb_model.specs.Inside.{if_read}
use Rattle.mb_world_model.specs.FaultyHosts.{stamp_some, stamp_content, stamp_bytes, content, prepare_of, commit_for, checkpoint_with, change_after, reply_of_host, wish_of_host}
use Rattle.mb_world_model.specs.WorldSteps.{where_faulty, with_message, stamps_some, happens, after}
use Rattle.mb_results.specs.Accepts.{asked_count, answer_in, hears}

abbrev one_if : Bool → ℕ
one_if b = cond b 1 0

module _ {S : Type 0} (system : System S) (c : ℕ) (w : World) where
  abbrev s : Schedule
  s = system.schedule

  pub record Stays (v : World) (l now : List Reply) : Type 0 where
    pub asker : v.askers c ≡ w.askers c
    pub count : asked_count system c v ≡ asked_count system c w
    pub heard : now ≡ l

  pub record AsksNow (v : World) (now : List Reply) : Type 0 where
    pub asker : v.askers c ≡ asks (w.askers c)
    pub count : asked_count system c v ≡ asked_count system c w + 1
    pub heard : now ≡ []

  pub record TakesNow (v : World) (l now : List Reply) : Type 0 where
    pub reply : Reply
    pub bytes : Bytes
    pub reads : message_of system.schedule.shape bytes ≡ Ok (message.Reply reply)
    pub asker : v.askers c ≡ takes system.schedule.shape system.schedule.secret c (w.askers c) reply
    pub count : asked_count system c v ≡ asked_count system c w
    pub heard : now ≡ onto (answer_in system c (asked_count system c w) (Some (message.Reply reply))) l

  abbrev pub Turns : World → List Reply → List Reply → Type 0
  Turns v l now = Stays v l now ⊎ (AsksNow v now ⊎ TakesNow v l now)

  -- ---- what does nothing to the client

  abbrev IsQuiet : World → Type 0
  IsQuiet v = (v.askers c ≡ w.askers c) × (v.asked ≡ w.asked)

  stays : (v : World) (l : List Reply) → IsQuiet v → Turns v l l
  stays v l quiet = inl (record { asker = quiet.0; count = ap (λ (a : List Request). asked_count system c (record w { asked = a })) quiet.1; heard = refl })

  host_quiet : (h : ℕ) (bytes : Bytes) → IsQuiet (give_host system h bytes w)
  unfolding give_host
  host_quiet h bytes = elim (cases_Bool (is_faulty s h)) [ inl faulty ↦ rw faulty (refl, refl) | inr correct ↦ rw correct (refl, refl) ]

  signal_quiet : (h : ℕ) (e : Event) → IsQuiet (signal system h e w)
  unfolding signal
  signal_quiet h e = elim (cases_Bool (is_faulty s h)) [ inl faulty ↦ rw faulty (refl, refl) | inr correct ↦ rw correct (refl, refl) ]

  given_quiet : (h : ℕ) (o : Option Bytes) → IsQuiet (with_message (give_host system h) o w)
  given_quiet h None = (refl, refl)
  given_quiet h (Some bytes) = host_quiet h bytes

  faulty_quiet : (t : Bool) (f : World → World) → IsQuiet (f w) → IsQuiet (where_faulty t f w)
  faulty_quiet true f q = q
  faulty_quiet false f q = (refl, refl)

  stamp_quiet : (h : ℕ) (m : Option StampedMessage) → IsQuiet (stamps_some system h m w)
  stamp_quiet h m = faulty_quiet (is_faulty s h) (stamp_some (stamp_content s h) m) (go m) where
    go : (o : Option StampedMessage) → IsQuiet (stamp_some (stamp_content s h) o w)
    go None = (refl, refl)
    go (Some x) = (refl, refl)

  -- ---- what comes to another client

  module _ (d : ℕ) (other : c ≡ d → ⊥) where
    reads_quiet : (bytes : Bytes) (r : Result Message ℕ) → IsQuiet (client_reads s d r (hashed_too s bytes w))
    reads_quiet bytes (Err at) = (refl, refl)
    reads_quiet bytes (Ok (message.Reply r)) = (rw (ne_eqb c d other) refl, refl)
    reads_quiet bytes (Ok m) = (refl, refl)

    client_quiet : (bytes : Bytes) → IsQuiet (give_client s d bytes w)
    unfolding give_client
    client_quiet bytes = elim (cases_Bool (is_faulty_client s d)) [
      | inl faulty ↦ rw faulty (refl, refl)
      | inr correct ↦ rw correct (reads_quiet bytes (message_of s.shape bytes))
    ]

    taken_quiet : (o : Option Bytes) → IsQuiet (with_message (give_client s d) o w)
    taken_quiet None = (refl, refl)
    taken_quiet (Some bytes) = client_quiet bytes

  -- ---- what comes to this one

  abbrev more : Option Bytes → List Reply → List Reply
  more o l = onto (answer_in system c (asked_count system c w) (option_and_then (read s) o)) l

  reads_turn : (l : List Reply) (bytes : Bytes) (r : Result Message ℕ) → message_of s.shape bytes ≡ r → Turns (client_reads s c r (hashed_too s bytes w)) l (onto (answer_in system c (asked_count system c w) (if_read r)) l)
  reads_turn l bytes (Err at) is = inl (record { asker = refl; count = refl; heard = refl })
  reads_turn l bytes (Ok (message.Reply r)) is = inr (inr (record { reply = r; bytes = bytes; reads = is; asker = rw (eq-eqb c c refl) refl; count = refl; heard = refl }))
  reads_turn l bytes (Ok m) is = inl (record { asker = refl; count = refl; heard = refl })

  module _ (correct : is_faulty_client s c ≡ false) where
    client_turns : (l : List Reply) (bytes : Bytes) → Turns (give_client s c bytes w) l (more (Some bytes) l)
    unfolding give_client
    client_turns l bytes = rw correct (reads_turn l bytes (message_of s.shape bytes) refl)

    taken_turns : (l : List Reply) (o : Option Bytes) → Turns (with_message (give_client s c) o w) l (more o l)
    taken_turns l None = inl (record { asker = refl; count = refl; heard = refl })
    taken_turns l (Some bytes) = client_turns l bytes

    -- bytes that an event gives to any client
    comes_to : (d : ℕ) (l : List Reply) (o : Option Bytes) → Turns (with_message (give_client s d) o w) l (more (if d == c then o else None) l)
    comes_to d l o = elim (cases_eq d c) [
      | inl same ↦ rw (eq-eqb d c same) (subst (λ (e : ℕ). Turns (with_message (give_client s e) o w) l (more o l)) (sym same) (taken_turns l o))
      | inr other ↦ rw (ne_eqb d c other) (stays (with_message (give_client s d) o w) l (taken_quiet d (λ e. other (sym e)) o))
    ]

    -- ---- it asks

    asks_turn : (op : Bytes) (l : List Reply) → Turns (happens system w (Ask c op)) l []
    unfolding happens
    asks_turn op l =
        let r : Request = request_of s c ((w.askers c).number + 1) op in
        let list = sum_by-cons (λ (q : Request). one_if (q.client == c)) r w.asked in
        let one : one_if (c == c) ≡ 1 = ap one_if (eq-eqb c c refl) in
        inr (inl (record { asker = rw (eq-eqb c c refl) refl; count = omega (arith, list, one); heard = refl }))

    other_asks : (d : ℕ) (op : Bytes) (l : List Reply) → (d ≡ c → ⊥) → Turns (happens system w (Ask d op)) l l
    unfolding happens
    other_asks d op l other =
        let r : Request = request_of s d ((w.askers d).number + 1) op in
        let list = sum_by-cons (λ (q : Request). one_if (q.client == c)) r w.asked in
        let none : one_if (d == c) ≡ 0 = ap one_if (ne_eqb d c other) in
        inl (record { asker = rw (ne_eqb c d (λ e. other (sym e))) refl; count = omega (arith, list, none); heard = refl })

    any_asks : (d : ℕ) (op : Bytes) (l : List Reply) → Turns (happens system w (Ask d op)) l (if d == c then [] else l)
    any_asks d op l = elim (cases_eq d c) [
      | inl same ↦ rw (eq-eqb d c same) (subst (λ (e : ℕ). Turns (happens system w (Ask e op)) l []) (sym same) (asks_turn op l))
      | inr other ↦ rw (ne_eqb d c other) (other_asks d op l other)
    ]

    -- ---- each event

    event_turns : (e : WorldEvent) (l : List Reply) → Turns (happens system w e) l (hears system c w (Some e) l)
    unfolding happens
    event_turns (Ask d op) l = any_asks d op l
    event_turns (Give m h) l = stays _ l (given_quiet h (numbered w.pool m))
    event_turns (Take m d) l = comes_to d l (numbered w.pool m)
    event_turns (Raw (name.Host h) bytes) l = stays _ l (host_quiet h bytes)
    event_turns (Raw (name.Client d) bytes) l = comes_to d l (Some bytes)
    event_turns (Patience h) l = stays _ l (signal_quiet h event.Patience)
    event_turns (Nudge h) l = stays _ l (signal_quiet h event.Nudge)
    event_turns (Sign d seq op) l = stays _ l (faulty_quiet (is_faulty_client s d) (made s (spelling (message.Request (request_of s d seq op)))) (refl, refl))
    event_turns (TagReply h d seq pos result) l = stays _ l (faulty_quiet (is_faulty s h) (made s (spelling (reply_of_host s h d seq pos result))) (refl, refl))
    event_turns (TagWish h view) l = stays _ l (faulty_quiet (is_faulty s h) (made s (spelling (wish_of_host s h view))) (refl, refl))
    event_turns (StampPrepare h view pos messages) l = stays _ l (stamp_quiet h (prepare_of s w view pos messages))
    event_turns (StampCommit h m) l = stays _ l (stamp_quiet h (content s w m commit_for))
    event_turns (StampCheckpoint h pos digest) l = stays _ l (faulty_quiet (is_faulty s h) (stamp_content s h (checkpoint_with (host_count s.shape) pos digest)) (refl, refl))
    event_turns (StampChange h view counter) l = stays _ l (faulty_quiet (is_faulty s h) (stamp_content s h (change_after s w h view counter)) (refl, refl))
    event_turns (StampAs h m) l = stays _ l (stamp_quiet h (content s w m as_stamped))
    event_turns (StampRaw h bytes) l = stays _ l (faulty_quiet (is_faulty s h) (stamp_bytes s h bytes) (refl, refl))

    pub after_turns : (o : Option WorldEvent) (l : List Reply) → Turns (after system w o) l (hears system c w o l)
    after_turns None l = stays w l (refl, refl)
    after_turns (Some e) l = event_turns e l
