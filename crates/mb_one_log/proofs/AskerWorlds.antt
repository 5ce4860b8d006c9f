-- In each world each correct client has counted and accepted only what correct hosts made, or what faulty ones did in their own names.
use Rattle.std.proofs.Common.{◌≡◌, ℕ, zero, suc, ◌⊎◌, Bool, true, false, [], refl, sym, ap, subst, inl, inr, arith, eqb, Option, Some, None, Ok, Err}
use Rattle.std.specs.Prelude.{◌==◌, slice_get, Result}
use Rattle.std.specs.Option.{option_or}
use Rattle.std.proofs.lemmas.Bool.{and_parts, cases_Bool, eqb-true}
use Rattle.mb_base.specs.Shapes.{Bytes}
use Rattle.mb_usig.specs.Tags.{same_bytes, reply_tag}
use Rattle.mb_usig.proofs.Laws.{same_bytes-true}
use Rattle.mb_msg.specs.declared.normal.Reply.{Reply}
use Rattle.mb_msg.specs.declared.message.Message.{Message}
use Rattle.mb_msg.specs.declared.message.Message.TheVariants as message
use Rattle.mb_msg.specs.declared.stamped.Stamped.{Stamped as StampedMessage}
use Rattle.mb_msg.specs.declared.event.Event.{Event}
use Rattle.mb_msg.specs.declared.event.Event.TheVariants as event
use Rattle.mb_msg.specs.Fits.{FitsReply}
use Rattle.mb_msg.specs.Reading.{message_of}
use Rattle.mb_msg.specs.Spelling.{spelling}
use Rattle.mb_msg.specs.Stamps.{as_stamped}
use Rattle.mb_model.specs.Clients.{asks, is_right, takes}
use Rattle.mb_model.proofs.Options.{or_none}
use Rattle.mb_model.proofs.ShapesFit.{shape_fits}
use Rattle.mb_model.specs.Members.{In}
use Rattle.mb_model.proofs.Members.{any_in}
use Rattle.mb_schedule.specs.declared.schedule.Name.TheVariants as name
use Rattle.mb_schedule.specs.declared.schedule.WorldEvent.{WorldEvent}
use Rattle.mb_schedule.specs.declared.schedule.WorldEvent.TheVariants.{Ask, Give, Take, Raw, Patience, Nudge, Sign, TagReply, TagWish, StampPrepare, StampCommit, StampCheckpoint, StampChange, StampAs, StampRaw}
use Rattle.mb_schedule.specs.declared.schedule.Schedule.{Schedule}
use Rattle.mb_schedule.specs.Limits.{is_faulty, is_faulty_client, IsSchedule}
use Rattle.mb_world_model.specs.World.{update, numbered, World, System, read, give_host, give_client, client_reads, heard, signal, made, request_of}
use Rattle.mb_model.specs.Inside.{if_read}
use Rattle.mb_world_model.specs.FaultyHosts.{stamp_some, stamp_content, stamp_bytes, content, prepare_of, commit_for, checkpoint_with, change_after, reply_of_host, wish_of_host}
use Rattle.mb_world_model.specs.Forged.{was_tagged, has_forged_tag}
use Rattle.mb_world_model.specs.Stops.{ForgedTag, WorldStop, stop_of, name_stop, missing_stop, kind_stop, forged_stop, tag_stop, event_number, delivered_message, IsUnstopped}
use Rattle.mb_world_model.specs.WorldSteps.{where_faulty, with_message, stamps_some, happens, after, world}
use Rattle.mb_host_laws.proofs.Cases.{untrue, third_holds}
use Rattle.mb_reading_laws.proofs.ReadFits.{read_fits}
use Rattle.mb_world_laws.proofs.Standings.{before_last, passage}
use Rattle.mb_one_log.proofs.Askers.{AskerStands, stands_more, stands_first, stands_asks, stands_takes}

module _ {S : Type 0} (system : System S) where
  abbrev s : Schedule
  s = system.schedule

  -- no stop: in what it delivers no tag is forged
  none_forged : (w : World) (e : WorldEvent) → stop_of s w e ≡ None → (m : Message) → delivered_message s w e ≡ Some m → has_forged_tag s w m ≡ false
  unfolding stop_of
  none_forged w e none m there = untrue (has_forged_tag s w) (ForgedTag (event_number s w)) (delivered_message s w e) m there (last (name_stop s w e) (missing_stop s w e) (kind_stop s w e) (forged_stop s w e) (tag_stop s w e) none) where
    last : (a b c d e : Option WorldStop) → option_or a (option_or b (option_or c (option_or d e))) ≡ None → e ≡ None
    last a b c d e h = (or_none d e (or_none c (option_or d e) (or_none b (option_or c (option_or d e)) (or_none a (option_or b (option_or c (option_or d e))) h).1).1).1).1

  module _ (w : World) (c : ℕ) where
    -- The client was given a reply, whose tag is not forged.
    pub record IsTaking (v : World) : Type 0 where
      pub reply : Reply
      pub bytes : Bytes
      pub reads : message_of s.shape bytes ≡ Ok (message.Reply reply)
      pub unforged : has_forged_tag s w (message.Reply reply) ≡ false
      pub left : v.askers c ≡ takes s.shape s.secret c (w.askers c) reply

    abbrev pub AskerMoves : World → Type 0
    AskerMoves v = (v.askers c ≡ w.askers c) ⊎ ((v.askers c ≡ asks (w.askers c)) ⊎ IsTaking v)

    host_same : (h : ℕ) (bytes : Bytes) → (give_host system h bytes w).askers c ≡ w.askers c
    unfolding give_host
    host_same h bytes = elim (cases_Bool (is_faulty s h)) [ inl faulty ↦ rw faulty refl | inr correct ↦ rw correct refl ]

    signal_same : (h : ℕ) (e : Event) → (signal system h e w).askers c ≡ w.askers c
    unfolding signal
    signal_same h e = elim (cases_Bool (is_faulty s h)) [ inl faulty ↦ rw faulty refl | inr correct ↦ rw correct refl ]

    given_same : (h : ℕ) (o : Option Bytes) → (with_message (give_host system h) o w).askers c ≡ w.askers c
    given_same h None = refl
    given_same h (Some bytes) = host_same h bytes

    -- what is delivered to a client that is correct is not forged
    abbrev Unforged : ℕ → Bytes → Type 0
    Unforged k bytes = is_faulty_client s k ≡ false → (m : Message) → read s bytes ≡ Some m → has_forged_tag s w m ≡ false

    reads_move : (k : ℕ) (bytes : Bytes) (r : Result Message ℕ) → message_of s.shape bytes ≡ r → ((m : Message) → read s bytes ≡ Some m → has_forged_tag s w m ≡ false) → AskerMoves (client_reads s k r (heard s bytes w))
    reads_move k bytes (Err at) is none = inl refl
    reads_move k bytes (Ok (message.Reply r)) is none = elim (cases_Bool (eqb c k)) [
      | inr other ↦ rw other (inl refl)
      | inl same ↦ rw same (inr (inr (record {
        reply = r;
        bytes = bytes;
        reads = is;
        unforged = none (message.Reply r) (ap if_read is);
        left = rw same (ap (λ (i : ℕ). takes s.shape s.secret i (w.askers i) r) (sym (eqb-true c k same)));
      })))
    ]
    reads_move k bytes (Ok m) is none = inl refl

    client_moves : (k : ℕ) (bytes : Bytes) → Unforged k bytes → AskerMoves (give_client s k bytes w)
    unfolding give_client
    client_moves k bytes none = elim (cases_Bool (is_faulty_client s k)) [
      | inl faulty ↦ rw faulty (inl refl)
      | inr correct ↦ rw correct (reads_move k bytes (message_of s.shape bytes) refl (none correct))
    ]

    taken_moves : (k n : ℕ) → stop_of s w (Take n k) ≡ None → AskerMoves (with_message (give_client s k) (numbered w.pool n) w)
    taken_moves k n none = go (numbered w.pool n) refl where
      go : (o : Option Bytes) → numbered w.pool n ≡ o → AskerMoves (with_message (give_client s k) o w)
      go None is = inl refl
      go (Some bytes) is = client_moves k bytes (λ correct m r. none_forged w (Take n k) none m (rw (correct, is) r))

    faulty_same : (t : Bool) (f : World → World) → (f w).askers c ≡ w.askers c → (where_faulty t f w).askers c ≡ w.askers c
    faulty_same true f e = e
    faulty_same false f e = refl

    stamp_same : (h : ℕ) (m : Option StampedMessage) → (stamps_some system h m w).askers c ≡ w.askers c
    stamp_same h m = faulty_same (is_faulty s h) (stamp_some (stamp_content s h) m) (go m) where
      go : (o : Option StampedMessage) → (stamp_some (stamp_content s h) o w).askers c ≡ w.askers c
      go None = refl
      go (Some x) = refl

    asks_move : (k : ℕ) → AskerMoves (record w { askers = update w.askers k (asks (w.askers k)) })
    asks_move k = elim (cases_Bool (eqb c k)) [
      | inr other ↦ rw other (inl refl)
      | inl same ↦ rw same (inr (inl (ap (λ (i : ℕ). asks (w.askers i)) (sym (eqb-true c k same)))))
    ]

    event_moves : (e : WorldEvent) → stop_of s w e ≡ None → AskerMoves (happens system w e)
    unfolding happens
    event_moves (Ask k op) none = asks_same (asks_move k) where
      asks_same : AskerMoves (record w { askers = update w.askers k (asks (w.askers k)) }) → AskerMoves (happens system w (Ask k op))
      asks_same (inl e) = inl e
      asks_same (inr (inl e)) = inr (inl e)
      asks_same (inr (inr x)) = inr (inr (record { reply = x.reply; bytes = x.bytes; reads = x.reads; unforged = x.unforged; left = x.left }))
    event_moves (Give m h) none = inl (given_same h (numbered w.pool m))
    event_moves (Take m k) none = taken_moves k m none
    event_moves (Raw (name.Host h) bytes) none = inl (host_same h bytes)
    event_moves (Raw (name.Client k) bytes) none = client_moves k bytes (λ correct m r. none_forged w (Raw (name.Client k) bytes) none m (rw correct r))
    event_moves (Patience h) none = inl (signal_same h event.Patience)
    event_moves (Nudge h) none = inl (signal_same h event.Nudge)
    event_moves (Sign k seq op) none = inl (faulty_same (is_faulty_client s k) (made s (spelling (message.Request (request_of s k seq op)))) refl)
    event_moves (TagReply h k seq pos result) none = inl (faulty_same (is_faulty s h) (made s (spelling (reply_of_host s h k seq pos result))) refl)
    event_moves (TagWish h view) none = inl (faulty_same (is_faulty s h) (made s (spelling (wish_of_host s h view))) refl)
    event_moves (StampPrepare h view pos messages) none = inl (stamp_same h (prepare_of s w view pos messages))
    event_moves (StampCommit h m) none = inl (stamp_same h (content s w m commit_for))
    event_moves (StampCheckpoint h pos digest) none = inl (faulty_same (is_faulty s h) (stamp_content s h (checkpoint_with (Rattle.mb_base.specs.Shapes.host_count s.shape) pos digest)) refl)
    event_moves (StampChange h view counter) none = inl (faulty_same (is_faulty s h) (stamp_content s h (change_after s w h view counter)) refl)
    event_moves (StampAs h m) none = inl (stamp_same h (content s w m as_stamped))
    event_moves (StampRaw h bytes) none = inl (faulty_same (is_faulty s h) (stamp_bytes s h bytes) refl)

    pub after_moves : (o : Option WorldEvent) → ((e : WorldEvent) → o ≡ Some e → stop_of s w e ≡ None) → AskerMoves (after system w o)
    after_moves None none = inl refl
    after_moves (Some e) none = event_moves e (none e refl)

    -- ---- a reply that is not forged was made

    was_made : (r : Reply) → has_forged_tag s w (message.Reply r) ≡ false → is_right s.shape s.secret c r ≡ true → is_faulty s r.host ≡ false → (m : Message) × In w.tagged m × (spelling m ≡ spelling (message.Reply r))
    unfolding has_forged_tag
    was_made r unforged right correct =
        let p = and_parts (r.client == c) (same_bytes r.tag (reply_tag s.secret r.host r.client r.seq r.pos r.result)) right in
        let found = any_in (λ (x : Message). same_bytes (spelling x) (spelling (message.Reply r))) w.tagged (third_holds _ (is_faulty s r.host) (was_tagged s w (message.Reply r)) unforged p.1 correct) in
        (found.0, found.1, same_bytes-true (spelling found.0) (spelling (message.Reply r)) found.2)

    stands_on : (v : World) → IsSchedule s → ((m : Message) → In w.tagged m → In v.tagged m) → AskerStands s c w.tagged (w.askers c) → AskerMoves v → AskerStands s c v.tagged (v.askers c)
    stands_on v fits more x (inl e) = subst (AskerStands s c v.tagged) (sym e) (stands_more s c w.tagged v.tagged more (w.askers c) x)
    stands_on v fits more x (inr (inl e)) = subst (AskerStands s c v.tagged) (sym e) (stands_asks s c v.tagged (w.askers c) (stands_more s c w.tagged v.tagged more (w.askers c) x))
    stands_on v fits more x (inr (inr t)) =
        let reply : FitsReply s.shape t.reply = read_fits s.shape (shape_fits s.shape) t.bytes (message.Reply t.reply) t.reads in
        subst (AskerStands s c v.tagged) (sym t.left) (stands_more s c w.tagged v.tagged more (takes s.shape s.secret c (w.askers c) t.reply)
        (stands_takes s c fits.few w.tagged (w.askers c) t.reply x reply (λ right correct. was_made t.reply t.unforged right correct)))

  pub asker_stands : IsSchedule s → (k c : ℕ) → IsUnstopped system k → AskerStands s c (world system k).tagged ((world system k).askers c)
  unfolding world
  asker_stands fits zero c none = stands_first s c []
  asker_stands fits (suc k) c none =
      let w : World = world system k in
      stands_on w c (world system (suc k)) fits (passage system k none).grows.tagged (asker_stands fits k c (before_last system k none))
      (after_moves w c (slice_get s.events k) (λ e at. none k e (omega arith) at))
