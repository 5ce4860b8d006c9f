-- No drawn event is stopped: what is drawn names messages that are there, what comes to anyone was made of messages of the system itself, and the one
-- PREPARE that is stamped is of the first REQUEST.
use Rattle.std.proofs.Common.{◌≡◌, ℕ, zero, suc, ◌+◌, ◌%◌, ◌<◌, ◌≤◌, ◌⊎◌, Bool, true, false, List, [], ◌∷◌, ◌++◌, length, refl, sym, ap, subst, ◌∙◌, inl, inr, arith, Option, Some, None}
use Rattle.std.specs.Prelude.{slice_get, option_map, option_and_then}
use Rattle.std.specs.Bool.{then_some}
use Rattle.std.specs.Option.{option_or}
use Rattle.std.proofs.lemmas.Bool.{cases_lt, le-leb}
use Rattle.std.proofs.lemmas.Option.{slice_get_within}
use Rattle.std.proofs.lemmas.List.{append-nil}
use Rattle.std.specs.Int.{w8, w16}
use Rattle.mb_base.specs.Limits.{batch_bytes_limit}
use Rattle.mb_base.specs.Spelling.{number}
use Rattle.mb_base.specs.Shapes.{Bytes, IsShape, host_count, client_count, max_faults, tally}
use Rattle.mb_usig.proofs.Laws.{length-signed_request}
use Rattle.mb_parts.specs.declared.request.Request.{Request}
use Rattle.mb_parts.specs.Fits.{FitsRequest}
use Rattle.mb_parts.specs.Spelling.{request_bytes}
use Rattle.mb_msg.specs.declared.message.Message.{Message}
use Rattle.mb_msg.specs.declared.message.Message.TheVariants as message
use Rattle.mb_msg.specs.declared.normal.Reply.{Reply}
use Rattle.mb_msg.specs.Fits.{FitsReply}
use Rattle.mb_msg.specs.Reading.{message_of}
use Rattle.mb_msg.specs.Spelling.{spelling}
use Rattle.mb_msg.proofs.Messages.{message_again}
use Rattle.mb_msg.proofs.Sizes.{request_short, small_request}
use Rattle.mb_model.specs.Batches.{has_place}
use Rattle.mb_model.proofs.ShapesFit.{shape_fits}
use Rattle.mb_model.specs.Members.{In}
use Rattle.mb_model.proofs.Members.{contained}
use Rattle.mb_schedule.specs.declared.schedule.Schedule.{Schedule}
use Rattle.mb_schedule.specs.declared.schedule.WorldEvent.{WorldEvent}
use Rattle.mb_schedule.specs.declared.schedule.WorldEvent.TheVariants.{Give, Take, Patience, Nudge, StampPrepare}
use Rattle.mb_schedule.specs.Limits.{max_text}
use Rattle.mb_schedule.specs.Limits.{is_faulty, is_faulty_client, EventFits, IsSchedule}
use Rattle.mb_world_model.specs.World.{World, System, numbered, read, message_at, nothing_happened, request_of}
use Rattle.mb_model.specs.Inside.{if_read}
use Rattle.mb_world_model.specs.WorldSteps.{happens, after, world}
use Rattle.mb_world_model.specs.FaultyHosts.{misfit}
use Rattle.mb_world_model.specs.Forged.{forged_claim, has_forged_tag, IsUnforged}
use Rattle.mb_world_model.specs.Stops.{Forged, ForgedTag, stop_of, event_number, to_correct, IsUnstopped}
use Rattle.mb_host_laws.proofs.Cases.{some_is, then_some_of}
use Rattle.mb_reading_laws.proofs.ReadFits.{read_fits}
use Rattle.mb_make.specs.Draws.{Generator, stepped, detail, put, ask, draw}
use Rattle.mb_make.specs.Soaks.{to_host_or_client, played, generator_after, event_drawn, soak, IsSoaked}
use Rattle.mb_unforged.specs.NoneForged.{IsInner, AreInner}
use Rattle.mb_unforged.specs.Soaked.{IsSoak, SoaksAreUnstopped}
use Rattle.mb_unforged.proofs.Ready.{read_is}
use Rattle.mb_unforged.proofs.FaultyStamps.{numbered_in}
use Rattle.mb_unforged.proofs.Events.{Adds, event_adds}
use Rattle.mb_unforged.proofs.NoneForged.{shape_is, none_is_forged, clear}
use Rattle.mb_unforged.proofs.SameWorlds.{drawn_count, drawn_at}
use Rattle.mb_unforged.proofs.DrawnEvents.{put_short, HasCursors, seeded_cursors, IsDrawn, draw_well, first_asks}

-- ---- a message goes to its host, or to its client where it is a REPLY

record ToClient (m h : ℕ) (o : Option Message) : Type 0 where
  reply : Reply
  is : o ≡ Some (message.Reply reply)
  takes : to_host_or_client m h o ≡ Take m reply.client

goes_to : (m h : ℕ) (o : Option Message) → ToClient m h o ⊎ (to_host_or_client m h o ≡ Give m h)
goes_to m h None = inr refl
goes_to m h (Some (message.Reply r)) = inl (record { reply = r; is = refl; takes = refl })
goes_to m h (Some (message.Request x)) = inr refl
goes_to m h (Some (message.Prepare x)) = inr refl
goes_to m h (Some (message.Commit x)) = inr refl
goes_to m h (Some (message.Checkpoint x)) = inr refl
goes_to m h (Some (message.ReqViewChange x)) = inr refl
goes_to m h (Some (message.ViewChange x)) = inr refl
goes_to m h (Some (message.NewView x)) = inr refl
goes_to m h (Some (message.Enter x)) = inr refl
goes_to m h (Some (message.Open x)) = inr refl
goes_to m h (Some (message.Join x)) = inr refl
goes_to m h (Some (message.Resend x)) = inr refl
goes_to m h (Some (message.Log x)) = inr refl
goes_to m h (Some (message.Fetch x)) = inr refl
goes_to m h (Some (message.State x)) = inr refl
goes_to m h (Some (message.Stop x)) = inr refl

module _ (s : Schedule) (soaked : IsSoaked s) where
  shape : IsShape s.shape
  shape = shape_fits s.shape

  three : host_count s.shape ≡ 3
  three = let f = soaked.faults in omega (arith, f)

  -- ---- events of the schedule

  ask_fits : (g : Generator) → EventFits s.shape (ask g)
  ask_fits g = let c = soaked.clients in (omega (arith, c), put_short _ _)

  -- Whoever takes a REPLY is there.
  client_there : (w : World) (m : ℕ) (r : Reply) → message_at s w m ≡ Some (message.Reply r) → r.client < client_count s.shape
  client_there w m r e =
      let b = then_some_of (read s) (numbered w.pool m) (message.Reply r) e in
      let f : FitsReply s.shape r = read_fits s.shape shape b.0 (message.Reply r) (read_is (message_of s.shape b.0) (message.Reply r) b.2) in
      f.client

  -- what is played is an inner event that fits
  abbrev IsAllowed : WorldEvent → Type 0
  IsAllowed e = IsInner e × EventFits s.shape e

  given_allowed : (w : World) (m h : ℕ) → h < 3 → IsAllowed (played s w (Give m h))
  given_allowed w m h lt = elim (goes_to m h (message_at s w m)) [
    | inl t ↦ subst IsAllowed (sym t.takes) (tt, client_there w m t.reply t.is)
    | inr g ↦ subst IsAllowed (sym g) (tt, omega (arith, lt, three))
  ]

  drawn_allowed : (w : World) (pool : ℕ) (g : Generator) (e : WorldEvent) → IsDrawn pool g e → IsAllowed (played s w e)
  drawn_allowed w pool g e (inl is) = subst (λ (x : WorldEvent). IsAllowed (played s w x)) (sym is) (tt, ask_fits g)
  drawn_allowed w pool g e (inr (inl (h, lt, is))) = subst (λ (x : WorldEvent). IsAllowed (played s w x)) (sym is) (tt, omega (arith, lt, three))
  drawn_allowed w pool g e (inr (inr (inl (h, lt, is)))) = subst (λ (x : WorldEvent). IsAllowed (played s w x)) (sym is) (tt, omega (arith, lt, three))
  drawn_allowed w pool g e (inr (inr (inr (inl (m, h, there, lt, is))))) = subst (λ (x : WorldEvent). IsAllowed (played s w x)) (sym is) (given_allowed w m h lt)
  drawn_allowed w pool g e (inr (inr (inr (inr (p, lt, is))))) = subst (λ (x : WorldEvent). IsAllowed (played s w x)) (sym is) (tt, (omega (arith, three), (omega arith, ((omega arith, omega (arith, lt)), (omega arith, omega arith)))))

  -- ---- stops

  module _ (w : World) where
    -- Nothing in a message that was made is forged.
    abbrev Unforged : Type 0
    Unforged = (b : Bytes) (m : Message) → In w.pool b → read s b ≡ Some m → IsUnforged s w m

    -- what comes to someone
    comes : Bool → Bytes → Option Message
    comes faulty b = option_and_then (read s) (to_correct s w faulty (Some b))

    comes_clean : Unforged → (faulty : Bool) (b : Bytes) → In w.pool b → (x : Message) → comes faulty b ≡ Some x → IsUnforged s w x
    unfolding comes
    comes_clean u true b i x e = absurd cc
    comes_clean u false b i x e = u b x i e

    none_forged : (o : Option Message) → ((x : Message) → o ≡ Some x → IsUnforged s w x)
        → option_or (option_map (λ c. Forged (event_number s w) c.host c.counter) (option_and_then (forged_claim s w) o)) (option_and_then (λ m. then_some (has_forged_tag s w m) (ForgedTag (event_number s w))) o) ≡ None
    none_forged None u = refl
    none_forged (Some x) u = let f = u x refl in rw (f.claims, f.tags) refl

    give_unstopped : (m h : ℕ) (b : Bytes) → numbered w.pool m ≡ Some b → Unforged → stop_of s w (Give m h) ≡ None
    unfolding stop_of comes
    give_unstopped m h b there u = rw there (none_forged (comes (is_faulty s h) b) (comes_clean u (is_faulty s h) b (numbered_in w.pool m b there)))

    take_unstopped : (m c : ℕ) (b : Bytes) → numbered w.pool m ≡ Some b → Unforged → stop_of s w (Take m c) ≡ None
    unfolding stop_of comes
    take_unstopped m c b there u = rw there (none_forged (comes (is_faulty_client s c) b) (comes_clean u (is_faulty_client s c) b (numbered_in w.pool m b there)))

    -- the first message is a REQUEST
    pub record HasFirst : Type 0 where
      pub bytes : Bytes
      pub request : Request
      pub there : numbered w.pool 1 ≡ Some bytes
      pub reads : read s bytes ≡ Some (message.Request request)

    stamp_unstopped : (p : ℕ) → HasFirst → stop_of s w (StampPrepare 2 0 p (1 ∷ [])) ≡ None
    unfolding stop_of misfit
    stamp_unstopped p f =
        let fits : FitsRequest s.shape f.request = read_fits s.shape shape f.bytes (message.Request f.request) (read_is (message_of s.shape f.bytes) (message.Request f.request) f.reads) in
        let place : has_place 0 f.request ≡ true = le-leb (0 + length (request_bytes f.request)) batch_bytes_limit (omega (arith, request_short s.shape f.request fits)) in
        rw (soaked.faulty, f.there, f.reads, place) refl

    pool_some : HasFirst → 1 ≤ length w.pool
    pool_some f = slice_get_within w.pool 0 f.bytes f.there

    message_there : (m : ℕ) → (1 ≤ m) × (m ≤ length w.pool) → (b : Bytes) × (numbered w.pool m ≡ Some b)
    message_there zero lt = let some = lt.0 in absurd (omega (arith, some))
    message_there (suc n) lt = at w.pool n (omega (arith, lt.1)) where
      at : (l : List Bytes) (n : ℕ) → n < length l → (b : Bytes) × (slice_get l n ≡ Some b)
      at [] n lt = absurd (omega (arith, lt))
      at (x ∷ l) zero lt = (x, refl)
      at (x ∷ l) (suc n) lt = at l n (omega (arith, lt))

    given_unstopped : (m h : ℕ) → (1 ≤ m) × (m ≤ length w.pool) → Unforged → stop_of s w (played s w (Give m h)) ≡ None
    given_unstopped m h lt u =
        let b = message_there m lt in
        elim (goes_to m h (message_at s w m)) [
          | inl t ↦ subst (λ (e : WorldEvent). stop_of s w e ≡ None) (sym t.takes) (take_unstopped m t.reply.client b.0 b.1 u)
          | inr g ↦ subst (λ (e : WorldEvent). stop_of s w e ≡ None) (sym g) (give_unstopped m h b.0 b.1 u)
        ]

    ask_unstopped : (g : Generator) → stop_of s w (ask g) ≡ None
    unfolding stop_of
    ask_unstopped g = refl

    signal_unstopped : (h : ℕ) → (stop_of s w (Patience h) ≡ None) × (stop_of s w (Nudge h) ≡ None)
    unfolding stop_of
    signal_unstopped h = (refl, refl)

    -- An event that is drawn where a REQUEST was made first is not stopped.
    drawn_unstopped : (g : Generator) (e : WorldEvent) → IsDrawn (length w.pool) g e → HasFirst → Unforged → stop_of s w (played s w e) ≡ None
    drawn_unstopped g e (inl is) f u = subst (λ (x : WorldEvent). stop_of s w (played s w x) ≡ None) (sym is) (ask_unstopped g)
    drawn_unstopped g e (inr (inl (h, lt, is))) f u = subst (λ (x : WorldEvent). stop_of s w (played s w x) ≡ None) (sym is) (signal_unstopped h).0
    drawn_unstopped g e (inr (inr (inl (h, lt, is)))) f u = subst (λ (x : WorldEvent). stop_of s w (played s w x) ≡ None) (sym is) (signal_unstopped h).1
    drawn_unstopped g e (inr (inr (inr (inl (m, h, there, lt, is))))) f u = subst (λ (x : WorldEvent). stop_of s w (played s w x) ≡ None) (sym is) (given_unstopped m h (there (pool_some f)) u)
    drawn_unstopped g e (inr (inr (inr (inr (p, lt, is))))) f u = subst (λ (x : WorldEvent). stop_of s w (played s w x) ≡ None) (sym is) (stamp_unstopped (1 + p) f)

-- ---- a REQUEST is made first, and stays there

at_front : {A : Type 0} (l m : List A) (j : ℕ) (x : A) → slice_get l j ≡ Some x → slice_get (l ++ m) j ≡ Some x
at_front [] m j x e = absurd cc
at_front (y ∷ l) m zero x e = e
at_front (y ∷ l) m (suc j) x e = at_front l m j x e

module _ {S : Type 0} (system : System S) (soaked : IsSoaked system.schedule) where
  abbrev First : World → Type 0
  First w = HasFirst system.schedule soaked w

  pool_more : (w v : World) → Adds system w v → (more : List Bytes) × (v.pool ≡ w.pool ++ more)
  pool_more w v (inl a) = ([], a.pool ∙ sym (append-nil w.pool))
  pool_more w v (inr (inl a)) = (_, a.pool)
  pool_more w v (inr (inr a)) = (_, a.pool)

  first_stays : (w v : World) → Adds system w v → First w → First v
  first_stays w v a f =
      let m = pool_more w v a in
      record { bytes = f.bytes; request = f.request; there = ap (λ (l : List Bytes). slice_get l 0) m.1 ∙ at_front w.pool m.0 0 f.bytes f.there; reads = f.reads }

  first_made : (g : Generator) → First (happens system nothing_happened (ask g))
  unfolding happens
  first_made g =
      let c = soaked.clients in
      let op : Bytes = put (number w8 (detail g % 256)) (number w16 (g.draws % 65536)) in
      let r : Request = request_of system.schedule (detail g % 4) 1 op in
      let fits : FitsRequest system.schedule.shape r = record { client = omega (arith, c); seq = (omega arith, omega arith); op = put_short _ _; tag = length-signed_request system.schedule.secret _ _ } in
      let shape : IsShape system.schedule.shape = shape_fits system.schedule.shape in
      record {
        bytes = spelling (message.Request r);
        request = r;
        there = refl;
        reads = ap if_read (message_again system.schedule.shape shape (message.Request r) (small_request system.schedule.shape r fits));
      }

-- ---- a soak

module _ {S : Type 0} (system : System S) (soaked : IsSoaked system.schedule) (seed n : ℕ) (few : n ≤ max_text) where
  abbrev y : System S
  y = soak system seed n

  abbrev s : Schedule
  s = y.schedule

  soaked_y : IsSoaked s
  soaked_y = record { faults = soaked.faults; every = soaked.every; clients = soaked.clients; secret = soaked.secret; faulty = soaked.faulty; correct = soaked.correct }

  abbrev generator : ℕ → Generator
  generator k = generator_after y seed k

  abbrev pool_at : ℕ → ℕ
  pool_at k = length (world y k).pool

  abbrev event : ℕ → WorldEvent
  event k = event_drawn y seed k

  cursors_at : (k : ℕ) → HasCursors (generator k)
  unfolding generator_after
  cursors_at zero = seeded_cursors seed
  cursors_at (suc k) = (draw_well (pool_at k) (generator k) (cursors_at k)).cursors

  draws_at : (k : ℕ) → (generator k).draws ≡ k
  unfolding generator_after
  draws_at zero = refl
  draws_at (suc k) = let d = (draw_well (pool_at k) (generator k) (cursors_at k)).draws in omega (arith, d, draws_at k)

  is_drawn : (k : ℕ) → IsDrawn (pool_at k) (stepped (generator k)) (draw (pool_at k) (generator k)).event
  is_drawn k = (draw_well (pool_at k) (generator k) (cursors_at k)).event

  allowed_at : (k : ℕ) → IsAllowed s soaked_y (event k)
  allowed_at k = drawn_allowed s soaked_y (world y k) (pool_at k) (stepped (generator k)) (draw (pool_at k) (generator k)).event (is_drawn k)

  here : (k : ℕ) → k < n → slice_get s.events k ≡ Some (event k)
  here k lt = drawn_at system seed n k lt

  within : (k : ℕ) (e : WorldEvent) → slice_get s.events k ≡ Some e → k < n
  within k e at = let lt = slice_get_within s.events k e at in omega (arith, lt, drawn_count system seed n)

  event_is : (k : ℕ) (e : WorldEvent) → slice_get s.events k ≡ Some e → event k ≡ e
  event_is k e at = some_is (event k) e (sym (here k (within k e at)) ∙ at)

  three_hosts : host_count s.shape ≡ 3
  three_hosts = three s soaked_y

  schedule_is : IsSchedule s
  schedule_is = record {
    hosts = ap length soaked.faulty ∙ sym three_hosts;
    clients = ap length soaked.correct ∙ sym soaked.clients;
    few = subst (λ (m : ℕ). tally (is_faulty s) m ≤ max_faults s.shape) (sym three_hosts) (let one = soaked.faults in rw soaked.faulty (omega (arith, one)));
    events = λ k e at. subst (EventFits s.shape) (event_is k e at) (allowed_at k).1;
    count = omega (arith, drawn_count system seed n, few);
  }

  inner : (k : ℕ) → AreInner s k
  inner k j e lt at = subst IsInner (event_is j e at) (allowed_at j).0

  -- ---- one event after the other

  record Stands (k : ℕ) : Type 0 where
    unstopped : IsUnstopped y k
    first : 1 ≤ k → HasFirst s soaked_y (world y k)

  unforged : (k : ℕ) → IsUnstopped y k → Unforged s soaked_y (world y k)
  unforged k none b m i e = none_is_forged S y schedule_is k none (inner k) b m (contained (world y k).pool b i) e

  first_is_ask : event 0 ≡ ask (stepped (generator 0))
  first_is_ask = ap (λ (e : WorldEvent). played s (world y 0) e) (first_asks (pool_at 0) (generator 0) (draws_at 0))

  stop_at : (k : ℕ) → Stands k → stop_of s (world y k) (event k) ≡ None
  stop_at zero a = subst (λ (e : WorldEvent). stop_of s (world y 0) e ≡ None) (sym first_is_ask) (ask_unstopped s soaked_y (world y 0) (stepped (generator 0)))
  stop_at (suc k) a = drawn_unstopped s soaked_y (world y (suc k)) (stepped (generator (suc k))) (draw (pool_at (suc k)) (generator (suc k))).event (is_drawn (suc k)) (a.first (omega arith)) (unforged (suc k) a.unstopped)

  unstopped_on : (k : ℕ) → Stands k → IsUnstopped y (suc k)
  unstopped_on k a j e lt at = elim (cases_lt j k) [
    | inl before ↦ a.unstopped j e before at
    | inr last ↦
        let same : j ≡ k = omega (arith, lt, last) in
        let is : event k ≡ e = event_is k e (subst (λ (i : ℕ). slice_get s.events i ≡ Some e) same at) in
        subst (λ (i : ℕ). stop_of s (world y i) e ≡ None) (sym same) (subst (λ (x : WorldEvent). stop_of s (world y k) x ≡ None) is (stop_at k a))
  ]

  next_world : (k : ℕ) → k < n → world y (suc k) ≡ happens y (world y k) (event k)
  unfolding world
  next_world k lt = ap (after y (world y k)) (here k lt)

  first_on : (k : ℕ) → k < n → Stands k → HasFirst s soaked_y (world y (suc k))
  unfolding world
  first_on zero lt a = subst (HasFirst s soaked_y) (sym (next_world zero lt)) (subst (λ (e : WorldEvent). HasFirst s soaked_y (happens y nothing_happened e)) (sym first_is_ask) (first_made y soaked_y (stepped (generator 0))))
  first_on (suc k) lt a =
      let w : World = world y (suc k) in
      let c = clear y schedule_is (suc k) a.unstopped (inner (suc k)) in
      let adds : Adds y w (happens y w (event (suc k))) = event_adds y w (shape_is y) (λ h. let x = c.stamps h in omega (arith, x, lt, few)) c.pool (event (suc k)) (allowed_at (suc k)).0 (allowed_at (suc k)).1 in
      subst (HasFirst s soaked_y) (sym (next_world (suc k) lt)) (first_stays y soaked_y w (happens y w (event (suc k))) adds (a.first (omega arith)))

  stands : (k : ℕ) → k ≤ n → Stands k
  stands zero le = record { unstopped = λ j e lt at. absurd (omega (arith, lt)); first = λ some. absurd (omega (arith, some)) }
  stands (suc k) le = let a : Stands k = stands k (omega (arith, le)) in record { unstopped = unstopped_on k a; first = λ some. first_on k (omega (arith, le)) a }

  pub soak_is : IsSoak system seed n
  soak_is = record { count = drawn_count system seed n; drawn = here; schedule = schedule_is; unstopped = (stands n (omega arith)).unstopped; some = λ k some le. pool_some s soaked_y (world y k) ((stands k le).first some) }

pub soaks_are_unstopped : (S : Type 0) → SoaksAreUnstopped S
soaks_are_unstopped S system soaked seed n few = soak_is system soaked seed n few
