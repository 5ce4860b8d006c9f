-- What a faulty host stamps has nothing forged in it, where its content has not: a PREPARE of requests that are there, a CHECKPOINT, and the content of any
-- message that was made.
use Rattle.std.proofs.Common.{◌≡◌, ℕ, zero, suc, ◌+◌, ◌^◌, ◌<◌, ◌≤◌, true, List, [], ◌∷◌, length, refl, sym, ap, subst, ◌∙◌, inl, inr, arith, length-append, Option, Some, None}
use Rattle.std.specs.Prelude.{map, filter_map, replicate, slice_get, option_and_then}
use Rattle.std.specs.Option.{IfSome}
use Rattle.std.specs.List.{AllByRecursion, flat_map}
use Rattle.std.proofs.lemmas.Bool.{cases_Bool, leb-true, eq-eqb}
use Rattle.std.proofs.lemmas.List.{length-map, length-replicate}
use Rattle.std.proofs.lemmas.List.Concat.{flat_map-cons}
use Rattle.mb_base.specs.Limits.{batch_bytes_limit, batch_limit}
use Rattle.mb_base.specs.Shapes.{Bytes, IsShape, host_count}
use Rattle.mb_base.specs.declared.names.Ui.{Ui}
use Rattle.mb_usig.proofs.Laws.{length-certificate}
use Rattle.mb_parts.specs.declared.request.Request.{Request}
use Rattle.mb_parts.specs.Bares.{bare_bytes}
use Rattle.mb_parts.specs.BareReading.{bare_of_bytes}
use Rattle.mb_parts.specs.Counters.{at_counter}
use Rattle.mb_parts.specs.declared.floor.Floor.{Floor}
use Rattle.mb_parts.specs.Fits.{IsPlace, IsPosition, IsDigest, FitsRequest, FitsBatch, FitsBare, FitsFloor, FitsUi}
use Rattle.mb_parts.specs.Spelling.{request_bytes}
use Rattle.mb_parts.proofs.BareLaws.{bare_again}
use Rattle.mb_parts.proofs.Counters.{at_here}
use Rattle.mb_parts.proofs.IssuedLaws.{issued_again}
use Rattle.mb_msg.specs.declared.message.Message.{Message}
use Rattle.mb_msg.specs.declared.message.Message.TheVariants as message
use Rattle.mb_msg.specs.declared.stamped.Stamped.{Stamped as StampedMessage}
use Rattle.mb_msg.specs.declared.stamped.Stamped.TheVariants as stamped
use Rattle.mb_msg.specs.Fits.{FitsFields, FitsStamped}
use Rattle.mb_msg.specs.Reading.{message_of}
use Rattle.mb_msg.specs.Spelling.{spelling}
use Rattle.mb_msg.specs.Stamps.{as_stamped, as_message, bare_of, ui_of, with_ui}
use Rattle.mb_msg.proofs.Injective.{bare_fits}
use Rattle.mb_msg.proofs.Messages.{as_message_fits}
use Rattle.mb_model.specs.Batches.{has_place}
use Rattle.mb_model.specs.Members.{In}
use Rattle.mb_steps.proofs.StepPlanBases.{all_append}
use Rattle.mb_steps.proofs.StepRounds.{ui_under, bare_under}
use Rattle.mb_schedule.specs.declared.schedule.Schedule.{Schedule}
use Rattle.mb_schedule.specs.Limits.{is_faulty}
use Rattle.mb_model.specs.Inside.{sender_claim, claims_in_stamped, stamped_claims, stamped_requests, requests_in}
use Rattle.mb_world_model.specs.World.{World, FaultyStamp, numbered, read, message_at, stamps}
use Rattle.mb_world_model.specs.WorldRecord.{issued}
use Rattle.mb_world_model.specs.FaultyHosts.{request_in, prepare_with, checkpoint_with, faulty_ui, bare_bytes_of, stamp_content, content, request_at, misfit, batch_from}
use Rattle.mb_host_laws.proofs.Cases.{all_left, all_more, some_is, then_some_of}
use Rattle.mb_world_laws.proofs.Grown.{Grows, issued_grows}
use Rattle.mb_reading_laws.proofs.ReadFits.{read_fits}
use Rattle.mb_unforged.proofs.Forms.{OfStamped, from_message, as_whole}
use Rattle.mb_unforged.proofs.ReadAgain.{read_fields}
use Rattle.mb_unforged.proofs.Ready.{read_is}
use Rattle.mb_unforged.proofs.Genuine.{IsIssued, IsAskedFor, IsGenuine, stamp_made}

pub at_in : {A : Type 0} (l : List A) (i : ℕ) (x : A) → slice_get l i ≡ Some x → In l x
at_in [] i x e = absurd cc
at_in (y ∷ l) zero x e = inl (some_is y x e)
at_in (y ∷ l) (suc i) x e = inr (at_in l i x e)

pub numbered_in : (pool : List Bytes) (n : ℕ) (b : Bytes) → numbered pool n ≡ Some b → In pool b
numbered_in pool zero b e = absurd cc
numbered_in pool (suc n) b e = at_in pool n b e

module _ (s : Schedule) (shape : IsShape s.shape) (w : World) where
  -- Nothing in any message that was made is forged.
  abbrev pub PoolIsGenuine : Type 0
  PoolIsGenuine = (b : Bytes) (m : Message) → In w.pool b → read s b ≡ Some m → IsGenuine s w m

  -- ---- the requests of a batch

  abbrev IsGood : Request → Type 0
  IsGood r = FitsRequest s.shape r × IsAskedFor s w r

  is_request : (m : Message) (r : Request) → request_in m ≡ Some r → m ≡ message.Request r
  is_request (message.Request q) r e = cc
  is_request m r e = absurd cc

  request_good : PoolIsGenuine → (n : ℕ) (r : Request) → request_at s w n ≡ Some r → IsGood r
  unfolding requests_in
  request_good pool n r e =
      let a = then_some_of request_in (message_at s w n) r e in
      let b = then_some_of (read s) (numbered w.pool n) a.0 a.1 in
      let is : a.0 ≡ message.Request r = is_request a.0 r a.2 in
      let reads : read s b.0 ≡ Some (message.Request r) = b.2 ∙ ap (λ (m : Message). Some m) is in
      let g = pool b.0 (message.Request r) (numbered_in w.pool n b.0 b.1) reads in
      (read_fits s.shape shape b.0 (message.Request r) (read_is (message_of s.shape b.0) (message.Request r) reads), g.parts.requests.0)

  -- how the requests of messages fit behind some bytes
  record AreGood (used : ℕ) (ns : List ℕ) (rs : List Request) : Type 0 where
    many : length rs ≡ length ns
    each : AllByRecursion IsGood rs
    short : used + length (flat_map request_bytes rs) ≤ batch_bytes_limit

  one_good : (used n : ℕ) (ns : List ℕ) (r : Request) (rs : List Request) → IsGood r → AreGood (used + length (request_bytes r)) ns rs → AreGood used (n ∷ ns) (r ∷ rs)
  one_good used n ns r rs g a = record {
    many = ap suc a.many;
    each = (g, a.each);
    short = omega (arith, a.short, ap length (flat_map-cons request_bytes r rs), length-append (request_bytes r) (flat_map request_bytes rs));
  }

  all_good : PoolIsGenuine → (used : ℕ) (ns : List ℕ) → used ≤ batch_bytes_limit → misfit s w used ns ≡ None → AreGood used ns (filter_map (request_at s w) ns)
  unfolding misfit
  all_good pool used [] le e = record { many = refl; each = tt; short = omega (arith, le) }
  all_good pool used (n ∷ ns) le e = go (λ more lower rest. all_good pool more ns lower rest) (request_at s w n) refl where
    none_some : Some n ≡ None → ⊥
    none_some x = absurd cc

    go : ((more : ℕ) → more ≤ batch_bytes_limit → misfit s w more ns ≡ None → AreGood more ns (filter_map (request_at s w) ns)) → (o : Option Request) → request_at s w n ≡ o → AreGood used (n ∷ ns) (filter_map (request_at s w) (n ∷ ns))
    go more None is = absurd (none_some (rw is at e))
    go more (Some r) is = elim (cases_Bool (has_place used r)) [
      | inl place ↦ rw is (one_good used n ns r (filter_map (request_at s w) ns) (request_good pool n r is)
          (more (used + length (request_bytes r)) (leb-true (used + length (request_bytes r)) batch_bytes_limit place) (rw (is, place) at e)))
      | inr none ↦ absurd (none_some (rw (is, none) at e))
    ]

  each_fits : (rs : List Request) → AllByRecursion IsGood rs → AllByRecursion (FitsRequest s.shape) rs
  each_fits [] a = tt
  each_fits (r ∷ rs) a = (a.0.0, each_fits rs a.1)

  each_asked : (rs : List Request) → AllByRecursion IsGood rs → AllByRecursion (IsAskedFor s w) rs
  each_asked [] a = tt
  each_asked (r ∷ rs) a = (a.0.1, each_asked rs a.1)

  batch_fits : PoolIsGenuine → (ns : List ℕ) → (1 ≤ length ns) × (length ns ≤ batch_limit) → misfit s w 0 ns ≡ None → FitsBatch s.shape (batch_from s w ns)
  batch_fits pool ns few e =
      let a = all_good pool 0 ns (omega arith) e in
      record { count = (omega (arith, a.many, few.0), omega (arith, a.many, few.1)); requests = each_fits (filter_map (request_at s w) ns) a.each; size = omega (arith, a.short) }

  batch_asked : PoolIsGenuine → (ns : List ℕ) → misfit s w 0 ns ≡ None → AllByRecursion (IsAskedFor s w) (batch_from s w ns).requests
  batch_asked pool ns e = each_asked (filter_map (request_at s w) ns) (all_good pool 0 ns (omega arith) e).each

  -- ---- a content

  -- It has the values of the grammar under any identifier that has them.
  abbrev pub FitsContent : StampedMessage → Type 0
  FitsContent x = (u : Ui) → FitsUi s.shape u → FitsStamped s.shape (with_ui u x)

  -- Nothing in it is forged.
  pub record IsContent (x : StampedMessage) : Type 0 where
    pub fits : FitsContent x
    pub claims : AllByRecursion (IsIssued s w) (claims_in_stamped s.shape x)
    pub requests : AllByRecursion (IsAskedFor s w) (stamped_requests x)

  claims_under : (u : Ui) (x : StampedMessage) → claims_in_stamped s.shape (with_ui u x) ≡ claims_in_stamped s.shape x
  claims_under u (stamped.Prepare m) = refl
  claims_under u (stamped.Commit m) = refl
  claims_under u (stamped.Checkpoint m) = refl
  claims_under u (stamped.ViewChange m) = refl
  claims_under u (stamped.NewView m) = refl
  claims_under u (stamped.Enter m) = refl
  claims_under u (stamped.Open m) = refl
  claims_under u (stamped.Join m) = refl

  requests_under : (u : Ui) (x : StampedMessage) → stamped_requests (with_ui u x) ≡ stamped_requests x
  requests_under u (stamped.Prepare m) = refl
  requests_under u (stamped.Commit m) = refl
  requests_under u (stamped.Checkpoint m) = refl
  requests_under u (stamped.ViewChange m) = refl
  requests_under u (stamped.NewView m) = refl
  requests_under u (stamped.Enter m) = refl
  requests_under u (stamped.Open m) = refl
  requests_under u (stamped.Join m) = refl

  -- that of a PREPARE
  pub prepare_content : PoolIsGenuine → (view pos : ℕ) (ns : List ℕ) → IsPlace view → IsPosition pos → (1 ≤ length ns) × (length ns ≤ batch_limit) → misfit s w 0 ns ≡ None → IsContent (prepare_with view pos (batch_from s w ns))
  prepare_content pool view pos ns in_view in_window few fit = record {
    fits = λ u f. record { view = in_view; pos = in_window; body = batch_fits pool ns few fit; ui = f };
    claims = tt;
    requests = batch_asked pool ns fit;
  }

  no_floors : (n : ℕ) → AllByRecursion (λ (o : Option Floor). IfSome o FitsFloor) (replicate n None)
  no_floors zero = tt
  no_floors (suc n) = (tt, no_floors n)

  -- that of a CHECKPOINT
  pub checkpoint_content : (pos : ℕ) (digest : Bytes) → IsPosition pos → IsDigest digest → IsContent (checkpoint_with (host_count s.shape) pos digest)
  checkpoint_content pos digest in_window long = record {
    fits = λ u f. record { pos = in_window; state = long; body = (length-replicate (host_count s.shape) None, no_floors (host_count s.shape)); ui = f };
    claims = tt;
    requests = tt;
  }

  stamped_is : (m : Message) (x : StampedMessage) → as_stamped m ≡ Some x → m ≡ as_message x
  stamped_is (message.Prepare m) x e = ap as_message (some_is (stamped.Prepare m) x e)
  stamped_is (message.Commit m) x e = ap as_message (some_is (stamped.Commit m) x e)
  stamped_is (message.Checkpoint m) x e = ap as_message (some_is (stamped.Checkpoint m) x e)
  stamped_is (message.ViewChange m) x e = ap as_message (some_is (stamped.ViewChange m) x e)
  stamped_is (message.NewView m) x e = ap as_message (some_is (stamped.NewView m) x e)
  stamped_is (message.Enter m) x e = ap as_message (some_is (stamped.Enter m) x e)
  stamped_is (message.Open m) x e = ap as_message (some_is (stamped.Open m) x e)
  stamped_is (message.Join m) x e = ap as_message (some_is (stamped.Join m) x e)
  stamped_is (message.Request m) x e = absurd cc
  stamped_is (message.Reply m) x e = absurd cc
  stamped_is (message.ReqViewChange m) x e = absurd cc
  stamped_is (message.Resend m) x e = absurd cc
  stamped_is (message.Log m) x e = absurd cc
  stamped_is (message.Fetch m) x e = absurd cc
  stamped_is (message.State m) x e = absurd cc
  stamped_is (message.Stop m) x e = absurd cc

  fits_under : (x : StampedMessage) → FitsFields s.shape (as_message x) → FitsContent x
  fits_under (stamped.Prepare m) f = λ u g. record { view = f.view; pos = f.pos; body = f.body; ui = g }
  fits_under (stamped.Commit m) f = λ u g. record { view = f.view; pos = f.pos; counter = f.counter; cert = f.cert; body = f.body; ui = g }
  fits_under (stamped.Checkpoint m) f = λ u g. record { pos = f.pos; state = f.state; body = f.body; ui = g }
  fits_under (stamped.ViewChange m) f = λ u g. record { view = f.view; body = f.body; ui = g }
  fits_under (stamped.NewView m) f = λ u g. record { view = f.view; base = f.base; end = f.end; plan = f.plan; body = f.body; ui = g }
  fits_under (stamped.Enter m) f = λ u g. record { view = f.view; counter = f.counter; plan = f.plan; ui = g }
  fits_under (stamped.Open m) f = λ u g. record { evidence = f.evidence; body = f.body; ui = g }
  fits_under (stamped.Join m) f = λ u g. record { view = f.view; evidence = f.evidence; stable = f.stable; above = f.above; ui = g }

  -- that of a message that was made
  pub message_content : PoolIsGenuine → (n : ℕ) (x : StampedMessage) → content s w n as_stamped ≡ Some x → IsContent x
  unfolding stamped_claims
  message_content pool n x e =
      let a = then_some_of as_stamped (message_at s w n) x e in
      let b = then_some_of (read s) (numbered w.pool n) a.0 a.1 in
      let reads : read s b.0 ≡ Some (as_message x) = b.2 ∙ ap (λ (m : Message). Some m) (stamped_is a.0 x a.2) in
      let g : OfStamped s.shape (IsIssued s w) (IsAskedFor s w) x = from_message s.shape (IsIssued s w) (IsAskedFor s w) x (pool b.0 (as_message x) (numbered_in w.pool n b.0 b.1) reads).parts in
      record {
        fits = fits_under x (read_fits s.shape shape b.0 (as_message x) (read_is (message_of s.shape b.0) (as_message x) reads));
        claims = all_left (IsIssued s w) (claims_in_stamped s.shape x) (sender_claim (ui_of x) (bare_of x) ∷ []) g.claims;
        requests = g.requests;
      }

  -- ---- it is stamped

  module _ (h : ℕ) (x : StampedMessage) (faulty : is_faulty s h ≡ true) (there : h < host_count s.shape) (low : length (w.faulty_stamps h) + 1 < 2 ^ 64) (c : IsContent x) where
    abbrev ui : Ui
    ui = faulty_ui s w h (bare_bytes_of s x)

    abbrev made : StampedMessage
    made = with_ui ui x

    abbrev v : World
    v = stamp_content s h x w

    fits : FitsStamped s.shape made
    fits = c.fits ui (record { host = there; counter = (omega arith, low); cert = length-certificate s.secret h _ _ })

    stamps_now : stamps s v h ≡ bare_bytes (bare_of x) ∷ map (λ (y : FaultyStamp). y.bare) (w.faulty_stamps h)
    stamps_now = rw (faulty, eq-eqb h h refl) refl

    own_issued : issued s v (sender_claim ui (bare_of x)) ≡ true
    own_issued =
        let old : List Bytes = map (λ (y : FaultyStamp). y.bare) (w.faulty_stamps h) in
        let says : Bytes = bare_bytes (bare_of x) in
        let many : length old + 1 ≡ length (w.faulty_stamps h) + 1 = ap (λ (n : ℕ). n + 1) (length-map (w.faulty_stamps h) (λ (y : FaultyStamp). y.bare)) in
        let here : at_counter (stamps s v h) (length (w.faulty_stamps h) + 1) ≡ Some says =
        ap (λ (l : List Bytes). at_counter l (length (w.faulty_stamps h) + 1)) stamps_now ∙ ap (at_counter (says ∷ old)) (sym many) ∙ at_here [] says old in
        let bare_fit : FitsBare s.shape (bare_of x) = subst (FitsBare s.shape) (bare_under ui x) (bare_fits s.shape made fits) in
        issued_again s.shape (stamps s v) (sender_claim ui (bare_of x)) (ap (option_and_then (bare_of_bytes s.shape)) here ∙ bare_again s.shape shape (bare_of x) bare_fit)

    parts : Grows s w v → OfStamped s.shape (IsIssued s v) (IsAskedFor s v) made
    unfolding stamped_claims
    parts grows =
        let old : AllByRecursion (IsIssued s v) (claims_in_stamped s.shape x) = all_more (IsIssued s w) (IsIssued s v) (λ y a t. issued_grows s w v grows y (a t)) (claims_in_stamped s.shape x) c.claims in
        let own : IsIssued s v (sender_claim (ui_of made) (bare_of made)) = rw (ui_under ui x, bare_under ui x) (λ t. own_issued) in
        record {
          claims = all_append (IsIssued s v) (claims_in_stamped s.shape made) (sender_claim (ui_of made) (bare_of made) ∷ []) (subst (AllByRecursion (IsIssued s v)) (sym (claims_under ui x)) old) (own, tt);
          requests = subst (AllByRecursion (IsAskedFor s v)) (sym (requests_under ui x)) (all_more (IsAskedFor s w) (IsAskedFor s v) (λ r a t f. let y = a t f in (y.0, grows.asked y.0 y.1, y.2)) (stamped_requests x) c.requests);
        }

    -- Whatever is read of it.
    pub stamp_genuine : Grows s w v → (m : Message) → read s (spelling (as_message made)) ≡ Some m → IsGenuine s v m
    stamp_genuine grows m e = subst (IsGenuine s v) (read_fields s.shape shape (as_message made) m (as_message_fits s.shape made fits) (read_is (message_of s.shape (spelling (as_message made))) m e))
        (record { parts = as_whole s.shape (IsIssued s v) (IsAskedFor s v) made (parts grows); made = stamp_made s v made })
