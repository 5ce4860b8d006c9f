-- A world is the same whatever events come behind: so the events of a soak are as they are drawn.
use Rattle.std.proofs.Common.{◌≡◌, ℕ, zero, suc, ◌<◌, ◌≤◌, ◌⊎◌, List, [], ◌∷◌, ◌++◌, length, refl, sym, ap, subst, ◌∙◌, inl, inr, arith, length-append, Option, Some, None}
use Rattle.std.specs.Prelude.{slice_get}
use Rattle.std.proofs.lemmas.Bool.{cases_Bool, cases_lt}
use Rattle.mb_base.specs.Shapes.{Bytes}
use Rattle.mb_parts.specs.declared.request.Request.{Request}
use Rattle.mb_msg.specs.declared.event.Event.{Event}
use Rattle.mb_msg.specs.declared.event.Event.TheVariants as event
use Rattle.mb_model.specs.Batches.{has_place}
use Rattle.mb_schedule.specs.declared.schedule.Name.TheVariants as name
use Rattle.mb_schedule.specs.declared.schedule.WorldEvent.{WorldEvent}
use Rattle.mb_schedule.specs.declared.schedule.WorldEvent.TheVariants.{Ask, Give, Take, Raw, Patience, Nudge, Sign, TagReply, TagWish, StampPrepare, StampCommit, StampCheckpoint, StampChange, StampAs, StampRaw}
use Rattle.mb_world_model.specs.World.{World, System, numbered, give_client, give_host, signal}
use Rattle.mb_world_model.specs.WorldSteps.{with_message, happens, after, world}
use Rattle.mb_world_model.specs.FaultyHosts.{request_at, misfit}
use Rattle.mb_make.specs.Draws.{Generator, draw}
use Rattle.mb_make.specs.Soaks.{with_events, generator_after, event_drawn, events_drawn}

pub at_front : {A : Type 0} (l m : List A) (j : ℕ) → j < length l → slice_get (l ++ m) j ≡ slice_get l j
at_front [] m j lt = absurd (omega (arith, lt))
at_front (x ∷ l) m zero lt = refl
at_front (x ∷ l) m (suc j) lt = at_front l m j (omega (arith, lt))

pub at_end : {A : Type 0} (l : List A) (x : A) → slice_get (l ++ x ∷ []) (length l) ≡ Some x
at_end [] x = refl
at_end (y ∷ l) x = at_end l x

module _ {S : Type 0} (system : System S) where
  abbrev On : List WorldEvent → System S
  On es = with_events system es

  -- ---- one event

  module _ (es fs : List WorldEvent) where
    pub misfit_same : (w : World) (used : ℕ) (ns : List ℕ) → misfit (On es).schedule w used ns ≡ misfit (On fs).schedule w used ns
    unfolding misfit
    misfit_same w used [] = refl
    misfit_same w used (n ∷ ns) = go (λ more. misfit_same w more ns) (request_at (On es).schedule w n) refl where
      go : ((more : ℕ) → misfit (On es).schedule w more ns ≡ misfit (On fs).schedule w more ns) → (o : Option Request) → request_at (On es).schedule w n ≡ o → misfit (On es).schedule w used (n ∷ ns) ≡ misfit (On fs).schedule w used (n ∷ ns)
      go more None is = rw is refl
      go more (Some r) is = elim (cases_Bool (has_place used r)) [
        | inl place ↦ rw (is, place) (more _)
        | inr none ↦ rw (is, none) refl
      ]

    host_same : (w : World) (h : ℕ) (bytes : Bytes) → give_host (On es) h bytes w ≡ give_host (On fs) h bytes w
    unfolding give_host
    host_same w h bytes = refl

    client_same : (w : World) (c : ℕ) (bytes : Bytes) → give_client (On es).schedule c bytes w ≡ give_client (On fs).schedule c bytes w
    unfolding give_client
    client_same w c bytes = refl

    signal_same : (w : World) (h : ℕ) (e : Event) → signal (On es) h e w ≡ signal (On fs) h e w
    unfolding signal
    signal_same w h e = refl

    host_takes : (w : World) (h : ℕ) (o : Option Bytes) → with_message (give_host (On es) h) o w ≡ with_message (give_host (On fs) h) o w
    host_takes w h None = refl
    host_takes w h (Some bytes) = host_same w h bytes

    client_takes : (w : World) (c : ℕ) (o : Option Bytes) → with_message (give_client (On es).schedule c) o w ≡ with_message (give_client (On fs).schedule c) o w
    client_takes w c None = refl
    client_takes w c (Some bytes) = client_same w c bytes

    pub happens_same : (w : World) (e : WorldEvent) → happens (On es) w e ≡ happens (On fs) w e
    unfolding happens
    happens_same w (Ask c op) = refl
    happens_same w (Give m h) = host_takes w h (numbered w.pool m)
    happens_same w (Take m c) = client_takes w c (numbered w.pool m)
    happens_same w (Raw (name.Host h) bytes) = host_same w h bytes
    happens_same w (Raw (name.Client c) bytes) = client_same w c bytes
    happens_same w (Patience h) = signal_same w h event.Patience
    happens_same w (Nudge h) = signal_same w h event.Nudge
    happens_same w (Sign c seq op) = refl
    happens_same w (TagReply h c seq pos result) = refl
    happens_same w (TagWish h view) = refl
    happens_same w (StampPrepare h view pos messages) = rw (misfit_same w 0 messages) refl
    happens_same w (StampCommit h m) = refl
    happens_same w (StampCheckpoint h pos digest) = refl
    happens_same w (StampChange h view counter) = refl
    happens_same w (StampAs h m) = refl
    happens_same w (StampRaw h bytes) = refl

    after_same : (w : World) (o : Option WorldEvent) → after (On es) w o ≡ after (On fs) w o
    after_same w None = refl
    after_same w (Some e) = happens_same w e

    -- ---- the first events

    -- The first k events are the same.
    abbrev BeginSame : ℕ → Type 0
    BeginSame k = (j : ℕ) → j < k → slice_get es j ≡ slice_get fs j

    pub world_same : (k : ℕ) → BeginSame k → world (On es) k ≡ world (On fs) k
    unfolding world
    world_same zero same = refl
    world_same (suc k) same =
        let before : world (On es) k ≡ world (On fs) k = world_same k (λ j lt. same j (omega (arith, lt))) in
        ap (λ (w : World). after (On es) w (slice_get es k)) before ∙ ap (λ (o : Option WorldEvent). after (On es) (world (On fs) k) o) (same k (omega arith)) ∙ after_same (world (On fs) k) (slice_get fs k)

    generator_same : (seed k : ℕ) → BeginSame k → generator_after (On es) seed k ≡ generator_after (On fs) seed k
    unfolding generator_after
    generator_same seed zero same = refl
    generator_same seed (suc k) same =
        let before : generator_after (On es) seed k ≡ generator_after (On fs) seed k = generator_same seed k (λ j lt. same j (omega (arith, lt))) in
        let worlds : world (On es) k ≡ world (On fs) k = world_same k (λ j lt. same j (omega (arith, lt))) in
        ap (λ (w : World). (draw (length w.pool) (generator_after (On es) seed k)).left) worlds ∙ ap (λ (g : Generator). (draw (length (world (On fs) k).pool) g).left) before

    pub event_same : (seed k : ℕ) → BeginSame k → event_drawn (On es) seed k ≡ event_drawn (On fs) seed k
    event_same seed k same = rw (world_same k same, generator_same seed k same) refl

  -- ---- the events that are drawn

  module _ (seed : ℕ) where
    abbrev drawn : ℕ → List WorldEvent
    drawn n = events_drawn system seed n

    drawn_more : (n : ℕ) → drawn (suc n) ≡ drawn n ++ event_drawn (On (drawn n)) seed n ∷ []
    unfolding events_drawn
    drawn_more n = refl

    pub drawn_count : (n : ℕ) → length (drawn n) ≡ n
    unfolding events_drawn
    drawn_count zero = refl
    drawn_count (suc n) = omega (arith, length-append (drawn n) (event_drawn (On (drawn n)) seed n ∷ []), drawn_count n)

    -- The first events stay as more are drawn.
    drawn_stay : (k n j : ℕ) → k ≤ n → j < k → slice_get (drawn k) j ≡ slice_get (drawn n) j
    unfolding events_drawn
    drawn_stay k zero j le lt = absurd (omega (arith, le, lt))
    drawn_stay k (suc n) j le lt = go (λ more. drawn_stay k n j more lt) (cases_lt n k) where
      go : (k ≤ n → slice_get (drawn k) j ≡ slice_get (drawn n) j) → (n < k) ⊎ (k ≤ n) → slice_get (drawn k) j ≡ slice_get (drawn (suc n)) j
      go more (inl past) = let same : k ≡ suc n = omega (arith, le, past) in ap (λ (i : ℕ). slice_get (drawn i) j) same
      go more (inr within) = more (omega (arith, within)) ∙ sym (at_front (drawn n) (event_drawn (On (drawn n)) seed n ∷ []) j (omega (arith, lt, within, drawn_count n)))

    -- Each is as it is drawn in the world before it.
    pub drawn_at : (n k : ℕ) → k < n → slice_get (drawn n) k ≡ Some (event_drawn (On (drawn n)) seed k)
    drawn_at n k lt =
        let here : slice_get (drawn (suc k)) k ≡ Some (event_drawn (On (drawn k)) seed k) =
        ap (λ (l : List WorldEvent). slice_get l k) (drawn_more k) ∙ subst (λ (i : ℕ). slice_get (drawn k ++ event_drawn (On (drawn k)) seed k ∷ []) i ≡ Some (event_drawn (On (drawn k)) seed k)) (drawn_count k) (at_end (drawn k) (event_drawn (On (drawn k)) seed k)) in
        sym (drawn_stay (suc k) n k (omega (arith, lt)) (omega arith)) ∙ here ∙ ap (λ (e : WorldEvent). Some e) (event_same (drawn k) (drawn n) seed k (λ j low. drawn_stay k n j (omega (arith, lt)) low))
