-- What clients asked has the values of the grammar: who asks and for what fits the schedule, and a client's number is at most that of the events.
use Rattle.std.proofs.Common.{◌≡◌, ℕ, zero, suc, ◌+◌, ◌≤◌, ◌<◌, ◌^◌, ◌⊎◌, List, ◌∷◌, length, refl, ap, subst, ◌∙◌, inl, inr, arith, Option, Some, None}
use Rattle.std.specs.Prelude.{slice_get}
use Rattle.std.proofs.lemmas.Option.{slice_get_within}
use Rattle.mb_base.specs.Shapes.{Bytes}
use Rattle.mb_usig.proofs.Laws.{length-signed_request}
use Rattle.mb_parts.specs.declared.request.Request.{Request}
use Rattle.mb_parts.specs.Fits.{FitsRequest}
use Rattle.mb_model.specs.Clients.{Asker, Taken, Waiting, Accepted, BadTag, OtherSeq, taken, left_by, takes}
use Rattle.mb_model.specs.Members.{In}
use Rattle.mb_schedule.specs.declared.schedule.WorldEvent.{WorldEvent}
use Rattle.mb_schedule.specs.declared.schedule.WorldEvent.TheVariants.{Ask}
use Rattle.mb_schedule.specs.declared.schedule.Schedule.{Schedule}
use Rattle.mb_schedule.specs.Limits.{EventFits, IsSchedule}
use Rattle.mb_world_model.specs.World.{World, System, request_of}
use Rattle.mb_world_model.specs.WorldSteps.{happens, after, world}
use Rattle.mb_world_model.specs.Stops.{stop_of, IsUnstopped}
use Rattle.mb_world_laws.proofs.Standings.{before_last}
use Rattle.mb_one_log.proofs.AskerWorlds.{AskerMoves, after_moves as askers_move}
use Rattle.mb_world_laws.proofs.Asked.{not_asked}

module _ {S : Type 0} (system : System S) where
  abbrev s : Schedule
  s = system.schedule

  -- ---- what is asked in an event

  module _ (w : World) where
    -- Nothing was asked, or this by a client of the system.
    abbrev Asks : World → Type 0
    Asks v = (v.asked ≡ w.asked) ⊎ ((c : ℕ) × (op : Bytes) × EventFits s.shape (Ask c op) × (v.asked ≡ request_of s c ((w.askers c).number + 1) op ∷ w.asked))

    event_asks : (e : WorldEvent) → EventFits s.shape e → Asks (happens system w e)
    unfolding happens
    event_asks (Ask c op) fits = inr (c, op, fits, refl)
    event_asks e fits = inl (not_asked system w e (λ c op is. absurd cc))

    left_number : (t : Taken) (a : Asker) (r : _) → (left_by s.shape s.secret 0 t a r).number ≡ a.number
    left_number (Accepted pos) a r = refl
    left_number (Waiting n) a r = refl
    left_number BadTag a r = refl
    left_number (OtherSeq n) a r = refl

    number_moves : (c : ℕ) (v : World) → AskerMoves system w c v → (v.askers c).number ≤ (w.askers c).number + 1
    unfolding takes
    number_moves c v (inl e) = let x = ap (λ (a : Asker). a.number) e in omega (arith, x)
    number_moves c v (inr (inl e)) = let x = ap (λ (a : Asker). a.number) e in omega (arith, x)
    number_moves c v (inr (inr t)) = let x = ap (λ (a : Asker). a.number) t.left ∙ left_number (taken s.shape s.secret c (w.askers c) t.reply) (w.askers c) t.reply in omega (arith, x)

  -- ---- all worlds

  -- A client's number is at most the number of the event, and of all events.
  record AreLow (k : ℕ) (w : World) : Type 0 where
    so_far : (c : ℕ) → (w.askers c).number ≤ k
    of_all : (c : ℕ) → (w.askers c).number ≤ length s.events
    fits : (r : Request) → In w.asked r → FitsRequest s.shape r

  low_on : (k : ℕ) (w : World) (o : Option WorldEvent) → slice_get s.events k ≡ o → length s.events < 2 ^ 63 → ((e : WorldEvent) → o ≡ Some e → EventFits s.shape e) → ((e : WorldEvent) → o ≡ Some e → stop_of s w e ≡ None) → AreLow k w → AreLow (suc k) (after system w o)
  low_on k w None at short fits none x = record { so_far = λ c. let y = x.so_far c in omega (arith, y); of_all = x.of_all; fits = x.fits }
  low_on k w (Some e) at short fits none x =
      let v : World = after system w (Some e) in
      let lt = slice_get_within s.events k e at in
      record {
        so_far = λ c. let y = x.so_far c in let z = number_moves w c v (askers_move system w c (Some e) none) in omega (arith, y, z);
        of_all = λ c. let y = x.so_far c in let z = number_moves w c v (askers_move system w c (Some e) none) in omega (arith, y, z, lt);
        fits = λ r i. asked (event_asks w e (fits e refl)) r i;
      } where
        asked : Asks w (after system w (Some e)) → (r : Request) → In (after system w (Some e)).asked r → FitsRequest s.shape r
        asked (inl same) r i = x.fits r (subst (λ (l : List Request). In l r) same i)
        asked (inr (c, op, ask, is)) r i = first (subst (λ (l : List Request). In l r) is i) where
          first : In (request_of s c ((w.askers c).number + 1) op ∷ w.asked) r → FitsRequest s.shape r
          first (inr before) = x.fits r before
          first (inl same) = subst (FitsRequest s.shape) same (let y = x.of_all c in record { client = ask.0; seq = (omega arith, omega (arith, y, short)); op = ask.1; tag = length-signed_request s.secret c _ })

  all_low : IsSchedule s → (k : ℕ) → IsUnstopped system k → AreLow k (world system k)
  unfolding world
  all_low fits zero none = record { so_far = λ c. omega arith; of_all = λ c. omega arith; fits = λ r i. absurd i }
  all_low fits (suc k) none =
      let count = fits.count in
      low_on k (world system k) (slice_get s.events k) refl (omega (arith, count)) (λ e at. fits.events k e at) (λ e at. none k e (omega arith) at) (all_low fits k (before_last system k none))

  pub asked_fits : IsSchedule s → (k : ℕ) → IsUnstopped system k → (r : Request) → In (world system k).asked r → FitsRequest s.shape r
  asked_fits fits k none = (all_low fits k none).fits
