-- A stamped message of another host that was accepted stands in that host's ordered prefix, at its counter.
use Rattle.std.proofs.Common.{◌≡◌, ℕ, ◌+◌, List, ◌∷◌, ◌++◌, length, refl, sym, ap, subst, ◌∙◌, arith, length-append, Some}
use Rattle.mb_parts.specs.declared.floor.Floor.{Floor}
use Rattle.mb_parts.specs.Bares.{Bare}
use Rattle.mb_parts.specs.Counters.{at_counter}
use Rattle.mb_parts.proofs.Counters.{at_here}
use Rattle.mb_msg.specs.declared.stamped.Stamped.{Stamped as StampedMessage}
use Rattle.mb_msg.specs.declared.stamped.Stamped.TheVariants as stamped
use Rattle.mb_msg.specs.Stamps.{ui_of, bare_of, as_message}
use Rattle.mb_model.specs.Histories.{Accepted, History, Identity, origin, taken_of}
use Rattle.mb_model.specs.Passed.{Passes, PassesStamped}
use Rattle.mb_world_model.specs.WorldEvents.{IsCorrect}
use Rattle.mb_world_model.specs.World.{World, System, self_of}
use Rattle.mb_world_model.specs.WorldRecord.{prefix}
use Rattle.mb_host_laws.specs.Rests.{Each}
use Rattle.mb_world_laws.proofs.Facts.{Facts}
use Rattle.mb_views.proofs.Follows.{IsFollowing, JumpsLed, follows, takes_one}
use Rattle.mb_host_laws.proofs.Moments.{IsPast, past_tail, each_at}
use Rattle.mb_views.proofs.Floors.{arises_then, numbered_then}

pub passes_as : {S : Type 0} (self : Identity S) (d : History) (m : StampedMessage) → Passes self d (as_message m) → PassesStamped self d m
passes_as self d (stamped.Prepare m) p = p
passes_as self d (stamped.Commit m) p = p
passes_as self d (stamped.Checkpoint m) p = p
passes_as self d (stamped.ViewChange m) p = p
passes_as self d (stamped.NewView m) p = p
passes_as self d (stamped.Enter m) p = p
passes_as self d (stamped.Open m) p = p
passes_as self d (stamped.Join m) p = p

module _ {S : Type 0} (system : System S) (w : World) (f : Facts system w) (jumps : (h : ℕ) → IsCorrect system.schedule h → Each (JumpsLed system w f) (w.histories h)) where
  -- what the gate had taken then, with this message
  pub accepted_follows : (h : ℕ) (m : StampedMessage) (d : History) → IsCorrect system.schedule h → IsPast (Accepted (as_message m) ∷ d) (w.histories h) → ((ui_of m).host ≡ h → ⊥)
      → IsFollowing system w f (ui_of m).host (origin d (ui_of m).host) (bare_of m ∷ taken_of d (ui_of m).host)
  accepted_follows h m d correct past other =
      let g : ℕ = (ui_of m).host in
      let before : IsPast d (w.histories h) = past_tail (Accepted (as_message m)) d (w.histories h) past in
      let p : PassesStamped (self_of system h) d m = passes_as (self_of system h) d m (arises_then system w f h correct (jumps h correct) (Accepted (as_message m) ∷ d) past).0 in
      takes_one system w f h g m d (each_at _ (Accepted (as_message m) ∷ d) (w.histories h) past (f.standing.rests h)).0 p.gate refl
      (follows system w f h g other d (each_at _ d (w.histories h) before (f.standing.rests h)) (arises_then system w f h correct (jumps h correct) d before)
      (numbered_then system w f h correct (jumps h correct) d before) (each_at _ d (w.histories h) before (jumps h correct)))

  pub accepted_in_prefix : (h : ℕ) (m : StampedMessage) (d : History) → IsCorrect system.schedule h → IsPast (Accepted (as_message m) ∷ d) (w.histories h) → ((ui_of m).host ≡ h → ⊥)
      → at_counter (prefix system.schedule w (ui_of m).host) (ui_of m).counter ≡ Some (bare_of m)
  accepted_in_prefix h m d correct past other =
      let g : ℕ = (ui_of m).host in
      let x = accepted_follows h m d correct past other in
      let p : PassesStamped (self_of system h) d m = passes_as (self_of system h) d m (arises_then system w f h correct (jumps h correct) (Accepted (as_message m) ∷ d) past).0 in
      let count : (origin d g).counter ≡ length x.hidden = ap (λ (o : Floor). o.counter) (sym x.leads) ∙ omega arith in
      let next : (ui_of m).counter ≡ length (taken_of d g ++ x.hidden) + 1 = p.gate.next ∙ omega (arith, count, length-append (taken_of d g) x.hidden) in
      let here : at_counter (prefix system.schedule w g) (length (taken_of d g ++ x.hidden) + 1) ≡ Some (bare_of m) =
      subst (λ (l : List Bare). at_counter l (length (taken_of d g ++ x.hidden) + 1) ≡ Some (bare_of m)) x.begins.is (at_here x.begins.later (bare_of m) (taken_of d g ++ x.hidden)) in
      subst (λ (n : ℕ). at_counter (prefix system.schedule w g) n ≡ Some (bare_of m)) (sym next) here
