-- In each world, whoever is faulty and whatever is forged, what a host accepted has the values of the grammar, as all that is read has them; so has
-- what waits.
use Rattle.std.proofs.Common.{◌≡◌, ℕ, [], ◌∷◌, inl, inr, eqb, subst, List, Option, Some, None}
use Rattle.std.specs.List.{AllByRecursion, range_with_len}
use Rattle.std.proofs.lemmas.Bool.{cases_Bool}
use Rattle.mb_base.specs.Shapes.{Bytes, client_count}
use Rattle.mb_parts.specs.declared.request.Request.{Request}
use Rattle.mb_parts.specs.Fits.{FitsRequest}
use Rattle.mb_msg.specs.declared.message.Message.{Message}
use Rattle.mb_msg.specs.declared.message.Message.TheVariants as message
use Rattle.mb_msg.specs.declared.event.Event.{Event}
use Rattle.mb_msg.specs.declared.event.Event.TheVariants as event
use Rattle.mb_msg.specs.Fits.{FitsFields}
use Rattle.mb_model.specs.Histories.{Entry, Accepted, Served, Installed, History, Identity}
use Rattle.mb_model.specs.Histories as entry
use Rattle.mb_model.specs.Service.{Served as ServedState, is_fresh}
use Rattle.mb_model.specs.Execution.{state_of, pending, if_fresh}
use Rattle.mb_model.specs.Sending.{Progress}
use Rattle.mb_model.specs.HostStep.{transition}
use Rattle.mb_model.specs.EnabledRules.{greatest_in_slots, window, unordered_of, unordered}
use Rattle.mb_model.proofs.ShapesFit.{shape_fits}
use Rattle.mb_model.proofs.Options.{if_some}
use Rattle.mb_steps.proofs.StepPlanBases.{all_found}
use Rattle.mb_world_model.specs.World.{System, self_of}
use Rattle.mb_world_model.specs.WorldSteps.{world}
use Rattle.mb_world_laws.proofs.KeptByWorlds.{world_keeps}
use Rattle.mb_host_laws.proofs.Cases.{each_in, some_is}
use Rattle.mb_host_laws.proofs.Found.{above_is}
use Rattle.mb_host_laws.proofs.Parts.{part_fits}
use Rattle.mb_reading_laws.proofs.ReadFits.{read_fits}
use Rattle.mb_host_laws.specs.Rests.{Each, Rests}
use Rattle.mb_host_laws.proofs.Rests.{each_more, rests_more}
use Rattle.mb_host_laws.proofs.RestsGiven.{HashedIn, SentIn, Rested}
use Rattle.mb_host_laws.proofs.RestsEvents.{given_rests, patience_event, nudge_event}

module _ {S : Type 0} (self : Identity S) where
  -- An accepted message has them.
  abbrev pub HasValues : Entry → History → Type 0
  HasValues (Accepted m) d = FitsFields self.shape m
  HasValues e d = Unit {0}

  -- ---- what is accepted is part of what was read

  abbrev Read : Message → Type 0
  Read m = FitsFields self.shape m

  abbrev AnyBytes : Bytes → Type 0
  AnyBytes s = Unit {0}

  abbrev AnyMessage : Message → Type 0
  AnyMessage m = Unit {0}

  abbrev OfRead : History → Type 0
  OfRead d = Each (Rests self Read AnyBytes AnyMessage) d

  settled : (x : Progress) → Rested self Read AnyBytes AnyMessage x → OfRead x.history
  settled x a = each_more _ _ (rests_more self Read Read (HashedIn self Read AnyBytes AnyMessage x) AnyBytes (SentIn self Read AnyBytes AnyMessage x) AnyMessage (λ m r. r) (λ s i. tt) (λ m i. tt)) x.history a

  kept : (d : History) (e : Event) → OfRead d → OfRead (transition self d e).left.history
  kept d (event.Given bytes) a = settled (transition self d (event.Given bytes)).left (given_rests self Read AnyBytes AnyMessage d bytes (λ m is. read_fits self.shape (shape_fits self.shape) bytes m is) a)
  kept d event.Patience a = settled (transition self d event.Patience).left (patience_event self Read AnyBytes AnyMessage d a)
  kept d event.Nudge a = settled (transition self d event.Nudge).left (nudge_event self Read AnyBytes AnyMessage d a)

  has_values : (e : Entry) (d : History) → Rests self Read AnyBytes AnyMessage e d → HasValues e d
  has_values (Accepted m) d r = part_fits self r.0.0 m r.0.2 r.0.1
  has_values e d r = tt

  -- ---- a waiting request was accepted

  fresh_is : (x : ServedState S) (o : Option Request) (r : Request) → if_fresh self x o ≡ Some r → o ≡ Some r
  fresh_is x None r e = absurd cc
  fresh_is x (Some q) r e = (if_some (is_fresh x q) (Some q) r e).1

  pending_fits : (d : History) → Each HasValues d → (c : ℕ) (r : Request) → pending self d c ≡ Some r → FitsRequest self.shape r
  unfolding pending
  pending_fits [] a c r e = absurd cc
  pending_fits (Accepted (message.Request q) ∷ d) a c r e = elim (cases_Bool (eqb q.client c)) [
    | inl here ↦ subst (FitsRequest self.shape) (some_is q r (rw here at e)) a.0
    | inr other ↦ pending_fits d a.1 c r (rw other at e)
  ]
  pending_fits (entry.Served pos p ∷ d) a c r e = elim (cases_Bool (eqb p.request.client c)) [
    | inl here ↦ pending_fits d a.1 c r (above_is p.request.seq (pending self d c) r (rw here at e))
    | inr other ↦ pending_fits d a.1 c r (rw other at e)
  ]
  pending_fits (Installed pos parts ∷ d) a c r e = pending_fits d a.1 c r (fresh_is (state_of self (Installed pos parts ∷ d)) (pending self d c) r e)
  pending_fits (x ∷ d) a c r e = pending_fits d a.1 c r e

  pub unordered_fits : (d : History) → Each HasValues d → AllByRecursion (FitsRequest self.shape) (unordered self d)
  unfolding unordered
  unordered_fits d a =
      let clients : List ℕ = range_with_len 0 (client_count self.shape) in
      all_found (λ (c : ℕ). Unit {0}) (FitsRequest self.shape) (unordered_of self d) (λ c r t e. pending_fits d a c r (above_is (greatest_in_slots self d c (window self d)) (pending self d c) r e))
      clients (each_in (λ (c : ℕ). Unit {0}) clients (λ c i. tt))

pub values_in_worlds : {S : Type 0} (system : System S) (k h : ℕ) → Each (HasValues (self_of system h)) ((world system k).histories h)
values_in_worlds system k h =
    each_more _ _ (has_values (self_of system h)) ((world system k).histories h) (world_keeps system (λ g d. OfRead (self_of system g) d) (λ g. tt) (λ g d e a. kept (self_of system g) d e a) k h)
