-- Each history to which a host's steps lead is fit, as it is sound: the first one is, and each piece of a step keeps it so.
use Rattle.std.proofs.Common.{◌≡◌, ℕ, zero, suc, ◌%◌, ◌<◌, true, false, List, [], ◌∷◌, refl, subst, inl, inr, Option, Some, None}
use Rattle.std.specs.Prelude.{◌==◌}
use Rattle.std.specs.List.{AllByRecursion}
use Rattle.mb_base.specs.Shapes.{Bytes, interval, host_count}
use Rattle.mb_parts.specs.declared.batch.Batch.{Batch}
use Rattle.mb_parts.specs.declared.request.Request.{Request}
use Rattle.mb_msg.specs.declared.event.Event.{Event}
use Rattle.mb_msg.specs.declared.event.Event.TheVariants as event
use Rattle.mb_msg.specs.declared.message.Message.{Message}
use Rattle.mb_msg.specs.declared.stamped.Stamped.{Stamped as StampedMessage}
use Rattle.mb_msg.specs.Fits.{FitsFields, FitsStamped}
use Rattle.mb_model.specs.CarriedOut.{placed_in, slot_for, carry_out, run_rules}
use Rattle.mb_model.specs.EnabledRules.{Rule, next_rule}
use Rattle.mb_model.specs.EnabledRules as rule
use Rattle.mb_model.specs.Given.{give}
use Rattle.mb_model.specs.Histories.{Entry, Stamped, Served, Executed, History, Identity}
use Rattle.mb_model.specs.HostStep.{transition}
use Rattle.mb_model.specs.Making.{prepare, commit, view_change, new_view, enter, opening, join, checkpoint}
use Rattle.mb_model.specs.OwnLog.{has_room}
use Rattle.mb_model.specs.Sending.{Progress, signed}
use Rattle.mb_model.proofs.ShapesFit.{shape_fits}
use Rattle.mb_model.proofs.Options.{option_cases}
use Rattle.mb_steps.specs.Arises.{JustExecuted, Makes, IsWhole, Adds, Arises}
use Rattle.mb_steps.proofs.StepGivenArise.{give_arises}
use Rattle.mb_host_laws.proofs.KeptByEvents.{event_keeps}
use Rattle.mb_host_laws.proofs.RoomForRules.{HasRoomFor, room_for}
use Rattle.mb_host_laws.proofs.Cases.{some_is}
use Rattle.mb_reading_laws.proofs.ReadFits.{read_fits}
use Rattle.mb_host_laws.specs.Rests.{Each, noted_by}
use Rattle.mb_host_laws.proofs.Rests.{each_more, rests_more}
use Rattle.mb_host_laws.proofs.RestsEvents.{given_rests, patience_event, nudge_event}
use Rattle.mb_host_laws.proofs.RestsGiven.{HashedIn, SentIn, Rested, give_rests}
use Rattle.mb_host_laws.proofs.RestsRules.{run_rests}
use Rattle.mb_history_laws.specs.Speaks.{is_stamp}
use Rattle.mb_history_laws.specs.Sound.{IsSound, IsServing}
use Rattle.mb_history_laws.proofs.SoundRules.{rule_sound, rules_sound, serving_goes_on, serving_ends, transition_sound}
use Rattle.mb_encodable.specs.Fitting.{HasValues, ComesOfRead, HasRoom, AreFit}
use Rattle.mb_encodable.proofs.ReadKnown.{AllKnown, all_known}
use Rattle.mb_encodable.proofs.Room.{KeepsRoom, room_now, more_room, room_kept}
use Rattle.mb_encodable.proofs.Stamps.{entry_fits}
use Rattle.mb_encodable.proofs.Unstamped.{give_keeps}

module _ {S : Type 0} (self : Identity S) where
  -- ---- what entries come of

  abbrev Read : Message → Type 0
  Read m = FitsFields self.shape m

  abbrev AnyBytes : Bytes → Type 0
  AnyBytes s = Unit {0}

  abbrev AnyMessage : Message → Type 0
  AnyMessage m = Unit {0}

  abbrev OfRead : History → Type 0
  OfRead d = Each (ComesOfRead self) d

  settled : (x : Progress) → Rested self Read AnyBytes AnyMessage x → OfRead x.history
  settled x a = each_more _ _ (rests_more self Read Read (HashedIn self Read AnyBytes AnyMessage x) AnyBytes (SentIn self Read AnyBytes AnyMessage x) AnyMessage (λ m r. r) (λ s i. tt) (λ m i. tt)) x.history a

  rested : (x : Progress) → OfRead x.history → Rested self Read AnyBytes AnyMessage x
  rested x a = each_more _ _ (rests_more self Read Read AnyBytes (HashedIn self Read AnyBytes AnyMessage x) AnyMessage (SentIn self Read AnyBytes AnyMessage x) (λ m r. r) (λ s i. inl tt) (λ m i. inl tt)) x.history a

  rule_read : (r : Rule) (x : Progress) → next_rule self x.history ≡ Some r → OfRead x.history → OfRead (carry_out self r x).history
  unfolding run_rules
  rule_read r x some a =
      let rests : Rested self Read AnyBytes AnyMessage (run_rules self 1 x) = run_rests self Read AnyBytes AnyMessage 1 x (rested x a) in
      settled (carry_out self r x) (rw some at rests)

  event_read : (d : History) (e : Event) → OfRead d → OfRead (transition self d e).left.history
  event_read d (event.Given bytes) a = settled (transition self d (event.Given bytes)).left (given_rests self Read AnyBytes AnyMessage d bytes (λ m is. read_fits self.shape (shape_fits self.shape) bytes m is) a)
  event_read d event.Patience a = settled (transition self d event.Patience).left (patience_event self Read AnyBytes AnyMessage d a)
  event_read d event.Nudge a = settled (transition self d event.Nudge).left (nudge_event self Read AnyBytes AnyMessage d a)

  -- ---- room

  rule_room : (r : Rule) (x : Progress) → HasRoomFor self x.history r → KeepsRoom self x.history → KeepsRoom self (carry_out self r x).history
  unfolding carry_out
  rule_room (rule.ChangeView view) x room p = (room_kept self).change (signed self x.history (view_change self x.history view)) x.history refl room p
  rule_room (rule.Announce changes) x room p = (room_kept self).change (signed self x.history (new_view self x.history changes)) x.history refl room p
  rule_room (rule.Enter n) x room p = (room_kept self).change (signed self x.history (enter n)) x.history refl room p
  rule_room (rule.Open e plan) x room p = (room_kept self).change (signed self x.history (opening e plan)) x.history refl room p
  rule_room rule.Join x room p = (room_kept self).change (signed self x.history (join self x.history)) x.history refl room p
  rule_room (rule.Commit pos k b) x room p = (room_kept self).normal (signed self x.history (commit self x.history pos k b)) x.history refl room p
  rule_room (rule.Execute pos b) x room p = (room_kept self).executed pos b x p
  rule_room (rule.Prepare pos b) x room p = (room_kept self).normal (signed self x.history (prepare self x.history pos b)) x.history refl room p

  rules_room : (n : ℕ) (x : Progress) → KeepsRoom self x.history → KeepsRoom self (run_rules self n x).history
  unfolding run_rules
  rules_room zero x p = p
  rules_room (suc n) x p = elim (option_cases (next_rule self x.history)) [
    | inl none ↦ rw none p
    | inr (r, some) ↦ rw some (rules_room n (carry_out self r x) (rule_room r x (room_for self x.history r some) p))
  ]

  -- ---- histories that arise

  pub begins_fit : AreFit self []
  begins_fit = record { read = tt; values = tt; room = tt }

  module _ (there : self.host < host_count self.shape) where
    -- all that is known of a fit history
    pub fit_known : (d : History) → Arises self d → AreFit self d → AllKnown self d
    fit_known d a f = all_known self there d a (room_now self d f.room).counter f.read

    values_of : (d : History) → Arises self d → AllKnown self d → KeepsRoom self d → Each (HasValues self) d
    values_of [] a k r = tt
    values_of (e ∷ d) a k r =
        let before : Each (HasValues self) d = values_of d a.1 k.1 r.1 in
        (entry_fits self e d a.0 k.0 k.1 before (room_now self d r.1), before)

    -- What came of messages that were read, and left room, has the values of the grammar.
    pub fit : (d : History) → Arises self d → OfRead d → KeepsRoom self d → AreFit self d
    fit d a read room = record { read = read; values = values_of d a (all_known self there d a (room_now self d room).counter read) room; room = room }

    -- one entry more
    pub stays_fit : (e : Entry) (d : History) → Adds self d e → ComesOfRead self e d → HasRoom self (e ∷ d) → IsSound self d → AreFit self d → AreFit self (e ∷ d)
    stays_fit e d a c r s f = fit (e ∷ d) (a, s.arises) (c, f.read) (r, f.room)

    -- one that stamps nothing
    pub unstamped_fit : (e : Entry) (d : History) → is_stamp e ≡ false → Adds self d e → ComesOfRead self e d → IsSound self d → AreFit self d → AreFit self (e ∷ d)
    unstamped_fit e d none a c s f = fit (e ∷ d) (a, s.arises) (c, f.read) (more_room self e d none f.room)

    any_bytes : (l : List Bytes) → AllByRecursion (λ (s : Bytes). Unit {0}) l
    any_bytes [] = tt
    any_bytes (s ∷ l) = (tt, any_bytes l)

    -- one that is stamped
    pub stamp_fit : (m : StampedMessage) (d : History) → Makes self d m → HasRoom self (Stamped m ∷ d) → IsSound self d → AreFit self d → AreFit self (Stamped m ∷ d)
    stamp_fit m d makes r s f = stays_fit (Stamped m) d makes (tt, any_bytes (noted_by self d m)) r s f

    -- a CHECKPOINT behind an execution
    pub checkpoint_fit : (p : ℕ) (d : History) → JustExecuted self d p → (p % interval self.shape == 0) ≡ true → has_room self d ≡ true → IsSound self d → AreFit self d → AreFit self (Stamped (signed self d (checkpoint self d p)) ∷ d)
    checkpoint_fit p d j whole room s f = stamp_fit (signed self d (checkpoint self d p)) d (p, j, whole, refl) (room_now self (Stamped (signed self d (checkpoint self d p)) ∷ d) ((room_kept self).normal (signed self d (checkpoint self d p)) d refl room f.room)) s f

    -- ---- a step

    pub give_fit : (m : Message) (x : Progress) → FitsFields self.shape m → IsSound self x.history → IsWhole x.history → AreFit self x.history → AreFit self (give self m x).left.history
    give_fit m x fits s w f = fit (give self m x).left.history (give_arises self m x (s.arises, w)).0 (settled (give self m x).left (give_rests self Read AnyBytes AnyMessage m x fits (rested x f.read)))
        (give_keeps self (KeepsRoom self) (more_room self) m x f.room)

    pub rule_fit : (r : Rule) (x : Progress) → next_rule self x.history ≡ Some r → IsSound self x.history → IsWhole x.history → AreFit self x.history → AreFit self (carry_out self r x).history
    rule_fit r x some s w f = fit (carry_out self r x).history (rule_sound self r x some s w).0.arises (rule_read r x some f.read) (rule_room r x (room_for self x.history r some) f.room)

    -- what a rule stamps, where it stamps before anything else
    abbrev pub stamped_by : Rule → History → Option StampedMessage
    stamped_by (rule.ChangeView view) d = Some (signed self d (view_change self d view))
    stamped_by (rule.Announce changes) d = Some (signed self d (new_view self d changes))
    stamped_by (rule.Enter n) d = Some (signed self d (enter n))
    stamped_by (rule.Open e plan) d = Some (signed self d (opening e plan))
    stamped_by rule.Join d = Some (signed self d (join self d))
    stamped_by (rule.Commit pos k b) d = Some (signed self d (commit self d pos k b))
    stamped_by (rule.Execute pos b) d = None
    stamped_by (rule.Prepare pos b) d = Some (signed self d (prepare self d pos b))

    first_stamp : (r : Rule) (x : Progress) → AreFit self (carry_out self r x).history → (m : StampedMessage) → stamped_by r x.history ≡ Some m → FitsStamped self.shape m
    unfolding carry_out
    first_stamp (rule.ChangeView view) x f m e = subst (FitsStamped self.shape) (some_is (signed self x.history (view_change self x.history view)) m e) f.values.0
    first_stamp (rule.Announce changes) x f m e = subst (FitsStamped self.shape) (some_is (signed self x.history (new_view self x.history changes)) m e) f.values.0
    first_stamp (rule.Enter n) x f m e = subst (FitsStamped self.shape) (some_is (signed self x.history (enter n)) m e) f.values.0
    first_stamp (rule.Open g plan) x f m e = subst (FitsStamped self.shape) (some_is (signed self x.history (opening g plan)) m e) f.values.0
    first_stamp rule.Join x f m e = subst (FitsStamped self.shape) (some_is (signed self x.history (join self x.history)) m e) f.values.0
    first_stamp (rule.Commit pos k b) x f m e = subst (FitsStamped self.shape) (some_is (signed self x.history (commit self x.history pos k b)) m e) f.values.0
    first_stamp (rule.Execute pos b) x f m e = absurd cc
    first_stamp (rule.Prepare pos b) x f m e = subst (FitsStamped self.shape) (some_is (signed self x.history (prepare self x.history pos b)) m e) f.values.0

    -- It fits.
    pub rule_stamps : (r : Rule) (x : Progress) → next_rule self x.history ≡ Some r → IsSound self x.history → IsWhole x.history → AreFit self x.history → (m : StampedMessage) → stamped_by r x.history ≡ Some m → FitsStamped self.shape m
    rule_stamps r x some s w f m e = first_stamp r x (rule_fit r x some s w f) m e

    pub rules_fit : (n : ℕ) (x : Progress) → IsSound self x.history → IsWhole x.history → AreFit self x.history → AreFit self (run_rules self n x).history
    rules_fit n x s w f = fit (run_rules self n x).history (rules_sound self n x s w).0.arises (settled (run_rules self n x) (run_rests self Read AnyBytes AnyMessage n x (rested x f.read))) (rules_room n x f.room)

    pub transition_fit : (d : History) (e : Event) → IsSound self d → IsWhole d → AreFit self d → AreFit self (transition self d e).left.history
    transition_fit d e s w f = fit (transition self d e).left.history (transition_sound self d e s w).0.arises (event_read d e f.read) (event_keeps self (KeepsRoom self) (room_kept self) d e f.room)

    -- ---- within a batch

    pub served_fit : (p : ℕ) (b : Batch) (r : Request) (more : List Request) (d : History) → IsServing self p b (r ∷ more) d → AreFit self d → AreFit self (Served p (placed_in self d r) ∷ d)
    served_fit p b r more d s f = fit (Served p (placed_in self d r) ∷ d) (serving_goes_on self p b r more d s).sound.arises (tt, f.read) (more_room self (Served p (placed_in self d r)) d refl f.room)

    pub executed_fit : (p : ℕ) (b : Batch) (d : History) → IsServing self p b [] d → AreFit self d → AreFit self (Executed (slot_for self d p) ∷ d)
    executed_fit p b d s f = fit (Executed (slot_for self d p) ∷ d) (serving_ends self p b d s).arises (tt, f.read) (more_room self (Executed (slot_for self d p)) d refl f.room)
