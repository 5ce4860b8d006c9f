-- An entry that does not speak to a search leaves it as it was.
use Rattle.std.proofs.Common.{◌≡◌, ℕ, Bool, true, false, List, ◌∷◌, refl, ap, Option, Some, None, length, take, map}
use Rattle.std.specs.List.{range_with_len}
use Rattle.std.specs.Prelude.{find, nat_lt, is_none, filter_map, option_and_then, if◌then◌else◌}
use Rattle.std.specs.Option.{option_or}
use Rattle.std.proofs.Math.Path.{fun_ext}
use Rattle.mb_base.specs.Limits.{part_count}
use Rattle.mb_base.specs.Shapes.{Bytes, host_count}
use Rattle.mb_parts.specs.declared.floor.Floor.{Floor}
use Rattle.mb_msg.specs.declared.message.Message.TheVariants as message
use Rattle.mb_msg.specs.declared.stamped.Stamped.{Stamped as StampedMessage}
use Rattle.mb_msg.specs.declared.stamped.Stamped.TheVariants as stamped
use Rattle.mb_model.specs.Histories.{floor_below, counter_of, Entry, Accepted, Stamped, Jumped, Closed, Served, Executed, Installed, DroppedParts, LostPatience, Nudged, History, Identity, onto, by_host, origin, taken_of, closed_at, gate_floors, gate, stamped as all_stamped, here, view_of}
use Rattle.mb_model.specs.Execution.{missing, parts_held, state_of, pending, parts_after, snapshot_of, part_of, part_held, asked_host}
use Rattle.mb_model.specs.EnabledRules.{greatest, greatest_in, greatest_in_slots}
use Rattle.mb_model.specs.Held.{wish_of, changes_of, enter_of, opened_by, new_view_of, evidence_of, plan_held}
use Rattle.mb_model.specs.Stable.{checkpoint_of, stable_of, low_of, log_floor, floor_counter}
use Rattle.mb_model.specs.OwnLog.{own_log, log_kept, log_start, log_longest}
use Rattle.mb_model.specs.Positions.{exec_of, slot_in, slot_at, vote_of, vote_at, counts_at, matching}
use Rattle.mb_model.specs.declared.known.Vote.{Vote}
use Rattle.mb_model.specs.Votes.{is_vote}
use Rattle.mb_steps.proofs.StepPotential.{max_none, tally_same}
use Rattle.mb_history_laws.specs.Speaks.{is_by, moves_gate, closes_gate, is_stamp, speaks_of_slots, speaks_of_votes, speaks_of_checkpoints, speaks_of_stable, speaks_of_wishes, speaks_of_changes, speaks_of_enters, speaks_of_opened, speaks_of_new_views, speaks_of_evidence, speaks_of_plans, speaks_of_executed, speaks_of_state, speaks_of_requests, speaks_of_snapshots, speaks_of_parts, is_nudge}

-- ---- gates

none_onto : {A : Type 0} (o : Option A) (l : List A) → o ≡ None → onto o l ≡ l
none_onto o l e = rw e refl

not_by : (h : ℕ) (o : Option StampedMessage) → is_by h o ≡ false → by_host h o ≡ None
not_by h None e = refl
not_by h (Some m) e = rw e refl

pub origin_stays : (e : Entry) (d : History) (h : ℕ) → moves_gate h e ≡ false → origin (e ∷ d) h ≡ origin d h
unfolding origin
origin_stays (Jumped g f) d h s = rw s refl
origin_stays e d h s = refl

pub taken_stays : (e : Entry) (d : History) (h : ℕ) → moves_gate h e ≡ false → taken_of (e ∷ d) h ≡ taken_of d h
unfolding taken_of
taken_stays (Jumped g f) d h s = rw s refl
taken_stays (Accepted m) d h s = none_onto _ _ (not_by h _ s)
taken_stays (Stamped m) d h s = none_onto _ _ (not_by h (Some m) s)
taken_stays e d h s = refl

pub gate_stays : (e : Entry) (d : History) (h : ℕ) → moves_gate h e ≡ false → gate (e ∷ d) h ≡ gate d h
gate_stays e d h s = rw (origin_stays e d h s, taken_stays e d h s) refl

pub closed_stays : (e : Entry) (d : History) (h : ℕ) → closes_gate h e ≡ false → closed_at (e ∷ d) h ≡ closed_at d h
unfolding closed_at
closed_stays (Closed g c) d h s = rw s refl
closed_stays e d h s = refl

pub floors_stay : (e : Entry) (d : History) (h : ℕ) → moves_gate h e ≡ false → gate_floors (e ∷ d) h ≡ gate_floors d h
unfolding gate_floors
floors_stay (Jumped g f) d h s = rw s refl
floors_stay (Accepted m) d h s = rw (not_by h _ s) refl
floors_stay (Stamped m) d h s = rw (not_by h (Some m) s) refl
floors_stay e d h s = refl

pub floor_below_stays : (e : Entry) (d : History) (h p : ℕ) → moves_gate h e ≡ false → floor_below (e ∷ d) h p ≡ floor_below d h p
floor_below_stays e d h p s = ap (λ (l : List Floor). find (λ f. nat_lt f.point p) (take 2 l)) (floors_stay e d h s)

-- ---- what this host stamped

pub stamped_stay : (e : Entry) (d : History) → is_stamp e ≡ false → all_stamped (e ∷ d) ≡ all_stamped d
unfolding all_stamped
stamped_stay (Stamped m) d s = absurd cc
stamped_stay e d s = refl

pub counter_stays : (e : Entry) (d : History) → is_stamp e ≡ false → counter_of (e ∷ d) ≡ counter_of d
counter_stays e d s = ap length (stamped_stay e d s)

pub longest_stays : {S : Type 0} (self : Identity S) (e : Entry) (d : History) → is_stamp e ≡ false → log_longest self (e ∷ d) ≡ log_longest self d
unfolding log_longest
longest_stays self (Stamped m) d s = absurd cc
longest_stays self e d s = refl

-- ---- view changes

pub enters_stay : (e : Entry) (d : History) (h : ℕ) → speaks_of_enters e ≡ false → enter_of (e ∷ d) h ≡ enter_of d h
unfolding enter_of
enters_stay (Accepted (message.Enter m)) d h s = absurd cc
enters_stay (Stamped (stamped.Enter m)) d h s = absurd cc
enters_stay e d h s = refl

pub opened_stays : (e : Entry) (d : History) (h : ℕ) → speaks_of_opened e ≡ false → opened_by (e ∷ d) h ≡ opened_by d h
unfolding opened_by
opened_stays (Accepted (message.Open m)) d h s = absurd cc
opened_stays e d h s = refl

module _ {S : Type 0} (self : Identity S) where
  -- where this host stands
  pub here_stays : (e : Entry) (d : History) → moves_gate self.host e ≡ false → here self (e ∷ d) ≡ here self d
  here_stays e d s = gate_stays e d self.host s

  pub wishes_stay : (e : Entry) (d : History) (h : ℕ) → speaks_of_wishes e ≡ false → wish_of self (e ∷ d) h ≡ wish_of self d h
  unfolding wish_of
  wishes_stay (Accepted (message.ReqViewChange m)) d h s = absurd cc
  wishes_stay (Accepted (message.ViewChange m)) d h s = absurd cc
  wishes_stay (Stamped (stamped.ViewChange m)) d h s = absurd cc
  wishes_stay LostPatience d h s = absurd cc
  wishes_stay e d h s = max_none self (wish_of self d h)

  pub changes_stay : (e : Entry) (d : History) → speaks_of_changes e ≡ false → changes_of self (e ∷ d) ≡ changes_of self d
  unfolding changes_of
  changes_stay (Accepted (message.ViewChange m)) d s = absurd cc
  changes_stay (Stamped (stamped.ViewChange m)) d s = absurd cc
  changes_stay e d s = refl

  pub new_view_stays : (e : Entry) (d : History) → speaks_of_new_views e ≡ false → new_view_of self (e ∷ d) ≡ new_view_of self d
  unfolding new_view_of
  new_view_stays (Accepted (message.NewView m)) d s = absurd cc
  new_view_stays (Stamped (stamped.NewView m)) d s = absurd cc
  new_view_stays e d s = refl

  pub evidence_stays : (e : Entry) (d : History) → speaks_of_evidence e ≡ false → evidence_of self (e ∷ d) ≡ evidence_of self d
  unfolding evidence_of
  evidence_stays (Accepted (message.Open m)) d s = absurd cc
  evidence_stays (Accepted (message.Join m)) d s = absurd cc
  evidence_stays (Accepted (message.Log m)) d s = absurd cc
  evidence_stays (Stamped (stamped.Open m)) d s = absurd cc
  evidence_stays e d s = refl

  pub plan_stays : (e : Entry) (d : History) → speaks_of_plans e ≡ false → plan_held self (e ∷ d) ≡ plan_held self d
  unfolding plan_held
  plan_stays (Accepted (message.NewView m)) d s = absurd cc
  plan_stays (Accepted (message.Open m)) d s = absurd cc
  plan_stays (Stamped (stamped.NewView m)) d s = absurd cc
  plan_stays e d s = refl

  -- ---- what is stable

  pub checkpoints_stay : (e : Entry) (d : History) (h p : ℕ) → speaks_of_checkpoints e ≡ false → checkpoint_of (e ∷ d) h p ≡ checkpoint_of d h p
  unfolding checkpoint_of
  checkpoints_stay (Accepted (message.Checkpoint m)) d h p s = absurd cc
  checkpoints_stay (Stamped (stamped.Checkpoint m)) d h p s = absurd cc
  checkpoints_stay e d h p s = refl

  pub stable_stays : (e : Entry) (d : History) → speaks_of_stable e ≡ false → stable_of self (e ∷ d) ≡ stable_of self d
  unfolding stable_of
  stable_stays (Accepted (message.Checkpoint m)) d s = absurd cc
  stable_stays (Accepted (message.NewView m)) d s = absurd cc
  stable_stays (Accepted (message.Open m)) d s = absurd cc
  stable_stays (Accepted (message.Join m)) d s = absurd cc
  stable_stays (Accepted (message.Log m)) d s = absurd cc
  stable_stays (Stamped (stamped.Checkpoint m)) d s = absurd cc
  stable_stays (Stamped (stamped.NewView m)) d s = absurd cc
  stable_stays e d s = refl

  pub low_stays : (e : Entry) (d : History) → speaks_of_stable e ≡ false → low_of self (e ∷ d) ≡ low_of self d
  low_stays e d s = ap (λ c. c.pos) (stable_stays e d s)

  pub log_floor_stays : (e : Entry) (d : History) → speaks_of_checkpoints e ≡ false → log_floor self (e ∷ d) ≡ log_floor self d
  unfolding log_floor
  log_floor_stays (Accepted (message.Checkpoint m)) d s = absurd cc
  log_floor_stays (Stamped (stamped.Checkpoint m)) d s = absurd cc
  log_floor_stays e d s = refl

  pub log_start_stays : (e : Entry) (d : History) → speaks_of_checkpoints e ≡ false → log_start self (e ∷ d) ≡ log_start self d
  log_start_stays e d s = ap (floor_counter self) (log_floor_stays e d s)

  -- what the own log holds, and in which forms
  pub own_log_stays : (e : Entry) (d : History) → is_stamp e ≡ false → speaks_of_checkpoints e ≡ false → own_log self (e ∷ d) ≡ own_log self d
  own_log_stays e d n s = rw (stamped_stay e d n, log_floor_stays e d s) refl

  pub log_kept_stays : (e : Entry) (d : History) → is_stamp e ≡ false → speaks_of_checkpoints e ≡ false → log_kept self (e ∷ d) ≡ log_kept self d
  log_kept_stays e d n s = rw (stamped_stay e d n, log_floor_stays e d s) refl

  -- ---- execution

  pub exec_stays : (e : Entry) (d : History) → speaks_of_executed e ≡ false → exec_of (e ∷ d) ≡ exec_of d
  unfolding exec_of
  exec_stays (Executed slot) d s = absurd cc
  exec_stays (Installed pos parts) d s = absurd cc
  exec_stays e d s = refl

  pub state_stays : (e : Entry) (d : History) → speaks_of_state e ≡ false → state_of self (e ∷ d) ≡ state_of self d
  unfolding state_of
  state_stays (Served pos placed) d s = absurd cc
  state_stays (Installed pos parts) d s = absurd cc
  state_stays e d s = refl

  pub requests_stay : (e : Entry) (d : History) (c : ℕ) → speaks_of_requests e ≡ false → pending self (e ∷ d) c ≡ pending self d c
  unfolding pending
  requests_stay (Accepted (message.Request r)) d c s = absurd cc
  requests_stay (Served pos placed) d c s = absurd cc
  requests_stay (Installed pos parts) d c s = absurd cc
  requests_stay e d c s = refl

  pub parts_after_stay : (e : Entry) (d : History) (p : ℕ) → speaks_of_snapshots e ≡ false → parts_after self (e ∷ d) p ≡ parts_after self d p
  unfolding parts_after
  parts_after_stay (Executed slot) d p s = absurd cc
  parts_after_stay e d p s = refl

  pub parts_stay : (e : Entry) (d : History) (p i : ℕ) → speaks_of_parts e ≡ false → part_of self (e ∷ d) p i ≡ part_of self d p i
  unfolding part_of
  parts_stay (Accepted (message.State m)) d p i s = absurd cc
  parts_stay (Installed q parts) d p i s = absurd cc
  parts_stay DroppedParts d p i s = absurd cc
  parts_stay e d p i s = refl

  pub asked_stays : (e : Entry) (d : History) → is_nudge e ≡ false → asked_host self (e ∷ d) ≡ asked_host self d
  unfolding asked_host
  asked_stays Nudged d s = absurd cc
  asked_stays e d s = refl

  -- ---- positions

  nothing_more : {A : Type 0} (o : Option A) (b : Bool) → option_or o (if b then None else None) ≡ o
  nothing_more None true = refl
  nothing_more None false = refl
  nothing_more (Some x) b = refl

  pub slots_stay : (e : Entry) (d : History) (v p : ℕ) → speaks_of_slots e ≡ false → slot_in self (e ∷ d) v p ≡ slot_in self d v p
  unfolding slot_in
  slots_stay (Accepted (message.Prepare m)) d v p s = absurd cc
  slots_stay (Stamped (stamped.Prepare m)) d v p s = absurd cc
  slots_stay (Stamped (stamped.Open m)) d v p s = absurd cc
  slots_stay e d v p s = nothing_more (slot_in self d v p) (counts_at self (e ∷ d) v p)

  pub votes_stay : (e : Entry) (d : History) (h v p : ℕ) → speaks_of_votes e ≡ false → vote_of self (e ∷ d) h v p ≡ vote_of self d h v p
  unfolding vote_of
  votes_stay (Accepted (message.Prepare m)) d h v p s = absurd cc
  votes_stay (Accepted (message.Commit m)) d h v p s = absurd cc
  votes_stay (Accepted (message.Open m)) d h v p s = absurd cc
  votes_stay (Accepted (message.NewView m)) d h v p s = absurd cc
  votes_stay (Stamped (stamped.Prepare m)) d h v p s = absurd cc
  votes_stay (Stamped (stamped.Commit m)) d h v p s = absurd cc
  votes_stay (Stamped (stamped.Open m)) d h v p s = absurd cc
  votes_stay (Stamped (stamped.NewView m)) d h v p s = absurd cc
  votes_stay (Stamped (stamped.ViewChange m)) d h v p s = absurd cc
  votes_stay e d h v p s = nothing_more (vote_of self d h v p) (counts_at self (e ∷ d) v p)

  -- those of the host's view in the window: the view and the stable position stay, too
  pub slot_at_stays : (e : Entry) (d : History) (p : ℕ) → speaks_of_slots e ≡ false → view_of self (e ∷ d) ≡ view_of self d → low_of self (e ∷ d) ≡ low_of self d → slot_at self (e ∷ d) p ≡ slot_at self d p
  slot_at_stays e d p s view low = rw (low, view, slots_stay e d (view_of self d) p s) refl

  pub vote_at_stays : (e : Entry) (d : History) (h p : ℕ) → speaks_of_votes e ≡ false → view_of self (e ∷ d) ≡ view_of self d → low_of self (e ∷ d) ≡ low_of self d → vote_at self (e ∷ d) h p ≡ vote_at self d h p
  vote_at_stays e d h p s view low = rw (low, view, votes_stay e d h (view_of self d) p s) refl

  pub matching_stays : (e : Entry) (d : History) (p : ℕ) (x : Vote) → ((h : ℕ) → vote_at self (e ∷ d) h p ≡ vote_at self d h p) → matching self (e ∷ d) p x ≡ matching self d p x
  matching_stays e d p x same = tally_same (λ h. is_vote (vote_at self (e ∷ d) h p) x) (λ h. is_vote (vote_at self d h p) x) (host_count self.shape) (λ h. ap (λ v. is_vote v x) (same h))

  -- ---- snapshots, and the fetched parts of the stable state: the stable position stays, too

  pub snapshot_stays : (e : Entry) (d : History) (p : ℕ) → speaks_of_snapshots e ≡ false → low_of self (e ∷ d) ≡ low_of self d → snapshot_of self (e ∷ d) p ≡ snapshot_of self d p
  snapshot_stays e d p s low = rw (low, parts_after_stay e d p s) refl

  pub part_held_stays : (e : Entry) (d : History) (i : ℕ) → speaks_of_parts e ≡ false → low_of self (e ∷ d) ≡ low_of self d → part_held self (e ∷ d) i ≡ part_held self d i
  part_held_stays e d i s low = rw (low, parts_stay e d (low_of self d) i s) refl

  pub missing_stays : (e : Entry) (d : History) → ((i : ℕ) → part_held self (e ∷ d) i ≡ part_held self d i) → missing self (e ∷ d) ≡ missing self d
  missing_stays e d same = ap (λ (f : ℕ → Bool). find f (range_with_len 0 part_count)) (fun_ext (λ i. ap (λ (o : Option Bytes). is_none o) (same i)))

  pub parts_held_stay : (e : Entry) (d : History) → ((i : ℕ) → part_held self (e ∷ d) i ≡ part_held self d i) → parts_held self (e ∷ d) ≡ parts_held self d
  parts_held_stay e d same = ap (λ (f : ℕ → Option Bytes). filter_map f (range_with_len 0 part_count)) (fun_ext same)

  -- ---- the greatest number of a client in the slots of the window: slots and the stable position stay, too

  pub greatest_stays : (e : Entry) (d : History) (c : ℕ) (l : List ℕ) → ((p : ℕ) → slot_at self (e ∷ d) p ≡ slot_at self d p) → greatest_in_slots self (e ∷ d) c l ≡ greatest_in_slots self d c l
  unfolding greatest_in_slots
  greatest_stays e d c l same = ap (λ (f : ℕ → ℕ). greatest (map f l)) (fun_ext (λ p. ap (λ x. greatest_in c (option_and_then (λ k. k.batch) x)) (same p)))
