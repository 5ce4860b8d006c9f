-- A plan that a correct host made or checked is that of f+1 good VIEW_CHANGEs of different hosts, and its string is hashed.
use Rattle.std.proofs.Common.{◌≡◌, ℕ, ◌+◌, ◌≤◌, Bool, true, false, List, [], ◌∷◌, ◌++◌, length, refl, subst, inl, arith, Some, None}
use Rattle.std.specs.Prelude.{map, not, option_map, if◌then◌else◌, ◌==◌}
use Rattle.std.specs.Bool.{then_some}
use Rattle.std.specs.List.{AllByRecursion, flat_map}
use Rattle.std.proofs.lemmas.Bool.{and_parts, eqb-true, lt-ltb}
use Rattle.mb_base.specs.Shapes.{Bytes, quorum}
use Rattle.mb_base.specs.Spelling.{Rises}
use Rattle.mb_parts.specs.Claims.{Claim, are_rising}
use Rattle.mb_msg.specs.declared.message.Body.{Body}
use Rattle.mb_msg.specs.declared.message.Body.TheVariants.{Whole}
use Rattle.mb_msg.specs.declared.message.Message.{Message}
use Rattle.mb_msg.specs.declared.message.Message.TheVariants as message
use Rattle.mb_msg.specs.declared.change.ChangeBody.{ChangeBody}
use Rattle.mb_msg.specs.declared.change.ViewChange.{ViewChange}
use Rattle.mb_msg.specs.declared.change.NewView.{NewView}
use Rattle.mb_msg.specs.declared.change.NewViewBody.{NewViewBody}
use Rattle.mb_msg.specs.declared.stamped.Stamped.TheVariants as stamped
use Rattle.mb_msg.specs.Bodies.{FitsBody, inside_whole}
use Rattle.mb_msg.specs.Fits.{FitsChangeBody, FitsNewView, FitsNewViewBody, FitsMember}
use Rattle.mb_msg.specs.Spelling.{change_body_bytes, new_view_body_bytes}
use Rattle.mb_msg.specs.Plans.{plan_text}
use Rattle.mb_msg.specs.Stamps.{bare_of}
use Rattle.mb_model.specs.Verified.{verifies}
use Rattle.mb_model.specs.UsableLogs.{log_fault}
use Rattle.mb_model.specs.Histories.{Accepted, History, Identity}
use Rattle.mb_model.specs.Held.{change_fault, is_current, plan_from, logs_of}
use Rattle.mb_model.specs.GateChecks.{valid, stamp_claim}
use Rattle.mb_model.specs.KindChecks.{is_member, member_fault, members_fault, new_view_fault, announces}
use Rattle.mb_model.specs.Plans.{are_of_plan, plan_of}
use Rattle.mb_model.specs.Compared.{compared_in_change, compared_in_members, compared_in}
use Rattle.mb_model.specs.Passed.{PassesStamped}
use Rattle.mb_model.specs.Members.{In}
use Rattle.mb_model.proofs.Members.{in_left, in_right}
use Rattle.mb_model.proofs.Options.{or_none, then_none}
use Rattle.mb_model.proofs.UsableLaws.{map_none}
use Rattle.mb_model.specs.Inside.{claims_in, stamped_claims, change_claims, member_claims, new_view_claims, sender_claim, bodies_in, body_in, bodies_in_change, change_bodies}
use Rattle.mb_world_model.specs.WorldEvents.{IsCorrect}
use Rattle.mb_world_model.specs.World.{World, System, self_of}
use Rattle.mb_host_laws.proofs.Cases.{all_left, all_right, not_false}
use Rattle.mb_host_laws.specs.Rests.{Each}
use Rattle.mb_world_laws.proofs.Grown.{IsHashed}
use Rattle.mb_world_laws.proofs.Knows.{accepted_issued}
use Rattle.mb_world_laws.proofs.Facts.{Facts}
use Rattle.mb_views.proofs.Follows.{JumpsLed}
use Rattle.mb_host_laws.proofs.Moments.{IsPast, each_at}
use Rattle.mb_views.proofs.Floors.{arises_then}
use Rattle.mb_world_laws.proofs.AcceptedParts.{accepted_fits}
use Rattle.mb_views.proofs.UsableChanges.{IsGoodChange}
use Rattle.mb_views.proofs.HeldChanges.{RestsAt, gate_passed, whole_none, form_whole, body_known}

module _ {S : Type 0} (system : System S) (w : World) where
  -- a good VIEW_CHANGE to this view
  pub record IsGoodMember (view : ℕ) (m : ViewChange) : Type 0 where
    pub shows : ChangeBody
    pub good : IsGoodChange system w m shows
    pub to : m.view ≡ view

  -- Base, end and digest are those of the plan of f+1 good VIEW_CHANGEs.
  pub record IsGoodPlan (view base end : ℕ) (plan : Bytes) (changes : List ViewChange) : Type 0 where
    pub members : AllByRecursion (IsGoodMember view) changes
    pub many : length changes ≡ quorum system.schedule.shape
    pub rising : are_rising (map (λ (m : ViewChange). m.ui.host) changes) ≡ true
    pub described : are_of_plan base end plan (plan_of system.schedule.shape (logs_of changes)) ≡ true
    pub hashed : In w.hashed (plan_text (plan_of system.schedule.shape (logs_of changes)))

rises_rising : (n : ℕ) (l : List ℕ) → Rises n l → are_rising l ≡ true
rises_rising n [] r = refl
rises_rising n (a ∷ []) r = refl
rises_rising n (a ∷ b ∷ l) r = let up : a + 1 ≤ b = r.1.0 in rw (lt-ltb a b (omega (arith, up))) (rises_rising (a + 1) (b ∷ l) r.1)

module _ {S : Type 0} (self : Identity S) where
  member_passed : (view : ℕ) (m : ViewChange) → member_fault self view m ≡ None → (is_member self view m ≡ true) × (change_fault self m ≡ None)
  member_passed view m e = go (is_member self view m) refl e where
    go : (b : Bool) → is_member self view m ≡ b → (if b then option_map (λ f. f.1) (change_fault self m) else Some 10) ≡ None → (is_member self view m ≡ true) × (change_fault self m ≡ None)
    go true is e = (is, map_none (λ f. f.1) (change_fault self m) e)
    go false is e = absurd cc

module _ {S : Type 0} (system : System S) (w : World) (f : Facts system w) (jumps : (h : ℕ) → IsCorrect system.schedule h → Each (JumpsLed system w f) (w.histories h)) where
  -- one member of a NEW_VIEW
  member_good : (h : ℕ) (n : Message) (d : History) → RestsAt system w f jumps h n d → (view : ℕ) (m : ViewChange) → FitsMember system.schedule.shape m
      → ((c : Claim) → In (member_claims system.schedule.shape m) c → In (claims_in system.schedule.shape n) c) → ((x : Bytes) → In (change_bodies m) x → In (bodies_in n) x)
      → is_member (self_of system h) view m ≡ true → change_fault (self_of system h) m ≡ None → AllByRecursion (IsHashed system.schedule w) (compared_in_change (self_of system h) m) → IsGoodMember system w view m
  member_good h n d r view m fits claims bodies member usable compared =
      let body = form_whole m.body fits.1 in
      let b : ChangeBody = body.0 in
      let is : m.body ≡ Whole b = body.1 in
      let t = and_parts (m.view == view) (valid (self_of system h) (stamp_claim (stamped.ViewChange m))) member in
      let none = whole_none (log_fault system.schedule.shape system.schedule.secret (verifies system.schedule.secret) m.ui.host m.view m.ui.counter) m.body b is usable in
      let body_fits : FitsChangeBody system.schedule.shape b = subst (λ (x : Body ChangeBody). FitsBody (FitsChangeBody system.schedule.shape) x) is fits.0.body in
      let own : Claim = sender_claim m.ui (bare_of (stamped.ViewChange m)) in
      record {
        shows = b;
        good = record {
          body = is;
          issues = accepted_issued system w f.standing h n d r (stamp_claim (stamped.ViewChange m)) (claims own (in_right (inside_whole (change_claims system.schedule.shape) m.body) (own ∷ []) own (inl refl))) t.1;
          host = fits.0.ui.host;
          usable = none;
          known = body_known system w f jumps h n d r m.ui.host m.view m.ui.counter b none body_fits
              (λ c i. claims c (in_left (inside_whole (change_claims system.schedule.shape) m.body) (own ∷ []) c (rw is i)))
              (λ x i. bodies x (in_right (body_in change_body_bytes m.body) (inside_whole bodies_in_change m.body) x (rw is i)));
          checker = h;
          compared = rw is at compared;
        };
        to = eqb-true m.view view t.0;
      }

  members_good : (h : ℕ) (n : Message) (d : History) → RestsAt system w f jumps h n d → (view i : ℕ) (l : List ViewChange) → AllByRecursion (FitsMember system.schedule.shape) l
      → ((c : Claim) → In (flat_map (member_claims system.schedule.shape) l) c → In (claims_in system.schedule.shape n) c) → ((x : Bytes) → In (flat_map change_bodies l) x → In (bodies_in n) x)
      → members_fault (self_of system h) view i l ≡ None → AllByRecursion (IsHashed system.schedule w) (compared_in_members (self_of system h) view l) → AllByRecursion (IsGoodMember system w view) l
  unfolding members_fault compared_in_members
  members_good h n d r view i [] fits claims bodies none compared = tt
  members_good h n d r view i (m ∷ l) fits claims bodies none compared =
      let self : Identity S = self_of system h in
      let a = or_none (option_map (λ reason. (i, reason)) (member_fault self view m)) (members_fault self view (i + 1) l) none in
      let first : member_fault self view m ≡ None = map_none (λ reason. (i, reason)) (member_fault self view m) a.0 in
      let p = member_passed self view m first in
      let strings : AllByRecursion (IsHashed system.schedule w) (compared_in_change self m ++ compared_in_members self view l) = rw (first, p.0) at compared in (
        member_good h n d r view m fits.0 (λ c j. claims c (in_left (member_claims system.schedule.shape m) (flat_map (member_claims system.schedule.shape) l) c j)) (λ x j. bodies x (in_left (change_bodies m) (flat_map change_bodies l) x j)) p.0 p.1
            (all_left (IsHashed system.schedule w) (compared_in_change self m) (compared_in_members self view l) strings),
        members_good h n d r view (i + 1) l fits.1 (λ c j. claims c (in_right (member_claims system.schedule.shape m) (flat_map (member_claims system.schedule.shape) l) c j)) (λ x j. bodies x (in_right (change_bodies m) (flat_map change_bodies l) x j)) a.1
            (all_right (IsHashed system.schedule w) (compared_in_change self m) (compared_in_members self view l) strings),
      )

  new_view_claims_in : (n : NewView) (b : NewViewBody) → n.body ≡ Whole b → (c : Claim) → In (flat_map (member_claims system.schedule.shape) b.changes) c → In (claims_in system.schedule.shape (message.NewView n)) c
  unfolding claims_in stamped_claims
  new_view_claims_in n b is c i = in_left (inside_whole (new_view_claims system.schedule.shape) n.body) (sender_claim n.ui (bare_of (stamped.NewView n)) ∷ []) c (rw is i)

  new_view_bodies_in : (n : NewView) (b : NewViewBody) → n.body ≡ Whole b → (x : Bytes) → In (flat_map change_bodies b.changes) x → In (bodies_in (message.NewView n)) x
  unfolding bodies_in
  new_view_bodies_in n b is x i = in_right (body_in new_view_body_bytes n.body) (inside_whole (λ y. flat_map change_bodies y.changes) n.body) x (rw is i)

  -- A NEW_VIEW that was accepted as current, whole, is of a good plan.
  pub accepted_plan : (h : ℕ) (n : NewView) (b : NewViewBody) (d : History) → IsCorrect system.schedule h → IsPast (Accepted (message.NewView n) ∷ d) (w.histories h) → n.body ≡ Whole b
      → is_current (self_of system h) d n.view ≡ true → IsGoodPlan system w n.view n.base n.end n.plan b.changes
  unfolding compared_in new_view_fault
  accepted_plan h n b d correct past is current =
      let self : Identity S = self_of system h in
      let r : RestsAt system w f jumps h (message.NewView n) d = (each_at _ (Accepted (message.NewView n) ∷ d) (w.histories h) past (f.standing.rests h)).0 in
      let a : PassesStamped self d (stamped.NewView n) = (arises_then system w f h correct (jumps h correct) (Accepted (message.NewView n) ∷ d) past).0 in
      let fits : FitsNewView system.schedule.shape n = accepted_fits system w f h (message.NewView n) d r in
      let body : FitsNewViewBody system.schedule.shape b = subst (λ (x : Body NewViewBody). FitsBody (FitsNewViewBody system.schedule.shape) x) is fits.body in
      let none = whole_none (new_view_fault self n) n.body b is (a.kind current) in
      let p = or_none (members_fault self n.view 0 b.changes) (then_some (not (announces self n (plan_from self b.changes))) (255, 11)) none in
      let strings : AllByRecursion (IsHashed system.schedule w) (compared_in_members self n.view b.changes ++ plan_text (plan_from self b.changes) ∷ []) =
      rw p.0 at (rw (gate_passed self d (stamped.NewView n) a.gate, current, is) at r.1) in
      record {
        members = members_good h (message.NewView n) d r n.view 0 b.changes body.1.1 (new_view_claims_in n b is) (new_view_bodies_in n b is) p.0 (all_left (IsHashed system.schedule w) (compared_in_members self n.view b.changes) (plan_text (plan_from self b.changes) ∷ []) strings);
        many = body.0;
        rising = rises_rising 0 (map (λ (m : ViewChange). m.ui.host) b.changes) body.1.0;
        described = not_false (announces self n (plan_from self b.changes)) (then_none (not (announces self n (plan_from self b.changes))) (255, 11) p.1);
        hashed = (all_right (IsHashed system.schedule w) (compared_in_members self n.view b.changes) (plan_text (plan_from self b.changes) ∷ []) strings).0;
      }
