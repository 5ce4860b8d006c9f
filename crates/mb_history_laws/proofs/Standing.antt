-- Where this host stands: what others sent leaves it there, and its views never fall.
use Rattle.std.proofs.Common.{◌<◌, ◌≡◌, ◌≤◌, true, false, List, ◌∷◌, refl, sym, ap, subst, ◌∙◌, arith}
use Rattle.std.specs.Prelude.{nat_lt}
use Rattle.std.proofs.lemmas.Bool.{and_parts, ltb-true}
use Rattle.mb_parts.specs.Bares.{Bare}
use Rattle.mb_parts.specs.Bares as bare
use Rattle.mb_parts.specs.Ordered.{initial_floor, current_view, is_ordered, permits}
use Rattle.mb_parts.proofs.OrderedLaws.{rising}
use Rattle.mb_msg.specs.declared.message.Message.TheVariants as message
use Rattle.mb_msg.specs.declared.stamped.Stamped.{Stamped as StampedMessage}
use Rattle.mb_msg.specs.declared.stamped.Stamped.TheVariants as stamped
use Rattle.mb_msg.specs.Stamps.{ui_of, bare_of}
use Rattle.mb_msg.specs.declared.change.ViewChange.{ViewChange}
use Rattle.mb_model.specs.Histories.{Entry, Accepted, Stamped, Jumped, Closed, Served, Executed, Installed, DroppedParts, LostPatience, Nudged, History, Identity, stamped as all_stamped, said, here, view_of}
use Rattle.mb_steps.specs.OwnLists.{IsOwn, inner}
use Rattle.mb_model.specs.Sending.{signed, next_ui}
use Rattle.mb_model.specs.Making.{view_change, new_view, enter, opening, join, commit, prepare, checkpoint}
use Rattle.mb_steps.specs.Arises.{Adds, Arises, Makes}
use Rattle.mb_steps.proofs.StepOwnList.{own_passed, stands_here}
use Rattle.mb_steps.proofs.StepOwnStamped.{steady}
use Rattle.mb_steps.proofs.StepRounds.{ui_under}
use Rattle.mb_history_laws.specs.Speaks.{moves_gate, is_stamp, changes_view}
use Rattle.mb_history_laws.proofs.Framing.{here_stays}

module _ {S : Type 0} (self : Identity S) where
  -- ---- the own gate follows what this host stamps, and nothing else

  others_pass : (e : Entry) (d : History) → IsOwn self d → Adds self d e → is_stamp e ≡ false → moves_gate self.host e ≡ false
  others_pass (Accepted (message.Prepare m)) d own a s = own_passed self d (stamped.Prepare m) own a.gate
  others_pass (Accepted (message.Commit m)) d own a s = own_passed self d (stamped.Commit m) own a.gate
  others_pass (Accepted (message.Checkpoint m)) d own a s = own_passed self d (stamped.Checkpoint m) own a.gate
  others_pass (Accepted (message.ViewChange m)) d own a s = own_passed self d (stamped.ViewChange m) own a.gate
  others_pass (Accepted (message.NewView m)) d own a s = own_passed self d (stamped.NewView m) own a.gate
  others_pass (Accepted (message.Enter m)) d own a s = own_passed self d (stamped.Enter m) own a.gate
  others_pass (Accepted (message.Open m)) d own a s = own_passed self d (stamped.Open m) own a.gate
  others_pass (Accepted (message.Join m)) d own a s = own_passed self d (stamped.Join m) own a.gate
  others_pass (Accepted m) d own a s = refl
  others_pass (Stamped m) d own a s = absurd cc
  others_pass (Jumped h f) d own a s = a
  others_pass (Closed h c) d own a s = refl
  others_pass (Served pos placed) d own a s = refl
  others_pass (Executed slot) d own a s = refl
  others_pass (Installed pos parts) d own a s = refl
  others_pass DroppedParts d own a s = refl
  others_pass LostPatience d own a s = refl
  others_pass Nudged d own a s = refl

  signed_by : (d : History) (x m : StampedMessage) → signed self d x ≡ m → (ui_of m).host ≡ self.host
  signed_by d x m is = ap (λ y. (ui_of y).host) (sym is) ∙ ap (λ u. u.host) (ui_under (next_ui self d (bare_of x)) x)

  -- what this host stamps has its name
  pub own_sender : (d : History) (m : StampedMessage) → Makes self d m → (ui_of m).host ≡ self.host
  own_sender d (stamped.ViewChange m) (view, e, is) = signed_by d (view_change self d view) (stamped.ViewChange m) is
  own_sender d (stamped.NewView m) (changes, e, is) = signed_by d (new_view self d changes) (stamped.NewView m) is
  own_sender d (stamped.Enter m) (n, e, is) = signed_by d (enter n) (stamped.Enter m) is
  own_sender d (stamped.Open m) (e, plan, o, is) = signed_by d (opening e plan) (stamped.Open m) is
  own_sender d (stamped.Join m) (e, is) = signed_by d (join self d) (stamped.Join m) is
  own_sender d (stamped.Commit m) (p, k, b, e, is) = signed_by d (commit self d p k b) (stamped.Commit m) is
  own_sender d (stamped.Prepare m) (p, b, e, is) = signed_by d (prepare self d p b) (stamped.Prepare m) is
  own_sender d (stamped.Checkpoint m) (p, j, whole, is) = signed_by d (checkpoint self d p) (stamped.Checkpoint m) is

  -- What this host did not stamp leaves where it stands.
  pub others_leave_here : (e : Entry) (d : History) → Arises self (e ∷ d) → is_stamp e ≡ false → moves_gate self.host e ≡ false
  others_leave_here e d a s = others_pass e d (steady self d a.1).list.own a.0 s

  pub stands_still : (e : Entry) (d : History) → Arises self (e ∷ d) → is_stamp e ≡ false → here self (e ∷ d) ≡ here self d
  stands_still e d a s = here_stays self e d (others_leave_here e d a s)

  -- ---- views never fall

  view_is : (d : History) → Arises self d → view_of self d ≡ current_view initial_floor (said d)
  view_is d a = ap (λ f. f.view) (stands_here self d (steady self d a).list.own)

  view_more : (m : Bare) (l : List Bare) → is_ordered initial_floor self.shape self.host (inner self) (m ∷ l) ≡ true → current_view initial_floor l ≤ current_view initial_floor (m ∷ l)
  unfolding current_view is_ordered permits
  view_more (bare.ViewChange v x) l o =
      let a = and_parts (permits initial_floor self.shape self.host (inner self) l (bare.ViewChange v x)) (is_ordered initial_floor self.shape self.host (inner self) l) o in
      let up : nat_lt (current_view initial_floor l) v ≡ true = sym (rising initial_floor self.shape self.host (inner self) l v a.1) ∙ a.0 in
      omega (arith, ltb-true (current_view initial_floor l) v up)
  view_more (bare.Prepare v q x) l o = omega arith
  view_more (bare.Commit v q n c x) l o = omega arith
  view_more (bare.Checkpoint q t x) l o = omega arith
  view_more (bare.NewView v b e q x) l o = omega arith
  view_more (bare.Enter v c q) l o = omega arith
  view_more (bare.Open e x) l o = omega arith
  view_more (bare.Join v e c) l o = omega arith

  said_more : (m : StampedMessage) (d : History) → said (Stamped m ∷ d) ≡ bare_of m ∷ said d
  unfolding all_stamped
  said_more m d = refl

  pub views_rise : (e : Entry) (d : History) → Arises self (e ∷ d) → view_of self d ≤ view_of self (e ∷ d)
  views_rise (Stamped m) d a =
      let more : said (Stamped m ∷ d) ≡ bare_of m ∷ said d = said_more m d in
      let ordered = subst (λ (l : List Bare). is_ordered initial_floor self.shape self.host (inner self) l ≡ true) more (steady self (Stamped m ∷ d) a).list.ordered in
      let up = view_more (bare_of m) (said d) ordered in
      omega (arith, view_is d a.1, view_is (Stamped m ∷ d) a, ap (current_view initial_floor) more, up)
  views_rise e d a = omega (arith, ap (λ f. f.view) (stands_still e d a refl))

  -- A VIEW_CHANGE of this host goes to its view, which is above, and nothing else leaves the view.
  pub view_changed : (m : ViewChange) (d : History) → Arises self (Stamped (stamped.ViewChange m) ∷ d) → (view_of self (Stamped (stamped.ViewChange m) ∷ d) ≡ m.view) × (view_of self d < m.view)
  unfolding current_view is_ordered permits
  view_changed m d a =
      let e : StampedMessage = stamped.ViewChange m in
      let more : said (Stamped e ∷ d) ≡ bare_of e ∷ said d = said_more e d in
      let ordered = subst (λ (l : List Bare). is_ordered initial_floor self.shape self.host (inner self) l ≡ true) more (steady self (Stamped e ∷ d) a).list.ordered in
      let o = and_parts (permits initial_floor self.shape self.host (inner self) (said d) (bare_of e)) (is_ordered initial_floor self.shape self.host (inner self) (said d)) ordered in
      let up : nat_lt (current_view initial_floor (said d)) m.view ≡ true = sym (rising initial_floor self.shape self.host (inner self) (said d) m.view o.1) ∙ o.0 in
      (view_is (Stamped e ∷ d) a ∙ ap (current_view initial_floor) more, omega (arith, view_is d a.1, ltb-true (current_view initial_floor (said d)) m.view up))

  same_said : (m : StampedMessage) (d : History) → Arises self (Stamped m ∷ d) → current_view initial_floor (bare_of m ∷ said d) ≡ current_view initial_floor (said d) → view_of self (Stamped m ∷ d) ≡ view_of self d
  same_said m d a same = view_is (Stamped m ∷ d) a ∙ ap (current_view initial_floor) (said_more m d) ∙ same ∙ sym (view_is d a.1)

  pub view_stays : (e : Entry) (d : History) → Arises self (e ∷ d) → changes_view e ≡ false → view_of self (e ∷ d) ≡ view_of self d
  unfolding current_view
  view_stays (Stamped (stamped.ViewChange m)) d a s = absurd cc
  view_stays (Stamped (stamped.Prepare m)) d a s = same_said (stamped.Prepare m) d a refl
  view_stays (Stamped (stamped.Commit m)) d a s = same_said (stamped.Commit m) d a refl
  view_stays (Stamped (stamped.Checkpoint m)) d a s = same_said (stamped.Checkpoint m) d a refl
  view_stays (Stamped (stamped.NewView m)) d a s = same_said (stamped.NewView m) d a refl
  view_stays (Stamped (stamped.Enter m)) d a s = same_said (stamped.Enter m) d a refl
  view_stays (Stamped (stamped.Open m)) d a s = same_said (stamped.Open m) d a refl
  view_stays (Stamped (stamped.Join m)) d a s = same_said (stamped.Join m) d a refl
  view_stays e d a s = ap (λ f. f.view) (stands_still e d a refl)
