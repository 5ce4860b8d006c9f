-- Each stamp of a host, and each LOG that it sends, has fewer bytes than a message may have: what it shows of its own log is modest, and so is each
-- VIEW_CHANGE of which it makes a NEW_VIEW.
use Rattle.std.proofs.Common.{◌≡◌, ℕ, zero, suc, ◌+◌, ◌-◌, ◌≤◌, Bool, true, false, not, cond, List, [], ◌∷◌, ◌++◌, length, take, reverse, refl, ap, subst, ◌∙◌, arith, None}
use Rattle.std.specs.Prelude.{map, count_by, option_and_then}
use Rattle.std.specs.Int.{w8}
use Rattle.std.specs.List.{AllByRecursion}
use Rattle.std.proofs.lemmas.List.{length-append, reverse-append}
use Rattle.std.proofs.lemmas.List.Sums.{sum_by-cons, sum_by-append}
use Rattle.mb_base.specs.Shapes.{IsShape}
use Rattle.mb_base.specs.Spelling.{number}
use Rattle.mb_base.specs.declared.shape.Shape.{Shape}
use Rattle.mb_msg.specs.declared.message.Body.{Body}
use Rattle.mb_msg.specs.declared.message.Body.TheVariants.{Whole, Bare as Short}
use Rattle.mb_msg.specs.declared.change.ChangeBody.{ChangeBody}
use Rattle.mb_msg.specs.declared.change.NewViewBody.{NewViewBody}
use Rattle.mb_msg.specs.declared.change.NewView.{NewView}
use Rattle.mb_msg.specs.declared.change.ViewChange.{ViewChange}
use Rattle.mb_msg.specs.declared.stamped.Stamped.{Stamped as StampedMessage}
use Rattle.mb_msg.specs.declared.stamped.Stamped.TheVariants as stamped
use Rattle.mb_msg.specs.Bodies.{FitsBody, body_bytes, whole_body}
use Rattle.mb_msg.specs.Fits.{FitsChangeBody, FitsViewChange, FitsMember, FitsNewViewBody, FitsNewView, FitsStamped}
use Rattle.mb_msg.specs.Plans.{plan_end, plan_digest}
use Rattle.mb_msg.specs.Spelling.{change_body_bytes, view_change_bytes, member_bytes, new_view_body_bytes, new_view_bytes, stamped_bytes}
use Rattle.mb_msg.specs.Stamps.{bare_of}
use Rattle.mb_model.specs.UsableLogs.{is_normal_kind, log_fault}
use Rattle.mb_model.specs.GateChecks.{valid}
use Rattle.mb_model.specs.Held.{changes_of, plan_from}
use Rattle.mb_model.specs.Histories.{Entry, Stamped, History, Identity, view_of, counter_of, stamped as all_stamped}
use Rattle.mb_model.specs.Making.{view_change, new_view}
use Rattle.mb_model.proofs.LogForms.{normal_behind}
use Rattle.mb_model.specs.OwnLog.{is_normal, behind, behind_opening, behind_change, kept_forms, as_shown, log_start, log_kept, proof_of}
use Rattle.mb_model.specs.Sending.{next_ui}
use Rattle.mb_steps.specs.Arises.{Makes, Arises}
use Rattle.mb_steps.proofs.StepHeldEvidence.{announce_seen}
use Rattle.mb_steps.proofs.StepHeldStable.{changes_usable}
use Rattle.mb_steps.proofs.StepPlanBases.{IsUsable}
use Rattle.mb_host_laws.proofs.KeptForms.{mapped_keep}
use Rattle.mb_host_laws.proofs.Cases.{all_more}
use Rattle.mb_host_laws.specs.Rests.{Each}
use Rattle.mb_encodable.specs.Fitting.{HasValues, HasRoom}
use Rattle.mb_encodable.proofs.Changes.{changes_fit}
use Rattle.mb_host_laws.proofs.DistinctHosts.{chosen_members}
use Rattle.mb_encodable.proofs.Logs.{proof_fits}
use Rattle.mb_encodable.proofs.ReadKnown.{AllKnown}
use Rattle.mb_encodable.proofs.Room.{weight, count_take, KeepsRoom, room_now}
use Rattle.mb_encodable.proofs.ShownSizes.{is_whole_open, IsModest, change_limit, change_short, usable_modest}
use Rattle.mb_encodable.proofs.Sizes.{length8, length64, flat_short, ui_short, prepare_short, commit_short, checkpoint_short, enter_short, open_short, opened_short, join_short}

-- ---- counts

one_of : {A : Type 0} (p : A → Bool) (x : A) (l : List A) → count_by p (x ∷ l) ≡ weight (p x) + count_by p l
one_of p x l = sum_by-cons (λ y. cond (p y) 1 0) x l

count_map : {A B : Type 0} (p : B → Bool) (f : A → B) (l : List A) → count_by p (map f l) ≡ count_by (λ x. p (f x)) l
count_map p f [] = refl
count_map p f (x ∷ l) = omega (arith, one_of p (f x) (map f l), one_of (λ x. p (f x)) x l, count_map p f l)

count_reverse : {A : Type 0} (p : A → Bool) (l : List A) → count_by p (reverse l) ≡ count_by p l
count_reverse p [] = refl
count_reverse p (x ∷ l) =
    let turned : count_by p (reverse (x ∷ l)) ≡ count_by p (reverse l ++ x ∷ []) = ap (count_by p) (reverse-append (x ∷ []) l) in
    omega (arith, turned, sum_by-append (λ y. cond (p y) 1 0) (reverse l) (x ∷ []), one_of p x [], one_of p x l, count_reverse p l)

-- What a function keeps is counted behind it as before.
count_kept : {A : Type 0} (p : A → Bool) (f : A → A) → ((x : A) → p (f x) ≡ p x) → (n : ℕ) (l : List A) → count_by p (take n (map f l)) ≡ count_by p (take n l)
count_kept p f same zero l = refl
count_kept p f same (suc n) [] = refl
count_kept p f same (suc n) (x ∷ l) =
    let e : weight (p (f x)) ≡ weight (p x) = ap weight (same x) in
    omega (arith, e, one_of p (f x) (take n (map f l)), one_of p x (take n l), count_kept p f same n l)

-- ---- forms

normal_shown : (x : StampedMessage) → is_normal_kind (as_shown x) ≡ is_normal x
normal_shown (stamped.Prepare m) = refl
normal_shown (stamped.Commit m) = refl
normal_shown (stamped.Checkpoint m) = refl
normal_shown (stamped.ViewChange m) = refl
normal_shown (stamped.NewView m) = refl
normal_shown (stamped.Enter m) = refl
normal_shown (stamped.Open m) = refl
normal_shown (stamped.Join m) = refl

forms_counted : (p : StampedMessage → Bool) → ((m x : StampedMessage) → p (behind m x) ≡ p x) → (n : ℕ) (l : List StampedMessage) → count_by p (take n (kept_forms l)) ≡ count_by p (take n l)
unfolding kept_forms
forms_counted p same zero l = refl
forms_counted p same (suc n) [] = refl
forms_counted p same (suc n) (m ∷ l) =
    omega (arith, one_of p m (take n (map (behind m) (kept_forms l))), one_of p m (take n l), count_kept p (behind m) (same m) n (kept_forms l), forms_counted p same n l)

-- an own OPEN with its body
abbrev opens : StampedMessage → Bool
opens m = is_whole_open (as_shown m)

opening_none : (l : List StampedMessage) → count_by opens (map behind_opening l) ≡ 0
opening_none [] = refl
opening_none (x ∷ l) = let none : weight (opens (behind_opening x)) ≡ 0 = go x in omega (arith, one_of opens (behind_opening x) (map behind_opening l), none, opening_none l) where
  go : (x : StampedMessage) → weight (opens (behind_opening x)) ≡ 0
  go (stamped.Prepare m) = refl
  go (stamped.Commit m) = refl
  go (stamped.Checkpoint m) = refl
  go (stamped.ViewChange m) = refl
  go (stamped.NewView m) = refl
  go (stamped.Enter m) = refl
  go (stamped.Open m) = refl
  go (stamped.Join m) = refl

opens_change : (x : StampedMessage) → opens (behind_change x) ≡ opens x
opens_change (stamped.Prepare m) = refl
opens_change (stamped.Commit m) = refl
opens_change (stamped.Checkpoint m) = refl
opens_change (stamped.ViewChange m) = refl
opens_change (stamped.NewView m) = refl
opens_change (stamped.Enter m) = refl
opens_change (stamped.Open m) = refl
opens_change (stamped.Join m) = refl

mapped_opens : (f : StampedMessage → StampedMessage) → ((x : StampedMessage) → opens (f x) ≡ opens x) → (l : List StampedMessage) → count_by opens (map f l) ≡ count_by opens l
mapped_opens f same [] = refl
mapped_opens f same (x ∷ l) = let e : weight (opens (f x)) ≡ weight (opens x) = ap weight (same x) in omega (arith, e, one_of opens (f x) (map f l), one_of opens x l, mapped_opens f same l)

at_most_one : (b : Bool) → weight b ≤ 1
at_most_one true = omega arith
at_most_one false = omega arith

-- Of the OPENs in the own log one keeps its body at most.
one_open : (l : List StampedMessage) → count_by opens (kept_forms l) ≤ 1
unfolding kept_forms
one_open [] = omega arith
one_open (stamped.Open m ∷ l) = omega (arith, one_of opens (stamped.Open m) (map behind_opening (kept_forms l)), at_most_one (opens (stamped.Open m)), opening_none (kept_forms l))
one_open (stamped.Join m ∷ l) = omega (arith, one_of opens (stamped.Join m) (map behind_opening (kept_forms l)), opening_none (kept_forms l))
one_open (stamped.ViewChange m ∷ l) = omega (arith, one_of opens (stamped.ViewChange m) (map behind_change (kept_forms l)), mapped_opens behind_change opens_change (kept_forms l), one_open l)
one_open (stamped.Prepare m ∷ l) = omega (arith, one_of opens (stamped.Prepare m) (map (λ x. x) (kept_forms l)), mapped_opens (λ x. x) (λ x. refl) (kept_forms l), one_open l)
one_open (stamped.Commit m ∷ l) = omega (arith, one_of opens (stamped.Commit m) (map (λ x. x) (kept_forms l)), mapped_opens (λ x. x) (λ x. refl) (kept_forms l), one_open l)
one_open (stamped.Checkpoint m ∷ l) = omega (arith, one_of opens (stamped.Checkpoint m) (map (λ x. x) (kept_forms l)), mapped_opens (λ x. x) (λ x. refl) (kept_forms l), one_open l)
one_open (stamped.NewView m ∷ l) = omega (arith, one_of opens (stamped.NewView m) (map (λ x. x) (kept_forms l)), mapped_opens (λ x. x) (λ x. refl) (kept_forms l), one_open l)
one_open (stamped.Enter m ∷ l) = omega (arith, one_of opens (stamped.Enter m) (map (λ x. x) (kept_forms l)), mapped_opens (λ x. x) (λ x. refl) (kept_forms l), one_open l)

taken : (k : ℕ) (l : List StampedMessage) → length l ≤ k → count_by opens (take k l) ≡ count_by opens l
taken zero [] le = refl
taken (suc k) [] le = refl
taken zero (x ∷ l) le = absurd (omega (arith, le))
taken (suc k) (x ∷ l) le = omega (arith, one_of opens x (take k l), one_of opens x l, taken k l (omega (arith, le)))

same_counts : (p q : StampedMessage → Bool) → ((x : StampedMessage) → p x ≡ q x) → (l : List StampedMessage) → count_by p l ≡ count_by q l
same_counts p q same [] = refl
same_counts p q same (x ∷ l) = let e : weight (p x) ≡ weight (q x) = ap weight (same x) in omega (arith, e, one_of p x l, one_of q x l, same_counts p q same l)

module _ {S : Type 0} (self : Identity S) where
  shown_counted : (p : _ → Bool) (d : History) → count_by p (proof_of self d).entries ≡ count_by (λ m. p (as_shown m)) (log_kept self d)
  shown_counted p d = count_map p as_shown (reverse (log_kept self d)) ∙ count_reverse (λ m. p (as_shown m)) (log_kept self d)

  -- What this host shows of its log is modest.
  pub proof_modest : (d : History) → HasRoom self d → IsModest self.shape (proof_of self d).entries
  proof_modest d r =
      let n : ℕ = counter_of d - log_start self d in
      let normal = shown_counted is_normal_kind d in
      let others = shown_counted (λ e. not (is_normal_kind e)) d in
      let open_ones = shown_counted is_whole_open d in
      let a = same_counts (λ m. is_normal_kind (as_shown m)) is_normal normal_shown (log_kept self d) in
      let b = same_counts (λ m. not (is_normal_kind (as_shown m))) (λ m. not (is_normal m)) (λ x. ap not (normal_shown x)) (log_kept self d) in
      let c = forms_counted is_normal normal_behind n (all_stamped d) in
      let e = forms_counted (λ m. not (is_normal m)) (λ m x. ap not (normal_behind m x)) n (all_stamped d) in
      let forms : List StampedMessage = kept_forms (all_stamped d) in
      let few = count_take opens forms n (n + length forms) (omega arith) in
      let all = taken (n + length forms) forms (omega arith) in
      record { normal = omega (arith, normal, a, c, r.normal); others = omega (arith, others, b, e, r.others); opens = omega (arith, open_ones, few, all, one_open (all_stamped d)) }

-- ---- bodies of stamps

-- What a VIEW_CHANGE shows is short, where it shows it.
abbrev pub IsShortBody : Body ChangeBody → Type 0
IsShortBody (Whole b) = length (change_body_bytes b) ≤ change_limit
IsShortBody (Short d) = Unit {0}

-- So it is with each of which a NEW_VIEW is made.
abbrev pub AreShortMembers : Body NewViewBody → Type 0
AreShortMembers (Whole b) = AllByRecursion (λ (m : ViewChange). IsShortBody m.body) b.changes
AreShortMembers (Short d) = Unit {0}

abbrev pub HasShortBodies : StampedMessage → Type 0
HasShortBodies (stamped.ViewChange m) = IsShortBody m.body
HasShortBodies (stamped.NewView m) = AreShortMembers m.body
HasShortBodies m = Unit {0}

abbrev pub StampsShort : Entry → History → Type 0
StampsShort (Stamped m) d = HasShortBodies m
StampsShort e d = Unit {0}

opening_short : (x : StampedMessage) → HasShortBodies x → HasShortBodies (behind_opening x)
opening_short (stamped.Prepare m) h = tt
opening_short (stamped.Commit m) h = tt
opening_short (stamped.Open m) h = tt
opening_short x h = h

changed_short : (x : StampedMessage) → HasShortBodies x → HasShortBodies (behind_change x)
changed_short (stamped.ViewChange m) h = tt
changed_short (stamped.NewView m) h = tt
changed_short x h = h

pub mapped_short : (m : StampedMessage) (l : List StampedMessage) → AllByRecursion HasShortBodies l → AllByRecursion HasShortBodies (map (behind m) l)
mapped_short m l a = mapped_keep HasShortBodies opening_short changed_short m l a

pub all_both : {A : Type 0} (P Q : A → Type 0) (l : List A) → AllByRecursion P l → AllByRecursion Q l → AllByRecursion (λ (x : A). P x × Q x) l
all_both P Q [] a b = tt
all_both P Q (x ∷ l) a b = ((a.0, b.0), all_both P Q l a.1 b.1)

module _ {S : Type 0} (self : Identity S) (shape : IsShape self.shape) where
  -- a VIEW_CHANGE of which a NEW_VIEW may be made
  abbrev MayBeMember : ViewChange → Type 0
  MayBeMember m = FitsMember self.shape m × IsUsable self m

  usable_body : (m : ViewChange) (x : Body ChangeBody) → m.body ≡ x → MayBeMember m → IsShortBody x
  usable_body m (Whole b) is f =
      let fits : FitsChangeBody self.shape b = subst (λ (y : Body ChangeBody). FitsBody (FitsChangeBody self.shape) y) is f.0.0.body in
      let usable : log_fault self.shape self.secret (valid self) m.ui.host m.view m.ui.counter b ≡ None = shown m.body is f.1 in
      change_short self.shape shape b fits (usable_modest self.shape self.secret (valid self) m.ui.host m.view m.ui.counter b usable) where
        shown : (x : Body ChangeBody) → x ≡ Whole b → option_and_then (log_fault self.shape self.secret (valid self) m.ui.host m.view m.ui.counter) (whole_body x) ≡ None
            → log_fault self.shape self.secret (valid self) m.ui.host m.view m.ui.counter b ≡ None
        shown x e u = rw e at u
  usable_body m (Short d) is f = tt

  stamp_short : (d : History) (m : StampedMessage) → Makes self d m → Arises self d → AllKnown self d → Each (HasValues self) d → HasRoom self d → HasShortBodies m
  stamp_short d (stamped.ViewChange m) (view, e, is) a k v r =
      let made : ViewChange = record { view = view; body = Whole (proof_of self d); ui = next_ui self d (bare_of (view_change self d view)) } in
      let same : made ≡ m = cc is in
      subst (λ (y : ViewChange). IsShortBody y.body) same (change_short self.shape shape (proof_of self d) (proof_fits self d k v r) (proof_modest self d r))
  stamp_short d (stamped.NewView m) (changes, e, is) a k v r =
      let made : NewView = record { view = view_of self d; base = (plan_from self changes).base.pos; end = plan_end (plan_from self changes); plan = plan_digest (plan_from self changes); body = Whole (record { changes = changes }); ui = next_ui self d (bare_of (new_view self d changes)) } in
      let same : made ≡ m = cc is in
      let held : AllByRecursion MayBeMember (changes_of self d) = all_both (FitsMember self.shape) (IsUsable self) (changes_of self d) (changes_fit self d v) (changes_usable self d a) in
      let members = chosen_members self MayBeMember (λ c f. f.0.0.ui.host) d held (view_of self d) changes (announce_seen self d changes e).1 in
      subst (λ (y : NewView). AreShortMembers y.body) same (all_more MayBeMember (λ (c : ViewChange). IsShortBody c.body) (λ c f. usable_body c c.body refl f) changes members.1.1)
  stamp_short d (stamped.Enter m) x a k v r = tt
  stamp_short d (stamped.Open m) x a k v r = tt
  stamp_short d (stamped.Join m) x a k v r = tt
  stamp_short d (stamped.Commit m) x a k v r = tt
  stamp_short d (stamped.Prepare m) x a k v r = tt
  stamp_short d (stamped.Checkpoint m) x a k v r = tt

  pub stamps_short : (d : History) → Arises self d → AllKnown self d → Each (HasValues self) d → KeepsRoom self d → Each StampsShort d
  stamps_short [] a k v r = tt
  stamps_short (Stamped m ∷ d) a k v r = (stamp_short d m a.0 a.1 k.1 v.1 (room_now self d r.1), stamps_short d a.1 k.1 v.1 r.1)
  stamps_short (x ∷ d) a k v r = (tt, stamps_short d a.1 k.1 v.1 r.1)

-- ---- bytes of a stamped message

-- the most that it has
abbrev pub stamped_limit : ℕ
stamped_limit = 4130347

module _ (s : Shape) (shape : IsShape s) where
  body_limit : (x : Body ChangeBody) → FitsBody (FitsChangeBody s) x → IsShortBody x → length (body_bytes change_body_bytes x) ≤ change_limit
  body_limit (Whole b) f h = h
  body_limit (Short d) f h = omega (arith, f)

  pub change_bytes_short : (m : ViewChange) → FitsViewChange s m → IsShortBody m.body → length (view_change_bytes m) ≤ 1032561
  unfolding view_change_bytes
  change_bytes_short m f h = let ui = ui_short s shape m.ui f.ui in let body = body_limit m.body f.body h in simp (length-append, length8, length64) (omega (arith, ui, body))

  member_short : (m : ViewChange) → FitsMember s m × IsShortBody m.body → length (member_bytes m) ≤ 1032562
  unfolding member_bytes
  member_short m f = omega (arith, length-append (number w8 7) (view_change_bytes m), length8 7, change_bytes_short m f.0.0 f.1)

  members_limit : (x : Body NewViewBody) → FitsBody (FitsNewViewBody s) x → AreShortMembers x → length (body_bytes new_view_body_bytes x) ≤ 4130248
  unfolding new_view_body_bytes
  members_limit (Whole b) f h =
      let both = all_both (FitsMember s) (λ (m : ViewChange). IsShortBody m.body) b.changes f.1.1 h in
      let each = flat_short member_bytes 1032562 b.changes (short_members both) in
      omega (arith, each, f.0, shape.faults.1) where
        short_members : AllByRecursion (λ (m : ViewChange). FitsMember s m × IsShortBody m.body) b.changes → AllByRecursion (λ (m : ViewChange). length (member_bytes m) ≤ 1032562) b.changes
        short_members a = all_more (λ (m : ViewChange). FitsMember s m × IsShortBody m.body) (λ (m : ViewChange). length (member_bytes m) ≤ 1032562) (λ m f. member_short m f) b.changes a
  members_limit (Short d) f h = omega (arith, f)

  new_view_short : (m : NewView) → FitsNewView s m → AreShortMembers m.body → length (new_view_bytes m) ≤ 4130346
  unfolding new_view_bytes
  new_view_short m f h = let ui = ui_short s shape m.ui f.ui in let body = members_limit m.body f.body h in simp (length-append, length8, length64, f.plan) (omega (arith, ui, body))

  -- A stamped message has so many bytes at most.
  pub stamped_short : (m : StampedMessage) → FitsStamped s m → HasShortBodies m → length (stamped_bytes m) ≤ stamped_limit
  unfolding stamped_bytes
  stamped_short (stamped.Prepare m) f h = let le = prepare_short s shape m f in simp (length-append, length8) (omega (arith, le))
  stamped_short (stamped.Commit m) f h = let le = commit_short s shape m f in simp (length-append, length8) (omega (arith, le))
  stamped_short (stamped.Checkpoint m) f h = let le = checkpoint_short s shape m f in simp (length-append, length8) (omega (arith, le))
  stamped_short (stamped.ViewChange m) f h = let le = change_bytes_short m f h in simp (length-append, length8) (omega (arith, le))
  stamped_short (stamped.NewView m) f h = let le = new_view_short m f h in simp (length-append, length8) (omega (arith, le))
  stamped_short (stamped.Enter m) f h = let le = enter_short s shape m f in simp (length-append, length8) (omega (arith, le))
  stamped_short (stamped.Open m) f h = let le = open_short s shape m f in let body = opened_short s shape m.evidence m.body f.evidence f.body in simp (length-append, length8) (omega (arith, le, body))
  stamped_short (stamped.Join m) f h = let le = join_short s shape m f in simp (length-append, length8) (omega (arith, le))
