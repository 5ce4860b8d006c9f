-- In a log that was found usable each plan that it shows is known: its string was compared, so it is hashed, and the digest stands for it.
use Rattle.std.proofs.Common.{◌≡◌, ℕ, zero, suc, ◌+◌, Bool, true, false, ◌&&◌, List, [], ◌∷◌, ◌++◌, length, refl, sym, ap, subst, ◌∙◌, arith, Option, Some, None}
use Rattle.std.specs.Prelude.{map, not, nat_lt, ◌==◌, option_map}
use Rattle.std.specs.Bool.{then_some}
use Rattle.std.specs.List.{AllByRecursion, list_any}
use Rattle.std.proofs.lemmas.Bool.{and_parts, eqb-true}
use Rattle.sha2.specs.Sha256.{sha256}
use Rattle.mb_base.specs.Shapes.{Bytes, span}
use Rattle.mb_base.specs.declared.shape.Shape.{Shape}
use Rattle.mb_usig.specs.Tags.{same_bytes}
use Rattle.mb_usig.proofs.Laws.{same_bytes-true}
use Rattle.mb_parts.specs.declared.floor.Floor.{Floor}
use Rattle.mb_parts.specs.declared.certificates.StableCert.{StableCert}
use Rattle.mb_parts.specs.declared.certificates.StableMember.{StableMember}
use Rattle.mb_parts.specs.Bares.{batch_digest}
use Rattle.mb_parts.specs.Certificates.{is_stable, inner_valid}
use Rattle.mb_parts.specs.Ordered.{permits}
use Rattle.mb_parts.specs.Fits.{FitsStable, FitsHeld, IsDigest}
use Rattle.mb_msg.specs.declared.message.Body.{Body}
use Rattle.mb_msg.specs.declared.message.Body.TheVariants.{Whole, Bare as Short}
use Rattle.mb_msg.specs.declared.change.OpenBody.{OpenBody}
use Rattle.mb_msg.specs.declared.change.ChangeBody.{ChangeBody}
use Rattle.mb_msg.specs.declared.change.Plan.{Plan}
use Rattle.mb_msg.specs.declared.stamped.Shown.{Shown}
use Rattle.mb_msg.specs.declared.stamped.Shown.TheVariants as shown
use Rattle.mb_msg.specs.Stamps.{bare_of_shown, ui_of_shown}
use Rattle.mb_msg.specs.Plans.{plan_text, plan_string}
use Rattle.mb_agreement.specs.Agreement.{IsKnownPlan, IsKnownBody}
use Rattle.mb_model.specs.UsableLogs.{shows_body, has_body, is_opening_entry, same_truth, height, bares, entry_claim, is_comparable_body, is_plan_body, is_sound_body, is_ill_founded, is_too_long, entry_fault, entries_fault, fault_from, floor_of, log_fault}
use Rattle.mb_model.specs.Histories.{Identity}
use Rattle.mb_model.specs.GateChecks.{valid}
use Rattle.mb_model.specs.Compared.{strings_where, inside_some, compared_in_open, compared_in_entry, compared_in_entries, reaches_entries, compared_in_body}
use Rattle.mb_model.proofs.Options.{or_none, then_none}
use Rattle.mb_model.proofs.UsableLaws.{not_refused, refused_not, map_none}
use Rattle.mb_model.specs.Members.{In}
use Rattle.mb_world_model.specs.Hashed.{HashesApart}
use Rattle.mb_world_model.specs.WorldRecord.{plans_of}
use Rattle.mb_host_laws.proofs.Cases.{all_left, all_right}
use Rattle.mb_views.proofs.Planned.{FitsBase, plans_known}
use Rattle.mb_msg.specs.Bodies.{inside_whole}
use Rattle.mb_host_laws.proofs.PlanFits.{OfBody, OfEntry, FitsBases}

held_state : (s : Shape) (pos : ℕ) (state : Bytes) (members : List StableMember) → FitsHeld s pos state members → IsDigest state
held_state s zero state members h = subst (λ (x : Bytes). IsDigest x) (sym h.0) refl
held_state s (suc pos) state members h = h.0

-- A stable certificate that fits can be the base of a plan.
pub stable_base : (s : Shape) (c : StableCert) → FitsStable s c → FitsBase c
stable_base s c f = record { pos = omega (arith, f.pos.0); state = held_state s c.pos c.state c.members f.held }

module _ {S : Type 0} (self : Identity S) (strings : List Bytes) (apart : HashesApart strings) where
  -- The string of a whole OPEN's plan was compared, and the digests are the same.
  body_known : (base end : ℕ) (plan : Bytes) (b : OpenBody) → is_plan_body self.shape self.secret (valid self) base end plan b ≡ true → FitsStable self.shape b.stable
      → AllByRecursion (In strings) (strings_where (is_comparable_body self.shape self.secret (valid self) base end b) (plan_text (record { base = b.stable; batches = b.batches }) ∷ []))
      → plans_of strings plan ≡ Some (record { base = base; digests = map batch_digest b.batches })
  body_known base end plan b sound fits hashed =
      let a = and_parts (is_comparable_body self.shape self.secret (valid self) base end b) (same_bytes plan (sha256 (plan_string base b.stable.state (map batch_digest b.batches)))) sound in
      let c = and_parts (is_stable self.shape (valid self) b.stable) _ a.0 in
      let d = and_parts (b.stable.pos == base) _ c.1 in
      let p : Plan = record { base = b.stable; batches = b.batches } in
      let place : b.stable.pos ≡ base = eqb-true b.stable.pos base d.0 in
      let there : AllByRecursion (In strings) (plan_text p ∷ []) = rw a.0 at hashed in
      let digest : sha256 (plan_string base b.stable.state (map batch_digest b.batches)) ≡ plan = sym (same_bytes-true plan _ a.1) in
      subst (λ (n : ℕ). plans_of strings plan ≡ Some (record { base = n; digests = map batch_digest b.batches })) place
      (plans_known strings p plan apart there.0 (stable_base self.shape b.stable fits) (ap (λ (n : ℕ). sha256 (plan_string n b.stable.state (map batch_digest b.batches))) place ∙ digest))

  entry_known : (e : Shown) → is_sound_body self.shape self.secret (valid self) e ≡ true → OfEntry (FitsStable self.shape) e → AllByRecursion (In strings) (compared_in_entry self e) → IsKnownPlan (plans_of strings) e
  entry_known (shown.Open m) sound fits hashed = go m.body refl sound fits hashed where
    go : (b : Body OpenBody) → m.body ≡ b → is_sound_body self.shape self.secret (valid self) (shown.Open m) ≡ true → OfBody (FitsStable self.shape) m.body → AllByRecursion (In strings) (inside_whole (compared_in_open self m.evidence) m.body)
        → IsKnownBody (plans_of strings) m.evidence.base m.evidence.plan m.body
    go (Short d) is s f h = rw is tt
    go (Whole b) is s f h = rw is (body_known m.evidence.base m.evidence.end m.evidence.plan b (rw is at s) (subst (λ (x : Body OpenBody). OfBody (FitsStable self.shape) x) is f) (rw is at h))
  entry_known (shown.Prepare m) sound fits hashed = tt
  entry_known (shown.Commit m) sound fits hashed = tt
  entry_known (shown.Checkpoint m) sound fits hashed = tt
  entry_known (shown.ViewChange m) sound fits hashed = tt
  entry_known (shown.NewView m) sound fits hashed = tt
  entry_known (shown.Enter m) sound fits hashed = tt
  entry_known (shown.Join m) sound fits hashed = tt

  sound_entry : (host stable : ℕ) (o : Floor) (before : List Shown) (e : Shown) (behind : List Shown) → entry_fault self.shape self.secret (valid self) host stable o before e behind ≡ None → is_sound_body self.shape self.secret (valid self) e ≡ true
  unfolding entry_fault
  sound_entry host stable o before e behind h =
      let a = not_refused ((ui_of_shown e).counter == o.counter + length before + 1) 3 _ h in
      let b = not_refused ((ui_of_shown e).host == host && valid self (entry_claim host e)) 4 _ a.1 in
      let c = not_refused (permits o self.shape host (inner_valid self.shape (valid self)) (bares before) (bare_of_shown e)) 5 _ b.1 in
      let d = not_refused (same_truth (shows_body e) (has_body e && not (list_any is_opening_entry behind))) 6 _ c.1 in
      let f = refused_not (nat_lt (stable + span self.shape) (height e)) 7 _ d.1 in
      (not_refused (is_sound_body self.shape self.secret (valid self) e) 8 _ f.1).0

  entries_known : (host stable : ℕ) (o : Floor) (before es : List Shown) → entries_fault self.shape self.secret (valid self) host stable o before es ≡ None → AllByRecursion (OfEntry (FitsStable self.shape)) es
      → AllByRecursion (In strings) (compared_in_entries self host stable o before es) → AllByRecursion (IsKnownPlan (plans_of strings)) es
  unfolding entries_fault compared_in_entries
  entries_known host stable o before [] h f c = tt
  entries_known host stable o before (e ∷ es) h f c =
      let parts = or_none (option_map (λ reason. (length before, reason)) (entry_fault self.shape self.secret (valid self) host stable o before e es)) (entries_fault self.shape self.secret (valid self) host stable o (e ∷ before) es) h in
      let none : entry_fault self.shape self.secret (valid self) host stable o before e es ≡ None = map_none (λ reason. (length before, reason)) _ parts.0 in
      let strings_of : AllByRecursion (In strings) (compared_in_entry self e ++ compared_in_entries self host stable o (e ∷ before) es) = rw none at c in (
        entry_known e (sound_entry host stable o before e es none) f.0 (all_left (In strings) (compared_in_entry self e) (compared_in_entries self host stable o (e ∷ before) es) strings_of),
        entries_known host stable o (e ∷ before) es parts.1 f.1 (all_right (In strings) (compared_in_entry self e) (compared_in_entries self host stable o (e ∷ before) es) strings_of),
      )

  -- of a whole log
  pub log_known : (host view counter : ℕ) (b : ChangeBody) → log_fault self.shape self.secret (valid self) host view counter b ≡ None → FitsBases self.shape b
      → AllByRecursion (In strings) (compared_in_body self host b) → AllByRecursion (IsKnownPlan (plans_of strings)) b.entries
  unfolding log_fault
  log_known host view counter b none fits hashed = go (floor_of self.shape (valid self) host b.floor) refl none hashed where
    go : (o : Option Floor) → floor_of self.shape (valid self) host b.floor ≡ o → fault_from self.shape self.secret (valid self) host view counter b o ≡ None
        → AllByRecursion (In strings) (strings_where (reaches_entries self b) (inside_some (λ x. compared_in_entries self host b.stable.pos x [] b.entries) (floor_of self.shape (valid self) host b.floor)))
        → AllByRecursion (IsKnownPlan (plans_of strings)) b.entries
    go None is none h = absurd cc
    go (Some o) is none h =
        let ill : Bool = is_ill_founded self.shape self.secret (valid self) b in
        let long : Bool = is_too_long self.shape self.secret (valid self) b.entries in
        let a = or_none (then_some ill (0, 2)) _ none in
        let c = or_none (then_some long (0, 9)) _ a.1 in
        let d = or_none (entries_fault self.shape self.secret (valid self) host b.stable.pos o [] b.entries) _ c.1 in
        let well : ill ≡ false = then_none ill (0, 2) a.0 in
        let short : long ≡ false = then_none long (0, 9) c.0 in
        entries_known host b.stable.pos o [] b.entries d.0 fits.entries (rw (well, short, is) at h)
