-- The strings of plans whose digests a step compares or stamps: exactly where a check comes to the comparison.
use Rattle.std.specs.Prelude.{ℕ, Bool, true, ◌&&◌, not, List, [], ◌∷◌, ◌++◌, ◌==◌, Option, Some, None, if◌then◌else◌, is_none}
use Rattle.mb_base.specs.Shapes.{Bytes}
use Rattle.mb_parts.specs.declared.floor.Floor.{Floor}
use Rattle.mb_parts.specs.declared.certificates.Evidence.{Evidence}
use Rattle.mb_msg.specs.declared.change.OpenBody.{OpenBody}
use Rattle.mb_msg.specs.declared.change.ChangeBody.{ChangeBody}
use Rattle.mb_msg.specs.declared.change.NewViewBody.{NewViewBody}
use Rattle.mb_msg.specs.declared.change.ViewChange.{ViewChange}
use Rattle.mb_msg.specs.declared.stamped.Shown.{Shown}
use Rattle.mb_msg.specs.declared.stamped.Shown.TheVariants as shown
use Rattle.mb_msg.specs.declared.stamped.Stamped.{Stamped as StampedMessage}
use Rattle.mb_msg.specs.declared.stamped.Stamped.TheVariants as stamped
use Rattle.mb_msg.specs.Bodies.{inside_whole}
use Rattle.mb_msg.specs.Plans.{plan_text}
use Rattle.mb_model.specs.UsableLogs.{is_comparable_body, is_ill_founded, is_too_long, entry_fault, floor_of}
use Rattle.mb_model.specs.Histories.{History, Identity}
use Rattle.mb_model.specs.Held.{plan_from, is_current}
use Rattle.mb_model.specs.GateChecks.{valid, identifier_refusal}
use Rattle.mb_model.specs.KindChecks.{is_member, member_fault, members_fault}

abbrev pub strings_where : Bool → List Bytes → List Bytes
strings_where test strings = if test then strings else []

-- what is in a part that may be absent
abbrev pub inside_some : {A B : Type 0} → (A → List B) → Option A → List B
inside_some f None = []
inside_some f (Some x) = f x

-- The check of an entry comes to its body, which is the last one.
abbrev pub reaches_body : Option ℕ → Bool
reaches_body None = true
reaches_body (Some reason) = reason == 8

module _ {S : Type 0} (self : Identity S) where
  -- ---- in a whole OPEN: where all that is asked before the digest holds

  abbrev pub compared_in_open : Evidence → OpenBody → List Bytes
  compared_in_open e b = strings_where (is_comparable_body self.shape self.secret (valid self) e.base e.end b) (plan_text (record { base = b.stable; batches = b.batches }) ∷ [])

  -- ---- in a VIEW_CHANGE: its entries up to the first that fails

  abbrev pub compared_in_entry : Shown → List Bytes
  compared_in_entry (shown.Open m) = inside_whole (compared_in_open m.evidence) m.body
  compared_in_entry _ = []

  abbrev pub fault_at : ℕ → ℕ → Floor → List Shown → Shown → List Shown → Option ℕ
  fault_at host stable o before e behind = entry_fault self.shape self.secret (valid self) host stable o before e behind

  unfoldable pub compared_in_entries : ℕ → ℕ → Floor → List Shown → List Shown → List Bytes
  compared_in_entries host stable o before [] = []
  compared_in_entries host stable o before (e ∷ behind) =
      strings_where (reaches_body (fault_at host stable o before e behind)) (compared_in_entry e)
      ++ strings_where (is_none (fault_at host stable o before e behind)) (compared_in_entries host stable o (e ∷ before) behind)

  -- What is asked before the entries holds.
  abbrev pub reaches_entries : ChangeBody → Bool
  reaches_entries b = not (is_ill_founded self.shape self.secret (valid self) b) && not (is_too_long self.shape self.secret (valid self) b.entries)

  abbrev pub compared_in_body : ℕ → ChangeBody → List Bytes
  compared_in_body host b = strings_where (reaches_entries b)
      (inside_some (λ o. compared_in_entries host b.stable.pos o [] b.entries) (floor_of self.shape (valid self) host b.floor))

  abbrev pub compared_in_change : ViewChange → List Bytes
  compared_in_change m = inside_whole (compared_in_body m.ui.host) m.body

  -- ---- in a NEW_VIEW: its members up to the first that fails, and its plan where none does

  -- What is none of its members isn't looked into.
  unfoldable pub compared_in_members : ℕ → List ViewChange → List Bytes
  compared_in_members view [] = []
  compared_in_members view (m ∷ ms) =
      strings_where (is_member self view m) (compared_in_change m)
      ++ strings_where (is_none (member_fault self view m)) (compared_in_members view ms)

  abbrev pub compared_in_new_view : ℕ → NewViewBody → List Bytes
  compared_in_new_view view b = compared_in_members view b.changes
      ++ strings_where (is_none (members_fault self view 0 b.changes)) (plan_text (plan_from self b.changes) ∷ [])

  -- ---- in a given message: its kind is looked at where certificate, counter and gate let it pass

  abbrev pub compared_in_kind : History → StampedMessage → List Bytes
  compared_in_kind d (stamped.ViewChange m) = strings_where (is_current self d m.view) (compared_in_change m)
  compared_in_kind d (stamped.NewView m) = strings_where (is_current self d m.view) (inside_whole (compared_in_new_view m.view) m.body)
  compared_in_kind d (stamped.Open m) = strings_where (is_current self d m.evidence.view) (inside_whole (compared_in_open m.evidence) m.body)
  compared_in_kind d _ = []

  unfoldable pub compared_in : History → StampedMessage → List Bytes
  compared_in d m = strings_where (is_none (identifier_refusal self d m)) (compared_in_kind d m)
