-- Which rule is the first that is enabled, test by test.
use Rattle.std.proofs.Common.{◌≡◌, ℕ, ◌+◌, Bool, true, false, ◌&&◌, not, Option, Some, None, is_some, refl, sym, ap, ◌∙◌, subst}
use Rattle.std.specs.Prelude.{option_map, nat_le, nat_lt, ◌==◌}
use Rattle.std.specs.Option.{option_or}
use Rattle.mb_base.specs.Limits.{ahead_limit}
use Rattle.mb_base.specs.declared.shape.Shape.{Shape}
use Rattle.mb_base.specs.Shapes.{primary}
use Rattle.mb_parts.specs.declared.floor.Floor.{Floor}
use Rattle.mb_parts.specs.Ordered.{phase_is_open}
use Rattle.mb_model.specs.Batches.{first_batch}
use Rattle.mb_parts.specs.declared.batch.Batch.{Batch}
use Rattle.mb_model.specs.declared.known.KnownSlot.{KnownSlot}
use Rattle.mb_model.specs.EnabledRules.{Rule, Commit, Execute, Prepare, rule_where, with_batch}
use Rattle.mb_normal.specs.declared.due.Due.TheVariants as due
use Rattle.mb_normal.specs.Searches.{Searches, unordered}
use Rattle.mb_normal.specs.Tables.{batch_of}
use Rattle.mb_normal.specs.Rules.{has_quorum, is_committed, if_committed, in_window, may_prepare, commit_rule, execute_rule, prepare_rule, first_rule, Names}

-- ---- with a batch

no_batch : (f : Batch → Rule) (o : Option Batch) → is_some o ≡ false → option_map f o ≡ None
no_batch f None e = refl
no_batch f (Some b) e = absurd cc

some_batch : (f : Batch → Rule) (o : Option Batch) → is_some o ≡ true → (b : Batch) × (option_map f o ≡ Some (f b))
some_batch f None e = absurd cc
some_batch f (Some b) e = (b, refl)

-- ---- COMMIT

pub commit_off : (opened leads room : Bool) (pos : ℕ) (slot : Option KnownSlot) → (not leads && (room && is_some (batch_of slot))) ≡ false
    → rule_where (opened && (not leads && room)) (with_batch (Commit pos) slot) ≡ None
commit_off false leads room pos slot e = refl
commit_off true true room pos slot e = refl
commit_off true false false pos slot e = refl
commit_off true false true pos None e = refl
commit_off true false true pos (Some k) e = no_batch (Commit pos k) k.batch e

pub commit_on : (opened leads room : Bool) (pos : ℕ) (slot : Option KnownSlot) (rest : Option Rule) → opened ≡ true → (not leads && (room && is_some (batch_of slot))) ≡ true
    → Names (due.Commit pos) (option_or (rule_where (opened && (not leads && room)) (with_batch (Commit pos) slot)) rest)
commit_on false leads room pos slot rest holds e = absurd cc
commit_on true true room pos slot rest holds e = absurd cc
commit_on true false false pos slot rest holds e = absurd cc
commit_on true false true pos None rest holds e = absurd cc
commit_on true false true pos (Some k) rest holds e =
    let b = some_batch (Commit pos k) k.batch e in
    (k, b.0, ap (λ r. option_or r rest) b.1)

-- ---- execution

batch_off : (enough : Bool) (f : Batch → Rule) (o : Option Batch) → (is_some o && enough) ≡ false → rule_where enough (option_map f o) ≡ None
batch_off enough f None e = at enough where
  at : (b : Bool) → rule_where b (option_map f None) ≡ None
  at true = refl
  at false = refl
batch_off false f (Some b) e = refl
batch_off true f (Some b) e = absurd cc

batch_on : (enough : Bool) (f : Batch → Rule) (o : Option Batch) → (is_some o && enough) ≡ true → (b : Batch) × (rule_where enough (option_map f o) ≡ Some (f b))
batch_on enough f None e = absurd cc
batch_on false f (Some b) e = absurd cc
batch_on true f (Some b) e = (b, refl)

pub execute_off : (s : Shape) (x : Searches) (opened above : Bool) (pos : ℕ) (slot : Option KnownSlot) → (above && is_committed s x pos slot) ≡ false
    → rule_where (opened && above) (if_committed s x pos slot) ≡ None
execute_off s x false above pos slot e = refl
execute_off s x true false pos slot e = refl
execute_off s x true true pos None e = refl
execute_off s x true true pos (Some k) e = batch_off (has_quorum s x pos k) (Execute pos) k.batch e

pub execute_on : (s : Shape) (x : Searches) (opened above : Bool) (pos : ℕ) (slot : Option KnownSlot) (rest : Option Rule) → opened ≡ true → (above && is_committed s x pos slot) ≡ true
    → Names (due.Execute pos) (option_or (rule_where (opened && above) (if_committed s x pos slot)) rest)
execute_on s x false above pos slot rest holds e = absurd cc
execute_on s x true false pos slot rest holds e = absurd cc
execute_on s x true true pos None rest holds e = absurd cc
execute_on s x true true pos (Some k) rest holds e =
    let b = batch_on (has_quorum s x pos k) (Execute pos) k.batch e in
    (b.0, ap (λ r. option_or r rest) b.1)

-- ---- PREPARE

pub prepare_off : (opened leads within near room : Bool) (pos : ℕ) (first : Option Batch) → (leads && (within && (near && (room && is_some first)))) ≡ false
    → rule_where (opened && (leads && (within && (near && room)))) (option_map (Prepare pos) first) ≡ None
prepare_off false leads within near room pos first e = refl
prepare_off true false within near room pos first e = refl
prepare_off true true false near room pos first e = refl
prepare_off true true true false room pos first e = refl
prepare_off true true true true false pos first e = refl
prepare_off true true true true true pos first e = no_batch (Prepare pos) first e

pub prepare_on : (opened leads within near room : Bool) (pos : ℕ) (first : Option Batch) → opened ≡ true → (leads && (within && (near && (room && is_some first)))) ≡ true
    → Names due.Prepare (rule_where (opened && (leads && (within && (near && room)))) (option_map (Prepare pos) first))
prepare_on false leads within near room pos first holds e = absurd cc
prepare_on true false within near room pos first holds e = absurd cc
prepare_on true true false near room pos first holds e = absurd cc
prepare_on true true true false room pos first holds e = absurd cc
prepare_on true true true true false pos first holds e = absurd cc
prepare_on true true true true true pos first holds e = let b = some_batch (Prepare pos) first e in (pos, b.0, b.1)

-- ---- the first of them

module _ (s : Shape) (h : ℕ) (x : Searches) (at : Floor) (exec : ℕ) (room : Bool) where
  abbrev pub may_commit : Bool
  may_commit = not (h == primary s at.view) && (room && is_some (batch_of (x.slots (at.last + 1))))

  abbrev pub may_execute : Bool
  may_execute = nat_le x.low exec && is_committed s x (exec + 1) (x.slots (exec + 1))

  no_commit : may_commit ≡ false → commit_rule s h x at exec room ≡ None
  no_commit e = commit_off (phase_is_open at.phase) (h == primary s at.view) room (at.last + 1) (x.slots (at.last + 1)) e

  no_execute : may_execute ≡ false → execute_rule s h x at exec room ≡ None
  no_execute e = execute_off s x (phase_is_open at.phase) (nat_le x.low exec) (exec + 1) (x.slots (exec + 1)) e

  no_prepare : may_prepare s x h at exec room ≡ false → prepare_rule s h x at exec room ≡ None
  no_prepare e = prepare_off (phase_is_open at.phase) (h == primary s at.view) (in_window s x (at.last + 1)) (nat_lt at.last (exec + ahead_limit)) room (at.last + 1) (first_batch (unordered s x)) e

  pub first_closed : phase_is_open at.phase ≡ false → Names due.Nothing (first_rule s h x at exec room)
  first_closed fails = ap (λ b. option_or (rule_where (b && (not (h == primary s at.view) && room)) (with_batch (Commit (at.last + 1)) (x.slots (at.last + 1))))
      (option_or (rule_where (b && nat_le x.low exec) (if_committed s x (exec + 1) (x.slots (exec + 1))))
      (rule_where (b && ((h == primary s at.view) && (in_window s x (at.last + 1) && (nat_lt at.last (exec + ahead_limit) && room)))) (option_map (Prepare (at.last + 1)) (first_batch (unordered s x)))))) fails

  pub first_commit : phase_is_open at.phase ≡ true → may_commit ≡ true → Names (due.Commit (at.last + 1)) (first_rule s h x at exec room)
  first_commit holds e = commit_on (phase_is_open at.phase) (h == primary s at.view) room (at.last + 1) (x.slots (at.last + 1)) _ holds e

  pub first_execute : phase_is_open at.phase ≡ true → may_commit ≡ false → may_execute ≡ true → Names (due.Execute (exec + 1)) (first_rule s h x at exec room)
  first_execute holds fails e =
      subst (λ (a : Option Rule). Names (due.Execute (exec + 1)) (option_or a (option_or (execute_rule s h x at exec room) (prepare_rule s h x at exec room)))) (sym (no_commit fails))
      (execute_on s x (phase_is_open at.phase) (nat_le x.low exec) (exec + 1) (x.slots (exec + 1)) _ holds e)

  pub first_prepare : phase_is_open at.phase ≡ true → may_commit ≡ false → may_execute ≡ false → may_prepare s x h at exec room ≡ true → Names due.Prepare (first_rule s h x at exec room)
  first_prepare holds fails not_yet e =
      subst (λ (a : Option Rule). Names due.Prepare (option_or a (option_or (execute_rule s h x at exec room) (prepare_rule s h x at exec room)))) (sym (no_commit fails))
      (subst (λ (a : Option Rule). Names due.Prepare (option_or a (prepare_rule s h x at exec room))) (sym (no_execute not_yet))
      (prepare_on (phase_is_open at.phase) (h == primary s at.view) (in_window s x (at.last + 1)) (nat_lt at.last (exec + ahead_limit)) room (at.last + 1) (first_batch (unordered s x)) holds e))

  pub first_none : may_commit ≡ false → may_execute ≡ false → may_prepare s x h at exec room ≡ false → Names due.Nothing (first_rule s h x at exec room)
  first_none fails not_yet nothing =
      ap (λ (a : Option Rule). option_or a (option_or (execute_rule s h x at exec room) (prepare_rule s h x at exec room))) (no_commit fails)
      ∙ ap (λ (a : Option Rule). option_or a (prepare_rule s h x at exec room)) (no_execute not_yet) ∙ no_prepare nothing
