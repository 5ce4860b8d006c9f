use Rattle.std.proofs.Common.{◌≡◌, List, sym, subst, ◌∙◌, ◌++◌, None}
use Rattle.std.specs.Prelude.{IfOk}
use Rattle.std.specs.List.{flat_map}
use Rattle.mb_parts.specs.Claims.{Claim, stable_claims, floor_claims}
use Rattle.mb_msg.specs.declared.stamped.Shown.{Shown}
use Rattle.mb_model.specs.Compared.{inside_some}
use Rattle.mb_model.specs.Inside.{shown_claims}
use Rattle.mb_forgery.specs.Checks.{first_forged}
use Rattle.mb_forgery.proofs.Walks.{front_found, front_clean, then_clean}
use Rattle.mb_forgery.proofs.checker.Checker.in_change_body.Goals as goal

pub returns-in-Some : goal.returns-in-Some
returns-in-Some c s w a =
    let floor : List Claim = inside_some floor_claims c.args.body.now.floor in
    let stable : List Claim = stable_claims c.args.body.now.stable in
    let entries : List Claim = flat_map (shown_claims s.shape) c.args.body.now.entries in
    front_found s w (floor ++ stable) entries c.in-Some.found (front_found s w floor stable c.in-Some.found (sym c.in-Some.is ∙ c.in_ok-found.ensures s w a))

pub returns-in-Some-2 : goal.returns-in-Some-2
returns-in-Some-2 c s w a =
    let floor : List Claim = inside_some floor_claims c.args.body.now.floor in
    let stable : List Claim = stable_claims c.args.body.now.stable in
    let entries : List Claim = flat_map (shown_claims s.shape) c.args.body.now.entries in
    front_found s w (floor ++ stable) entries c.in-Some-2.found (front_clean s w floor stable _ (sym c.in_default.is ∙ c.in_ok-found.ensures s w a) (sym c.in-Some-2.is ∙ c.in_ok-found-2.ensures s w a))

pub returns : goal.returns
returns c s w a =
    let floor : List Claim = inside_some floor_claims c.args.body.now.floor in
    let stable : List Claim = stable_claims c.args.body.now.stable in
    let entries : List Claim = flat_map (shown_claims s.shape) c.args.body.now.entries in
    then_clean s w (floor ++ stable) entries c.in_entries.result (front_clean s w floor stable None (sym c.in_default.is ∙ c.in_ok-found.ensures s w a) (sym c.in_default-2.is ∙ c.in_ok-found-2.ensures s w a)) (subst (λ (l : List Shown). IfOk c.in_entries.result (λ o. o ≡ first_forged s w (flat_map (shown_claims s.shape) l))) c.as_slice.ensures (c.in_entries.ensures s w a))
