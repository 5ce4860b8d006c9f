use Rattle.std.proofs.Common.{◌≡◌, List, sym, subst, ◌∙◌, ◌++◌, None}
use Rattle.std.specs.Prelude.{IfOk}
use Rattle.std.specs.List.{flat_map}
use Rattle.mb_parts.specs.Claims.{Claim, stable_claims, floor_claims, evidence_claims}
use Rattle.mb_msg.specs.declared.stamped.Stamped.{Stamped}
use Rattle.mb_model.specs.Compared.{inside_some}
use Rattle.mb_model.specs.Inside.{stamped_claims, claims_in}
use Rattle.mb_forgery.specs.Checks.{first_forged}
use Rattle.mb_forgery.proofs.Walks.{front_found, front_clean, then_clean}
use Rattle.mb_forgery.proofs.checker.Checker.in_log.Goals as goal

pub returns-in-Some : goal.returns-in-Some
unfolding claims_in
returns-in-Some c s w a =
    let floor : List Claim = inside_some floor_claims c.args.m.now.floor in
    let stable : List Claim = stable_claims c.args.m.now.stable in
    let evidence : List Claim = inside_some (evidence_claims s.shape) c.args.m.now.evidence in
    let entries : List Claim = flat_map (stamped_claims s.shape) c.args.m.now.entries in
    let x = c.in-Some.found in
    front_found s w (floor ++ stable ++ evidence) entries x (front_found s w (floor ++ stable) evidence x (front_found s w floor stable x (sym c.in-Some.is ∙ c.in_ok-found.ensures s w a)))

pub returns-in-Some-2 : goal.returns-in-Some-2
unfolding claims_in
returns-in-Some-2 c s w a =
    let floor : List Claim = inside_some floor_claims c.args.m.now.floor in
    let stable : List Claim = stable_claims c.args.m.now.stable in
    let evidence : List Claim = inside_some (evidence_claims s.shape) c.args.m.now.evidence in
    let entries : List Claim = flat_map (stamped_claims s.shape) c.args.m.now.entries in
    let x = c.in-Some-2.found in
    front_found s w (floor ++ stable ++ evidence) entries x (front_found s w (floor ++ stable) evidence x (front_clean s w floor stable _ (sym c.in_default.is ∙ c.in_ok-found.ensures s w a) (sym c.in-Some-2.is ∙ c.in_ok-found-2.ensures s w a)))

pub returns-in-Some-3 : goal.returns-in-Some-3
unfolding claims_in
returns-in-Some-3 c s w a =
    let floor : List Claim = inside_some floor_claims c.args.m.now.floor in
    let stable : List Claim = stable_claims c.args.m.now.stable in
    let evidence : List Claim = inside_some (evidence_claims s.shape) c.args.m.now.evidence in
    let entries : List Claim = flat_map (stamped_claims s.shape) c.args.m.now.entries in
    let x = c.in-Some-3.found in
    front_found s w (floor ++ stable ++ evidence) entries x (front_clean s w (floor ++ stable) evidence _ (front_clean s w floor stable None (sym c.in_default.is ∙ c.in_ok-found.ensures s w a) (sym c.in_default-2.is ∙ c.in_ok-found-2.ensures s w a)) (sym c.in-Some-3.is ∙ c.in_ok-found-3.ensures s w a))

pub returns : goal.returns
unfolding claims_in
returns c s w a =
    let floor : List Claim = inside_some floor_claims c.args.m.now.floor in
    let stable : List Claim = stable_claims c.args.m.now.stable in
    let evidence : List Claim = inside_some (evidence_claims s.shape) c.args.m.now.evidence in
    let entries : List Claim = flat_map (stamped_claims s.shape) c.args.m.now.entries in
    then_clean s w (floor ++ stable ++ evidence) entries c.in_all.result
    (front_clean s w (floor ++ stable) evidence None (front_clean s w floor stable None (sym c.in_default.is ∙ c.in_ok-found.ensures s w a) (sym c.in_default-2.is ∙ c.in_ok-found-2.ensures s w a)) (sym c.in_default-3.is ∙ c.in_ok-found-3.ensures s w a))
    (subst (λ (l : List Stamped). IfOk c.in_all.result (λ o. o ≡ first_forged s w (flat_map (stamped_claims s.shape) l))) c.as_slice.ensures (c.in_all.ensures s w a))
