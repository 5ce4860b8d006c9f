use Rattle.std.proofs.Common.{◌≡◌, false, Bool, get_or, sym, ap, ◌∙◌}
use Rattle.std.proofs.lemmas.Option.{unwrap_or-slice_get}
use Rattle.mb_usig.specs.Tags.{same_bytes, signed_request, request_text, request_tag}
use Rattle.mb_schedule.specs.Limits.{is_faulty_client}
use Rattle.mb_world_model.specs.World.{stamps}
use Rattle.mb_world_model.specs.Forged.{was_asked}
use Rattle.mb_forgery.proofs.TagLaws.{faulty_clean, made_clean, verified_decides}
use Rattle.mb_forgery.proofs.checker.Checker.is_forged_request.Goals.{then-self-from-via-then-self-from, then-self-from-via-else-self-from+then-was_asked}
use Rattle.mb_forgery.proofs.checker.Checker.is_forged_request.Goals as goal

pub returns-then-self-from : goal.returns-then-self-from
returns-then-self-from c s w a =
    let r = c.args.r.now in
    let faulty : is_faulty_client s r.client ≡ get_or c.args.self.now.faulty_clients.now c.from.result false =
    unwrap_or-slice_get s.faulty_clients r.client false ∙ ap (λ l. get_or l r.client false) (sym a.clients) ∙ ap (λ i. get_or c.args.self.now.faulty_clients.now i false) (sym c.from.ensures) in
    let verified : Bool = same_bytes r.tag (request_tag s.secret r.client r.seq r.op) in
    elim c.then-self-from.branch [
      | then-self-from-via-then-self-from x ↦ faulty_clean verified (is_faulty_client s r.client) (was_asked s w r) (faulty ∙ x.if-self-from.true)
      | then-self-from-via-else-self-from+then-was_asked x ↦ made_clean verified (is_faulty_client s r.client) (was_asked s w r) (sym (x.was_asked.ensures s.shape (stamps s w) w.asked w.tagged a.ledger) ∙ x.if-was_asked.true)
    ]

pub returns : goal.returns
returns c s w a =
    let r = c.args.r.now in
    let faulty : is_faulty_client s r.client ≡ get_or c.args.self.now.faulty_clients.now c.from.result false =
    unwrap_or-slice_get s.faulty_clients r.client false ∙ ap (λ l. get_or l r.client false) (sym a.clients) ∙ ap (λ i. get_or c.args.self.now.faulty_clients.now i false) (sym c.from.ensures) in
    c.verify_request.ensures
    ∙ ap (λ t. same_bytes r.tag (signed_request t r.client c.as_slice-2.result.now)) a.secret_is
    ∙ ap (λ x. same_bytes r.tag (signed_request s.secret r.client x)) (c.as_slice-2.ensures.value ∙ c.in_ok-signed.ensures ∙ ap (request_text r.client r.seq) c.as_slice.ensures)
    ∙ verified_decides (same_bytes r.tag (request_tag s.secret r.client r.seq r.op)) (is_faulty_client s r.client) (was_asked s w r) (faulty ∙ c.if-self-from.false)
    (sym (c.was_asked.ensures s.shape (stamps s w) w.asked w.tagged a.ledger) ∙ c.if-was_asked.false)
