use Rattle.std.proofs.Common.{◌≡◌, ◌<◌, ℕ, length, take, get_or, ap, ◌∙◌, sym, arith}
use Rattle.std.proofs.lemmas.List.{length-replicate}
use Rattle.std.proofs.lemmas.Result.{err_from_is_err_and}
use Rattle.mb_base.specs.Limits.{table_part}
use Rattle.mb_base.specs.Shapes.{client_count}
use Rattle.mb_model.specs.declared.known.LastReply.{LastReply}
use Rattle.mb_model.specs.Service.{no_reply}
use Rattle.mb_model.specs.States.{table_of}
use Rattle.mb_fetch.proofs.WrongParts.{string_in}
use Rattle.mb_cache.specs.Represents.{joined, snapshots_of}
use Rattle.mb_executor.specs.Keeping.{Keeping, with_served}
use Rattle.mb_executor.proofs.Installing.{table_in, table_refused, state_refused, state_taken, stays}
use Rattle.mb_executor.proofs.keeper.Keeper.install.Goals as goal

pub returns-in_err-restore : goal.returns-in_err-restore
returns-in_err-restore g c =
    let p = err_from_is_err_and c.from_residual-in_err-restore.result c.from_residual-in_err-restore.ensures.1 in
    let snapshots = snapshots_of g.V.Service.machine in
    let parts = c.args.parts.now in
    let old = c.args.self.now in
    let part = c.index-parts-count.result in
    let many : table_part < length parts = omega (arith, c.requires) in
    let bytes : c.as_slice.result.now ≡ table_in parts = c.as_slice.ensures ∙ (c.index-parts-count.is ∙ (ap (λ (i : ℕ). get_or parts i part) c.from-count.ensures ∙ string_in parts table_part part many)) in
    let clients : length old.served.table ≡ length c.in_ok-table.table = sym (ap (λ (k : Keeping _). length k.served.table) c.self.view_is) ∙ (c.self.invariant.clients_are ∙ sym (ap length c.in_ok-table.ensures ∙ length-replicate {A = LastReply} (client_count c.self.inside.shape) no_reply)) in
    rw (p.1, p.2) (table_refused snapshots parts old c.in_ok-table.table c.restore.new.self c.as_slice.result.now c.in_err-restore.field-0.0 clients bytes c.in_err-restore.ensures.restored)

pub returns-in_err-restore-2 : goal.returns-in_err-restore-2
returns-in_err-restore-2 g c =
    let p = err_from_is_err_and c.from_residual-in_err-restore-2.result c.from_residual-in_err-restore-2.ensures.1 in
    let snapshots = snapshots_of g.V.Service.machine in
    let parts = c.args.parts.now in
    let old = c.args.self.now in
    let part = c.index-parts-count.result in
    let many : table_part < length parts = omega (arith, c.requires) in
    let bytes : c.as_slice.result.now ≡ table_in parts = c.as_slice.ensures ∙ (c.index-parts-count.is ∙ (ap (λ (i : ℕ). get_or parts i part) c.from-count.ensures ∙ string_in parts table_part part many)) in
    let clients : length old.served.table ≡ length c.in_ok-table.table = sym (ap (λ (k : Keeping _). length k.served.table) c.self.view_is) ∙ (c.self.invariant.clients_are ∙ sym (ap length c.in_ok-table.ensures ∙ length-replicate {A = LastReply} (client_count c.self.inside.shape) no_reply)) in
    let read = ap (λ (n : ℕ). table_of n (table_in parts)) clients ∙ (ap (table_of (length c.in_ok-table.table)) (sym bytes) ∙ c.in_ok-restore.ensures.restored) in
    let first = ap (λ (i : ℕ). take i parts) c.from-count.ensures in
    rw (p.1, p.2) (state_refused snapshots parts old c.restore.new.self read c.self.inside.service c.restore-2.new.self _ _ c.in_err-restore-2.field-0.0 first c.in_err-restore-2.ensures
    (stays old c.self.inside.table c.self.inside.shelf c.self.inside.parts c.self.inside.service c.restore-2.new.self c.self.view_is))

pub returns : goal.returns
returns g c =
    let snapshots = snapshots_of g.V.Service.machine in
    let parts = c.args.parts.now in
    let old = c.args.self.now in
    let part = c.index-parts-count.result in
    let many : table_part < length parts = omega (arith, c.requires) in
    let bytes : c.as_slice.result.now ≡ table_in parts = c.as_slice.ensures ∙ (c.index-parts-count.is ∙ (ap (λ (i : ℕ). get_or parts i part) c.from-count.ensures ∙ string_in parts table_part part many)) in
    let clients : length old.served.table ≡ length c.in_ok-table.table = sym (ap (λ (k : Keeping _). length k.served.table) c.self.view_is) ∙ (c.self.invariant.clients_are ∙ sym (ap length c.in_ok-table.ensures ∙ length-replicate {A = LastReply} (client_count c.self.inside.shape) no_reply)) in
    let read = ap (λ (n : ℕ). table_of n (table_in parts)) clients ∙ (ap (table_of (length c.in_ok-table.table)) (sym bytes) ∙ c.in_ok-restore.ensures.restored) in
    let first = ap (λ (i : ℕ). take i parts) c.from-count.ensures in
    let taken = joined c.restore-2.new.self c.restore.new.self in
    (state_taken snapshots parts old c.restore.new.self read c.restore-2.new.self _ first c.in_ok-restore-2.ensures, ap (λ (k : Keeping _). with_served k taken) c.self.view_is)
