use Rattle.std.proofs.Common.{◌≡◌, ◌==◌, ◌∷◌, List, Bool, length, Some, None, sym, ap, ◌∙◌, rules}
use Rattle.std.specs.Prelude.{slice_get}
use Rattle.mb_base.specs.Shapes.{Bytes}
use Rattle.mb_sched.specs.Lines.{lines, is_ended}
use Rattle.mb_sched.specs.Records.{end_by, next_entry}
use Rattle.mb_sched.proofs.AllLines.{first_line}
use Rattle.mb_sched.proofs.RecordLines.{reads_end}
use Rattle.mb_sched.proofs.records.next_entry.Goals as goal

pub returns-then-is_word-clause-read : goal.returns-then-is_word-clause-read
returns-then-is_word-clause-read c =
    let first : Some c.in-Some.line.now ≡ slice_get (lines c.args.unread.now.rest.now) 0 = search rules in
    let parts = first_line (lines c.args.unread.now.rest.now) c.in-Some.line.now first in
    let behind : lines c.args.unread.now.rest.now ≡ c.in-Some.line.now ∷ lines c.next_line.new.self.rest.now = parts ∙ ap (λ (ls : List Bytes). c.in-Some.line.now ∷ ls) (sym c.next_line.ensures.left) in
    let end = reads_end c.next_line.new.self.rest.now c.in-Some.line.now c.args.number (sym c.is_word.ensures ∙ c.if-is_word.true) in
    let whole : next_entry (is_ended c.args.unread.now.rest.now) c.args.number (lines c.args.unread.now.rest.now) ≡ end_by None (length c.next_line.new.self.rest.now == 0) c.args.number =
    ap (λ (ls : List Bytes). next_entry (is_ended c.args.unread.now.rest.now) c.args.number ls) behind
    ∙ ap (λ (ended : Bool). next_entry ended c.args.number (c.in-Some.line.now ∷ lines c.next_line.new.self.rest.now)) (sym c.next_line.ensures.ended)
    ∙ end in
    rw whole c.read_end.ensures
