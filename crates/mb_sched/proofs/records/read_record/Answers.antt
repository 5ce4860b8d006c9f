use Rattle.std.proofs.Common.{◌≡◌, [], List, drop, Err, ap, ◌∙◌, rules}
use Rattle.std.specs.Prelude.{slice_get}
use Rattle.std.specs.Option.{option_copied}
use Rattle.mb_base.specs.Shapes.{Bytes}
use Rattle.mb_sched.specs.Lines.{lines, is_ended}
use Rattle.mb_sched.specs.Settings.{settings_contents}
use Rattle.mb_sched.proofs.RecordParts.{first_behind, one_more, settings_fail, id_fails, entries_fail, all_read}
use Rattle.mb_sched.proofs.records.read_record.Goals as goal

pub returns-in_err-settings : goal.returns-in_err-settings
returns-in_err-settings c =
    let failed : c.from_residual.result ≡ Err c.in_err-settings.field-0.0 = search rules in
    let read = rw c.over-lines.ensures at c.in_err-settings.ensures.read in
    rw failed (settings_fail c.args.text.now c.in_err-settings.field-0.0 read)

pub returns-in_err-id : goal.returns-in_err-id
returns-in_err-id c =
    let failed : c.from_residual-in_err-id.result ≡ Err c.in_err-id.field-0.0 = search rules in
    let read = rw c.over-lines.ensures at c.in_ok-settings.ensures.read in
    let left : lines c.read_settings.new.unread.rest.now ≡ drop 6 (lines c.args.text.now) = c.read_settings.ensures.left ∙ ap (λ (t : Bytes). drop 6 (lines t)) c.over-lines.ensures in
    let line : option_copied c.next_line-line.result ≡ slice_get (lines c.args.text.now) 6 = c.next_line-line.ensures.line ∙ ap (λ (ls : List Bytes). slice_get ls 0) left ∙ first_behind 6 (lines c.args.text.now) in
    rw failed (id_fails c.args.text.now (settings_contents c.in_ok-settings.settings) read c.in_err-id.field-0.0 (rw line at c.in_err-id.ensures))

pub returns-in_err-entries : goal.returns-in_err-entries
returns-in_err-entries c =
    let failed : c.from_residual-in_err-entries.result ≡ Err c.in_err-entries.field-0.0 = search rules in
    let read = rw c.over-lines.ensures at c.in_ok-settings.ensures.read in
    let left : lines c.read_settings.new.unread.rest.now ≡ drop 6 (lines c.args.text.now) = c.read_settings.ensures.left ∙ ap (λ (t : Bytes). drop 6 (lines t)) c.over-lines.ensures in
    let line : option_copied c.next_line-line.result ≡ slice_get (lines c.args.text.now) 6 = c.next_line-line.ensures.line ∙ ap (λ (ls : List Bytes). slice_get ls 0) left ∙ first_behind 6 (lines c.args.text.now) in
    let behind : lines c.next_line-line.new.self.rest.now ≡ drop 7 (lines c.args.text.now) = c.next_line-line.ensures.left ∙ ap (λ (ls : List Bytes). drop 1 ls) left ∙ one_more 6 (lines c.args.text.now) in
    let ended : is_ended c.next_line-line.new.self.rest.now ≡ is_ended c.args.text.now = c.next_line-line.ensures.ended ∙ c.read_settings.ensures.ended ∙ ap (λ (t : Bytes). is_ended t) c.over-lines.ensures in
    rw failed (entries_fail c.args.text.now (settings_contents c.in_ok-settings.settings) read c.in_ok-id.id (rw line at c.in_ok-id.ensures) c.in_err-entries.field-0.0 (rw (behind, ended) at c.in_err-entries.ensures))

pub returns : goal.returns
returns c =
    let read = rw c.over-lines.ensures at c.in_ok-settings.ensures.read in
    let left : lines c.read_settings.new.unread.rest.now ≡ drop 6 (lines c.args.text.now) = c.read_settings.ensures.left ∙ ap (λ (t : Bytes). drop 6 (lines t)) c.over-lines.ensures in
    let line : option_copied c.next_line-line.result ≡ slice_get (lines c.args.text.now) 6 = c.next_line-line.ensures.line ∙ ap (λ (ls : List Bytes). slice_get ls 0) left ∙ first_behind 6 (lines c.args.text.now) in
    let behind : lines c.next_line-line.new.self.rest.now ≡ drop 7 (lines c.args.text.now) = c.next_line-line.ensures.left ∙ ap (λ (ls : List Bytes). drop 1 ls) left ∙ one_more 6 (lines c.args.text.now) in
    let ended : is_ended c.next_line-line.new.self.rest.now ≡ is_ended c.args.text.now = c.next_line-line.ensures.ended ∙ c.read_settings.ensures.ended ∙ ap (λ (t : Bytes). is_ended t) c.over-lines.ensures in
    let none : c.new.result ≡ [] = search rules in
    rw none (all_read c.args.text.now (settings_contents c.in_ok-settings.settings) read c.in_ok-id.id (rw line at c.in_ok-id.ensures) c.in_ok-entries.entries (rw (behind, ended) at c.in_ok-entries.ensures))
