use Rattle.std.proofs.Common.{◌≡◌, ◌++◌, ◌∷◌, [], List, refl, ap, ◌∙◌, rules}
use Rattle.mb_base.specs.Shapes.{Bytes, host_count, client_count}
use Rattle.mb_sched.specs.Words.{words, all_of, name_in}
use Rattle.mb_sched.proofs.Pieces.{words_left, cut_words}
use Rattle.mb_sched.proofs.ReadWords.{begins, stops, goes_on, is_done, left_behind}
use Rattle.mb_sched.proofs.header.names_behind.Goals as goal

pub loop-rest-init : goal.loop-rest-init
loop-rest-init c =
    let read = name_in (host_count c.args.shape) (client_count c.args.shape) in
    rw c.new-names.ensures (begins read (words_left c.args.behind) ∙ ap (λ (ws : List Bytes). all_of read ws) (left_behind c.args.behind))

pub returns-in_default-name_in : goal.returns-in_default-name_in
returns-in_default-name_in c =
    let so_far = rw c.in-Some.is at c.loop-rest.invariant in
    stops (name_in (host_count c.args.shape) (client_count c.args.shape)) c.loop-rest.names (words c.in-Some.text.now) c.cut.result.0.now (words_left c.cut.result.1) _
    (cut_words c.in-Some.text.now c.cut.result.0.now c.cut.result.1 c.cut.ensures.parts) c.in_default-name_in.ensures so_far

pub loop-rest-preserved : goal.loop-rest-preserved
loop-rest-preserved c =
    let so_far = rw c.in-Some.is at c.loop-rest.invariant in
    let items : c.push.new.self ≡ c.loop-rest.names ++ c.in-Some-name_in.name ∷ [] = search rules in
    rw items (goes_on (name_in (host_count c.args.shape) (client_count c.args.shape)) c.loop-rest.names (words c.in-Some.text.now) c.cut.result.0.now (words_left c.cut.result.1) c.in-Some-name_in.name _
    (cut_words c.in-Some.text.now c.cut.result.0.now c.cut.result.1 c.cut.ensures.parts) c.in-Some-name_in.ensures so_far)

pub returns : goal.returns
returns c =
    let so_far = rw c.in_default.is at c.loop-rest.invariant in
    is_done (name_in (host_count c.args.shape) (client_count c.args.shape)) c.loop-rest.names [] _ refl so_far
