use Rattle.std.proofs.Common.{◌+◌, ap, refl, sym, arith}
use Rattle.mb_model.specs.Histories.{LostPatience}
use Rattle.mb_model.specs.Sending.{write}
use Rattle.mb_encodable.proofs.Found.{view_place}
use Rattle.mb_replica.proofs.Behind.{host_there, stands_behind_entry}
use Rattle.mb_replica.proofs.Wished.{wished_onward, onward_told}
use Rattle.mb_core.proofs.patience.wish_onward.Goals as goal

-- src/patience.rt
pub overflow_add-next : goal.overflow_add-next
overflow_add-next g c =
    let w = c.requires in
    let r = w.represents in
    let most = view_place w.me (host_there w.me c.args.replica.now w.history r) w.history r.tables.sound r.fit in
    let is = c.view-next.ensures w.me w.history r in
    omega (arith, most, is)

pub send_wish-requires : goal.send_wish-requires
send_wish-requires g c =
    let w = c.requires in
    let r = w.represents in
    onward_told w.me c.args.replica.now _ w.history r (record { same = record { shape = refl; host = refl; secret = refl }; tables = refl }) w.more
    (wished_onward w.me c.args.replica.now _ w.history r (record { same = record { shape = refl; host = refl; secret = refl }; tables = refl }) w.more c.args.replica.now.protocol.host _ (sym r.who.host) (ap (λ n. n + 1) (c.view-next.ensures w.me w.history r)) c.wish.ensures.stands)

pub returns : goal.returns
returns g c = λ me x st more.
    let r = st.represents in
    c.send_wish.ensures me (write LostPatience x) (stands_behind_entry me c.args.replica.now _ c.args.done.now x LostPatience st refl
    (wished_onward me c.args.replica.now _ x.history r (record { same = record { shape = refl; host = refl; secret = refl }; tables = refl }) more c.args.replica.now.protocol.host _ (sym r.who.host) (ap (λ n. n + 1) (c.view-next.ensures me x.history r)) c.wish.ensures.stands))
