-- A table that was read has as many clients. So the state that is installed has those of the one before.
use Rattle.std.proofs.Common.{◌≡◌, ℕ, zero, suc, List, [], ◌∷◌, length, Ok, sym, ap, ◌∙◌, eqb}
use Rattle.mb_base.specs.Shapes.{Bytes}
use Rattle.mb_base.specs.Reading.{◌>>=◌, Cursor, cursor, Reads, repeat_at}
use Rattle.mb_base.proofs.Laws.{bind_ok, ok_is, allow_ok}
use Rattle.mb_model.specs.declared.known.LastReply.{LastReply}
use Rattle.mb_model.specs.States.{last_reply_at, table_of, ended}

abbrev others_behind : ℕ → LastReply × Cursor → Reads (List LastReply)
others_behind n first = repeat_at last_reply_at n first.1 >>= λ others. Ok (first.0 ∷ others.0, others.1)

as_many_read : (n : ℕ) (s : Cursor) (x : List LastReply × Cursor) → repeat_at last_reply_at n s ≡ Ok x → length x.0 ≡ n
unfolding repeat_at
as_many_read zero s x e = ap (λ (y : List LastReply × Cursor). length y.0) (sym (ok_is ([], s) x e))
as_many_read (suc n) s x e =
    let first = bind_ok (last_reply_at s) (others_behind n) x e in
    let others = bind_ok (repeat_at last_reply_at n first.0.1) (λ others. Ok (first.0.0 ∷ others.0, others.1)) x first.2 in
    ap (λ (y : List LastReply × Cursor). length y.0) (sym (ok_is _ x others.2)) ∙ ap suc (as_many_read n first.0.1 others.0 others.1)

pub as_many_clients : (n : ℕ) (bytes : Bytes) (t : List LastReply) → table_of n bytes ≡ Ok t → length t ≡ n
unfolding table_of
as_many_clients n bytes t e =
    let all = bind_ok (repeat_at last_reply_at n (cursor 0 bytes)) ended t e in
    let whole = allow_ok (eqb (length all.0.1.rest) 0) all.0.1.at all.0.0 t all.2 in
    ap length (sym whole.1) ∙ as_many_read n (cursor 0 bytes) all.0 all.1
