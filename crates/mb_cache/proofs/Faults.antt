-- How far reading a table moves, and where it fails: all offsets are small.
use Rattle.std.proofs.Common.{◌≡◌, ℕ, zero, suc, ◌+◌, ◌*◌, ◌<◌, ◌≤◌, ◌^◌, Bool, true, false, cond, ltb, eqb, List, [], ◌∷◌, length, take, inl, inr, Ok, Err, refl, sym, ap, subst, ◌∙◌, arith}
use Rattle.std.specs.Int.{Width, w16, w64, byte_len, from_be_bytes}
use Rattle.mb_base.specs.Limits.{most_clients}
use Rattle.mb_base.specs.Shapes.{Bytes}
use Rattle.mb_base.specs.Reading.{◌>>=◌, Cursor, cursor, Reads, onward, number_at, bytes_at, checked_at, repeat_at}
use Rattle.mb_base.proofs.Laws.{bind_ok, bind_err, guard_ok, guard_err, allow_ok, allow_err, ok_is}
use Rattle.mb_base.specs.declared.fields.Fields.{Fields}
use Rattle.mb_parts.specs.declared.fault.Undecoded.{Undecoded}
use Rattle.mb_parts.specs.declared.fault.Undecoded.TheVariants.{Malformed, NoMemory}
use Rattle.mb_parts.specs.Decoded.{Fails}
use Rattle.mb_cache.specs.Reading.{FailsTable}
use Rattle.mb_model.specs.declared.known.LastReply.{LastReply}
use Rattle.mb_model.specs.States.{is_place_of, is_size_of, last_reply_at, table_of}
use Rattle.mb_cache.proofs.Clients.{size_small}

-- ---- a field

number_moves : (w : Width) (s : Cursor) (x : ℕ × Cursor) → number_at w s ≡ Ok x → x.1.at ≡ s.at + byte_len w
number_moves w s x e =
    sym (ap (λ (v : ℕ × Cursor). v.1.at) (guard_ok (ltb (length s.rest) (byte_len w)) s.at (from_be_bytes w (take (byte_len w) s.rest), onward (byte_len w) s) x e).1)

number_fails : (w : Width) (s : Cursor) (at : ℕ) → number_at w s ≡ Err at → at ≡ s.at
number_fails w s at e = sym (guard_err (ltb (length s.rest) (byte_len w)) s.at at (from_be_bytes w (take (byte_len w) s.rest), onward (byte_len w) s) e)

module _ (test : ℕ → Bool) (w : Width) (s : Cursor) where
  checked_ok : (x : ℕ × Cursor) → checked_at test (number_at w) s ≡ Ok x → (x.1.at ≡ s.at + byte_len w) × (test x.0 ≡ true)
  unfolding checked_at
  checked_ok x e =
      let a = bind_ok (number_at w s) (λ y. cond (test y.0) (Ok y) (Err s.at)) x e in
      let g = allow_ok (test a.0.0) s.at a.0 x a.2 in
      (ap (λ (y : ℕ × Cursor). y.1.at) (sym g.1) ∙ number_moves w s a.0 a.1, ap (λ (y : ℕ × Cursor). test y.0) (sym g.1) ∙ g.0)

  checked_fails : (at : ℕ) → checked_at test (number_at w) s ≡ Err at → at ≡ s.at
  unfolding checked_at
  checked_fails at e =
      elim (bind_err (number_at w s) (λ y. cond (test y.0) (Ok y) (Err s.at)) at e) [
        | inl failed ↦ number_fails w s at failed
        | inr a ↦ sym (allow_err (test a.0.0) s.at at a.0 a.2)
      ]

-- ---- one client

abbrev behind_size : ℕ → ℕ → ℕ × Cursor → Reads LastReply
behind_size seq pos size = bytes_at size.0 size.1 >>= λ result. Ok (record { seq = seq; pos = pos; result = result.0 }, result.1)

abbrev behind_pos : ℕ → ℕ × Cursor → Reads LastReply
behind_pos seq pos = checked_at (is_size_of seq) (number_at w16) pos.1 >>= behind_size seq pos.0

abbrev behind_seq : ℕ × Cursor → Reads LastReply
behind_seq seq = checked_at (is_place_of seq.0) (number_at w64) seq.1 >>= behind_pos seq.0

last_moves : (s : Cursor) (x : LastReply × Cursor) → last_reply_at s ≡ Ok x → x.1.at ≤ s.at + 1042
unfolding last_reply_at
last_moves s x e =
    let seq = bind_ok (number_at w64 s) behind_seq x e in
    let pos = bind_ok (checked_at (is_place_of seq.0.0) (number_at w64) seq.0.1) (behind_pos seq.0.0) x seq.2 in
    let size = bind_ok (checked_at (is_size_of seq.0.0) (number_at w16) pos.0.1) (behind_size seq.0.0 pos.0.0) x pos.2 in
    let result = bind_ok (bytes_at size.0.0 size.0.1) (λ result. Ok (record { seq = seq.0.0; pos = pos.0.0; result = result.0 }, result.1)) x size.2 in
    let end : result.0.1.at ≡ x.1.at = ap (λ (y : LastReply × Cursor). y.1.at) (ok_is _ x result.2) in
    let text = guard_ok (ltb (length size.0.1.rest) size.0.0) size.0.1.at (take size.0.0 size.0.1.rest, onward size.0.0 size.0.1) result.0 result.1 in
    let place : size.0.1.at + size.0.0 ≡ result.0.1.at = ap (λ (y : Bytes × Cursor). y.1.at) text.1 in
    let sized = checked_ok (is_size_of seq.0.0) w16 pos.0.1 size.0 size.1 in
    omega (arith, end, place, size_small seq.0.0 size.0.0 sized.1, sized.0, (checked_ok (is_place_of seq.0.0) w64 seq.0.1 pos.0 pos.1).0, number_moves w64 s seq.0 seq.1)

last_fails : (s : Cursor) (at : ℕ) → last_reply_at s ≡ Err at → at ≤ s.at + 18
unfolding last_reply_at
last_fails s at e =
    elim (bind_err (number_at w64 s) behind_seq at e) [
      | inl failed ↦ omega (arith, number_fails w64 s at failed)
      | inr seq ↦
          let first = number_moves w64 s seq.0 seq.1 in
          elim (bind_err (checked_at (is_place_of seq.0.0) (number_at w64) seq.0.1) (behind_pos seq.0.0) at seq.2) [
            | inl failed ↦ omega (arith, first, checked_fails (is_place_of seq.0.0) w64 seq.0.1 at failed)
            | inr pos ↦
                let second = (checked_ok (is_place_of seq.0.0) w64 seq.0.1 pos.0 pos.1).0 in
                elim (bind_err (checked_at (is_size_of seq.0.0) (number_at w16) pos.0.1) (behind_size seq.0.0 pos.0.0) at pos.2) [
                  | inl failed ↦ omega (arith, first, second, checked_fails (is_size_of seq.0.0) w16 pos.0.1 at failed)
                  | inr size ↦
                      let third = (checked_ok (is_size_of seq.0.0) w16 pos.0.1 size.0 size.1).0 in
                      elim (bind_err (bytes_at size.0.0 size.0.1) (λ result. Ok (record { seq = seq.0.0; pos = pos.0.0; result = result.0 }, result.1)) at size.2) [
                        | inl failed ↦ omega (arith, first, second, third, guard_err (ltb (length size.0.1.rest) size.0.0) size.0.1.at at (take size.0.0 size.0.1.rest, onward size.0.0 size.0.1) failed)
                        | inr result ↦ absurd (let never = result.2 in cc)
                      ]
                ]
          ]
    ]

-- ---- a table

abbrev others_behind : ℕ → LastReply × Cursor → Reads (List LastReply)
others_behind n first = repeat_at last_reply_at n first.1 >>= λ others. Ok (first.0 ∷ others.0, others.1)

each_moves : (n : ℕ) (s : Cursor) (x : List LastReply × Cursor) → repeat_at last_reply_at n s ≡ Ok x → x.1.at ≤ s.at + 1042 * n
unfolding repeat_at
each_moves zero s x e = omega (arith, ap (λ (y : List LastReply × Cursor). y.1.at) (ok_is ([], s) x e))
each_moves (suc n) s x e =
    let first = bind_ok (last_reply_at s) (others_behind n) x e in
    let others = bind_ok (repeat_at last_reply_at n first.0.1) (λ others. Ok (first.0.0 ∷ others.0, others.1)) x first.2 in
    let end : others.0.1.at ≡ x.1.at = ap (λ (y : List LastReply × Cursor). y.1.at) (ok_is _ x others.2) in
    omega (arith, end, last_moves s first.0 first.1, each_moves n first.0.1 others.0 others.1)

each_fails : (n : ℕ) (s : Cursor) (at : ℕ) → repeat_at last_reply_at n s ≡ Err at → at ≤ s.at + 1042 * n + 18
unfolding repeat_at
each_fails zero s at e = absurd cc
each_fails (suc n) s at e =
    elim (bind_err (last_reply_at s) (others_behind n) at e) [
      | inl failed ↦ omega (arith, last_fails s at failed)
      | inr first ↦ elim (bind_err (repeat_at last_reply_at n first.0.1) (λ others. Ok (first.0.0 ∷ others.0, others.1)) at first.2) [
        | inl failed ↦ omega (arith, last_moves s first.0 first.1, each_fails n first.0.1 at failed)
        | inr others ↦ absurd (let never = others.2 in cc)
      ]
    ]

module _ (clients : ℕ) (part : Bytes) (few : clients ≤ most_clients) (start : Cursor) (begins : start ≡ cursor 0 part) where
  -- a fault of a client is one of the table
  pub table_fails : (e : Undecoded) (new : Fields) → Fails e new (repeat_at last_reply_at clients start) → FailsTable e (table_of clients part)
  unfolding table_of
  table_fails NoMemory new e = tt
  table_fails (Malformed at) new e =
      let read : repeat_at last_reply_at clients (cursor 0 part) ≡ Err at = subst (λ (s : Cursor). repeat_at last_reply_at clients s ≡ Err at) begins e.0 in
      (rw read refl, omega (arith, few, each_fails clients (cursor 0 part) at read))

  module _ (t : List LastReply) (s : Cursor) (e : repeat_at last_reply_at clients start ≡ Ok (t, s)) where
    read_all : repeat_at last_reply_at clients (cursor 0 part) ≡ Ok (t, s)
    read_all = subst (λ (u : Cursor). repeat_at last_reply_at clients u ≡ Ok (t, s)) begins e

    pub table_whole : eqb (length s.rest) 0 ≡ true → table_of clients part ≡ Ok t
    unfolding table_of
    table_whole end = rw (read_all, end) refl

    pub table_surplus : eqb (length s.rest) 0 ≡ false → (table_of clients part ≡ Err s.at) × (s.at < 2 ^ 32)
    unfolding table_of
    table_surplus more = (rw (read_all, more) refl, omega (arith, few, each_moves clients (cursor 0 part) (t, s) read_all))
