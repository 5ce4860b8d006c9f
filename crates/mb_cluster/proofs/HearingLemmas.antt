-- The client's side after several receives, and after several operations.
use Rattle.std.proofs.Common.{◌≡◌, ℕ, ◌+◌, true, List, [], ◌∷◌, ◌++◌, length, Option, Some, None, inl, inr, refl, sym, ◌∙◌, arith}
use Rattle.std.specs.Prelude.{◌==◌}
use Rattle.std.proofs.lemmas.Bool.{cases_Bool, and_parts, eqb-true}
use Rattle.mb_base.specs.Shapes.{Bytes}
use Rattle.mb_base.specs.declared.shape.Shape.{Shape}
use Rattle.mb_msg.specs.declared.normal.Reply.{Reply}
use Rattle.mb_msg.specs.Reading.{message_of}
use Rattle.mb_frag.specs.Held.{Held}
use Rattle.mb_model.specs.Clients.{Asker, Accepted, Waiting, BadTag, OtherSeq, most_agreeing, taken, takes, is_right, is_awaited, completes, counted}
use Rattle.mb_cluster.specs.Listens.{HeardAs}
use Rattle.mb_cluster.specs.Hearing.{Receive, Hearing, asked, joined, reply_in, reply_or_none, counts, hears, hears_all}
use Rattle.mb_cluster.specs.Exchanges.{Exchange, AreAnswered, hearing_after}

module _ (s : Shape) (secret : Bytes) where
  pub hears_more : (c : Hearing) (got : List Receive) (last : Receive) → hears_all s secret c (got ++ last ∷ []) ≡ hears s secret (hears_all s secret c got) last
  hears_more c [] last = refl
  hears_more c (g ∷ got) last = hears_more (hears s secret c g) got last

  pub hears-append : (c : Hearing) (got more : List Receive) → hears_all s secret c (got ++ more) ≡ hears_all s secret (hears_all s secret c got) more
  hears-append c [] more = refl
  hears-append c (g ∷ got) more = hears-append (hears s secret c g) got more

  pub after-append : (c : Hearing) (xs ys : List Exchange) → hearing_after s secret c (xs ++ ys) ≡ hearing_after s secret (hearing_after s secret c xs) ys
  after-append c [] ys = refl
  after-append c (x ∷ xs) ys = after-append (hears_all s secret (asked c) x.receives) xs ys

  pub answered-append : (turns : ℕ) (c : Hearing) (xs ys : List Exchange) → AreAnswered s secret turns c xs → AreAnswered s secret turns (hearing_after s secret c xs) ys → AreAnswered s secret turns c (xs ++ ys)
  answered-append turns c [] ys first second = second
  answered-append turns c (x ∷ xs) ys first second = (first.0, (first.1.0, answered-append turns (hears_all s secret (asked c) x.receives) xs ys first.1.1 second))

  -- ---- the number of the last request

  taken_number : (a : Asker) (r : Reply) → (takes s secret 0 a r).number ≡ a.number
  unfolding taken takes
  taken_number a r = elim (cases_Bool (is_right s secret 0 r)) [
    | inr bad ↦ rw bad refl
    | inl right ↦ elim (cases_Bool (is_awaited s secret 0 a r)) [
      | inr other ↦ rw (right, other) refl
      | inl awaited ↦ elim (cases_Bool (completes s secret 0 a r)) [
        | inl complete ↦ rw (right, awaited, complete) refl
        | inr waiting ↦ rw (right, awaited, waiting) refl
      ]
    ]
  ]

  -- ---- what a reply brings

  seq_is : (a : Asker) (r : Reply) → is_awaited s secret 0 a r ≡ true → r.seq ≡ a.number
  seq_is a r awaited = eqb-true r.seq a.number (and_parts a.waits (r.seq == a.number) awaited).1

  -- what is left where a reply completes f+1, and where it does not
  pub record Leaves (heard : Option Reply) (a : Asker) (r : Reply) (before after : ℕ) : Type 0 where
    pub heard_as : HeardAs heard a (takes s secret 0 a r)
    pub most : before ≡ most_agreeing a.replies a.replies → after ≡ most_agreeing (takes s secret 0 a r).replies (takes s secret 0 a r).replies

  pub leaves_accepted : (a : Asker) (r : Reply) (pos before : ℕ) → Accepted pos ≡ taken s secret 0 a r → Leaves (Some r) a r before 0
  unfolding taken takes most_agreeing
  leaves_accepted a r pos before e = elim (cases_Bool (is_right s secret 0 r)) [
    | inr bad ↦ let no = rw bad at e in absurd cc
    | inl right ↦ elim (cases_Bool (is_awaited s secret 0 a r)) [
      | inr other ↦ let no = rw (right, other) at e in absurd cc
      | inl awaited ↦ elim (cases_Bool (completes s secret 0 a r)) [
        | inl complete ↦ record { heard_as = rw (right, awaited, complete) (refl, seq_is a r awaited); most = λ is. rw (right, awaited, complete) refl }
        | inr waiting ↦ let no = rw (right, awaited, waiting) at e in absurd cc
      ]
    ]
  ]

  pub leaves_waiting : (a : Asker) (r : Reply) (matching before : ℕ) → Waiting matching ≡ taken s secret 0 a r → Leaves None a r before matching
  unfolding taken takes
  leaves_waiting a r matching before e = elim (cases_Bool (is_right s secret 0 r)) [
    | inr bad ↦ let no = rw bad at e in absurd cc
    | inl right ↦ elim (cases_Bool (is_awaited s secret 0 a r)) [
      | inr other ↦ let no = rw (right, other) at e in absurd cc
      | inl awaited ↦ elim (cases_Bool (completes s secret 0 a r)) [
        | inl complete ↦ let no = rw (right, awaited, complete) at e in absurd cc
        | inr waiting ↦
            let most = rw (right, awaited, waiting) at e in
            record { heard_as = rw (right, awaited, waiting) (refl, refl); most = λ is. rw (right, awaited, waiting) (cc) }
      ]
    ]
  ]

  leaves_nothing : (a : Asker) (r : Reply) (before : ℕ) → ((pos : ℕ) → Accepted pos ≡ taken s secret 0 a r → ⊥) → ((matching : ℕ) → Waiting matching ≡ taken s secret 0 a r → ⊥) → Leaves None a r before before
  unfolding taken takes
  leaves_nothing a r before not_accepted not_waiting = elim (cases_Bool (is_right s secret 0 r)) [
    | inr bad ↦ record { heard_as = rw bad (refl, refl); most = λ is. rw bad is }
    | inl right ↦ elim (cases_Bool (is_awaited s secret 0 a r)) [
      | inr other ↦ record { heard_as = rw (right, other) (refl, refl); most = λ is. rw (right, other) is }
      | inl awaited ↦ elim (cases_Bool (completes s secret 0 a r)) [
        | inl complete ↦ absurd (not_accepted r.pos (rw (right, awaited, complete) refl))
        | inr waiting ↦ absurd (not_waiting (most_agreeing (counted a.replies r) (counted a.replies r)) (rw (right, awaited, waiting) refl))
      ]
    ]
  ]

  pub leaves_bad : (a : Asker) (r : Reply) (before : ℕ) → BadTag ≡ taken s secret 0 a r → Leaves None a r before before
  leaves_bad a r before e = leaves_nothing a r before (λ pos is. let no = e ∙ sym is in absurd cc) (λ matching is. let no = e ∙ sym is in absurd cc)

  pub leaves_other : (a : Asker) (r : Reply) (seq before : ℕ) → OtherSeq seq ≡ taken s secret 0 a r → Leaves None a r before before
  leaves_other a r seq before e = leaves_nothing a r before (λ pos is. let no = e ∙ sym is in absurd cc) (λ matching is. let no = e ∙ sym is in absurd cc)

  counts_number : (a : Asker) (r : Option Reply) → (counts s secret a r).number ≡ a.number
  counts_number a None = refl
  counts_number a (Some r) = taken_number a r

  pub hears_number : (c : Hearing) (got : List Receive) → (hears_all s secret c got).asker.number ≡ c.asker.number
  hears_number c [] = refl
  hears_number c (g ∷ got) = hears_number (hears s secret c g) got ∙ counts_number c.asker _

  pub after_number : (c : Hearing) (xs : List Exchange) → (hearing_after s secret c xs).asker.number ≡ c.asker.number + length xs
  after_number c [] = omega arith
  after_number c (x ∷ xs) =
      let rest = after_number (hears_all s secret (asked c) x.receives) xs in
      let here = hears_number (asked c) x.receives in
      omega (arith, rest, here)

-- the message that became whole is a reply, or none
pub heard_whole : (s : Shape) (side : Hearing) (datagram bytes : Bytes) (r : Option Reply) (old : List Held) → old ≡ side.held → (joined old datagram).1 ≡ Some bytes → r ≡ reply_or_none (message_of s bytes)
    → reply_in s (joined side.held datagram).1 ≡ r
heard_whole s side datagram bytes r old held message reply = rw (← held, message) (sym reply)

-- none agree where none is counted
pub none_agree : 0 ≡ most_agreeing [] []
unfolding most_agreeing
none_agree = refl
