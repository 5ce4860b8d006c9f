use Rattle.std.proofs.Common.{rules, ◌≡◌, ℕ, ◌∷◌, ◌++◌, [], true, false, cond, Some, unwrap_or, refl, sym, ap, ◌∙◌, arith}
use Rattle.std.specs.Prelude.{◌==◌, ◌&&◌, nat_lt}
use Rattle.std.specs.Ordering.{is_eq, nat_cmp}
use Rattle.std.specs.BTreeMap.{get}
use Rattle.std.proofs.lemmas.Bool.{lt-ltb, false_from_ne_true, ltb-true}
use Rattle.mb_learn.specs.Tables.{casts_at}
use Rattle.mb_learn.proofs.MapLists.{one_more, those}
use Rattle.mb_learn.proofs.Tests.{and_true, and_false}
use Rattle.mb_learn.proofs.votes.Votes.add.Goals as goal

pub returns-then-pos-self : goal.returns-then-pos-self
returns-then-pos-self c =
    let below : nat_lt c.args.self.now.executed c.args.pos ≡ false = false_from_ne_true (nat_lt c.args.self.now.executed c.args.pos) (λ e. let lt = ltb-true c.args.self.now.executed c.args.pos e in absurd (omega (arith, lt))) in
    record {
      executed = refl;
      casts = λ p. sym (ap (λ b. cond (p == c.args.pos && b) (casts_at c.args.self.now p ++ c.args.cast ∷ []) (casts_at c.args.self.now p)) below
          ∙ ap (λ b. cond b (casts_at c.args.self.now p ++ c.args.cast ∷ []) (casts_at c.args.self.now p)) (and_false (p == c.args.pos)));
    }

pub returns : goal.returns
returns c =
    let before = get nat_cmp c.args.self.now.by_position in
    let above : nat_lt c.args.self.now.executed c.args.pos ≡ true = lt-ltb c.args.self.now.executed c.args.pos (omega arith) in
    let value : c.push.new.self ≡ those (before c.args.pos) ++ c.args.cast ∷ [] =
    c.in_ok-push.ensures.ok ∙ ap (λ l. l ++ c.args.cast ∷ []) (c.or_insert-casts.ensures.value ∙ ap (λ o. unwrap_or o c.new.result) c.in_ok-self.ensures.value ∙ ap (unwrap_or (before c.args.pos)) c.new.ensures) in
    let set = λ (n : ℕ). (c.in_ok-self.ensures.update.0 c.push.new.self).0 n ∙ ap (λ v. cond (is_eq (nat_cmp c.args.pos n)) (Some v) (before n)) value in
    record {
      executed = refl;
      casts = λ p.
          let done = one_more before _ c.args.cast c.args.pos set p
          ∙ sym (ap (λ b. cond (p == c.args.pos && b) (casts_at c.args.self.now p ++ c.args.cast ∷ []) (casts_at c.args.self.now p)) above
          ∙ ap (λ b. cond b (casts_at c.args.self.now p ++ c.args.cast ∷ []) (casts_at c.args.self.now p)) (and_true (p == c.args.pos))) in
          search (rules, done);
    }
