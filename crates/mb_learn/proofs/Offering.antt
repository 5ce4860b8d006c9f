-- Whether a gate takes what stands at the next counter of a list.
use Rattle.std.proofs.Common.{◌≡◌, ℕ, ◌+◌, Bool, true, false, cond, List, length, refl, sym, ap, ◌∙◌}
use Rattle.mb_base.specs.Shapes.{Bytes}
use Rattle.mb_base.specs.declared.shape.Shape.{Shape}
use Rattle.mb_parts.specs.Bares.{Bare}
use Rattle.mb_parts.specs.Certificates.{inner_valid}
use Rattle.mb_parts.specs.Rules.{rule_of}
use Rattle.mb_gate.specs.Answers.{answer}
use Rattle.mb_gate.specs.declared.offer.Offer.{Offer}
use Rattle.mb_gate.specs.declared.offer.Offer.TheVariants as offer
use Rattle.mb_msg.specs.declared.stamped.Stamped.{Stamped}
use Rattle.mb_msg.specs.Stamps.{bare_of}
use Rattle.mb_model.specs.Verified.{verifies}
use Rattle.mb_audit.specs.Walks.{log_of}
use Rattle.mb_audit.proofs.Judging.{answers}
use Rattle.mb_learn.specs.Lists.{may_follow}

module _ (s : Shape) (secret : Bytes) (host : ℕ) (l : List Bare) (m : Stamped) (counter : ℕ) (inner : Bool) (at : counter ≡ length l + 1) (is : inner ≡ inner_valid s (verifies secret) (bare_of m)) (o : Offer)
    (told : o ≡ answer (log_of s host l) (bare_of m) counter inner) where
  answered : (b : Bool) → may_follow s secret host l (bare_of m) ≡ b → o ≡ cond b offer.Next (offer.Illegal (rule_of (bare_of m)))
  answered b may = told ∙ answers s secret host l m counter inner at is ∙ ap (λ c. cond c offer.Next (offer.Illegal (rule_of (bare_of m)))) may

  pub may_next : o ≡ offer.Next → true ≡ may_follow s secret host l (bare_of m)
  may_next next = by (may_follow s secret host l (bare_of m)) refl where
    by : (b : Bool) → may_follow s secret host l (bare_of m) ≡ b → true ≡ may_follow s secret host l (bare_of m)
    by true may = sym may
    by false refused = let told_so : offer.Next ≡ offer.Illegal (rule_of (bare_of m)) = sym next ∙ answered false refused in absurd cc

  pub may_not : (o ≡ offer.Next → ⊥) → false ≡ may_follow s secret host l (bare_of m)
  may_not other = by (may_follow s secret host l (bare_of m)) refl where
    by : (b : Bool) → may_follow s secret host l (bare_of m) ≡ b → false ≡ may_follow s secret host l (bare_of m)
    by true may = absurd (other (answered true may))
    by false refused = sym refused
