-- A text is read as a config exactly where it spells it.
use Rattle.std.proofs.Common.{◌≡◌, ℕ, ◌+◌, Bool, true, false, cond, List, [], ◌∷◌, map, drop, codes, Option, Some, Ok, Err, refl, ap, ◌∙◌}
use Rattle.mb_base.specs.Shapes.{Bytes}
use Rattle.mb_sched.specs.Lines.{lines, is_ended, ◌>>=◌, numbered}
use Rattle.mb_sched.specs.TextLines.{all_lines}
use Rattle.mb_sched.specs.Settings.{settings_of}
use Rattle.mb_sched.specs.Configs.{ConfigContents, with_ops, op_line, config_of}
use Rattle.mb_sched.specs.Spellings.{SpellsConfig}
use Rattle.mb_sched.proofs.ReadSteps.{bind_ok, ok_is, numbered_ok}

module _ {A : Type 0} where
  first_is : (a b : Option A) (ps qs : List (Option A)) → (a ∷ ps) ≡ (b ∷ qs) → (a ≡ b) × (ps ≡ qs)
  first_is a b ps qs e = (cc, cc)

module _ {A : Type 0} where
  none_left : (ended : Bool) (xs : List A) (n : ℕ) → cond ended (Ok []) (Err n) ≡ Ok xs → (ended ≡ true) × ([] ≡ map Some xs)
  none_left true xs n e = (refl, ap (λ (ys : List A). map Some ys) (ok_is [] xs e))
  none_left false xs n e = absurd cc

module _ {A : Type 0} (read : Bytes → Option A) (ended : Bool) where
  pub all_said : (n : ℕ) (ls : List Bytes) (xs : List A) → all_lines read ended n ls ≡ Ok xs → (ended ≡ true) × (map read ls ≡ map Some xs)
  unfolding all_lines
  all_said n [] xs e = none_left ended xs n e
  all_said n (l ∷ ls) xs e =
      let a = bind_ok (numbered n (read l)) (λ x. all_lines read ended (n + 1) ls >>= λ ys. Ok (x ∷ ys)) xs e in
      let b = bind_ok (all_lines read ended (n + 1) ls) (λ ys. Ok (a.0 ∷ ys)) xs a.2 in
      let more = all_said (n + 1) ls b.0 b.1 in
      let one = numbered_ok n (read l) a.0 a.1 in
      let same = ok_is (a.0 ∷ b.0) xs b.2 in
      (more.0, ap (λ (o : Option A). o ∷ map read ls) one ∙ ap (λ (os : List (Option A)). Some a.0 ∷ os) more.1 ∙ ap (λ (ys : List A). map Some ys) same)

  pub all_read : (n : ℕ) (ls : List Bytes) (xs : List A) → ended ≡ true → map read ls ≡ map Some xs → all_lines read ended n ls ≡ Ok xs
  unfolding all_lines
  all_read n [] [] is e = rw is refl
  all_read n [] (x ∷ xs) is e = absurd cc
  all_read n (l ∷ ls) [] is e = absurd cc
  all_read n (l ∷ ls) (x ∷ xs) is e =
      let parts = first_is (read l) (Some x) (map read ls) (map Some xs) e in
      rw (parts.0, all_read (n + 1) ls xs is parts.1) refl

pub config_spelled : (text : Bytes) (c : ConfigContents) → config_of text ≡ Ok c → SpellsConfig text c
unfolding config_of
config_spelled text c e =
    let a = bind_ok (settings_of (codes "minbft config 2") (lines text)) (λ s. all_lines op_line (is_ended text) 7 (drop 6 (lines text)) >>= λ ops. Ok (with_ops s ops)) c e in
    let b = bind_ok (all_lines op_line (is_ended text) 7 (drop 6 (lines text))) (λ ops. Ok (with_ops a.0 ops)) c a.2 in
    let said = all_said op_line (is_ended text) 7 (drop 6 (lines text)) b.0 b.1 in
    rw (← ok_is (with_ops a.0 b.0) c b.2) (record { ended = said.0; settings = a.1; ops = said.1 })

pub config_read : (text : Bytes) (c : ConfigContents) → SpellsConfig text c → config_of text ≡ Ok c
unfolding config_of
config_read text c spells = rw (spells.settings, all_read op_line (is_ended text) 7 (drop 6 (lines text)) c.ops spells.ended spells.ops) refl
