-- The first byte of a message tells its kind: replies and wishes alone are tags that are kept.
use Rattle.std.proofs.Common.{◌≡◌, ℕ, Bool, false, ◌||◌, slice_get, Some, None, eqb, refl, sym, ap, subst, ◌∙◌}
use Rattle.std.proofs.lemmas.Bool.{ne_eqb}
use Rattle.std.proofs.lemmas.Option.{same_Some, none-some}
use Rattle.mb_base.specs.Shapes.{Bytes}
use Rattle.mb_base.specs.Spelling.{number}
use Rattle.mb_msg.specs.declared.message.Message.{Message}
use Rattle.mb_msg.specs.declared.message.Message.TheVariants as message
use Rattle.mb_msg.specs.Spelling.{kind_of, spelling}
use Rattle.mb_world_model.specs.World.{is_tagged_message}

pub first_is : (m : Message) → slice_get (spelling m) 0 ≡ Some (kind_of m)
unfolding spelling number
first_is (message.Request m) = refl
first_is (message.Prepare m) = refl
first_is (message.Commit m) = refl
first_is (message.Reply m) = refl
first_is (message.Checkpoint m) = refl
first_is (message.ReqViewChange m) = refl
first_is (message.ViewChange m) = refl
first_is (message.NewView m) = refl
first_is (message.Enter m) = refl
first_is (message.Open m) = refl
first_is (message.Join m) = refl
first_is (message.Resend m) = refl
first_is (message.Log m) = refl
first_is (message.Fetch m) = refl
first_is (message.State m) = refl
first_is (message.Stop m) = refl

pub kind_tells : (m : Message) → is_tagged_message m ≡ (eqb (kind_of m) 4 || eqb (kind_of m) 6)
kind_tells (message.Request m) = refl
kind_tells (message.Prepare m) = refl
kind_tells (message.Commit m) = refl
kind_tells (message.Reply m) = refl
kind_tells (message.Checkpoint m) = refl
kind_tells (message.ReqViewChange m) = refl
kind_tells (message.ViewChange m) = refl
kind_tells (message.NewView m) = refl
kind_tells (message.Enter m) = refl
kind_tells (message.Open m) = refl
kind_tells (message.Join m) = refl
kind_tells (message.Resend m) = refl
kind_tells (message.Log m) = refl
kind_tells (message.Fetch m) = refl
kind_tells (message.State m) = refl
kind_tells (message.Stop m) = refl

-- ---- by the tests of the code

module _ (m : Message) (bytes : Bytes) (is : bytes ≡ spelling m) where
  told_by : (k : ℕ) → Some k ≡ slice_get bytes 0 → (eqb k 4 || eqb k 6) ≡ is_tagged_message m
  told_by k e =
      let same : k ≡ kind_of m = same_Some k (kind_of m) (e ∙ ap (λ (b : Bytes). slice_get b 0) is ∙ first_is m) in
      ap (λ (n : ℕ). eqb n 4 || eqb n 6) same ∙ sym (kind_tells m)

  pub first_tells : (k : ℕ) → Some k ≡ slice_get bytes 0 → k ≡ 4 → eqb k 4 ≡ is_tagged_message m
  first_tells k e reply = subst (λ (n : ℕ). eqb n 4 ≡ (eqb n 4 || eqb n 6)) (sym reply) refl ∙ told_by k e

  pub second_tells : (k : ℕ) → Some k ≡ slice_get bytes 0 → (k ≡ 4 → ⊥) → eqb k 6 ≡ is_tagged_message m
  second_tells k e other = ap (λ (b : Bool). b || eqb k 6) (sym (ne_eqb k 4 other)) ∙ told_by k e

  -- Each message has a first byte.
  pub not_empty : None ≡ slice_get bytes 0 → false ≡ is_tagged_message m
  not_empty e = absurd (none-some (kind_of m) (e ∙ ap (λ (b : Bytes). slice_get b 0) is ∙ first_is m))
