-- A SHA-256 digest is made of bytes, and so is a tag.
use Rattle.std.proofs.Common.{ℕ, zero, suc, ◌<◌, List, [], ◌∷◌, ◌++◌, arith}
use Rattle.std.specs.Prelude.{slice_index}
use Rattle.std.specs.Int.{w32, to_be_bytes}
use Rattle.std.specs.List.{AllByRecursion}
use Rattle.sha2.specs.Sha256.{digest_bytes, final_hash, initial_hash_256, sha256}
use Rattle.mb_base.specs.Shapes.{Bytes}
use Rattle.mb_base.proofs.Laws.{IsBytes}
use Rattle.mb_usig.specs.Hmac.{hmac_of}
use Rattle.mb_usig.specs.Tags.{certificate, signed_request, signed_reply, wish_tag, stop_tag}

abbrev AllSmall : Bytes → Type 0
AllSmall = AllByRecursion (λ b. b < 256)

small_append : (xs ys : Bytes) → AllSmall xs → AllSmall ys → AllSmall (xs ++ ys)
small_append [] ys h k = k
small_append (x ∷ xs) ys h k = (h.0, small_append xs ys h.1 k)

small_word : (n : ℕ) → AllSmall (to_be_bytes w32 n)
small_word n = (omega arith, (omega arith, (omega arith, (omega arith, tt))))

small_words : (h : List ℕ) (n : ℕ) → AllSmall (digest_bytes h n)
unfolding digest_bytes
small_words h zero = tt
small_words h (suc n) = small_append (digest_bytes h n) (to_be_bytes w32 (slice_index h n)) (small_words h n) (small_word (slice_index h n))

small_at : (xs : Bytes) → AllSmall xs → IsBytes xs
small_at [] h i = omega arith
small_at (x ∷ xs) h zero = h.0
small_at (x ∷ xs) h (suc i) = small_at xs h.1 i

pub IsBytes-sha256 : (m : Bytes) → IsBytes (sha256 m)
unfolding sha256
IsBytes-sha256 m = small_at _ (small_words (final_hash initial_hash_256 m) 8)

pub IsBytes-hmac_of : (key message : Bytes) → IsBytes (hmac_of key message)
unfolding hmac_of
IsBytes-hmac_of key message = IsBytes-sha256 _

module _ (secret : Bytes) where
  pub IsBytes-certificate : (host counter : ℕ) (bare : Bytes) → IsBytes (certificate secret host counter bare)
  unfolding certificate
  IsBytes-certificate host counter bare = IsBytes-hmac_of _ _

  pub IsBytes-signed_request : (client : ℕ) (text : Bytes) → IsBytes (signed_request secret client text)
  unfolding signed_request
  IsBytes-signed_request client text = IsBytes-hmac_of _ _

  pub IsBytes-signed_reply : (host client : ℕ) (text : Bytes) → IsBytes (signed_reply secret host client text)
  unfolding signed_reply
  IsBytes-signed_reply host client text = IsBytes-hmac_of _ _

  pub IsBytes-wish_tag : (host view : ℕ) → IsBytes (wish_tag secret host view)
  unfolding wish_tag
  IsBytes-wish_tag host view = IsBytes-hmac_of _ _

  pub IsBytes-stop_tag : IsBytes (stop_tag secret)
  unfolding stop_tag
  IsBytes-stop_tag = IsBytes-hmac_of _ _
