-- Lengths of keys and tags, and what the test of two byte strings tells.
use Rattle.std.proofs.Common.{ℕ, ◌≡◌, true, length, Decides, refl}
use Rattle.std.specs.Cmp.Lexicographic.{bytes_decides}
use Rattle.sha2.proofs.Facts256.{length-sha256}
use Rattle.mb_base.specs.Shapes.{Bytes}
use Rattle.mb_usig.specs.Hmac.{hmac_of}
use Rattle.mb_usig.specs.Tags.{same_bytes, usig_key, client_key, certificate, signed_request, signed_reply, wish_tag, stop_tag, is_certified}

-- a tag has 32 bytes
pub length-hmac_of : (key message : Bytes) → length (hmac_of key message) ≡ 32
unfolding hmac_of
length-hmac_of key message = length-sha256 _

module _ (secret : Bytes) where
  pub length-usig_key : length (usig_key secret) ≡ 32
  unfolding usig_key
  length-usig_key = length-hmac_of _ _

  pub length-client_key : (client : ℕ) → length (client_key secret client) ≡ 32
  unfolding client_key
  length-client_key client = length-hmac_of _ _

  pub length-certificate : (host counter : ℕ) (bare : Bytes) → length (certificate secret host counter bare) ≡ 32
  unfolding certificate
  length-certificate host counter bare = length-hmac_of _ _

  pub length-signed_request : (client : ℕ) (text : Bytes) → length (signed_request secret client text) ≡ 32
  unfolding signed_request
  length-signed_request client text = length-hmac_of _ _

  pub length-signed_reply : (host client : ℕ) (text : Bytes) → length (signed_reply secret host client text) ≡ 32
  unfolding signed_reply
  length-signed_reply host client text = length-hmac_of _ _

  pub length-wish_tag : (host view : ℕ) → length (wish_tag secret host view) ≡ 32
  unfolding wish_tag
  length-wish_tag host view = length-hmac_of _ _

  pub length-stop_tag : length (stop_tag secret) ≡ 32
  unfolding stop_tag
  length-stop_tag = length-hmac_of _ _

-- the test answers whether the byte strings are equal
pub same_bytes-decides : (x y : Bytes) → Decides (same_bytes x y) (x ≡ y)
same_bytes-decides x y = bytes_decides x y

-- byte strings that pass the test are equal
pub same_bytes-true : (x y : Bytes) → same_bytes x y ≡ true → x ≡ y
same_bytes-true x y e = (bytes_decides x y).0 e

-- equal byte strings pass the test
pub true-same_bytes : (x y : Bytes) → x ≡ y → same_bytes x y ≡ true
true-same_bytes x y e = (bytes_decides x y).1 e

-- a certificate is certified
pub is_certified-certificate : (secret : Bytes) (host counter : ℕ) (bare : Bytes) → is_certified secret host counter bare (certificate secret host counter bare) ≡ true
is_certified-certificate secret host counter bare = true-same_bytes (certificate secret host counter bare) _ refl
