-- The tag of a certificate says all that is claimed: from the tag inwards, string by string, to what is said.
use Rattle.std.proofs.Common.{◌≡◌, ℕ, ◌^◌, ◌<◌, ◌≤◌, ◌++◌, ◌∷◌, [], length, ap, refl, sym, ◌∙◌, arith}
use Rattle.std.specs.Int.{w8, w64}
use Rattle.std.proofs.lemmas.List.{append_cancel_left}
use Rattle.sha2.specs.Sha256.{sha256}
use Rattle.sha2.proofs.Facts256.{length-sha256}
use Rattle.mb_base.specs.Shapes.{Bytes, IsShape, host_count}
use Rattle.mb_base.specs.Spelling.{number}
use Rattle.mb_base.specs.Reading.{number_at, bytes_at, pair_at}
use Rattle.mb_base.specs.declared.shape.Shape.{Shape}
use Rattle.mb_base.proofs.Laws.{IsField, pair_field, number_field, bytes_field, field_injective, wide8, wide64}
use Rattle.mb_parts.specs.Bares.{bare_bytes}
use Rattle.mb_parts.specs.Claims.{Claim}
use Rattle.mb_parts.proofs.BareLaws.{bare_injective}
use Rattle.mb_usig.specs.Hmac.{padded, hmac_of}
use Rattle.mb_usig.specs.Tags.{usig_key, certificate}
use Rattle.mb_format_laws.specs.Tags.{FitsClaim, HashesTellApart, ClaimTheSame, TagsSayAll, tag_of, tagged_text, inner_string, outer_string}

abbrev Tagged : Type 0
Tagged = ℕ × (ℕ × Bytes)

abbrev FitsTagged : Tagged → Type 0
FitsTagged p = (p.0 < 2 ^ 8) × ((p.1.0 < 2 ^ 64) × (length p.1.1 ≡ 32))

abbrev tagged_bytes : Tagged → Bytes
tagged_bytes p = number w8 p.0 ++ (number w64 p.1.0 ++ p.1.1)

tagged_field : IsField (pair_at (number_at w8) (pair_at (number_at w64) (bytes_at 32))) tagged_bytes FitsTagged
tagged_field = pair_field _ _ _ _ _ _ (number_field w8 (2 ^ 8) wide8) (pair_field _ _ _ _ _ _ (number_field w64 (2 ^ 64) wide64) (bytes_field 32))

-- the fields of the text that is tagged
abbrev tagged : Claim → Tagged
tagged c = (c.host, (c.counter, sha256 (bare_bytes c.says)))

tagged_fits : (s : Shape) → IsShape s → (c : Claim) → FitsClaim s c → FitsTagged (tagged c)
tagged_fits s h c f = (omega (arith, h.faults, f.host), (f.counter.1, length-sha256 (bare_bytes c.says)))

texts_say : (s : Shape) → IsShape s → (c d : Claim) → FitsClaim s c → FitsClaim s d → tagged_text c ≡ tagged_text d → tagged c ≡ tagged d
texts_say s h c d fc fd e =
    field_injective _ tagged_bytes FitsTagged tagged_field (tagged c) (tagged d) (tagged_fits s h c fc) (tagged_fits s h d fd)
    (append_cancel_left (85 ∷ []) (tagged_bytes (tagged c)) (tagged_bytes (tagged d)) e)

-- the tag is the digest of the outer string
tag_is : (secret : Bytes) (c : Claim) → tag_of secret c ≡ sha256 (outer_string secret c)
unfolding certificate hmac_of
tag_is secret c = refl

pub tags_say : TagsSayAll
tags_say s h secret c d fc fd apart same =
    let outer : outer_string secret c ≡ outer_string secret d = apart.outer (sym (tag_is secret c) ∙ same ∙ tag_is secret d) in
    let inner : inner_string secret c ≡ inner_string secret d = apart.inner (append_cancel_left (padded 0x5c (usig_key secret)) _ _ outer) in
    let text : tagged c ≡ tagged d = texts_say s h c d fc fd (append_cancel_left (padded 0x36 (usig_key secret)) _ _ inner) in
    record {
      host = ap (λ (p : Tagged). p.0) text;
      counter = ap (λ (p : Tagged). p.1.0) text;
      says = bare_injective s h c.says d.says fc.says fd.says (apart.said (ap (λ (p : Tagged). p.1.1) text));
    }
