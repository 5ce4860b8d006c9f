-- The requests that clients asked, by their tags.
use Rattle.std.specs.Prelude.{◌≡◌, ℕ, Bool, ◌&&◌, ◌==◌, List, [], ◌∷◌, unwrap_or}
use Rattle.std.specs.Int.{w64, from_be_bytes}
use Rattle.std.specs.List.{list_any, slice_index}
use Rattle.std.specs.Ordering.{nat_cmp}
use Rattle.std.specs.BTreeMap.{BTreeMap, get}
use Rattle.mb_base.specs.Shapes.{Bytes}
use Rattle.mb_usig.specs.Tags.{same_bytes}
use Rattle.mb_parts.specs.declared.request.Request.{Request}
use Rattle.mb_forgery.specs.declared.asked.Asked.{Asked}

-- all fields are equal
abbrev pub is_same : Request → Request → Bool
is_same q r = q.client == r.client && (q.seq == r.seq && (same_bytes q.op r.op && same_bytes q.tag r.tag))

-- the first eight bytes of a tag, as a number
abbrev pub first_number : Bytes → ℕ
first_number tag = from_be_bytes w64 (slice_index tag 0 ∷ slice_index tag 1 ∷ slice_index tag 2 ∷ slice_index tag 3 ∷ slice_index tag 4 ∷ slice_index tag 5 ∷ slice_index tag 6 ∷ slice_index tag 7 ∷ [])

-- those of which the tag begins as this one
abbrev pub with_tag : BTreeMap ℕ (List Request) → Bytes → List Request
with_tag asked tag = unwrap_or (get nat_cmp asked (first_number tag)) []

-- Each of these requests, and no other, stands beside those of which the tag begins as its own.
abbrev pub HoldsAsked : Asked → List Request → Type 0
HoldsAsked a requests = (r : Request) → list_any (λ q. is_same q r) (with_tag a.by_tag r.tag) ≡ list_any (λ q. is_same q r) requests
