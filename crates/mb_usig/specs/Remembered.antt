-- What a trusted part remembers: texts with their tags, each of which is right.
use Rattle.std.specs.Prelude.{ℕ, ◌≡◌, List, slice_index_or, Option, Some, None}
use Rattle.mb_base.specs.Shapes.{Bytes}
use Rattle.mb_usig.specs.Tags.{certificate, signed_request}
use Rattle.mb_usig.specs.declared.origin.Origin.{Origin}
use Rattle.mb_usig.specs.declared.origin.Origin.TheVariants.{Host, Client}

-- the tag of a text by whom it is: a host's certificate of what it bound to a counter, or a client's tag of its request
abbrev pub tag_by : Bytes → Origin → Bytes → Bytes
tag_by secret (Host host counter) text = certificate secret host counter text
tag_by secret (Client client) text = signed_request secret client text

-- a text with a tag, and whose tag it is
pub record Tagged : Type 0 where
  pub origin : Origin
  pub text : Bytes
  pub tag : Bytes

-- The tag is the one of the text.
abbrev pub IsRight : Bytes → Tagged → Type 0
IsRight secret t = t.tag ≡ tag_by secret t.origin t.text

-- Each place is empty, or its tag is right.
abbrev pub AreRight : Bytes → List (Option Tagged) → Type 0
AreRight secret places = (place : ℕ) (t : Tagged) → slice_index_or places place None ≡ Some t → IsRight secret t
