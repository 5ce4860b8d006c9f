-- What an answer unfolds to compute digests, keys and tags on literals.
use Rattle.std.specs.Prelude.{⊤}
use Rattle.sha2.specs.Sha256.{sha256, digest_bytes, hash_after, compress, rounds, schedule, first_words}
use Rattle.mb_base.specs.Spelling.{number}
use Rattle.mb_usig.specs.Hmac.{hmac_of}
use Rattle.mb_usig.specs.Tags.{usig_key, client_key, certificate, signed_request, signed_reply, wish_tag, stop_tag}

unfoldable pub tags_on_literals : ⊤
unfolding sha256 digest_bytes hash_after compress rounds schedule first_words number hmac_of usig_key client_key certificate signed_request signed_reply wish_tag stop_tag
tags_on_literals = tt
