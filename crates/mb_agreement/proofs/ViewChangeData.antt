-- A view change with real digests and tags, computed outside these definitions: three hosts, of which h0 leads view 0 and h1 view 1.
-- h0 orders a batch of two requests at position 1 and h1 commits it; h1 and h2 leave for view 1; h1 sends NEW_VIEW, h2 answers, and both open the view.
use Rattle.std.proofs.Common.{arith}
use Rattle.std.specs.Prelude.{[], ◌∷◌, replicate, codes, None}
use Rattle.mb_base.specs.Shapes.{Bytes}
use Rattle.mb_base.specs.declared.shape.Shape.{Shape}
use Rattle.mb_parts.specs.declared.request.Request.{Request}
use Rattle.mb_parts.specs.declared.batch.Batch.{Batch}
use Rattle.mb_parts.specs.declared.certificates.StableCert.{StableCert}
use Rattle.mb_parts.specs.declared.certificates.Evidence.{Evidence}
use Rattle.mb_msg.specs.declared.message.Body.TheVariants.{Whole}
use Rattle.mb_msg.specs.declared.stamped.Shown.{Shown}
use Rattle.mb_msg.specs.declared.stamped.Shown.TheVariants as shown
use Rattle.mb_model.specs.Plans.{ShownLog}
use Rattle.mb_model.proofs.Hex.{unhex}

abbrev pub secret : Bytes
secret = replicate 32 0

-- n = 3, a checkpoint at each fourth position, two clients
abbrev pub three : Shape
three = record { f = 1; k = 4; clients = 2; faults_in = (omega arith, omega arith); interval_in = (omega arith, omega arith); clients_in = (omega arith, omega arith) }

-- nothing is stable yet
abbrev pub at_zero : StableCert
at_zero = record { pos = 0; state = replicate 32 0; members = [] }

-- the tags of the two requests
abbrev pub asked_tag_0 : Bytes
asked_tag_0 = unhex (codes "d224d18848a0e121edcdd7d7324cb2e3d8650e9368efe69d214adad8c1cda3ab")

abbrev pub asked_tag_1 : Bytes
asked_tag_1 = unhex (codes "80ea0daa57d43033a4df74a91770dc59c1c080686309a23e64c4a9c0a0ebe2fa")

-- PUT a = 1, of client 0
abbrev pub asked_0 : Request
asked_0 = record { client = 0; seq = 1; op = 1 ∷ 1 ∷ 97 ∷ 0 ∷ 1 ∷ 49 ∷ []; tag = asked_tag_0 }

-- GET a, of client 1
abbrev pub asked_1 : Request
asked_1 = record { client = 1; seq = 1; op = 2 ∷ 1 ∷ 97 ∷ []; tag = asked_tag_1 }

-- the batch of both
abbrev pub asked : Batch
asked = record { requests = asked_0 ∷ asked_1 ∷ [] }

-- the digest of the batch
abbrev pub asked_digest : Bytes
asked_digest = unhex (codes "1b8ffeb3d07efcfcf121be5f9d36ff35eea99faecde2dc79237099afceb026e0")

-- h0's tag of its PREPARE
abbrev pub prepare_cert : Bytes
prepare_cert = unhex (codes "6639c1f72d53d05d3057c8dbcea5b78ac2fbd18eb52f4dc44f678eb52edfdb6c")

-- h1's tag of its COMMIT
abbrev pub commit_cert : Bytes
commit_cert = unhex (codes "8a434e7c0fd68ff190fe363651f2170adc06a4a59c0566cb8bbe933fbb650664")

-- the digest of what h1's VIEW_CHANGE shows
abbrev pub shown_by_1 : Bytes
shown_by_1 = unhex (codes "3bf2f85e3939eb0bfd1d55b724fff60385c77ae4967d1caab0907e7560a40bdb")

-- h1's tag of its VIEW_CHANGE
abbrev pub change_cert_1 : Bytes
change_cert_1 = unhex (codes "794f3f2ee62090bcd399025f273a2dd452b47c7ea5eae77e5426364c6bd07f9b")

-- the digest of what h2's VIEW_CHANGE shows
abbrev pub shown_by_2 : Bytes
shown_by_2 = unhex (codes "71b6c1d53832f789a7f2435a7c629245fa3761ad8487775ebf4957330213a706")

-- h2's tag of its VIEW_CHANGE
abbrev pub change_cert_2 : Bytes
change_cert_2 = unhex (codes "5fcf9bc0bbbadc22319e5e5396971480eb1c146f231d26b004bace9316f68688")

-- the digest of view 1's plan
abbrev pub plan_1 : Bytes
plan_1 = unhex (codes "383d41741bb94c2427cd9c23d5f0be3621a8dc3aaeb32db65fa80798c333c61c")

-- the digest of both VIEW_CHANGEs
abbrev pub new_view_body : Bytes
new_view_body = unhex (codes "d630f53542686836b5f7d8ff6bb8be3202c6ed67288f10ee3e85b8945fc7a780")

-- h1's tag of its NEW_VIEW
abbrev pub new_view_cert : Bytes
new_view_cert = unhex (codes "59b9ad746d1ccf9c85bed0bb2ef772008469639ecca74bfd4d48b0d64ef9292e")

-- h2's tag of its ENTER
abbrev pub enter_cert : Bytes
enter_cert = unhex (codes "c55f3748b3f7e18dbfe71117616ce60eb580b03baf82cb6008178f4416b9f6fd")

-- the digest of the body of an OPEN of view 1
abbrev pub open_body : Bytes
open_body = unhex (codes "6258d6da53633bbf84d34723498d3a3dffbee5c27e0d3534c4c21ef0b19835e5")

-- h2's tag of its OPEN
abbrev pub open_cert_2 : Bytes
open_cert_2 = unhex (codes "a1e08b3e2e5d615da56bd0f0091994cd4a1f12ad236225993632da14567a445a")

-- of view 1
abbrev pub evidence_1 : Evidence
evidence_1 = record { view = 1; base = 0; end = 1; plan = plan_1; body = new_view_body; counter = 3; cert = new_view_cert; members = record { host = 2; counter = 2; cert = enter_cert } ∷ [] }

-- ---- entries of logs

abbrev pub commit_entry : Shown
commit_entry = shown.Commit (record { view = 0; pos = 1; counter = 1; cert = prepare_cert; body = Whole asked; ui = record { host = 1; counter = 1; cert = commit_cert } })

abbrev pub change_entry : Shown
change_entry = shown.ViewChange (record { view = 1; body = shown_by_2; ui = record { host = 2; counter = 1; cert = change_cert_2 } })

abbrev pub enter_entry : Shown
enter_entry = shown.Enter (record { view = 1; counter = 3; plan = plan_1; ui = record { host = 2; counter = 2; cert = enter_cert } })

abbrev pub open_entry : Shown
open_entry = shown.Open (record { evidence = evidence_1; body = Whole (record { stable = at_zero; batches = asked ∷ [] }); ui = record { host = 2; counter = 3; cert = open_cert_2 } })

-- ---- what h1 and h2 show as they leave view 0

abbrev pub log_1 : ShownLog
log_1 = record { host = 1; body = record { floor = None; stable = at_zero; entries = commit_entry ∷ [] } }

abbrev pub log_2 : ShownLog
log_2 = record { host = 2; body = record { floor = None; stable = at_zero; entries = [] } }
