-- Requests and a PREPARE with real tags, computed outside these definitions: three hosts, of which h0 leads view 0; a checkpoint at each fourth position;
-- a secret of 32 zero bytes. Each client asks once for the same operation.
use Rattle.std.proofs.Common.{arith}
use Rattle.std.specs.Prelude.{ℕ, List, [], ◌∷◌, replicate, codes, slice_index_or, Ok, unwrap_or, slice_get, if◌then◌else◌, ◌==◌}
use Rattle.mb_base.specs.Shapes.{Bytes}
use Rattle.mb_base.specs.declared.shape.Shape.{Shape}
use Rattle.mb_parts.specs.declared.request.Request.{Request}
use Rattle.mb_parts.specs.declared.batch.Batch.{Batch}
use Rattle.mb_msg.specs.declared.message.Body.TheVariants.{Whole}
use Rattle.mb_msg.specs.declared.normal.Prepare.{Prepare}
use Rattle.mb_model.specs.Service.{Machine}
use Rattle.mb_model.specs.States.{Snapshots}
use Rattle.mb_model.specs.Histories.{Identity}
use Rattle.mb_model.proofs.Hex.{unhex}

-- ---- the system

abbrev pub secret : Bytes
secret = replicate 32 0

-- a service that keeps the last operation, and answers each with a byte 0
abbrev pub keeps_last : Machine Bytes
keeps_last = record { after = λ state op. op; result = λ state op. 0 ∷ [] }

-- Its first part is the state, the others are empty.
abbrev pub first_part : Snapshots Bytes
first_part = record { part = λ state i. if i == 0 then state else []; restored = λ parts. Ok (unwrap_or (slice_get parts 0) []) }

abbrev pub four_clients : Shape
four_clients = record { f = 1; k = 4; clients = 4; faults_in = (omega arith, omega arith); interval_in = (omega arith, omega arith); clients_in = (omega arith, omega arith) }

abbrev pub host : Shape → ℕ → Identity Bytes
host s h = record { shape = s; host = h; secret = secret; machine = keeps_last; snapshots = first_part; initial = [] }

-- PUT a = 1
abbrev pub put : Bytes
put = 1 ∷ 1 ∷ 97 ∷ 0 ∷ 1 ∷ 49 ∷ []

-- ---- messages

-- the tag of the request of a client
abbrev request_tags : List Bytes
request_tags =
    unhex (codes "d224d18848a0e121edcdd7d7324cb2e3d8650e9368efe69d214adad8c1cda3ab") ∷
    unhex (codes "342078bff1219e92ff095cc5bbe93b420c0dd0430534491cbb81ab39880727d7") ∷
    []

-- of client 0 or 1
abbrev pub asked : ℕ → Request
asked c = record { client = c; seq = 1; op = put; tag = slice_index_or request_tags c [] }

-- a batch of one request
abbrev pub alone : Request → Batch
alone r = record { requests = r ∷ [] }

-- h0 orders the request of client 0 at position 1, with its first counter.
abbrev pub prepare : Prepare
prepare = record { view = 0; pos = 1; body = Whole (alone (asked 0)); ui = record { host = 0; counter = 1; cert = unhex (codes "5ed860386890b16fb24733367832608234efb7ac189a89f5430ab072c3adddc7") } }
