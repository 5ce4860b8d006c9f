-- What the client and the hosts say in the run, by the number of the PUT. The tags, certificates and digests were made outside these definitions: the prover makes
-- them anew where the run is computed.
use Rattle.std.specs.Prelude.{ℕ, ◌+◌, ◌-◌, ◌/◌, ◌==◌, if◌then◌else◌, List, [], ◌∷◌, ◌++◌, codes, true, replicate, Option, Some, None, slice_get, unwrap_or}
use Rattle.std.specs.List.{flat_map}
use Rattle.mb_base.specs.Shapes.{Bytes}
use Rattle.mb_parts.specs.declared.request.Request.{Request}
use Rattle.mb_parts.specs.declared.floor.Floor.{Floor}
use Rattle.mb_parts.specs.declared.floor.Phase.TheVariants as phase
use Rattle.mb_msg.specs.declared.event.Placed.{Placed}
use Rattle.mb_msg.specs.declared.event.Slot.{Slot}
use Rattle.mb_msg.specs.declared.message.Body.TheVariants.{Whole}
use Rattle.mb_msg.specs.declared.normal.Prepare.{Prepare}
use Rattle.mb_msg.specs.declared.normal.Commit.{Commit}
use Rattle.mb_msg.specs.declared.normal.Checkpoint.{Checkpoint}
use Rattle.mb_msg.specs.declared.normal.Reply.{Reply}
use Rattle.mb_model.proofs.Hex.{unhex}

-- ---- tags and certificates, of the first PUT first

-- the tags of the requests
abbrev request_tags : List Bytes
request_tags =
    codes "d224d18848a0e121edcdd7d7324cb2e3d8650e9368efe69d214adad8c1cda3ab" ∷
    codes "9fc5e55af03a217e7b47267850aab85031901e52e1f00519c6d573a1b4bc694f" ∷
    codes "e1437a3aa67592db000e9f1172c9a268504a4b0c94e6e03531e363cd2b3da515" ∷
    codes "2675dd55367cbc2c7f2ca9318e7f4cc3b7c3cf6b60215e308b94e2ae0aab1fc7" ∷
    codes "afd359d4f6be96fcd791c73d5e36d617d9d1b773f6185f260322231436284d4c" ∷
    codes "be780d0968c320b825f1cc1e1a3d4d7c094c1cd50105b3ab1ae15ef7355b2e27" ∷
    codes "20633af270b9a3ba50861b904937c0519afcd20c152c902713976c5f2462bdb3" ∷
    codes "8dcbc4267748a5809be1d3e2b470732ac5e1c2d96459f23fee7b4a1c45ed7a16" ∷
    codes "3f65b93e5c7b052ecca160f767d17156643a8a637f69c6d5fd3dddb7467df8bf" ∷
    []

-- the certificates of the PREPAREs of h0
abbrev prepare_certificates : List Bytes
prepare_certificates =
    codes "5ed860386890b16fb24733367832608234efb7ac189a89f5430ab072c3adddc7" ∷
    codes "e0a25a5710b8cec8906681e41990c9daf5b5b8578339b788c40e114209ebe4d2" ∷
    codes "be5eb2f1a11e7136a9d280f5a8d806004899f9027e24ba7ad566b5526b1a7291" ∷
    codes "d2e666f43bbb865097824652609aa2273a5ef4c2bee06cb579264ccb9ae3af86" ∷
    codes "05b9777621912a31e3ba10a56cd6b4b1d7b4ef45d9cc16cc2e0bf806fee90666" ∷
    codes "9856ecaa1a62e92106764108b3bb95a436a1df0c60457481b73706621a7e61f7" ∷
    codes "f77c3fdebe5d47d6a969eb88d4b99f8eee91ce99e7330117fd9646ada09d59a0" ∷
    codes "8b72dd63cd48b75b5251e293f226763583e979076347a3c8e41e2fb0a9a1c830" ∷
    codes "6c651637709a43e6e6e1574784f111f588b79425764a2244cbf864773c523dc0" ∷
    []

-- those of the COMMITs of h1
abbrev commit_certificates : List Bytes
commit_certificates =
    codes "c4123314e785513c336c9c7b823f9588c7f7a01a000497fa89bb22c67339aaf1" ∷
    codes "7addc4e4543ff7098e8887e5044ede2fd52b1412f339846f234dc010d0b9976c" ∷
    codes "3d9e6434261194a859d554b1282f0316606c2dc8c78af7727769d83eea85d54d" ∷
    codes "33ab70e2fb627a55f9385a2dfaaf79c015f1fb8abf8779db4e5666975c93d113" ∷
    codes "a50e5d9164ac3e1c1ca0e2061522b914e1ea849a5a21dfca3cefadc1f0433d1c" ∷
    codes "dcc7f3513a2733c136f1d6cc3f1cc21e0fd267018e15252cd6b9e7d4fa01d658" ∷
    codes "684e61bade3a9807ed1a9921c436658cfde7f619e1b0db0ec4a16b7e32ad5807" ∷
    codes "12c5f829ef1b2c0cc603f6d2f9f3f42cf5e7691773becb3a89419a7c18716a4c" ∷
    codes "a94971333ca9f11c14fe9935c8459facc7d19945531bc8b2d2523cfedac621d5" ∷
    []

-- the tags of the replies of h0, and of h1
abbrev reply_tags_0 : List Bytes
reply_tags_0 =
    codes "4bc8c09d10bf25058bca26fdda87c5cae5a6ac9e949035072fb1ed7c1f7e51c8" ∷
    codes "acf8635d4cc855717f7b28b56e56871adac1c7683756f4d4221934a4cb48cb05" ∷
    codes "1ae6aac22733e6e6ac0702cb6668e392507997f3dedb53c5665f1d42ccb72221" ∷
    codes "e91c956ce343ab866038d8a1f1df25a8cd494c37a9a4a4a66c0c3a21a13c66aa" ∷
    codes "9b38a23bc8aaadcc9577a7753b92112f3da3f78cc4c09b88e0fc688ab6411532" ∷
    codes "59f648777677f8bc097b90e97607ee88704591413c2e95660d90e1f6f0f8900c" ∷
    codes "4cdf92d359020691c05d779fc4e811b4ca47e87605c59c146360f079c844bcbf" ∷
    codes "7a38d8e14d9bd5cf3467191b551100904dec4a541b02662d3645e536b324f36d" ∷
    []

abbrev reply_tags_1 : List Bytes
reply_tags_1 =
    codes "b5ff78955a87b1a0037a45ef793207c414d13c0c373990fcb1c55bec9c2d1d11" ∷
    codes "4a5e7196a1760fd7762a957cf497d34df9997ecbb3d8f8e5002df2f4d26ad9d6" ∷
    codes "6625182fa3f903c1428158eaff6634ae8c21a480e2cd8d9cd51d35e5cef5b196" ∷
    codes "b87e5722ce1ac5676eba063fdafdb0abe3505be40be5fbf0247138b99d9f20df" ∷
    codes "48a39f5cb675892bd262c4e27c6b07ea09a8b21ee78b6c25e6a17395cb75feb2" ∷
    codes "37305a2e77364465a59c3a15a695bca7e847b917ba892dfae864fca5ca63ba5e" ∷
    codes "b8734314fe99ec48abbcef5ef509b4b61643ae42cd5b63351f8d7a378e371970" ∷
    codes "0c14d7e63256ded4fe792f92f8e07f662914f816be088cb15aa7f4e3addb9573" ∷
    codes "44da490893ad26f8046e19802ad406490071c762ff2229b5f6d64752adb28db0" ∷
    []

-- the one of a number, from 1
abbrev numbered : List Bytes → ℕ → Bytes
numbered l k = unhex (unwrap_or (slice_get l (k - 1)) [])

-- ---- a client puts k under the key a, the k-th PUT

abbrev pub put : ℕ → Bytes
put k = 1 ∷ 1 ∷ 97 ∷ 0 ∷ 1 ∷ (48 + k) ∷ []

abbrev pub request : ℕ → Request
request k = record { client = 0; seq = k; op = put k; tag = numbered request_tags k }

abbrev pub placed : ℕ → Placed
placed k = record { request = request k; fresh = true }

abbrev pub slot : ℕ → Slot
slot k = record { pos = k; requests = placed k ∷ [] }

-- how many CHECKPOINTs a host stamped before position k
abbrev pub points_before : ℕ → ℕ
points_before k = (k - 1) / 4

abbrev pub prepare : ℕ → Prepare
prepare k = record {
  view = 0;
  pos = k;
  body = Whole (record { requests = request k ∷ [] });
  ui = record { host = 0; counter = k + points_before k; cert = numbered prepare_certificates k };
}

abbrev pub commit : ℕ → Commit
commit k = record {
  view = 0;
  pos = k;
  counter = (prepare k).ui.counter;
  cert = (prepare k).ui.cert;
  body = (prepare k).body;
  ui = record { host = 1; counter = k + points_before k; cert = numbered commit_certificates k };
}

-- of a host
abbrev pub reply : ℕ → ℕ → Reply
reply h k = record {
  host = h;
  client = 0;
  seq = k;
  pos = k;
  result = 0 ∷ [];
  tag = numbered (if h == 0 then reply_tags_0 else reply_tags_1) k;
}

-- ---- the state behind position k, 4 or 8: 64 parts, of which that of number 10 has the key, and the client table

-- at positions 4 and 8 the digest of the part that has the key, that of the client table, and that of the state
abbrev key_digests : List Bytes
key_digests =
    codes "3014fb58aa7ec5191c868f20524b37540ac87c1d48a981581d633d5fc50e94a6" ∷
    codes "2ddded9e9a4dd09efe0671ec4f4ea4efd5bd52a817964e1b57e48ab49f382ab3" ∷
    []

abbrev table_digests : List Bytes
table_digests =
    codes "13b9cf9300ebeb6d06186ddfe9f96583dd97a65f1d145f3d55fe0f8f802b14ee" ∷
    codes "cca98dcbb486f03310c96c0f418566d770e580a3b78462a665d98dd77afa4c6d" ∷
    []

abbrev state_digests : List Bytes
state_digests =
    codes "f70e1b3896859e2caec8876a56e77bd50a19882b841e17ff7f48ebef6de1dda8" ∷
    codes "cc2b69651f43046fa626eef82f0199cd86d784c1e10b1c5c985685a813faa8db" ∷
    []

-- the certificates of the CHECKPOINTs of h0, and of h1
abbrev checkpoint_certificates_0 : List Bytes
checkpoint_certificates_0 =
    codes "79292769eb7c587d020a4d2b5dc7ca1fda3251e4a74d5aca233caf1eb3eb7a29" ∷
    codes "15451de8512cd83b2b4b1d732936c07d566f20951e3be404af06a8708a140f39" ∷
    []

abbrev checkpoint_certificates_1 : List Bytes
checkpoint_certificates_1 =
    codes "a70a1f0bdd61ed74820591a611c155bf8027d7b93acbfd30fb06e8559d78277e" ∷
    codes "15d347b2d60d72d79c3f773311cc8779f3efdf470c8fb3242c8db5dbd83d9999" ∷
    []

-- the digest of a part without keys
abbrev of_no_keys : Bytes
of_no_keys = unhex (codes "96a296d224f285c67bee93c30f8a309157f0daa35dc5b87e410b78630a09cfc7")

-- a small number in eight bytes
abbrev u64 : ℕ → Bytes
u64 k = replicate 7 0 ++ k ∷ []

abbrev pub parts : ℕ → List Bytes
parts k = replicate 10 (0 ∷ 0 ∷ []) ++ (0 ∷ 1 ∷ 1 ∷ 97 ∷ 0 ∷ 1 ∷ (48 + k) ∷ []) ∷ replicate 53 (0 ∷ 0 ∷ []) ++ (u64 k ++ u64 k ++ 0 ∷ 1 ∷ 0 ∷ []) ∷ []

-- what the digest of the state is of: those of the parts, and the position
abbrev pub list : ℕ → Bytes
list k =
    flat_map (λ d. d) (replicate 10 of_no_keys ++ numbered key_digests (k / 4) ∷ replicate 53 of_no_keys ++ numbered table_digests (k / 4) ∷ []) ++ u64 k

-- Where the gates for h0 and h1 stand behind their CHECKPOINTs at position 4. The first CHECKPOINT of a host tells no floor.
abbrev floor : Floor
floor = record { counter = 5; view = 0; phase = phase.Open; last = 4; top = 4; point = 4 }

abbrev floors : ℕ → List (Option Floor)
floors k = if k == 4 then replicate 3 None else Some floor ∷ Some floor ∷ None ∷ []

-- of a host
abbrev pub checkpoint : ℕ → ℕ → Checkpoint
checkpoint h k = record {
  pos = k;
  state = numbered state_digests (k / 4);
  body = Whole (record { floors = floors k });
  ui = record { host = h; counter = k + k / 4; cert = numbered (if h == 0 then checkpoint_certificates_0 else checkpoint_certificates_1) (k / 4) };
}
