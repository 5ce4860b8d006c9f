-- The limits of what hosts order, keep, show and send, each as its number and at its edge; and a host that leaves the view in which it joined.
use Rattle.std.proofs.Common.{◌≡◌, ℕ, true, List, [], ◌∷◌, length, map, refl, Option, Some, None}
use Rattle.std.specs.Prelude.{◌+◌, ◌-◌, replicate}
use Rattle.mb_base.specs.Limits.{batch_limit, batch_bytes_limit, other_limit, service_parts, part_count, table_part, entry_limit, entry_bytes_limit, part_bytes_limit, ahead_limit}
use Rattle.mb_base.specs.Shapes.{Bytes}
use Rattle.mb_usig.specs.Tags.{certificate}
use Rattle.mb_parts.specs.declared.certificates.StableCert.{StableCert}
use Rattle.mb_parts.specs.declared.certificates.StableMember.{StableMember}
use Rattle.mb_parts.specs.Bares.{Bare, bare_bytes, batch_digest}
use Rattle.mb_parts.specs.Bares as bare
use Rattle.mb_msg.specs.declared.message.Message.TheVariants as message
use Rattle.mb_msg.specs.declared.stamped.Shown.{Shown}
use Rattle.mb_msg.specs.declared.stamped.Shown.TheVariants as shown
use Rattle.mb_msg.specs.declared.stamped.Stamped.{Stamped as StampedMessage}
use Rattle.mb_msg.specs.declared.stamped.Stamped.TheVariants as stamped
use Rattle.mb_msg.specs.Spelling.{stamped_bytes}
use Rattle.mb_model.specs.declared.known.KnownSlot.{KnownSlot}
use Rattle.mb_model.specs.UsableLogs.{Fault, normal_limit, log_fault}
use Rattle.mb_model.specs.Plans.{no_base}
use Rattle.mb_model.specs.Histories.{Accepted}
use Rattle.mb_model.specs.Held.{changes_of, view_limit}
use Rattle.mb_model.specs.Positions.{position_limit}
use Rattle.mb_model.specs.OwnLog.{packed}
use Rattle.mb_model.specs.Making.{fitting}
use Rattle.mb_model.specs.Sending.{Progress, begin, write}
use Rattle.mb_model.specs.EnabledRules.{ChangeView, Join, Commit}
use Rattle.mb_model.specs.CarriedOut.{carry_out}
use Rattle.mb_model.proofs.StepOnLiterals.{host_on_literals}
use Rattle.mb_examples_host.proofs.AgreeingCheckpoints.{secret, shape, host, alone}

-- ---- the numbers

-- of a batch, and of positions ahead of the executed one
ordering_limits : batch_limit ∷ batch_bytes_limit ∷ ahead_limit ∷ [] ≡ 16 ∷ 2048 ∷ 4 ∷ []
ordering_limits = refl

-- with an interval of 4: of votes and CHECKPOINTs in a log, and of the other kinds
log_limits : normal_limit shape ∷ other_limit ∷ [] ≡ 24 ∷ 768 ∷ []
log_limits = refl

-- of the entries of a LOG and their bytes, and of the bytes of the parts of a STATE
sending_limits : entry_limit ∷ entry_bytes_limit ∷ part_bytes_limit ∷ [] ≡ 64 ∷ 800000 ∷ 65536 ∷ []
sending_limits = refl

-- of a state
state_parts : service_parts ∷ table_part ∷ part_count ∷ [] ≡ 64 ∷ 64 ∷ 65 ∷ []
state_parts = refl

greatest_numbers : view_limit ∷ position_limit ∷ [] ≡ 9223372036854775807 ∷ 9223372036854775807 ∷ []
greatest_numbers = refl

-- ---- the edges of a LOG and of a STATE

abbrev enter : StampedMessage
enter = stamped.Enter (record { view = 1; counter = 1; plan = replicate 32 0; ui = record { host = 1; counter = 1; cert = replicate 32 0 } })

abbrev size : ℕ
size = length (stamped_bytes enter)

-- behind entries of so many bytes
abbrev entries_behind : ℕ → ℕ
entries_behind used = length (packed 2 used (enter ∷ enter ∷ []))

bytes_of_log : map entries_behind ((800000 - (size + size)) ∷ (800001 - (size + size)) ∷ (800000 - size) ∷ (800001 - size) ∷ []) ≡ 2 ∷ 1 ∷ 1 ∷ 0 ∷ []
unfolding host_on_literals
bytes_of_log = refl

entries_of_log : length (packed 63 0 (replicate 70 enter)) ≡ 63
unfolding host_on_literals
entries_of_log = refl

bytes_of_state : map (λ used. length (fitting used ((1 ∷ []) ∷ []))) (65535 ∷ 65536 ∷ []) ≡ 1 ∷ 0 ∷ []
unfolding host_on_literals
bytes_of_state = refl

-- ---- how many entries a shown log may have that are neither votes nor CHECKPOINTs

abbrev change : Shown
change = shown.ViewChange (record { view = 1; body = []; ui = record { host = 0; counter = 5; cert = [] } })

abbrev fault_of : List Shown → Option Fault
fault_of entries = log_fault shape secret (λ claim. true) 0 1 2 (record { floor = None; stable = no_base; entries = entries })

-- That is looked for before all entries: these have no right counter.
too_many_others : (fault_of (replicate 768 change) ≡ Some (0, 3)) × (fault_of (replicate 769 change) ≡ Some (0, 9))
unfolding host_on_literals
too_many_others = (refl, refl)

-- ---- h1 commits, hears that position 4 is stable, joins there, and leaves the view

abbrev certified : ℕ → ℕ → Bare → Bytes
certified h counter says = certificate secret h counter (bare_bytes says)

abbrev ordered : KnownSlot
ordered = record { counter = 1; cert = certified 0 1 (bare.Prepare 0 1 (batch_digest (alone 0))); digest = batch_digest (alone 0); batch = Some (alone 0) }

abbrev digest : Bytes
digest = replicate 32 9

abbrev member : ℕ → StableMember
member h = record { host = h; counter = 1; floors = digest; cert = certified h 1 (bare.Checkpoint 4 digest digest) }

abbrev stable : StableCert
stable = record { pos = 4; state = digest; members = member 0 ∷ member 2 ∷ [] }

abbrev leaves : Progress
leaves = carry_out (host 1) (ChangeView 1) (carry_out (host 1) Join (write (Accepted (message.Join (record { view = 0; evidence = None; stable = stable; ui = record { host = 2; counter = 2; cert = [] } })))
    (carry_out (host 1) (Commit 1 ordered (alone 0)) (begin []))))

-- Its own VIEW_CHANGE is usable, and so it is stored.
own_change_is_stored : map (λ c. c.ui.host ∷ c.ui.counter ∷ c.view ∷ []) (changes_of (host 1) leaves.history) ≡ (1 ∷ 3 ∷ 1 ∷ []) ∷ []
unfolding host_on_literals
own_change_is_stored = refl
