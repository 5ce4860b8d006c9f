-- What stands inside of messages: all certificates of a LOG that has each kind of entry, in the order of the bytes, and what is hashed of a STATE.
use Rattle.std.proofs.Common.{◌≡◌, ℕ, ◌+◌, List, [], ◌∷◌, length, map, refl, Some, None}
use Rattle.std.specs.Prelude.{replicate}
use Rattle.mb_base.specs.declared.names.Ui.{Ui}
use Rattle.mb_parts.specs.declared.certificates.StableCert.{StableCert}
use Rattle.mb_parts.specs.declared.certificates.FloorCert.{FloorCert}
use Rattle.mb_parts.specs.declared.certificates.Evidence.{Evidence}
use Rattle.mb_msg.specs.declared.message.Body.TheVariants.{Whole, Bare}
use Rattle.mb_msg.specs.declared.message.Message.{Message}
use Rattle.mb_msg.specs.declared.message.Message.TheVariants as message
use Rattle.mb_msg.specs.declared.normal.Commit.{Commit}
use Rattle.mb_msg.specs.declared.change.Open.{Open}
use Rattle.mb_msg.specs.declared.change.ViewChange.{ViewChange}
use Rattle.mb_msg.specs.declared.stamped.Shown.TheVariants as shown
use Rattle.mb_msg.specs.declared.stamped.Stamped.{Stamped}
use Rattle.mb_msg.specs.declared.stamped.Stamped.TheVariants as stamped
use Rattle.mb_msg.specs.Spelling.{spelling}
use Rattle.mb_schedule.specs.declared.schedule.Name.TheVariants as name
use Rattle.mb_schedule.specs.declared.schedule.WorldEvent.TheVariants.{Raw}
use Rattle.mb_model.specs.Inside.{claims_in}
use Rattle.mb_world_model.specs.WorldSteps.{world}
use Rattle.mb_world_model.proofs.WorldsOnLiterals.{worlds_on_literals}
use Rattle.mb_examples_world.proofs.Worlds.{one_client, all_correct}

-- ---- certificates, told apart by their counters

abbrev ui : ℕ → ℕ → Ui
ui h n = record { host = h; counter = n; cert = [] }

-- of h0 and h1, at this counter and the next
abbrev stable : ℕ → StableCert
stable n = record { pos = 4; state = []; members = record { host = 0; counter = n; floors = []; cert = [] } ∷ record { host = 1; counter = n + 1; floors = []; cert = [] } ∷ [] }

-- of h0 and h2
abbrev floor : ℕ → FloorCert
floor n = record { pos = 4; state = []; members = record { host = 0; counter = n; floors = []; cert = [] } ∷ record { host = 2; counter = n + 1; floors = []; cert = [] } ∷ [] }

-- of h1, which leads view 1, and of h2
abbrev evidence : ℕ → Evidence
evidence n = record { view = 1; base = 0; end = 0; plan = []; body = []; counter = n; cert = []; members = record { host = 2; counter = n + 1; cert = [] } ∷ [] }

-- ---- messages with these certificates

-- of h0's PREPARE at the first counter
abbrev commit : ℕ → Ui → Commit
commit n u = record { view = 0; pos = 1; counter = n; cert = []; body = Bare []; ui = u }

abbrev opening : ℕ → ℕ → Ui → Open
opening n m u = record { evidence = evidence n; body = Whole (record { stable = stable m; batches = [] }); ui = u }

abbrev shows_votes : ViewChange
shows_votes = record { view = 1; body = Whole (record { floor = Some (floor 81); stable = stable 83; entries = shown.Commit (commit 85 (ui 2 86)) ∷ shown.Open (opening 88 90 (ui 2 87)) ∷ [] }); ui = ui 2 80 }

abbrev shows_nothing : ViewChange
shows_nothing = record { view = 1; body = Whole (record { floor = None; stable = stable 111; entries = [] }); ui = ui 0 110 }

abbrev entries : List Stamped
entries =
    stamped.Commit (commit 51 (ui 1 50)) ∷
    stamped.Open (opening 61 63 (ui 2 60)) ∷
    stamped.Join (record { view = 1; evidence = Some (evidence 71); stable = stable 73; ui = ui 0 70 }) ∷
    stamped.ViewChange shows_votes ∷
    stamped.NewView (record { view = 1; base = 0; end = 0; plan = []; body = Whole (record { changes = shows_nothing ∷ [] }); ui = ui 1 100 }) ∷
    stamped.Prepare (record { view = 0; pos = 1; body = Bare []; ui = ui 0 120 }) ∷
    stamped.Checkpoint (record { pos = 4; state = []; body = Bare []; ui = ui 1 121 }) ∷
    stamped.Enter (record { view = 1; counter = 1; plan = []; ui = ui 2 122 }) ∷
    []

abbrev log : Message
log = message.Log (record { host = 1; floor = Some (floor 10); stable = stable 12; evidence = Some (evidence 14); entries = entries })

-- ---- each of them is a claim: whose it is, and its counter

abbrev claims : Message → List (List ℕ)
claims m = map (λ c. c.host ∷ c.counter ∷ []) (claims_in one_client m)

abbrev by : ℕ → ℕ → List ℕ
by h n = h ∷ n ∷ []

claims_of_log : claims log
    ≡ by 0 10 ∷ by 2 11 ∷ by 0 12 ∷ by 1 13 ∷ by 1 14 ∷ by 2 15
    ∷ by 0 51 ∷ by 1 50
    ∷ by 1 61 ∷ by 2 62 ∷ by 0 63 ∷ by 1 64 ∷ by 2 60
    ∷ by 1 71 ∷ by 2 72 ∷ by 0 73 ∷ by 1 74 ∷ by 0 70
    ∷ by 0 81 ∷ by 2 82 ∷ by 0 83 ∷ by 1 84 ∷ by 0 85 ∷ by 2 86 ∷ by 1 88 ∷ by 2 89 ∷ by 0 90 ∷ by 1 91 ∷ by 2 87 ∷ by 2 80
    ∷ by 0 111 ∷ by 1 112 ∷ by 0 110 ∷ by 1 100
    ∷ by 0 120 ∷ by 1 121 ∷ by 2 122 ∷ []
unfolding worlds_on_literals
claims_of_log = refl

-- By itself each has the same: a JOIN of view 0 that of what is stable, and a REQUEST none.
claims_of_join : claims (message.Join (record { view = 0; evidence = None; stable = stable 1; ui = ui 2 3 })) ≡ by 0 1 ∷ by 1 2 ∷ by 2 3 ∷ []
unfolding worlds_on_literals
claims_of_join = refl

-- ---- of a STATE that is given to a host, each part is hashed, and the 65 digests with the position

abbrev state : Message
state = message.State (record { host = 1; pos = 4; digests = replicate 65 (replicate 32 0); first = 3; parts = (1 ∷ []) ∷ (2 ∷ 3 ∷ []) ∷ [] })

hashed_of_state : map length (world (all_correct (Raw (name.Host 2) (spelling state) ∷ [])) 1).hashed ≡ 1 ∷ 2 ∷ 2088 ∷ []
unfolding worlds_on_literals
hashed_of_state = refl
