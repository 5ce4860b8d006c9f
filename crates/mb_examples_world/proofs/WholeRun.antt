-- A whole run with a change of the view that meets each premise of the theorem about all hosts (`change_of_view`): a faulty primary orders the request for one
-- host alone, two hosts lose patience, and the next view carries the request on. So the promise is made of it.
use Rattle.std.proofs.Common.{◌≡◌, ◌≤◌, ◌<◌, inl, inr, ℕ, zero, suc, true, List, [], ◌∷◌, map, refl, arith, ap, sym, ◌∙◌, subst, Some, None, Ok}
use Rattle.std.specs.Prelude.{slice_get, codes, option_and_then}
use Rattle.std.specs.List.{AllByRecursion, range_with_len, list_all}
use Rattle.std.proofs.lemmas.Bool.{cases_lt}
use Rattle.sha2.specs.Sha256.{sha256}
use Rattle.mb_base.specs.Limits.{text_limit, service_parts}
use Rattle.mb_base.specs.Shapes.{Bytes}
use Rattle.mb_usig.proofs.OnLiterals.{tags_on_literals}
use Rattle.mb_parts.specs.Fits.{FitsText}
use Rattle.mb_model.proofs.Hex.{unhex}
use Rattle.mb_schedule.specs.Limits.{EventFits, IsSchedule}
use Rattle.mb_world_model.specs.Hashed.{HashesApart}
use Rattle.mb_world_model.specs.WorldSteps.{world}
use Rattle.mb_world_model.specs.Stops.{IsUnstopped, stop_of}
use Rattle.mb_promise.specs.Headline.{IsService, Promises, HostsStayOne, state_after}
use Rattle.mb_world_model.proofs.WorldsOnLiterals.{worlds_on_literals}
use Rattle.mb_examples_world.proofs.Apart.{is_among, are_apart}
use Rattle.mb_examples_world.proofs.Worlds.{keeps_last, keeps_parts, one_client, change_of_view, last_world, stop_at}

-- ---- no two hashed strings share a digest

-- All strings that are hashed, as they come: the request; the batch, which is the body of PREPARE and COMMIT; what the PREPARE of h0 says, and the COMMIT of h1;
-- what h2 shows as it leaves view 0, which is nothing, and what its VIEW_CHANGE says; the same of h1, which shows its COMMIT; the plan of view 1; the two
-- VIEW_CHANGEs in the NEW_VIEW, what it says, and the ENTER of h2; the body of an OPEN, and what it says. Their digests were made outside these definitions.
abbrev hashed_strings : List Bytes
hashed_strings =
    unhex (codes "0000000000000000010006010161000131d224d18848a0e121edcdd7d7324cb2e3d8650e9368efe69d214adad8c1cda3ab") ∷
    unhex (codes "010000000000000000010006010161000131d224d18848a0e121edcdd7d7324cb2e3d8650e9368efe69d214adad8c1cda3ab") ∷
    unhex (codes "0200000000000000000000000000000001a87b75a5d34a1985460c696187ab42987bd11b6d3bc20ec4e53d58c1547a3a43") ∷
    unhex (codes "030000000000000000000000000000000100000000000000015ed860386890b16fb24733367832608234efb7ac189a89f5430ab072c3adddc7a87b75a5d34a1985460c696187ab42987bd11b6d3bc20ec4e53d58c1547a3a43") ∷
    unhex (codes "0000000000000000000000") ∷
    unhex (codes "07000000000000000171b6c1d53832f789a7f2435a7c629245fa3761ad8487775ebf4957330213a706") ∷
    unhex (codes "000000000000000000000103010000000000000000000000000000000100000000000000015ed860386890b16fb24733367832608234efb7ac189a89f5430ab072c3adddc7010000000000000000010006010161000131d224d18848a0e121edcdd7d7324cb2e3d8650e9368efe69d214adad8c1cda3ab010000000000000001c4123314e785513c336c9c7b823f9588c7f7a01a000497fa89bb22c67339aaf1") ∷
    unhex (codes "0700000000000000011856819f043615415f536790f40c911451a652c5b814b4d26e7ce58057959314") ∷
    unhex (codes "5000000000000000000000000000000000000000000000000000000000000000000000000000000000a87b75a5d34a1985460c696187ab42987bd11b6d3bc20ec4e53d58c1547a3a43") ∷
    unhex (codes "07010000000000000001000000000000000000000103010000000000000000000000000000000100000000000000015ed860386890b16fb24733367832608234efb7ac189a89f5430ab072c3adddc7010000000000000000010006010161000131d224d18848a0e121edcdd7d7324cb2e3d8650e9368efe69d214adad8c1cda3ab010000000000000001c4123314e785513c336c9c7b823f9588c7f7a01a000497fa89bb22c67339aaf1010000000000000002c131f67f23116815cd49d6d22166244b9c9ec4b3b26a2d9c08dba00d088785f90701000000000000000100000000000000000000000200000000000000015fcf9bc0bbbadc22319e5e5396971480eb1c146f231d26b004bace9316f68688") ∷
    unhex (codes "08000000000000000100000000000000000000000000000001783077b6096850e2c7c82405fb112129c50a4501002cbfe1548ccca9ebaa7da34fdfefa9ad11849a0378f835bab91635a80d44bf72a94a73dda6082c818d6815") ∷
    unhex (codes "0900000000000000010000000000000003783077b6096850e2c7c82405fb112129c50a4501002cbfe1548ccca9ebaa7da3") ∷
    unhex (codes "0000000000000000010000000000000000010006010161000131d224d18848a0e121edcdd7d7324cb2e3d8650e9368efe69d214adad8c1cda3ab") ∷
    unhex (codes "0a000000000000000100000000000000000000000000000001783077b6096850e2c7c82405fb112129c50a4501002cbfe1548ccca9ebaa7da34fdfefa9ad11849a0378f835bab91635a80d44bf72a94a73dda6082c818d68150000000000000003dbdb87e2e91a308cbeb90a3a430eeedc764d7fd28b3176b6d75350f60358418e020000000000000002d554f2a98ac75ef7bdbc885541417fbf62cac6400888816fc26325c70dd64f61b1ffe92bc24f1c8834cfac214ec0c7a891fddaea5c022eb9c252360691e0784e") ∷
    []

abbrev digests : List Bytes
digests =
    unhex (codes "ec7c1f02d4d97ccd7947e835962cb3e86a3e62727d5a4faf20fa96b9ef0c918a") ∷
    unhex (codes "a87b75a5d34a1985460c696187ab42987bd11b6d3bc20ec4e53d58c1547a3a43") ∷
    unhex (codes "e47d8adb40dd759e86de7275c187b95d12e2c6134dae10d81d6bee846aabf810") ∷
    unhex (codes "0070f61b23e27cd483c1512beffa3cedc88d2ccd3661184e5cbaafcc693e1e47") ∷
    unhex (codes "71b6c1d53832f789a7f2435a7c629245fa3761ad8487775ebf4957330213a706") ∷
    unhex (codes "bc95451c43421971e3c8013f666330d7d761a331ff18c21a0b949001244a9820") ∷
    unhex (codes "1856819f043615415f536790f40c911451a652c5b814b4d26e7ce58057959314") ∷
    unhex (codes "f14c2afcc0e2c3242921c2c7d0fc51b484e9be42dc24feb9e4be4cfd4ccb0c22") ∷
    unhex (codes "783077b6096850e2c7c82405fb112129c50a4501002cbfe1548ccca9ebaa7da3") ∷
    unhex (codes "4fdfefa9ad11849a0378f835bab91635a80d44bf72a94a73dda6082c818d6815") ∷
    unhex (codes "5ff460d120958a3f9843b48dc8dad47856011168a1971e044f380f00b3ee2cb5") ∷
    unhex (codes "6d99c3271189dd5c3ca4acf94573ee21440a5332a797e9cac288c1c40645a488") ∷
    unhex (codes "b1ffe92bc24f1c8834cfac214ec0c7a891fddaea5c022eb9c252360691e0784e") ∷
    unhex (codes "9676e8c0b7d1959295db84e43c76b190f245aca42ce02cfc08173e6bf90b7774") ∷
    []

-- Each string that is hashed is one of these, and their digests are these.
strings_are_these : list_all (is_among hashed_strings) last_world.hashed ≡ true
unfolding worlds_on_literals
strings_are_these = refl

digests_are_these : map sha256 hashed_strings ≡ digests
unfolding tags_on_literals
digests_are_these = refl

pub hashes_are_apart : HashesApart last_world.hashed
hashes_are_apart = are_apart hashed_strings digests last_world.hashed strings_are_these digests_are_these refl

-- ---- the service can be replicated

-- The state is the last operation, or what it was before all of them.
last_fits : (ops : List Bytes) (x : Bytes) → FitsText x → AllByRecursion FitsText ops → FitsText (state_after keeps_last x ops)
unfolding state_after
last_fits [] x fits all = fits
last_fits (op ∷ ops) x fits all = last_fits ops op all.0 all.1

gives_back : (x : Bytes) → keeps_parts.restored (map (keeps_parts.part x) (range_with_len 0 service_parts)) ≡ Ok x
gives_back x = refl

pub service_is_one : IsService keeps_last keeps_parts []
service_is_one =
    let short : 0 ≤ text_limit = omega arith in
    record { short = λ ops op all fits. last_fits ops [] short all; whole = λ ops all. gives_back (state_after keeps_last [] ops) }

-- ---- the schedule is one

at : {A : Type 0} (P : A → Type 0) (l : List A) → AllByRecursion P l → (k : ℕ) (x : A) → slice_get l k ≡ Some x → P x
at P [] all k x is = absurd cc
at P (y ∷ l) all zero x is = let same : y ≡ x = cc in subst P same all.0
at P (y ∷ l) all (suc k) x is = at P l all.1 k x is

each_event_fits : AllByRecursion (EventFits one_client) change_of_view.schedule.events
each_event_fits =
    let client : 0 < 1 = omega arith in
    let short : 6 ≤ text_limit = omega arith in
    let h0 : 0 < 3 = omega arith in
    let h1 : 1 < 3 = omega arith in
    let h2 : 2 < 3 = omega arith in
    ((client, short), ((h0, (omega arith, ((omega arith, omega arith), (omega arith, omega arith)))), (h1, (h1, (h2, (h2, (h1, (h1, (h2, (h2, (h2, (h1, (h1, (h2, tt))))))))))))))

pub schedule_is_one : IsSchedule change_of_view.schedule
schedule_is_one =
    let one : 1 ≤ 1 = omega arith in
    record { hosts = refl; clients = refl; few = one; events = at (EventFits one_client) change_of_view.schedule.events each_event_fits; count = omega arith }

-- ---- nothing stands in the way

-- so many have the property, the last of them first
abbrev Below : (ℕ → Type 0) → ℕ → Type 0
Below P zero = Unit {0}
Below P (suc n) = P n × Below P n

one_below : (P : ℕ → Type 0) (n : ℕ) → Below P n → (j : ℕ) → j < n → P j
one_below P zero all j lt = absurd (omega (arith, lt))
one_below P (suc n) all j lt = elim (cases_lt j n) [
  | inl less ↦ one_below P n all.1 j less
  | inr least ↦ let last : n ≡ j = omega (arith, lt, least) in subst P last all.0
]

abbrev Goes : ℕ → Type 0
Goes k = stop_at change_of_view k ≡ None

first_go : Below Goes 8
unfolding worlds_on_literals
first_go = (refl, (refl, (refl, (refl, (refl, (refl, (refl, (refl, tt))))))))

goes_8_9 : Goes 8 × Goes 9
unfolding worlds_on_literals
goes_8_9 = (refl, refl)

goes_10 : Goes 10
unfolding worlds_on_literals
goes_10 = refl

goes_11 : Goes 11
unfolding worlds_on_literals
goes_11 = refl

goes_12 : Goes 12
unfolding worlds_on_literals
goes_12 = refl

goes_13 : Goes 13
unfolding worlds_on_literals
goes_13 = refl

all_go : Below Goes 14
all_go = (goes_13, (goes_12, (goes_11, (goes_10, (goes_8_9.1, (goes_8_9.0, first_go))))))

pub nothing_stops_it : IsUnstopped change_of_view 14
nothing_stops_it j e lt is = ap (option_and_then (stop_of change_of_view.schedule (world change_of_view j))) (sym is) ∙ one_below Goes 14 all_go j lt

-- ---- the promise

-- What the theorem about all hosts says of this run.
pub run_is_promised : HostsStayOne Bytes → Promises change_of_view last_world
run_is_promised stay_one =
    let all : 14 ≤ 14 = omega arith in
    stay_one change_of_view service_is_one schedule_is_one 14 all nothing_stops_it hashes_are_apart
