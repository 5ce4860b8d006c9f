-- A text is that of one config, and each of the operations that it has is short.
use Rattle.std.proofs.Common.{◌≡◌, ℕ, ◌*◌, ◌≤◌, leb, cond, Bool, true, false, List, [], ◌∷◌, map, length, codes, Option, Some, None, Result, Ok, Err, refl, sym, ap, subst, ◌∙◌, arith, ◌⊎◌, inl, inr}
use Rattle.std.specs.Prelude.{Contains, option_and_then, IfSome, IsErrOf}
use Rattle.std.proofs.lemmas.Option.{IfSome_then}
use Rattle.std.specs.Result.{result_ok}
use Rattle.std.proofs.lemmas.Bool.{leb-true, and_parts}
use Rattle.hex.specs.Hex.{decode_of}
use Rattle.hex.specs.declared.error.FromHexError.{FromHexError}
use Rattle.hex.proofs.HexLemmas.{decode_of-ok}
use Rattle.mb_base.specs.Limits.{text_limit}
use Rattle.mb_base.specs.Shapes.{Bytes}
use Rattle.mb_base.specs.declared.shape.Shape.{Shape}
use Rattle.mb_parts.specs.Fits.{FitsText}
use Rattle.mb_cluster.specs.Runs.{OpsFit, Asks, Opens, wire}
use Rattle.mb_cluster.specs.Missing.{EndsByStops, AwaitsEach}
use Rattle.mb_cluster.specs.Order.{GoesInOrder}
use Rattle.mb_cluster.proofs.EndLemmas.{none_awaited}
use Rattle.mb_sched.specs.declared.configs.Config.{Config}
use Rattle.mb_sched.specs.Words.{is, is_hex, is_operation, bytes_of, operation_of}
use Rattle.mb_sched.specs.TextLines.{word_behind}
use Rattle.mb_sched.specs.Configs.{ConfigContents, config_contents, op_line}
use Rattle.mb_sched.proofs.ConfigSpellings.{config_spelled}
use Rattle.mb_sched.proofs.ReadSteps.{ok_is, allowed}
use Rattle.mb_sched.proofs.ReadWords.{some_is}
use Rattle.mb_cluster.specs.declared.stop.ClusterStop.{ClusterStop}
use Rattle.mb_cluster.specs.declared.stop.ClusterStop.TheVariants as end
use Rattle.mb_edge.specs.Faults.{Rose}
use Rattle.mb_edge.specs.declared.spawner.Start.{Start}
use Rattle.mb_cluster.specs.Ends.{EndsWell}
use Rattle.mb_cluster.specs.Nodes.{Spawned, RunsNodes, EndsAs, spawned}
use Rattle.mb_answer.specs.Clusters.{run_status, cluster_statuses, HasRisen, RunsCluster, Clusters, TellsToStop, AwaitsStarted, TellsBadEnds, IsUnbroken, IsRun}
use Rattle.mb_answer.proofs.Statuses.{low_no_end}
use Rattle.mb_answer.proofs.Contained.{any_of}
use Rattle.mb_answer.specs.Configs.{IsConfigText, too_long, bad_line, LacksConfig, lack_statuses, FindsConfig, used, unused}
use Rattle.mb_edge.specs.Seen.{Device}
use Rattle.mb_answer.specs.Devices.{Devices, IsLow, answered, unread, starved}
use Rattle.mb_answer.proofs.SameShapes.{same_shape}

-- ---- one config

abbrev config_of_parts : Shape → Bytes → ℕ → List Bytes → Config
config_of_parts shape secret port ops = record { shape = shape; secret = secret; port = port; ops = ops }

pub same_settings : (c d : Config) → config_contents c ≡ config_contents d → c ≡ d
same_settings c d e =
    ap (λ (x : Shape). config_of_parts x c.secret c.port c.ops) (same_shape c.shape d.shape (ap (λ (x : ConfigContents). x.settings.f) e) (ap (λ (x : ConfigContents). x.settings.k) e) (ap (λ (x : ConfigContents). x.settings.clients) e))
    ∙ ap (λ (x : Bytes). config_of_parts d.shape x c.port c.ops) (ap (λ (x : ConfigContents). x.settings.secret) e)
    ∙ ap (λ (x : ℕ). config_of_parts d.shape d.secret x c.ops) (ap (λ (x : ConfigContents). x.settings.port) e)
    ∙ ap (λ (x : List Bytes). config_of_parts d.shape d.secret d.port x) (ap (λ (x : ConfigContents). x.ops) e)

pub same_config : (text : Bytes) (c d : Config) → IsConfigText text c → IsConfigText text d → c ≡ d
same_config text c d a b = same_settings c d (ok_is {E = ℕ} (config_contents c) (config_contents d) (sym a.1 ∙ b.1))

-- ---- short operations

true_or_false : (b : Bool) → (b ≡ true) ⊎ (b ≡ false)
true_or_false true = inl refl
true_or_false false = inr refl

decoded_is : (r : Result Bytes FromHexError) (bytes : Bytes) → result_ok r ≡ Some bytes → r ≡ Ok bytes
decoded_is (Ok x) bytes e = ap Ok (some_is x bytes e)
decoded_is (Err d) bytes e = absurd cc

operation_short : (word op : Bytes) → operation_of word ≡ Some op → FitsText op
operation_short word op e =
    let a = allowed (is_operation word) (bytes_of word) op e in
    let within : length word ≤ 2 * text_limit = leb-true _ _ (and_parts (is_hex word) (leb (length word) (2 * text_limit)) a.0).1 in
    let b = allowed (is_hex word) (cond (is "-" word) (Some []) (result_ok (decode_of word))) op a.1 in
    elim (true_or_false (is "-" word)) [
      | inl dash ↦ let none : Some [] ≡ Some op = rw dash at b.1 in rw (← some_is [] op none) (omega arith)
      | inr other ↦
          let found : result_ok (decode_of word) ≡ Some op = rw other at b.1 in
          let twice = (decode_of-ok word op (decoded_is (decode_of word) op found)).2 in
          omega (arith, twice, within)
    ]

word_short : (word : Option Bytes) (op : Bytes) → option_and_then operation_of word ≡ Some op → FitsText op
word_short None op e = absurd cc
word_short (Some word) op e = operation_short word op e

heads : {A : Type 0} (x y : A) (xs ys : List A) → x ∷ xs ≡ y ∷ ys → (x ≡ y) × (xs ≡ ys)
heads x y xs ys e = (cc, cc)

all_short : (ls ops : List Bytes) → map op_line ls ≡ map Some ops → OpsFit ops
all_short [] [] e = tt
all_short [] (op ∷ ops) e = absurd cc
all_short (l ∷ ls) [] e = absurd cc
all_short (l ∷ ls) (op ∷ ops) e =
    let both = heads (op_line l) (Some op) (map op_line ls) (map Some ops) e in
    (word_short (word_behind (codes "op") l) op both.0, all_short ls ops both.1)

pub ops_fit : (text : Bytes) (c : Config) → IsConfigText text c → OpsFit c.ops
ops_fit text c is = all_short _ c.ops (config_spelled text (config_contents c) is.1).ops

-- ---- the cause of a stop

pub cause_of : (ended : Result (Unit {0}) ClusterStop) (old new : Devices) → (IsErrOf ended end.LinkFault → Rose old.link.faults new.link.faults) → (IsErrOf ended end.SpawnFault → Rose old.spawner.faults new.spawner.faults)
    → (IsErrOf ended end.SinkFault → Rose old.sink.faults new.sink.faults) → EndsAs ended old.spawner.bad_ends new.spawner.bad_ends → HasRisen ended old new
cause_of (Ok done) old new link spawner sink bad = tt
cause_of (Err (end.ChildEnded host status)) old new link spawner sink bad = bad.1
cause_of (Err (end.Budget seq matching)) old new link spawner sink bad = tt
cause_of (Err end.LinkFault) old new link spawner sink bad = link refl
cause_of (Err end.SpawnFault) old new link spawner sink bad = spawner refl
cause_of (Err end.SinkFault) old new link spawner sink bad = sink refl
cause_of (Err end.NoMemory) old new link spawner sink bad = tt

-- ---- what a status tells

-- which stop a status comes of
pub told_by : (ended : Result (Unit {0}) ClusterStop) → (status : ℕ) → status ≡ run_status ended → ((status ≡ 5) → ⊥) × (((status ≡ 6) → IsErrOf ended end.SinkFault) × (((status ≡ 7) → IsErrOf ended end.LinkFault) × ((status ≡ 8) → IsErrOf ended end.SpawnFault)))
told_by (Ok done) status is = ((λ e. absurd (omega (arith, is, e))), ((λ e. absurd (omega (arith, is, e))), ((λ e. absurd (omega (arith, is, e))), (λ e. absurd (omega (arith, is, e))))))
told_by (Err (end.ChildEnded host s)) status is = ((λ e. absurd (omega (arith, is, e))), ((λ e. absurd (omega (arith, is, e))), ((λ e. absurd (omega (arith, is, e))), (λ e. absurd (omega (arith, is, e))))))
told_by (Err (end.Budget seq matching)) status is = ((λ e. absurd (omega (arith, is, e))), ((λ e. absurd (omega (arith, is, e))), ((λ e. absurd (omega (arith, is, e))), (λ e. absurd (omega (arith, is, e))))))
told_by (Err end.LinkFault) status is = ((λ e. absurd (omega (arith, is, e))), ((λ e. absurd (omega (arith, is, e))), ((λ e. refl), (λ e. absurd (omega (arith, is, e))))))
told_by (Err end.SpawnFault) status is = ((λ e. absurd (omega (arith, is, e))), ((λ e. absurd (omega (arith, is, e))), ((λ e. absurd (omega (arith, is, e))), (λ e. refl))))
told_by (Err end.SinkFault) status is = ((λ e. absurd (omega (arith, is, e))), ((λ e. refl), ((λ e. absurd (omega (arith, is, e))), (λ e. absurd (omega (arith, is, e))))))
told_by (Err end.NoMemory) status is = ((λ e. absurd (omega (arith, is, e))), ((λ e. absurd (omega (arith, is, e))), ((λ e. absurd (omega (arith, is, e))), (λ e. absurd (omega (arith, is, e))))))

-- ---- which statuses there are

run_in : (ended : Result (Unit {0}) ClusterStop) → Contains cluster_statuses (run_status ended)
run_in (Ok done) = (0, omega arith, refl)
run_in (Err (end.ChildEnded host s)) = (8, omega arith, refl)
run_in (Err (end.Budget seq matching)) = (7, omega arith, refl)
run_in (Err end.LinkFault) = (5, omega arith, refl)
run_in (Err end.SpawnFault) = (6, omega arith, refl)
run_in (Err end.SinkFault) = (4, omega arith, refl)
run_in (Err end.NoMemory) = (2, omega arith, refl)

pub run_known : (ended : Result (Unit {0}) ClusterStop) (status : ℕ) → status ≡ run_status ended → Contains cluster_statuses status
run_known ended status is = subst (Contains cluster_statuses) (sym is) (run_in ended)

pub lack_known : (status : ℕ) → Contains lack_statuses status → Contains cluster_statuses status
lack_known status lack = any_of (Contains cluster_statuses) lack_statuses status ((1, omega arith, refl), ((2, omega arith, refl), ((3, omega arith, refl), ((4, omega arith, refl), tt)))) lack

-- Bad ends of a run by its status.
pub ends_told : (ended : Result (Unit {0}) ClusterStop) (status before now : ℕ) (well : Type 0) → status ≡ run_status ended → EndsAs ended before now → (well → EndsWell ended) → TellsBadEnds well before now (status ≡ 18)
ends_told (Ok done) status before now well is ends good = record { later = omega (arith, ends); rose = λ e. absurd (omega (arith, is, e)); none = λ w e. absurd (omega (arith, is, e)) }
ends_told (Err (end.ChildEnded host s)) status before now well is ends good = record { later = ends.0; rose = λ e. ends.1; none = λ w e. good w }
ends_told (Err (end.Budget seq matching)) status before now well is ends good = record { later = ends; rose = λ e. absurd (omega (arith, is, e)); none = λ w e. absurd (omega (arith, is, e)) }
ends_told (Err end.LinkFault) status before now well is ends good = record { later = ends; rose = λ e. absurd (omega (arith, is, e)); none = λ w e. absurd (omega (arith, is, e)) }
ends_told (Err end.SpawnFault) status before now well is ends good = record { later = ends; rose = λ e. absurd (omega (arith, is, e)); none = λ w e. absurd (omega (arith, is, e)) }
ends_told (Err end.SinkFault) status before now well is ends good = record { later = ends; rose = λ e. absurd (omega (arith, is, e)); none = λ w e. absurd (omega (arith, is, e)) }
ends_told (Err end.NoMemory) status before now well is ends good = record { later = ends; rose = λ e. absurd (omega (arith, is, e)); none = λ w e. absurd (omega (arith, is, e)) }

-- none was told
pub ends_none : (status n : ℕ) (well : Type 0) → ¬ (status ≡ 18) → TellsBadEnds well n n (status ≡ 18)
ends_none status n well other = record { later = omega arith; rose = λ e. absurd (other e); none = λ w. other }

pub no_ends : (status n : ℕ) (well : Type 0) → IsLow status → TellsBadEnds well n n (status ≡ 18)
no_ends status n well low = ends_none status n well (low_no_end status low)

-- ---- where nothing fails

pub lacks_none : (text : Bytes) (c : Config) (status : ℕ) (source source' sink sink' : Device) → IsConfigText text c → ¬ Rose source.faults source'.faults → ¬ Rose sink.faults sink'.faults → LacksConfig text status source source' sink sink'
    → status ≡ 4
lacks_none text c status source source' sink sink' is calm well (answered wanted out (too_long long two text_is) wrote) = let short = is.0 in absurd (omega (arith, long, short))
lacks_none text c status source source' sink sink' is calm well (answered wanted out (bad_line n short fault two text_is) wrote) = let e = sym fault ∙ is.1 in absurd cc
lacks_none text c status source source' sink sink' is calm well (unread five rose same) = absurd (calm rose)
lacks_none text c status source source' sink sink' is calm well (starved four same) = four

-- ---- a cluster

-- what stands in the way of a whole run
abbrev HasFailed : Devices → Devices → Type 0
HasFailed old new = Rose old.source.faults new.source.faults ⊎ (Rose old.sink.faults new.sink.faults ⊎ (Rose old.link.faults new.link.faults
    ⊎ (Rose old.spawner.faults new.spawner.faults ⊎ Rose old.spawner.bad_ends new.spawner.bad_ends)))

run_is_unbroken : (ended : Result (Unit {0}) ClusterStop) (old new : Devices) → ¬ HasFailed old new → HasRisen ended old new → IsUnbroken (run_status ended)
run_is_unbroken (Ok done) old new calm rose = inl refl
run_is_unbroken (Err (end.ChildEnded host status)) old new calm rose = absurd (calm (inr (inr (inr (inr rose)))))
run_is_unbroken (Err (end.Budget seq matching)) old new calm rose = inr (inr refl)
run_is_unbroken (Err end.LinkFault) old new calm rose = absurd (calm (inr (inr (inl rose))))
run_is_unbroken (Err end.SpawnFault) old new calm rose = absurd (calm (inr (inr (inr (inl rose)))))
run_is_unbroken (Err end.SinkFault) old new calm rose = absurd (calm (inr (inl rose)))
run_is_unbroken (Err end.NoMemory) old new calm rose = inr (inl refl)

pub cluster_completes : (text : Bytes) (turns status : ℕ) (old new : Devices) → Clusters text turns status old new → IsRun text status (HasFailed old new)
cluster_completes text turns status old new (used d is run) c reads calm = subst IsUnbroken (sym run.status_is) (run_is_unbroken run.ended old new calm run.cause)
cluster_completes text turns status old new (unused lacks idle) c reads calm =
    inr (inl (lacks_none text c status old.source new.source old.sink new.sink reads (λ rose. calm (inl rose)) (λ rose. calm (inr (inl rose))) lacks))

-- ---- a run

pub runs_cluster : (c : Config) (turns status : ℕ) (ended : Result (Unit {0}) ClusterStop) (old new : Devices) (sink : Device) → old.sink ≡ sink → status ≡ run_status ended
    → Asks c turns ended (wire old.link.received old.link.sent) (wire new.link.received new.link.sent) sink.bytes new.sink.bytes → Opens c ended old.link.opens new.link.opens
    → RunsNodes c ended (spawned old.spawner.starts old.spawner.waits) (spawned new.spawner.starts new.spawner.waits)
    → GoesInOrder c turns old.link.opens new.link.opens (wire old.link.received old.link.sent) (wire new.link.received new.link.sent) sink.bytes new.sink.bytes (spawned old.spawner.starts old.spawner.waits) (spawned new.spawner.starts new.spawner.waits)
    → HasRisen ended old new → EndsAs ended old.spawner.bad_ends new.spawner.bad_ends
    → RunsCluster c turns status old new
runs_cluster c turns status ended old new sink same is asks opens nodes order cause bad = record {
  ended = ended;
  status_is = is;
  asks = subst (λ (d : Device). Asks c turns ended (wire old.link.received old.link.sent) (wire new.link.received new.link.sent) d.bytes new.sink.bytes) (sym same) asks;
  opens = opens;
  nodes = nodes;
  order = subst (λ (d : Device). GoesInOrder c turns old.link.opens new.link.opens (wire old.link.received old.link.sent) (wire new.link.received new.link.sent) d.bytes new.sink.bytes
      (spawned old.spawner.starts old.spawner.waits) (spawned new.spawner.starts new.spawner.waits)) (sym same) order;
  cause = cause;
  bad_ends = bad;
}

-- nothing was begun
pub none_started : (text : Option Bytes) (f : ℕ) (s : Option (List (ℕ × Start))) (w : Option (List (ℕ × ℕ))) → AwaitsStarted text f f (spawned s w) (spawned s w)
none_started None f s w = tt
none_started (Some t) f s w = λ c is. none_awaited c f f s w (omega arith)

-- by the config that was found
pub told_by_text : (text : Option Bytes) (c : Config) (old new : Spawned) (f g : ℕ) (sent sent' : Option (List (ℕ × Bytes))) → IfSome text (λ t. IsConfigText t c) → (new.starts ≡ old.starts) ⊎ EndsByStops c f g sent sent'
    → TellsToStop text old new f g sent sent'
told_by_text text c old new f g sent sent' is (inl none) = inl none
told_by_text text c old new f g sent sent' is (inr ends) = inr (IfSome_then text is (λ t found d reads. subst (λ (x : Config). EndsByStops x f g sent sent') (same_config t c d found reads) ends))

pub awaited_by_text : (text : Option Bytes) (c : Config) (f g : ℕ) (old new : Spawned) → IfSome text (λ t. IsConfigText t c) → AwaitsEach c f g old new → AwaitsStarted text f g old new
awaited_by_text text c f g old new is awaits = IfSome_then text is (λ t found d reads. subst (λ (x : Config). AwaitsEach x f g old new) (same_config t c d found reads) awaits)

-- What was found in a text that the source told.
pub found_there : (read text : Bytes) (found : Result Config ℕ) (source source' sink sink' : Device) → read ≡ text → ((s s' : Device) → FindsConfig read found s s' sink sink') → FindsConfig text found source source' sink sink'
found_there read text found source source' sink sink' same is = subst (λ (t : Bytes). FindsConfig t found source source' sink sink') same (is source source')
