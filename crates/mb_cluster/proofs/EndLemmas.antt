-- How nodes end, one more at a time.
use Rattle.std.proofs.Common.{◌≡◌, ◌≢◌, ℕ, suc, ◌+◌, ◌≤◌, List, [], ◌∷◌, ◌++◌, length, map, Option, Result, Ok, Err, inl, inr, ◌⊎◌, refl, sym, ap, subst, ◌∙◌, arith, eqb, length-append}
use Rattle.std.proofs.lemmas.List.{map-append}
use Rattle.std.specs.List.{zip}
use Rattle.std.proofs.lemmas.Bool.{cases_Bool, eqb-true, eqb-false}
use Rattle.mb_edge.specs.declared.outside.Failed.{Failed}
use Rattle.mb_edge.specs.declared.outside.Failed.TheVariants as failed
use Rattle.mb_edge.specs.Faults.{Rose}
use Rattle.mb_edge.specs.Children.{CountsBadEnds}
use Rattle.mb_edge.specs.Told.{with_more, added_by}
use Rattle.mb_cluster.specs.declared.stop.ClusterStop.{ClusterStop}
use Rattle.mb_cluster.specs.declared.stop.ClusterStop.TheVariants.{ChildEnded, Budget, LinkFault, SpawnFault, SinkFault, NoMemory}
use Rattle.std.specs.Prelude.{IfOk}
use Rattle.mb_cluster.specs.Stops.{spawn_stop}
use Rattle.mb_cluster.specs.Sends.{first_failure}
use Rattle.std.proofs.lemmas.List.FromFn.{map-range_with_len_more, length-map-range_with_len}
use Rattle.mb_edge.specs.declared.spawner.Start.{Start}
use Rattle.mb_sched.specs.declared.configs.Config.{Config}
use Rattle.mb_sched.specs.Configs.{config_text}
use Rattle.mb_cluster.specs.Nodes.{first_bad, ended_as, AreAwaited, AwaitsSome, EndsAs, AreStarted, spawned, node_start, node_starts}
use Rattle.mb_cluster.specs.Missing.{AwaitsEach}
use Rattle.mb_cluster.specs.Ends.{after_failure, after_wait, AwaitsNodes, EndsWell}
use Rattle.mb_cluster.proofs.SendLemmas.{all_are_some, some_both}
use Rattle.mb_cluster.proofs.FewLemmas.{awaits_none}
use Rattle.mb_cluster.proofs.WireLemmas.{more_both, more_none}

pub zip_more : {A B : Type 0} (xs : List A) (ys : List B) (x : A) (y : B) → length ys ≡ length xs → zip (xs ++ x ∷ []) (ys ++ y ∷ []) ≡ zip xs ys ++ (x, y) ∷ []
zip_more [] [] x y len = refl
zip_more [] (v ∷ ys) x y len = absurd cc
zip_more (u ∷ xs) [] x y len = absurd cc
zip_more (u ∷ xs) (v ∷ ys) x y len = ap (λ r. (u, v) ∷ r) (zip_more xs ys x y (omega arith))

-- one more status
pub ended_more : (host : ℕ) (statuses : List ℕ) (status : ℕ)
    → ended_as (first_bad host (statuses ++ status ∷ [])) ≡ first_failure (ended_as (first_bad host statuses)) (ended_as (first_bad (host + length statuses) (status ∷ [])))
ended_more host [] status =
    let here : host ≡ host + 0 = omega arith in
    ap (λ h. ended_as (first_bad h (status ∷ []))) here
ended_more host (x ∷ xs) status = elim (cases_Bool (eqb x 0)) [
  | inl zero_is ↦
      let same : host + 1 + length xs ≡ host + suc (length xs) = omega arith in
      rw zero_is (ended_more (host + 1) xs status ∙ ap (λ h. first_failure (ended_as (first_bad (host + 1) xs)) (ended_as (first_bad h (status ∷ [])))) same)
  | inr other ↦ rw other refl
]

-- ---- waits

-- the wait for one more child, where those before it were waited for
module _ (children statuses : List ℕ) (child status : ℕ) (old mid new : Option (List (ℕ × ℕ))) where
  waits_are : length statuses ≡ length children → mid ≡ with_more old (zip children statuses) → new ≡ with_more mid ((child, status) ∷ []) → new ≡ with_more old (zip (children ++ child ∷ []) (statuses ++ status ∷ []))
  waits_are len first second = rw (zip_more children statuses child status len) (more_both old mid new (zip children statuses) ((child, status) ∷ []) first second)

one_more_len : {A : Type 0} (xs : List A) (x : A) → length (xs ++ x ∷ []) ≡ length xs + 1
one_more_len xs x = omega (arith, length-append xs (x ∷ []))

-- and how that ends
pub are_awaited_more : (children : List ℕ) (child status : ℕ) (before : Result (Unit {0}) ClusterStop) (old mid new : Option (List (ℕ × ℕ))) → AreAwaited children before old mid → new ≡ with_more mid ((child, status) ∷ [])
    → AreAwaited (children ++ child ∷ []) (first_failure before (ended_as (first_bad (length children) (status ∷ [])))) old new
are_awaited_more children child status before old mid new a told = record {
  statuses = a.statuses ++ status ∷ [];
  each = omega (arith, one_more_len a.statuses status, one_more_len children child, a.each);
  waits = waits_are children a.statuses child status old mid new a.each a.waits told;
  ended =
      let len : 0 + length a.statuses ≡ length children = omega (arith, a.each) in
      sym (ended_more 0 a.statuses status ∙ ap (λ h. first_failure (ended_as (first_bad 0 a.statuses)) (ended_as (first_bad h (status ∷ [])))) len ∙ ap (λ r. first_failure r (ended_as (first_bad (length children) (status ∷ [])))) (sym a.ended));
}

-- each told wait is of one of them
pub some_none : (old : Option (List (ℕ × ℕ))) → AwaitsSome [] old old
some_none old = record { some = []; told = more_none old; among = tt }

pub some_waited : (children : List ℕ) (child : ℕ) (waited : Result ℕ Failed) (old mid new : Option (List (ℕ × ℕ))) → AwaitsSome children old mid → new ≡ with_more mid (added_by waited (λ status. (child, status))) → AwaitsSome (children ++ child ∷ []) old new
some_waited children child (Ok status) old mid new before told = record {
  some = before.some ++ (child, status) ∷ [];
  told = more_both old mid new before.some ((child, status) ∷ []) before.told told;
  among = rw (map-append (λ (w : ℕ × ℕ). w.0) before.some ((child, status) ∷ [])) (some_both (map (λ (w : ℕ × ℕ). w.0) before.some) children (child ∷ []) (child ∷ []) before.among (all_are_some (child ∷ [])));
}
some_waited children child (Err cause) old mid new before told = record {
  some = before.some ++ [];
  told = more_both old mid new before.some [] before.told told;
  among = rw (map-append (λ (w : ℕ × ℕ). w.0) before.some []) (some_both (map (λ (w : ℕ × ℕ). w.0) before.some) children [] (child ∷ []) before.among tt);
}

-- all that is known after the waits for some children
pub record Waited (children : List ℕ) (ended : Result (Unit {0}) ClusterStop) (old new : Option (List (ℕ × ℕ))) (bad_before bad_now : ℕ) : Type 0 where
  pub awaits : AwaitsNodes children ended old new
  pub bad_ends : EndsAs ended bad_before bad_now

pub rose_later : (a b c : ℕ) → Rose a b → b ≤ c → Rose a c
rose_later a b c rose later = omega (arith, rose, later)

-- the wait for the first of these gave a status
pub waited_ok : (children : List ℕ) (child status : ℕ) (before : Result (Unit {0}) ClusterStop) (old mid new : Option (List (ℕ × ℕ))) (b0 b1 b2 : ℕ) → Waited children before old mid b0 b1
    → new ≡ with_more mid ((child, status) ∷ []) → CountsBadEnds b1 b2 (Ok status) → Waited (children ++ child ∷ []) (after_wait (length children) (Ok status) before) old new b0 b2
waited_ok children child status (Ok done) old mid new b0 b1 b2 w told counts = elim (cases_Bool (eqb status 0)) [
  | inl zero_is ↦ rw zero_is (record {
    awaits = rw zero_is at (are_awaited_more children child status (Ok tt) old mid new w.awaits told);
    bad_ends = counts.kept (eqb-true status 0 zero_is) ∙ w.bad_ends;
  })
  | inr other ↦ rw other (record {
    awaits = rw other at (are_awaited_more children child status (Ok tt) old mid new w.awaits told);
    bad_ends = let not_zero : status ≢ 0 = eqb-false status 0 other in (omega (arith, w.bad_ends, counts.later), (rw w.bad_ends at (counts.rose not_zero)), not_zero);
  })
]
waited_ok children child status (Err (ChildEnded h st)) old mid new b0 b1 b2 w told counts = record {
  awaits = are_awaited_more children child status (Err (ChildEnded h st)) old mid new w.awaits told;
  bad_ends = (omega (arith, w.bad_ends.0, counts.later), rose_later b0 b1 b2 w.bad_ends.1 counts.later, w.bad_ends.2);
}
waited_ok children child status (Err SpawnFault) old mid new b0 b1 b2 w told counts = record { awaits = tt; bad_ends = omega (arith, w.bad_ends, counts.later) }
waited_ok children child status (Err NoMemory) old mid new b0 b1 b2 w told counts = record { awaits = tt; bad_ends = omega (arith, w.bad_ends, counts.later) }
waited_ok children child status (Err LinkFault) old mid new b0 b1 b2 w told counts = absurd w.awaits
waited_ok children child status (Err SinkFault) old mid new b0 b1 b2 w told counts = absurd w.awaits
waited_ok children child status (Err (Budget seq matching)) old mid new b0 b1 b2 w told counts = absurd w.awaits

later_than : (r : Result (Unit {0}) ClusterStop) (b0 b1 : ℕ) → EndsAs r b0 b1 → b0 ≤ b1
later_than (Ok done) b0 b1 ends = omega (arith, ends)
later_than (Err (ChildEnded h st)) b0 b1 ends = ends.0
later_than (Err SpawnFault) b0 b1 ends = ends
later_than (Err NoMemory) b0 b1 ends = ends
later_than (Err LinkFault) b0 b1 ends = ends
later_than (Err SinkFault) b0 b1 ends = ends
later_than (Err (Budget seq matching)) b0 b1 ends = ends

pub failed_ends : (cause : Failed) (children more : List ℕ) (old new : Option (List (ℕ × ℕ))) (b0 b1 b2 : ℕ) → b0 ≤ b1 → b1 ≤ b2 → Waited (children ++ more) (Err (spawn_stop cause)) old new b0 b2
failed_ends failed.Device children more old new b0 b1 b2 first second = record { awaits = tt; bad_ends = omega (arith, first, second) }
failed_ends failed.NoMemory children more old new b0 b1 b2 first second = record { awaits = tt; bad_ends = omega (arith, first, second) }

-- it failed
pub waited_failed : (cause : Failed) (children : List ℕ) (child : ℕ) (before : Result (Unit {0}) ClusterStop) (old mid new : Option (List (ℕ × ℕ))) (b0 b1 b2 : ℕ) → Waited children before old mid b0 b1
    → b1 ≤ b2 → Waited (children ++ child ∷ []) (after_wait (length children) (Err cause) before) old new b0 b2
waited_failed cause children child (Ok done) old mid new b0 b1 b2 w later = failed_ends cause children (child ∷ []) old new b0 b1 b2 (later_than (Ok tt) b0 b1 w.bad_ends) later
waited_failed cause children child (Err (ChildEnded h st)) old mid new b0 b1 b2 w later = failed_ends cause children (child ∷ []) old new b0 b1 b2 (later_than (Err (ChildEnded h st)) b0 b1 w.bad_ends) later
waited_failed cause children child (Err SpawnFault) old mid new b0 b1 b2 w later = record { awaits = tt; bad_ends = omega (arith, w.bad_ends, later) }
waited_failed cause children child (Err NoMemory) old mid new b0 b1 b2 w later = record { awaits = tt; bad_ends = omega (arith, w.bad_ends, later) }
waited_failed cause children child (Err LinkFault) old mid new b0 b1 b2 w later = absurd w.awaits
waited_failed cause children child (Err SinkFault) old mid new b0 b1 b2 w later = absurd w.awaits
waited_failed cause children child (Err (Budget seq matching)) old mid new b0 b1 b2 w later = absurd w.awaits

pub waited_more : (children : List ℕ) (child : ℕ) (waited : Result ℕ Failed) (before : Result (Unit {0}) ClusterStop) (old mid new : Option (List (ℕ × ℕ))) (b0 b1 b2 : ℕ) → Waited children before old mid b0 b1
    → new ≡ with_more mid (added_by waited (λ status. (child, status))) → CountsBadEnds b1 b2 waited → Waited (children ++ child ∷ []) (after_wait (length children) waited before) old new b0 b2
waited_more children child (Ok status) before old mid new b0 b1 b2 w told counts = waited_ok children child status before old mid new b0 b1 b2 w told counts
waited_more children child (Err cause) before old mid new b0 b1 b2 w told counts = waited_failed cause children child before old mid new b0 b1 b2 w counts.later

-- ---- which faults

-- a fault that is told after a wait was told before it, or the wait failed
pub fault_of : (host : ℕ) (waited : Result ℕ Failed) (before : Result (Unit {0}) ClusterStop) → after_wait host waited before ≡ Err SpawnFault → (before ≡ Err SpawnFault) ⊎ (waited ≡ Err failed.Device)
fault_of host (Ok status) (Ok done) is = elim (cases_Bool (eqb status 0)) [
  | inl zero_is ↦ let no = rw zero_is at is in absurd cc
  | inr other ↦ let no = rw other at is in absurd cc
]
fault_of host (Ok status) (Err e) is = inl is
fault_of host (Err failed.Device) before is = inr refl
fault_of host (Err failed.NoMemory) (Ok done) is = absurd cc
fault_of host (Err failed.NoMemory) (Err (ChildEnded h st)) is = absurd cc
fault_of host (Err failed.NoMemory) (Err SpawnFault) is = inl refl
fault_of host (Err failed.NoMemory) (Err NoMemory) is = absurd cc
fault_of host (Err failed.NoMemory) (Err LinkFault) is = absurd cc
fault_of host (Err failed.NoMemory) (Err SinkFault) is = absurd cc
fault_of host (Err failed.NoMemory) (Err (Budget seq matching)) is = absurd cc

-- where each child ends with 0
pub well_more : (host : ℕ) (waited : Result ℕ Failed) (before : Result (Unit {0}) ClusterStop) → EndsWell before → IfOk waited (λ status. status ≡ 0) → EndsWell (after_wait host waited before)
well_more host (Ok status) before well zero_is = rw zero_is (kept before well) where
  kept : (r : Result (Unit {0}) ClusterStop) → EndsWell r → EndsWell (first_failure r (Ok tt))
  kept (Ok done) well = tt
  kept (Err e) well = well
well_more host (Err cause) before well zero_is = failed_well cause before well where
  stop_well : (cause : Failed) → EndsWell (Err (spawn_stop cause))
  stop_well failed.Device = tt
  stop_well failed.NoMemory = tt

  failed_well : (cause : Failed) (r : Result (Unit {0}) ClusterStop) → EndsWell r → EndsWell (after_failure cause r)
  failed_well cause (Ok done) well = stop_well cause
  failed_well cause (Err (ChildEnded h st)) well = absurd well
  failed_well cause (Err SpawnFault) well = tt
  failed_well cause (Err NoMemory) well = tt
  failed_well cause (Err LinkFault) well = tt
  failed_well cause (Err SinkFault) well = tt
  failed_well cause (Err (Budget seq matching)) well = tt

-- ---- starts

pub started_none : (c : Config) (children : List ℕ) (old : Option (List (ℕ × Start))) → children ≡ [] → AreStarted c 0 children old old
started_none c children old none = rw none (record { each = refl; starts = more_none old })

-- one more node
pub started_more : (c : Config) (host : ℕ) (children : List ℕ) (child : ℕ) (old mid new : Option (List (ℕ × Start))) → AreStarted c host children old mid → new ≡ with_more mid ((child, node_start (config_text c) host) ∷ [])
    → AreStarted c (host + 1) (children ++ child ∷ []) old new
started_more c host children child old mid new a told =
    let starts = node_starts c host in
    let len : length starts ≡ length children = length-map-range_with_len (node_start (config_text c)) 0 host ∙ sym a.each in
    record {
      each = omega (arith, one_more_len children child, a.each);
      starts = rw (map-range_with_len_more (node_start (config_text c)) 0 host host (omega arith), zip_more children starts child (node_start (config_text c) host) len)
          (more_both old mid new (zip children starts) ((child, node_start (config_text c) host) ∷ []) a.starts told);
    }

-- a start that failed behind them adds nothing
pub started_kept : (c : Config) (host : ℕ) (children : List ℕ) (old mid new : Option (List (ℕ × Start))) → AreStarted c host children old mid → new ≡ with_more mid [] → AreStarted c (length children) children old new
started_kept c host children old mid new a kept =
    subst (λ (n : ℕ). AreStarted c n children old new) (sym a.each) (record { each = a.each; starts = kept ∙ sym (more_none mid) ∙ a.starts })

pub started_as : (c : Config) (host : ℕ) (children : List ℕ) (old new : Option (List (ℕ × Start))) → AreStarted c host children old new → AreStarted c (length children) children old new
started_as c host children old new a = subst (λ (n : ℕ). AreStarted c n children old new) (sym a.each) a

-- none was started, so none is waited for
pub none_awaited : (c : Config) (f g : ℕ) (s0 : Option (List (ℕ × Start))) (w0 : Option (List (ℕ × ℕ))) → f ≤ g → AwaitsEach c f g (spawned s0 w0) (spawned s0 w0)
none_awaited c f g s0 w0 later = record { children = []; started = started_none c [] s0 refl; awaited = awaits_none f g w0 later }
