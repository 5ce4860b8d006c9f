-- All tables of a host together: they stand for a history with one more entry where each of them does.
use Rattle.std.proofs.Common.{◌≡◌, ℕ, false, ◌∷◌, refl, sym, ap, subst}
use Rattle.mb_msg.specs.declared.message.Message.TheVariants as message
use Rattle.mb_msg.specs.declared.transfer.Resend.{Resend}
use Rattle.mb_msg.specs.declared.transfer.Fetch.{Fetch}
use Rattle.mb_model.specs.Histories.{Entry, Accepted, History, Identity, counter_of}
use Rattle.mb_model.specs.Stable.{stable_of, low_of}
use Rattle.mb_model.specs.Positions.{exec_of}
use Rattle.mb_model.specs.Execution.{state_of, asked_host}
use Rattle.mb_steps.specs.Arises.{Adds}
use Rattle.mb_fetch.specs.Snapshots.{StandsFrom}
use Rattle.mb_history_laws.specs.Speaks.{speaks_of_gate, is_stamp, speaks_of_log, speaks_of_change, speaks_of_positions, speaks_of_stable, speaks_of_executed, speaks_of_state, speaks_of_snapshots, speaks_of_parts, is_nudge}
use Rattle.mb_history_laws.specs.Gates.{MovesGate}
use Rattle.mb_history_laws.proofs.Framing.{low_stays}
use Rattle.mb_history_laws.proofs.Sound.{stays_sound}
use Rattle.mb_refinement.specs.Tables.{Tables}
use Rattle.mb_refinement.specs.Stands.{Stand, GatesStand, LogStands, NormalStands, ChangeStands, ShelfStands, HeldStand}
use Rattle.mb_refinement.specs.Lagging.{StandLags, ShelfLags, HeldLag, dropped_below}
use Rattle.mb_refinement.proofs.Gates.{gates_stay}
use Rattle.mb_refinement.proofs.OwnLogs.{own_log_stays}
use Rattle.mb_refinement.proofs.Changes.{change_stays}
use Rattle.mb_refinement.proofs.Values.{own_counter_stays, executed_stays, certificate_stays, service_stays, asked_left}
use Rattle.mb_refinement.proofs.Positions.{normal_stays}
use Rattle.mb_refinement.proofs.Snapshots.{shelf_stays, shelf_lags, shelf_lags_on, shelf_follows}
use Rattle.mb_refinement.proofs.FetchedParts.{held_stays, held_lags, held_lags_on, held_follow}

-- An entry speaks to no table.
pub record SpeaksToNone (e : Entry) : Type 0 where
  pub gates : (h : ℕ) → speaks_of_gate h e ≡ false
  pub counter : is_stamp e ≡ false
  pub log : speaks_of_log e ≡ false
  pub positions : speaks_of_positions e ≡ false
  pub change : speaks_of_change e ≡ false
  pub stable : speaks_of_stable e ≡ false
  pub executed : speaks_of_executed e ≡ false
  pub state : speaks_of_state e ≡ false
  pub snapshots : speaks_of_snapshots e ≡ false
  pub parts : speaks_of_parts e ≡ false
  pub nudge : is_nudge e ≡ false

module _ {S : Type 0} (self : Identity S) where
  -- ---- one entry more

  -- each table by itself
  pub record EachStands (t : Tables S) (d : History) : Type 0 where
    pub counter : t.counter ≡ counter_of d
    pub gates : GatesStand self t.gates d
    pub log : LogStands self t.log d
    pub normal : NormalStands self t.normal d
    pub change : ChangeStands self t.change d
    pub stable : t.stable ≡ stable_of self d
    pub exec : t.exec ≡ exec_of d
    pub service : t.service ≡ state_of self d
    pub shelf : ShelfStands self t.shelf d
    pub parts : HeldStand self t.parts d
    pub asked : t.asked ≡ asked_host self d

  -- The entry was added as the rules of a host let it, and behind it each table stands.
  pub stands_behind : (t new : Tables S) (e : Entry) (d : History) → Stand self t d → Adds self d e → MovesGate self e d → EachStands new (e ∷ d) → Stand self new (e ∷ d)
  stands_behind t new e d s adds moves each = record {
    sound = stays_sound self e d adds moves s.sound;
    counter = each.counter;
    gates = each.gates;
    log = each.log;
    normal = each.normal;
    change = each.change;
    stable = each.stable;
    exec = each.exec;
    service = each.service;
    shelf = each.shelf;
    parts = each.parts;
    asked = each.asked;
  }

  -- ---- while snapshots and parts lag

  pub stand_lags : (t : Tables S) (d : History) → Stand self t d → StandLags self (low_of self d) t d
  stand_lags t d s = record {
    sound = s.sound;
    counter = s.counter;
    gates = s.gates;
    log = s.log;
    normal = s.normal;
    change = s.change;
    stable = s.stable;
    exec = s.exec;
    service = s.service;
    shelf = shelf_lags self t.shelf d s.shelf;
    parts = held_lags self t.parts d s.sound s.parts;
    asked = s.asked;
  }

  -- each table by itself, but these two
  pub record EachFollows (t : Tables S) (d : History) : Type 0 where
    pub counter : t.counter ≡ counter_of d
    pub gates : GatesStand self t.gates d
    pub log : LogStands self t.log d
    pub normal : NormalStands self t.normal d
    pub change : ChangeStands self t.change d
    pub stable : t.stable ≡ stable_of self d
    pub exec : t.exec ≡ exec_of d
    pub service : t.service ≡ state_of self d
    pub asked : t.asked ≡ asked_host self d

  -- Behind an entry that speaks of neither, where they are as they were, they lag on.
  pub lags_behind : (low : ℕ) (t new : Tables S) (e : Entry) (d : History) → StandLags self low t d → Adds self d e → MovesGate self e d → speaks_of_snapshots e ≡ false → speaks_of_parts e ≡ false
      → new.shelf ≡ t.shelf → new.parts ≡ t.parts → EachFollows new (e ∷ d) → StandLags self low new (e ∷ d)
  lags_behind low t new e d s adds moves no_snapshots no_parts same_shelf same_parts each = record {
    sound = stays_sound self e d adds moves s.sound;
    counter = each.counter;
    gates = each.gates;
    log = each.log;
    normal = each.normal;
    change = each.change;
    stable = each.stable;
    exec = each.exec;
    service = each.service;
    shelf = subst (λ x. ShelfLags self low x (e ∷ d)) (sym same_shelf) (shelf_lags_on self low t.shelf e d no_snapshots s.shelf);
    parts = subst (λ x. HeldLag self low x (e ∷ d)) (sym same_parts) (held_lags_on self low t.parts e d no_parts s.parts);
    asked = each.asked;
  }

  -- They follow the stable position: snapshots below it go, and parts of a lower one.
  pub lags_follow : (low : ℕ) (t new : Tables S) (d : History) → StandLags self low t d → StandsFrom t.shelf t.stable.pos new.shelf → new ≡ record t { shelf = new.shelf; parts = dropped_below t.stable.pos t.parts } → Stand self new d
  lags_follow low t new d s from is = subst (λ x. Stand self x d) (sym is) (record {
    sound = s.sound;
    counter = s.counter;
    gates = s.gates;
    log = s.log;
    normal = s.normal;
    change = s.change;
    stable = s.stable;
    exec = s.exec;
    service = s.service;
    shelf = shelf_follows self low t.shelf new.shelf d (subst (λ p. StandsFrom t.shelf p new.shelf) at from) s.shelf;
    parts = subst (λ p. HeldStand self (dropped_below p t.parts) d) (sym at) (held_follow self low t.parts d s.parts);
    asked = s.asked;
  }) where
    at : t.stable.pos ≡ low_of self d
    at = ap (λ c. c.pos) s.stable

  -- ---- what an entry leaves

  -- Each table that an entry does not speak to stands behind it as it was.
  pub record Stays (low : ℕ) (t : Tables S) (e : Entry) (d : History) : Type 0 where
    pub counter : is_stamp e ≡ false → t.counter ≡ counter_of (e ∷ d)
    pub gates : ((h : ℕ) → speaks_of_gate h e ≡ false) → GatesStand self t.gates (e ∷ d)
    pub log : speaks_of_log e ≡ false → LogStands self t.log (e ∷ d)
    pub normal : speaks_of_positions e ≡ false → NormalStands self t.normal (e ∷ d)
    pub change : speaks_of_change e ≡ false → ChangeStands self t.change (e ∷ d)
    pub stable : speaks_of_stable e ≡ false → t.stable ≡ stable_of self (e ∷ d)
    pub exec : speaks_of_executed e ≡ false → t.exec ≡ exec_of (e ∷ d)
    pub service : speaks_of_state e ≡ false → t.service ≡ state_of self (e ∷ d)
    pub shelf : speaks_of_snapshots e ≡ false → ShelfLags self low t.shelf (e ∷ d)
    pub parts : speaks_of_parts e ≡ false → HeldLag self low t.parts (e ∷ d)
    pub asked : is_nudge e ≡ false → t.asked ≡ asked_host self (e ∷ d)

  pub stays : (low : ℕ) (t : Tables S) (e : Entry) (d : History) → StandLags self low t d → Adds self d e → Stays low t e d
  stays low t e d s adds = record {
    counter = λ none. own_counter_stays t.counter e d none s.counter;
    gates = λ none. gates_stay self t.gates e d none s.gates;
    log = λ none. own_log_stays self t.log e d none s.log;
    normal = λ none. normal_stays self e d t.normal (adds, s.sound.arises) none s.normal;
    change = λ none. change_stays self t.change e d none s.change;
    stable = λ none. certificate_stays self t.stable e d none s.stable;
    exec = λ none. executed_stays self t.exec e d none s.exec;
    service = λ none. service_stays self t.service e d none s.service;
    shelf = λ none. shelf_lags_on self low t.shelf e d none s.shelf;
    parts = λ none. held_lags_on self low t.parts e d none s.parts;
    asked = λ none. asked_left self t.asked e d none s.asked;
  }

  -- ---- an entry that speaks to none of them

  pub stands_framed : (t : Tables S) (e : Entry) (d : History) → Stand self t d → Adds self d e → MovesGate self e d → SpeaksToNone e → Stand self t (e ∷ d)
  stands_framed t e d s adds moves none =
      let left = stays (low_of self d) t e d (stand_lags t d s) adds in
      stands_behind t t e d s adds moves (record {
        counter = left.counter none.counter;
        gates = left.gates none.gates;
        log = left.log none.log;
        normal = left.normal none.positions;
        change = left.change none.change;
        stable = left.stable none.stable;
        exec = left.exec none.executed;
        service = left.service none.state;
        shelf = shelf_stays self t.shelf e d none.snapshots (low_stays self e d none.stable) s.shelf;
        parts = held_stays self t.parts e d none.parts (low_stays self e d none.stable) s.parts;
        asked = left.asked none.nudge;
      })

  resend_speaks : (m : Resend) → SpeaksToNone (Accepted (message.Resend m))
  resend_speaks m = record { gates = λ h. refl; counter = refl; log = refl; positions = refl; change = refl; stable = refl; executed = refl; state = refl; snapshots = refl; parts = refl; nudge = refl }

  fetch_speaks : (m : Fetch) → SpeaksToNone (Accepted (message.Fetch m))
  fetch_speaks m = record { gates = λ h. refl; counter = refl; log = refl; positions = refl; change = refl; stable = refl; executed = refl; state = refl; snapshots = refl; parts = refl; nudge = refl }

  -- A RESEND or a FETCH that is taken leaves all tables.
  pub resend_leaves : (t : Tables S) (m : Resend) (d : History) → Stand self t d → Adds self d (Accepted (message.Resend m)) → Stand self t (Accepted (message.Resend m) ∷ d)
  resend_leaves t m d s adds = stands_framed t (Accepted (message.Resend m)) d s adds tt (resend_speaks m)

  pub fetch_leaves : (t : Tables S) (m : Fetch) (d : History) → Stand self t d → Adds self d (Accepted (message.Fetch m)) → Stand self t (Accepted (message.Fetch m) ∷ d)
  fetch_leaves t m d s adds = stands_framed t (Accepted (message.Fetch m)) d s adds tt (fetch_speaks m)
