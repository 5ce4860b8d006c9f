-- What a journal has behind one event more, and behind all.
use Rattle.std.proofs.Common.{◌≡◌, ◌⊎◌, inl, inr, ◌+◌, ◌<◌, true, false, List, [], ◌∷◌, ◌++◌, reverse, refl, sym, ap, ◌∙◌, subst, append-nil, append_assoc, Option, Some, Err, arith}
use Rattle.std.specs.Prelude.{◌≤◌, max, IsErrOf, IsErrAnd, ◌↔◌}
use Rattle.std.proofs.lemmas.Bool.{false≢true, cases_lt}
use Rattle.std.proofs.lemmas.List.{reverse-append}
use Rattle.mb_base.specs.Shapes.{Bytes}
use Rattle.mb_edge.specs.Disks.{Moments, next_all, WhereTold, LeavesOnly}
use Rattle.mb_msg.specs.declared.event.Event.{Event}
use Rattle.mb_journal.specs.Files.{record_size, EventFits}
use Rattle.mb_journal.specs.Keeping.{JournalState, IsAtRest, IsCut, IsLeftBy, IsFull, after_append}
use Rattle.mb_journal.specs.declared.journal.AppendStop.{AppendStop}
use Rattle.mb_journal.specs.declared.journal.AppendStop.TheVariants as append
use Rattle.mb_journal.proofs.Crashes.{leaves_same, leaves_weaker}
use Rattle.mb_node.specs.declared.stops.ServeStop.{ServeStop}
use Rattle.mb_node.specs.declared.stops.ServeStop.TheVariants as stop
use Rattle.mb_node.specs.Stops.{IsOfDisk, IsOfKeeping}
use Rattle.mb_node.specs.Keeping.{IsAppended, AreAppended, IsLater, AreKept, IsFullFor, append_stop}

-- ---- the journal alone

later_same : (journal : JournalState) → IsLater journal journal
later_same journal = record { header = refl; limit = refl; within = omega arith }

later_both : (journal mid now : JournalState) → IsLater journal mid → IsLater mid now → IsLater journal now
later_both journal mid now x y = record { header = y.header ∙ x.header; limit = y.limit ∙ x.limit; within = omega (arith, x.limit, x.within, y.within) }

-- ---- events appended one behind the other

-- the events in order
in_order : (kept es more : List Event) → (kept ++ reverse es) ++ reverse more ≡ kept ++ reverse (more ++ es)
in_order kept es more = append_assoc kept (reverse es) (reverse more) ∙ ap (λ (l : List Event). kept ++ l) (sym (reverse-append more es))

appended_both : (header : Bytes) (kept es more : List Event) (old mid new : Moments) → AreAppended header kept es old mid → AreAppended header (kept ++ reverse es) more mid new → AreAppended header kept (more ++ es) old new
appended_both header kept es [] old mid new first second = subst (λ (m : Moments). AreAppended header kept es old m) (sym second) first
appended_both header kept es (e ∷ more) old mid new first second = (
  second.0,
  appended_both header kept es more old mid second.0 first second.1,
  subst (λ (l : List Event). IsAppended header l e second.0 new) (in_order kept es more) second.2,
)

-- one event
appended_one : (journal : JournalState) (kept : List Event) (e : Event) (old : Moments) (new : Option Moments) → IsAtRest journal kept old.now → (leaves : LeavesOnly (IsLeftBy journal.header kept e) old new)
    → AreAppended journal.header kept (e ∷ []) old (next_all old leaves.since)
appended_one journal kept e old new rests leaves = (
  old,
  refl,
  subst (λ (l : List Event). IsAppended journal.header l e old (next_all old leaves.since)) (sym (append-nil kept))
      (record { end = journal.end; rests = rests; leaves = record { since = leaves.since; is = refl; each = leaves.each } }),
)

-- ---- nothing was appended

at_rest_still : (journal : JournalState) (kept : List Event) (old : Moments) → IsAtRest journal kept old.now → IsAtRest journal (kept ++ reverse []) old.now
at_rest_still journal kept old rests = subst (λ (l : List Event). IsAtRest journal l old.now) (sym (append-nil kept)) rests

pub kept_none : (journal : JournalState) (told : Option Moments) → AreKept journal journal told told [] []
kept_none journal told = record {
  goes_on = later_same journal;
  keeps = λ old is kept rests. record { later = old; told_is = is; appended = refl; rests = λ runs. at_rest_still journal kept old rests };
}

-- of one event more either
pub lost_one : (journal : JournalState) (told : Option Moments) (e : Event) → AreKept journal journal told told (e ∷ []) []
lost_one journal told e = record {
  goes_on = later_same journal;
  keeps = λ old is kept rests. record {
    later = old;
    told_is = is;
    appended = (
      old,
      refl,
      record {
        end = journal.end;
        rests = at_rest_still journal kept old rests;
        leaves = leaves_same (IsLeftBy journal.header (kept ++ reverse []) e) old (Some old) refl;
      },
    );
    rests = λ runs. at_rest_still journal kept old rests;
  };
}

-- ---- more behind others

pub kept_both : (journal mid now : JournalState) (told told_mid new : Option Moments) (es more acknowledged : List Event) → mid.halted ≡ false
    → AreKept journal mid told told_mid es es → AreKept mid now told_mid new more acknowledged → AreKept journal now told new (more ++ es) (acknowledged ++ es)
kept_both journal mid now told told_mid new es more acknowledged runs first second = record {
  goes_on = later_both journal mid now first.goes_on second.goes_on;
  keeps = λ old is kept rests.
      let x = first.keeps old is kept rests in
      let y = second.keeps x.later x.told_is (kept ++ reverse es) (x.rests runs) in
      record {
        later = y.later;
        told_is = y.told_is;
        appended = appended_both journal.header kept es more old x.later y.later x.appended
            (subst (λ (h : Bytes). AreAppended h (kept ++ reverse es) more x.later y.later) first.goes_on.header y.appended);
        rests = λ runs_now. subst (λ (l : List Event). IsAtRest now l y.later.now) (in_order kept es acknowledged) (y.rests runs_now);
      };
}

-- ---- one append

-- what appending says of crashes, and of what is acknowledged
abbrev Cuts : JournalState → Option Moments → Option Moments → Event → Type 0
Cuts journal told new e = WhereTold told (λ old. (events : List Event) → IsAtRest journal events old.now → LeavesOnly (IsCut journal.header events e) old new)

abbrev Acknowledges : JournalState → JournalState → Option Moments → Option Moments → Event → Type 0
Acknowledges journal now told new e = WhereTold told (λ old. (events : List Event) → IsAtRest journal events old.now → WhereTold new (λ m. IsAtRest now (events ++ e ∷ []) m.now))

-- ... where the events fit
left_by_cuts : (journal : JournalState) (told new : Option Moments) (e : Event) → EventFits e → Cuts journal told new e → (old : Moments) → told ≡ Some old → (kept : List Event) → IsAtRest journal kept old.now
    → LeavesOnly (IsLeftBy journal.header kept e) old new
left_by_cuts journal told new e fits cuts old told_is kept rests =
    leaves_weaker (IsCut journal.header kept e) (IsLeftBy journal.header kept e) old new (λ image cut. record { fit = rests.fit; fits = fits; cut = cut }) (cuts old told_is kept rests)

-- that there is no room for an event
abbrev HasNoRoom : JournalState → Event → Type 0
HasNoRoom journal e = (journal.halted ≡ false) × (journal.limit < journal.end + record_size e)

-- an event was appended
pub appended : (journal now : JournalState) (told new : Option Moments) (e : Event) → journal.halted ≡ false → now ≡ record journal { end = journal.end + record_size e } → ¬ HasNoRoom journal e → EventFits e
    → Acknowledges journal now told new e → Cuts journal told new e → AreKept journal now told new (e ∷ []) (e ∷ [])
appended journal now told new e runs is room fits acknowledges cuts = record {
  goes_on = subst (IsLater journal) (sym is) (record { header = refl; limit = refl; within = short });
  keeps = λ old told_is kept rests.
      let leaves = left_by_cuts journal told new e fits cuts old told_is kept rests in
      record {
        later = next_all old leaves.since;
        told_is = leaves.is;
        appended = appended_one journal kept e old new rests leaves;
        rests = λ runs_now. acknowledges old told_is kept rests (next_all old leaves.since) leaves.is;
      };
} where
  short : journal.end + record_size e ≤ max journal.end journal.limit
  short = elim (cases_lt journal.limit (journal.end + record_size e)) [ inl beyond ↦ absurd (room (runs, beyond)) | inr within ↦ omega arith ]

-- or the journal has stopped
stopped_one : (journal now : JournalState) (told new : Option Moments) (e : Event) → now ≡ record journal { halted = true } → EventFits e → Cuts journal told new e → AreKept journal now told new (e ∷ []) []
stopped_one journal now told new e is fits cuts = record {
  goes_on = subst (IsLater journal) (sym is) (record { header = refl; limit = refl; within = omega arith });
  keeps = λ old told_is kept rests.
      let leaves = left_by_cuts journal told new e fits cuts old told_is kept rests in
      record {
        later = next_all old leaves.since;
        told_is = leaves.is;
        appended = appended_one journal kept e old new rests leaves;
        rests = λ runs. absurd (false≢true (sym runs ∙ ap (λ (j : JournalState). j.halted) is));
      };
}

-- or it had no room
refused_one : (journal now : JournalState) (told new : Option Moments) (e : Event) → now ≡ journal → new ≡ told → AreKept journal now told new (e ∷ []) []
refused_one journal now told new e is same =
    subst (λ (j : JournalState). AreKept journal j told new (e ∷ []) []) (sym is) (subst (λ (t : Option Moments). AreKept journal journal told t (e ∷ []) []) (sym same) (lost_one journal told e))

-- why an event was not appended
pub not_appended : (journal now : JournalState) (told new : Option Moments) (e : Event) (s : AppendStop) → journal.halted ≡ false → now ≡ after_append journal e (Err s)
    → (IsErrOf {T = Unit {0}} (Err s) append.Halted ↔ (journal.halted ≡ true)) → (IsErrAnd {T = Unit {0}} (Err s) IsFull ↔ HasNoRoom journal e)
    → (IsErrAnd {T = Unit {0}} (Err s) IsFull → IsErrOf {T = Unit {0}} (Err s) (append.Full journal.end))
    → ((journal.halted ≡ true) ⊎ (journal.limit < journal.end + record_size e) → new ≡ told) → EventFits e → Cuts journal told new e
    → AreKept journal now told new (e ∷ []) [] × IsFullFor (append_stop s) now e
not_appended journal now told new e append.Halted runs is halted full end unchanged fits cuts = absurd (false≢true (sym runs ∙ halted.0 refl))
not_appended journal now told new e (append.Full length) runs is halted full end unchanged fits cuts =
    let room : HasNoRoom journal e = full.0 tt in
    let told_end : IsErrOf {T = Unit {0}} (Err (append.Full length)) (append.Full journal.end) = end tt in
    let same : length ≡ journal.end = cc in
    (refused_one journal now told new e is (unchanged (inr room.1)), subst (λ (j : JournalState). IsFullFor (stop.Full length) j e) (sym is) (same, room.1, room.0))
not_appended journal now told new e append.NoMemory runs is halted full end unchanged fits cuts = (stopped_one journal now told new e is fits cuts, tt)
not_appended journal now told new e append.DiskFault runs is halted full end unchanged fits cuts = (stopped_one journal now told new e is fits cuts, tt)

-- ---- stops

pub keeping_of : (s : AppendStop) → IsOfKeeping (append_stop s)
keeping_of append.Halted = tt
keeping_of (append.Full length) = tt
keeping_of append.NoMemory = tt
keeping_of append.DiskFault = tt

pub fault_of : (s : AppendStop) → append_stop s ≡ stop.DiskFault → s ≡ append.DiskFault
fault_of append.Halted is = absurd cc
fault_of (append.Full length) is = absurd cc
fault_of append.NoMemory is = absurd cc
fault_of append.DiskFault is = refl

-- what stops at an append has no fault of the link, and wrote nothing
pub keeping_unlinked : (s : ServeStop) → IsOfKeeping s → s ≡ stop.LinkFault → ⊥
keeping_unlinked stop.LinkFault of is = absurd of
keeping_unlinked stop.SinkFault of is = absurd of
keeping_unlinked stop.DiskFault of is = absurd cc
keeping_unlinked (stop.Budget n) of is = absurd of
keeping_unlinked (stop.Full length) of is = absurd cc
keeping_unlinked stop.NoMemory of is = absurd cc

pub keeping_unwritten : (s : ServeStop) → IsOfKeeping s → s ≡ stop.SinkFault → ⊥
keeping_unwritten stop.LinkFault of is = absurd of
keeping_unwritten stop.SinkFault of is = absurd of
keeping_unwritten stop.DiskFault of is = absurd cc
keeping_unwritten (stop.Budget n) of is = absurd of
keeping_unwritten (stop.Full length) of is = absurd cc
keeping_unwritten stop.NoMemory of is = absurd cc

pub full_unless : (s : ServeStop) (journal : JournalState) (e : Event) → ¬ IsOfDisk s → IsFullFor s journal e
full_unless stop.LinkFault journal e other = tt
full_unless stop.SinkFault journal e other = tt
full_unless stop.DiskFault journal e other = tt
full_unless (stop.Budget n) journal e other = tt
full_unless (stop.Full length) journal e other = absurd (other tt)
full_unless stop.NoMemory journal e other = tt
