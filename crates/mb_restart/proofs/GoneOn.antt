-- What a host sends and stamps behind more events, and that the runs of a host with a journal are those of one host.
use Rattle.std.proofs.Common.{◌≡◌, inl, inr, ℕ, true, List, [], ◌∷◌, ◌++◌, reverse, Some, refl, sym, ap, subst, ◌∙◌, append-nil, append_assoc}
use Rattle.std.specs.List.{AllByRecursion}
use Rattle.std.proofs.lemmas.List.{reverse-append, reverse-reverse}
use Rattle.mb_base.specs.Shapes.{Bytes}
use Rattle.mb_parts.specs.Bares.{Bare}
use Rattle.mb_parts.specs.Counters.{at_counter, IsBeginning}
use Rattle.mb_parts.proofs.Counters.{some_is, at_more}
use Rattle.mb_msg.specs.declared.event.Event.{Event}
use Rattle.mb_msg.specs.declared.stamped.Stamped.{Stamped as StampedMessage}
use Rattle.mb_msg.specs.Stamps.{bare_of}
use Rattle.mb_model.specs.Histories.{Entry, Stamped, Executed, History, Identity, said, stamped}
use Rattle.mb_model.specs.Sending.{Letter}
use Rattle.mb_model.specs.HostStep.{transition, after}
use Rattle.mb_host_laws.proofs.KeptByEvents.{is_plain, IsKept, event_keeps, execution_keeps, state_keeps}
use Rattle.mb_restart.specs.Runs.{sent_by, sent_behind, Run, events_of, known_to, IsRun}
use Rattle.mb_restart.specs.Restarts.{HasAllAndOne, IsWithin, IsPartOf, HostsGoOn, StampAlike, NoCounterTwice}
use Rattle.mb_restart.proofs.Reopened.{journals_keep}

-- ---- what a host stamps

abbrev Extends : List Bare → History → Type 0
Extends l d = IsBeginning l (said d)

one_more : (l : List Bare) (m : StampedMessage) (d : History) → Extends l d → Extends l (Stamped m ∷ d)
unfolding stamped
one_more l m d b = record { later = bare_of m ∷ b.later; is = ap (λ x. bare_of m ∷ x) b.is }

none_more : (l : List Bare) (e : Entry) (d : History) → is_plain e ≡ true → Extends l d → Extends l (e ∷ d)
unfolding stamped
none_more l (Stamped m) d p b = absurd cc
none_more l (Executed slot) d p b = absurd cc
none_more l e d p b = b

module _ {S : Type 0} (self : Identity S) where
  extending : (l : List Bare) → IsKept self (Extends l)
  unfolding stamped
  extending l = record {
    plain = λ e x p b. none_more l e x p b;
    normal = λ m x n r b. one_more l m x b;
    change = λ m x n r b. one_more l m x b;
    executed = λ pos r x b. execution_keeps self (Extends l) (λ m x n r b. one_more l m x b) (λ pos p x b. b) (λ slot x b. b) pos r x b;
    state = λ m x b. state_keeps self (Extends l) (λ m x b. b) (λ e x p b. none_more l e x p b) m x b;
  }

  stamps_behind : (start es : List Event) → Extends (said (after self start)) (after self (es ++ start))
  unfolding after
  stamps_behind start [] = record { later = []; is = refl }
  stamps_behind start (e ∷ es) = event_keeps self (Extends (said (after self start))) (extending (said (after self start))) (after self (es ++ start)) e (stamps_behind start es)

  -- ---- what it sends

  sent_more : (start es : List Event) → sent_by self (es ++ start) ≡ sent_by self start ++ sent_behind self start es
  unfolding sent_by sent_behind
  sent_more start [] = sym (append-nil (sent_by self start))
  sent_more start (e ∷ es) =
      let letters = (transition self (after self (es ++ start)) e).left.sent in
      ap (λ (l : List Letter). l ++ letters) (sent_more start es) ∙ append_assoc (sent_by self start) (sent_behind self start es) letters

  -- ---- the last run

  part_last : (header : Bytes) (run : Run) → IsRun self header run → IsPartOf self (events_of run) run
  part_last header run is = record {
    sends = record {
      before = sent_by self (reverse run.kept);
      behind = is.unsent;
      is = ap (λ (l : List Letter). sent_by self (reverse run.kept) ++ l) is.sends ∙ sym (sent_more (reverse run.kept) run.acknowledged);
    };
    stamps = record { later = []; is = refl };
  }

  -- ---- one before it, behind which more events came

  within_more : (part : List Letter) (es more : List Event) → IsWithin part (sent_by self es) → IsWithin part (sent_by self (more ++ es))
  within_more part es more x =
      let letters = sent_behind self es more in
      record {
        before = x.before;
        behind = x.behind ++ letters;
        is = ap (λ (l : List Letter). x.before ++ l) (sym (append_assoc part x.behind letters)) ∙ sym (append_assoc x.before (part ++ x.behind) letters)
            ∙ ap (λ (l : List Letter). l ++ letters) x.is ∙ sym (sent_more es more);
      }

  begins_both : (a b c : List Bare) → IsBeginning a b → IsBeginning b c → IsBeginning a c
  begins_both a b c x y = record { later = y.later ++ x.later; is = append_assoc y.later x.later a ∙ ap (λ (l : List Bare). y.later ++ l) x.is ∙ y.is }

  part_more : (es more : List Event) (run : Run) → IsPartOf self es run → IsPartOf self (more ++ es) run
  part_more es more run part = record {
    sends = within_more run.sent es more part.sends;
    stamps = begins_both (said (after self (events_of run))) (said (after self es)) (said (after self (more ++ es))) part.stamps (stamps_behind es more);
  }

-- what a run opened are the events of the one before it, and more
in_reverse : (run : Run) → reverse (known_to run) ≡ events_of run
in_reverse run = reverse-append run.kept (reverse run.acknowledged) ∙ ap (λ (l : List Event). l ++ reverse run.kept) (reverse-reverse run.acknowledged)

opened_more : (before run : Run) → HasAllAndOne (known_to before) before.begun run.kept → (more : List Event) × (events_of run ≡ more ++ events_of before)
opened_more before run (inl all) = (run.acknowledged, ap (λ (l : List Event). run.acknowledged ++ l) (ap reverse all ∙ in_reverse before))
opened_more before run (inr one) = (
  run.acknowledged ++ one.0 ∷ [],
  ap (λ (l : List Event). run.acknowledged ++ l) (ap reverse one.2 ∙ reverse-append (known_to before) (one.0 ∷ []) ∙ ap (λ (l : List Event). one.0 ∷ l) (in_reverse before))
      ∙ sym (append_assoc run.acknowledged (one.0 ∷ []) (events_of before)),
)

-- ---- all runs

pub all_weaker : (P Q : Run → Type 0) → ((run : Run) → P run → Q run) → (runs : List Run) → AllByRecursion P runs → AllByRecursion Q runs
all_weaker P Q is [] all = tt
all_weaker P Q is (run ∷ runs) all = (is run all.0, all_weaker P Q is runs all.1)

pub hosts_go_on : (S : Type 0) → HostsGoOn S
hosts_go_on S self header made last [] are = (part_last self header last are.1, tt)
hosts_go_on S self header made last (before ∷ runs) are =
    let more = opened_more before last (journals_keep S self header made last (before ∷ runs) are) in (
      part_last self header last are.1,
      all_weaker (IsPartOf self (events_of before)) (IsPartOf self (events_of last))
          (λ run part. subst (λ (es : List Event). IsPartOf self es run) (sym more.1) (part_more self (events_of before) more.0 run part)) (before ∷ runs)
          (hosts_go_on S self header made before runs are.2),
    )

-- ---- counters

module _ {S : Type 0} (self : Identity S) (es : List Event) where
  -- what a run stamped at a counter, the whole host stamped there
  stamped_there : (run : Run) → IsPartOf self es run → (counter : ℕ) (a : Bare) → at_counter (said (after self (events_of run))) counter ≡ Some a → at_counter (said (after self es)) counter ≡ Some a
  stamped_there run part counter a at =
      ap (λ (l : List Bare). at_counter l counter) (sym part.stamps.is) ∙ at_more part.stamps.later (said (after self (events_of run))) counter a at

  stamp_alike : (one two : Run) → IsPartOf self es one → IsPartOf self es two → StampAlike self one two
  stamp_alike one two first second counter a b at_a at_b = some_is a b (sym (stamped_there one first counter a at_a) ∙ stamped_there two second counter b at_b)

  all_alike : (runs : List Run) → AllByRecursion (IsPartOf self es) runs → AllByRecursion (λ (one : Run). AllByRecursion (StampAlike self one) runs) runs
  all_alike runs parts = all_weaker (IsPartOf self es) (λ (one : Run). AllByRecursion (StampAlike self one) runs)
      (λ one first. all_weaker (IsPartOf self es) (StampAlike self one) (λ two second. stamp_alike one two first second) runs parts) runs parts

pub no_counter_twice : (S : Type 0) → NoCounterTwice S
no_counter_twice S self header made last runs are = all_alike self (events_of last) (last ∷ runs) (hosts_go_on S self header made last runs are)
