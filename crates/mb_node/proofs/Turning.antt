-- What an event writes and sends, by its step.
use Rattle.std.proofs.Common.{◌≡◌, ℕ, ◌+◌, Bool, false, List, [], length, take, drop, refl, sym, ap, ◌∙◌, Err}
use Rattle.std.specs.Prelude.{◌%◌, ◌^◌, ◌&&◌, not, Option, Result}
use Rattle.std.specs.Io.KnownBytes.{Appends}
use Rattle.std.proofs.lemmas.Bool.{false≢true}
use Rattle.std.proofs.lemmas.List.{take-append-drop}
use Rattle.mb_base.specs.Shapes.{Bytes, host_count}
use Rattle.mb_msg.specs.declared.event.Event.{Event}
use Rattle.mb_msg.specs.declared.event.Outcome.{Outcome}
use Rattle.mb_msg.specs.declared.event.Outcome.TheVariants as outcome
use Rattle.mb_msg.specs.declared.event.Slot.{Slot}
use Rattle.mb_msg.specs.declared.event.Sent.{Sent}
use Rattle.mb_msg.specs.declared.event.Step.{Step}
use Rattle.mb_model.specs.Histories.{History, Identity}
use Rattle.mb_model.specs.HostStep.{transition}
use Rattle.mb_edge.specs.Pieces.{AppendsPart}
use Rattle.mb_edge.specs.Told.{with_more}
use Rattle.mb_edge.proofs.ToldLemmas.{with_more-nil}
use Rattle.mb_core.specs.declared.replica.Replica.{Replica}
use Rattle.mb_node.specs.declared.outbox.Outbox.{Outbox}
use Rattle.mb_node.specs.declared.patience.Shown.{Shown}
use Rattle.mb_node.specs.declared.patience.Standing.{Standing}
use Rattle.mb_node.specs.declared.stops.ServeStop.{ServeStop}
use Rattle.mb_node.specs.declared.stops.ServeStop.TheVariants as stop
use Rattle.mb_node.specs.declared.turn.Turn.{Turn}
use Rattle.mb_node.specs.Events.{is_stopping, is_patience, is_again, quiets_in, next, stops}
use Rattle.mb_node.specs.Patience.{standing, course_of}
use Rattle.mb_node.specs.Recording.{entry_with, lines_with, lines_at}
use Rattle.mb_node.specs.Sends.{numbered}
use Rattle.mb_node.specs.Outside.{Outside, SendsPart}
use Rattle.mb_node.specs.Serving.{datagrams_at, IsCutOff}
use Rattle.mb_node.specs.Turns.{shown_of, shown_by, Steps, HasTurned, Turned}
use Rattle.mb_node.proofs.Told.{part_none, part_whole}
use Rattle.mb_node.proofs.Runs.{appends_none}

pub stopping_not : (o : Outcome) → (o ≡ outcome.Stopping → ⊥) → is_stopping o ≡ false
stopping_not outcome.Stopping h = absurd (h refl)
stopping_not o h = refl

module _ {V : Type 0} (me : Identity V) (d : History) (e : Event) (s : Step) (r : Replica V) (is : Steps me d e s r) where
  -- ---- what is written and sent

  pub lines_are : (ends : Bool) (text : Bytes) → ends ≡ is_stopping s.outcome → text ≡ lines_with (entry_with e s.sent) ends → text ≡ lines_at me d e
  lines_are ends text stopping made =
      made ∙ ap (λ (b : Bool). lines_with (entry_with e s.sent) b) (stopping ∙ ap is_stopping is.step.outcome) ∙ ap (λ (l : List Sent). lines_with (entry_with e l) (stops me d e)) is.step.sent

  pub sends_are : (hosts host n : ℕ) → hosts ≡ host_count me.shape → host ≡ me.host → numbered hosts host n s.sent ≡ datagrams_at me n d e
  sends_are hosts host n count who =
      ap (λ (k : ℕ). numbered k host n s.sent) count ∙ ap (λ (k : ℕ). numbered (host_count me.shape) k n s.sent) who ∙ ap (numbered (host_count me.shape) me.host n) is.step.sent

  pub showing_is : (before after : Standing) (t : Shown) → before ≡ standing me d → after ≡ standing me (next me d e) → t ≡ shown_of e s before after → t ≡ shown_by me d e
  showing_is before after t stood stands made =
      let of : Outcome → List Slot → Option ℕ → Standing → Standing → Shown = λ o l p x y. record {
        quiets = quiets_in e;
        lost = is_patience e;
        again = is_again o;
        begins = not x.waits && y.waits;
        course = course_of l p x.at y.at;
        view = y.at.view;
        waits = y.waits;
      } in
      made ∙ ap (λ (o : Outcome). of o s.executed s.adopted before after) is.step.outcome
      ∙ ap (λ (l : List Slot). of (transition me d e).outcome l s.adopted before after) is.step.executed
      ∙ ap (λ (p : Option ℕ). of (transition me d e).outcome (transition me d e).left.executed p before after) is.step.adopted
      ∙ ap (λ (x : Standing). of (transition me d e).outcome (transition me d e).left.executed (transition me d e).left.installed x after) stood
      ∙ ap (λ (y : Standing). of (transition me d e).outcome (transition me d e).left.executed (transition me d e).left.installed (standing me d) y) stands

  -- ---- how far it came

  module _ (n hosts host : ℕ) (here there : Outside) (text : Bytes) (text_is : text ≡ lines_at me d e) (sends_is : numbered hosts host n s.sent ≡ datagrams_at me n d e) where
    pub turned : (outbox : Outbox) (t : Turn) → Appends here.written there.written text → there.sent ≡ with_more here.sent (numbered hosts host n s.sent) → outbox.number ≡ (n + length s.sent) % 2 ^ 32
        → t.stops ≡ is_stopping s.outcome → t.shown ≡ shown_by me d e → HasTurned me d n e here there r outbox t
    turned outbox t written sent number stopping showing = record {
      done = record { adds = record { written = rw (← text_is) written; sent = rw (← sends_is) sent } };
      represents = is.represents;
      whole = is.whole;
      numbers = number ∙ ap (λ (l : List Sent). (n + length l) % 2 ^ 32) is.step.sent;
      stopping = stopping ∙ ap is_stopping is.step.outcome;
      showing = showing;
    }

    pub cut_sending : r.halted ≡ false → Appends here.written there.written text → SendsPart (numbered hosts host n s.sent) here.sent there.sent → IsCutOff me here there r.halted n d e
    cut_sending runs written sent = record {
      text = text;
      datagrams = sent.part;
      adds = record { written = written; sent = sent.sent };
      part = record { some_lines = rw text_is (part_whole (lines_at me d e)); some_sent = rw (← sends_is) sent.first; lines_first = λ some. text_is };
      halts = λ stopped. absurd (false≢true (sym runs ∙ stopped));
    }

    pub cut_writing : r.halted ≡ false → AppendsPart text here.written there.written → there.sent ≡ here.sent → IsCutOff me here there r.halted n d e
    cut_writing runs written sent = record {
      text = take written.count text;
      datagrams = [];
      adds = record { written = written.appended; sent = sent ∙ sym (with_more-nil here.sent) };
      part = record {
        some_lines = record { rest = drop written.count text; joined = take-append-drop written.count text ∙ text_is };
        some_sent = part_none _;
        lines_first = λ some. absurd (some refl);
      };
      halts = λ stopped. absurd (false≢true (sym runs ∙ stopped));
    }

-- nothing was written and sent
pub cut_none : {V : Type 0} (me : Identity V) (d : History) (e : Event) (n : ℕ) (here there : Outside) (halted : Bool) → there.written ≡ here.written → there.sent ≡ here.sent → IsCutOff me here there halted n d e
cut_none me d e n here there halted written sent = record {
  text = [];
  datagrams = [];
  adds = record { written = rw written (appends_none here.written); sent = sent ∙ sym (with_more-nil here.sent) };
  part = record { some_lines = part_none _; some_sent = part_none _; lines_first = λ some. absurd (some refl) };
  halts = λ stopped. refl;
}

-- a turn that stopped
pub turned_err : {V : Type 0} (me : Identity V) (d : History) (n : ℕ) (e : Event) (here there : Outside) (r : Replica V) (outbox : Outbox) (result : Result Turn ServeStop) (s : ServeStop) → result ≡ Err s → ((k : ℕ) → s ≡ stop.Budget k → ⊥)
    → IsCutOff me here there r.halted n d e → Turned me d n e here there r outbox result
turned_err me d n e here there r outbox result s is other cut = rw is (by_stop s other) where
  by_stop : (x : ServeStop) → ((k : ℕ) → x ≡ stop.Budget k → ⊥) → Turned me d n e here there r outbox (Err x)
  by_stop stop.LinkFault never = cut
  by_stop stop.SinkFault never = cut
  by_stop (stop.Budget k) never = absurd (never k refl)
  by_stop stop.NoMemory never = cut
  by_stop stop.DiskFault never = cut
  by_stop (stop.Full length) never = cut
