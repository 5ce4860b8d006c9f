use Rattle.std.proofs.Common.{◌≡◌, ◌∙◌, [], ◌∷◌, ◌++◌, true, sym, ap, subst}
use Rattle.mb_base.specs.declared.shape.Shape.{Shape}
use Rattle.mb_msg.specs.declared.normal.Checkpoint.{Checkpoint}
use Rattle.mb_msg.specs.declared.stamped.Stamped.{Stamped as StampedMessage}
use Rattle.mb_msg.specs.declared.stamped.Stamped.TheVariants as stamped
use Rattle.mb_msg.specs.AsStamped.{stamped_digest}
use Rattle.mb_msg.specs.Fits.{Fits, FitsCheckpoint}
use Rattle.mb_msg.specs.Spelling.{stamped_kind}
use Rattle.mb_msg.specs.Stamps.{as_message}
use Rattle.mb_log.specs.Logs.{has_room_for, appended}
use Rattle.mb_model.specs.Histories.{Stamped}
use Rattle.mb_model.specs.Sending.{to_all}
use Rattle.mb_steps.specs.Arises.{Adds}
use Rattle.mb_refinement.specs.Stands.{GatesStand}
use Rattle.mb_replica.specs.Between.{AwaitsCheckpoint}
use Rattle.mb_replica.specs.Told.{as_outgoing}
use Rattle.mb_core.proofs.OwnCheckpoints.{fits_unsigned, is_own, same_own, adds, fits_own, awaits_keeping, sent_kept, room_kept, gates_kept, who_kept, awaits_cut, checkpoint_ends}
use Rattle.mb_core.specs.declared.stamping.Signed.{Signed}
use Rattle.mb_core.proofs.StillSigned.{went_well, still, still_signed}
use Rattle.mb_core.proofs.checkpoints.checkpoint.Goals as goal

-- src/checkpoints.rt
pub sign-requires-clause-fits : goal.sign-requires-clause-fits
sign-requires-clause-fits g c =
    let b = c.requires in
    fits_unsigned b.me c.args.replica.now c.args.done.now c.args.pos c.args.state b.left b.awaits c.in_ok-floors.floors (c.in_ok-floors.ensures b.me b.left.history b.awaits.stands.represents)

pub keep_checkpoint-requires-clause-fits : goal.keep_checkpoint-requires-clause-fits
keep_checkpoint-requires-clause-fits g c =
    let b = c.requires in
    let w = b.awaits in
    let r = w.stands.represents in
    let old = c.args.replica.now in
    let m : Checkpoint = record c.in_ok-kept.kept { ui = c.in_ok-signed.signed.ui } in
    let same = same_own b.me old c.args.done.now c.args.pos c.args.state b.left w c.in_ok-floors.floors (c.in_ok-floors.ensures b.me b.left.history r) c.in_ok-signed.signed c.in_ok-kept.kept
    (c.in_ok-signed.ensures.signed b.me b.left.history r.who r.tables.counter) c.in_ok-kept.ensures in
    subst (λ (s : Shape). FitsCheckpoint s m) (sym c.in_ok-signed.ensures.writes.same.shape) (fits_own b.me old c.args.done.now c.args.pos c.args.state b.left w m same)

pub keep_checkpoint-requires-clause-brings : goal.keep_checkpoint-requires-clause-brings
keep_checkpoint-requires-clause-brings g c =
    let b = c.requires in
    let w = b.awaits in
    let r = w.stands.represents in
    let old = c.args.replica.now in
    let m : Checkpoint = record c.in_ok-kept.kept { ui = c.in_ok-signed.signed.ui } in
    let same = same_own b.me old c.args.done.now c.args.pos c.args.state b.left w c.in_ok-floors.floors (c.in_ok-floors.ensures b.me b.left.history r) c.in_ok-signed.signed c.in_ok-kept.kept
    (c.in_ok-signed.ensures.signed b.me b.left.history r.who r.tables.counter) c.in_ok-kept.ensures in
    record { me = b.me; entry = Stamped (stamped.Checkpoint m); history = b.left.history; awaits = awaits_keeping b.me old c.args.done.now c.args.pos c.args.state b.left w m same c.sign.new.replica c.in_ok-signed.ensures.writes }

pub publish-requires-clause-room : goal.publish-requires-clause-room
publish-requires-clause-room g c =
    let b = c.requires in
    let w = b.awaits in
    let r = w.stands.represents in
    let old = c.args.replica.now in
    let m : Checkpoint = record c.in_ok-kept.kept { ui = c.in_ok-signed.signed.ui } in
    let same = same_own b.me old c.args.done.now c.args.pos c.args.state b.left w c.in_ok-floors.floors (c.in_ok-floors.ensures b.me b.left.history r) c.in_ok-signed.signed c.in_ok-kept.kept
    (c.in_ok-signed.ensures.signed b.me b.left.history r.who r.tables.counter) c.in_ok-kept.ensures in
    let left = still c.keep_checkpoint.result c.in_ok-signed.signed c.in_ok-signed-2.signed c.in_ok-signed-2.ensures in
    let is : c.in_ok-signed-2.signed.message ≡ stamped.Checkpoint m = ap (λ (s : Signed). s.message) left
    ∙ is_own b.me old c.args.done.now c.args.pos c.args.state b.left w c.in_ok-floors.floors (c.in_ok-floors.ensures b.me b.left.history r) c.in_ok-signed.signed c.in_ok-kept.kept (c.in_ok-signed.ensures.signed b.me b.left.history r.who r.tables.counter) c.in_ok-kept.ensures in
    subst (λ (y : StampedMessage). has_room_for c.keep_checkpoint.new.self.protocol.log (stamped_kind y) ≡ true) (sym is) (room_kept b.me old c.args.done.now c.args.pos c.args.state b.left w m same c.sign.new.replica c.keep_checkpoint.new.self c.in_ok-signed.ensures.writes (went_well c.keep_checkpoint.result c.in_ok-signed.signed c.in_ok-signed-2.signed c.in_ok-signed-2.ensures c.keep_checkpoint.ensures.writes))

pub publish-requires-clause-fits : goal.publish-requires-clause-fits
publish-requires-clause-fits g c =
    let b = c.requires in
    let w = b.awaits in
    let r = w.stands.represents in
    let old = c.args.replica.now in
    let m : Checkpoint = record c.in_ok-kept.kept { ui = c.in_ok-signed.signed.ui } in
    let same = same_own b.me old c.args.done.now c.args.pos c.args.state b.left w c.in_ok-floors.floors (c.in_ok-floors.ensures b.me b.left.history r) c.in_ok-signed.signed c.in_ok-kept.kept
    (c.in_ok-signed.ensures.signed b.me b.left.history r.who r.tables.counter) c.in_ok-kept.ensures in
    let left = still c.keep_checkpoint.result c.in_ok-signed.signed c.in_ok-signed-2.signed c.in_ok-signed-2.ensures in
    let is : c.in_ok-signed-2.signed.message ≡ stamped.Checkpoint m = ap (λ (s : Signed). s.message) left
    ∙ is_own b.me old c.args.done.now c.args.pos c.args.state b.left w c.in_ok-floors.floors (c.in_ok-floors.ensures b.me b.left.history r) c.in_ok-signed.signed c.in_ok-kept.kept (c.in_ok-signed.ensures.signed b.me b.left.history r.who r.tables.counter) c.in_ok-kept.ensures in
    subst (λ (y : StampedMessage). Fits c.keep_checkpoint.new.self.protocol.shape (as_message y)) (sym is) (sent_kept b.me old c.args.done.now c.args.pos c.args.state b.left w m same c.sign.new.replica c.keep_checkpoint.new.self c.in_ok-signed.ensures.writes (went_well c.keep_checkpoint.result c.in_ok-signed.signed c.in_ok-signed-2.signed c.in_ok-signed-2.ensures c.keep_checkpoint.ensures.writes))

pub publish-requires-clause-body : goal.publish-requires-clause-body
publish-requires-clause-body g c =
    let b = c.requires in
    let r = b.awaits.stands.represents in
    let s = still_signed _ c.keep_checkpoint.result c.in_ok-signed.signed c.in_ok-signed-2.signed c.in_ok-signed-2.ensures (c.in_ok-signed.ensures.signed b.me b.left.history r.who r.tables.counter) in
    s.body ∙ ap (λ (y : StampedMessage). stamped_digest y) (sym s.message)

pub cut_log-requires : goal.cut_log-requires
cut_log-requires g c =
    let b = c.requires in
    let w = b.awaits in
    let r = w.stands.represents in
    let old = c.args.replica.now in
    let m : Checkpoint = record c.in_ok-kept.kept { ui = c.in_ok-signed.signed.ui } in
    let same = same_own b.me old c.args.done.now c.args.pos c.args.state b.left w c.in_ok-floors.floors (c.in_ok-floors.ensures b.me b.left.history r) c.in_ok-signed.signed c.in_ok-kept.kept
    (c.in_ok-signed.ensures.signed b.me b.left.history r.who r.tables.counter) c.in_ok-kept.ensures in
    let left = still c.keep_checkpoint.result c.in_ok-signed.signed c.in_ok-signed-2.signed c.in_ok-signed-2.ensures in
    let is : c.in_ok-signed-2.signed.message ≡ stamped.Checkpoint m = ap (λ (s : Signed). s.message) left
    ∙ is_own b.me old c.args.done.now c.args.pos c.args.state b.left w c.in_ok-floors.floors (c.in_ok-floors.ensures b.me b.left.history r) c.in_ok-signed.signed c.in_ok-kept.kept (c.in_ok-signed.ensures.signed b.me b.left.history r.who r.tables.counter) c.in_ok-kept.ensures in
    let p = c.in_ok-publish.ensures in
    let stands = went_well c.keep_checkpoint.result c.in_ok-signed.signed c.in_ok-signed-2.signed c.in_ok-signed-2.ensures (c.keep_checkpoint.ensures.stands b.me (Stamped (stamped.Checkpoint m)) b.left.history (awaits_keeping b.me old c.args.done.now c.args.pos c.args.state b.left w m same c.sign.new.replica c.in_ok-signed.ensures.writes)) in
    record {
      me = b.me;
      entry = Stamped (stamped.Checkpoint m);
      history = b.left.history;
      awaits = awaits_cut b.me old c.args.done.now c.args.pos c.args.state b.left w m same
          c.sign.new.replica c.keep_checkpoint.new.self c.in_ok-signed.ensures.writes (went_well c.keep_checkpoint.result c.in_ok-signed.signed c.in_ok-signed-2.signed c.in_ok-signed-2.ensures c.keep_checkpoint.ensures.writes) c.publish.new.replica stands p.writes
          (subst (λ (y : StampedMessage). c.publish.new.replica.protocol.log ≡ appended y c.keep_checkpoint.new.self.protocol.log) is p.log);
    }

pub returns : goal.returns
returns g c = λ me x st executed whole room digest.
    let r = st.represents in
    let d = x.history in
    let old = c.args.replica.now in
    let m : Checkpoint = record c.in_ok-kept.kept { ui = c.in_ok-signed.signed.ui } in
    let w : AwaitsCheckpoint me old c.args.done.now c.args.pos c.args.state x = record { stands = st; executed = executed; whole = whole; room = room; digest = digest } in
    let same = same_own me old c.args.done.now c.args.pos c.args.state x w c.in_ok-floors.floors (c.in_ok-floors.ensures me d r) c.in_ok-signed.signed c.in_ok-kept.kept (c.in_ok-signed.ensures.signed me d r.who r.tables.counter) c.in_ok-kept.ensures in
    let left = still c.keep_checkpoint.result c.in_ok-signed.signed c.in_ok-signed-2.signed c.in_ok-signed-2.ensures in
    let is : c.in_ok-signed-2.signed.message ≡ stamped.Checkpoint m = ap (λ (s : Signed). s.message) left
    ∙ is_own me old c.args.done.now c.args.pos c.args.state x w c.in_ok-floors.floors (c.in_ok-floors.ensures me d r) c.in_ok-signed.signed c.in_ok-kept.kept (c.in_ok-signed.ensures.signed me d r.who r.tables.counter) c.in_ok-kept.ensures in
    let c1 = c.in_ok-signed.ensures.writes in
    let kept_writes = went_well c.keep_checkpoint.result c.in_ok-signed.signed c.in_ok-signed-2.signed c.in_ok-signed-2.ensures c.keep_checkpoint.ensures.writes in
    let p = c.in_ok-publish.ensures in
    let mid = c.sign.new.replica in
    let kept = c.keep_checkpoint.new.self in
    let sent = c.publish.new.replica in
    let stands = went_well c.keep_checkpoint.result c.in_ok-signed.signed c.in_ok-signed-2.signed c.in_ok-signed-2.ensures (c.keep_checkpoint.ensures.stands me (Stamped (stamped.Checkpoint m)) d (awaits_keeping me old c.args.done.now c.args.pos c.args.state x w m same mid c1)) in
    let log = subst (λ (y : StampedMessage). sent.protocol.log ≡ appended y kept.protocol.log) is p.log in
    let gates = subst (λ (y : StampedMessage). GatesStand me sent.protocol.gates.items (Stamped y ∷ d)) is
    (p.gates me d (who_kept me old c.args.done.now c.args.pos c.args.state x w m same mid kept c1 kept_writes) r.tables.sound
    (subst (λ (y : StampedMessage). Adds me d (Stamped y)) (sym is) (adds me old c.args.done.now c.args.pos c.args.state x w m same)) (gates_kept me old c.args.done.now c.args.pos c.args.state x w m same mid kept c1 kept_writes)) in
    checkpoint_ends me old c.args.done.now c.args.pos c.args.state x w c.cut_log.result mid kept sent c.cut_log.new.self c.publish.new.done m same c1 kept_writes stands p.writes log gates c.cut_log.ensures.writes
    (c.cut_log.ensures.stands me (Stamped (stamped.Checkpoint m)) d (awaits_cut me old c.args.done.now c.args.pos c.args.state x w m same mid kept c1 kept_writes sent stands p.writes log))
    (subst (λ (y : StampedMessage). c.publish.new.done.sent ≡ c.args.done.now.sent ++ as_outgoing (to_all (as_message y)) ∷ []) is p.sent) p.kept
