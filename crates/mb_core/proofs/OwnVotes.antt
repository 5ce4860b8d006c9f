-- The own PREPARE and the own COMMIT: what a host has for them when their rules are next, and that its tables stand behind them.
use Rattle.std.proofs.Common.{◌≡◌, ◌≢◌, ◌∙◌, ℕ, false, [], ◌∷◌, refl, sym, ap, subst, Option, Some, None}
use Rattle.std.specs.Prelude.{option_map}
use Rattle.std.specs.Option.{option_or}
use Rattle.mb_base.specs.Shapes.{Bytes}
use Rattle.mb_service.specs.Machine.{ServiceMachine}
use Rattle.mb_parts.specs.declared.batch.Batch.{Batch}
use Rattle.mb_msg.specs.declared.message.Body.TheVariants.{Whole}
use Rattle.mb_msg.specs.declared.normal.Prepare.{Prepare as PrepareMessage}
use Rattle.mb_msg.specs.declared.normal.Commit.{Commit as CommitMessage}
use Rattle.mb_msg.specs.declared.stamped.Stamped.{Stamped as StampedMessage}
use Rattle.mb_msg.specs.declared.stamped.Stamped.TheVariants as stamped
use Rattle.mb_msg.specs.AsStamped.{stamped_digest}
use Rattle.mb_msg.specs.Bodies.{whole_body}
use Rattle.mb_msg.specs.Stamps.{bare_of, ui_of}
use Rattle.mb_base.specs.declared.names.Ui.{Ui}
use Rattle.mb_model.specs.declared.known.KnownSlot.{KnownSlot}
use Rattle.mb_model.specs.declared.known.Vote.{Vote}
use Rattle.mb_model.specs.Batches.{first_batch}
use Rattle.mb_model.specs.EnabledRules.{Rule, ChangeView, Announce, Enter, Open, Join, Commit, Execute, Prepare, execute_enabled, prepare_enabled, next_position, may_order}
use Rattle.mb_model.specs.EnabledRules as history_rules
use Rattle.mb_model.specs.Histories.{Stamped, History, Identity, view_of}
use Rattle.mb_model.specs.Making.{prepare, commit}
use Rattle.mb_model.specs.Positions.{slot_at}
use Rattle.mb_model.specs.Sending.{signed, next_ui}
use Rattle.mb_model.proofs.Options.{if_some, map_some}
use Rattle.mb_steps.specs.Arises.{Makes}
use Rattle.mb_normal.proofs.InHistories.{unordered_is}
use Rattle.mb_host_laws.proofs.Cases.{some_is}
use Rattle.mb_normal.specs.declared.normal.Normal.{Normal}
use Rattle.mb_normal.specs.Searches.{searches_in, unordered}
use Rattle.mb_normal.specs.Tables.{batch_of, order_of}
use Rattle.mb_change.specs.Tables.{Table as ChangeTable}
use Rattle.mb_history_laws.specs.Speaks.{speaks_of_change}
use Rattle.mb_history_laws.specs.Behind.{slot_in_prepare, vote_in_prepare, vote_in_commit}
use Rattle.mb_refinement.specs.Positions.{CountsVote, PutsSlot}
use Rattle.mb_refinement.specs.Stands.{NormalStands, ChangeStands}
use Rattle.mb_refinement.proofs.Changes.{change_stays}
use Rattle.mb_refinement.proofs.PositionsRules.{commit_is}
use Rattle.mb_refinement.proofs.PositionsVoted.{own_commit_counts, own_prepare_counts}
use Rattle.mb_replica.specs.declared.state.ReplicaState.{ReplicaState}
use Rattle.mb_replica.specs.declared.sending.StepOutput.{StepOutput}
use Rattle.mb_core.specs.declared.rules.Due.TheVariants as due
use Rattle.mb_core.specs.declared.stamping.TheConstants.{NO_UI}
use Rattle.mb_replica.specs.Between.{AwaitsPublish, WritesCounter, WritesNormal}
use Rattle.mb_core.specs.Due.{IsNamed, IsDue}
use Rattle.mb_replica.specs.Represents.{Represents}
use Rattle.mb_core.proofs.Publishing.{MayStamp, IsNext, is_next, may_next, awaits_publish, begun, then_normal, nothing_yet, nothing_by_normal}
use Rattle.mb_refinement.specs.Tables.{Tables}

-- ---- what is named

commit_rule : (pos : ℕ) (r : Rule) → IsNamed (due.Commit pos) r → (k : KnownSlot) × (b : Batch) × (Commit pos k b ≡ r)
commit_rule pos (ChangeView target) is = absurd is
commit_rule pos (Announce changes) is = absurd is
commit_rule pos (Enter n) is = absurd is
commit_rule pos (Open e plan) is = absurd is
commit_rule pos Join is = absurd is
commit_rule pos (Commit p k b) is = (k, b, ap (λ (q : ℕ). Commit q k b) is)
commit_rule pos (Execute p b) is = absurd is
commit_rule pos (Prepare p b) is = absurd is

prepare_rule : (r : Rule) → IsNamed due.Prepare r → (pos : ℕ) × (b : Batch) × (Prepare pos b ≡ r)
prepare_rule (ChangeView target) is = absurd is
prepare_rule (Announce changes) is = absurd is
prepare_rule (Enter n) is = absurd is
prepare_rule (Open e plan) is = absurd is
prepare_rule Join is = absurd is
prepare_rule (Commit p k b) is = absurd is
prepare_rule (Execute p b) is = absurd is
prepare_rule (Prepare p b) is = (p, b, refl)

-- ---- what is due

module _ {V : Type 0} (r : ReplicaState V) where
  -- A COMMIT is due of some slot, and a PREPARE of some batch.

  pub record CommitDue (pos : ℕ) : Type 0 where
    pub me : Identity V
    pub history : History
    pub slot : KnownSlot
    pub batch : Batch
    pub next : IsNext me r history (Commit pos slot batch)

  pub record PrepareDue : Type 0 where
    pub me : Identity V
    pub history : History
    pub pos : ℕ
    pub batch : Batch
    pub next : IsNext me r history (Prepare pos batch)

module _ {V : Type 0} (machine : ServiceMachine V) (r : ReplicaState V) (done : StepOutput) where
  pub commit_due : (pos : ℕ) → IsDue machine r done (due.Commit pos) → CommitDue r pos
  commit_due pos q =
      let found = commit_rule pos q.rule q.named in
      record { me = q.me; history = q.left.history; slot = found.0; batch = found.1; next = is_next q.me r done q.left (Commit pos found.0 found.1) q.stands (q.next ∙ ap (λ (a : Rule). Some a) (sym found.2)) }

  pub prepare_due : IsDue machine r done due.Prepare → PrepareDue r
  prepare_due q =
      let found = prepare_rule q.rule q.named in
      record { me = q.me; history = q.left.history; pos = found.0; batch = found.1; next = is_next q.me r done q.left (Prepare found.0 found.1) q.stands (q.next ∙ ap (λ (a : Rule). Some a) (sym found.2)) }

-- ---- what messages say

abbrev place_in : StampedMessage → ℕ
place_in (stamped.Prepare m) = m.pos
place_in (stamped.Commit m) = m.pos
place_in m = 0

abbrev order_in : StampedMessage → ℕ × Bytes
order_in (stamped.Commit m) = (m.counter, m.cert)
order_in m = (0, [])

abbrev place_in_rule : Rule → ℕ
place_in_rule (Prepare p b) = p
place_in_rule r = 0

abbrev batch_in_rule : Rule → Option Batch
batch_in_rule (Prepare p b) = Some b
batch_in_rule r = None

abbrev batch_in : StampedMessage → Option Batch
batch_in (stamped.Prepare m) = whole_body m.body
batch_in (stamped.Commit m) = whole_body m.body
batch_in m = None

module _ {V : Type 0} (me : Identity V) (d : History) where
  -- ---- the slot of which the COMMIT that is next votes

  pub record HasSlot (pos : ℕ) (k : KnownSlot) (b : Batch) : Type 0 where
    pub order : option_map order_of (slot_at me d pos) ≡ Some (k.counter, k.cert)
    pub batch : batch_of (slot_at me d pos) ≡ Some b

  pub has_slot : (pos : ℕ) (k : KnownSlot) (b : Batch) → Makes me d (signed me d (commit me d pos k b)) → HasSlot pos k b
  has_slot pos k b (p, j, a, enabled, is) =
      let c = commit_is me d p j a (ap (λ (o : Option Rule). option_or o (option_or (execute_enabled me d) (prepare_enabled me d))) enabled) in
      let at : slot_at me d pos ≡ Some j = ap (slot_at me d) (sym (ap place_in is)) ∙ c.slot in
      record {
        order = ap (option_map order_of) at ∙ ap (λ (o : ℕ × Bytes). Some o) (ap order_in is);
        batch = ap batch_of at ∙ c.batch ∙ ap batch_in is;
      }

  module _ (pos : ℕ) (k : KnownSlot) (b : Batch) (has : HasSlot pos k b) where
    pub some_order : None ≡ option_map order_of (slot_at me d pos) → ⊥
    some_order none = let no : None ≡ Some (k.counter, k.cert) = none ∙ has.order in absurd cc

    pub some_batch : None ≡ batch_of (slot_at me d pos) → ⊥
    some_batch none = let no : None ≡ Some b = none ∙ has.batch in absurd cc

    pub same_counter : (counter : ℕ) (cert : Bytes) → Some (counter, cert) ≡ option_map order_of (slot_at me d pos) → counter ≡ k.counter
    same_counter counter cert order = ap (λ (o : ℕ × Bytes). o.0) (some_is (counter, cert) (k.counter, k.cert) (order ∙ has.order))

    same_cert : (counter : ℕ) (cert : Bytes) → Some (counter, cert) ≡ option_map order_of (slot_at me d pos) → cert ≡ k.cert
    same_cert counter cert order = ap (λ (o : ℕ × Bytes). o.1) (some_is (counter, cert) (k.counter, k.cert) (order ∙ has.order))

    -- The code's message is signed as this one.
    pub commit_signed : (view counter : ℕ) (cert : Bytes) (copy : Batch) → view ≡ view_of me d → Some (counter, cert) ≡ option_map order_of (slot_at me d pos)
        → Some copy ≡ batch_of (slot_at me d pos) → signed me d (stamped.Commit (record { view = view; pos = pos; counter = counter; cert = cert; body = Whole copy; ui = NO_UI })) ≡ signed me d (commit me d pos k b)
    commit_signed view counter cert copy same_view order batch =
        let n : counter ≡ k.counter = same_counter counter cert order in
        let t : cert ≡ k.cert = same_cert counter cert order in
        let a : copy ≡ b = some_is copy b (batch ∙ has.batch) in
        rw (same_view, n, t, a) refl

  -- ---- the requests that the PREPARE that is next orders

  pub record HasBatch (pos : ℕ) (b : Batch) : Type 0 where
    pub place : pos ≡ next_position me d
    pub some : unordered me.shape (searches_in me d) ≢ []
    pub batch : first_batch (unordered me.shape (searches_in me d)) ≡ Some b

  pub has_batch : (pos : ℕ) (b : Batch) → Makes me d (signed me d (prepare me d pos b)) → HasBatch pos b
  unfolding prepare_enabled
  has_batch pos b (p, a, enabled, is) =
      let found = map_some (Prepare (next_position me d)) (first_batch (history_rules.unordered me d)) (Prepare p a) (if_some (may_order me d) _ (Prepare p a) enabled).1 in
      let first : first_batch (unordered me.shape (searches_in me d)) ≡ Some b = ap first_batch (unordered_is me d) ∙ found.1 ∙ ap batch_in_rule found.2 ∙ ap batch_in is in
      record {
        place = sym (ap place_in is) ∙ sym (ap place_in_rule found.2);
        some = λ none. let no : None ≡ Some b = ap first_batch (sym none) ∙ first in absurd cc;
        batch = first;
      }

  pub prepare_signed : (pos : ℕ) (b : Batch) → HasBatch pos b → (view place : ℕ) (copy : Batch) → view ≡ view_of me d → place ≡ next_position me d → Some copy ≡ first_batch (unordered me.shape (searches_in me d))
      → signed me d (stamped.Prepare (record { view = view; pos = place; body = Whole copy; ui = NO_UI })) ≡ signed me d (prepare me d pos b)
  prepare_signed pos b has view place copy same_view same_place batch =
      let at : place ≡ pos = same_place ∙ sym has.place in
      let a : copy ≡ b = some_is copy b (batch ∙ has.batch) in
      rw (same_view, at, a) refl

same_vote : (n m : ℕ) (x y : Bytes) → n ≡ m → x ≡ y → ◌≡◌ {A = Vote} (record { counter = n; request = x }) (record { counter = m; request = y })
same_vote n m x y e f = rw (e, f) refl

same_slot : (u v : Ui) (x y : Bytes) (a b : Batch) → u ≡ v → x ≡ y → a ≡ b → ◌≡◌ {A = KnownSlot} (record { counter = u.counter; cert = u.cert; digest = x; batch = Some a }) (record { counter = v.counter; cert = v.cert; digest = y; batch = Some b })
same_slot u v x y a b e f g = rw (e, f, g) refl

-- ---- the tables behind them

-- the same vote
counts_as : (old new : Normal) (at voter : ℕ) (vote : Vote) (pos host : ℕ) (v : Vote) → at ≡ pos → voter ≡ host → vote ≡ v → CountsVote old new at voter vote → CountsVote old new pos host v
counts_as old new at voter vote pos host v same_pos same_host same_vote c =
    subst (λ (x : Vote). CountsVote old new pos host x) same_vote (subst (λ (h : ℕ). CountsVote old new pos h vote) same_host (subst (λ (p : ℕ). CountsVote old new p voter vote) same_pos c))

module _ {V : Type 0} (me : Identity V) (old bound : ReplicaState V) (d : History) (rep : Represents me old d) (w : WritesCounter old bound) where
  normal_is : bound.protocol.normal ≡ old.protocol.normal
  normal_is = ap (λ (t : Tables V). t.normal) w.tables

  host_is : bound.protocol.host ≡ me.host
  host_is = w.same.host ∙ sym rep.who.host

  change_behind : (new : ReplicaState V) (m : StampedMessage) → new.protocol.change ≡ bound.protocol.change → speaks_of_change (Stamped m) ≡ false → ChangeStands me new.protocol.change (Stamped m ∷ d)
  change_behind new m same none =
      subst (λ (t : ChangeTable). ChangeStands me t (Stamped m ∷ d)) (sym (same ∙ ap (λ (t : Tables V). t.change) w.tables)) (change_stays me old.protocol.change (Stamped m) d none rep.tables.change)

  -- The vote of the own COMMIT was counted.
  commit_awaits : (voted : ReplicaState V) (m : CommitMessage) → MayStamp me (stamped.Commit m) d → WritesNormal bound voted → (at : ℕ) (vote : Vote) → at ≡ m.pos → vote ≡ vote_in_commit m
      → CountsVote bound.protocol.normal voted.protocol.normal at bound.protocol.host vote → AwaitsPublish me voted (stamped.Commit m) d
  commit_awaits voted m may writes at vote same_pos same_vote counts =
      awaits_publish me old voted (stamped.Commit m) d rep (then_normal me old bound voted (begun me old bound w) writes)
      (own_commit_counts me m d bound.protocol.normal voted.protocol.normal may.sound.arises
      (counts_as bound.protocol.normal voted.protocol.normal at bound.protocol.host vote m.pos me.host (vote_in_commit m) same_pos host_is same_vote counts)
      (subst (λ (t : Normal). NormalStands me t d) (sym normal_is) rep.tables.normal))
      (change_behind voted (stamped.Commit m) (ap (λ (t : Tables V). t.change) writes.tables) refl)
      (nothing_by_normal me old bound voted (nothing_yet me old bound w) writes) refl

  -- The slot of the own PREPARE was put, and its vote counted.
  prepare_awaits : (put voted : ReplicaState V) (m : PrepareMessage) → MayStamp me (stamped.Prepare m) d → WritesNormal bound put → WritesNormal put voted → (at voter : ℕ) (slot : KnownSlot) (vote : Vote) → at ≡ m.pos
      → voter ≡ me.host → slot ≡ slot_in_prepare m → vote ≡ vote_in_prepare m → PutsSlot bound.protocol.normal put.protocol.normal at slot → CountsVote put.protocol.normal voted.protocol.normal at voter vote
      → AwaitsPublish me voted (stamped.Prepare m) d
  prepare_awaits put voted m may first second at voter slot vote same_pos same_host same_slot same_vote puts counts =
      awaits_publish me old voted (stamped.Prepare m) d rep (then_normal me old put voted (then_normal me old bound put (begun me old bound w) first) second)
      (own_prepare_counts me m d bound.protocol.normal put.protocol.normal voted.protocol.normal may.sound.arises
      (subst (λ (k : KnownSlot). PutsSlot bound.protocol.normal put.protocol.normal m.pos k) same_slot (subst (λ (p : ℕ). PutsSlot bound.protocol.normal put.protocol.normal p slot) same_pos puts))
      (counts_as put.protocol.normal voted.protocol.normal at voter vote m.pos me.host (vote_in_prepare m) same_pos same_host same_vote counts)
      (subst (λ (t : Normal). NormalStands me t d) (sym normal_is) rep.tables.normal))
      (change_behind voted (stamped.Prepare m) (ap (λ (t : Tables V). t.change) second.tables ∙ ap (λ (t : Tables V). t.change) first.tables) refl)
      (nothing_by_normal me old put voted (nothing_by_normal me old bound put (nothing_yet me old bound w) first) second) refl

-- ---- as the code writes them

module _ {V : Type 0} (me : Identity V) (old bound : ReplicaState V) (d : History) where
  module _ (pos : ℕ) (k : KnownSlot) (b : Batch) (n : IsNext me old d (Commit pos k b)) where
    pub commit_may : MayStamp me (signed me d (commit me d pos k b)) d
    commit_may = may_next me old d (Commit pos k b) n (signed me d (commit me d pos k b)) refl

    pub commit_has : HasSlot me d pos k b
    commit_has = has_slot me d pos k b commit_may.adds

    -- The code's message is signed as this one.
    pub commit_made : (view counter : ℕ) (cert : Bytes) (copy was : Batch) → view ≡ view_of me d → Some (counter, cert) ≡ option_map order_of (slot_at me d pos) → Some was ≡ batch_of (slot_at me d pos) → copy ≡ was
        → signed me d (stamped.Commit (record { view = view; pos = pos; counter = counter; cert = cert; body = Whole copy; ui = NO_UI })) ≡ signed me d (commit me d pos k b)
    commit_made view counter cert copy was same_view order batch same = commit_signed me d pos k b commit_has view counter cert copy same_view order (ap (λ (x : Batch). Some x) same ∙ batch)

    pub commit_waits : (w : WritesCounter old bound) (voted : ReplicaState V) → WritesNormal bound voted → (counter : ℕ) (cert body : Bytes) → Some (counter, cert) ≡ option_map order_of (slot_at me d pos) → body ≡ stamped_digest (commit me d pos k b)
        → CountsVote bound.protocol.normal voted.protocol.normal pos bound.protocol.host (record { counter = counter; request = body }) → AwaitsPublish me voted (signed me d (commit me d pos k b)) d
    commit_waits w voted writes counter cert body order digest counts =
        let m : CommitMessage = record { view = view_of me d; pos = pos; counter = k.counter; cert = k.cert; body = Whole b; ui = next_ui me d (bare_of (commit me d pos k b)) } in
        commit_awaits me old bound d n.represents w voted m commit_may writes pos (record { counter = counter; request = body }) refl (same_vote counter k.counter body (stamped_digest (commit me d pos k b)) (same_counter me d pos k b commit_has counter cert order) digest) counts

  module _ (pos : ℕ) (b : Batch) (n : IsNext me old d (Prepare pos b)) where
    pub prepare_may : MayStamp me (signed me d (prepare me d pos b)) d
    prepare_may = may_next me old d (Prepare pos b) n (signed me d (prepare me d pos b)) refl

    pub prepare_has : HasBatch me d pos b
    prepare_has = has_batch me d pos b prepare_may.adds

    pub prepare_made : (view place : ℕ) (batch : Batch) → view ≡ view_of me d → place ≡ next_position me d → Some batch ≡ first_batch (unordered me.shape (searches_in me d))
        → signed me d (stamped.Prepare (record { view = view; pos = place; body = Whole batch; ui = NO_UI })) ≡ signed me d (prepare me d pos b)
    prepare_made view place batch same_view next first = prepare_signed me d pos b prepare_has view place batch same_view next first

    pub prepare_waits : (w : WritesCounter old bound) (put voted : ReplicaState V) → WritesNormal bound put → WritesNormal put voted → (place : ℕ) (ui : Ui) (body : Bytes) (copy : Batch) → place ≡ next_position me d → ui ≡ ui_of (signed me d (prepare me d pos b))
        → body ≡ stamped_digest (prepare me d pos b) → Some copy ≡ first_batch (unordered me.shape (searches_in me d))
        → PutsSlot bound.protocol.normal put.protocol.normal place (record { counter = ui.counter; cert = ui.cert; digest = body; batch = Some copy })
        → CountsVote put.protocol.normal voted.protocol.normal place put.protocol.host (record { counter = ui.counter; request = body }) → AwaitsPublish me voted (signed me d (prepare me d pos b)) d
    prepare_waits w put voted first second place ui body copy next same digest batch puts counts =
        let m : PrepareMessage = record { view = view_of me d; pos = pos; body = Whole b; ui = next_ui me d (bare_of (prepare me d pos b)) } in
        let at : place ≡ pos = next ∙ sym prepare_has.place in
        let a : copy ≡ b = some_is copy b (batch ∙ prepare_has.batch) in
        prepare_awaits me old bound d n.represents w put voted m prepare_may first second place put.protocol.host (record { counter = ui.counter; cert = ui.cert; digest = body; batch = Some copy }) (record { counter = ui.counter; request = body }) at
        (first.same.host ∙ w.same.host ∙ sym n.represents.who.host) (same_slot ui m.ui body (stamped_digest (prepare me d pos b)) copy b same digest a)
        (same_vote ui.counter m.ui.counter body (stamped_digest (prepare me d pos b)) (ap (λ (u : Ui). u.counter) same) digest) puts counts
