-- What is proved is committed in the world: the plans that are shown stand there for the same.
use Rattle.std.proofs.Common.{◌≡◌, ℕ, ◌+◌, ◌<◌, true, List, [], ◌∷◌, ◌++◌, length, Option, Some, None, refl, sym, ap, subst, ◌∙◌, inl, inr, arith}
use Rattle.std.specs.Prelude.{◌==◌}
use Rattle.std.specs.Option.{option_or}
use Rattle.std.proofs.lemmas.Bool.{or_cases, eq-eqb}
use Rattle.mb_base.specs.Shapes.{Bytes, primary, host_count}
use Rattle.mb_usig.proofs.Laws.{true-same_bytes}
use Rattle.mb_parts.specs.declared.batch.Batch.{Batch}
use Rattle.mb_parts.specs.Bares.{Bare}
use Rattle.mb_parts.specs.Bares as bare
use Rattle.mb_parts.specs.Certificates.{inner_valid}
use Rattle.mb_parts.specs.Counters.{at_counter, IsBeginning}
use Rattle.mb_parts.specs.Ordered.{initial_floor, is_ordered}
use Rattle.mb_parts.proofs.Counters.{StandsAt, at_here, at_more, at_split}
use Rattle.mb_parts.proofs.OrderedParts.{ordered_before}
use Rattle.mb_model.specs.declared.known.Vote.{Vote}
use Rattle.mb_model.specs.Committed.{Plans, PlanText, planned, leads, vote_by, vote_in, IsCommitted}
use Rattle.mb_model.specs.Votes.{is_vote}
use Rattle.mb_model.proofs.Options.{if_some, map_some}
use Rattle.mb_agreement.proofs.Stays.{is_vote_is}
use Rattle.mb_agreement.proofs.WholeLists.{open_is, has_plan}
use Rattle.mb_world_model.specs.Hashed.{HashesApart}
use Rattle.mb_world_model.specs.World.{World, System}
use Rattle.mb_world_model.specs.WorldRecord.{issued, prefix, plan_with_digest, plans_of, plans, IsConsistent}
use Rattle.mb_world_laws.proofs.Facts.{Facts}
use Rattle.mb_one_log.proofs.OneVote.{stands_voted}
use Rattle.mb_learn.specs.Held.{known_plans}
use Rattle.mb_learn.specs.Lists.{has_vote}
use Rattle.mb_learn.specs.Proved.{IsProved}
use Rattle.mb_learn.specs.Shown.{shown_among}
use Rattle.mb_learn.proofs.Learning.{Extends, primary_below}
use Rattle.mb_learn.proofs.Tallies.{tally_up}
use Rattle.mb_learn.proofs.Tests.{true_false}
use Rattle.mb_learned.specs.Learned.{strings, WereGiven, IsCommittedAt}
use Rattle.mb_learned.proofs.Beginnings.{joined, list_begins}
use Rattle.mb_learned.proofs.GivenBatches.{known_extends}

-- a message of a list that votes so
record IsVoting (plans : Plans) (l : List Bare) (v p : ℕ) (x : Vote) : Type 0 where
  counter : ℕ
  says : Bare
  there : at_counter l counter ≡ Some says
  votes : is_vote (vote_by plans counter says v p) x ≡ true

voting : (plans : Plans) (later l : List Bare) (v p : ℕ) (x : Vote) → has_vote plans l v p x ≡ true → IsVoting plans (later ++ l) v p x
unfolding has_vote
voting plans later [] v p x so = absurd cc
voting plans later (m ∷ l) v p x so = elim (or_cases (is_vote (vote_by plans (length l + 1) m v p) x) (has_vote plans l v p x) so) [
  | inl here ↦ record { counter = length l + 1; says = m; there = at_here later m l; votes = here }
  | inr before ↦
      let r = voting plans (later ++ m ∷ []) l v p x before in
      subst (λ (y : List Bare). IsVoting plans y v p x) (joined later m l) r
]

vote_own : (x : Vote) → is_vote (Some x) x ≡ true
vote_own x = rw (eq-eqb x.counter x.counter refl) (true-same_bytes x.request x.request refl)

-- a plan that has something at a position
plan_is : (o : Option PlanText) (p : ℕ) (d : Bytes) → planned o p ≡ Some d → (t : PlanText) × (o ≡ Some t)
plan_is (Some t) p d e = (t, refl)
plan_is None p d e = absurd cc

-- the plans of more strings
plans_extend : (a b : List Bytes) → Extends (plans_of a) (plans_of (a ++ b))
unfolding plans_of
plans_extend [] b d t e = absurd cc
plans_extend (x ∷ a) b d t e = by (plan_with_digest d x) (plans_extend a b d t) e where
  by : (o : Option PlanText) → (plans_of a d ≡ Some t → plans_of (a ++ b) d ≡ Some t) → option_or o (plans_of a d) ≡ Some t → option_or o (plans_of (a ++ b) d) ≡ Some t
  by (Some y) rest e = e
  by None rest e = rest e

module _ {S : Type 0} (system : System S) (w : World) (f : Facts system w) (facts : IsConsistent system.schedule w) (id : ℕ) (apart : HashesApart (strings system w id)) where
  -- the plans of all strings of the premise
  abbrev all_plans : Plans
  all_plans = plans_of (strings system w id)

  -- An OPEN that may stand in a prefix is of issued evidence, so its plan is known in the world. One that is shown with its digest is the same plan: what the OPEN
  -- votes by it, it votes there.
  own_vote : (known : Plans) → Extends known all_plans → (g n : ℕ) (m : Bare) (l : List Bare) (v p : ℕ) (x : Vote)
      → is_ordered initial_floor system.schedule.shape g (inner_valid system.schedule.shape (issued system.schedule w)) (m ∷ l) ≡ true → vote_by known n m v p ≡ Some x → vote_by (plans system.schedule w) n m v p ≡ Some x
  unfolding vote_by
  own_vote known ext g n (bare.Prepare view pos digest) l v p x o votes = votes
  own_vote known ext g n (bare.Commit view pos counter cert digest) l v p x o votes = votes
  own_vote known ext g n (bare.Open e digest) l v p x o votes =
      let opens = open_is system.schedule.shape system.schedule.secret (plans system.schedule w) (issued system.schedule w) (prefix system.schedule w) facts g e digest l o in
      let there = has_plan system.schedule.shape system.schedule.secret (plans system.schedule w) (issued system.schedule w) (prefix system.schedule w) facts e opens.evidence in
      let voted = map_some _ _ x (if_some (e.view == v) _ x votes).1 in
      let here = plan_is (known e.plan) p voted.0 voted.1 in
      let same : plans system.schedule w e.plan ≡ known e.plan = there.is ∙ (sym (plans_extend w.hashed _ e.plan there.text there.is) ∙ (ext e.plan here.0 here.1 ∙ sym here.1)) in
      rw same votes
  own_vote known ext g n (bare.Checkpoint pos state digest) l v p x o votes = absurd cc
  own_vote known ext g n (bare.ViewChange view digest) l v p x o votes = absurd cc
  own_vote known ext g n (bare.NewView view base end plan digest) l v p x o votes = absurd cc
  own_vote known ext g n (bare.Enter view counter plan) l v p x o votes = absurd cc
  own_vote known ext g n (bare.Join view evidence stable) l v p x o votes = absurd cc

  -- A vote that stands in a prefix is the host's vote there.
  voted_there : (g v p : ℕ) (x : Vote) (known : Plans) → Extends known all_plans → IsVoting known (prefix system.schedule w g) v p x → is_vote (vote_in (plans system.schedule w) (prefix system.schedule w g) v p) x ≡ true
  voted_there g v p x known ext y =
      let at : StandsAt (prefix system.schedule w g) y.counter y.says = at_split (prefix system.schedule w g) y.counter y.says y.there in
      let ordered = ordered_before initial_floor system.schedule.shape g (inner_valid system.schedule.shape (issued system.schedule w)) at.later (y.says ∷ at.before)
      (subst (λ (l : List Bare). is_ordered initial_floor system.schedule.shape g (inner_valid system.schedule.shape (issued system.schedule w)) l ≡ true) (sym at.is) (facts.ordered g)) in
      let own = own_vote known ext g y.counter y.says at.before v p x ordered (is_vote_is (vote_by known y.counter y.says v p) x y.votes) in
      ap (λ (o : Option Vote). is_vote o x)
      (stands_voted system.schedule.shape system.schedule.secret (plans system.schedule w) (issued system.schedule w) (prefix system.schedule w) facts g y.counter y.says v p x y.there own) ∙ vote_own x

  -- ---- what is proved

  module _ (taken : List Bytes) (were : WereGiven system w id taken) where
    pub proved_committed : (position : ℕ) (b : Batch) → IsProved system.schedule.shape system.schedule.secret taken position b → IsCommittedAt system.schedule w position b
    proved_committed position b (view, vote, y) = record {
      view = view;
      counter = vote.counter;
      committed = subst (λ (r : Bytes). IsCommitted (plans system.schedule w) system.schedule.shape (prefix system.schedule w) view position (record { counter = vote.counter; request = r })) y.digest (record {
        voted =
            let up = tally_up (λ h. has_vote (known_plans system.schedule.shape system.schedule.secret (shown_among system.schedule.shape taken)) (y.lists h) view position vote)
            (λ h. is_vote (vote_in (plans system.schedule w) (prefix system.schedule w h) view position) vote) (host_count system.schedule.shape) (λ h lt so. here h (begins h lt) so) in
            let enough = y.voted in
            omega (arith, up, enough);
        led = led;
      });
    } where
      begins : (h : ℕ) → h < host_count system.schedule.shape → IsBeginning (y.lists h) (prefix system.schedule w h)
      begins h lt = list_begins system w f facts id taken were h (y.lists h) (y.are h lt)

      here : (h : ℕ) → IsBeginning (y.lists h) (prefix system.schedule w h) → has_vote (known_plans system.schedule.shape system.schedule.secret (shown_among system.schedule.shape taken)) (y.lists h) view position vote ≡ true
          → is_vote (vote_in (plans system.schedule w) (prefix system.schedule w h) view position) vote ≡ true
      here h b so =
          voted_there h view position vote (known_plans system.schedule.shape system.schedule.secret (shown_among system.schedule.shape taken)) (known_extends system w f id taken were apart)
          (subst (λ (z : List Bare). IsVoting (known_plans system.schedule.shape system.schedule.secret (shown_among system.schedule.shape taken)) z view position vote) b.is
          (voting (known_plans system.schedule.shape system.schedule.secret (shown_among system.schedule.shape taken)) b.later (y.lists h) view position vote so))

      led : leads view (at_counter (prefix system.schedule w (primary system.schedule.shape view)) vote.counter) ≡ true
      led =
          let g : ℕ = primary system.schedule.shape view in
          let b = begins g (primary_below system.schedule.shape view) in
          by (at_counter (y.lists g) vote.counter) refl b where
            by : (o : Option Bare) → at_counter (y.lists (primary system.schedule.shape view)) vote.counter ≡ o → IsBeginning (y.lists (primary system.schedule.shape view)) (prefix system.schedule w (primary system.schedule.shape view))
                → leads view (at_counter (prefix system.schedule w (primary system.schedule.shape view)) vote.counter) ≡ true
            by (Some m) is b =
                ap (leads view) (ap (λ (z : List Bare). at_counter z vote.counter) (sym b.is) ∙ (at_more b.later (y.lists (primary system.schedule.shape view)) vote.counter m is ∙ sym is)) ∙ y.led
            by None is b = true_false (sym y.led ∙ ap (leads view) is)
