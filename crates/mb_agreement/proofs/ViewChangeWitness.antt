-- The view change of three hosts as a consistent record: its bytes read as the messages, each prefix is all that its host stamped, and the one
-- NEW_VIEW in it has the plan of the two logs.
use Rattle.std.proofs.Common.{◌≡◌, ℕ, zero, suc, ◌+◌, Bool, true, List, [], ◌∷◌, length, map, refl, sym, ap, subst, ◌∙◌, inl, inr, arith, eqb, Some, None, lit≤}
use Rattle.std.specs.Prelude.{◌==◌, if◌then◌else◌, option_and_then}
use Rattle.std.specs.List.{AllByRecursion}
use Rattle.std.proofs.lemmas.Bool.{and_parts, cases_Bool, eq-eqb}
use Rattle.std.proofs.lemmas.List.{length-map}
use Rattle.std.proofs.lemmas.Option.{same_Some}
use Rattle.mb_base.specs.Shapes.{Bytes, primary}
use Rattle.mb_usig.specs.Tags.{same_bytes}
use Rattle.mb_usig.proofs.OnLiterals.{tags_on_literals}
use Rattle.mb_parts.specs.declared.certificates.Evidence.{Evidence}
use Rattle.mb_parts.specs.Bares.{Bare, bare_bytes, batch_digest}
use Rattle.mb_parts.specs.Bares as bare
use Rattle.mb_parts.specs.BareReading.{bare_of_bytes, bares_of}
use Rattle.mb_parts.specs.Counters.{at_counter}
use Rattle.mb_parts.specs.Claims.{Claim, new_view_claim}
use Rattle.mb_parts.specs.Certificates.{is_evidence, inner_valid, both}
use Rattle.mb_parts.specs.Ordered.{initial_floor, is_ordered, ordered_prefix}
use Rattle.mb_parts.specs.Issued.{is_issued, stamped_prefix}
use Rattle.mb_parts.proofs.IssuedLaws.{are_prefixes, says}
use Rattle.mb_parts.proofs.LongestOrdered.{prefix_whole}
use Rattle.mb_msg.specs.Plans.{plan_end}
use Rattle.mb_model.specs.declared.known.Vote.{Vote}
use Rattle.mb_model.specs.Verified.{verifies, are_rightly_tagged}
use Rattle.mb_model.specs.Committed.{Plans, planned, IsCommitted}
use Rattle.mb_model.specs.Plans.{ShownLog, plan_of}
use Rattle.mb_agreement.specs.Agreement.{text_of, IsUsableLog, IsMadeOf, IsConsistentRecord}
use Rattle.mb_agreement.specs.ViewChangeRecord.{HasViewChange}
use Rattle.mb_model.proofs.OnRecords.{logs_on_literals, readings_on_literals}
use Rattle.mb_agreement.proofs.ViewChangeData.{secret, three, asked, asked_digest, prepare_cert, shown_by_1, shown_by_2, plan_1, new_view_body, open_body, evidence_1, log_1, log_2}

-- ---- what the three hosts stamped, newest first

abbrev said : ℕ → List Bare
said zero = bare.Prepare 0 1 asked_digest ∷ []
said (suc zero) = bare.Open evidence_1 open_body ∷ bare.NewView 1 0 1 plan_1 new_view_body ∷ bare.ViewChange 1 shown_by_1 ∷ bare.Commit 0 1 1 prepare_cert asked_digest ∷ []
said (suc (suc zero)) = bare.Open evidence_1 open_body ∷ bare.Enter 1 3 plan_1 ∷ bare.ViewChange 1 shown_by_2 ∷ []
said _ = []

abbrev stamped : ℕ → List Bytes
stamped h = map bare_bytes (said h)

abbrev issued : Claim → Bool
issued = is_issued three stamped

abbrev prefix : ℕ → List Bare
prefix = stamped_prefix three stamped

abbrev plans : Plans
plans d = if same_bytes d plan_1 then Some (record { base = 0; digests = asked_digest ∷ [] }) else None

abbrev logs : List ShownLog
logs = log_1 ∷ log_2 ∷ []

-- ---- the bytes read as the messages

abbrev AreRead : List Bare → Type 0
AreRead l = AllByRecursion (λ m. bare_of_bytes three (bare_bytes m) ≡ Some m) l

are_read : (h : ℕ) → AreRead (said h)
unfolding logs_on_literals readings_on_literals tags_on_literals
are_read zero = (refl, tt)
are_read (suc zero) = (refl, (refl, (refl, (refl, tt))))
are_read (suc (suc zero)) = (refl, (refl, (refl, tt)))
are_read (suc (suc (suc h))) = tt

read_list : (l : List Bare) → AreRead l → bares_of three (map bare_bytes l) ≡ l
unfolding bares_of
read_list [] r = refl
read_list (m ∷ l) r =
    let rest = read_list l r.1 in
    rw (rest, eq-eqb (length l) (length (map bare_bytes l)) (sym (length-map l bare_bytes)), r.0) refl

read_there : (l : List Bare) (c : ℕ) → AreRead l → option_and_then (bare_of_bytes three) (at_counter (map bare_bytes l) c) ≡ at_counter l c
read_there [] c r = refl
read_there (m ∷ l) c r = elim (cases_Bool (eqb c (length l + 1))) [
  | inl here ↦ rw (length-map l bare_bytes, here) r.0
  | inr other ↦ rw (length-map l bare_bytes, other) (read_there l c r.1)
]

said_there : (c : Claim) → issued c ≡ true → at_counter (said c.host) c.counter ≡ Some c.says
said_there c h = sym (read_there (said c.host) c.counter (are_read c.host)) ∙ says three stamped c h

-- ---- the prefixes are all that was stamped, with certificates that verify and were issued

all_ordered : (h : ℕ) → is_ordered initial_floor three h (inner_valid three issued) (said h) ≡ true
unfolding logs_on_literals readings_on_literals tags_on_literals
all_ordered zero = refl
all_ordered (suc zero) = refl
all_ordered (suc (suc zero)) = refl
all_ordered (suc (suc (suc h))) = refl

all_certified : (h : ℕ) → is_ordered initial_floor three h (inner_valid three (both (verifies secret) issued)) (said h) ≡ true
unfolding logs_on_literals readings_on_literals tags_on_literals
all_certified zero = refl
all_certified (suc zero) = refl
all_certified (suc (suc zero)) = refl
all_certified (suc (suc (suc h))) = refl

whole : (h : ℕ) (l : List Bare) → is_ordered initial_floor three h (inner_valid three issued) l ≡ true → ordered_prefix initial_floor three h (inner_valid three issued) l ≡ l
unfolding ordered_prefix
whole h [] o = refl
whole h (m ∷ l) o = prefix_whole initial_floor three h (inner_valid three issued) m l o

prefix_is : (h : ℕ) → prefix h ≡ said h
unfolding stamped_prefix
prefix_is h = ap (λ (l : List Bare). ordered_prefix initial_floor three h (inner_valid three issued) l) (read_list (said h) (are_read h)) ∙ whole h (said h) (all_ordered h)

-- ---- the one NEW_VIEW

abbrev IsTheOne : Bare → Type 0
IsTheOne (bare.NewView v b e p d) = (v ≡ 1) × (b ≡ 0) × (e ≡ 1) × (p ≡ plan_1)
IsTheOne _ = Unit {0}

the_one : (h : ℕ) → AllByRecursion IsTheOne (said h)
the_one zero = (tt, tt)
the_one (suc zero) = (tt, ((refl, refl, refl, refl), (tt, (tt, tt))))
the_one (suc (suc zero)) = (tt, (tt, (tt, tt)))
the_one (suc (suc (suc h))) = tt

one_at : (l : List Bare) (c : ℕ) (m : Bare) → AllByRecursion IsTheOne l → at_counter l c ≡ Some m → IsTheOne m
one_at [] c m a e = absurd cc
one_at (x ∷ l) c m a e = elim (cases_Bool (eqb c (length l + 1))) [
  | inl same ↦ subst IsTheOne (same_Some x m (rw same at e)) a.0
  | inr other ↦ one_at l c m a.1 (rw other at e)
]

new_view_there : (e : Evidence) → is_evidence three issued e ≡ true → at_counter (said (primary three e.view)) e.counter ≡ Some (bare.NewView e.view e.base e.end e.plan e.body)
unfolding is_evidence
new_view_there e h =
    let x = and_parts (length e.members == 1) _ h in
    let y = and_parts _ _ x.1 in
    let z = and_parts _ _ y.1 in
    let u = and_parts (issued (new_view_claim three e)) _ z.1 in
    said_there (new_view_claim three e) u.0

-- ---- its plan

usable_1 : IsUsableLog three secret plans issued prefix 1 log_1
unfolding logs_on_literals readings_on_literals tags_on_literals
usable_1 = record { counter = 2; digest = shown_by_1; cert = []; stamped = refl; usable = refl; floor = λ c f a b. absurd cc; known = (tt, tt) }

usable_2 : IsUsableLog three secret plans issued prefix 1 log_2
unfolding logs_on_literals readings_on_literals tags_on_literals
usable_2 = record { counter = 1; digest = shown_by_2; cert = []; stamped = refl; usable = refl; floor = λ c f a b. absurd cc; known = tt }

plan_known : plans plan_1 ≡ Some (text_of (plan_of three logs))
unfolding logs_on_literals tags_on_literals
plan_known = refl

base_is : 0 ≡ (plan_of three logs).base.pos
unfolding logs_on_literals
base_is = refl

end_is : 1 ≡ plan_end (plan_of three logs)
unfolding logs_on_literals
end_is = refl

made_of : (e : Evidence) → IsTheOne (bare.NewView e.view e.base e.end e.plan e.body) → IsMadeOf three secret plans issued prefix e logs
made_of e is =
    let usable : (v : ℕ) → v ≡ 1 → (IsUsableLog three secret plans issued prefix v log_1) × (IsUsableLog three secret plans issued prefix v log_2) = λ v at. (rw at usable_1, rw at usable_2) in
    let known : (d : Bytes) → d ≡ plan_1 → plans d ≡ Some (text_of (plan_of three logs)) = λ d at. rw at plan_known in
    record {
      many = refl;
      rising = refl;
      usable = ((omega arith, (usable e.view is.0).0), ((omega arith, (usable e.view is.0).1), tt));
      base = is.1 ∙ base_is;
      end = is.2 ∙ end_is;
      plan = known e.plan is.3;
    }

consistent : IsConsistentRecord three secret plans issued prefix
consistent =
    let p = are_prefixes three stamped in
    record {
      ordered = p.ordered;
      stands = p.stands;
      maximal = p.maximal;
      evidences = λ e h. (logs, made_of e (one_at (said (primary three e.view)) e.counter (bare.NewView e.view e.base e.end e.plan e.body) (the_one (primary three e.view)) (new_view_there e h)));
      new_views = λ e h. rw (prefix_is (primary three e.view)) (new_view_there e h);
    }

-- ---- the whole

abbrev committed_vote : Vote
committed_vote = record { counter = 1; request = asked_digest }

committed : IsCommitted plans three prefix 0 1 committed_vote
unfolding logs_on_literals readings_on_literals tags_on_literals
committed = record { voted = lit≤ tt; led = refl }

-- It is the batch of two requests, each with its client's tag.
two_in_one : (length asked.requests ≡ 2) × (batch_digest asked ≡ committed_vote.request) × (are_rightly_tagged secret asked ≡ true)
unfolding logs_on_literals tags_on_literals
two_in_one = (refl, refl, refl)

evident : is_evidence three (both (verifies secret) issued) evidence_1 ≡ true
unfolding logs_on_literals readings_on_literals tags_on_literals
evident = refl

carried : planned (plans evidence_1.plan) 1 ≡ Some committed_vote.request
carried = refl

pub view_change : HasViewChange
view_change = record {
  shape = three;
  secret = secret;
  plans = plans;
  stamped = stamped;
  consistent = consistent;
  certified = λ h. rw (prefix_is h) (all_certified h);
  vote = committed_vote;
  committed = committed;
  evidence = evidence_1;
  view = refl;
  evident = evident;
  carried = carried;
}
