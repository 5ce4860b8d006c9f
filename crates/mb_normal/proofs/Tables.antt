-- What calls make of the tables.
use Rattle.std.proofs.Common.{◌≡◌, ℕ, ◌/◌, ◌<◌, true, Option, Some, None, is_some, refl, sym, ap, ◌∙◌, subst, arith}
use Rattle.std.specs.Prelude.{option_map, Result, Ok, Err, OnOk, OnErr}
use Rattle.mb_base.specs.declared.shape.Shape.{Shape}
use Rattle.mb_base.specs.Shapes.{interval, span, client_count}
use Rattle.mb_msg.specs.declared.normal.Checkpoint.{Checkpoint}
use Rattle.mb_model.specs.declared.known.Vote.{Vote}
use Rattle.mb_model.specs.declared.known.KnownSlot.{KnownSlot}
use Rattle.mb_window.specs.declared.refused.Refused.{Refused}
use Rattle.mb_window.specs.declared.refused.Refused.TheVariants.{Below, Beyond, Filled}
use Rattle.mb_window.specs.Places.{Places, item_at}
use Rattle.mb_window.specs.Represents.{Represents as WindowRepresents, StandsAbove as WindowAbove, StandsWith as WindowWith}
use Rattle.mb_checkpoints.specs.declared.checkpoints.Checkpoints.{Checkpoints}
use Rattle.mb_checkpoints.specs.Kept.{Represents as KeptRepresents, KeepsAbove, Keeps, kept_at, low_of}
use Rattle.mb_checkpoints.proofs.Places.{number_is}
use Rattle.mb_votes.specs.declared.votes.Votes.{Votes}
use Rattle.mb_votes.specs.Ballots.{vote_at}
use Rattle.mb_votes.specs.Votes.{Represents as VotesRepresents, StandsAbove as VotesAbove, StandsWith as VotesWith, Refuses as VotesRefuses}
use Rattle.mb_normal.specs.declared.normal.Normal.{Normal}
use Rattle.mb_normal.specs.declared.slots.Slots.{Slots}
use Rattle.mb_normal.specs.Waiting.{request_of}
use Rattle.mb_normal.specs.Searches.{Searches}
use Rattle.mb_normal.specs.Tables.{Represents, RefusesIn}

-- ---- a table stands for what it holds itself

pub own_votes : (t : Votes) → VotesRepresents t.shape t t.ballots.low (vote_at t.ballots)
own_votes t = record { shape_is = refl; low_is = refl; finds = λ h p. refl }

-- the CHECKPOINT of a host at a position
abbrev message_of : Checkpoints → ℕ → ℕ → Option Checkpoint
message_of t h p = option_map (λ k. k.message) (kept_at t (p / interval t.shape) h)

pub own_kept : (t : Checkpoints) → KeptRepresents t.shape t (low_of t) (message_of t)
own_kept t = record {
  shape_is = refl;
  low_is = refl;
  finds = λ h number lt le. ap (λ n. option_map (λ k. k.message) (kept_at t n h)) (sym (number_is (interval t.shape) number t.shape.interval_in.0));
}

-- ---- so its shape and low end follow

pub votes_raised : (old new : Votes) (low : ℕ) → VotesAbove old low new → (new.shape ≡ old.shape) × (new.ballots.low ≡ low)
votes_raised old new low is = let st = is old.shape old.ballots.low (vote_at old.ballots) (own_votes old) in (st.shape_is, st.low_is)

pub votes_added : {A E : Type 0} (old new : Votes) (pos host : ℕ) (vote : Vote) (r : Result A E) → OnOk r (VotesWith old pos host vote new) → OnErr r (new ≡ old) → new.shape ≡ old.shape
votes_added old new pos host vote (Ok u) is same = (is old.shape old.ballots.low (vote_at old.ballots) (own_votes old)).shape_is
votes_added old new pos host vote (Err e) is same = ap (λ (t : Votes). t.shape) same

pub kept_raised : (old new : Checkpoints) (low : ℕ) → KeepsAbove old low new → (new.shape ≡ old.shape) × (low_of new ≡ low)
kept_raised old new low is = let st = is old.shape (low_of old) (message_of old) (own_kept old) in (st.shape_is, st.low_is)

pub kept_kept : (old new : Checkpoints) (m : Checkpoint) → Keeps old m new → (new.shape ≡ old.shape) × (low_of new ≡ low_of old)
kept_kept old new m is = let st = is old.shape (low_of old) (message_of old) (own_kept old) in (st.shape_is, st.low_is)

pub slot_put : {A E : Type 0} (old new : Slots) (pos : ℕ) (slot : KnownSlot) (r : Result A E) → OnOk r (WindowWith old.window pos slot new.window) → OnErr r (new ≡ old) → new.window.low ≡ old.window.low
slot_put old new pos slot (Ok u) is same = (is old.window.low (item_at old.window) (record { low_is = refl; finds = λ p. refl })).low_is
slot_put old new pos slot (Err e) is same = ap (λ (t : Slots). t.window.low) same

-- ---- refusals

is_held : {A : Type 0} (o : Option A) → (o ≡ None → ⊥) → is_some o ≡ true
is_held None e = absurd (e refl)
is_held (Some a) e = refl

module _ (t : Normal) (s : Shape) (h : ℕ) (x : Searches) (st : Represents s h t x) where
  pub vote_refused : (pos host : ℕ) (vote : Vote) (r : Result (Unit {0}) (Refused Vote)) → VotesRefuses t.votes pos host vote r → RefusesIn x.low (span s) (is_some (x.votes host pos)) pos vote r
  vote_refused pos host vote r = at r where
    votes_low : t.votes.ballots.low ≡ x.low
    votes_low = st.votes.low_is

    width : span t.votes.shape ≡ span s
    width = ap span st.votes.shape_is

    at : (r : Result (Unit {0}) (Refused Vote)) → VotesRefuses t.votes pos host vote r → RefusesIn x.low (span s) (is_some (x.votes host pos)) pos vote r
    at (Ok u) e = let lt = e.0 in let le = e.1 in (omega (arith, votes_low, lt), omega (arith, votes_low, width, le), ap is_some (sym (st.votes.finds host pos) ∙ e.2))
    at (Err (Below l back)) e = let le = e.0 in (omega (arith, votes_low, le), e.1 ∙ votes_low, e.2)
    at (Err (Beyond l back)) e = let lt = e.0 in (omega (arith, votes_low, width, lt), e.1 ∙ votes_low, e.2)
    at (Err (Filled back)) e = let lt = e.0 in let le = e.1 in
        (omega (arith, votes_low, lt), omega (arith, votes_low, width, le), ap is_some (sym (st.votes.finds host pos)) ∙ is_held (vote_at t.votes.ballots host pos) e.2, e.3)

  -- ---- what is read

  pub request_is : (c : ℕ) → c < client_count t.shape → request_of t.pending.by_client.items c ≡ x.pending c
  request_is c lt = st.pending c (subst (λ (y : Shape). c < client_count y) st.shape_is lt)

pub on_ok : {A E : Type 0} {P Q : Type 0} (r : Result A E) → (P → Q) → OnOk r P → OnOk r Q
on_ok (Ok a) f p = f p
on_ok (Err e) f p = p

-- ---- slots and votes behind a raise, and behind a clear

pub slots_raised : (old new : Places KnownSlot) (low : ℕ) → WindowAbove old low new → new.low ≡ low
slots_raised old new low is = (is old.low (item_at old) (record { low_is = refl; finds = λ p. refl })).low_is

pub slots_cleared : (new : Places KnownSlot) (old low : ℕ) → old ≡ low → WindowRepresents new old (λ p. None) → WindowRepresents new low (λ p. None)
slots_cleared new old low is st = subst (λ (l : ℕ). WindowRepresents new l (λ p. None)) is st

pub votes_cleared : (new old : Votes) (s : Shape) (low : ℕ) → old.shape ≡ s → old.ballots.low ≡ low → VotesRepresents old.shape new old.ballots.low (λ h p. None) → VotesRepresents s new low (λ h p. None)
votes_cleared new old s low shape is st = record { shape_is = st.shape_is ∙ shape; low_is = st.low_is ∙ is; finds = st.finds }
