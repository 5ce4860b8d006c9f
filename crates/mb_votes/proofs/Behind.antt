-- What a table of votes holds behind each call.
use Rattle.std.proofs.Common.{◌≡◌, ℕ, zero, suc, ◌+◌, ◌<◌, ◌≤◌, Bool, true, false, ◌&&◌, cond, leb, eqb, List, length, set, get_or, replicate, Option, Some, None, inl, inr, refl, sym, ap, ◌∙◌, arith}
use Rattle.std.proofs.lemmas.Bool.{ne_eqb}
use Rattle.std.proofs.lemmas.Bool.Decides.{eqb_tells}
use Rattle.std.proofs.lemmas.List.{get_or-set_same, get_or-set_other}
use Rattle.mb_base.specs.Limits.{most_hosts}
use Rattle.mb_base.specs.declared.shape.Shape.{Shape}
use Rattle.mb_base.specs.Shapes.{host_count}
use Rattle.mb_model.specs.declared.known.Vote.{Vote}
use Rattle.mb_window.specs.Places.{item_at}
use Rattle.mb_window.specs.Represents.{Represents as WindowRepresents, StandsAbove as WindowAbove, found_at, above as above_low}
use Rattle.mb_window.proofs.Searches.{put_stands}
use Rattle.mb_votes.specs.declared.votes.Votes.{Votes}
use Rattle.mb_votes.specs.Ballots.{Ballots, AreOfHosts, kept_in, vote_at, set_in, with_vote}
use Rattle.mb_votes.specs.Votes.{StandsWith, StandsAbove, voted, votes_above}

-- ---- one vote more

nobody : (n h : ℕ) → get_or {A = Option Vote} (replicate n None) h None ≡ None
nobody zero h = refl
nobody (suc n) zero = refl
nobody (suc n) (suc h) = nobody n h

set_one : (votes : List (Option Vote)) (host h : ℕ) (vote : Vote) → host < length votes → get_or (set votes host (Some vote)) h None ≡ cond (eqb h host) (Some vote) (get_or votes h None)
set_one votes host h vote lt = elim (eqb_tells h host) [
  | inl t ↦ rw t.0 (ap (λ k. get_or (set votes host (Some vote)) k None) t.1 ∙ get_or-set_same votes host (Some vote) None lt)
  | inr f ↦ rw f.0 (get_or-set_other votes host h (Some vote) None f.1)
]

in_ballot : (o : Option (List (Option Vote))) (host h : ℕ) (vote : Vote) → host < most_hosts → ((votes : List (Option Vote)) → o ≡ Some votes → length votes ≡ most_hosts) → get_or (set_in o host vote) h None ≡ cond (eqb h host) (Some vote) (kept_in o h)
in_ballot None host h vote lt wide = set_one (replicate most_hosts None) host h vote lt ∙ ap (cond (eqb h host) (Some vote)) (nobody most_hosts h)
in_ballot (Some votes) host h vote lt wide = let seven = wide votes refl in set_one votes host h vote (omega (arith, lt, seven))

module _ (b : Ballots) (pos host : ℕ) (vote : Vote) where
  pub with_vote_finds : b.low < pos → pos ≤ b.low + length b.items → host < most_hosts → ((votes : List (Option Vote)) → item_at b pos ≡ Some votes → length votes ≡ most_hosts)
      → (h p : ℕ) → vote_at (with_vote b pos host vote) h p ≡ voted (vote_at b) pos host vote h p
  with_vote_finds above within lt wide h p =
      ap (λ o. kept_in o h) (stands.finds p) ∙ elim (eqb_tells p pos) [
        | inl t ↦ rw t.0 (in_ballot (item_at b pos) host h vote lt wide ∙ ap (λ q. cond (eqb h host) (Some vote) (vote_at b h q)) (sym t.1))
        | inr f ↦ rw f.0 refl
      ] where
        stands : WindowRepresents (with_vote b pos host vote) b.low (found_at (item_at b) pos (set_in (item_at b pos) host vote))
        stands = put_stands b (with_vote b pos host vote) pos (set_in (item_at b pos) host vote) refl above within b.low (item_at b) (record { low_is = refl; finds = λ q. refl })

-- what a table holds with it
module _ (t new : Votes) (pos host : ℕ) (vote : Vote) where
  pub vote_stands : new.shape ≡ t.shape → new.ballots.low ≡ t.ballots.low → ((h p : ℕ) → vote_at new.ballots h p ≡ voted (vote_at t.ballots) pos host vote h p) → StandsWith t pos host vote new
  vote_stands shape low finds s low0 search st = record {
    shape_is = shape ∙ st.shape_is;
    low_is = low ∙ st.low_is;
    finds = λ h p. finds h p ∙ ap (cond (eqb p pos && eqb h host) (Some vote)) (st.finds h p);
  }

pub hosts_with : (s : Shape) (b new : Ballots) (pos host : ℕ) (vote : Vote) → host < host_count s → ((h p : ℕ) → vote_at new h p ≡ voted (vote_at b) pos host vote h p) → AreOfHosts s b → AreOfHosts s new
hosts_with s b new pos host vote lt finds of h p le =
    let other : eqb h host ≡ false = ne_eqb h host (λ e. absurd (omega (arith, e, lt, le))) in
    finds h p ∙ ap (λ x. cond (eqb p pos && x) (Some vote) (vote_at b h p)) other ∙ off (eqb p pos) ∙ of h p le where
      off : (x : Bool) → cond (x && false) (Some vote) (vote_at b h p) ≡ vote_at b h p
      off true = refl
      off false = refl

-- ---- the low end raised

abbrev no_vote : Option Vote
no_vote = None

module _ (b new : Ballots) (low : ℕ) (above : WindowAbove b low new) where
  pub raised_finds : (h p : ℕ) → vote_at new h p ≡ votes_above low (vote_at b) h p
  raised_finds h p = ap (λ o. kept_in o h) (stands.finds p) ∙ off (leb p low) where
    stands : WindowRepresents new low (above_low low (item_at b))
    stands = above b.low (item_at b) (record { low_is = refl; finds = λ q. refl })

    off : (x : Bool) → kept_in (cond x None (item_at b p)) h ≡ cond x None (vote_at b h p)
    off true = refl
    off false = refl

  pub raised_low : new.low ≡ low
  raised_low = (above b.low (item_at b) (record { low_is = refl; finds = λ q. refl })).low_is

  pub raised_hosts : (s : Shape) → AreOfHosts s b → AreOfHosts s new
  raised_hosts s of h p le = raised_finds h p ∙ ap (cond (leb p low) None) (of h p le) ∙ off (leb p low) where
    off : (x : Bool) → cond x no_vote no_vote ≡ no_vote
    off true = refl
    off false = refl

module _ (t new : Votes) (low : ℕ) where
  pub raise_stands : new.shape ≡ t.shape → new.ballots.low ≡ low → ((h p : ℕ) → vote_at new.ballots h p ≡ votes_above low (vote_at t.ballots) h p) → StandsAbove t low new
  raise_stands shape is finds s low0 search st = record {
    shape_is = shape ∙ st.shape_is;
    low_is = is;
    finds = λ h p. finds h p ∙ ap (cond (leb p low) None) (st.finds h p);
  }
