-- A position with its slot and f+1 votes keeps them, and one more vote completes f.
use Rattle.std.proofs.Common.{◌≡◌, ℕ, zero, suc, ◌+◌, ◌<◌, ◌≤◌, Bool, true, false, ◌∷◌, refl, sym, ap, subst, ◌∙◌, arith, eqb, inl, inr, Option, Some, None}
use Rattle.std.specs.Prelude.{if◌then◌else◌}
use Rattle.std.proofs.lemmas.Bool.{cases_Bool, eqb-true, eqb-false}
use Rattle.mb_base.specs.Shapes.{HasQuorum, max_faults, tally, host_count}
use Rattle.mb_parts.specs.declared.batch.Batch.{Batch}
use Rattle.mb_model.specs.declared.known.Vote.{Vote}
use Rattle.mb_model.specs.declared.known.KnownSlot.{KnownSlot}
use Rattle.mb_model.specs.Votes.{is_vote}
use Rattle.mb_model.specs.Histories.{Entry, History, Identity, view_of}
use Rattle.mb_model.specs.Positions.{slot_in, slot_vote, vote_of}
use Rattle.mb_model.proofs.Options.{option_cases}
use Rattle.mb_promise.specs.NothingLeft.{has_vote}

bit_more : (p q : Bool) → (p ≡ true → q ≡ true) → (if p then 1 else 0) ≤ (if q then 1 else 0)
bit_more true q f = rw (f refl) (omega arith)
bit_more false q f = omega arith

tally_more : (p q : ℕ → Bool) (n : ℕ) → ((h : ℕ) → p h ≡ true → q h ≡ true) → tally p n ≤ tally q n
tally_more p q zero f = omega arith
tally_more p q (suc n) f = omega (arith, bit_more (p n) (q n) (f n), tally_more p q n f)

-- with one more host among them
pub tally_one_more : (p q : ℕ → Bool) (a n : ℕ) → a < n → p a ≡ false → q a ≡ true → ((h : ℕ) → p h ≡ true → q h ≡ true) → tally p n + 1 ≤ tally q n
tally_one_more p q a zero less none new f = absurd (omega (arith, less))
tally_one_more p q a (suc n) less none new f = elim (cases_Bool (eqb a n)) [
  | inl same ↦
      let at : a ≡ n = eqb-true a n same in
      let before : p n ≡ false = subst (λ (h : ℕ). p h ≡ false) at none in
      let after : q n ≡ true = subst (λ (h : ℕ). q h ≡ true) at new in
      rw (before, after) (omega (arith, tally_more p q n f))
  | inr other ↦
      let not_there = eqb-false a n other in
      let below : a < n = above not_there in
      omega (arith, bit_more (p n) (q n) (f n), tally_one_more p q a n below none new f)
] where
  above : (a ≡ n → ⊥) → a < n
  above not_there = omega (arith, less, not_there)

module _ {S : Type 0} (self : Identity S) where
  -- The slot of a position in the view of the host has this batch, and f+1 votes.
  pub record IsVoted (d : History) (pos : ℕ) (k : KnownSlot) (b : Batch) : Type 0 where
    pub slot : slot_in self d (view_of self d) pos ≡ Some k
    pub batch : k.batch ≡ Some b
    pub votes : HasQuorum self.shape (has_vote self d pos (slot_vote k))

  pub slot_kept : (x : Entry) (d : History) (v p : ℕ) (k : KnownSlot) → slot_in self d v p ≡ Some k → slot_in self (x ∷ d) v p ≡ Some k
  unfolding slot_in
  slot_kept x d v p k e = rw e refl

  vote_kept : (x : Entry) (d : History) (g v p : ℕ) (y : Vote) → vote_of self d g v p ≡ Some y → vote_of self (x ∷ d) g v p ≡ Some y
  unfolding vote_of
  vote_kept x d g v p y e = rw e refl

  -- A host that has this vote has it still.
  pub has_still : (x : Entry) (d : History) (pos : ℕ) (y : Vote) → view_of self (x ∷ d) ≡ view_of self d → (h : ℕ) → has_vote self d pos y h ≡ true → has_vote self (x ∷ d) pos y h ≡ true
  has_still x d pos y view h e = elim (option_cases (vote_of self d h (view_of self d) pos)) [
    | inl none ↦ let c = rw none at e in absurd cc
    | inr (z, some) ↦
        let kept : vote_of self (x ∷ d) h (view_of self (x ∷ d)) pos ≡ Some z = subst (λ (v : ℕ). vote_of self (x ∷ d) h v pos ≡ Some z) (sym view) (vote_kept x d h (view_of self d) pos z some) in
        ap (λ (o : Option Vote). is_vote o y) (kept ∙ sym some) ∙ e
  ]

  pub voted_still : (x : Entry) (d : History) (pos : ℕ) (k : KnownSlot) (b : Batch) → view_of self (x ∷ d) ≡ view_of self d → IsVoted d pos k b → IsVoted (x ∷ d) pos k b
  voted_still x d pos k b view v =
      let votes = v.votes in
      record {
        slot = subst (λ (w : ℕ). slot_in self (x ∷ d) w pos ≡ Some k) (sym view) (slot_kept x d (view_of self d) pos k v.slot);
        batch = v.batch;
        votes = omega (arith, votes, tally_more (has_vote self d pos (slot_vote k)) (has_vote self (x ∷ d) pos (slot_vote k)) (host_count self.shape) (has_still x d pos (slot_vote k) view));
      }

  -- f hosts have the vote, and one more that had none: f+1
  pub completes : (x : Entry) (d : History) (g pos : ℕ) (y : Vote) → view_of self (x ∷ d) ≡ view_of self d → g < host_count self.shape → vote_of self d g (view_of self d) pos ≡ None
      → has_vote self (x ∷ d) pos y g ≡ true → max_faults self.shape ≤ tally (has_vote self d pos y) (host_count self.shape) → HasQuorum self.shape (has_vote self (x ∷ d) pos y)
  completes x d g pos y view host none new others =
      let lacks : has_vote self d pos y g ≡ false = ap (λ (o : Option Vote). is_vote o y) none in
      omega (arith, others, tally_one_more (has_vote self d pos y) (has_vote self (x ∷ d) pos y) g (host_count self.shape) host lacks new (has_still x d pos y view))
