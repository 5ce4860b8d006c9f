-- Snapshots and parts follow a certificate that is learnt, and so does the stable one.
use Rattle.std.proofs.Common.{◌≡◌, ℕ, Bool, true, false, ◌∷◌, refl, sym, ap, subst, ◌∙◌, Option, Some, None}
use Rattle.std.specs.Prelude.{nat_lt, if◌then◌else◌}
use Rattle.mb_parts.specs.declared.certificates.StableCert.{StableCert}
use Rattle.mb_model.specs.Histories.{Entry, History, Identity}
use Rattle.mb_model.specs.Stable.{stable_of, low_of, further}
use Rattle.mb_fetch.specs.Snapshots.{StandsFrom}
use Rattle.mb_fetch.specs.Fetched.{Fetched}
use Rattle.mb_fetch.proofs.Snapshots.{fewer_stands}
use Rattle.mb_history_laws.specs.Speaks.{speaks_of_snapshots, speaks_of_parts}
use Rattle.mb_history_laws.specs.Sound.{IsSound}
use Rattle.mb_executor.specs.Keeping.{Keeping, raised, fetched_from}
use Rattle.mb_refinement.specs.Stands.{ShelfStands, HeldStand}
use Rattle.mb_refinement.specs.Lagging.{dropped_below}
use Rattle.mb_refinement.proofs.Snapshots.{shelf_stays, shelf_raised}
use Rattle.mb_refinement.proofs.FetchedParts.{held_stays, held_lags, held_lags_on, held_follow}
use Rattle.mb_replica.specs.declared.state.ReplicaState.{ReplicaState}
use Rattle.mb_replica.specs.Represents.{Represents}
use Rattle.mb_replica.specs.Holding.{kept_behind}

same_dropped : (low : ℕ) (o : Option Fetched) → dropped_below low o ≡ fetched_from low o
same_dropped low None = refl
same_dropped low (Some t) = refl

-- Behind an entry that speaks of neither: snapshots and parts of a keeper follow the stable position.
module _ {V : Type 0} (me : Identity V) (k : Keeping V) (d : History) (sound : IsSound me d) (shelf : ShelfStands me k.snapshots d) (parts : HeldStand me k.fetched d) (e : Entry) (no_snapshots : speaks_of_snapshots e ≡ false) (no_parts : speaks_of_parts e ≡ false) where
  abbrev pub Follows : Keeping V → Type 0
  Follows x = ShelfStands me x.snapshots (e ∷ d) × HeldStand me x.fetched (e ∷ d)

  -- Where it brings no certificate that is further, they are left.
  pub keeper_stays : low_of me (e ∷ d) ≡ low_of me d → Follows k
  keeper_stays low = (shelf_stays me k.snapshots e d no_snapshots low shelf, held_stays me k.fetched e d no_parts low parts)

  -- Else they rise to its position.
  keeper_rises : (low : ℕ) → low_of me (e ∷ d) ≡ low → Follows (raised low k)
  keeper_rises low is = (
    shelf_raised me k.snapshots (raised low k).snapshots e d no_snapshots (subst (λ (p : ℕ). StandsFrom k.snapshots p (raised low k).snapshots) (sym is) (fewer_stands low k.snapshots)) shelf,
    subst (λ (o : Option Fetched). HeldStand me o (e ∷ d)) (ap (λ (p : ℕ). dropped_below p k.fetched) is ∙ same_dropped low k.fetched)
        (held_follow me (low_of me d) k.fetched (e ∷ d) (held_lags_on me (low_of me d) k.fetched e d no_parts (held_lags me k.fetched d sound parts))),
  )

  pub keeper_learns : (stable c : StableCert) → stable ≡ stable_of me d → stable_of me (e ∷ d) ≡ further (stable_of me d) (Some c) → Follows (if nat_lt stable.pos c.pos then raised c.pos k else k)
  keeper_learns stable c was now = by_test (nat_lt stable.pos c.pos) refl where
    low : low_of me (e ∷ d) ≡ (further stable (Some c)).pos
    low = ap (λ (s : StableCert). s.pos) (now ∙ ap (λ (s : StableCert). further s (Some c)) (sym was))

    by_test : (b : Bool) → nat_lt stable.pos c.pos ≡ b → Follows (if b then raised c.pos k else k)
    by_test true is = keeper_rises c.pos (rw is at low)
    by_test false is = keeper_stays (rw is at low ∙ ap (λ (s : StableCert). s.pos) was)

module _ {V : Type 0} (me : Identity V) (old : ReplicaState V) (d : History) (rep : Represents me old d) (e : Entry) where
  pub record KeptStands (k : Keeping V) : Type 0 where
    pub shelf : ShelfStands me k.snapshots (e ∷ d)
    pub parts : HeldStand me k.fetched (e ∷ d)

  -- So it is with those of a replica.
  module _ (snapshots : speaks_of_snapshots e ≡ false) (parts : speaks_of_parts e ≡ false) where
    pub kept_stay : low_of me (e ∷ d) ≡ low_of me d → KeptStands old.keeper
    kept_stay low = let follow = keeper_stays me old.keeper d rep.tables.sound rep.tables.shelf rep.tables.parts e snapshots parts low in record { shelf = follow.0; parts = follow.1 }

    pub kept_learnt : (c : Option StableCert) → stable_of me (e ∷ d) ≡ further (stable_of me d) c → KeptStands (kept_behind old.protocol.stable c old.keeper)
    kept_learnt None brings = kept_stay (ap (λ (s : StableCert). s.pos) brings)
    kept_learnt (Some c) brings =
        let follow = keeper_learns me old.keeper d rep.tables.sound rep.tables.shelf rep.tables.parts e snapshots parts old.protocol.stable c rep.tables.stable brings in
        record { shelf = follow.0; parts = follow.1 }

  -- the stable certificate behind it
  pub stable_learnt : (c : Option StableCert) → stable_of me (e ∷ d) ≡ further (stable_of me d) c → further old.protocol.stable c ≡ stable_of me (e ∷ d)
  stable_learnt c brings = ap (λ (s : StableCert). further s c) rep.tables.stable ∙ sym brings
