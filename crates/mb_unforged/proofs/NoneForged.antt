-- So nothing in any message is forged, after each inner event.
use Rattle.std.proofs.Common.{◌≡◌, ℕ, zero, suc, ◌<◌, ◌≤◌, ◌⊎◌, List, [], ◌∷◌, ◌++◌, length, refl, sym, subst, inl, inr, arith, Option, Some, None}
use Rattle.std.specs.Prelude.{map, slice_get}
use Rattle.std.proofs.lemmas.Option.{slice_get_within}
use Rattle.mb_base.specs.Shapes.{Bytes, IsShape}
use Rattle.mb_msg.specs.declared.message.Message.{Message}
use Rattle.mb_msg.specs.Spelling.{spelling}
use Rattle.mb_model.specs.Sending.{Letter}
use Rattle.mb_model.specs.HostStep.{transition}
use Rattle.mb_model.proofs.ShapesFit.{shape_fits}
use Rattle.mb_model.specs.Members.{In}
use Rattle.mb_model.proofs.Members.{in_contained}
use Rattle.mb_schedule.specs.declared.schedule.WorldEvent.{WorldEvent}
use Rattle.mb_schedule.specs.Limits.{IsSchedule}
use Rattle.mb_world_model.specs.World.{World, System, self_of, read}
use Rattle.mb_world_model.specs.WorldSteps.{happens, world}
use Rattle.mb_world_model.specs.Stops.{IsUnstopped}
use Rattle.mb_world_laws.proofs.Grown.{Grows}
use Rattle.mb_world_laws.proofs.Standings.{before_last, passage}
use Rattle.mb_unforged.specs.NoneForged.{AreInner, NoneIsForged}
use Rattle.mb_unforged.proofs.Ready.{IsReady, ready}
use Rattle.mb_unforged.proofs.Genuine.{IsGenuine, genuine_grows, no_claim_forged, no_tag_forged}
use Rattle.mb_unforged.proofs.HostSteps.{letter_genuine}
use Rattle.mb_unforged.proofs.FaultyStamps.{PoolIsGenuine}
use Rattle.mb_unforged.proofs.Events.{StampsFew, AddsLetters, AddsOne, Adds, event_adds}

in_either : {A : Type 0} (a b : List A) (x : A) → In (a ++ b) x → In a x ⊎ In b x
in_either [] b x i = inr i
in_either (y ∷ a) b x (inl is) = inl (inl is)
in_either (y ∷ a) b x (inr i) = elim (in_either a b x i) [ inl j ↦ inl (inr j) | inr j ↦ inr j ]

in_mapped : {A B : Type 0} (f : A → B) (l : List A) (y : B) → In (map f l) y → (x : A) × In l x × (f x ≡ y)
in_mapped f [] y i = absurd i
in_mapped f (x ∷ l) y (inl is) = (x, inl refl, is)
in_mapped f (x ∷ l) y (inr i) = let r = in_mapped f l y i in (r.0, inr r.1, r.2)

in_one : {A : Type 0} (x y : A) → In (x ∷ []) y → x ≡ y
in_one x y (inl is) = is
in_one x y (inr i) = absurd i

module _ {S : Type 0} (system : System S) where
  pub shape_is : IsShape system.schedule.shape
  shape_is = shape_fits system.schedule.shape

  abbrev pub Pool : World → Type 0
  Pool w = PoolIsGenuine system.schedule shape_is w

  -- ---- one event

  module _ (w v : World) (before : IsReady system w) (behind : IsReady system v) (grows : Grows system.schedule w v) (pool : Pool w) where
    stays : (b : Bytes) (m : Message) → In w.pool b → read system.schedule b ≡ Some m → IsGenuine system.schedule v m
    stays b m i e = genuine_grows system.schedule w v grows m (pool b m i e)

    letters_pool : AddsLetters system w v → Pool v
    letters_pool a b m i e =
        let sent : List Letter = (transition (self_of system a.host) (w.histories a.host) a.seen).left.sent in
        elim (in_either w.pool (map (λ (l : Letter). spelling l.says) sent) b (subst (λ (l : List Bytes). In l b) a.pool i)) [
          | inl old ↦ stays b m old e
          | inr new ↦
              let k = in_mapped (λ (l : Letter). spelling l.says) sent b new in
              letter_genuine system w v before behind grows a.host a.correct a.seen a.left a.tags k.0 k.1 m (subst (λ (y : Bytes). read system.schedule y ≡ Some m) (sym k.2) e)
        ]

    one_pool : AddsOne system w v → Pool v
    one_pool a b m i e = elim (in_either w.pool (a.bytes ∷ []) b (subst (λ (l : List Bytes). In l b) a.pool i)) [
      | inl old ↦ stays b m old e
      | inr new ↦ a.genuine grows m (subst (λ (y : Bytes). read system.schedule y ≡ Some m) (sym (in_one a.bytes b new)) e)
    ]

    added_pool : Adds system w v → Pool v
    added_pool (inl a) b m i e = stays b m (subst (λ (l : List Bytes). In l b) a.pool i) e
    added_pool (inr (inl a)) b m i e = letters_pool a b m i e
    added_pool (inr (inr a)) b m i e = one_pool a b m i e

  added_stamps : (w v : World) → Adds system w v → StampsFew system w v
  added_stamps w v (inl a) = a.stamps
  added_stamps w v (inr (inl a)) = a.stamps
  added_stamps w v (inr (inr a)) = a.stamps

  -- ---- all events

  pub record IsClear (k : ℕ) (w : World) : Type 0 where
    pub pool : Pool w
    pub stamps : (g : ℕ) → length (w.faulty_stamps g) ≤ k

  module _ (fits : IsSchedule system.schedule) where
    clear_on : (k : ℕ) (w : World) → k < length system.schedule.events → (e : WorldEvent) → slice_get system.schedule.events k ≡ Some e → AreInner system.schedule (suc k) → IsReady system w → IsReady system (happens system w e)
        → Grows system.schedule w (happens system w e) → IsClear k w → IsClear (suc k) (happens system w e)
    clear_on k w lt e at inner before behind grows c =
        let few = fits.count in
        let a : Adds system w (happens system w e) = event_adds system w shape_is (λ h. let x = c.stamps h in omega (arith, x, lt, few)) c.pool e (inner k e (omega arith) at) (fits.events k e at) in
        record {
          pool = added_pool w (happens system w e) before behind grows c.pool a;
          stamps = λ g. let x = added_stamps w (happens system w e) a g in let y = c.stamps g in omega (arith, x, y);
        }

    pub clear : (k : ℕ) → IsUnstopped system k → AreInner system.schedule k → IsClear k (world system k)
    unfolding world
    clear zero none inner = record { pool = λ b m i e. absurd i; stamps = λ g. omega arith }
    clear (suc k) none inner = go (clear k (before_last system k none) (λ j e lt at. inner j e (omega (arith, lt)) at)) (slice_get system.schedule.events k) refl where
      go : IsClear k (world system k) → (o : Option WorldEvent) → slice_get system.schedule.events k ≡ o → IsClear (suc k) (world system (suc k))
      go c None at = rw at (record { pool = c.pool; stamps = λ g. let x = c.stamps g in omega (arith, x) })
      go c (Some e) at =
          let same : world system (suc k) ≡ happens system (world system k) e = rw at refl in
          let behind : IsReady system (happens system (world system k) e) = subst (IsReady system) same (ready system (suc k) none) in
          let grows : Grows system.schedule (world system k) (happens system (world system k) e) = subst (Grows system.schedule (world system k)) same (passage system k none).grows in
          subst (IsClear (suc k)) (sym same) (clear_on k (world system k) (slice_get_within system.schedule.events k e at) e at inner (ready system k (before_last system k none)) behind grows c)

pub none_is_forged : (S : Type 0) → NoneIsForged S
none_is_forged S system fits k none inner bytes m there e =
    let g : IsGenuine system.schedule (world system k) m = (clear system fits k none inner).pool bytes m (in_contained (world system k).pool bytes there) e in
    record { claims = no_claim_forged system.schedule (world system k) m g; tags = no_tag_forged system.schedule (world system k) m g }
