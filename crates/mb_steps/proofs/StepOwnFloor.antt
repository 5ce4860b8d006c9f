-- Where one message leads from a floor: the view, whether it is open, the last position, and the position of the last CHECKPOINT.
use Rattle.std.proofs.Common.{◌≡◌, ℕ, ◌<◌, Bool, true, false, ◌||◌, [], ◌∷◌, refl, ◌∙◌, arith, eqb, Option}
use Rattle.std.proofs.lemmas.Bool.{eq-eqb, ne_eqb}
use Rattle.mb_base.specs.Shapes.{Bytes}
use Rattle.mb_parts.specs.declared.floor.Floor.{Floor}
use Rattle.mb_parts.specs.declared.certificates.Evidence.{Evidence}
use Rattle.mb_parts.specs.declared.certificates.StableCert.{StableCert}
use Rattle.mb_parts.specs.Bares.{Bare}
use Rattle.mb_parts.specs.Bares as bare
use Rattle.mb_parts.specs.Ordered.{current_view, is_opened, last_position, last_checkpoint, floor_after, phase_from, phase_is_open}

pub open_from : (opened entered : Bool) → phase_is_open (phase_from opened entered) ≡ opened
open_from true e = refl
open_from false true = refl
open_from false false = refl

or_false : (b : Bool) → (b || false) ≡ b
or_false true = refl
or_false false = refl

module _ (f : Floor) where
  -- A message leads to these.
  pub record LeadsTo (m : Bare) (view : ℕ) (opened : Bool) (last point : ℕ) : Type 0 where
    pub view_is : (floor_after f (m ∷ [])).view ≡ view
    pub open_is : phase_is_open (floor_after f (m ∷ [])).phase ≡ opened
    pub last_is : (floor_after f (m ∷ [])).last ≡ last
    pub point_is : (floor_after f (m ∷ [])).point ≡ point

  pub prepare_leads : (p : ℕ) (x : Bytes) → LeadsTo (bare.Prepare f.view p x) f.view (phase_is_open f.phase) p f.point
  unfolding current_view is_opened last_position last_checkpoint
  prepare_leads p x = record {
    view_is = refl;
    open_is = open_from _ _ ∙ rw (eq-eqb f.view f.view refl) refl;
    last_is = rw (eq-eqb f.view f.view refl) refl;
    point_is = refl;
  }

  pub commit_leads : (p n : ℕ) (c x : Bytes) → LeadsTo (bare.Commit f.view p n c x) f.view (phase_is_open f.phase) p f.point
  unfolding current_view is_opened last_position last_checkpoint
  commit_leads p n c x = record {
    view_is = refl;
    open_is = open_from _ _ ∙ rw (eq-eqb f.view f.view refl) refl;
    last_is = rw (eq-eqb f.view f.view refl) refl;
    point_is = refl;
  }

  pub checkpoint_leads : (p : ℕ) (t x : Bytes) → LeadsTo (bare.Checkpoint p t x) f.view (phase_is_open f.phase) f.last p
  unfolding current_view is_opened last_position last_checkpoint
  checkpoint_leads p t x = record {
    view_is = refl;
    open_is = open_from _ _ ∙ rw (eq-eqb f.view f.view refl) refl;
    last_is = rw (eq-eqb f.view f.view refl) refl;
    point_is = refl;
  }

  pub new_view_leads : (v b e : ℕ) (x y : Bytes) → LeadsTo (bare.NewView v b e x y) f.view (phase_is_open f.phase) f.last f.point
  unfolding current_view is_opened last_position last_checkpoint
  new_view_leads v b e x y = record {
    view_is = refl;
    open_is = open_from _ _ ∙ rw (eq-eqb f.view f.view refl) refl;
    last_is = rw (eq-eqb f.view f.view refl) refl;
    point_is = refl;
  }

  pub enter_leads : (v c : ℕ) (x : Bytes) → LeadsTo (bare.Enter v c x) f.view (phase_is_open f.phase) f.last f.point
  unfolding current_view is_opened last_position last_checkpoint
  enter_leads v c x = record {
    view_is = refl;
    open_is = open_from _ _ ∙ rw (eq-eqb f.view f.view refl) refl;
    last_is = rw (eq-eqb f.view f.view refl) refl;
    point_is = refl;
  }

  -- a VIEW_CHANGE to a greater view: that view is not open
  pub change_leads : (v : ℕ) (x : Bytes) → f.view < v → LeadsTo (bare.ViewChange v x) v false 0 f.point
  unfolding current_view is_opened last_position last_checkpoint
  change_leads v x more =
      let other : eqb f.view v ≡ false = ne_eqb f.view v (λ e. omega (arith, more, e)) in
      record {
        view_is = refl;
        open_is = open_from _ _ ∙ rw other refl;
        last_is = rw other refl;
        point_is = refl;
      }

  -- an OPEN or a JOIN of the view opens it
  pub open_leads : (e : Evidence) (x : Bytes) → e.view ≡ f.view → LeadsTo (bare.Open e x) f.view true e.end f.point
  unfolding current_view is_opened last_position last_checkpoint
  open_leads e x here = record {
    view_is = refl;
    open_is = open_from _ _ ∙ rw (eq-eqb e.view f.view here) refl;
    last_is = rw (eq-eqb e.view f.view here) refl;
    point_is = refl;
  }

  pub join_leads : (e : Option Evidence) (c : StableCert) → LeadsTo (bare.Join f.view e c) f.view true c.pos f.point
  unfolding current_view is_opened last_position last_checkpoint
  join_leads e c = record {
    view_is = refl;
    open_is = open_from _ _ ∙ rw (eq-eqb f.view f.view refl) refl;
    last_is = rw (eq-eqb f.view f.view refl) refl;
    point_is = refl;
  }
