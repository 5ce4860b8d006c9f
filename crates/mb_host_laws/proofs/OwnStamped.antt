-- What is known of each entry that a host stamped, from what is known of those before it, by the rule that made it.
use Rattle.std.proofs.Common.{◌≡◌, ℕ, ◌+◌, ◌^◌, ◌<◌, true, ◌∷◌, sym, ap, subst, ◌∙◌, arith}
use Rattle.sha2.proofs.Facts256.{length-sha256}
use Rattle.mb_base.specs.Shapes.{Bytes, host_count}
use Rattle.mb_base.specs.declared.names.Ui.{Ui}
use Rattle.mb_usig.proofs.Laws.{length-certificate}
use Rattle.mb_parts.specs.Bares.{Bare, bare_bytes}
use Rattle.mb_parts.specs.Claims.{Claim, inner_claims}
use Rattle.mb_parts.specs.Fits.{IsPosition, FitsBare, FitsUi}
use Rattle.mb_msg.specs.declared.message.Body.{Body}
use Rattle.mb_msg.specs.declared.message.Body.TheVariants.{Whole}
use Rattle.mb_msg.specs.declared.normal.Checkpoint.{Checkpoint}
use Rattle.mb_msg.specs.declared.normal.Floors.{Floors}
use Rattle.mb_msg.specs.declared.stamped.Stamped.{Stamped as StampedMessage}
use Rattle.mb_msg.specs.declared.stamped.Stamped.TheVariants as stamped
use Rattle.mb_msg.specs.Spelling.{floors_body_bytes}
use Rattle.mb_msg.specs.Stamps.{bare_of, ui_of, with_ui}
use Rattle.mb_model.specs.GateChecks.{stamp_claim}
use Rattle.mb_model.specs.Histories.{Executed, Stamped, History, Identity, counter_of}
use Rattle.mb_model.specs.Making.{prepare, commit, view_change, new_view, enter, opening, join, checkpoint, floors_under, present_parts}
use Rattle.mb_model.specs.Sending.{signed, next_ui}
use Rattle.mb_model.specs.States.{state_digest}
use Rattle.mb_steps.specs.Arises.{Arises, Makes, JustExecuted}
use Rattle.mb_steps.proofs.StepRounds.{ui_under, bare_under}
use Rattle.mb_host_laws.specs.Rests.{Each}
use Rattle.mb_host_laws.proofs.OwnKnown.{AllGood, GoodBody, KnownStamp, Known}
use Rattle.mb_host_laws.proofs.OwnGates.{own_ui, floors_fit}
use Rattle.mb_host_laws.proofs.OwnMade.{Made, made_change, made_announce, made_enter, made_open, made_join, made_commit, made_prepare}

module _ {S : Type 0} (self : Identity S) (Good : Claim → Type 0) (Text : Bytes → Type 0) where
  abbrev AllKnown : History → Type 0
  AllKnown d = Each (Known self Good Text) d

  abbrev IsMade : StampedMessage → Type 0
  IsMade x = Made self Good Text x

  executed_place : (d : History) (p : ℕ) → AllKnown d → JustExecuted self d p → IsPosition p
  executed_place (Executed slot ∷ d) p k j = subst IsPosition j k.0
  executed_place d p k j = absurd j

  made_checkpoint : (d : History) → Arises self d → AllKnown d → (p : ℕ) → JustExecuted self d p → Text (floors_body_bytes (record { floors = floors_under self d p })) → IsMade (checkpoint self d p)
  made_checkpoint d a k p j text = record {
    bare = (executed_place d p k j, (length-sha256 _, length-sha256 _));
    inner = tt;
    body = (floors_fit self Good Text d a k p, λ b is. subst (λ (f : Floors). Text (floors_body_bytes f)) (whole_floors (record { floors = floors_under self d p }) b is) text);
  } where
    whole_floors : (x y : Floors) → Whole x ≡ Whole y → x ≡ y
    whole_floors x y e = cc

  -- the floors of a CHECKPOINT
  abbrev pub HasText : StampedMessage → Type 0
  HasText (stamped.Checkpoint m) = (b : Floors) → m.body ≡ Whole b → Text (floors_body_bytes b)
  HasText _ = Unit {0}

  record FromRule (d : History) (m : StampedMessage) : Type 0 where
    made : StampedMessage
    is : signed self d made ≡ m
    good : IsMade made

  by_rule : (d : History) (m : StampedMessage) → Makes self d m → Arises self d → AllKnown d → HasText m → FromRule d m
  by_rule d (stamped.ViewChange m) (view, e, is) a k t = record { made = view_change self d view; is = is; good = made_change self Good Text d a k view e }
  by_rule d (stamped.NewView m) (changes, e, is) a k t = record { made = new_view self d changes; is = is; good = made_announce self Good Text d a k changes e }
  by_rule d (stamped.Enter m) (n, e, is) a k t = record { made = enter n; is = is; good = made_enter self Good Text d k n e }
  by_rule d (stamped.Open m) (e, plan, o, is) a k t = record { made = opening e plan; is = is; good = made_open self Good Text d a k e plan o }
  by_rule d (stamped.Join m) (e, is) a k t = record { made = join self d; is = is; good = made_join self Good Text d a k e }
  by_rule d (stamped.Commit m) (p, s, r, e, is) a k t = record { made = commit self d p s r; is = is; good = made_commit self Good Text d a k p s r e }
  by_rule d (stamped.Prepare m) (p, r, e, is) a k t = record { made = prepare self d p r; is = is; good = made_prepare self Good Text d a k p r e }
  by_rule d (stamped.Checkpoint m) (p, j, whole, is) a k t =
      let body : Body Floors = Whole (record { floors = floors_under self d p }) in
      let made : Checkpoint = record { pos = p; state = state_digest (present_parts self d) p; body = body; ui = next_ui self d (bare_of (checkpoint self d p)) } in
      let same : made ≡ m = cc is in
      record { made = checkpoint self d p; is = is; good = made_checkpoint d a k p j (t (record { floors = floors_under self d p }) (ap (λ (y : Checkpoint). y.body) (sym same))) }

  body_under : (u : Ui) (x : StampedMessage) → GoodBody self Good Text x → GoodBody self Good Text (with_ui u x)
  body_under u (stamped.Prepare m) g = g
  body_under u (stamped.Commit m) g = g
  body_under u (stamped.Checkpoint m) g = g
  body_under u (stamped.ViewChange m) g = g
  body_under u (stamped.NewView m) g = g
  body_under u (stamped.Enter m) g = g
  body_under u (stamped.Open m) g = g
  body_under u (stamped.Join m) g = g

  -- a stamp of this host
  pub stamp_known : (d : History) (m : StampedMessage) → Arises self (Stamped m ∷ d) → AllKnown d → self.host < host_count self.shape → counter_of d + 1 < 2 ^ 64
      → HasText m → (FitsBare self.shape (bare_of m) → Good (stamp_claim m)) → KnownStamp self Good Text m
  stamp_known d m a k there low text good =
      let r = by_rule d m a.0 a.1 k text in
      let x : StampedMessage = r.made in
      let u : Ui = next_ui self d (bare_of x) in
      let own = own_ui self Good Text d m a.0 in
      let bare : FitsBare self.shape (bare_of m) = subst (λ (y : StampedMessage). FitsBare self.shape (bare_of y)) r.is (subst (FitsBare self.shape) (sym (bare_under u x)) r.good.bare) in
      let ui : ui_of m ≡ u = ap ui_of (sym r.is) ∙ ui_under u x in
      record {
        mine = own.host;
        ui = subst (FitsUi self.shape) (sym ui) (record { host = there; counter = (omega arith, low); cert = length-certificate self.secret self.host (counter_of d + 1) (bare_bytes (bare_of x)) });
        bare = bare;
        claim = good bare;
        inner = subst (λ (y : StampedMessage). AllGood self Good Text (inner_claims self.shape (bare_of y))) r.is (subst (λ (b : Bare). AllGood self Good Text (inner_claims self.shape b)) (sym (bare_under u x)) r.good.inner);
        body = subst (GoodBody self Good Text) r.is (body_under u x r.good.body);
      }
