-- What holds of the certificates that logs show for bases holds of the base of their plan.
use Rattle.std.proofs.Common.{◌≡◌, List, [], ◌∷◌, refl, subst, lit<, Some}
use Rattle.std.specs.Option.{IfSome}
use Rattle.std.specs.List.{AllByRecursion}
use Rattle.std.proofs.Math.Nat.{zero-mod}
use Rattle.mb_base.specs.Shapes.{interval}
use Rattle.mb_base.specs.declared.shape.Shape.{Shape}
use Rattle.mb_parts.specs.declared.batch.Batch.{Batch}
use Rattle.mb_parts.specs.declared.certificates.StableCert.{StableCert}
use Rattle.mb_parts.specs.Fits.{FitsStable, FitsFloorCert}
use Rattle.mb_msg.specs.declared.message.Body.{Body}
use Rattle.mb_msg.specs.declared.message.Body.TheVariants.{Whole, Bare as Short}
use Rattle.mb_msg.specs.declared.change.OpenBody.{OpenBody}
use Rattle.mb_msg.specs.declared.change.ChangeBody.{ChangeBody}
use Rattle.mb_msg.specs.declared.stamped.Shown.{Shown}
use Rattle.mb_msg.specs.declared.stamped.Shown.TheVariants as shown
use Rattle.mb_msg.specs.Bodies.{FitsBody}
use Rattle.mb_msg.specs.Fits.{FitsShown, FitsOpenBody, FitsChangeBody}
use Rattle.mb_model.specs.Plans.{ShownLog, newest, body_base, base_shown, no_base, plan_of}
use Rattle.mb_host_laws.proofs.Cases.{some_is, all_more}
use Rattle.mb_host_laws.proofs.Found.{all_newest}
use Rattle.mb_host_laws.proofs.PlanShows.{ShowsSound, plan_holds}

-- ---- the certificates for bases that an entry shows

abbrev pub OfBody : (StableCert → Type 0) → Body OpenBody → Type 0
OfBody P (Whole b) = P b.stable
OfBody P (Short digest) = Unit {0}

abbrev pub OfEntry : (StableCert → Type 0) → Shown → Type 0
OfEntry P (shown.Open m) = OfBody P m.body
OfEntry P (shown.Join m) = P m.stable
OfEntry P _ = Unit {0}

-- The certificates that a VIEW_CHANGE shows for floor and bases fit.
pub record FitsBases (s : Shape) (b : ChangeBody) : Type 0 where
  pub floor : IfSome b.floor (FitsFloorCert s)
  pub stable : FitsStable s b.stable
  pub entries : AllByRecursion (OfEntry (FitsStable s)) b.entries

body_bases : (s : Shape) (b : Body OpenBody) (e : _) → FitsBody (FitsOpenBody s e) b → OfBody (FitsStable s) b
body_bases s (Whole b) e f = f.0.0
body_bases s (Short d) e f = tt

entry_bases : (s : Shape) (e : Shown) → FitsShown s e → OfEntry (FitsStable s) e
entry_bases s (shown.Open m) f = body_bases s m.body m.evidence f.body
entry_bases s (shown.Join m) f = f.stable
entry_bases s (shown.Prepare m) f = tt
entry_bases s (shown.Commit m) f = tt
entry_bases s (shown.Checkpoint m) f = tt
entry_bases s (shown.ViewChange m) f = tt
entry_bases s (shown.NewView m) f = tt
entry_bases s (shown.Enter m) f = tt

entries_bases : (s : Shape) (l : List Shown) → AllByRecursion (FitsShown s) l → AllByRecursion (OfEntry (FitsStable s)) l
entries_bases s [] a = tt
entries_bases s (e ∷ l) a = (entry_bases s e a.0, entries_bases s l a.1)

pub change_bases : (s : Shape) (b : ChangeBody) → FitsChangeBody s b → FitsBases s b
change_bases s b f = record { floor = f.floor; stable = f.stable; entries = entries_bases s b.entries f.entries }

module _ (s : Shape) (P : StableCert → Type 0) (none : P no_base) where
  base_has : (b : Body OpenBody) → OfBody P b → (c : StableCert) → body_base b ≡ Some c → P c
  base_has (Whole b) f c is = subst P (some_is b.stable c is) f
  base_has (Short d) f c is = absurd cc

  shown_has : (l : List Shown) → AllByRecursion (OfEntry P) l → (c : StableCert) → base_shown l ≡ Some c → P c
  shown_has [] a c e = absurd cc
  shown_has (shown.Open m ∷ l) a c e = base_has m.body a.0 c e
  shown_has (shown.Join m ∷ l) a c e = subst P (some_is m.stable c e) a.0
  shown_has (_ ∷ l) a c e = shown_has l a.1 c e

  -- So it is with all that a log shows for bases.
  pub record HasBases (log : ShownLog) : Type 0 where
    pub stable : P log.body.stable
    pub base : (c : StableCert) → base_shown (newest log) ≡ Some c → P c

  pub log_has : (log : ShownLog) → P log.body.stable → AllByRecursion (OfEntry P) log.body.entries → HasBases log
  log_has log p a = record { stable = p; base = shown_has (newest log) (all_newest (OfEntry P) [] log.body.entries tt a) }

  -- the base of the plan of such logs
  pub plan_has : (logs : List ShownLog) → AllByRecursion HasBases logs → P (plan_of s logs).base
  plan_has logs a = (plan_holds P (λ (b : Batch). Unit {0}) s none logs
      (all_more HasBases (ShowsSound P (λ (b : Batch). Unit {0})) (λ log h. record { stable = h.stable; base = h.base; batches = λ p z e. tt }) logs a)).0

pub none_fits : (s : Shape) → FitsStable s no_base
none_fits s = record { pos = (lit< tt, zero-mod (interval s)); held = (refl, refl) }

logs_fit : (s : Shape) (logs : List ShownLog) → AllByRecursion (λ (log : ShownLog). FitsBases s log.body) logs → AllByRecursion (HasBases s (FitsStable s) (none_fits s)) logs
logs_fit s [] a = tt
logs_fit s (log ∷ logs) a = (log_has s (FitsStable s) (none_fits s) log a.0.stable a.0.entries, logs_fit s logs a.1)

pub plan_fits : (s : Shape) (logs : List ShownLog) → AllByRecursion (λ (log : ShownLog). FitsBases s log.body) logs → FitsStable s (plan_of s logs).base
plan_fits s logs a = plan_has s (FitsStable s) (none_fits s) logs (logs_fit s logs a)
