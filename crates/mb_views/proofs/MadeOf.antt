-- Evidence of a good plan is made of f+1 usable logs, in the sense of the record.
use Rattle.std.proofs.Common.{◌≡◌, ℕ, suc, ◌<◌, ◌&&◌, List, [], ◌∷◌, length, refl, sym, ap, subst, ◌∙◌, Some}
use Rattle.std.specs.Prelude.{map, ◌==◌}
use Rattle.std.specs.List.{AllByRecursion}
use Rattle.std.proofs.lemmas.Bool.{and_parts, eqb-true}
use Rattle.mb_base.specs.Shapes.{host_count}
use Rattle.mb_usig.specs.Tags.{same_bytes}
use Rattle.mb_usig.proofs.Laws.{same_bytes-true}
use Rattle.mb_parts.specs.declared.certificates.Evidence.{Evidence}
use Rattle.mb_parts.specs.Claims.{are_rising}
use Rattle.mb_msg.specs.declared.change.ChangeBody.{ChangeBody}
use Rattle.mb_msg.specs.declared.change.ViewChange.{ViewChange}
use Rattle.mb_msg.specs.declared.change.Plan.{Plan}
use Rattle.mb_msg.specs.Plans.{plan_end, plan_digest}
use Rattle.mb_agreement.specs.Agreement.{IsMadeOf, IsUsableLog}
use Rattle.mb_model.specs.Held.{shown_log, logs_of}
use Rattle.mb_model.specs.Plans.{ShownLog, plan_of}
use Rattle.mb_world_model.specs.WorldEvents.{IsCorrect}
use Rattle.mb_world_model.specs.World.{World, System}
use Rattle.mb_world_model.specs.WorldRecord.{issued, prefix, plans}
use Rattle.mb_host_laws.specs.Rests.{Each}
use Rattle.mb_world_laws.proofs.Facts.{Facts}
use Rattle.mb_views.proofs.Follows.{JumpsLed}
use Rattle.mb_views.proofs.KnownPlans.{stable_base}
use Rattle.mb_views.proofs.Planned.{plans_known}
use Rattle.mb_host_laws.proofs.PlanFits.{FitsBases, plan_fits}
use Rattle.mb_views.proofs.UsableChanges.{usable_log}
use Rattle.mb_views.proofs.GoodPlans.{IsGoodMember, IsGoodPlan}

module _ {S : Type 0} (system : System S) (w : World) (f : Facts system w) (jumps : (h : ℕ) → IsCorrect system.schedule h → Each (JumpsLed system w f) (w.histories h)) where
  abbrev pub IsUsable : ℕ → ShownLog → Type 0
  IsUsable view log = (log.host < host_count system.schedule.shape) × IsUsableLog system.schedule.shape system.schedule.secret (plans system.schedule w) (issued system.schedule w) (prefix system.schedule w) view log

  pub record AreLogs (view : ℕ) (changes : List ViewChange) : Type 0 where
    pub many : length (logs_of changes) ≡ length changes
    pub hosts : map (λ (l : ShownLog). l.host) (logs_of changes) ≡ map (λ (m : ViewChange). m.ui.host) changes
    pub usable : AllByRecursion (IsUsable view) (logs_of changes)
    pub fits : AllByRecursion (λ (l : ShownLog). FitsBases system.schedule.shape l.body) (logs_of changes)

  pub are_logs : (view : ℕ) (changes : List ViewChange) → AllByRecursion (IsGoodMember system w view) changes → AreLogs view changes
  are_logs view [] a = record { many = refl; hosts = refl; usable = tt; fits = tt }
  are_logs view (m ∷ changes) a =
      let g = a.0 in
      let b : ChangeBody = g.shows in
      let log : ShownLog = record { host = m.ui.host; body = b } in
      let rest = are_logs view changes a.1 in
      let shown : shown_log m ≡ Some log = rw g.good.body refl in
      let all : logs_of (m ∷ changes) ≡ log ∷ logs_of changes = rw shown refl in
      record {
        many = ap length all ∙ ap suc rest.many;
        hosts = ap (map (λ (l : ShownLog). l.host)) all ∙ ap (λ (l : List ℕ). m.ui.host ∷ l) rest.hosts;
        usable = subst (AllByRecursion (IsUsable view)) (sym all) ((g.good.host, subst (λ (v : ℕ). IsUsableLog system.schedule.shape system.schedule.secret (plans system.schedule w) (issued system.schedule w) (prefix system.schedule w) v log) g.to (usable_log system w f jumps m b g.good)), rest.usable);
        fits = subst (AllByRecursion (λ (l : ShownLog). FitsBases system.schedule.shape l.body)) (sym all) (g.good.known.fits, rest.fits);
      }

  pub made_of : (e : Evidence) (changes : List ViewChange) → IsGoodPlan system w e.view e.base e.end e.plan changes
      → IsMadeOf system.schedule.shape system.schedule.secret (plans system.schedule w) (issued system.schedule w) (prefix system.schedule w) e (logs_of changes)
  made_of e changes g =
      let logs = are_logs e.view changes g.members in
      let p : Plan = plan_of system.schedule.shape (logs_of changes) in
      let a = and_parts (e.base == p.base.pos) (e.end == plan_end p && same_bytes e.plan (plan_digest p)) g.described in
      let b = and_parts (e.end == plan_end p) (same_bytes e.plan (plan_digest p)) a.1 in
      record {
        many = logs.many ∙ g.many;
        rising = ap are_rising logs.hosts ∙ g.rising;
        usable = logs.usable;
        base = eqb-true e.base p.base.pos a.0;
        end = eqb-true e.end (plan_end p) b.0;
        plan = plans_known w.hashed p e.plan f.apart g.hashed (stable_base system.schedule.shape p.base (plan_fits system.schedule.shape (logs_of changes) logs.fits)) (sym (same_bytes-true e.plan (plan_digest p) b.1));
      }
