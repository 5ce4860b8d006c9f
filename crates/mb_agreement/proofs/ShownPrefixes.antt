-- A usable log is a prefix of what its host stamped.
--
-- The floor of the log hides a beginning of the host's ordered list (`FloorStands`). From there each entry in turn goes on in that list (`descends`,
-- by `extends`), and so does the VIEW_CHANGE that shows them (`shown_prefix`).
use Rattle.std.proofs.Common.{◌≡◌, ℕ, suc, ◌+◌, ◌-◌, ◌≤◌, ◌<◌, Bool, true, List, [], ◌∷◌, ◌++◌, length, take, refl, sym, ap, subst, ◌∙◌, inr, arith, Option, Some, None, length-append, zero-add}
use Rattle.std.proofs.lemmas.Bool.{or_parts, eqb-true, ltb-false, leb-false, lt-ltb, not-false}
use Rattle.std.proofs.lemmas.List.{take-append-drop, append-nil}
use Rattle.std.proofs.lemmas.Option.{none-some, same_Some}
use Rattle.mb_base.specs.declared.shape.Shape.{Shape}
use Rattle.mb_base.specs.Shapes.{Bytes}
use Rattle.mb_parts.specs.declared.floor.Floor.{Floor}
use Rattle.mb_parts.specs.declared.certificates.FloorCert.{FloorCert}
use Rattle.mb_parts.specs.Bares.{Bare}
use Rattle.mb_parts.specs.Bares as bare
use Rattle.mb_parts.specs.Ordered.{initial_floor, permits, is_ordered, floor_after, current_view}
use Rattle.mb_parts.specs.Claims.{Claim}
use Rattle.mb_parts.specs.Certificates.{inner_valid, agree_on_floor, certified_floor, first_floor}
use Rattle.mb_parts.specs.Counters.{at_counter, first, IsBeginning}
use Rattle.mb_parts.proofs.Counters.{at_here, at_more, at_bound}
use Rattle.mb_parts.proofs.OrderedLaws.{rising}
use Rattle.mb_parts.proofs.Joined.{parts, same_permits, floor_after_nil}
use Rattle.mb_parts.proofs.OrderedParts.{ordered_before}
use Rattle.mb_msg.specs.declared.change.ChangeBody.{ChangeBody}
use Rattle.mb_msg.specs.declared.stamped.Shown.{Shown}
use Rattle.mb_msg.specs.Stamps.{bare_of_shown, ui_of_shown}
use Rattle.mb_model.specs.UsableLogs.{bares, newest_first, entries_fault, log_fault, floor_of, floor_position}
use Rattle.mb_model.specs.Plans.{ShownLog, newest, view_at_floor, view_if_open}
use Rattle.mb_model.specs.Committed.{Plans}
use Rattle.mb_agreement.specs.Agreement.{IsConsistentRecord, IsUsableLog, IsSoundFloor}
use Rattle.mb_model.proofs.Options.{or_none, then_none, if_some}
use Rattle.mb_model.proofs.UsableLaws.{AreSound, HaveBodies, all_sound, all_bodies}

pub length_bares : (l : List Shown) → length (bares l) ≡ length l
length_bares [] = refl
length_bares (e ∷ l) = ap suc (length_bares l)

-- A list that begins with these and goes on with that message begins with these and that message.
grow : {A : Type 0} (later l : List A) (m : A) → ((x : A) → at_counter (later ++ l) (length l + 1) ≡ Some x → x ≡ m) → (later ≡ [] → ⊥) → IsBeginning (m ∷ l) (later ++ l)
grow [] l m at some = absurd (some refl)
grow (x ∷ []) l m at some =
    let here : x ≡ m = at x (at_here [] x l) in
    record { later = []; is = ap (λ y. y ∷ l) (sym here) }
grow (x ∷ y ∷ later) l m at some =
    let rest = grow (y ∷ later) l m (λ z e. at z (at_more (x ∷ []) ((y ∷ later) ++ l) (length l + 1) z e)) (λ e. cc) in
    record { later = x ∷ rest.later; is = ap (λ w. x ∷ w) rest.is }

length_newest : (l es : List Shown) → length (newest_first l es) ≡ length l + length es
length_newest l [] = omega arith
length_newest l (e ∷ es) = omega (arith, length_newest (e ∷ l) es)

module _ (s : Shape) (secret : Bytes) (plans : Plans) (issued : Claim → Bool) (prefix : ℕ → List Bare) (facts : IsConsistentRecord s secret plans issued prefix) where
  pub ordered_once : (h : ℕ) (l : List Bare) → IsBeginning l (prefix h) → is_ordered initial_floor s h (inner_valid s issued) l ≡ true
  ordered_once h l once =
      ordered_before initial_floor s h (inner_valid s issued) once.later l (subst (λ (x : List Bare). is_ordered initial_floor s h (inner_valid s issued) x ≡ true) (sym once.is) (facts.ordered h))

  -- an issued message that may come next has come
  pub extends : (l : List Bare) (c : Claim) → IsBeginning l (prefix c.host) → issued c ≡ true → c.counter ≡ length l + 1
      → permits initial_floor s c.host (inner_valid s issued) l c.says ≡ true → IsBeginning (c.says ∷ l) (prefix c.host)
  extends l c once is_issued count allowed =
      subst (λ (w : List Bare). IsBeginning (c.says ∷ l) w) once.is (grow once.later l c.says there none) where
        there : (x : Bare) → at_counter (once.later ++ l) (length l + 1) ≡ Some x → x ≡ c.says
        there x e =
            let found : at_counter (prefix c.host) c.counter ≡ Some x = rw (count, ← once.is) e in
            let bound = at_bound (prefix c.host) c.counter x found in
            let says : at_counter (prefix c.host) c.counter ≡ Some c.says = facts.stands c is_issued bound.1 in
            same_Some x c.says (sym found ∙ says)

        none : (once.later ≡ [] → ⊥)
        none e =
            let all : l ≡ prefix c.host = ap (λ y. y ++ l) (sym e) ∙ once.is in
            facts.maximal c is_issued (count ∙ ap (λ (y : List Bare). length y + 1) all)
            (subst (λ (y : List Bare). permits initial_floor s c.host (inner_valid s issued) y c.says ≡ true) all allowed)

  -- the entries of a log, behind the list at whose end its floor stands
  pub descends : (host stable : ℕ) (hidden : List Bare) (l : List Shown) → IsBeginning hidden (prefix host)
      → AreSound s secret issued host stable (floor_after initial_floor hidden) l → IsBeginning (bares l ++ hidden) (prefix host)
  descends host stable hidden [] once sound = once
  descends host stable hidden (e ∷ l) once sound =
      let rest = descends host stable hidden l once sound.1 in
      let ordered = ordered_once host (bares l ++ hidden) rest in
      let c = parts initial_floor s host (inner_valid s issued) hidden (bares l) ordered in
      extends (bares l ++ hidden) (record { host = host; counter = (ui_of_shown e).counter; says = bare_of_shown e; cert = (ui_of_shown e).cert }) rest sound.0.claimed
      (omega (arith, sound.0.counter, length-append (bares l) hidden, length_bares l))
      (sym (same_permits initial_floor s host (inner_valid s issued) hidden (bares l) (bare_of_shown e) ordered c) ∙ sound.0.permitted)

  -- ---- the floor of a log

  -- The floor of a log is where a beginning of its host's prefix leads, and hides nothing above the floor certificate's position.
  pub record FloorStands (host : ℕ) (b : ChangeBody) (o : Floor) : Type 0 where
    pub hidden : List Bare
    pub once : IsBeginning hidden (prefix host)
    pub stands : floor_after initial_floor hidden ≡ o
    pub low : o.top ≤ floor_position b.floor
    pub opened : view_at_floor host b.floor ≡ view_if_open (Some o)

  first_once : {A : Type 0} (n : ℕ) (l : List A) → IsBeginning (first n l) l
  first_once n l = record { later = take (length l - n) l; is = take-append-drop (length l - n) l }

  certified_is : (host : ℕ) (c : FloorCert) (o : Floor) → certified_floor s issued host c ≡ Some o → first_floor host c.members ≡ Some o
  unfolding certified_floor
  certified_is host c o e = (if_some (agree_on_floor s issued host c) (first_floor host c.members) o e).1

  floor_stands : (host : ℕ) (b : ChangeBody) (o : Floor) → ((c : FloorCert) (f : Floor) → b.floor ≡ Some c → certified_floor s issued host c ≡ Some f → IsSoundFloor prefix host c.pos f) → (c : Option FloorCert) → b.floor ≡ c → floor_of s issued host c ≡ Some o → FloorStands host b o
  floor_stands host b o sound None is e =
      let start : initial_floor ≡ o = same_Some initial_floor o e in
      record {
        hidden = [];
        once = record { later = prefix host; is = append-nil (prefix host) };
        stands = floor_after_nil initial_floor ∙ start;
        low = rw (← start, is) (omega arith);
        opened = rw (is, ← start) refl;
      }
  floor_stands host b o sound (Some c) is e =
      let f = sound c o is e in
      record { hidden = first o.counter (prefix host); once = first_once o.counter (prefix host); stands = f.stands; low = rw is f.low; opened = rw is (ap view_if_open (certified_is host c o e)) }

  -- ---- what a usable log is

  -- A log, as a part of its host's prefix: the floor, what it hides, and the entries up to the VIEW_CHANGE.
  pub record IsShownPrefix (view : ℕ) (log : ShownLog) : Type 0 where
    pub o : Floor
    pub floor : FloorStands log.host log.body o
    pub low_floor : floor_position log.body.floor ≤ log.body.stable.pos
    pub sound : AreSound s secret issued log.host log.body.stable.pos o (newest log)
    pub bodies : HaveBodies s secret issued log.host log.body.stable.pos o (newest log)
    pub digest : Bytes
    pub once : IsBeginning (bare.ViewChange view digest ∷ (bares (newest log) ++ floor.hidden)) (prefix log.host)

  -- what no fault of a log says
  record Parts (view counter : ℕ) (log : ShownLog) : Type 0 where
    o : Floor
    floor : floor_of s issued log.host log.body.floor ≡ Some o
    low_floor : floor_position log.body.floor ≤ log.body.stable.pos
    entries : entries_fault s secret issued log.host log.body.stable.pos o [] log.body.entries ≡ None
    count : o.counter + length log.body.entries + 1 ≡ counter
    below : current_view o (bares (newest log)) < view

  from_none : (view counter : ℕ) (log : ShownLog) (f : Option Floor) → floor_of s issued log.host log.body.floor ≡ f → log_fault s secret issued log.host view counter log.body ≡ None → Parts view counter log
  unfolding log_fault
  from_none view counter log None e h = absurd (none-some _ (sym (rw e at h)))
  from_none view counter log (Some o) e h =
      let a = or_none _ _ (rw e at h) in
      let b = or_none _ _ a.1 in
      let c = or_none _ _ b.1 in
      let d = or_none _ _ c.1 in
      record {
        o = o;
        floor = e;
        low_floor = ltb-false _ _ (or_parts _ _ (then_none _ _ a.0)).1;
        entries = c.0;
        count = eqb-true _ _ (not-false _ (then_none _ _ d.0));
        below = leb-false _ _ (then_none _ _ d.1);
      }

  change_allowed : (host : ℕ) (l : List Bare) (v : ℕ) (d : Bytes) → is_ordered initial_floor s host (inner_valid s issued) l ≡ true → current_view initial_floor l < v → permits initial_floor s host (inner_valid s issued) l (bare.ViewChange v d) ≡ true
  unfolding permits
  change_allowed host l v d h lt = rising initial_floor s host (inner_valid s issued) l v h ∙ lt-ltb _ _ lt

  -- a usable log is a part of its host's prefix, up to the VIEW_CHANGE
  pub shown_prefix : (view : ℕ) (log : ShownLog) → IsUsableLog s secret plans issued prefix view log → IsShownPrefix view log
  shown_prefix view log u =
      let p = from_none view u.counter log (floor_of s issued log.host log.body.floor) refl u.usable in
      let f = floor_stands log.host log.body p.o u.floor log.body.floor refl p.floor in
      let sound : AreSound s secret issued log.host log.body.stable.pos p.o (newest log) = all_sound s secret issued log.host log.body.stable.pos p.o [] log.body.entries p.entries tt in
      let at : AreSound s secret issued log.host log.body.stable.pos (floor_after initial_floor f.hidden) (newest log) = rw f.stands sound in
      let once = descends log.host log.body.stable.pos f.hidden (newest log) f.once at in
      let ordered = ordered_once log.host (bares (newest log) ++ f.hidden) once in
      let c = parts initial_floor s log.host (inner_valid s issued) f.hidden (bares (newest log)) ordered in
      let place : p.o.counter ≡ length f.hidden = sym (ap (λ (x : Floor). x.counter) f.stands) ∙ zero-add (length f.hidden) in
      let now : current_view p.o (bares (newest log)) ≡ current_view initial_floor (bares (newest log) ++ f.hidden) =
      ap (λ (x : Floor). current_view x (bares (newest log))) (sym f.stands) ∙ ap (λ (x : Floor). x.view) c.leads in
      record {
        o = p.o;
        floor = f;
        low_floor = p.low_floor;
        sound = sound;
        bodies = all_bodies s secret issued log.host log.body.stable.pos p.o [] log.body.entries p.entries (inr tt);
        digest = u.digest;
        once = extends (bares (newest log) ++ f.hidden) (record { host = log.host; counter = u.counter; says = bare.ViewChange view u.digest; cert = u.cert }) once u.stamped
            (omega (arith, p.count, place, length-append (bares (newest log)) f.hidden, length_bares (newest log), length_newest [] log.body.entries))
            (change_allowed log.host (bares (newest log) ++ f.hidden) view u.digest ordered (omega (arith, p.below, now)));
      }
