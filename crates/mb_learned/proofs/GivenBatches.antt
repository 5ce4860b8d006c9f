-- What stands whole in what a correct host was given: its values, the strings of its batches, which are hashed, and the plans that it shows.
use Rattle.std.proofs.Common.{◌≡◌, ℕ, zero, suc, true, List, [], ◌∷◌, ◌++◌, length, map, find, Option, Some, None, refl, sym, ap, subst, ◌∙◌, inl, inr, arith}
use Rattle.std.specs.Prelude.{◌==◌}
use Rattle.std.specs.List.{flat_map}
use Rattle.std.proofs.lemmas.Bool.{and_parts, eqb-true}
use Rattle.sha2.specs.Sha256.{sha256}
use Rattle.mb_base.specs.Shapes.{Bytes}
use Rattle.mb_base.specs.declared.shape.Shape.{Shape}
use Rattle.mb_usig.specs.Tags.{same_bytes}
use Rattle.mb_usig.proofs.Laws.{same_bytes-true}
use Rattle.mb_parts.specs.declared.batch.Batch.{Batch}
use Rattle.mb_parts.specs.declared.certificates.StableMember.{StableMember}
use Rattle.mb_parts.specs.Bares.{bare_bytes, batch_digest}
use Rattle.mb_parts.specs.Fits.{IsDigest, FitsHeld, FitsStable, FitsBatch}
use Rattle.mb_parts.specs.Certificates.{is_stable}
use Rattle.mb_parts.specs.Spelling.{request_bytes, batch_bytes}
use Rattle.mb_msg.specs.declared.change.ChangeBody.{ChangeBody}
use Rattle.mb_msg.specs.declared.change.NewViewBody.{NewViewBody}
use Rattle.mb_msg.specs.declared.change.Open.{Open}
use Rattle.mb_msg.specs.declared.change.OpenBody.{OpenBody}
use Rattle.mb_msg.specs.declared.change.Plan.{Plan}
use Rattle.mb_msg.specs.declared.message.Body.{Body}
use Rattle.mb_msg.specs.declared.message.Body.TheVariants.{Whole, Bare as Short}
use Rattle.mb_msg.specs.declared.message.Message.{Message}
use Rattle.mb_msg.specs.declared.message.Message.TheVariants as message
use Rattle.mb_msg.specs.declared.stamped.Shown.{Shown}
use Rattle.mb_msg.specs.declared.stamped.Shown.TheVariants as shown
use Rattle.mb_msg.specs.declared.stamped.Stamped.{Stamped}
use Rattle.mb_msg.specs.declared.stamped.Stamped.TheVariants as stamped
use Rattle.mb_msg.specs.Bodies.{FitsBody, inside_whole}
use Rattle.mb_msg.specs.Fits.{FitsFields, FitsStamped, FitsShown, FitsChangeBody, FitsMember, FitsNewViewBody, FitsOpenBody}
use Rattle.mb_msg.specs.Spelling.{change_body_bytes, new_view_body_bytes, open_body_bytes}
use Rattle.mb_msg.specs.Plans.{plan_string, plan_text, plan_digest}
use Rattle.mb_model.specs.Committed.{PlanText}
use Rattle.mb_model.specs.Compared.{inside_some}
use Rattle.mb_model.specs.UsableLogs.{is_comparable_body, is_plan_body}
use Rattle.mb_model.specs.Verified.{verifies}
use Rattle.mb_model.specs.Members.{In}
use Rattle.mb_model.proofs.Members.{in_contained, contained, in_left, in_right, in_map, all_in}
use Rattle.mb_world_model.specs.Hashed.{HashesApart}
use Rattle.mb_model.specs.Inside.{body_in, open_bodies, floor_bodies, shown_bodies, bodies_in_change, change_bodies, stamped_bodies, bodies_in, strings_in, requests_in, claims_in}
use Rattle.mb_world_model.specs.World.{World, System, read}
use Rattle.mb_world_model.specs.WorldRecord.{plans_of}
use Rattle.mb_world_laws.proofs.Facts.{Facts}
use Rattle.mb_world_laws.proofs.Grown.{IsGivenTo}
use Rattle.mb_views.proofs.Planned.{FitsBase, plans_known}
use Rattle.mb_audited.specs.Blame.{given_to}
use Rattle.mb_audited.proofs.Blame.{in_turned, from_flat}
use Rattle.mb_learn.specs.Held.{is_stamped, is_body_of_plan, shows_plan, plan_text as text_shown, plan_of_first, known_plans, HasBatch, ShowsBatch, IsHeld}
use Rattle.mb_learn.specs.Shown.{log_shown, shown_by, shown_in, shown_of, shown_among}
use Rattle.mb_learn.proofs.Finds.{found_there}
use Rattle.mb_learned.specs.Learned.{string_of, plan_strings, plans_shown, strings, WereGiven}

in_flat : {A B : Type 0} (f : A → List B) (l : List A) (x : A) (y : B) → In l x → In (f x) y → In (flat_map f l) y
in_flat f [] x y i j = absurd i
in_flat f (z ∷ l) x y (inl is) j = in_left (f z) (flat_map f l) y (subst (λ a. In (f a) y) (sym is) j)
in_flat f (z ∷ l) x y (inr i) j = in_right (f z) (flat_map f l) y (in_flat f l x y i j)

-- ---- values

module _ (s : Shape) where
  log_fits : (b : Body ChangeBody) → FitsBody (FitsChangeBody s) b → (e : Shown) → In (inside_whole (λ (x : ChangeBody). x.entries) b) e → FitsShown s e
  log_fits (Whole b) f e i = all_in (FitsShown s) b.entries e f.entries i
  log_fits (Short d) f e i = absurd i

  members_fit : (b : Body NewViewBody) → FitsBody (FitsNewViewBody s) b → (e : Shown) → In (inside_whole (λ (x : NewViewBody). flat_map log_shown x.changes) b) e → FitsShown s e
  members_fit (Whole b) f e i =
      let r = from_flat log_shown b.changes e i in
      let fits = all_in (FitsMember s) b.changes r.0 f.1.1 r.1 in
      log_fits r.0.body fits.0.body e r.2
  members_fit (Short d) f e i = absurd i

  by_fits : (m : Stamped) → FitsStamped s m → (e : Shown) → In (shown_by m) e → FitsShown s e
  by_fits (stamped.Prepare m) f e (inl is) = subst (FitsShown s) is f
  by_fits (stamped.Prepare m) f e (inr none) = absurd none
  by_fits (stamped.Commit m) f e (inl is) = subst (FitsShown s) is f
  by_fits (stamped.Commit m) f e (inr none) = absurd none
  by_fits (stamped.Open m) f e (inl is) = subst (FitsShown s) is f
  by_fits (stamped.Open m) f e (inr none) = absurd none
  by_fits (stamped.ViewChange m) f e i = log_fits m.body f.body e i
  by_fits (stamped.NewView m) f e i = members_fit m.body f.body e i
  by_fits (stamped.Checkpoint m) f e i = absurd i
  by_fits (stamped.Enter m) f e i = absurd i
  by_fits (stamped.Join m) f e i = absurd i

  shown_fits : (m : Message) → FitsFields s m → (e : Shown) → In (shown_in m) e → FitsShown s e
  shown_fits (message.Log m) f e i = let r = from_flat shown_by m.entries e i in by_fits r.0 (all_in (FitsStamped s) m.entries r.0 f.entries r.1) e r.2
  shown_fits (message.Prepare m) f e i = by_fits (stamped.Prepare m) f e i
  shown_fits (message.Commit m) f e i = by_fits (stamped.Commit m) f e i
  shown_fits (message.Checkpoint m) f e i = absurd i
  shown_fits (message.ViewChange m) f e i = by_fits (stamped.ViewChange m) f e i
  shown_fits (message.NewView m) f e i = by_fits (stamped.NewView m) f e i
  shown_fits (message.Enter m) f e i = absurd i
  shown_fits (message.Open m) f e i = by_fits (stamped.Open m) f e i
  shown_fits (message.Join m) f e i = absurd i
  shown_fits (message.Request m) f e i = absurd i
  shown_fits (message.Reply m) f e i = absurd i
  shown_fits (message.ReqViewChange m) f e i = absurd i
  shown_fits (message.Resend m) f e i = absurd i
  shown_fits (message.Fetch m) f e i = absurd i
  shown_fits (message.State m) f e i = absurd i
  shown_fits (message.Stop m) f e i = absurd i

-- ---- bodies

log_bodies : (b : Body ChangeBody) (e : Shown) (x : Bytes) → In (inside_whole (λ (c : ChangeBody). c.entries) b) e → In (shown_bodies e) x → In (body_in change_body_bytes b ++ inside_whole bodies_in_change b) x
log_bodies (Whole b) e x i j =
    in_right (change_body_bytes b ∷ []) (bodies_in_change b) x (in_right (inside_some floor_bodies b.floor) (flat_map shown_bodies b.entries) x (in_flat shown_bodies b.entries e x i j))
log_bodies (Short d) e x i j = absurd i

member_bodies : (b : Body NewViewBody) (e : Shown) (x : Bytes) → In (inside_whole (λ (c : NewViewBody). flat_map log_shown c.changes) b) e → In (shown_bodies e) x
    → In (body_in new_view_body_bytes b ++ inside_whole (λ (c : NewViewBody). flat_map change_bodies c.changes) b) x
member_bodies (Whole b) e x i j =
    let r = from_flat log_shown b.changes e i in
    in_right (new_view_body_bytes b ∷ []) (flat_map change_bodies b.changes) x (in_flat change_bodies b.changes r.0 x r.1 (log_bodies r.0.body e x r.2 j))
member_bodies (Short d) e x i j = absurd i

by_bodies : (m : Stamped) (e : Shown) (x : Bytes) → In (shown_by m) e → In (shown_bodies e) x → In (stamped_bodies m) x
by_bodies (stamped.Prepare m) e x (inl is) j = subst (λ (y : Shown). In (shown_bodies y) x) (sym is) j
by_bodies (stamped.Prepare m) e x (inr none) j = absurd none
by_bodies (stamped.Commit m) e x (inl is) j = subst (λ (y : Shown). In (shown_bodies y) x) (sym is) j
by_bodies (stamped.Commit m) e x (inr none) j = absurd none
by_bodies (stamped.Open m) e x (inl is) j = subst (λ (y : Shown). In (shown_bodies y) x) (sym is) j
by_bodies (stamped.Open m) e x (inr none) j = absurd none
by_bodies (stamped.ViewChange m) e x i j = log_bodies m.body e x i j
by_bodies (stamped.NewView m) e x i j = member_bodies m.body e x i j
by_bodies (stamped.Checkpoint m) e x i j = absurd i
by_bodies (stamped.Enter m) e x i j = absurd i
by_bodies (stamped.Join m) e x i j = absurd i

in_bodies : (m : Message) (e : Shown) (x : Bytes) → In (shown_in m) e → In (shown_bodies e) x → In (bodies_in m) x
unfolding bodies_in
in_bodies (message.Log m) e x i j =
    let r = from_flat shown_by m.entries e i in
    in_right (inside_some floor_bodies m.floor) (flat_map stamped_bodies m.entries) x (in_flat stamped_bodies m.entries r.0 x r.1 (by_bodies r.0 e x r.2 j))
in_bodies (message.Prepare m) e x i j = by_bodies (stamped.Prepare m) e x i j
in_bodies (message.Commit m) e x i j = by_bodies (stamped.Commit m) e x i j
in_bodies (message.ViewChange m) e x i j = by_bodies (stamped.ViewChange m) e x i j
in_bodies (message.NewView m) e x i j = by_bodies (stamped.NewView m) e x i j
in_bodies (message.Open m) e x i j = by_bodies (stamped.Open m) e x i j
in_bodies (message.Checkpoint m) e x i j = absurd i
in_bodies (message.Enter m) e x i j = absurd i
in_bodies (message.Join m) e x i j = absurd i
in_bodies (message.Request m) e x i j = absurd i
in_bodies (message.Reply m) e x i j = absurd i
in_bodies (message.ReqViewChange m) e x i j = absurd i
in_bodies (message.Resend m) e x i j = absurd i
in_bodies (message.Fetch m) e x i j = absurd i
in_bodies (message.State m) e x i j = absurd i
in_bodies (message.Stop m) e x i j = absurd i

body_in_strings : (s : Shape) (m : Message) (x : Bytes) → In (bodies_in m) x → In (strings_in s m) x
unfolding strings_in
body_in_strings s m x i =
    in_left (map request_bytes (requests_in m) ++ bodies_in m) (map (λ c. bare_bytes c.says) (claims_in s m)) x (in_right (map request_bytes (requests_in m)) (bodies_in m) x i)

-- ---- a batch that is shown

body_whole : (x : Body Batch) (b : Batch) → x ≡ Whole b → In (body_in batch_bytes x) (batch_bytes b)
body_whole x b is = subst (λ (y : Body Batch). In (body_in batch_bytes y) (batch_bytes b)) (sym is) (inl refl)

open_whole : (x : Body OpenBody) (s : Shape) (secret : Bytes) (b : Batch) → HasBatch s secret x b → In (open_bodies x) (batch_bytes b)
open_whole (Whole y) s secret b has = in_right (open_body_bytes y ∷ []) (map batch_bytes y.batches) (batch_bytes b) (in_map batch_bytes y.batches b (in_contained y.batches b has))
open_whole (Short d) s secret b has = absurd has

shown_string : (s : Shape) (secret : Bytes) (e : Shown) (b : Batch) → ShowsBatch s secret e b → In (shown_bodies e) (batch_bytes b)
shown_string s secret (shown.Prepare m) b x = body_whole m.body b x.0
shown_string s secret (shown.Commit m) b x = body_whole m.body b x.0
shown_string s secret (shown.Open m) b x = open_whole m.body s secret b x.0
shown_string s secret (shown.Checkpoint m) b x = absurd x
shown_string s secret (shown.ViewChange m) b x = absurd x
shown_string s secret (shown.NewView m) b x = absurd x
shown_string s secret (shown.Enter m) b x = absurd x
shown_string s secret (shown.Join m) b x = absurd x

fits_whole : (s : Shape) (x : Body Batch) (b : Batch) → FitsBody (FitsBatch s) x → x ≡ Whole b → FitsBatch s b
fits_whole s x b f is = subst (FitsBody (FitsBatch s)) is f

fits_open : (s : Shape) (secret : Bytes) (m : Open) (b : Batch) → FitsShown s (shown.Open m) → HasBatch s secret m.body b → FitsBatch s b
fits_open s secret m b f has = go m.body f.body has where
  go : (x : Body OpenBody) → FitsBody (FitsOpenBody s m.evidence) x → HasBatch s secret x b → FitsBatch s b
  go (Whole y) g has = all_in (FitsBatch s) y.batches b g.0.1 (in_contained y.batches b has)
  go (Short d) g has = absurd has

shown_batch_fits : (s : Shape) (secret : Bytes) (e : Shown) (b : Batch) → FitsShown s e → ShowsBatch s secret e b → FitsBatch s b
shown_batch_fits s secret (shown.Prepare m) b f x = fits_whole s m.body b f.body x.0
shown_batch_fits s secret (shown.Commit m) b f x = fits_whole s m.body b f.body x.0
shown_batch_fits s secret (shown.Open m) b f x = fits_open s secret m b f x.0
shown_batch_fits s secret (shown.Checkpoint m) b f x = absurd x
shown_batch_fits s secret (shown.ViewChange m) b f x = absurd x
shown_batch_fits s secret (shown.NewView m) b f x = absurd x
shown_batch_fits s secret (shown.Enter m) b f x = absurd x
shown_batch_fits s secret (shown.Join m) b f x = absurd x

-- ---- plans

state_fits : (s : Shape) (pos : ℕ) (state : Bytes) (members : List StableMember) → FitsHeld s pos state members → IsDigest state
state_fits s zero state members f = ap (λ (x : Bytes). length x) f.0
state_fits s (suc pos) state members f = f.0

-- The plan that an OPEN shows has its string among those of the plans that are shown, and this string has the digest that the OPEN names.
pub record ShowsText (s : Shape) (e : Shown) (d : Bytes) (t : PlanText) : Type 0 where
  pub plan : Plan
  pub text : t ≡ record { base = plan.base.pos; digests = map batch_digest plan.batches }
  pub string : In (plan_strings e) (plan_text plan)
  pub digest : plan_digest plan ≡ d
  pub fits : FitsBase plan.base

shows_text : (s : Shape) (secret : Bytes) (e : Shown) (d : Bytes) (t : PlanText) → FitsShown s e → shows_plan s secret d e ≡ true → plan_of_first s secret (Some e) ≡ Some t → ShowsText s e d t
shows_text s secret (shown.Open m) d t f so has = go m.body refl where
  go : (x : Body OpenBody) → m.body ≡ x → ShowsText s (shown.Open m) d t
  go (Short y) is = absurd (none_some t (sym (ap (text_shown s secret) is) ∙ has)) where
    none_some : (t : PlanText) → None ≡ Some t → ⊥
    none_some t e = cc
  go (Whole b) is =
      let named = and_parts (same_bytes m.evidence.plan d) _ so in
      let right = and_parts (is_stamped s secret (shown.Open m)) (is_body_of_plan s secret m m.body) named.1 in
      let body : is_plan_body s secret (verifies secret) m.evidence.base m.evidence.end m.evidence.plan b ≡ true = sym (ap (is_body_of_plan s secret m) is) ∙ right.1 in
      let parts = and_parts (is_comparable_body s secret (verifies secret) m.evidence.base m.evidence.end b) (same_bytes m.evidence.plan (sha256 (plan_string m.evidence.base b.stable.state (map batch_digest b.batches)))) body in
      let stable = and_parts (is_stable s (verifies secret) b.stable) _ parts.0 in
      let place = eqb-true b.stable.pos m.evidence.base (and_parts (b.stable.pos == m.evidence.base) _ stable.1).0 in
      let fits : FitsStable s b.stable = (subst (FitsBody (FitsOpenBody s m.evidence)) is f.body).0.0 in
      record {
        plan = record { base = b.stable; batches = b.batches };
        text = some_is t _ (sym has ∙ ap (text_shown s secret) is);
        string = subst (λ (x : Body OpenBody). In (inside_whole (λ (y : OpenBody). string_of m.evidence y ∷ []) x) (plan_string b.stable.pos b.stable.state (map batch_digest b.batches))) (sym is)
            (inl (ap (λ (n : ℕ). plan_string n b.stable.state (map batch_digest b.batches)) (sym place)));
        digest = ap (λ (n : ℕ). sha256 (plan_string n b.stable.state (map batch_digest b.batches))) place ∙ sym (same_bytes-true m.evidence.plan _ parts.1) ∙ same_bytes-true m.evidence.plan d named.0;
        fits = record { pos = let low = fits.pos.0 in omega (arith, low); state = state_fits s b.stable.pos b.stable.state b.stable.members fits.held };
      } where
        some_is : (x y : PlanText) → Some x ≡ Some y → x ≡ y
        some_is x y e = cc
shows_text s secret (shown.Prepare m) d t f so has = absurd cc
shows_text s secret (shown.Commit m) d t f so has = absurd cc
shows_text s secret (shown.Checkpoint m) d t f so has = absurd cc
shows_text s secret (shown.ViewChange m) d t f so has = absurd cc
shows_text s secret (shown.NewView m) d t f so has = absurd cc
shows_text s secret (shown.Enter m) d t f so has = absurd cc
shows_text s secret (shown.Join m) d t f so has = absurd cc

-- ---- in a world

module _ {S : Type 0} (system : System S) (w : World) (f : Facts system w) (id : ℕ) where
  -- What is shown stands in a message that the host was given.
  pub record IsShownTo (e : Shown) : Type 0 where
    pub message : Message
    pub given : IsGivenTo system.schedule w id message
    pub inside : In (shown_in message) e

  pub shown_to : (taken : List Bytes) → WereGiven system w id taken → (e : Shown) → In (shown_among system.schedule.shape taken) e → IsShownTo e
  shown_to taken were e i =
      let r = from_flat (shown_of system.schedule.shape) taken e i in
      let there = in_turned (w.given id) r.0 (in_contained (given_to system w id) r.0 (were r.0 (contained taken r.0 r.1))) in
      by r.0 there (read system.schedule r.0) refl r.2 where
        by : (bytes : Bytes) → In (w.given id) bytes → (o : Option Message) → read system.schedule bytes ≡ o → In (inside_some shown_in o) e → IsShownTo e
        by bytes given None is i = absurd i
        by bytes given (Some m) is i = record { message = m; given = record { bytes = bytes; delivered = given; reads = is }; inside = i }

  module _ (taken : List Bytes) (were : WereGiven system w id taken) where
    pub held_fits : (b : Batch) → IsHeld system.schedule.shape system.schedule.secret (shown_among system.schedule.shape taken) b → FitsBatch system.schedule.shape b
    held_fits b h =
        let x = shown_to taken were h.by (in_contained _ h.by h.among) in
        shown_batch_fits system.schedule.shape system.schedule.secret h.by b (shown_fits system.schedule.shape x.message (f.read id x.message x.given) h.by x.inside) h.shows

    -- The bytes of a batch that is held are hashed.
    pub held_hashed : (b : Batch) → IsHeld system.schedule.shape system.schedule.secret (shown_among system.schedule.shape taken) b → In w.hashed (batch_bytes b)
    held_hashed b h =
        let x = shown_to taken were h.by (in_contained _ h.by h.among) in
        all_in (In w.hashed) (strings_in system.schedule.shape x.message) (batch_bytes b) (f.standing.clean id x.message x.given).strings
        (body_in_strings system.schedule.shape x.message (batch_bytes b) (in_bodies x.message h.by (batch_bytes b) x.inside (shown_string system.schedule.shape system.schedule.secret h.by b h.shows)))

    -- A plan that is known stands for the same among all strings.
    pub known_extends : HashesApart (strings system w id) → (d : Bytes) (t : PlanText) → known_plans system.schedule.shape system.schedule.secret (shown_among system.schedule.shape taken) d ≡ Some t → plans_of (strings system w id) d ≡ Some t
    known_extends apart d t is = by (find (shows_plan system.schedule.shape system.schedule.secret d) (shown_among system.schedule.shape taken)) refl is where
      by : (o : Option Shown) → find (shows_plan system.schedule.shape system.schedule.secret d) (shown_among system.schedule.shape taken) ≡ o → plan_of_first system.schedule.shape system.schedule.secret o ≡ Some t → plans_of (strings system w id) d ≡ Some t
      by None none e = absurd cc
      by (Some e) found has =
          let there = found_there (shows_plan system.schedule.shape system.schedule.secret d) (shown_among system.schedule.shape taken) e found in
          let x = shown_to taken were e there.0 in
          let text = shows_text system.schedule.shape system.schedule.secret e d t (shown_fits system.schedule.shape x.message (f.read id x.message x.given) e x.inside) there.1 has in
          let again = from_flat (shown_of system.schedule.shape) taken e there.0 in
          let given = in_contained (given_to system w id) again.0 (were again.0 (contained taken again.0 again.1)) in
          let shown = in_flat (shown_of system.schedule.shape) (given_to system w id) again.0 e given again.2 in
          plans_known (strings system w id) text.plan d apart
          (in_right w.hashed (plans_shown system.schedule.shape (given_to system w id)) (plan_text text.plan) (in_flat plan_strings (shown_among system.schedule.shape (given_to system w id)) e (plan_text text.plan) shown text.string))
          text.fits text.digest ∙ ap Some (sym text.text)
