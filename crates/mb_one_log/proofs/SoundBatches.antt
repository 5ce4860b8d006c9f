-- The batches that a correct host takes from messages, and shows in its own, are sound, and so are the requests that it takes.
--
-- A batch of a given message that is rightly tagged is sound (`brought`): it has the values of the grammar, its string is hashed, and correct clients
-- asked for its requests. What a log shows that was found usable is rightly tagged. What a host shows in its own VIEW_CHANGE is what it stamped before.
use Rattle.std.proofs.Common.{◌≡◌, ℕ, true, ◌&&◌, not, List, [], ◌∷◌, ◌++◌, refl, sym, ap, subst, ◌∙◌, inl, inr, Option, Some, None}
use Rattle.std.specs.Prelude.{◌==◌, map, reverse, filter, option_and_then, is_none, Contains}
use Rattle.std.specs.List.{AllByRecursion, flat_map}
use Rattle.std.proofs.lemmas.Bool.{and_parts}
use Rattle.std.proofs.lemmas.List.Concat.{flat_map-cons}
use Rattle.mb_usig.specs.Tags.{request_tag}
use Rattle.mb_usig.proofs.Laws.{same_bytes-true}
use Rattle.mb_parts.specs.declared.request.Request.{Request}
use Rattle.mb_parts.specs.Spelling.{request_bytes, batch_bytes}
use Rattle.mb_parts.specs.Fits.{FitsRequest, FitsBatch}
use Rattle.mb_msg.specs.declared.message.Body.{Body}
use Rattle.mb_msg.specs.declared.message.Body.TheVariants.{Whole, Bare as Short}
use Rattle.mb_msg.specs.declared.message.Message.{Message}
use Rattle.mb_msg.specs.declared.message.Message.TheVariants as message
use Rattle.mb_msg.specs.declared.change.ViewChange.{ViewChange}
use Rattle.mb_msg.specs.declared.change.ChangeBody.{ChangeBody}
use Rattle.mb_msg.specs.declared.stamped.Shown.{Shown}
use Rattle.mb_msg.specs.declared.stamped.Stamped.{Stamped as StampedMessage}
use Rattle.mb_msg.specs.declared.stamped.Stamped.TheVariants as stamped
use Rattle.mb_msg.proofs.Injective.{request_injective}
use Rattle.mb_model.specs.Verified.{verifies, is_rightly_tagged, are_rightly_tagged}
use Rattle.mb_model.specs.UsableLogs.{is_whole, log_fault}
use Rattle.mb_model.specs.Histories.{Entry, Accepted, Stamped, Jumped, Closed, Served, Executed, Installed, DroppedParts, LostPatience, Nudged, History, Identity, stamped as all_stamped}
use Rattle.mb_model.specs.Held.{change_fault, is_current, change_in, arrived, changes_of, logs_of}
use Rattle.mb_model.specs.OwnLog.{behind_opening, behind_change, kept_forms, as_shown, log_kept, proof_of}
use Rattle.mb_model.specs.Sending.{next_ui}
use Rattle.mb_model.specs.Making.{view_change}
use Rattle.mb_model.proofs.Options.{if_some}
use Rattle.mb_model.specs.Members.{In}
use Rattle.mb_model.proofs.Members.{contained, in_left, in_right, all_in}
use Rattle.mb_steps.specs.Arises.{Makes}
use Rattle.mb_steps.proofs.StepPlanBases.{all_filter}
use Rattle.mb_model.specs.Inside.{requests_in, bodies_in}
use Rattle.mb_world_model.specs.WorldEvents.{IsCorrect, IsCorrectClient}
use Rattle.mb_world_model.specs.World.{World, System, self_of}
use Rattle.mb_model.proofs.Lists.{all_append}
use Rattle.mb_host_laws.proofs.KeptForms.{forms_keep}
use Rattle.mb_host_laws.proofs.Cases.{all_reverse, all_taken, same_whole, some_is, all_holds}
use Rattle.mb_host_laws.specs.Rests.{Each}
use Rattle.mb_world_laws.proofs.Grown.{WasAsked}
use Rattle.mb_world_laws.proofs.Facts.{Facts}
use Rattle.mb_views.proofs.Follows.{JumpsLed}
use Rattle.mb_host_laws.proofs.Moments.{IsPast, past_tail, each_at}
use Rattle.mb_views.proofs.Floors.{arises_then}
use Rattle.mb_host_laws.proofs.Parts.{part_requests}
use Rattle.mb_world_laws.proofs.AcceptedParts.{accepted_fits, accepted_body_hashed}
use Rattle.mb_one_log.proofs.PlanBatches.{AllShown, AllOfLogs, log_tagged}
use Rattle.mb_msg.specs.Bodies.{whole_body, inside_whole}
use Rattle.mb_one_log.proofs.Batches.{shown_batches, batches_fit, batches_in, IsInside, batches_inside, change_batches}
use Rattle.mb_msg.specs.Stamps.{bare_of}
use Rattle.mb_parts.specs.declared.batch.Batch.{Batch}

pub whole_none : {B C : Type 0} (g : B → Option C) (x : Body B) (b : B) → x ≡ Whole b → option_and_then g (whole_body x) ≡ None → g b ≡ None
whole_none g x b is e = rw is at e

-- ---- lists of batches

module _ (R : Batch → Type 0) where
  -- What a message shows in a log has the property.
  abbrev pub OfStamped : StampedMessage → Type 0
  OfStamped m = AllByRecursion R (shown_batches (as_shown m))

  abbrev pub OfChange : ViewChange → Type 0
  OfChange m = (b : ChangeBody) → m.body ≡ Whole b → AllShown R b.entries

  opening_all : (x : StampedMessage) → OfStamped x → OfStamped (behind_opening x)
  opening_all (stamped.Prepare m) a = tt
  opening_all (stamped.Commit m) a = tt
  opening_all (stamped.Open m) a = tt
  opening_all x a = a

  change_all : (x : StampedMessage) → OfStamped x → OfStamped (behind_change x)
  change_all (stamped.ViewChange m) a = tt
  change_all (stamped.NewView m) a = tt
  change_all x a = a

  shown_all : (l : List StampedMessage) → AllByRecursion OfStamped l → AllShown R (map as_shown l)
  shown_all [] a = tt
  shown_all (x ∷ l) a = (a.0, shown_all l a.1)

  -- the own log in a VIEW_CHANGE
  pub proof_all : {S : Type 0} (self : Identity S) (d : History) → AllByRecursion OfStamped (all_stamped d) → AllShown R (proof_of self d).entries
  proof_all self d a = shown_all (reverse (log_kept self d)) (all_reverse OfStamped (log_kept self d) (all_taken OfStamped _ (kept_forms (all_stamped d)) (forms_keep OfStamped opening_all change_all (all_stamped d) a)))

  pub logs_all : (changes : List ViewChange) → AllByRecursion OfChange changes → AllOfLogs R (logs_of changes)
  logs_all [] a = tt
  logs_all (m ∷ changes) a = go m.body refl (logs_all changes a.1) where
    go : (b : Body ChangeBody) → m.body ≡ b → AllOfLogs R (logs_of changes) → AllOfLogs R (logs_of (m ∷ changes))
    go (Whole b) is rest = rw is (a.0 b is, rest)
    go (Short d) is rest = rw is rest

module _ {S : Type 0} (system : System S) (w : World) (f : Facts system w) (jumps : (h : ℕ) → IsCorrect system.schedule h → Each (JumpsLed system w f) (w.histories h))
    (asked_fits : (r : Request) → In w.asked r → FitsRequest system.schedule.shape r) where
  -- It has the values of the grammar and the tag of its client, and was asked where that one is correct.
  pub record IsSoundRequest (r : Request) : Type 0 where
    pub fits : FitsRequest system.schedule.shape r
    pub tag : r.tag ≡ request_tag system.schedule.secret r.client r.seq r.op
    pub asked : IsCorrectClient system.schedule r.client → Contains w.asked r

  -- It has the values of the grammar and is hashed, and its requests are sound.
  pub record IsSoundBatch (b : Batch) : Type 0 where
    pub fits : FitsBatch system.schedule.shape b
    pub hashed : In w.hashed (batch_bytes b)
    pub requests : (r : Request) → In b.requests r → IsSoundRequest r

  abbrev IsTagged : Batch → Type 0
  IsTagged b = are_rightly_tagged system.schedule.secret b ≡ true

  -- A request of an accepted message that has the values of the grammar is sound, where it is rightly tagged.
  pub brought_request : (h : ℕ) (m : Message) (d : History) → IsPast (Accepted m ∷ d) (w.histories h) → (r : Request) → In (requests_in m) r → FitsRequest system.schedule.shape r
      → is_rightly_tagged system.schedule.secret r ≡ true → IsSoundRequest r
  brought_request h m d past r i fits tagged =
      let rests = (each_at _ (Accepted m ∷ d) (w.histories h) past (f.standing.rests h)).0 in
      let from : Message = rests.0.0 in
      let clean = f.standing.clean h from rests.0.1 in
      let there : In (requests_in from) r = part_requests (self_of system h) from m rests.0.2 r i in
      record {
        fits = fits;
        tag = same_bytes-true r.tag (request_tag system.schedule.secret r.client r.seq r.op) tagged;
        asked = λ correct.
            let a : WasAsked system.schedule w r = clean.asked r there tagged correct.1 in
            let same : a.0 ≡ r = request_injective system.schedule.shape f.shape a.0 r (asked_fits a.0 a.1) fits (same_bytes-true (request_bytes a.0) (request_bytes r) a.2) in
            contained w.asked r (subst (λ (q : Request). In w.asked q) same a.1);
      }

  -- So is a batch.
  pub brought : (h : ℕ) (m : Message) (d : History) → IsPast (Accepted m ∷ d) (w.histories h) → (b : Batch) → In (batches_in m) b → IsTagged b → IsSoundBatch b
  brought h m d past b i tagged =
      let rests = (each_at _ (Accepted m ∷ d) (w.histories h) past (f.standing.rests h)).0 in
      let fits : FitsBatch system.schedule.shape b = all_in (FitsBatch system.schedule.shape) (batches_in m) b (batches_fit system.schedule.shape m (accepted_fits system w f h m d rests)) i in
      let inside : IsInside (bodies_in m) (requests_in m) b = batches_inside m b i in
      record {
        fits = fits;
        hashed = accepted_body_hashed system w f h m d rests (batch_bytes b) inside.bytes;
        requests = λ r j. brought_request h m d past r (inside.requests r j) (all_in (FitsRequest system.schedule.shape) b.requests r fits.requests j)
            (all_holds (is_rightly_tagged system.schedule.secret) b.requests tagged r j);
      }

  pub brought_all : (h : ℕ) (m : Message) (d : History) → IsPast (Accepted m ∷ d) (w.histories h) → (l : List Batch) → ((b : Batch) → In l b → In (batches_in m) b) → AllByRecursion IsTagged l → AllByRecursion IsSoundBatch l
  brought_all h m d past [] g a = tt
  brought_all h m d past (r ∷ l) g a = (brought h m d past r (g r (inl refl)) a.0, brought_all h m d past l (λ q i. g q (inr i)) a.1)

  pub brought_shown : (h : ℕ) (m : Message) (d : History) → IsPast (Accepted m ∷ d) (w.histories h) → (es : List Shown) → ((b : Batch) → In (flat_map shown_batches es) b → In (batches_in m) b)
      → AllShown IsTagged es → AllShown IsSoundBatch es
  brought_shown h m d past [] g a = tt
  brought_shown h m d past (e ∷ es) g a =
      let joined : flat_map shown_batches (e ∷ es) ≡ shown_batches e ++ flat_map shown_batches es = flat_map-cons shown_batches e es in (
        brought_all h m d past (shown_batches e) (λ r i. g r (subst (λ (l : List Batch). In l r) (sym joined) (in_left (shown_batches e) (flat_map shown_batches es) r i))) a.0,
        brought_shown h m d past es (λ r i. g r (subst (λ (l : List Batch). In l r) (sym joined) (in_right (shown_batches e) (flat_map shown_batches es) r i))) a.1,
      )

  -- ---- VIEW_CHANGEs that are held

  -- all that the host stamped so far shows sound batches
  abbrev pub IsOwn : History → Type 0
  IsOwn d = AllByRecursion (OfStamped IsSoundBatch) (all_stamped d)

  -- those of another, found usable
  pub usable_change : (h : ℕ) (m : Message) (d : History) → IsPast (Accepted m ∷ d) (w.histories h) → (x : ViewChange) → ((b : Batch) → In (change_batches x) b → In (batches_in m) b) → change_fault (self_of system h) x ≡ None → OfChange IsSoundBatch x
  usable_change h m d past x g none b is =
      brought_shown h m d past b.entries (λ r i. g r (subst (λ (y : Body ChangeBody). In (inside_whole (λ (z : ChangeBody). flat_map shown_batches z.entries) y) r) (sym is) i))
      (log_tagged system.schedule.shape system.schedule.secret (verifies system.schedule.secret) x.ui.host x.view x.ui.counter b
      (whole_none (log_fault system.schedule.shape system.schedule.secret (verifies system.schedule.secret) x.ui.host x.view x.ui.counter) x.body b is none))

  module _ (h : ℕ) (correct : IsCorrect system.schedule h) where
    abbrev self : Identity S
    self = self_of system h

    own_change : (m : ViewChange) (d : History) → IsPast (Stamped (stamped.ViewChange m) ∷ d) (w.histories h) → IsOwn d → OfChange IsSoundBatch m
    own_change m d past own b is =
        let makes : Makes self d (stamped.ViewChange m) = (arises_then system w f h correct (jumps h correct) (Stamped (stamped.ViewChange m) ∷ d) past).0 in
        let made : ViewChange = record { view = makes.0; body = Whole (proof_of self d); ui = next_ui self d (bare_of (view_change self d makes.0)) } in
        let same : made ≡ m = cc makes.2 in
        let body : proof_of self d ≡ b = same_whole (proof_of self d) b (ap (λ (y : ViewChange). y.body) same ∙ is) in
        subst (λ (y : ChangeBody). AllShown IsSoundBatch y.entries) body (proof_all IsSoundBatch self d own)

    held_change : (e : Entry) (d : History) → IsPast (e ∷ d) (w.histories h) → IsOwn d → (m : ViewChange) → change_in self d e ≡ Some m → OfChange IsSoundBatch m
    held_change (Accepted (message.ViewChange n)) d past own m e =
        let t = if_some (is_whole n.body && is_current self d n.view) (Some n) m e in
        let p = and_parts (is_whole n.body) (is_current self d n.view) t.0 in
        let passes = (arises_then system w f h correct (jumps h correct) (Accepted (message.ViewChange n) ∷ d) past).0 in
        subst (OfChange IsSoundBatch) (some_is n m t.1) (usable_change h (message.ViewChange n) d past n (λ r i. i) (passes.kind p.1))
    held_change (Stamped (stamped.ViewChange n)) d past own m e =
        let t = if_some (is_whole n.body && is_none (change_fault self n)) (Some n) m e in
        subst (OfChange IsSoundBatch) (some_is n m t.1) (own_change n d past own)
    held_change e d past own m is = absurd cc

    arrived_all : (x : Option ViewChange) (l : List ViewChange) → ((m : ViewChange) → x ≡ Some m → OfChange IsSoundBatch m) → AllByRecursion (OfChange IsSoundBatch) l → AllByRecursion (OfChange IsSoundBatch) (arrived self x l)
    arrived_all None l new a = a
    arrived_all (Some m) l new a = all_append (OfChange IsSoundBatch) (filter (λ c. not (c.ui.host == m.ui.host)) l) (m ∷ []) (all_filter (OfChange IsSoundBatch) _ l a) (new m refl, tt)

    pub own_tail : (e : Entry) (d : History) → IsOwn (e ∷ d) → IsOwn d
    unfolding all_stamped
    own_tail (Stamped m) d a = a.1
    own_tail (Accepted m) d a = a
    own_tail (Jumped g o) d a = a
    own_tail (Closed g c) d a = a
    own_tail (Served pos placed) d a = a
    own_tail (Executed slot) d a = a
    own_tail (Installed pos parts) d a = a
    own_tail DroppedParts d a = a
    own_tail LostPatience d a = a
    own_tail Nudged d a = a

    pub changes_sound : (d : History) → IsPast d (w.histories h) → IsOwn d → AllByRecursion (OfChange IsSoundBatch) (changes_of self d)
    unfolding changes_of
    changes_sound [] past own = tt
    changes_sound (e ∷ d) past own =
        arrived_all (change_in self d e) (changes_of self d) (λ m is. held_change e d past (own_tail e d own) m is) (changes_sound d (past_tail e d (w.histories h) past) (own_tail e d own))
