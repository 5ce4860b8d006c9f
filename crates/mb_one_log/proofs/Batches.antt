-- The batches in a message. In a message that has the values of the grammar they have them too. The bytes of each are among the bodies of the message,
-- and its requests among the requests of the message.
use Rattle.std.proofs.Common.{List, [], ◌∷◌, ◌++◌, refl, ap, inl, inr, subst, sym}
use Rattle.std.specs.List.{AllByRecursion, flat_map}
use Rattle.std.proofs.lemmas.List.Concat.{flat_map-cons}
use Rattle.mb_base.specs.Shapes.{Bytes}
use Rattle.mb_base.specs.declared.shape.Shape.{Shape}
use Rattle.mb_parts.specs.declared.request.Request.{Request}
use Rattle.mb_parts.specs.declared.batch.Batch.{Batch}
use Rattle.mb_parts.specs.declared.certificates.Evidence.{Evidence}
use Rattle.mb_parts.specs.Spelling.{batch_bytes}
use Rattle.mb_parts.specs.Fits.{FitsBatch}
use Rattle.mb_msg.specs.declared.message.Body.{Body}
use Rattle.mb_msg.specs.declared.message.Body.TheVariants.{Whole, Bare as Short}
use Rattle.mb_msg.specs.declared.message.Message.{Message}
use Rattle.mb_msg.specs.declared.message.Message.TheVariants as message
use Rattle.mb_msg.specs.declared.change.ChangeBody.{ChangeBody}
use Rattle.mb_msg.specs.declared.change.NewViewBody.{NewViewBody}
use Rattle.mb_msg.specs.declared.change.OpenBody.{OpenBody}
use Rattle.mb_msg.specs.declared.change.ViewChange.{ViewChange}
use Rattle.mb_msg.specs.declared.stamped.Shown.{Shown}
use Rattle.mb_msg.specs.declared.stamped.Shown.TheVariants as shown
use Rattle.mb_msg.specs.declared.stamped.Stamped.{Stamped as StampedMessage}
use Rattle.mb_msg.specs.declared.stamped.Stamped.TheVariants as stamped
use Rattle.mb_msg.specs.Bodies.{FitsBody, inside_whole}
use Rattle.mb_msg.specs.Spelling.{change_body_bytes, new_view_body_bytes}
use Rattle.mb_msg.specs.Fits.{FitsFields, FitsShown, FitsChangeBody, FitsMember, FitsNewViewBody, FitsOpenBody}
use Rattle.mb_model.specs.Compared.{inside_some}
use Rattle.mb_model.specs.Members.{In}
use Rattle.mb_model.proofs.Members.{in_right, in_map}
use Rattle.mb_model.specs.Inside.{batch_requests, open_requests, shown_requests, change_requests, requests_in, body_in, open_bodies, shown_bodies, bodies_in_change, change_bodies, bodies_in, floor_bodies}
use Rattle.mb_host_laws.proofs.Cases.{all_flat, flat_in}
use Rattle.mb_one_log.proofs.Executions.{in_parts}

-- ---- the batches

abbrev pub batch_in : Body Batch → List Batch
batch_in = inside_whole (λ b. b ∷ [])

abbrev pub batches_in_open : Body OpenBody → List Batch
batches_in_open = inside_whole (λ b. b.batches)

-- Votes and OPENs alone have some.
abbrev pub shown_batches : Shown → List Batch
shown_batches (shown.Prepare m) = batch_in m.body
shown_batches (shown.Commit m) = batch_in m.body
shown_batches (shown.Open m) = batches_in_open m.body
shown_batches _ = []

abbrev pub change_batches : ViewChange → List Batch
change_batches m = inside_whole (λ b. flat_map shown_batches b.entries) m.body

abbrev pub stamped_batches : StampedMessage → List Batch
stamped_batches (stamped.Prepare m) = batch_in m.body
stamped_batches (stamped.Commit m) = batch_in m.body
stamped_batches (stamped.Open m) = batches_in_open m.body
stamped_batches (stamped.ViewChange m) = change_batches m
stamped_batches (stamped.NewView m) = inside_whole (λ b. flat_map change_batches b.changes) m.body
stamped_batches (stamped.Checkpoint m) = []
stamped_batches (stamped.Enter m) = []
stamped_batches (stamped.Join m) = []

-- of a message that is no LOG; those of a LOG are those of its entries, each of which is accepted by itself
abbrev pub batches_in : Message → List Batch
batches_in (message.Prepare m) = stamped_batches (stamped.Prepare m)
batches_in (message.Commit m) = stamped_batches (stamped.Commit m)
batches_in (message.ViewChange m) = stamped_batches (stamped.ViewChange m)
batches_in (message.NewView m) = stamped_batches (stamped.NewView m)
batches_in (message.Open m) = stamped_batches (stamped.Open m)
batches_in _ = []

-- ---- their values

module _ (s : Shape) where
  abbrev Fit : List Batch → Type 0
  Fit l = AllByRecursion (FitsBatch s) l

  body_fit : (b : Body Batch) → FitsBody (FitsBatch s) b → Fit (batch_in b)
  body_fit (Whole b) f = (f, tt)
  body_fit (Short d) f = tt

  open_fit : (e : Evidence) (b : Body OpenBody) → FitsBody (FitsOpenBody s e) b → Fit (batches_in_open b)
  open_fit e (Whole b) f = f.0.1
  open_fit e (Short d) f = tt

  shown_fit : (e : Shown) → FitsShown s e → Fit (shown_batches e)
  shown_fit (shown.Prepare m) f = body_fit m.body f.body
  shown_fit (shown.Commit m) f = body_fit m.body f.body
  shown_fit (shown.Open m) f = open_fit m.evidence m.body f.body
  shown_fit (shown.Checkpoint m) f = tt
  shown_fit (shown.ViewChange m) f = tt
  shown_fit (shown.NewView m) f = tt
  shown_fit (shown.Enter m) f = tt
  shown_fit (shown.Join m) f = tt

  change_fit : (b : Body ChangeBody) → FitsBody (FitsChangeBody s) b → Fit (inside_whole (λ (x : ChangeBody). flat_map shown_batches x.entries) b)
  change_fit (Whole b) f = all_flat (FitsShown s) (FitsBatch s) shown_batches shown_fit b.entries f.entries
  change_fit (Short d) f = tt

  new_view_fit : (b : Body NewViewBody) → FitsBody (FitsNewViewBody s) b → Fit (inside_whole (λ (x : NewViewBody). flat_map change_batches x.changes) b)
  new_view_fit (Whole b) f = all_flat (FitsMember s) (FitsBatch s) change_batches (λ m g. change_fit m.body g.0.body) b.changes f.1.1
  new_view_fit (Short d) f = tt

  pub batches_fit : (m : Message) → FitsFields s m → Fit (batches_in m)
  batches_fit (message.Prepare m) f = body_fit m.body f.body
  batches_fit (message.Commit m) f = body_fit m.body f.body
  batches_fit (message.ViewChange m) f = change_fit m.body f.body
  batches_fit (message.NewView m) f = new_view_fit m.body f.body
  batches_fit (message.Open m) f = open_fit m.evidence m.body f.body
  batches_fit m f = tt

-- ---- their bytes and their requests

-- The bytes of a batch are among these strings, and its requests among these requests.
pub record IsInside (strings : List Bytes) (asked : List Request) (b : Batch) : Type 0 where
  pub bytes : In strings (batch_bytes b)
  pub requests : (r : Request) → In b.requests r → In asked r

inside_more : (more bodies : List Bytes) (requests : List Request) (b : Batch) → IsInside bodies requests b → IsInside (more ++ bodies) requests b
inside_more more bodies requests b i = record { bytes = in_right more bodies (batch_bytes b) i.bytes; requests = i.requests }

from_flat : {A B : Type 0} (f : A → List B) (l : List A) (y : B) → In (flat_map f l) y → (x : A) × (In l x) × (In (f x) y)
from_flat f [] y i = absurd i
from_flat {B = B} f (z ∷ l) y i = elim (in_parts (f z) (flat_map f l) y (subst (λ (k : List B). In k y) (flat_map-cons f z l) i)) [
  | inl here ↦ (z, inl refl, here)
  | inr later ↦ let r = from_flat f l y later in (r.0, inr r.1, r.2)
]

inside_flat : {A : Type 0} (batches : A → List Batch) (bodies : A → List Bytes) (requests : A → List Request) → ((x : A) (b : Batch) → In (batches x) b → IsInside (bodies x) (requests x) b)
    → (l : List A) (b : Batch) → In (flat_map batches l) b → IsInside (flat_map bodies l) (flat_map requests l) b
inside_flat batches bodies requests each l b i =
    let x = from_flat batches l b i in
    let inside = each x.0 b x.2 in
    record { bytes = flat_in bodies l x.0 x.1 (batch_bytes b) inside.bytes; requests = λ r j. flat_in requests l x.0 x.1 r (inside.requests r j) }

body_inside : (x : Body Batch) (b : Batch) → In (batch_in x) b → IsInside (body_in batch_bytes x) (batch_requests x) b
body_inside (Whole y) b (inl same) = record { bytes = inl (ap batch_bytes same); requests = λ r j. subst (λ (z : Batch). In z.requests r) (sym same) j }
body_inside (Whole y) b (inr none) = absurd none
body_inside (Short d) b i = absurd i

open_inside : (x : Body OpenBody) (b : Batch) → In (batches_in_open x) b → IsInside (open_bodies x) (open_requests x) b
open_inside (Whole y) b i = record {
  bytes = inr (in_map batch_bytes y.batches b i);
  requests = λ r j. flat_in (λ (z : Batch). z.requests) y.batches b i r j;
}
open_inside (Short d) b i = absurd i

shown_inside : (x : Shown) (b : Batch) → In (shown_batches x) b → IsInside (shown_bodies x) (shown_requests x) b
shown_inside (shown.Prepare m) b i = body_inside m.body b i
shown_inside (shown.Commit m) b i = body_inside m.body b i
shown_inside (shown.Open m) b i = open_inside m.body b i
shown_inside (shown.Checkpoint m) b i = absurd i
shown_inside (shown.ViewChange m) b i = absurd i
shown_inside (shown.NewView m) b i = absurd i
shown_inside (shown.Enter m) b i = absurd i
shown_inside (shown.Join m) b i = absurd i

change_inside : (x : ViewChange) (b : Batch) → In (change_batches x) b → IsInside (change_bodies x) (change_requests x) b
change_inside x b i = go x.body i where
  go : (y : Body ChangeBody) → In (inside_whole (λ (z : ChangeBody). flat_map shown_batches z.entries) y) b
      → IsInside (body_in change_body_bytes y ++ inside_whole bodies_in_change y) (inside_whole (λ (z : ChangeBody). flat_map shown_requests z.entries) y) b
  go (Whole y) i = inside_more (change_body_bytes y ∷ inside_some floor_bodies y.floor) (flat_map shown_bodies y.entries) (flat_map shown_requests y.entries) b
      (inside_flat shown_batches shown_bodies shown_requests shown_inside y.entries b i)
  go (Short d) i = absurd i

new_view_inside : (y : Body NewViewBody) (b : Batch) → In (inside_whole (λ (z : NewViewBody). flat_map change_batches z.changes) y) b
    → IsInside (body_in new_view_body_bytes y ++ inside_whole (λ (z : NewViewBody). flat_map change_bodies z.changes) y) (inside_whole (λ (z : NewViewBody). flat_map change_requests z.changes) y) b
new_view_inside (Whole y) b i = inside_more (new_view_body_bytes y ∷ []) (flat_map change_bodies y.changes) (flat_map change_requests y.changes) b
    (inside_flat change_batches change_bodies change_requests change_inside y.changes b i)
new_view_inside (Short d) b i = absurd i

pub batches_inside : (m : Message) (b : Batch) → In (batches_in m) b → IsInside (bodies_in m) (requests_in m) b
unfolding bodies_in requests_in
batches_inside (message.Prepare m) b i = body_inside m.body b i
batches_inside (message.Commit m) b i = body_inside m.body b i
batches_inside (message.ViewChange m) b i = change_inside m b i
batches_inside (message.NewView m) b i = new_view_inside m.body b i
batches_inside (message.Open m) b i = open_inside m.body b i
batches_inside m b i = absurd i
