-- A part of a given message has the values of the grammar where the message has them, and its requests and bodies are among those of the message.
use Rattle.std.proofs.Common.{ℕ, ◌<◌, List, [], ◌∷◌, ◌++◌, sym, subst, inl, inr, arith, mod-lt}
use Rattle.std.specs.Prelude.{map}
use Rattle.std.specs.List.{flat_map}
use Rattle.mb_base.specs.Shapes.{Bytes, primary, host_count}
use Rattle.mb_base.specs.declared.shape.Shape.{Shape}
use Rattle.mb_parts.specs.declared.request.Request.{Request}
use Rattle.mb_parts.specs.Spelling.{request_bytes}
use Rattle.mb_parts.specs.Bares.{bare_bytes}
use Rattle.mb_msg.specs.declared.message.Message.{Message}
use Rattle.mb_msg.specs.declared.message.Message.TheVariants as message
use Rattle.mb_msg.specs.declared.stamped.Stamped.{Stamped as StampedMessage}
use Rattle.mb_msg.specs.declared.stamped.Stamped.TheVariants as stamped
use Rattle.mb_msg.specs.Fits.{FitsFields, FitsStamped, FitsCommit}
use Rattle.mb_msg.specs.Stamps.{as_message}
use Rattle.mb_msg.proofs.Messages.{as_message_fits}
use Rattle.mb_model.specs.Histories.{Identity}
use Rattle.mb_model.specs.Given.{named_prepare}
use Rattle.mb_model.specs.Members.{In}
use Rattle.mb_model.proofs.Members.{in_left, in_right}
use Rattle.mb_model.specs.Inside.{claims_in, requests_in, stamped_requests, bodies_in, stamped_bodies, floor_bodies, strings_in}
use Rattle.mb_host_laws.proofs.Cases.{all_at, flat_in}
use Rattle.mb_host_laws.specs.Rests.{IsPart, stamped_parts}
use Rattle.mb_model.specs.Compared.{inside_some}

-- ---- parts fit

module _ (s : Shape) where
  only_fits : (y x : StampedMessage) → In (y ∷ []) x → FitsStamped s y → FitsStamped s x
  only_fits y x (inl is) f = subst (FitsStamped s) is f
  only_fits y x (inr e) f = absurd e

  pub brought_fits : (given : Message) (x : StampedMessage) → In (stamped_parts given) x → FitsFields s given → FitsStamped s x
  brought_fits (message.Log m) x i f = all_at (FitsStamped s) m.entries f.entries x i
  brought_fits (message.Prepare m) x i f = only_fits (stamped.Prepare m) x i f
  brought_fits (message.Commit m) x i f = only_fits (stamped.Commit m) x i f
  brought_fits (message.Checkpoint m) x i f = only_fits (stamped.Checkpoint m) x i f
  brought_fits (message.ViewChange m) x i f = only_fits (stamped.ViewChange m) x i f
  brought_fits (message.NewView m) x i f = only_fits (stamped.NewView m) x i f
  brought_fits (message.Enter m) x i f = only_fits (stamped.Enter m) x i f
  brought_fits (message.Open m) x i f = only_fits (stamped.Open m) x i f
  brought_fits (message.Join m) x i f = only_fits (stamped.Join m) x i f
  brought_fits _ x i f = absurd i

  pub primary_is_host : (view : ℕ) → primary s view < host_count s
  primary_is_host view = mod-lt view {m = host_count s} (omega arith)

module _ {S : Type 0} (self : Identity S) where
  pub part_fits : (given m : Message) → IsPart self given m → FitsFields self.shape given → FitsFields self.shape m
  part_fits given m (inl same) f = subst (FitsFields self.shape) same f
  part_fits given m (inr (inl (x, brought, is))) f = subst (FitsFields self.shape) is (as_message_fits self.shape x (brought_fits self.shape given x brought f))
  part_fits given m (inr (inr (x, brought, is))) f =
      let c : FitsCommit self.shape x = brought_fits self.shape given (stamped.Commit x) brought f in
      subst (FitsFields self.shape) is (record { view = c.view; pos = c.pos; body = c.body; ui = record { host = primary_is_host self.shape x.view; counter = c.counter; cert = c.cert } })

  -- ---- strings of parts are among those of the whole

  whole_requests : (m : StampedMessage) (r : Request) → In (requests_in (as_message m)) r → In (stamped_requests m) r
  unfolding requests_in
  whole_requests (stamped.Prepare m) r i = i
  whole_requests (stamped.Commit m) r i = i
  whole_requests (stamped.Checkpoint m) r i = i
  whole_requests (stamped.ViewChange m) r i = i
  whole_requests (stamped.NewView m) r i = i
  whole_requests (stamped.Enter m) r i = i
  whole_requests (stamped.Open m) r i = i
  whole_requests (stamped.Join m) r i = i

  only_in : {B : Type 0} (g : StampedMessage → List B) (y x : StampedMessage) (b : B) → In (y ∷ []) x → In (g x) b → In (g y) b
  only_in g y x b (inl is) i = subst (λ z. In (g z) b) (sym is) i
  only_in g y x b (inr e) i = absurd e

  brought_requests : (given : Message) (x : StampedMessage) → In (stamped_parts given) x → (r : Request) → In (stamped_requests x) r → In (requests_in given) r
  unfolding requests_in
  brought_requests (message.Log m) x i r j = flat_in stamped_requests m.entries x i r j
  brought_requests (message.Prepare m) x i r j = only_in stamped_requests (stamped.Prepare m) x r i j
  brought_requests (message.Commit m) x i r j = only_in stamped_requests (stamped.Commit m) x r i j
  brought_requests (message.Checkpoint m) x i r j = only_in stamped_requests (stamped.Checkpoint m) x r i j
  brought_requests (message.ViewChange m) x i r j = only_in stamped_requests (stamped.ViewChange m) x r i j
  brought_requests (message.NewView m) x i r j = only_in stamped_requests (stamped.NewView m) x r i j
  brought_requests (message.Enter m) x i r j = only_in stamped_requests (stamped.Enter m) x r i j
  brought_requests (message.Open m) x i r j = only_in stamped_requests (stamped.Open m) x r i j
  brought_requests (message.Join m) x i r j = only_in stamped_requests (stamped.Join m) x r i j
  brought_requests _ x i r j = absurd i

  -- each request of an accepted message stands in the given one
  pub part_requests : (given m : Message) → IsPart self given m → (r : Request) → In (requests_in m) r → In (requests_in given) r
  unfolding requests_in
  part_requests given m (inl same) r i = subst (λ x. In (requests_in x) r) (sym same) i
  part_requests given m (inr (inl (x, brought, is))) r i = brought_requests given x brought r (whole_requests x r (subst (λ y. In (requests_in y) r) (sym is) i))
  part_requests given m (inr (inr (x, brought, is))) r i = brought_requests given (stamped.Commit x) brought r (named (subst (λ y. In (requests_in y) r) (sym is) i)) where
    named : In (requests_in (message.Prepare (named_prepare self x))) r → In (stamped_requests (stamped.Commit x)) r
    named i = i

  whole_bodies : (m : StampedMessage) (b : Bytes) → In (bodies_in (as_message m)) b → In (stamped_bodies m) b
  unfolding bodies_in
  whole_bodies (stamped.Prepare m) b i = i
  whole_bodies (stamped.Commit m) b i = i
  whole_bodies (stamped.Checkpoint m) b i = i
  whole_bodies (stamped.ViewChange m) b i = i
  whole_bodies (stamped.NewView m) b i = i
  whole_bodies (stamped.Enter m) b i = i
  whole_bodies (stamped.Open m) b i = i
  whole_bodies (stamped.Join m) b i = i

  brought_bodies : (given : Message) (x : StampedMessage) → In (stamped_parts given) x → (b : Bytes) → In (stamped_bodies x) b → In (bodies_in given) b
  unfolding bodies_in
  brought_bodies (message.Log m) x i b j = in_right (inside_some floor_bodies m.floor) (flat_map stamped_bodies m.entries) b (flat_in stamped_bodies m.entries x i b j)
  brought_bodies (message.Prepare m) x i b j = only_in stamped_bodies (stamped.Prepare m) x b i j
  brought_bodies (message.Commit m) x i b j = only_in stamped_bodies (stamped.Commit m) x b i j
  brought_bodies (message.Checkpoint m) x i b j = only_in stamped_bodies (stamped.Checkpoint m) x b i j
  brought_bodies (message.ViewChange m) x i b j = only_in stamped_bodies (stamped.ViewChange m) x b i j
  brought_bodies (message.NewView m) x i b j = only_in stamped_bodies (stamped.NewView m) x b i j
  brought_bodies (message.Enter m) x i b j = only_in stamped_bodies (stamped.Enter m) x b i j
  brought_bodies (message.Open m) x i b j = only_in stamped_bodies (stamped.Open m) x b i j
  brought_bodies (message.Join m) x i b j = only_in stamped_bodies (stamped.Join m) x b i j
  brought_bodies _ x i b j = absurd i

  pub part_bodies : (given m : Message) → IsPart self given m → (b : Bytes) → In (bodies_in m) b → In (bodies_in given) b
  unfolding bodies_in
  part_bodies given m (inl same) b i = subst (λ x. In (bodies_in x) b) (sym same) i
  part_bodies given m (inr (inl (x, brought, is))) b i = brought_bodies given x brought b (whole_bodies x b (subst (λ y. In (bodies_in y) b) (sym is) i))
  part_bodies given m (inr (inr (x, brought, is))) b i = brought_bodies given (stamped.Commit x) brought b (named (subst (λ y. In (bodies_in y) b) (sym is) i)) where
    named : In (bodies_in (message.Prepare (named_prepare self x))) b → In (stamped_bodies (stamped.Commit x)) b
    named i = i

-- a body is among the strings of its message
pub body_string : (s : Shape) (m : Message) (b : Bytes) → In (bodies_in m) b → In (strings_in s m) b
unfolding strings_in
body_string s m b i = in_left (map request_bytes (requests_in m) ++ bodies_in m) (map (λ c. bare_bytes c.says) (claims_in s m)) b (in_right (map request_bytes (requests_in m)) (bodies_in m) b i)
