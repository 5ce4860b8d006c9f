-- What a certificate claims in what a correct host was given, and what the certificates in it claim, was issued.
use Rattle.std.proofs.Common.{◌≡◌, Bool, true, List, [], ◌∷◌, ◌++◌, map, Option, Some, None, refl, sym, subst, inl, inr}
use Rattle.std.specs.List.{flat_map}
use Rattle.sha2.specs.Sha256.{sha256}
use Rattle.mb_base.specs.Shapes.{Bytes}
use Rattle.mb_base.specs.declared.shape.Shape.{Shape}
use Rattle.mb_parts.specs.declared.certificates.Evidence.{Evidence}
use Rattle.mb_parts.specs.declared.certificates.FloorCert.{FloorCert}
use Rattle.mb_parts.specs.declared.certificates.StableCert.{StableCert}
use Rattle.mb_parts.specs.Spelling.{floors_bytes}
use Rattle.mb_parts.specs.Bares as bare
use Rattle.mb_parts.specs.CheckedCertificates.{Carries}
use Rattle.mb_parts.specs.Claims.{Claim, stable_claims, floor_claims, evidence_claims, new_view_claim, inner_claims}
use Rattle.mb_msg.specs.declared.change.ChangeBody.{ChangeBody}
use Rattle.mb_msg.specs.declared.change.NewViewBody.{NewViewBody}
use Rattle.mb_msg.specs.declared.change.OpenBody.{OpenBody}
use Rattle.mb_msg.specs.declared.change.ViewChange.{ViewChange}
use Rattle.mb_msg.specs.declared.message.Body.{Body}
use Rattle.mb_msg.specs.declared.message.Body.TheVariants.{Whole, Bare as Short}
use Rattle.mb_msg.specs.declared.message.Message.{Message}
use Rattle.mb_msg.specs.declared.message.Message.TheVariants as message
use Rattle.mb_msg.specs.declared.stamped.Shown.{Shown}
use Rattle.mb_msg.specs.declared.stamped.Shown.TheVariants as shown
use Rattle.mb_msg.specs.declared.stamped.Stamped.{Stamped}
use Rattle.mb_msg.specs.declared.stamped.Stamped.TheVariants as stamped
use Rattle.mb_msg.specs.Bodies.{inside_whole}
use Rattle.mb_msg.specs.declared.change.Join.{Join}
use Rattle.mb_msg.specs.declared.change.Open.{Open}
use Rattle.mb_msg.specs.declared.normal.Commit.{Commit}
use Rattle.mb_msg.specs.Reading.{message_of}
use Rattle.mb_model.specs.Compared.{inside_some}
use Rattle.mb_model.specs.Members.{In}
use Rattle.mb_model.proofs.Members.{in_left, in_right}
use Rattle.mb_model.specs.Inside.{named_claim, open_body_claims, open_claims, join_claims, shown_claims, change_claims, member_claims, new_view_claims, stamped_claims, claims_in, if_read}
use Rattle.mb_audit.specs.Stamps.{claims_of, claims_among}
use Rattle.mb_learn.proofs.Finds.{in_either}

-- Of each of these claims those in what it says are there, too.
abbrev pub AreClosed : Shape → List Claim → Type 0
AreClosed s l = (c k : Claim) → In l c → In (inner_claims s c.says) k → In l k

module _ (s : Shape) where
  closed_none : AreClosed s []
  closed_none c k i j = absurd i

  closed_both : (a b : List Claim) → AreClosed s a → AreClosed s b → AreClosed s (a ++ b)
  closed_both a b f g c k i j = elim (in_either a b c i) [
    | inl front ↦ in_left a b k (f c k front j)
    | inr back ↦ in_right a b k (g c k back j)
  ]

  closed_flat : {A : Type 0} (f : A → List Claim) → ((x : A) → AreClosed s (f x)) → (l : List A) → AreClosed s (flat_map f l)
  closed_flat f each [] c k i j = absurd i
  closed_flat f each (x ∷ l) c k i j = closed_both (f x) (flat_map f l) (each x) (closed_flat f each l) c k i j

  -- Those whose messages have no certificates in them.
  abbrev ArePlain : List Claim → Type 0
  ArePlain l = (c : Claim) → In l c → inner_claims s c.says ≡ []

  closed_plain : (l : List Claim) → ArePlain l → AreClosed s l
  closed_plain l plain c k i j = absurd (subst (λ (x : List Claim). In x k) (plain c i) j)

  plain_map : {A : Type 0} (f : A → Claim) → ((x : A) → inner_claims s (f x).says ≡ []) → (l : List A) → ArePlain (map f l)
  plain_map f none [] c i = absurd i
  plain_map f none (x ∷ l) c (inl is) = subst (λ (y : Claim). inner_claims s y.says ≡ []) is (none x)
  plain_map f none (x ∷ l) c (inr i) = plain_map f none l c i

  stable_closed : (c : StableCert) → AreClosed s (stable_claims c)
  stable_closed c = closed_plain (stable_claims c) (plain_map (λ m. record { host = m.host; counter = m.counter; says = bare.Checkpoint c.pos c.state m.floors; cert = m.cert }) (λ m. refl) c.members)

  floor_closed : (c : FloorCert) → AreClosed s (floor_claims c)
  floor_closed c = closed_plain (floor_claims c) (plain_map (λ m. record { host = m.host; counter = m.counter; says = bare.Checkpoint c.pos c.state (sha256 (floors_bytes m.floors)); cert = m.cert }) (λ m. refl) c.members)

  evidence_closed : (e : Evidence) → AreClosed s (evidence_claims s e)
  evidence_closed e = closed_both (new_view_claim s e ∷ []) (map (λ m. record { host = m.host; counter = m.counter; says = bare.Enter e.view e.counter e.plan; cert = m.cert }) e.members)
      (closed_plain (new_view_claim s e ∷ []) one) (closed_plain (map (λ m. record { host = m.host; counter = m.counter; says = bare.Enter e.view e.counter e.plan; cert = m.cert }) e.members) (plain_map (λ m. record { host = m.host; counter = m.counter; says = bare.Enter e.view e.counter e.plan; cert = m.cert }) (λ m. refl) e.members)) where
        one : (c : Claim) → In (new_view_claim s e ∷ []) c → inner_claims s c.says ≡ []
        one c (inl is) = subst (λ (y : Claim). inner_claims s y.says ≡ []) is refl
        one c (inr none) = absurd none

  -- with the claim of a message behind those in it
  closed_own : (l : List Claim) (own : Claim) → AreClosed s l → ((k : Claim) → In (inner_claims s own.says) k → In l k) → AreClosed s (l ++ own ∷ [])
  closed_own l own f inside c k i j = elim (in_either l (own ∷ []) c i) [
    | inl front ↦ in_left l (own ∷ []) k (f c k front j)
    | inr last ↦ in_left l (own ∷ []) k (at last)
  ] where
    at : In (own ∷ []) c → In l k
    at (inl is) = inside k (subst (λ (y : Claim). In (inner_claims s y.says) k) (sym is) j)
    at (inr none) = absurd none

  named_closed : (m : Commit) → AreClosed s (named_claim s m ∷ [])
  named_closed m = closed_plain (named_claim s m ∷ []) one where
    one : (c : Claim) → In (named_claim s m ∷ []) c → inner_claims s c.says ≡ []
    one c (inl is) = subst (λ (y : Claim). inner_claims s y.says ≡ []) is refl
    one c (inr none) = absurd none

  open_closed : (m : Open) → AreClosed s (open_claims s m)
  open_closed m = closed_both (evidence_claims s m.evidence) (inside_whole open_body_claims m.body) (evidence_closed m.evidence) (body m.body) where
    body : (b : Body OpenBody) → AreClosed s (inside_whole open_body_claims b)
    body (Whole b) = stable_closed b.stable
    body (Short d) = closed_none

  some_evidence : (o : Option Evidence) → AreClosed s (inside_some (evidence_claims s) o)
  some_evidence (Some e) = evidence_closed e
  some_evidence None = closed_none

  some_floor : (o : Option FloorCert) → AreClosed s (inside_some floor_claims o)
  some_floor (Some c) = floor_closed c
  some_floor None = closed_none

  join_closed : (m : Join) → AreClosed s (join_claims s m)
  join_closed m = closed_both (inside_some (evidence_claims s) m.evidence) (stable_claims m.stable) (some_evidence m.evidence) (stable_closed m.stable)

  join_inside : (m : Join) (k : Claim) → In (inner_claims s (bare.Join m.view m.evidence m.stable)) k → In (join_claims s m) k
  join_inside m k i = by m.evidence i where
    by : (o : Option Evidence) → In (inner_claims s (bare.Join m.view o m.stable)) k → In (inside_some (evidence_claims s) o ++ stable_claims m.stable) k
    by None i = i
    by (Some e) i = i

  shown_closed : (e : Shown) → AreClosed s (shown_claims s e)
  unfolding shown_claims
  shown_closed (shown.Prepare m) = closed_own [] _ closed_none (λ k i. i)
  shown_closed (shown.Commit m) = closed_own (named_claim s m ∷ []) _ (named_closed m) (λ k i. i)
  shown_closed (shown.Checkpoint m) = closed_own [] _ closed_none (λ k i. i)
  shown_closed (shown.ViewChange m) = closed_own [] _ closed_none (λ k i. i)
  shown_closed (shown.NewView m) = closed_own [] _ closed_none (λ k i. i)
  shown_closed (shown.Enter m) = closed_own [] _ closed_none (λ k i. i)
  shown_closed (shown.Open m) = closed_own (open_claims s m) _ (open_closed m) (λ k i. in_left (evidence_claims s m.evidence) (inside_whole open_body_claims m.body) k i)
  shown_closed (shown.Join m) = closed_own (join_claims s m) _ (join_closed m) (join_inside m)

  change_closed : (b : Body ChangeBody) → AreClosed s (inside_whole (change_claims s) b)
  change_closed (Whole b) =
      closed_both (inside_some floor_claims b.floor ++ stable_claims b.stable) (flat_map (shown_claims s) b.entries) (closed_both (inside_some floor_claims b.floor) (stable_claims b.stable) (some_floor b.floor) (stable_closed b.stable))
      (closed_flat (shown_claims s) shown_closed b.entries)
  change_closed (Short d) = closed_none

  member_closed : (m : ViewChange) → AreClosed s (member_claims s m)
  member_closed m = closed_own (inside_whole (change_claims s) m.body) _ (change_closed m.body) (λ k i. absurd i)

  new_view_closed : (b : Body NewViewBody) → AreClosed s (inside_whole (new_view_claims s) b)
  new_view_closed (Whole b) = closed_flat (member_claims s) member_closed b.changes
  new_view_closed (Short d) = closed_none

  stamped_closed : (m : Stamped) → AreClosed s (stamped_claims s m)
  unfolding stamped_claims
  stamped_closed (stamped.Prepare m) = closed_own [] _ closed_none (λ k i. i)
  stamped_closed (stamped.Commit m) = closed_own (named_claim s m ∷ []) _ (named_closed m) (λ k i. i)
  stamped_closed (stamped.Checkpoint m) = closed_own [] _ closed_none (λ k i. i)
  stamped_closed (stamped.ViewChange m) = closed_own (inside_whole (change_claims s) m.body) _ (change_closed m.body) (λ k i. absurd i)
  stamped_closed (stamped.NewView m) = closed_own (inside_whole (new_view_claims s) m.body) _ (new_view_closed m.body) (λ k i. absurd i)
  stamped_closed (stamped.Enter m) = closed_own [] _ closed_none (λ k i. i)
  stamped_closed (stamped.Open m) = closed_own (open_claims s m) _ (open_closed m) (λ k i. in_left (evidence_claims s m.evidence) (inside_whole open_body_claims m.body) k i)
  stamped_closed (stamped.Join m) = closed_own (join_claims s m) _ (join_closed m) (join_inside m)

  some_closed : (o : Option Stamped) → AreClosed s (inside_some (stamped_claims s) o)
  some_closed (Some m) = stamped_closed m
  some_closed None = closed_none

  pub message_closed : (m : Message) → AreClosed s (claims_in s m)
  unfolding claims_in
  message_closed (message.Log m) =
      closed_both (inside_some floor_claims m.floor ++ stable_claims m.stable ++ inside_some (evidence_claims s) m.evidence) (flat_map (stamped_claims s) m.entries)
      (closed_both (inside_some floor_claims m.floor ++ stable_claims m.stable) (inside_some (evidence_claims s) m.evidence) (closed_both (inside_some floor_claims m.floor) (stable_claims m.stable) (some_floor m.floor) (stable_closed m.stable))
      (some_evidence m.evidence)) (closed_flat (stamped_claims s) stamped_closed m.entries)
  message_closed (message.Request m) = closed_none
  message_closed (message.Prepare m) = stamped_closed (stamped.Prepare m)
  message_closed (message.Commit m) = stamped_closed (stamped.Commit m)
  message_closed (message.Reply m) = closed_none
  message_closed (message.Checkpoint m) = stamped_closed (stamped.Checkpoint m)
  message_closed (message.ReqViewChange m) = closed_none
  message_closed (message.ViewChange m) = stamped_closed (stamped.ViewChange m)
  message_closed (message.NewView m) = stamped_closed (stamped.NewView m)
  message_closed (message.Enter m) = stamped_closed (stamped.Enter m)
  message_closed (message.Open m) = stamped_closed (stamped.Open m)
  message_closed (message.Join m) = stamped_closed (stamped.Join m)
  message_closed (message.Resend m) = closed_none
  message_closed (message.Fetch m) = closed_none
  message_closed (message.State m) = closed_none
  message_closed (message.Stop m) = closed_none

  -- of byte strings
  pub bytes_closed : (bytes : Bytes) → AreClosed s (claims_of s bytes)
  bytes_closed bytes = by (if_read (message_of s bytes)) where
    by : (o : Option Message) → AreClosed s (inside_some (claims_in s) o)
    by (Some m) = message_closed m
    by None = closed_none

  pub among_closed : (taken : List Bytes) → AreClosed s (claims_among s taken)
  among_closed taken = closed_flat (claims_of s) bytes_closed taken

-- Where of claims those that verify were issued, the certificates of a message that one of them says carry over.
pub carried_over : (s : Shape) (verified issued : Claim → Bool) (l : List Claim) → AreClosed s l → ((c : Claim) → In l c → verified c ≡ true → issued c ≡ true) → (c : Claim) → In l c → Carries verified issued (inner_claims s c.says)
carried_over s verified issued l closed all c i = by (inner_claims s c.says) (λ k j. all k (closed c k i j)) where
  by : (inner : List Claim) → ((k : Claim) → In inner k → verified k ≡ true → issued k ≡ true) → Carries verified issued inner
  by [] f = tt
  by (k ∷ inner) f = (λ v. f k (inl refl) v, by inner (λ x j. f x (inr j)))
