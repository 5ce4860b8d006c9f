-- What it means of a message that nothing in it is forged, with what was made so far; and that it stays so.
use Rattle.std.proofs.Common.{◌≡◌, Bool, true, false, ◌&&◌, List, [], ◌∷◌, refl, ap, inl, inr, None}
use Rattle.std.specs.Prelude.{find, not}
use Rattle.std.specs.List.{AllByRecursion, list_any}
use Rattle.std.proofs.lemmas.Bool.{cases_Bool}
use Rattle.mb_usig.specs.Tags.{same_bytes}
use Rattle.mb_parts.specs.declared.request.Request.{Request}
use Rattle.mb_parts.specs.Spelling.{request_bytes}
use Rattle.mb_parts.specs.Claims.{Claim}
use Rattle.mb_msg.specs.declared.message.Message.{Message}
use Rattle.mb_msg.specs.declared.message.Message.TheVariants as message
use Rattle.mb_msg.specs.declared.stamped.Stamped.{Stamped as StampedMessage}
use Rattle.mb_msg.specs.declared.stamped.Stamped.TheVariants as stamped
use Rattle.mb_msg.specs.Spelling.{spelling}
use Rattle.mb_msg.specs.Stamps.{as_message}
use Rattle.mb_model.specs.Verified.{verifies, is_rightly_tagged}
use Rattle.mb_model.specs.Members.{In}
use Rattle.mb_model.proofs.Members.{any_in}
use Rattle.mb_schedule.specs.declared.schedule.Schedule.{Schedule}
use Rattle.mb_schedule.specs.Limits.{is_faulty, is_faulty_client}
use Rattle.mb_model.specs.Inside.{claims_in, requests_in}
use Rattle.mb_world_model.specs.World.{World}
use Rattle.mb_world_model.specs.WorldRecord.{issued}
use Rattle.mb_world_model.specs.Forged.{is_forged_claim, forged_claim, was_asked, is_forged_request, was_tagged, has_forged_tag}
use Rattle.mb_host_laws.proofs.Cases.{all_more}
use Rattle.mb_world_laws.proofs.Grown.{Grows, WasAsked, issued_grows}
use Rattle.mb_unforged.proofs.Forms.{OfMessage}

pub any_of : {A : Type 0} (t : A → Bool) (l : List A) (x : A) → In l x → t x ≡ true → list_any t l ≡ true
any_of t [] x i e = absurd i
any_of t (y ∷ l) x (inl is) e = rw (ap t is, e) refl
any_of t (y ∷ l) x (inr i) e = elim (cases_Bool (t y)) [
  | inl here ↦ rw here refl
  | inr other ↦ rw other (any_of t l x i e)
]

module _ (s : Schedule) where
  -- What verifies was issued.
  abbrev pub IsIssued : World → Claim → Type 0
  IsIssued w c = verifies s.secret c ≡ true → issued s w c ≡ true

  -- What is rightly tagged was asked, where its client is correct.
  abbrev pub IsAskedFor : World → Request → Type 0
  IsAskedFor w r = is_rightly_tagged s.secret r ≡ true → is_faulty_client s r.client ≡ false → WasAsked s w r

  -- A reply or a wish of a correct host was made.
  abbrev pub IsMade : World → Message → Type 0
  IsMade w (message.Reply m) = is_faulty s m.host ≡ false → was_tagged s w (message.Reply m) ≡ true
  IsMade w (message.ReqViewChange m) = is_faulty s m.host ≡ false → was_tagged s w (message.ReqViewChange m) ≡ true
  IsMade w m = Unit {0}

  pub record IsGenuine (w : World) (m : Message) : Type 0 where
    pub parts : OfMessage s.shape (IsIssued w) (IsAskedFor w) m
    pub made : IsMade w m

  pub stamp_made : (w : World) (x : StampedMessage) → IsMade w (as_message x)
  stamp_made w (stamped.Prepare m) = tt
  stamp_made w (stamped.Commit m) = tt
  stamp_made w (stamped.Checkpoint m) = tt
  stamp_made w (stamped.ViewChange m) = tt
  stamp_made w (stamped.NewView m) = tt
  stamp_made w (stamped.Enter m) = tt
  stamp_made w (stamped.Open m) = tt
  stamp_made w (stamped.Join m) = tt

  -- ---- it stays so

  tagged_grows : (w v : World) → Grows s w v → (m : Message) → was_tagged s w m ≡ true → was_tagged s v m ≡ true
  tagged_grows w v g m e =
      let t : Message → Bool = λ x. same_bytes (spelling x) (spelling m) in
      let a = any_in t w.tagged e in
      any_of t v.tagged a.0 (g.tagged a.0 a.1) a.2

  made_grows : (w v : World) → Grows s w v → (m : Message) → IsMade w m → IsMade v m
  made_grows w v g (message.Reply m) a = λ c. tagged_grows w v g (message.Reply m) (a c)
  made_grows w v g (message.ReqViewChange m) a = λ c. tagged_grows w v g (message.ReqViewChange m) (a c)
  made_grows w v g (message.Request m) a = tt
  made_grows w v g (message.Prepare m) a = tt
  made_grows w v g (message.Commit m) a = tt
  made_grows w v g (message.Checkpoint m) a = tt
  made_grows w v g (message.ViewChange m) a = tt
  made_grows w v g (message.NewView m) a = tt
  made_grows w v g (message.Enter m) a = tt
  made_grows w v g (message.Open m) a = tt
  made_grows w v g (message.Join m) a = tt
  made_grows w v g (message.Resend m) a = tt
  made_grows w v g (message.Log m) a = tt
  made_grows w v g (message.Fetch m) a = tt
  made_grows w v g (message.State m) a = tt
  made_grows w v g (message.Stop m) a = tt

  asked_grows : (w v : World) → Grows s w v → (r : Request) → IsAskedFor w r → IsAskedFor v r
  asked_grows w v g r a t c = let x = a t c in (x.0, g.asked x.0 x.1, x.2)

  pub parts_grow : (w v : World) → Grows s w v → (m : Message) → OfMessage s.shape (IsIssued w) (IsAskedFor w) m → OfMessage s.shape (IsIssued v) (IsAskedFor v) m
  parts_grow w v g m x = record {
    claims = all_more (IsIssued w) (IsIssued v) (λ c a e. issued_grows s w v g c (a e)) (claims_in s.shape m) x.claims;
    requests = all_more (IsAskedFor w) (IsAskedFor v) (λ r a. asked_grows w v g r a) (requests_in m) x.requests;
  }

  pub genuine_grows : (w v : World) → Grows s w v → (m : Message) → IsGenuine w m → IsGenuine v m
  genuine_grows w v g m x = record { parts = parts_grow w v g m x.parts; made = made_grows w v g m x.made }

  -- ---- so nothing is forged

  none_finds : {A : Type 0} (t : A → Bool) (l : List A) → AllByRecursion (λ x. t x ≡ false) l → find t l ≡ None
  none_finds t [] a = refl
  none_finds t (x ∷ l) a = rw a.0 (none_finds t l a.1)

  none_passes : {A : Type 0} (t : A → Bool) (l : List A) → AllByRecursion (λ x. t x ≡ false) l → list_any t l ≡ false
  none_passes t [] a = refl
  none_passes t (x ∷ l) a = rw a.0 (none_passes t l a.1)

  not_issued : (a b : Bool) → (a ≡ true → b ≡ true) → (a && not b) ≡ false
  not_issued true b f = rw (f refl) refl
  not_issued false b f = refl

  not_made : (a b c : Bool) → (a ≡ true → b ≡ false → c ≡ true) → (a && (not b && not c)) ≡ false
  not_made true false c f = rw (f refl refl) refl
  not_made true true c f = refl
  not_made false b c f = refl

  pub no_claim_forged : (w : World) (m : Message) → IsGenuine w m → forged_claim s w m ≡ None
  unfolding forged_claim
  no_claim_forged w m g = none_finds (is_forged_claim s w) (claims_in s.shape m)
      (all_more (IsIssued w) (λ c. is_forged_claim s w c ≡ false) (λ c a. not_issued (verifies s.secret c) (issued s w c) a) (claims_in s.shape m) g.parts.claims)

  request_made : (w : World) (r : Request) → IsAskedFor w r → is_forged_request s w r ≡ false
  request_made w r a = not_made (is_rightly_tagged s.secret r) (is_faulty_client s r.client) (was_asked s w r)
      (λ t c. let x = a t c in any_of (λ q. same_bytes (request_bytes q) (request_bytes r)) w.asked x.0 x.1 x.2)

  no_request_forged : (w : World) (m : Message) → IsGenuine w m → list_any (is_forged_request s w) (requests_in m) ≡ false
  no_request_forged w m g = none_passes (is_forged_request s w) (requests_in m) (all_more (IsAskedFor w) (λ r. is_forged_request s w r ≡ false) (request_made w) (requests_in m) g.parts.requests)

  pub no_tag_forged : (w : World) (m : Message) → IsGenuine w m → has_forged_tag s w m ≡ false
  unfolding has_forged_tag
  no_tag_forged w (message.Reply m) g = not_made _ (is_faulty s m.host) (was_tagged s w (message.Reply m)) (λ t c. g.made c)
  no_tag_forged w (message.ReqViewChange m) g = not_made _ (is_faulty s m.host) (was_tagged s w (message.ReqViewChange m)) (λ t c. g.made c)
  no_tag_forged w (message.Request m) g = no_request_forged w (message.Request m) g
  no_tag_forged w (message.Prepare m) g = no_request_forged w (message.Prepare m) g
  no_tag_forged w (message.Commit m) g = no_request_forged w (message.Commit m) g
  no_tag_forged w (message.Checkpoint m) g = no_request_forged w (message.Checkpoint m) g
  no_tag_forged w (message.ViewChange m) g = no_request_forged w (message.ViewChange m) g
  no_tag_forged w (message.NewView m) g = no_request_forged w (message.NewView m) g
  no_tag_forged w (message.Enter m) g = no_request_forged w (message.Enter m) g
  no_tag_forged w (message.Open m) g = no_request_forged w (message.Open m) g
  no_tag_forged w (message.Join m) g = no_request_forged w (message.Join m) g
  no_tag_forged w (message.Resend m) g = no_request_forged w (message.Resend m) g
  no_tag_forged w (message.Log m) g = no_request_forged w (message.Log m) g
  no_tag_forged w (message.Fetch m) g = no_request_forged w (message.Fetch m) g
  no_tag_forged w (message.State m) g = no_request_forged w (message.State m) g
  no_tag_forged w (message.Stop m) g = no_request_forged w (message.Stop m) g
