-- One byte string more is taken.
use Rattle.std.proofs.Common.{◌≡◌, ℕ, List, [], ◌∷◌, ◌++◌, Result, Ok, Err, sym, ap, subst, ◌∙◌}
use Rattle.std.specs.Prelude.{OnOk}
use Rattle.std.proofs.lemmas.List.{append-nil}
use Rattle.std.proofs.lemmas.Result.{on_ok_weaker}
use Rattle.mb_base.specs.Shapes.{Bytes}
use Rattle.mb_base.specs.declared.shape.Shape.{Shape}
use Rattle.mb_parts.specs.Bares.{Bare}
use Rattle.mb_parts.specs.Claims.{Claim}
use Rattle.mb_parts.specs.Decoded.{DecodesWhole}
use Rattle.mb_parts.specs.declared.fault.Undecoded.{Undecoded}
use Rattle.mb_parts.specs.declared.fault.Undecoded.TheVariants.{Malformed}
use Rattle.mb_msg.specs.declared.message.Message.{Message}
use Rattle.mb_msg.specs.declared.stamped.Shown.{Shown}
use Rattle.mb_msg.specs.Reading.{message_of}
use Rattle.mb_model.specs.Compared.{inside_some}
use Rattle.mb_model.specs.Inside.{claims_in, if_read}
use Rattle.mb_audit.specs.Stamps.{claims_of, claims_among}
use Rattle.mb_learn.specs.declared.heard.Heard.{Heard}
use Rattle.mb_learn.specs.Hearing.{Hears, HearsAll, HearsOf, AreWhole, KeepsPlace, Holds, Takes, SaysToo}
use Rattle.mb_learn.specs.Shown.{shown_in, shown_of, shown_among}
use Rattle.mb_learn.proofs.Going.{keeps_then}
use Rattle.mb_learn.proofs.Learning.{claims_more, shown_more}

-- ---- a message

-- what it shows whole, and then its certificates
pub takes_message : (old mid new : Heard) (more : List Shown) (certs : List Claim) → Holds more old mid → Takes certs mid new → (s : Shape) (secret : Bytes) (claims : List Claim) (all : List Shown) (lists : ℕ → List Bare) → HearsAll s secret claims all lists old
    → (longer : ℕ → List Bare) × HearsAll s secret (claims ++ certs) (all ++ more) longer new
takes_message old mid new more certs p q s secret claims all lists h = q.claims_too s secret claims (all ++ more) lists (record { hears = p.shows_too s secret claims claims all lists h.hears; whole = h.whole })

-- ---- a certificate

pub takes_one : (old mid new : Heard) (c : Claim) → SaysToo c old mid → KeepsPlace mid new
    → ((s : Shape) (secret : Bytes) (claims said : List Claim) (all : List Shown) (lists : ℕ → List Bare) → Hears s secret claims said all lists mid → AreWhole s secret claims lists
    → (longer : ℕ → List Bare) × Hears s secret (claims ++ c ∷ []) said all longer new × AreWhole s secret (claims ++ c ∷ []) longer) → Takes (c ∷ []) old new
takes_one old mid new c says keeps follows = record {
  claims_too = λ s secret claims all lists h.
      let r = follows s secret claims (claims ++ c ∷ []) all lists (says.says_too s secret claims claims all lists h.hears) h.whole in
      (r.0, record { hears = r.1; whole = r.2 });
  keeps = keeps_then old mid new says.keeps keeps;
}

-- ... where memory does not run out
pub takes_ok : {A E : Type 0} (r : Result A E) (old mid new : Heard) (c : Claim) → SaysToo c old mid → OnOk r (KeepsPlace mid new)
    → ((s : Shape) (secret : Bytes) (claims said : List Claim) (all : List Shown) (lists : ℕ → List Bare) → Hears s secret claims said all lists mid → AreWhole s secret claims lists
    → OnOk r ((longer : ℕ → List Bare) × Hears s secret (claims ++ c ∷ []) said all longer new × AreWhole s secret (claims ++ c ∷ []) longer)) → OnOk r (Takes (c ∷ []) old new)
takes_ok (Ok v) old mid new c says keeps follows = takes_one old mid new c says keeps follows
takes_ok (Err e) old mid new c says keeps follows = tt

-- ---- a byte string

module _ (s : Shape) (taken : List Bytes) (bytes : Bytes) where
  module _ (secret : Bytes) where
    heard_push : (more : List Claim) (all : List Shown) (lists : ℕ → List Bare) (t : Heard) → claims_of s bytes ≡ more → shown_of s bytes ≡ all → HearsAll s secret (claims_among s taken ++ more) (shown_among s taken ++ all) lists t
        → HearsOf s secret (taken ++ bytes ∷ []) lists t
    heard_push more all lists t claims_are all_are h =
        subst (λ (l : List Claim). HearsAll s secret l (shown_among s (taken ++ bytes ∷ [])) lists t) (sym (claims_more s taken bytes ∙ ap (λ (l : List Claim). claims_among s taken ++ l) claims_are))
        (subst (λ (l : List Shown). HearsAll s secret (claims_among s taken ++ more) l lists t) (sym (shown_more s taken bytes ∙ ap (λ (l : List Shown). shown_among s taken ++ l) all_are)) h)

    -- that is a message
    pub hears_read : {A E : Type 0} (r : Result A E) (m : Message) (new : Heard) → message_of s bytes ≡ Ok m → OnOk r ((longer : ℕ → List Bare) × HearsAll s secret (claims_among s taken ++ claims_in s m) (shown_among s taken ++ shown_in m) longer new)
        → OnOk r ((longer : ℕ → List Bare) × HearsOf s secret (taken ++ bytes ∷ []) longer new)
    hears_read r m new is =
        on_ok_weaker r (λ h. (h.0, heard_push (claims_in s m) (shown_in m) h.0 new (ap (λ (x : Result Message ℕ). inside_some (claims_in s) (if_read x)) is) (ap (λ (x : Result Message ℕ). inside_some shown_in (if_read x)) is) h.1))

    -- that is none
    pub hears_unread : (at : ℕ) (lists : ℕ → List Bare) (t : Heard) → message_of s bytes ≡ Err at → HearsOf s secret taken lists t → (longer : ℕ → List Bare) × HearsOf s secret (taken ++ bytes ∷ []) longer t
    hears_unread at lists t is h = (
      lists,
      heard_push [] [] lists t (ap (λ (x : Result Message ℕ). inside_some (claims_in s) (if_read x)) is) (ap (λ (x : Result Message ℕ). inside_some shown_in (if_read x)) is)
          (subst (λ (l : List Claim). HearsAll s secret l (shown_among s taken ++ []) lists t) (sym (append-nil (claims_among s taken)))
          (subst (λ (l : List Shown). HearsAll s secret (claims_among s taken) l lists t) (sym (append-nil (shown_among s taken))) h)),
    )

-- what the bytes are then
pub malformed : (s : Shape) (bytes : Bytes) (d : Result Message Undecoded) (e : Undecoded) (at : ℕ) → DecodesWhole d (message_of s bytes) → d ≡ Err e → e ≡ Malformed at → message_of s bytes ≡ Err at
malformed s bytes d e at whole is named = subst (λ (r : Result Message Undecoded). DecodesWhole r (message_of s bytes)) (is ∙ ap (λ (x : Undecoded). Err x) named) whole

-- three clauses of one result
pub ok_three : {A E P Q R S : Type 0} (r : Result A E) → (P → Q → R → S) → OnOk r P → OnOk r Q → OnOk r R → OnOk r S
ok_three (Ok v) f p q w = f p q w
ok_three (Err e) f p q w = tt
