-- What is kept of what a correct host sent, one message after the other.
use Rattle.std.proofs.Common.{◌≡◌, ℕ, zero, suc, ◌+◌, List, [], ◌∷◌, ◌++◌, map, take, Option, Some, None, refl, sym, ap, ◌∙◌, inl, inr, append_assoc, add-one, eq-eqb}
use Rattle.std.specs.Prelude.{reverse, filter_map, fold, slice_get}
use Rattle.std.specs.Option.{option_map, option_to_list}
use Rattle.std.proofs.lemmas.Bool.{cases_eq, ne_eqb}
use Rattle.std.proofs.lemmas.List.{reverse-append}
use Rattle.std.proofs.lemmas.List.Elements.{filter_map-append}
use Rattle.mb_base.specs.Shapes.{Bytes}
use Rattle.mb_base.specs.declared.shape.Shape.{Shape}
use Rattle.mb_parts.specs.declared.request.Request.{Request}
use Rattle.mb_msg.specs.declared.message.Message.{Message}
use Rattle.mb_parts.specs.Bares.{bare_bytes}
use Rattle.mb_msg.specs.declared.stamped.Stamped.{Stamped}
use Rattle.mb_msg.specs.Stamps.{as_stamped, bare_of}
use Rattle.mb_model.specs.Sending.{Letter}
use Rattle.mb_model.proofs.Options.{option_cases}
use Rattle.mb_replica.specs.declared.told.Outgoing.{Outgoing}
use Rattle.mb_replica.specs.declared.told.Said.{Said}
use Rattle.mb_replica.specs.Told.{as_outgoing, said_in, said_of}
use Rattle.mb_world_model.specs.World.{update, with_tagged}
use Rattle.mb_forgery.specs.declared.ledger.Ledger.{Ledger}
use Rattle.mb_forgery.specs.Ledgers.{Keeps}
use Rattle.mb_members.specs.Stamps.{bare_in}
use Rattle.mb_members.proofs.ListLaws.{some_is}
use Rattle.mb_members.proofs.KeepLaws.{keeps_same}

-- ---- what is told of a message

-- what is stamped in it, as bytes
pub bare_said : (letter : Letter) → option_map (λ (s : Said). s.bare) (said_in letter.says) ≡ bare_in letter
bare_said letter = of_stamped (as_stamped letter.says) where
  of_stamped : (o : Option Stamped) → option_map (λ (s : Said). s.bare) (option_map said_of o) ≡ option_map (λ (m : Stamped). bare_bytes (bare_of m)) o
  of_stamped None = refl
  of_stamped (Some m) = refl

-- ---- the messages so far

-- the next one, and those up to it
pub record IsNext (letters : List Letter) (i : ℕ) (sent : Outgoing) (letter : Letter) : Type 0 where
  pub there : slice_get letters i ≡ Some letter
  pub sent_is : sent ≡ as_outgoing letter
  pub taken : take (i + 1) letters ≡ take i letters ++ letter ∷ []

pub next_letter : (letters : List Letter) (i : ℕ) (sent : Outgoing) → slice_get (map as_outgoing letters) i ≡ Some sent → (letter : Letter) × IsNext letters i sent letter
next_letter [] i sent e = absurd cc
next_letter (l ∷ ls) zero sent e = (l, record { there = refl; sent_is = sym (some_is (as_outgoing l) sent e); taken = refl })
next_letter (l ∷ ls) (suc i) sent e =
    let more = next_letter ls i sent e in
    let is = more.1 in
    let on : take (suc i) ls ≡ take i ls ++ more.0 ∷ [] = rw (← add-one i) is.taken in
    (more.0, record { there = is.there; sent_is = is.sent_is; taken = rw (add-one (suc i)) (ap (λ (r : List Letter). l ∷ r) on) })

-- ---- what is kept of them

fold_behind : (t : List Message) (letters : List Letter) (letter : Letter) → fold with_tagged t (letters ++ letter ∷ []) ≡ with_tagged (fold with_tagged t letters) letter
fold_behind t [] letter = refl
fold_behind t (l ∷ ls) letter = fold_behind (with_tagged t l) ls letter

one_bare : (letter : Letter) → filter_map bare_in (letter ∷ []) ≡ option_to_list (bare_in letter)
one_bare letter = elim (option_cases (bare_in letter)) [ inl none ↦ rw none refl | inr (b, some) ↦ rw some refl ]

turned : (o : Option Bytes) → reverse (option_to_list o) ≡ option_to_list o
turned None = refl
turned (Some b) = refl

bares_behind : (letters : List Letter) (letter : Letter) → reverse (filter_map bare_in (letters ++ letter ∷ [])) ≡ option_to_list (bare_in letter) ++ reverse (filter_map bare_in letters)
bares_behind letters letter =
    ap reverse (filter_map-append bare_in letters (letter ∷ []) ∙ ap (λ (bs : List Bytes). filter_map bare_in letters ++ bs) (one_bare letter))
    ∙ (reverse-append (filter_map bare_in letters) (option_to_list (bare_in letter)) ∙ ap (λ (bs : List Bytes). bs ++ reverse (filter_map bare_in letters)) (turned (bare_in letter)))

module _ (f : ℕ → List Bytes) (h : ℕ) (letters : List Letter) (letter : Letter) where
  abbrev pub so_far : ℕ → List Bytes
  so_far = update f h (reverse (filter_map bare_in letters) ++ f h)

  stamps_next : (g : ℕ) → update so_far h (option_to_list (bare_in letter) ++ so_far h) g ≡ update f h (reverse (filter_map bare_in (letters ++ letter ∷ [])) ++ f h) g
  stamps_next g = elim (cases_eq g h) [
    | inl same ↦ rw (same, eq-eqb h h refl, bares_behind letters letter) (sym (append_assoc (option_to_list (bare_in letter)) (reverse (filter_map bare_in letters)) (f h)))
    | inr other ↦ rw (ne_eqb g h other) refl
  ]

  pub keeps_next : (s : Shape) (l : Ledger) (a : List Request) (t : List Message) → Keeps s l (update so_far h (option_to_list (bare_in letter) ++ so_far h)) a (with_tagged (fold with_tagged t letters) letter)
      → Keeps s l (update f h (reverse (filter_map bare_in (letters ++ letter ∷ [])) ++ f h)) a (fold with_tagged t (letters ++ letter ∷ []))
  keeps_next s l a t k =
      rw (fold_behind t letters letter) (keeps_same s l (update so_far h (option_to_list (bare_in letter) ++ so_far h)) (update f h (reverse (filter_map bare_in (letters ++ letter ∷ [])) ++ f h)) a (with_tagged (fold with_tagged t letters) letter) stamps_next k)

-- nothing yet
pub keeps_none : (s : Shape) (l : Ledger) (f : ℕ → List Bytes) (h : ℕ) (a : List Request) (t : List Message) → Keeps s l f a t → Keeps s l (update f h ([] ++ f h)) a t
keeps_none s l f h a t k = keeps_same s l f (update f h (f h)) a t (λ g. elim (cases_eq g h) [
  | inl same ↦ rw (same, eq-eqb h h refl) refl
  | inr other ↦ rw (ne_eqb g h other) refl
]) k
