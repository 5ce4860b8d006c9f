-- What the ledger answers is what was made, and what is put in stays.
use Rattle.std.proofs.Common.{◌≡◌, ℕ, zero, suc, ◌+◌, ◌-◌, ◌<◌, false, ◌||◌, List, [], ◌∷◌, ◌++◌, length, map, replicate, reverse, slice_get, slice_set, Option, Some, None, option_map, refl, sym, ap, subst, ◌∙◌, inl, inr, arith, eqb}
use Rattle.std.specs.List.{AllByRecursion}
use Rattle.std.specs.BTreeSet.{insert_key}
use Rattle.std.specs.Global.{Vec}
use Rattle.std.proofs.lemmas.Bool.{cases_Bool, eqb-true, eqb-false}
use Rattle.std.proofs.lemmas.List.{reverse-append, reverse-reverse}
use Rattle.std.proofs.lemmas.Option.{same_Some, none-some, slice_get-map}
use Rattle.mb_base.specs.declared.shape.Shape.{Shape}
use Rattle.mb_base.specs.Shapes.{Bytes, IsShape, host_count}
use Rattle.mb_base.specs.Spelling.{IsBytes}
use Rattle.mb_usig.specs.Tags.{same_bytes}
use Rattle.mb_parts.specs.declared.request.Request.{Request}
use Rattle.mb_parts.specs.Bares.{Bare, bare_bytes}
use Rattle.mb_parts.specs.Fits.{FitsRequest, FitsBare}
use Rattle.mb_parts.specs.Counters.{at_counter}
use Rattle.mb_parts.specs.Issued.{is_issued}
use Rattle.mb_msg.specs.declared.message.Message.{Message}
use Rattle.mb_msg.specs.Spelling.{spelling}
use Rattle.mb_world_model.specs.World.{update}
use Rattle.mb_forgery.specs.declared.ledger.Ledger.{Ledger}
use Rattle.mb_forgery.specs.Asked.{HoldsAsked}
use Rattle.mb_forgery.specs.Ledgers.{Keeps, has_bytes}
use Rattle.mb_forgery.specs.Places.{is_there}
use Rattle.mb_forgery.proofs.Places.{at_place}
use Rattle.mb_forgery.proofs.Sets.{key_order, has, has_inserted}
use Rattle.mb_forgery.proofs.Issuing.{says_it, stands_at, not_at_zero}

at_some : {A : Type 0} (P : A → Type 0) (l : List A) (c : ℕ) (x : A) → AllByRecursion P l → at_counter l c ≡ Some x → P x
at_some P [] c x all at = absurd (none-some x at)
at_some P (m ∷ l) c x all at = elim (cases_Bool (eqb c (length l + 1))) [
  | inl same ↦ subst P (same_Some m x (rw same at at)) all.0
  | inr other ↦ at_some P l c x all.1 (rw other at at)
]

module _ (s : Shape) (shape : IsShape s) (l : Ledger) (by_host : ℕ → List Bytes) (asked : List Request) (tagged : List Message) (k : Keeps s l by_host asked tagged) (host : ℕ) (says : Bare) (fits : FitsBare s says) (cert : Bytes) where
  pub zero_not_issued : (counter : ℕ) → counter ≡ 0 → false ≡ is_issued s by_host (record { host = host; counter = counter; says = says; cert = cert })
  unfolding is_issued
  zero_not_issued counter none = not_at_zero s shape says fits (by_host host) ∙ ap (λ c. says_it s shape says fits (at_counter (by_host host) c)) (sym none)

  pub stands_issued : (counter : ℕ) (v : Vec Bytes) → host < host_count s → (counter ≡ 0 → ⊥) → slice_get l.stamps.items host ≡ Some v
      → is_there (slice_get v.items (counter - 1)) (bare_bytes says) ≡ is_issued s by_host (record { host = host; counter = counter; says = says; cert = cert })
  unfolding is_issued
  stands_issued counter v lt some at =
      let same : reverse v.items ≡ by_host host = same_Some (reverse v.items) (by_host host) (sym (ap (option_map (λ (v : Vec Bytes). reverse v.items)) at) ∙ k.stamps host lt) in
      let oldest : v.items ≡ reverse (by_host host) = sym (reverse-reverse v.items) ∙ ap reverse same in
      let next : counter - 1 + 1 ≡ counter = omega (arith, some) in
      ap (λ items. is_there (slice_get items (counter - 1)) (bare_bytes says)) oldest
      ∙ stands_at s shape says fits (by_host host) (counter - 1) (λ x e. at_some IsBytes (by_host host) (counter - 1 + 1) x (k.bytes host lt) (at_place (by_host host) (counter - 1) ∙ e))
      ∙ ap (λ c. says_it s shape says fits (at_counter (by_host host) c)) next

-- ---- nothing yet

at_replicate : {A : Type 0} (n i : ℕ) (x : A) → i < n → slice_get (replicate n x) i ≡ Some x
at_replicate zero i x lt = absurd (omega (arith, lt))
at_replicate (suc n) zero x lt = refl
at_replicate (suc n) (suc i) x lt = at_replicate n i x (omega (arith, lt))

none_in : (o : Option (Vec Bytes)) → option_map (λ (v : Vec Bytes). v.items) o ≡ Some [] → option_map (λ (v : Vec Bytes). reverse v.items) o ≡ Some []
none_in None e = absurd cc
none_in (Some v) e = ap (λ (l : List Bytes). Some (reverse l)) (same_Some v.items [] e)

pub keeps_nothing : (s : Shape) (l : Ledger) → l.shape ≡ s → map (λ (v : Vec Bytes). v.items) l.stamps.items ≡ replicate (host_count s) [] → HoldsAsked l.asked [] → l.tagged.keys ≡ [] → Keeps s l (λ h. []) [] []
keeps_nothing s l shape stamps asks tags = record {
  shape = shape;
  bytes = λ h lt. tt;
  stamps = λ h lt. none_in (slice_get l.stamps.items h) (sym (slice_get-map (λ (v : Vec Bytes). v.items) l.stamps.items h) ∙ ap (λ (items : List (List Bytes)). slice_get items h) stamps ∙ at_replicate (host_count s) h [] lt);
  fits = tt;
  asked = asks;
  tagged = λ bytes. ap (has bytes) tags;
}

-- ---- what is put in

set_here : {A : Type 0} (l : List A) (i : ℕ) (x y : A) → slice_get l i ≡ Some y → slice_get (slice_set l i x) i ≡ Some x
set_here [] i x y at = absurd (none-some y at)
set_here (z ∷ l) zero x y at = refl
set_here (z ∷ l) (suc i) x y at = set_here l i x y at

set_elsewhere : {A : Type 0} (l : List A) (i j : ℕ) (x : A) → (j ≡ i → ⊥) → slice_get (slice_set l i x) j ≡ slice_get l j
set_elsewhere [] i j x ne = refl
set_elsewhere (z ∷ l) zero zero x ne = absurd (ne refl)
set_elsewhere (z ∷ l) zero (suc j) x ne = refl
set_elsewhere (z ∷ l) (suc i) zero x ne = refl
set_elsewhere (z ∷ l) (suc i) (suc j) x ne = set_elsewhere l i j x (λ e. ne (ap suc e))

module _ (s : Shape) (l m : Ledger) (by_host : ℕ → List Bytes) (asked : List Request) (tagged : List Message) (k : Keeps s l by_host asked tagged) (shape : m.shape ≡ l.shape) where
  -- one more request
  pub keeps_asked : (r : Request) → FitsRequest s r → m.stamps ≡ l.stamps → HoldsAsked m.asked (r ∷ asked) → m.tagged ≡ l.tagged → Keeps s m by_host (r ∷ asked) tagged
  keeps_asked r fit stamps holds tags = record {
    shape = shape ∙ k.shape;
    bytes = k.bytes;
    stamps = λ h lt. ap (λ st. option_map (λ v. reverse v.items) (slice_get st.items h)) stamps ∙ k.stamps h lt;
    fits = (fit, k.fits);
    asked = holds;
    tagged = λ bytes. ap (λ t. has_bytes t bytes) tags ∙ k.tagged bytes;
  }

  -- one more reply or wish
  pub keeps_tagged : (x : Message) (v : Vec ℕ) → v.items ≡ spelling x → m.stamps ≡ l.stamps → m.tagged.keys ≡ insert_key key_order l.tagged.keys v → m.asked ≡ l.asked → Keeps s m by_host asked (x ∷ tagged)
  keeps_tagged x v is stamps keys asks = record {
    shape = shape ∙ k.shape;
    bytes = k.bytes;
    stamps = λ h lt. ap (λ st. option_map (λ v. reverse v.items) (slice_get st.items h)) stamps ∙ k.stamps h lt;
    fits = k.fits;
    asked = subst (λ a. HoldsAsked a asked) (sym asks) k.asked;
    tagged = λ bytes. ap (has bytes) keys ∙ has_inserted bytes l.tagged.keys v ∙ ap (λ z. same_bytes z bytes || has bytes l.tagged.keys) is ∙ ap (λ b. same_bytes (spelling x) bytes || b) (k.tagged bytes);
  }

  -- one more message that a host stamped
  module _ (host : ℕ) (v u : Vec Bytes) (bare : Bytes) (lt : host < host_count s) (fit : IsBytes bare) (at : slice_get l.stamps.items host ≡ Some v) (is : u.items ≡ v.items ++ bare ∷ []) (set : m.stamps.items ≡ slice_set l.stamps.items host u) where
    stamps_now : (h : ℕ) → h < host_count s → option_map (λ v. reverse v.items) (slice_get m.stamps.items h) ≡ Some (update by_host host (bare ∷ by_host host) h)
    stamps_now h within = elim (cases_Bool (eqb h host)) [
      | inl same ↦ rw same (
          let here : h ≡ host = eqb-true h host same in
          let before : reverse v.items ≡ by_host host = same_Some (reverse v.items) (by_host host) (sym (ap (option_map (λ (v : Vec Bytes). reverse v.items)) at) ∙ k.stamps host lt) in
          ap (λ o. option_map (λ (v : Vec Bytes). reverse v.items) o) (ap (λ items. slice_get items h) set ∙ ap (slice_get (slice_set l.stamps.items host u)) here ∙ set_here l.stamps.items host u v at)
          ∙ ap Some (ap reverse is ∙ reverse-append v.items (bare ∷ []) ∙ ap (λ z. bare ∷ z) before))
      | inr other ↦ rw other (ap (λ o. option_map (λ (v : Vec Bytes). reverse v.items) o) (ap (λ items. slice_get items h) set ∙ set_elsewhere l.stamps.items host h u (eqb-false h host other)) ∙ k.stamps h within)
    ]

    bytes_now : (h : ℕ) → h < host_count s → AllByRecursion IsBytes (update by_host host (bare ∷ by_host host) h)
    bytes_now h within = elim (cases_Bool (eqb h host)) [
      | inl same ↦ rw same (fit, k.bytes host lt)
      | inr other ↦ rw other (k.bytes h within)
    ]

    pub keeps_stamp : m.asked ≡ l.asked → m.tagged ≡ l.tagged → Keeps s m (update by_host host (bare ∷ by_host host)) asked tagged
    keeps_stamp asks tags = record {
      shape = shape ∙ k.shape;
      bytes = bytes_now;
      stamps = stamps_now;
      fits = k.fits;
      asked = subst (λ a. HoldsAsked a asked) (sym asks) k.asked;
      tagged = λ bytes. ap (λ t. has_bytes t bytes) tags ∙ k.tagged bytes;
    }
