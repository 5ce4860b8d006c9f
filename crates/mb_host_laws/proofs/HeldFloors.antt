-- The floor certificate with which a host's log was cut fits and is good, and the floors in it are hashed. So the floors that gates remember fit.
use Rattle.std.proofs.Common.{◌≡◌, ℕ, ◌+◌, true, ◌&&◌, List, [], ◌∷◌, length, refl, sym, ap, subst, ◌∙◌, inl, inr, arith, Option, Some, None}
use Rattle.std.specs.Prelude.{◌%◌, map, filter, filter_map, nat_lt, nat_le, slice_get, option_and_then}
use Rattle.std.specs.Option.{option_or}
use Rattle.std.specs.List.{AllByRecursion}
use Rattle.std.proofs.lemmas.Bool.{and_parts, cases_Bool, leb-true}
use Rattle.std.proofs.lemmas.List.{length-take-le, length-map}
use Rattle.sha2.specs.Sha256.{sha256}
use Rattle.mb_base.specs.Shapes.{Bytes, interval, span, quorum}
use Rattle.mb_base.specs.Spelling.{Rises}
use Rattle.mb_usig.specs.Tags.{same_bytes}
use Rattle.mb_usig.proofs.Laws.{same_bytes-true}
use Rattle.mb_parts.specs.declared.floor.Floor.{Floor}
use Rattle.mb_parts.specs.declared.certificates.FloorMember.{FloorMember}
use Rattle.mb_parts.specs.declared.certificates.FloorCert.{FloorCert}
use Rattle.mb_parts.specs.Spelling.{floors_bytes}
use Rattle.mb_parts.specs.Bares as bare
use Rattle.mb_parts.specs.Claims.{Claim}
use Rattle.mb_parts.specs.Certificates.{same_floor}
use Rattle.mb_parts.specs.Fits.{IsPosition, FitsFloors, FitsFloorMember}
use Rattle.mb_msg.specs.declared.message.Body.{Body}
use Rattle.mb_msg.specs.declared.message.Body.TheVariants.{Whole}
use Rattle.mb_msg.specs.declared.normal.Checkpoint.{Checkpoint}
use Rattle.mb_msg.specs.declared.normal.Floors.{Floors}
use Rattle.mb_msg.specs.Bodies.{body_digest, FitsBody, whole_body}
use Rattle.mb_msg.specs.Fits.{FitsFloorsBody}
use Rattle.mb_msg.specs.Spelling.{floors_body_bytes}
use Rattle.mb_model.specs.Histories.{History, Identity, counter_of}
use Rattle.mb_model.specs.Stable.{checkpoint_in, first_agreed, KeptFloor, floor_in_body, kept_floor, checkpoints_at, same_kept, floor_member, floor_cert, kept_floors, floor_at, floor_from, is_kept, floor_counter, cut_by, log_floor, low_of}
use Rattle.mb_model.proofs.Options.{or_some, map_some}
use Rattle.mb_model.proofs.RisingLists.{RiseFrom, rise_passed, rise_take, rise_lower}
use Rattle.mb_host_laws.proofs.Cases.{then_some_of, whole_is}
use Rattle.mb_host_laws.specs.Rests.{Each}
use Rattle.mb_host_laws.proofs.OwnKnown.{GoodFloor, Known}
use Rattle.mb_host_laws.proofs.HeldStable.{agreed_shape, GoodCheckpoint, KeptAt, sender_of, kept_rise, whole_span, whole_interval, stable_good}

picked_one : {A B : Type 0} (key : A → ℕ) (P : A → Type 0) (key' : B → ℕ) (Q : B → Type 0) (f : A → Option B) → ((x : A) (y : B) → P x → f x ≡ Some y → (key' y ≡ key x) × Q y) → (n : ℕ) (x : A) (l : List A) → RiseFrom key P n (x ∷ l)
    → (o : Option B) → f x ≡ o → RiseFrom key' Q (key x + 1) (filter_map f l) → RiseFrom key' Q n (filter_map f (x ∷ l))
picked_one key P key' Q f g n x l r None e more = rw e (rise_lower key' Q n (key x + 1) (filter_map f l) (omega (arith, r.0)) more)
picked_one key P key' Q f g n x l r (Some y) e more = let p = g x y r.1 e in rw e (omega (arith, r.0, p.0), p.1, subst (λ (k : ℕ). RiseFrom key' Q (k + 1) (filter_map f l)) (sym p.0) more)

-- what is picked out of a rising list, one for one at most, rises
rise_picked : {A B : Type 0} (key : A → ℕ) (P : A → Type 0) (key' : B → ℕ) (Q : B → Type 0) (f : A → Option B) → ((x : A) (y : B) → P x → f x ≡ Some y → (key' y ≡ key x) × Q y) → (n : ℕ) (l : List A) → RiseFrom key P n l → RiseFrom key' Q n (filter_map f l)
rise_picked key P key' Q f g n [] r = tt
rise_picked key P key' Q f g n (x ∷ l) r = picked_one key P key' Q f g n x l r (f x) refl (rise_picked key P key' Q f g (key x + 1) l r.2)

module _ {S : Type 0} (self : Identity S) (Good : Claim → Type 0) (Text : Bytes → Type 0) where
  abbrev AllKnown : History → Type 0
  AllKnown d = Each (Known self Good Text) d

  abbrev IsGood : FloorCert → Type 0
  IsGood c = GoodFloor self Good Text c

  some_cert : (x y : FloorCert) → Some x ≡ Some y → x ≡ y
  some_cert x y e = cc

  -- a kept whole CHECKPOINT of a position, with its floors
  record IsKeptFloor (pos : ℕ) (k : KeptFloor) : Type 0 where
    good : GoodCheckpoint self Good Text k.message
    place : k.message.pos ≡ pos
    body : k.message.body ≡ Whole (record { floors = k.floors })

  abbrev sender : KeptFloor → ℕ
  sender k = k.message.ui.host

  kept_is : (a b : KeptFloor) → Some a ≡ Some b → a ≡ b
  kept_is a b e = cc

  picked : (owner pos : ℕ) (m : Checkpoint) (k : KeptFloor) → KeptAt self Good Text pos m → kept_floor owner m ≡ Some k → (sender k ≡ m.ui.host) × IsKeptFloor pos k
  picked owner pos m k a e =
      let t = then_some_of (floor_in_body owner m) (whole_body m.body) k e in
      let u = map_some (λ (f : Floor). record { message = m; floors = t.0.floors; floor = f }) (option_and_then (λ f. f) (slice_get t.0.floors owner)) k t.2 in
      let body : m.body ≡ Whole t.0 = whole_is m.body t.0 t.1 in
      subst (λ (y : KeptFloor). (sender y ≡ m.ui.host) × IsKeptFloor pos y) u.2 (refl, record { good = a.good; place = a.place; body = body })

  floors_rise : (d : History) → AllKnown d → (owner pos : ℕ) → RiseFrom sender (IsKeptFloor pos) 0 (kept_floors self.shape d owner pos)
  floors_rise d k owner pos = rise_picked (sender_of self Good Text) (KeptAt self Good Text pos) sender (IsKeptFloor pos) (kept_floor owner) (λ m y a e. picked owner pos m y a e) 0 (checkpoints_at self.shape d pos) (kept_rise self Good Text d k pos)

  abbrev Agrees : ℕ → KeptFloor → KeptFloor → Type 0
  Agrees pos x k = IsKeptFloor pos k × (same_kept self.shape x k ≡ true)

  member_rises : (P : KeptFloor → Type 0) (n : ℕ) (l : List KeptFloor) → RiseFrom sender P n l → Rises n (map (λ (x : FloorMember). x.host) (map (floor_member self.shape) l))
  member_rises P n [] r = tt
  member_rises P n (m ∷ l) r = (r.0, member_rises P (sender m + 1) l r.2)

  members_fit : (pos : ℕ) (x : KeptFloor) (n : ℕ) (l : List KeptFloor) → RiseFrom sender (Agrees pos x) n l → AllByRecursion (FitsFloorMember self.shape) (map (floor_member self.shape) l)
  members_fit pos x n [] r = tt
  members_fit pos x n (m ∷ l) r =
      let g = r.1.0.good in
      let floors : FitsFloors self.shape m.floors = subst (λ (b : Body Floors). FitsBody (FitsFloorsBody self.shape) b) r.1.0.body g.body in
      (record { host = g.ui.host; counter = g.ui.counter; floors = floors; cert = g.ui.cert }, members_fit pos x (sender m + 1) l r.2)

  abbrev floor_claim : ℕ → Bytes → FloorMember → Claim
  floor_claim pos state n = record { host = n.host; counter = n.counter; says = bare.Checkpoint pos state (sha256 (floors_bytes n.floors)); cert = n.cert }

  members_good : (pos : ℕ) (x : KeptFloor) (state : Bytes) → x.message.state ≡ state → (n : ℕ) (l : List KeptFloor) → RiseFrom sender (Agrees pos x) n l → AllByRecursion Good (map (floor_claim pos state) (map (floor_member self.shape) l))
  members_good pos x state same n [] r = tt
  members_good pos x state same n (m ∷ l) r =
      let has : m.message.state ≡ state = sym (same_bytes-true x.message.state m.message.state (and_parts (same_bytes x.message.state m.message.state) (same_floor (Some x.floor) (Some m.floor)) r.1.1).0) ∙ same in
      let claim : Good (record { host = m.message.ui.host; counter = m.message.ui.counter; says = bare.Checkpoint m.message.pos m.message.state (sha256 (floors_bytes m.floors)); cert = m.message.ui.cert }) =
      subst (λ (b : Body Floors). Good (record { host = m.message.ui.host; counter = m.message.ui.counter; says = bare.Checkpoint m.message.pos m.message.state (body_digest floors_body_bytes b); cert = m.message.ui.cert })) r.1.0.body r.1.0.good.claim in
      (subst (λ (p : ℕ). Good (floor_claim p state (floor_member self.shape m))) r.1.0.place (subst (λ (t : Bytes). Good (floor_claim m.message.pos t (floor_member self.shape m))) has claim), members_good pos x state same (sender m + 1) l r.2)

  members_texts : (pos : ℕ) (x : KeptFloor) (n : ℕ) (l : List KeptFloor) → RiseFrom sender (Agrees pos x) n l → AllByRecursion Text (map (λ (m : FloorMember). floors_bytes m.floors) (map (floor_member self.shape) l))
  members_texts pos x n [] r = tt
  members_texts pos x n (m ∷ l) r = (r.1.0.good.texts (record { floors = m.floors }) r.1.0.body, members_texts pos x (sender m + 1) l r.2)

  cert_good : (pos : ℕ) (x : KeptFloor) (r : List KeptFloor) → pos % interval self.shape ≡ 0 → RiseFrom sender (Agrees pos x) 0 r → length r ≡ quorum self.shape → (c : FloorCert) → floor_cert self.shape pos r ≡ Some c → IsGood c
  cert_good pos x [] whole rise many c e = absurd cc
  cert_good pos x (m ∷ r) whole rise many c e =
      let made : FloorCert = record { pos = pos; state = m.message.state; members = map (floor_member self.shape) (m ∷ r) } in
      let state : x.message.state ≡ m.message.state = same_bytes-true x.message.state m.message.state (and_parts (same_bytes x.message.state m.message.state) (same_floor (Some x.floor) (Some m.floor)) rise.1.1).0 in
      let g = rise.1.0.good in
      let place : IsPosition pos = subst IsPosition rise.1.0.place g.pos in
      subst IsGood (some_cert made c e) (record {
        fits = record { pos = (place.0, (place.1, whole)); state = g.state; members = (length-map (m ∷ r) (floor_member self.shape) ∙ many, (member_rises (Agrees pos x) 0 (m ∷ r) rise, members_fit pos x 0 (m ∷ r) rise)) };
        claims = members_good pos x m.message.state state 0 (m ∷ r) rise;
        texts = members_texts pos x 0 (m ∷ r) rise;
      })

  at_good : (d : History) → AllKnown d → (owner pos : ℕ) → pos % interval self.shape ≡ 0 → (c : FloorCert) → floor_at self.shape d owner pos ≡ Some c → IsGood c
  unfolding floor_at
  at_good d k owner pos whole c e =
      let all : List KeptFloor = kept_floors self.shape d owner pos in
      let t = then_some_of (floor_cert self.shape pos) (first_agreed (same_kept self.shape) (quorum self.shape) all all) c e in
      let g = agreed_shape (same_kept self.shape) (quorum self.shape) all all t.0 t.1 in
      let rise = rise_take sender (Agrees pos g.0) (quorum self.shape) 0 (filter (same_kept self.shape g.0) all) (rise_passed sender (IsKeptFloor pos) (same_kept self.shape g.0) 0 all (floors_rise d k owner pos)) in
      let many = length-take-le (quorum self.shape) (filter (same_kept self.shape g.0) all) (leb-true (quorum self.shape) _ g.1) in
      cert_good pos g.0 t.0 whole (subst (λ (l : List KeptFloor). RiseFrom sender (Agrees pos g.0) 0 l) g.2 rise) (ap length (sym g.2) ∙ many) c t.2

  from_good : (d : History) → AllKnown d → (owner low : ℕ) → low % interval self.shape ≡ 0 → (c : FloorCert) → floor_from self.shape d owner low ≡ Some c → IsGood c
  from_good d k owner low whole c e = elim (or_some (floor_at self.shape d owner (low + span self.shape)) (option_or (floor_at self.shape d owner (low + interval self.shape)) (floor_at self.shape d owner low)) c e) [
    | inl far ↦ at_good d k owner (low + span self.shape) (whole_span self Good Text low whole) c far
    | inr e ↦ elim (or_some (floor_at self.shape d owner (low + interval self.shape)) (floor_at self.shape d owner low) c e) [
      | inl near ↦ at_good d k owner (low + interval self.shape) (whole_interval self Good Text low whole) c near
      | inr here ↦ at_good d k owner low whole c here
    ]
  ]

  cut_good : (n : ℕ) (old new : Option FloorCert) (c : FloorCert) → ((c : FloorCert) → old ≡ Some c → IsGood c) → ((c : FloorCert) → new ≡ Some c → IsGood c) → cut_by self n old new ≡ Some c → IsGood c
  cut_good n old None c o w e = o c e
  cut_good n old (Some x) c o w e = elim (cases_Bool (nat_lt (floor_counter self old) (floor_counter self (Some x)) && nat_le (floor_counter self (Some x)) n)) [
    | inl cuts ↦ w c (rw cuts at e)
    | inr stays ↦ o c (rw stays at e)
  ]

  -- The certificate with which the log was cut is good.
  pub floor_good : (d : History) → AllKnown d → (c : FloorCert) → log_floor self d ≡ Some c → IsGood c
  unfolding log_floor
  floor_good [] k c e = absurd cc
  floor_good (x ∷ d) k c e = elim (cases_Bool (is_kept (low_of self d) (checkpoint_in x))) [
    | inl kept ↦ cut_good (counter_of (x ∷ d)) (log_floor self d) (floor_from self.shape (x ∷ d) self.host (low_of self (x ∷ d))) c (λ y is. floor_good d k.1 y is)
        (λ y is. from_good (x ∷ d) k self.host (low_of self (x ∷ d)) (stable_good self Good Text (x ∷ d) k).fits.pos.1 y is) (rw kept at e)
    | inr other ↦ floor_good d k.1 c (rw other at e)
  ]
