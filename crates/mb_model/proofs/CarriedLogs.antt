-- Shown logs under two tests of claims. Each reason for a fault asks the test of claims alone, and a log without a fault passed each of them.
use Rattle.std.proofs.Common.{◌≡◌, ℕ, ◌-◌, Bool, true, false, ◌&&◌, ◌||◌, not, List, [], ◌∷◌, ◌++◌, length, map, refl, sym, subst, inl, inr, ◌⊎◌, Option, Some, None}
use Rattle.std.specs.Prelude.{◌==◌, nat_lt, if◌then◌else◌}
use Rattle.std.specs.Bool.{then_some}
use Rattle.std.specs.Option.{option_or}
use Rattle.std.specs.List.{list_all, flat_map}
use Rattle.std.proofs.lemmas.Bool.{and_parts, and_from}
use Rattle.std.proofs.lemmas.Option.{none-some}
use Rattle.std.proofs.lemmas.List.Concat.{flat_map-cons}
use Rattle.sha2.specs.Sha256.{sha256}
use Rattle.mb_base.specs.Shapes.{Bytes}
use Rattle.mb_base.specs.declared.shape.Shape.{Shape}
use Rattle.mb_usig.specs.Tags.{same_bytes}
use Rattle.mb_parts.specs.declared.floor.Floor.{Floor}
use Rattle.mb_parts.specs.declared.certificates.FloorCert.{FloorCert}
use Rattle.mb_parts.specs.Bares.{batch_digest}
use Rattle.mb_parts.specs.Claims.{Claim, stable_claims, inner_claims}
use Rattle.mb_parts.specs.Certificates.{is_stable, inner_valid}
use Rattle.mb_parts.specs.CheckedCertificates.{Carries}
use Rattle.mb_parts.proofs.CertificateLaws.{carries_left, carries_right, stable_more, floor_more, inner_more, permits_more}
use Rattle.mb_msg.specs.declared.message.Body.{Body}
use Rattle.mb_msg.specs.declared.message.Body.TheVariants.{Whole, Bare as Short}
use Rattle.mb_msg.specs.declared.change.OpenBody.{OpenBody}
use Rattle.mb_msg.specs.declared.change.ChangeBody.{ChangeBody}
use Rattle.mb_msg.specs.declared.stamped.Shown.{Shown}
use Rattle.mb_msg.specs.declared.stamped.Shown.TheVariants as shown
use Rattle.mb_msg.specs.Stamps.{bare_of_shown, ui_of_shown}
use Rattle.mb_msg.specs.Plans.{plan_string}
use Rattle.mb_model.specs.Verified.{are_rightly_tagged}
use Rattle.mb_model.specs.UsableLogs.{bares, floor_of, floor_position, is_sound_body, is_sound_plan, is_comparable_body, entry_claim, entry_fault, entries_fault, fault_from, log_fault}
use Rattle.mb_model.specs.CarriedLogs.{claims_of_floor, claims_of_body, body_claims, entry_claims, log_claims, LogsCarryOver}
use Rattle.mb_model.proofs.Options.{or_none, then_none, option_cases}
use Rattle.mb_model.proofs.UsableLaws.{not_refused, refused_not, map_none}

left_more : (a b c : Bool) → (a ≡ true → b ≡ true) → (a && c) ≡ true → (b && c) ≡ true
left_more a b c more h = let parts = and_parts a c h in and_from b c (more parts.0) parts.1

module _ (s : Shape) (secret : Bytes) (f g : Claim → Bool) where
  sound_plan_more : (base end : ℕ) (plan : Bytes) (b : Body OpenBody) → Carries f g (claims_of_body b) → is_sound_plan s secret f base end plan b ≡ true → is_sound_plan s secret g base end plan b ≡ true
  sound_plan_more base end plan (Short d) h e = refl
  sound_plan_more base end plan (Whole b) h e =
      left_more (is_comparable_body s secret f base end b) (is_comparable_body s secret g base end b) (same_bytes plan (sha256 (plan_string base b.stable.state (map batch_digest b.batches))))
      (left_more (is_stable s f b.stable) (is_stable s g b.stable) (b.stable.pos == base && (length b.batches == end - base && list_all (are_rightly_tagged secret) b.batches)) (stable_more s f g b.stable h)) e

  sound_body_more : (e : Shown) → Carries f g (body_claims e) → is_sound_body s secret f e ≡ true → is_sound_body s secret g e ≡ true
  sound_body_more (shown.Prepare m) h e = e
  sound_body_more (shown.Commit m) h e = e
  sound_body_more (shown.Open m) h e = sound_plan_more m.evidence.base m.evidence.end m.evidence.plan m.body h e
  sound_body_more (shown.Checkpoint m) h e = refl
  sound_body_more (shown.ViewChange m) h e = refl
  sound_body_more (shown.NewView m) h e = refl
  sound_body_more (shown.Enter m) h e = refl
  sound_body_more (shown.Join m) h e = refl

  module _ (host stable : ℕ) (o : Floor) where
    no_fault : (n1 n2 n3 n4 n5 n6 : ℕ) (a b c d e x : Bool) → a ≡ true → b ≡ true → c ≡ true → d ≡ true → e ≡ false → x ≡ true
        → (if not a then Some n1 else if not b then Some n2 else if not c then Some n3 else if not d then Some n4 else if e then Some n5 else if not x then Some n6 else None) ≡ None
    no_fault n1 n2 n3 n4 n5 n6 a b c d e x h1 h2 h3 h4 h5 h6 = rw (h1, h2, h3, h4, h5, h6) refl

    entry_more : (before : List Shown) (e : Shown) (behind : List Shown) → Carries f g (entry_claims s host e) → entry_fault s secret f host stable o before e behind ≡ None → entry_fault s secret g host stable o before e behind ≡ None
    unfolding entry_fault
    entry_more before e behind h x =
        let a = not_refused _ _ _ x in
        let b = not_refused _ _ _ a.1 in
        let c = not_refused _ _ _ b.1 in
        let d = not_refused _ _ _ c.1 in
        let k = refused_not _ _ _ d.1 in
        let m = not_refused _ _ _ k.1 in
        let who = and_parts ((ui_of_shown e).host == host) (f (entry_claim host e)) b.0 in
        let inner = carries_left f g (inner_claims s (bare_of_shown e)) (body_claims e) h.1 in
        let body = carries_right f g (inner_claims s (bare_of_shown e)) (body_claims e) h.1 in
        no_fault 3 4 5 6 7 8 _ _ _ _ _ _ a.0
        (and_from ((ui_of_shown e).host == host) (g (entry_claim host e)) who.0 (h.0 who.1))
        (permits_more o s host (inner_valid s f) (inner_valid s g) (bares before) (bare_of_shown e) (inner_more s f g (bare_of_shown e) inner) c.0)
        d.0 k.0 (sound_body_more e body m.0)

    entries_more : (before es : List Shown) → Carries f g (flat_map (entry_claims s host) es) → entries_fault s secret f host stable o before es ≡ None → entries_fault s secret g host stable o before es ≡ None
    unfolding entries_fault
    entries_more before [] h x = refl
    entries_more before (e ∷ es) h x =
        let claims : Carries f g (entry_claims s host e ++ flat_map (entry_claims s host) es) = subst (λ (cs : List Claim). Carries f g cs) (flat_map-cons (entry_claims s host) e es) h in
        let parts = or_none _ _ x in
        let here = entry_more before e es (carries_left f g (entry_claims s host e) (flat_map (entry_claims s host) es) claims) (map_none _ _ parts.0) in
        rw here (entries_more (e ∷ before) es (carries_right f g (entry_claims s host e) (flat_map (entry_claims s host) es) claims) parts.1)

  floor_of_more : (host : ℕ) (c : Option FloorCert) (o : Floor) → Carries f g (claims_of_floor c) → floor_of s f host c ≡ Some o → floor_of s g host c ≡ Some o
  floor_of_more host None o h e = e
  floor_of_more host (Some c) o h e = floor_more s f g host c o h e

  not_or_more : (a b c : Bool) → (a ≡ true → b ≡ true) → (not a || c) ≡ false → (not b || c) ≡ false
  not_or_more true b c more e = rw (more refl) e
  not_or_more false b c more e = absurd cc

  none_then : {A : Type 0} (b : Bool) (x : A) → b ≡ false → then_some b x ≡ None
  none_then b x e = rw e refl

  none_or : {A : Type 0} (x y : Option A) → x ≡ None → y ≡ None → option_or x y ≡ None
  none_or x y a b = rw a b

  log_more : (host view counter : ℕ) (b : ChangeBody) → Carries f g (log_claims s host b) → log_fault s secret f host view counter b ≡ None → log_fault s secret g host view counter b ≡ None
  unfolding log_fault
  log_more host view counter b h e = go (option_cases (floor_of s f host b.floor)) where
    floor_claims_carry : Carries f g (claims_of_floor b.floor)
    floor_claims_carry = carries_left f g (claims_of_floor b.floor) (stable_claims b.stable ++ flat_map (entry_claims s host) b.entries) h

    others_carry : Carries f g (stable_claims b.stable ++ flat_map (entry_claims s host) b.entries)
    others_carry = carries_right f g (claims_of_floor b.floor) (stable_claims b.stable ++ flat_map (entry_claims s host) b.entries) h

    go : (floor_of s f host b.floor ≡ None) ⊎ ((o : Floor) × (floor_of s f host b.floor ≡ Some o)) → fault_from s secret g host view counter b (floor_of s g host b.floor) ≡ None
    go (inl none) = absurd (none-some _ (sym (rw none at e)))
    go (inr (o, is)) =
        let a = or_none _ _ (rw is at e) in
        let c = or_none _ _ a.1 in
        let d = or_none _ _ c.1 in
        rw (floor_of_more host b.floor o floor_claims_carry is)
        (none_or _ _ (none_then _ _ (not_or_more (is_stable s f b.stable) (is_stable s g b.stable) (nat_lt b.stable.pos (floor_position b.floor))
        (stable_more s f g b.stable (carries_left f g (stable_claims b.stable) (flat_map (entry_claims s host) b.entries) others_carry)) (then_none _ _ a.0)))
        (none_or _ _ c.0
        (none_or _ _ (entries_more host b.stable.pos o [] b.entries (carries_right f g (stable_claims b.stable) (flat_map (entry_claims s host) b.entries) others_carry) d.0) d.1)))

pub logs_carry_over : LogsCarryOver
logs_carry_over = log_more
