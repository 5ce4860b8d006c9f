-- All that a usable VIEW_CHANGE claims stands in it as it was given: its entries have its host's number, so the claim of an entry is the entry's own.
use Rattle.std.proofs.Common.{◌≡◌, ℕ, ◌+◌, Bool, ◌&&◌, List, [], ◌∷◌, ◌++◌, length, refl, subst, inl, inr, Option, Some, None}
use Rattle.std.specs.Prelude.{◌==◌, option_map}
use Rattle.std.specs.Bool.{then_some}
use Rattle.std.specs.List.{AllByRecursion, flat_map}
use Rattle.std.proofs.lemmas.Bool.{and_parts, eqb-true}
use Rattle.mb_base.specs.Shapes.{Bytes}
use Rattle.mb_base.specs.declared.shape.Shape.{Shape}
use Rattle.mb_parts.specs.declared.floor.Floor.{Floor}
use Rattle.mb_parts.specs.declared.certificates.FloorCert.{FloorCert}
use Rattle.mb_parts.specs.declared.certificates.Evidence.{Evidence}
use Rattle.mb_parts.specs.Bares as bare
use Rattle.mb_parts.specs.Claims.{Claim, inner_claims, stable_claims, floor_claims, evidence_claims}
use Rattle.mb_msg.specs.declared.message.Body.{Body}
use Rattle.mb_msg.specs.declared.message.Body.TheVariants.{Whole, Bare as Short}
use Rattle.mb_msg.specs.declared.change.OpenBody.{OpenBody}
use Rattle.mb_msg.specs.declared.change.ChangeBody.{ChangeBody}
use Rattle.mb_msg.specs.declared.stamped.Shown.{Shown}
use Rattle.mb_msg.specs.declared.stamped.Shown.TheVariants as shown
use Rattle.mb_msg.specs.Stamps.{bare_of_shown, ui_of_shown}
use Rattle.mb_model.specs.CarriedLogs.{claims_of_floor, claims_of_body, body_claims, entry_claims, log_claims}
use Rattle.mb_model.specs.UsableLogs.{entry_claim, entry_fault, entries_fault, is_ill_founded, is_too_long, fault_from, floor_of, log_fault}
use Rattle.mb_model.specs.Members.{In}
use Rattle.mb_model.proofs.Members.{in_left, in_right}
use Rattle.mb_model.proofs.Options.{or_none}
use Rattle.mb_model.proofs.UsableLaws.{not_refused, map_none}
use Rattle.mb_model.specs.Compared.{inside_some}
use Rattle.mb_msg.specs.Bodies.{inside_whole}
use Rattle.mb_model.specs.Inside.{open_body_claims, claims_in_shown, shown_claims, change_claims}

-- Each entry has this host's number.
abbrev pub AreOwned : ℕ → List Shown → Type 0
AreOwned host es = AllByRecursion (λ (e : Shown). (ui_of_shown e).host ≡ host) es

module _ (s : Shape) (secret : Bytes) (valid : Claim → Bool) where
  owned_entry : (host stable : ℕ) (o : Floor) (before : List Shown) (e : Shown) (behind : List Shown) → entry_fault s secret valid host stable o before e behind ≡ None → (ui_of_shown e).host ≡ host
  unfolding entry_fault
  owned_entry host stable o before e behind h =
      let a = not_refused ((ui_of_shown e).counter == o.counter + length before + 1) 3 _ h in
      let b = not_refused ((ui_of_shown e).host == host && valid (entry_claim host e)) 4 _ a.1 in
      eqb-true (ui_of_shown e).host host (and_parts ((ui_of_shown e).host == host) (valid (entry_claim host e)) b.0).0

  owned_entries : (host stable : ℕ) (o : Floor) (before es : List Shown) → entries_fault s secret valid host stable o before es ≡ None → AreOwned host es
  unfolding entries_fault
  owned_entries host stable o before [] h = tt
  owned_entries host stable o before (e ∷ es) h =
      let parts = or_none (option_map (λ reason. (length before, reason)) (entry_fault s secret valid host stable o before e es)) (entries_fault s secret valid host stable o (e ∷ before) es) h in
      (owned_entry host stable o before e es (map_none (λ reason. (length before, reason)) _ parts.0), owned_entries host stable o (e ∷ before) es parts.1)

  pub log_owned : (host view counter : ℕ) (b : ChangeBody) → log_fault s secret valid host view counter b ≡ None → AreOwned host b.entries
  unfolding log_fault
  log_owned host view counter b none = go (floor_of s valid host b.floor) none where
    go : (o : Option Floor) → fault_from s secret valid host view counter b o ≡ None → AreOwned host b.entries
    go None e = absurd cc
    go (Some o) e =
        let a = or_none (then_some (is_ill_founded s secret valid b) (0, 2)) _ e in
        let c = or_none (then_some (is_too_long s secret valid b.entries) (0, 9)) _ a.1 in
        let d = or_none (entries_fault s secret valid host b.stable.pos o [] b.entries) _ c.1 in
        owned_entries host b.stable.pos o [] b.entries d.0

module _ (s : Shape) (P : Claim → Type 0) where
  each : (l : List Claim) → ((c : Claim) → In l c → P c) → AllByRecursion P l
  each [] f = tt
  each (c ∷ l) f = (f c (inl refl), each l (λ x i. f x (inr i)))

  joined : (a b : List Claim) → AllByRecursion P a → AllByRecursion P b → AllByRecursion P (a ++ b)
  joined [] b x y = y
  joined (c ∷ a) b x y = (x.0, joined a b x.1 y)

  of_floor : (o : Option FloorCert) → ((c : Claim) → In (inside_some floor_claims o) c → P c) → AllByRecursion P (claims_of_floor o)
  of_floor None f = tt
  of_floor (Some c) f = each (floor_claims c) f

  of_body : (b : Body OpenBody) → ((c : Claim) → In (inside_whole open_body_claims b) c → P c) → AllByRecursion P (claims_of_body b)
  of_body (Whole b) f = each (stable_claims b.stable) f
  of_body (Short d) f = tt

  -- the claims of the certificates in an entry
  of_inner : (e : Shown) → ((c : Claim) → In (claims_in_shown s e) c → P c) → AllByRecursion P (inner_claims s (bare_of_shown e) ++ body_claims e)
  of_inner (shown.Prepare m) f = tt
  of_inner (shown.Commit m) f = (f _ (inl refl), tt)
  of_inner (shown.Checkpoint m) f = tt
  of_inner (shown.ViewChange m) f = tt
  of_inner (shown.NewView m) f = tt
  of_inner (shown.Enter m) f = tt
  of_inner (shown.Open m) f = joined (evidence_claims s m.evidence) (claims_of_body m.body) (each (evidence_claims s m.evidence) (λ c i. f c (in_left (evidence_claims s m.evidence) (inside_whole open_body_claims m.body) c i)))
      (of_body m.body (λ c i. f c (in_right (evidence_claims s m.evidence) (inside_whole open_body_claims m.body) c i)))
  of_inner (shown.Join m) f = joined (inner_claims s (bare.Join m.view m.evidence m.stable)) [] (go m.evidence refl) tt where
    go : (e : Option Evidence) → m.evidence ≡ e → AllByRecursion P (inner_claims s (bare.Join m.view m.evidence m.stable))
    go None is = rw is (each (stable_claims m.stable) (λ c i. f c (rw is i)))
    go (Some e) is = rw is (each (evidence_claims s e ++ stable_claims m.stable) (λ c i. f c (rw is i)))

  of_entry : (host : ℕ) (e : Shown) → (ui_of_shown e).host ≡ host → ((c : Claim) → In (shown_claims s e) c → P c) → AllByRecursion P (entry_claims s host e)
  unfolding shown_claims
  of_entry host e own f =
      let sender : Claim = record { host = (ui_of_shown e).host; counter = (ui_of_shown e).counter; says = bare_of_shown e; cert = (ui_of_shown e).cert } in (
        subst (λ (h : ℕ). P (record { host = h; counter = (ui_of_shown e).counter; says = bare_of_shown e; cert = (ui_of_shown e).cert })) own (f sender (in_right (claims_in_shown s e) (sender ∷ []) sender (inl refl))),
        of_inner e (λ c i. f c (in_left (claims_in_shown s e) (sender ∷ []) c i)),
      )

  of_entries : (host : ℕ) (es : List Shown) → AreOwned host es → ((c : Claim) → In (flat_map (shown_claims s) es) c → P c) → AllByRecursion P (flat_map (entry_claims s host) es)
  of_entries host [] own f = tt
  of_entries host (e ∷ es) own f = joined (entry_claims s host e) (flat_map (entry_claims s host) es) (of_entry host e own.0 (λ c i. f c (in_left (shown_claims s e) (flat_map (shown_claims s) es) c i)))
      (of_entries host es own.1 (λ c i. f c (in_right (shown_claims s e) (flat_map (shown_claims s) es) c i)))

  -- What holds of each claim that stands in a VIEW_CHANGE holds of all that is claimed in its log.
  pub of_log : (host : ℕ) (b : ChangeBody) → AreOwned host b.entries → ((c : Claim) → In (change_claims s b) c → P c) → AllByRecursion P (log_claims s host b)
  of_log host b own f =
      let head : List Claim = inside_some floor_claims b.floor ++ stable_claims b.stable in
      let tail : List Claim = flat_map (shown_claims s) b.entries in
      joined (claims_of_floor b.floor) (stable_claims b.stable ++ flat_map (entry_claims s host) b.entries)
      (of_floor b.floor (λ c i. f c (in_left head tail c (in_left (inside_some floor_claims b.floor) (stable_claims b.stable) c i))))
      (joined (stable_claims b.stable) (flat_map (entry_claims s host) b.entries)
      (each (stable_claims b.stable) (λ c i. f c (in_left head tail c (in_right (inside_some floor_claims b.floor) (stable_claims b.stable) c i))))
      (of_entries host b.entries own (λ c i. f c (in_right head tail c i))))
