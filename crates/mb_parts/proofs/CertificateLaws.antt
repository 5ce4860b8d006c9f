-- Certificates under two tests. The tests are asked of claims alone, and never of what isn't a claim: so a certificate carries over as its claims do.
use Rattle.std.proofs.Common.{◌≡◌, ℕ, ◌+◌, Bool, true, false, cond, ◌&&◌, ◌||◌, not, List, [], ◌∷◌, ◌++◌, length, map, refl, Option, Some, None}
use Rattle.std.specs.Prelude.{◌==◌, nat_lt, nat_le}
use Rattle.std.specs.List.{list_all}
use Rattle.std.proofs.lemmas.Bool.{and_parts, and_from}
use Rattle.std.proofs.lemmas.Option.{none-some}
use Rattle.mb_base.specs.Shapes.{max_faults, quorum, primary}
use Rattle.mb_base.specs.declared.shape.Shape.{Shape}
use Rattle.mb_parts.specs.declared.floor.Floor.{Floor}
use Rattle.mb_parts.specs.declared.certificates.StableCert.{StableCert}
use Rattle.mb_parts.specs.declared.certificates.FloorCert.{FloorCert}
use Rattle.mb_parts.specs.declared.certificates.Evidence.{Evidence}
use Rattle.mb_parts.specs.Bares.{Bare}
use Rattle.mb_parts.specs.Bares as bare
use Rattle.mb_parts.specs.Claims.{Claim, are_rising, stable_claims, floor_claims, evidence_claims, inner_claims}
use Rattle.mb_parts.specs.Certificates.{is_stable, first_floor, agree_on_floor, certified_floor, is_evidence, inner_valid, both, inner_checked}
use Rattle.mb_parts.specs.Ordered.{end_of, current_view, is_opened, is_entered, last_position, permits, is_ordered}
use Rattle.mb_parts.specs.CheckedCertificates.{Carries, CheckedIsIssued, CertificateLaws}

-- the second of two parts is more, so the whole is
pub and_more : (a b c : Bool) → (b ≡ true → c ≡ true) → (a && b) ≡ true → (a && c) ≡ true
and_more true b c more h = more h
and_more false b c more h = absurd cc

and_more_left : (a b c : Bool) → (a ≡ true → b ≡ true) → (a && c) ≡ true → (b && c) ≡ true
and_more_left a b c more h = let parts = and_parts a c h in and_from b c (more parts.0) parts.1

third_more : (a b c x y : Bool) → (x ≡ true → y ≡ true) → (a && (b && (c && x))) ≡ true → (a && (b && (c && y))) ≡ true
third_more a b c x y more h = and_more a (b && (c && x)) (b && (c && y)) (and_more b (c && x) (c && y) (and_more c x y more)) h

fourth_more : (a b c d x y : Bool) → (x ≡ true → y ≡ true) → (a && (b && (c && (d && x)))) ≡ true → (a && (b && (c && (d && y)))) ≡ true
fourth_more a b c d x y more h = and_more a (b && (c && (d && x))) (b && (c && (d && y))) (third_more b c d x y more) h

or_more : (a b c : Bool) → (b ≡ true → c ≡ true) → (a || b) ≡ true → (a || c) ≡ true
or_more true b c more h = refl
or_more false b c more h = more h

if_more : {A : Type 0} (a b : Bool) (x : Option A) (y : A) → (a ≡ true → b ≡ true) → cond a x None ≡ Some y → cond b x None ≡ Some y
if_more true b x y more e = rw (more refl) e
if_more false b x y more e = absurd (none-some y e)

pub carries_left : (f g : Claim → Bool) (a b : List Claim) → Carries f g (a ++ b) → Carries f g a
carries_left f g [] b h = tt
carries_left f g (c ∷ a) b h = (h.0, carries_left f g a b h.1)

pub carries_right : (f g : Claim → Bool) (a b : List Claim) → Carries f g (a ++ b) → Carries f g b
carries_right f g [] b h = h
carries_right f g (c ∷ a) b h = carries_right f g a b h.1

-- what holds of all claims holds of these
pub carries_all : (f g : Claim → Bool) → ((c : Claim) → f c ≡ true → g c ≡ true) → (claims : List Claim) → Carries f g claims
carries_all f g more [] = tt
carries_all f g more (c ∷ claims) = (more c, carries_all f g more claims)

all_more : (f g : Claim → Bool) (claims : List Claim) → Carries f g claims → list_all f claims ≡ true → list_all g claims ≡ true
all_more f g [] h e = refl
all_more f g (c ∷ claims) h e = let parts = and_parts (f c) (list_all f claims) e in and_from (g c) (list_all g claims) (h.0 parts.0) (all_more f g claims h.1 parts.1)

-- What may stand somewhere may stand there where more certificates are valid.
pub permits_more : (o : Floor) (s : Shape) (host : ℕ) (f g : Bare → Bool) (l : List Bare) (m : Bare) → (f m ≡ true → g m ≡ true) → permits o s host f l m ≡ true → permits o s host g l m ≡ true
unfolding permits
permits_more o s host f g l (bare.ViewChange v d) more h = h
permits_more o s host f g l (bare.NewView v b e p d) more h = h
permits_more o s host f g l (bare.Enter v c p) more h = h
permits_more o s host f g l (bare.Open e d) more h =
    third_more (e.view == current_view o l) (not (is_opened o l e.view)) (not (host == primary s e.view) || is_entered o l e.view) (f (bare.Open e d)) (g (bare.Open e d)) more h
permits_more o s host f g l (bare.Join v e c) more h =
    fourth_more (v == current_view o l) (v == 0 || not (host == primary s v) || is_entered o l v || is_opened o l v) (nat_le (end_of e) c.pos) (not (is_opened o l v) || nat_le (last_position o l v) c.pos)
    (f (bare.Join v e c)) (g (bare.Join v e c)) more h
permits_more o s host f g l (bare.Prepare v p d) more h = h
permits_more o s host f g l (bare.Commit v p n c d) more h =
    fourth_more (v == current_view o l) (not (host == primary s v)) (is_opened o l v) (p == last_position o l v + 1) (f (bare.Commit v p n c d)) (g (bare.Commit v p n c d)) more h
permits_more o s host f g l (bare.Checkpoint p t d) more h = h

pub ordered_more : (o : Floor) (s : Shape) (host : ℕ) (f g : Bare → Bool) (l : List Bare) → ((m : Bare) → f m ≡ true → g m ≡ true) → is_ordered o s host f l ≡ true → is_ordered o s host g l ≡ true
unfolding is_ordered
ordered_more o s host f g [] more h = refl
ordered_more o s host f g (m ∷ l) more h =
    let parts = and_parts (permits o s host f l m) (is_ordered o s host f l) h in
    and_from (permits o s host g l m) (is_ordered o s host g l) (permits_more o s host f g l m (more m) parts.0) (ordered_more o s host f g l more parts.1)

module _ (s : Shape) (f g : Claim → Bool) where
  pub stable_more : (c : StableCert) → Carries f g (stable_claims c) → is_stable s f c ≡ true → is_stable s g c ≡ true
  unfolding is_stable
  stable_more c h e =
      or_more (c.pos == 0 && length c.members == 0) (members_are f c) (members_are g c)
      (λ x. third_more (nat_lt 0 c.pos) (length c.members == quorum s) (are_rising (map (λ m. m.host) c.members)) (list_all f (stable_claims c)) (list_all g (stable_claims c)) (all_more f g (stable_claims c) h) x) e where
        members_are : (Claim → Bool) → StableCert → Bool
        members_are valid c = nat_lt 0 c.pos && (length c.members == quorum s && (are_rising (map (λ m. m.host) c.members) && list_all valid (stable_claims c)))

  pub floor_more : (owner : ℕ) (c : FloorCert) (o : Floor) → Carries f g (floor_claims c) → certified_floor s f owner c ≡ Some o → certified_floor s g owner c ≡ Some o
  unfolding certified_floor
  floor_more owner c o h e = if_more (agree_on_floor s f owner c) (agree_on_floor s g owner c) (first_floor owner c.members) o agree e where
    agree : agree_on_floor s f owner c ≡ true → agree_on_floor s g owner c ≡ true
    agree x =
        let parts = and_parts (length c.members == quorum s) _ x in
        let rising = and_parts (are_rising (map (λ m. m.host) c.members)) _ parts.1 in
        let claims = and_parts (list_all f (floor_claims c)) _ rising.1 in
        and_from (length c.members == quorum s) _ parts.0 (and_from (are_rising (map (λ m. m.host) c.members)) _ rising.0 (and_from (list_all g (floor_claims c)) _ (all_more f g (floor_claims c) h claims.0) claims.1))

  pub evidence_more : (e : Evidence) → Carries f g (evidence_claims s e) → is_evidence s f e ≡ true → is_evidence s g e ≡ true
  unfolding is_evidence
  evidence_more e h x =
      third_more (length e.members == max_faults s) (are_rising (map (λ m. m.host) e.members)) (list_all (λ m. not (m.host == primary s e.view)) e.members)
      (list_all f (evidence_claims s e)) (list_all g (evidence_claims s e)) (all_more f g (evidence_claims s e) h) x

  pub inner_more : (m : Bare) → Carries f g (inner_claims s m) → inner_valid s f m ≡ true → inner_valid s g m ≡ true
  unfolding inner_valid
  inner_more (bare.Commit v p n c d) h e = h.0 e
  inner_more (bare.Open x d) h e = evidence_more x h e
  inner_more (bare.Join v None c) h e = and_more (v == 0) (is_stable s f c) (is_stable s g c) (stable_more c h) e
  inner_more (bare.Join v (Some x) c) h e =
      and_more (x.view == v) (is_evidence s f x && is_stable s f c) (is_evidence s g x && is_stable s g c) (λ y. let parts = and_parts (is_evidence s f x) (is_stable s f c) y in
      and_from (is_evidence s g x) (is_stable s g c) (evidence_more x (carries_left f g (evidence_claims s x) (stable_claims c) h) parts.0) (stable_more c (carries_right f g (evidence_claims s x) (stable_claims c) h) parts.1)) e
  inner_more (bare.Prepare v p d) h e = refl
  inner_more (bare.Checkpoint p t d) h e = refl
  inner_more (bare.ViewChange v d) h e = refl
  inner_more (bare.NewView v b x p d) h e = refl
  inner_more (bare.Enter v c p) h e = refl

module _ (s : Shape) (verified issued : Claim → Bool) where
  to_verified : (claims : List Claim) → Carries (both verified issued) verified claims
  to_verified = carries_all (both verified issued) verified (λ c h. (and_parts (verified c) (issued c) h).0)

  to_issued : (claims : List Claim) → Carries (both verified issued) issued claims
  to_issued = carries_all (both verified issued) issued (λ c h. (and_parts (verified c) (issued c) h).1)

  all_both : (claims : List Claim) → list_all verified claims ≡ true → list_all issued claims ≡ true → Carries verified (both verified issued) claims
  all_both [] v i = tt
  all_both (c ∷ claims) v i =
      let x = and_parts (verified c) (list_all verified claims) v in
      let y = and_parts (issued c) (list_all issued claims) i in
      (λ h. and_from (verified c) (issued c) h y.0, all_both claims x.1 y.1)

  stable_both : (c : StableCert) → is_stable s verified c ≡ true → is_stable s issued c ≡ true → is_stable s (both verified issued) c ≡ true
  unfolding is_stable
  stable_both c v i = two (c.pos == 0 && length c.members == 0) (nat_lt 0 c.pos) (length c.members == quorum s) (are_rising (map (λ m. m.host) c.members)) (list_all verified (stable_claims c)) (list_all issued (stable_claims c)) (list_all (both verified issued) (stable_claims c))
      (λ x y. all_more verified (both verified issued) (stable_claims c) (all_both (stable_claims c) x y) x) v i where
        two : (z a b c x y w : Bool) → (x ≡ true → y ≡ true → w ≡ true) → (z || (a && (b && (c && x)))) ≡ true → (z || (a && (b && (c && y)))) ≡ true → (z || (a && (b && (c && w)))) ≡ true
        two true a b c x y w more h k = refl
        two false true true true x y w more h k = more h k
        two false false b c x y w more h k = absurd cc
        two false true false c x y w more h k = absurd cc
        two false true true false x y w more h k = absurd cc

  evidence_both : (e : Evidence) → is_evidence s verified e ≡ true → is_evidence s issued e ≡ true → is_evidence s (both verified issued) e ≡ true
  unfolding is_evidence
  evidence_both e v i =
      let claims : (valid : Claim → Bool) → is_evidence s valid e ≡ true → list_all valid (evidence_claims s e) ≡ true =
      λ valid h. last_of (length e.members == max_faults s) (are_rising (map (λ m. m.host) e.members)) (list_all (λ m. not (m.host == primary s e.view)) e.members) (list_all valid (evidence_claims s e)) h in
      evidence_more s verified (both verified issued) e (all_both (evidence_claims s e) (claims verified v) (claims issued i)) v where
        last_of : (a b c d : Bool) → (a && (b && (c && d))) ≡ true → d ≡ true
        last_of a b c d h = (and_parts c d (and_parts b (c && d) (and_parts a (b && (c && d)) h).1).1).1

  checked_more : (m : Bare) → inner_checked s verified issued m ≡ true → inner_valid s issued m ≡ true
  unfolding inner_valid
  checked_more (bare.Commit v p n c d) h = h
  checked_more (bare.Open x d) h = inner_more s (both verified issued) issued (bare.Open x d) (to_issued (evidence_claims s x)) h
  checked_more (bare.Join v None c) h = inner_more s (both verified issued) issued (bare.Join v None c) (to_issued (stable_claims c)) h
  checked_more (bare.Join v (Some x) c) h = inner_more s (both verified issued) issued (bare.Join v (Some x) c) (to_issued (evidence_claims s x ++ stable_claims c)) h
  checked_more (bare.Prepare v p d) h = refl
  checked_more (bare.Checkpoint p t d) h = refl
  checked_more (bare.ViewChange v d) h = refl
  checked_more (bare.NewView v b x p d) h = refl
  checked_more (bare.Enter v c p) h = refl

  is_checked : CheckedIsIssued s verified issued
  is_checked = record {
    stable = λ c h. (stable_more s (both verified issued) verified c (to_verified (stable_claims c)) h, stable_more s (both verified issued) issued c (to_issued (stable_claims c)) h);
    evidence = λ e h. (evidence_more s (both verified issued) verified e (to_verified (evidence_claims s e)) h, evidence_more s (both verified issued) issued e (to_issued (evidence_claims s e)) h);
    both_stable = stable_both;
    both_evidence = evidence_both;
    ordered = λ o host l h. ordered_more o s host (inner_checked s verified issued) (inner_valid s issued) l checked_more h;
  }

pub certificate_laws : CertificateLaws
certificate_laws = record {
  carries = λ s f g. record { stable = stable_more s f g; floor = floor_more s f g; evidence = evidence_more s f g; inner = inner_more s f g };
  checked = is_checked;
}
