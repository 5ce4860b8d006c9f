-- The test of two bare messages answers whether they are equal.
use Rattle.std.proofs.Common.{◌≡◌, ℕ, true, List, refl, ap, subst, Option, Some, None}
use Rattle.std.specs.Prelude.{◌==◌}
use Rattle.std.specs.Cmp.Lexicographic.{pointwise, pointwise_decides, bytes_decides}
use Rattle.std.proofs.lemmas.Bool.{and_parts, eqb-true, eq-eqb}
use Rattle.mb_base.specs.Shapes.{Bytes}
use Rattle.mb_parts.specs.declared.certificates.StableMember.{StableMember}
use Rattle.mb_parts.specs.declared.certificates.StableCert.{StableCert}
use Rattle.mb_parts.specs.declared.certificates.EvidenceMember.{EvidenceMember}
use Rattle.mb_parts.specs.declared.certificates.Evidence.{Evidence}
use Rattle.mb_parts.specs.Bares.{Bare}
use Rattle.mb_parts.specs.Bares as bare
use Rattle.mb_parts.specs.SameBare.{same_digest, same_stable_member, same_stable, same_evidence_member, same_evidence, same_optional, same_bare}

-- ---- the parts of a conjunction of tests

digest_is : (a b : Bytes) → same_digest a b ≡ true → a ≡ b
digest_is a b h = (bytes_decides a b).0 h

digest_own : (a : Bytes) → same_digest a a ≡ true
digest_own a = (bytes_decides a a).1 refl

own : (n : ℕ) → (n == n) ≡ true
own n = eq-eqb n n refl

-- ---- certificates

made_member : ℕ → ℕ → Bytes → Bytes → StableMember
made_member h c f t = record { host = h; counter = c; floors = f; cert = t }

member_from : (h h' c c' : ℕ) (f f' t t' : Bytes) → h ≡ h' → c ≡ c' → f ≡ f' → t ≡ t' → made_member h c f t ≡ made_member h' c' f' t'
member_from h h' c c' f f' t t' e1 e2 e3 e4 = cc

stable_member_is : (a b : StableMember) → same_stable_member a b ≡ true → a ≡ b
unfolding made_member
stable_member_is a b h =
    let x = and_parts (a.host == b.host) _ h in
    let y = and_parts (a.counter == b.counter) _ x.1 in
    let z = and_parts (same_digest a.floors b.floors) _ y.1 in
    member_from a.host b.host a.counter b.counter a.floors b.floors a.cert b.cert (eqb-true _ _ x.0) (eqb-true _ _ y.0) (digest_is _ _ z.0) (digest_is _ _ z.1)

stable_member_own : (a : StableMember) → same_stable_member a a ≡ true
stable_member_own a = rw (own a.host, own a.counter, digest_own a.floors, digest_own a.cert) refl

made_stable : ℕ → Bytes → List StableMember → StableCert
made_stable p t m = record { pos = p; state = t; members = m }

stable_from : (p p' : ℕ) (t t' : Bytes) (m m' : List StableMember) → p ≡ p' → t ≡ t' → m ≡ m' → made_stable p t m ≡ made_stable p' t' m'
stable_from p p' t t' m m' e1 e2 e3 = cc

stable_is : (a b : StableCert) → same_stable a b ≡ true → a ≡ b
unfolding made_stable
stable_is a b h =
    let x = and_parts (a.pos == b.pos) _ h in
    let y = and_parts (same_digest a.state b.state) _ x.1 in
    stable_from a.pos b.pos a.state b.state a.members b.members (eqb-true _ _ x.0) (digest_is _ _ y.0) ((members a.members b.members).0 y.1) where
      members : (l r : List StableMember) → (pointwise same_stable_member l r ≡ true → l ≡ r) × (l ≡ r → pointwise same_stable_member l r ≡ true)
      members = pointwise_decides (λ x y. (stable_member_is x y, λ e. subst (λ (z : StableMember). same_stable_member x z ≡ true) e (stable_member_own x)))

stable_own : (a : StableCert) → same_stable a a ≡ true
stable_own a = rw (own a.pos, digest_own a.state) ((pointwise_decides (λ x y. (stable_member_is x y, λ e. subst (λ (z : StableMember). same_stable_member x z ≡ true) e (stable_member_own x))) a.members a.members).1 refl)

made_backup : ℕ → ℕ → Bytes → EvidenceMember
made_backup h c t = record { host = h; counter = c; cert = t }

backup_from : (h h' c c' : ℕ) (t t' : Bytes) → h ≡ h' → c ≡ c' → t ≡ t' → made_backup h c t ≡ made_backup h' c' t'
backup_from h h' c c' t t' e1 e2 e3 = cc

evidence_member_is : (a b : EvidenceMember) → same_evidence_member a b ≡ true → a ≡ b
unfolding made_backup
evidence_member_is a b h =
    let x = and_parts (a.host == b.host) _ h in
    let y = and_parts (a.counter == b.counter) _ x.1 in
    backup_from a.host b.host a.counter b.counter a.cert b.cert (eqb-true _ _ x.0) (eqb-true _ _ y.0) (digest_is _ _ y.1)

evidence_member_own : (a : EvidenceMember) → same_evidence_member a a ≡ true
evidence_member_own a = rw (own a.host, own a.counter, digest_own a.cert) refl

backups_decide : (l r : List EvidenceMember) → (pointwise same_evidence_member l r ≡ true → l ≡ r) × (l ≡ r → pointwise same_evidence_member l r ≡ true)
backups_decide = pointwise_decides (λ x y. (evidence_member_is x y, λ e. subst (λ (z : EvidenceMember). same_evidence_member x z ≡ true) e (evidence_member_own x)))

made_evidence : ℕ → ℕ → ℕ → Bytes → Bytes → ℕ → Bytes → List EvidenceMember → Evidence
made_evidence v b e p d c t m = record { view = v; base = b; end = e; plan = p; body = d; counter = c; cert = t; members = m }

evidence_from : (v v' b b' e e' c c' : ℕ) (p p' d d' t t' : Bytes) (m m' : List EvidenceMember) → v ≡ v' → b ≡ b' → e ≡ e' → p ≡ p' → d ≡ d' → c ≡ c' → t ≡ t' → m ≡ m'
    → made_evidence v b e p d c t m ≡ made_evidence v' b' e' p' d' c' t' m'
evidence_from v v' b b' e e' c c' p p' d d' t t' m m' e1 e2 e3 e4 e5 e6 e7 e8 = cc

evidence_is : (a b : Evidence) → same_evidence a b ≡ true → a ≡ b
unfolding made_evidence
evidence_is a b h =
    let x = and_parts (a.view == b.view) _ h in
    let y = and_parts (a.base == b.base) _ x.1 in
    let z = and_parts (a.end == b.end) _ y.1 in
    let u = and_parts (same_digest a.plan b.plan) _ z.1 in
    let v = and_parts (same_digest a.body b.body) _ u.1 in
    let w = and_parts (a.counter == b.counter) _ v.1 in
    let t = and_parts (same_digest a.cert b.cert) _ w.1 in
    evidence_from a.view b.view a.base b.base a.end b.end a.counter b.counter a.plan b.plan a.body b.body a.cert b.cert a.members b.members
    (eqb-true _ _ x.0) (eqb-true _ _ y.0) (eqb-true _ _ z.0) (digest_is _ _ u.0) (digest_is _ _ v.0) (eqb-true _ _ w.0) (digest_is _ _ t.0) ((backups_decide a.members b.members).0 t.1)

evidence_own : (a : Evidence) → same_evidence a a ≡ true
evidence_own a = rw (own a.view, own a.base, own a.end, digest_own a.plan, digest_own a.body, own a.counter, digest_own a.cert) ((backups_decide a.members a.members).1 refl)

optional_is : (a b : Option Evidence) → same_optional a b ≡ true → a ≡ b
optional_is None None h = refl
optional_is (Some a) (Some b) h = ap Some (evidence_is a b h)
optional_is None (Some b) h = absurd cc
optional_is (Some a) None h = absurd cc

optional_own : (a : Option Evidence) → same_optional a a ≡ true
optional_own None = refl
optional_own (Some a) = evidence_own a

-- ---- bare messages

prepare_from : (v w p q : ℕ) (d e : Bytes) → v ≡ w → p ≡ q → d ≡ e → bare.Prepare v p d ≡ bare.Prepare w q e
prepare_from v w p q d e e1 e2 e3 = cc

commit_from : (v w p q n m : ℕ) (c f d e : Bytes) → v ≡ w → p ≡ q → n ≡ m → c ≡ f → d ≡ e → bare.Commit v p n c d ≡ bare.Commit w q m f e
commit_from v w p q n m c f d e e1 e2 e3 e4 e5 = cc

checkpoint_from : (p q : ℕ) (t u d e : Bytes) → p ≡ q → t ≡ u → d ≡ e → bare.Checkpoint p t d ≡ bare.Checkpoint q u e
checkpoint_from p q t u d e e1 e2 e3 = cc

change_from : (v w : ℕ) (d e : Bytes) → v ≡ w → d ≡ e → bare.ViewChange v d ≡ bare.ViewChange w e
change_from v w d e e1 e2 = cc

new_from : (v w b c e f : ℕ) (p q d g : Bytes) → v ≡ w → b ≡ c → e ≡ f → p ≡ q → d ≡ g → bare.NewView v b e p d ≡ bare.NewView w c f q g
new_from v w b c e f p q d g e1 e2 e3 e4 e5 = cc

enter_from : (v w c d : ℕ) (p q : Bytes) → v ≡ w → c ≡ d → p ≡ q → bare.Enter v c p ≡ bare.Enter w d q
enter_from v w c d p q e1 e2 e3 = cc

open_from : (e f : Evidence) (d g : Bytes) → e ≡ f → d ≡ g → bare.Open e d ≡ bare.Open f g
open_from e f d g e1 e2 = cc

join_from : (v w : ℕ) (e f : Option Evidence) (c d : StableCert) → v ≡ w → e ≡ f → c ≡ d → bare.Join v e c ≡ bare.Join w f d
join_from v w e f c d e1 e2 e3 = cc

-- messages that pass the test are equal
pub same_bare_is : (a b : Bare) → same_bare a b ≡ true → a ≡ b
same_bare_is (bare.Prepare v p d) (bare.Prepare w q e) h =
    let x = and_parts (v == w) _ h in
    let y = and_parts (p == q) _ x.1 in
    prepare_from v w p q d e (eqb-true v w x.0) (eqb-true p q y.0) (digest_is d e y.1)
same_bare_is (bare.Commit v p n c d) (bare.Commit w q m f e) h =
    let x = and_parts (v == w) _ h in
    let y = and_parts (p == q) _ x.1 in
    let z = and_parts (n == m) _ y.1 in
    let u = and_parts (same_digest c f) _ z.1 in
    commit_from v w p q n m c f d e (eqb-true v w x.0) (eqb-true p q y.0) (eqb-true n m z.0) (digest_is c f u.0) (digest_is d e u.1)
same_bare_is (bare.Checkpoint p t d) (bare.Checkpoint q u e) h =
    let x = and_parts (p == q) _ h in
    let y = and_parts (same_digest t u) _ x.1 in
    checkpoint_from p q t u d e (eqb-true p q x.0) (digest_is t u y.0) (digest_is d e y.1)
same_bare_is (bare.ViewChange v d) (bare.ViewChange w e) h =
    let x = and_parts (v == w) _ h in
    change_from v w d e (eqb-true v w x.0) (digest_is d e x.1)
same_bare_is (bare.NewView v b e p d) (bare.NewView w c f q g) h =
    let x = and_parts (v == w) _ h in
    let y = and_parts (b == c) _ x.1 in
    let z = and_parts (e == f) _ y.1 in
    let u = and_parts (same_digest p q) _ z.1 in
    new_from v w b c e f p q d g (eqb-true v w x.0) (eqb-true b c y.0) (eqb-true e f z.0) (digest_is p q u.0) (digest_is d g u.1)
same_bare_is (bare.Enter v c p) (bare.Enter w d q) h =
    let x = and_parts (v == w) _ h in
    let y = and_parts (c == d) _ x.1 in
    enter_from v w c d p q (eqb-true v w x.0) (eqb-true c d y.0) (digest_is p q y.1)
same_bare_is (bare.Open e d) (bare.Open f g) h =
    let x = and_parts (same_evidence e f) _ h in
    open_from e f d g (evidence_is e f x.0) (digest_is d g x.1)
same_bare_is (bare.Join v e c) (bare.Join w f d) h =
    let x = and_parts (v == w) _ h in
    let y = and_parts (same_optional e f) _ x.1 in
    join_from v w e f c d (eqb-true v w x.0) (optional_is e f y.0) (stable_is c d y.1)
same_bare_is _ _ h = absurd cc

-- each message passes it with itself
pub same_bare_own : (a : Bare) → same_bare a a ≡ true
same_bare_own (bare.Prepare v p d) = rw (own v, own p, digest_own d) refl
same_bare_own (bare.Commit v p n c d) = rw (own v, own p, own n, digest_own c, digest_own d) refl
same_bare_own (bare.Checkpoint p t d) = rw (own p, digest_own t, digest_own d) refl
same_bare_own (bare.ViewChange v d) = rw (own v, digest_own d) refl
same_bare_own (bare.NewView v b e p d) = rw (own v, own b, own e, digest_own p, digest_own d) refl
same_bare_own (bare.Enter v c p) = rw (own v, own c, digest_own p) refl
same_bare_own (bare.Open e d) = rw (evidence_own e, digest_own d) refl
same_bare_own (bare.Join v e c) = rw (own v, optional_own e, stable_own c) refl
