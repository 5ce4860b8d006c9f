-- Two shapes with the same numbers are the same.
use Rattle.std.proofs.Common.{◌≡◌, ℕ, ◌≤◌, ap, subst, ◌∙◌}
use Rattle.std.proofs.Math.Bridge.{le_prop}
use Rattle.mb_base.specs.Limits.{most_faults, least_interval, most_interval, most_clients}
use Rattle.mb_base.specs.declared.shape.Shape.{Shape}

-- a number with its limits
abbrev Within : ℕ → ℕ → Type 0
Within low high = (n : ℕ) × ((low ≤ n) × (n ≤ high))

same_within : (low high : ℕ) (x y : Within low high) → x.0 ≡ y.0 → x ≡ y
same_within low high x y e =
    subst (λ (n : ℕ). (l : (low ≤ n) × (n ≤ high)) → (let z : Within low high = (n, l) in x ≡ z)) e
    (λ l. ap (λ (a : low ≤ x.0). (let z : Within low high = (x.0, (a, x.1.1)) in z)) (le_prop x.1.0 l.0) ∙ ap (λ (b : x.0 ≤ high). (let z : Within low high = (x.0, (l.0, b)) in z)) (le_prop x.1.1 l.1)) y.1

abbrev shape_of : Within 1 most_faults → Within least_interval most_interval → Within 1 most_clients → Shape
shape_of f k c = record { f = f.0; k = k.0; clients = c.0; faults_in = f.1; interval_in = k.1; clients_in = c.1 }

pub same_shape : (s t : Shape) → s.f ≡ t.f → s.k ≡ t.k → s.clients ≡ t.clients → s ≡ t
same_shape s t f k c =
    let g : Within least_interval most_interval = (s.k, s.interval_in) in
    let h : Within 1 most_clients = (s.clients, s.clients_in) in
    ap (λ (x : Within 1 most_faults). shape_of x g h) (same_within 1 most_faults (s.f, s.faults_in) (t.f, t.faults_in) f)
    ∙ ap (λ (x : Within least_interval most_interval). shape_of (t.f, t.faults_in) x h) (same_within least_interval most_interval g (t.k, t.interval_in) k)
    ∙ ap (λ (x : Within 1 most_clients). shape_of (t.f, t.faults_in) (t.k, t.interval_in) x) (same_within 1 most_clients h (t.clients, t.clients_in) c)
