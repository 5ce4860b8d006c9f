-- Whether a request is pending, client by client.
use Rattle.std.proofs.Common.{◌≡◌, ℕ, suc, ◌+◌, ◌-◌, ◌<◌, ◌≤◌, Bool, true, false, Option, is_some, refl, sym, ap, ◌∙◌, subst, arith}
use Rattle.std.specs.Prelude.{◌||◌}
use Rattle.std.specs.List.{range_with_len, list_any}
use Rattle.mb_base.specs.declared.shape.Shape.{Shape}
use Rattle.mb_base.specs.Shapes.{client_count}
use Rattle.mb_parts.specs.declared.request.Request.{Request}
use Rattle.mb_model.specs.Histories.{History, Identity}
use Rattle.mb_model.specs.Execution.{pending}
use Rattle.mb_replica.specs.declared.state.ReplicaState.{ReplicaState}
use Rattle.mb_replica.specs.Represents.{Represents}
use Rattle.mb_replica.specs.Waiting.{has_pending}

module _ {V : Type 0} where
  -- a request of a client from one on
  abbrev pub has_from : Identity V → History → ℕ → Bool
  has_from me d i = list_any (λ c. is_some (pending me d c)) (range_with_len i (client_count me.shape - i))

  -- what the tables say of a client
  abbrev pub SaysOf : ReplicaState V → ℕ → Option Request → Type 0
  SaysOf r i o = (me : Identity V) (d : History) → Represents me r d → o ≡ pending me d i

  -- None was found yet.
  abbrev pub NoneSoFar : ReplicaState V → ℕ → Type 0
  NoneSoFar r i = (me : Identity V) (d : History) → Represents me r d → has_from me d i ≡ has_pending me d

  from_next : (me : Identity V) (d : History) (i : ℕ) → i < client_count me.shape → has_from me d i ≡ (is_some (pending me d i) || has_from me d (i + 1))
  from_next me d i lt = let left : client_count me.shape - i ≡ suc (client_count me.shape - (i + 1)) = omega arith in rw left refl

  within : (me : Identity V) (r : ReplicaState V) (d : History) → Represents me r d → (i : ℕ) → i < client_count r.protocol.shape → i < client_count me.shape
  within me r d rep i lt = subst (λ (s : Shape). i < client_count s) (sym rep.who.shape) lt

  pub none_looked : (r : ReplicaState V) → NoneSoFar r 0
  none_looked r me d rep = let all : client_count me.shape - 0 ≡ client_count me.shape = omega arith in rw all refl

  pub none_more : (r : ReplicaState V) (i : ℕ) (o : Option Request) → i < client_count r.protocol.shape → SaysOf r i o → is_some o ≡ false → NoneSoFar r i → NoneSoFar r (i + 1)
  none_more r i o lt is fails so_far me d rep =
      let none : is_some (pending me d i) ≡ false = ap (λ (y : Option Request). is_some y) (sym (is me d rep)) ∙ fails in
      sym (from_next me d i (within me r d rep i lt) ∙ ap (λ (b : Bool). b || has_from me d (i + 1)) none) ∙ so_far me d rep

  pub one_found : (r : ReplicaState V) (i : ℕ) (o : Option Request) → i < client_count r.protocol.shape → SaysOf r i o → is_some o ≡ true → NoneSoFar r i
      → (me : Identity V) (d : History) → Represents me r d → true ≡ has_pending me d
  one_found r i o lt is holds so_far me d rep =
      let some : is_some (pending me d i) ≡ true = ap (λ (y : Option Request). is_some y) (sym (is me d rep)) ∙ holds in
      sym (from_next me d i (within me r d rep i lt) ∙ ap (λ (b : Bool). b || has_from me d (i + 1)) some) ∙ so_far me d rep

  pub none_found : (r : ReplicaState V) (i : ℕ) → client_count r.protocol.shape ≤ i → NoneSoFar r i → (me : Identity V) (d : History) → Represents me r d → false ≡ has_pending me d
  none_found r i le so_far me d rep =
      let most : client_count me.shape ≤ i = subst (λ (s : Shape). client_count s ≤ i) (sym rep.who.shape) le in
      let left : client_count me.shape - i ≡ 0 = omega (arith, most) in
      let empty : has_from me d i ≡ false = rw left refl in
      sym empty ∙ so_far me d rep
