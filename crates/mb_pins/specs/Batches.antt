-- What a primary orders: of each client the request that waits, from the lowest client on, none left out, and as many as go into one batch.
use Rattle.std.specs.Prelude.{◌≡◌, ℕ, ◌≤◌, ◌<◌, ◌⊎◌, [], ◌∷◌, ◌++◌, length, slice_get, Some, Contains}
use Rattle.std.specs.List.{flat_map}
use Rattle.mb_base.specs.Shapes.{client_count}
use Rattle.mb_parts.specs.declared.request.Request.{Request}
use Rattle.mb_parts.specs.declared.batch.Batch.{Batch}
use Rattle.mb_parts.specs.Spelling.{request_bytes}
use Rattle.mb_msg.specs.declared.message.Body.TheVariants.{Whole}
use Rattle.mb_msg.specs.declared.normal.Prepare.{Prepare}
use Rattle.mb_msg.specs.declared.stamped.Stamped.TheVariants as stamped
use Rattle.mb_model.specs.Service.{reply_of}
use Rattle.mb_model.specs.Histories.{Stamped, History, Identity}
use Rattle.mb_model.specs.Execution.{state_of, pending}
use Rattle.mb_promise.specs.NothingLeft.{IsUnordered}
use Rattle.mb_world_model.specs.World.{System, self_of}
use Rattle.mb_world_model.specs.WorldSteps.{world}

module _ {S : Type 0} (self : Identity S) (d : History) where
  -- The request of a client waits, and no slot of the view has one of the client from its number on.
  pub record Waits (c : ℕ) (r : Request) : Type 0 where
    pub client : c < client_count self.shape
    pub pending : pending self d c ≡ Some r
    pub free : IsUnordered self d c r.seq

  -- This is the next client behind the batch whose request waits.
  pub record IsNextBehind (b : Batch) (c : ℕ) (r : Request) : Type 0 where
    pub waits : Waits c r
    pub behind : (q : Request) → Contains b.requests q → q.client < c
    pub first : (e : ℕ) (q : Request) → Waits e q → ((p : Request) → Contains b.requests p → p.client < e) → c ≤ e

  pub record OrdersInTurn (b : Batch) : Type 0 where
    pub waits : (r : Request) → Contains b.requests r → Waits r.client r
    pub fresh : (r : Request) → Contains b.requests r → (reply_of (state_of self d) r.client).seq < r.seq
    pub rising : (i j : ℕ) (x y : Request) → i < j → slice_get b.requests i ≡ Some x → slice_get b.requests j ≡ Some y → x.client < y.client
    pub none_left : (c : ℕ) (r q : Request) → Waits c r → Contains b.requests q → c ≤ q.client → Contains b.requests r
    pub some : 1 ≤ length b.requests
    pub few : length b.requests ≤ 16
    pub short : length (flat_map request_bytes b.requests) ≤ 2048
    pub full : (c : ℕ) (r : Request) → IsNextBehind b c r → (length b.requests ≡ 16) ⊎ (2048 < length (flat_map request_bytes (b.requests ++ r ∷ [])))

-- So it is of each PREPARE that a host stamped, behind what stood before it.
abbrev pub OrdersAllInTurn : {S : Type 0} → Identity S → History → Type 0
OrdersAllInTurn self d = (later before : History) (m : Prepare) (b : Batch) → d ≡ later ++ Stamped (stamped.Prepare m) ∷ before → m.body ≡ Whole b → OrdersInTurn self before b

-- after any events, whoever is faulty and whatever is forged
abbrev pub HostsOrderInTurn : Type 0 → Type 0
HostsOrderInTurn S = (system : System S) (k h : ℕ) → OrdersAllInTurn (self_of system h) ((world system k).histories h)
