-- What the code of the client's side is.
use Rattle.std.specs.Prelude.{◌≡◌, ◌∷◌, Option, Some, None}
use Rattle.mb_base.specs.Shapes.{Bytes}
use Rattle.mb_base.specs.declared.shape.Shape.{Shape}
use Rattle.mb_msg.specs.declared.normal.Reply.{Reply}
use Rattle.mb_client.specs.Represents.{Represents}
use Rattle.mb_model.specs.Clients.{Asker, most_agreeing}
use Rattle.mb_cluster.specs.declared.listener.Listener.{Listener}
use Rattle.mb_cluster.specs.Hearing.{Hearing}

-- the client's side in a system of this size and secret
pub record Listens (s : Shape) (secret : Bytes) (l : Listener) (c : Hearing) : Type 0 where
  pub held : l.joiners.items ≡ c.held
  pub asker : Represents s secret 0 l.asker c.asker
  pub most : l.most ≡ most_agreeing c.asker.replies c.asker.replies

-- what a receive brought, by the client's side before and after it: a reply that completes f+1, or none
abbrev pub HeardAs : Option Reply → Asker → Asker → Type 0
HeardAs None old new = (new.waits ≡ old.waits) × (new.accepted ≡ old.accepted)
HeardAs (Some r) old new = (new.accepted ≡ r ∷ old.accepted) × (r.seq ≡ old.number)

-- So it is whatever the client's side stands for.
abbrev pub WhereListens : Listener → (Shape → Bytes → Hearing → Type 0) → Type 0
WhereListens l P = (s : Shape) (secret : Bytes) (c : Hearing) → Listens s secret l c → P s secret c
