-- What a replica's history says of the numbers in its tables.
use Rattle.std.proofs.Common.{◌≡◌, ◌<◌, ◌^◌, ℕ, true, sym, subst}
use Rattle.std.proofs.lemmas.Bool.{ltb-true}
use Rattle.mb_base.specs.declared.shape.Shape.{Shape}
use Rattle.mb_parts.specs.declared.certificates.StableCert.{StableCert}
use Rattle.mb_base.specs.Shapes.{host_count}
use Rattle.mb_model.specs.Histories.{History, Identity, here}
use Rattle.mb_model.specs.Stable.{low_of}
use Rattle.mb_model.specs.Positions.{exec_of, is_behind}
use Rattle.mb_encodable.proofs.Gates.{gate_fits}
use Rattle.mb_encodable.proofs.Found.{exec_place}
use Rattle.mb_replica.specs.declared.state.ReplicaState.{ReplicaState}
use Rattle.mb_replica.specs.Represents.{Represents, HasHistory}

module _ {V : Type 0} (me : Identity V) (r : ReplicaState V) (d : History) (rep : Represents me r d) where
  pub host_there : me.host < host_count me.shape
  host_there =
      let within : r.protocol.host < host_count r.protocol.shape = r.protocol.host_in in
      let here_in : me.host < host_count r.protocol.shape = subst (λ (h : ℕ). h < host_count r.protocol.shape) (sym rep.who.host) within in
      subst (λ (s : Shape). me.host < host_count s) (sym rep.who.shape) here_in

  pub last_low : (here me d).last < 2 ^ 63
  last_low = (gate_fits me d rep.tables.sound.arises rep.fit.values me.host).at.last

  pub exec_low : exec_of d < 2 ^ 63
  exec_low = exec_place me host_there d rep.tables.sound rep.fit

  -- behind the stable position
  pub behind_low : is_behind me d ≡ true → r.protocol.exec < r.protocol.stable.pos
  behind_low behind =
      let lt : exec_of d < low_of me d = ltb-true (exec_of d) (low_of me d) behind in
      subst (λ (n : ℕ). n < r.protocol.stable.pos) (sym rep.tables.exec) (subst (λ (c : StableCert). exec_of d < c.pos) (sym rep.tables.stable) lt)

-- The same, whatever the history is.
module _ {V : Type 0} (r : ReplicaState V) (h : HasHistory r) where
  pub executed_low : r.protocol.exec < 2 ^ 63
  executed_low = subst (λ (n : ℕ). n < 2 ^ 63) (sym h.represents.tables.exec) (exec_low h.me r h.history h.represents)

  pub standing_low : (n : ℕ) → ((me : Identity V) (d : History) → Represents me r d → n ≡ (here me d).last) → n < 2 ^ 63
  standing_low n is = subst (λ (k : ℕ). k < 2 ^ 63) (sym (is h.me h.history h.represents)) (last_low h.me r h.history h.represents)
