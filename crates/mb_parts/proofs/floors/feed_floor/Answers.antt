use Rattle.std.proofs.Common.{◌≡◌, ◌++◌, List, ℕ, subst, append_assoc}
use Rattle.std.specs.Int.{w8, w64}
use Rattle.mb_base.specs.Spelling.{number}
use Rattle.mb_parts.specs.declared.floor.Floor.{Floor}
use Rattle.mb_parts.specs.Spelling.{phase_number, floor_bytes}
use Rattle.mb_parts.proofs.floors.feed_floor.Goals as goal

-- the six pieces of a floor, in the order in which they are hashed
joined : (f : Floor) (m counter view phase last top point : List ℕ) → counter ≡ number w64 f.counter → view ≡ number w64 f.view → phase ≡ number w8 (phase_number f.phase)
    → last ≡ number w64 f.last → top ≡ number w64 f.top → point ≡ number w64 f.point
    → (((((m ++ counter) ++ view) ++ phase) ++ last) ++ top) ++ point ≡ m ++ floor_bytes f
unfolding floor_bytes
joined f m counter view phase last top point a b c d e g = rw (a, b, c, d, e, g) (simp append_assoc)

pub returns : goal.returns
unfolding number
returns g c m before =
    let one = c.update.ensures m before in
    let two = c.update-2.ensures _ one in
    let three = c.update-3.ensures _ two in
    let four = c.update-4.ensures _ three in
    let five = c.update-5.ensures _ four in
    let six = c.update-6.ensures _ five in
    let phase : c.byte.result ≡ number w8 (phase_number c.args.floor.now.phase) = rw (← c.number.ensures) c.byte.ensures in
    subst (g.H.Digest.holds c.update-6.new.self) (joined c.args.floor.now m _ _ _ _ _ _ c.to_be_bytes.ensures c.to_be_bytes-2.ensures phase c.to_be_bytes-3.ensures c.to_be_bytes-4.ensures c.to_be_bytes-5.ensures) six
