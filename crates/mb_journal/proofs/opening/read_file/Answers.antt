use Rattle.std.proofs.Common.{◌≡◌, ◌++◌, ◌∙◌, sym, ap, take, drop, length, arith, length-take}
use Rattle.std.proofs.lemmas.List.{length-take-le, take-append-le}
use Rattle.mb_base.specs.Shapes.{Bytes}
use Rattle.mb_journal.proofs.Lists.{read_more, read_all}
use Rattle.mb_journal.proofs.opening.read_file.Goals as goal

pub returns-then-len-clause-bytes : goal.returns-then-len-clause-bytes
returns-then-len-clause-bytes g c m is =
    let len = c.loop-piece.file.ok.0 in
    read_all m.now.reads c.loop-piece.file.items (c.loop-piece.invariant.read m is) (omega (arith, c.in_ok-len.ensures.len m is))

pub returns-then-count-eq0-clause-bytes : goal.returns-then-count-eq0-clause-bytes
returns-then-count-eq0-clause-bytes g c m is =
    let len = c.loop-piece.file.ok.0 in
    let most = length-take c.min-room.result c.loop-piece.piece in
    let read = c.in_ok-count.ensures.bytes m (c.loop-piece.invariant.same ∙ is) in
    read_all m.now.reads c.loop-piece.file.items (c.loop-piece.invariant.read m is) (omega (arith, read.ends, most, c.min-room.ensures))

pub loop-piece-preserved : goal.loop-piece-preserved
loop-piece-preserved g c =
    let len = c.loop-piece.file.ok.0 in
    let bound = c.in_ok-count.ensures.bound.0 in
    let grown : c.extend_from_slice.new.self.items ≡ c.loop-piece.file.items ++ take c.in_ok-count.count c.read_at.new.into =
    c.in_ok-extend_from_slice.ensures.items ∙ ap (λ (l : Bytes). c.loop-piece.file.items ++ l) (take-append-le c.in_ok-count.count c.read_at.new.into (drop c.min-room.result c.loop-piece.piece) bound) in
    let faults = c.loop-piece.invariant.faults in
    record {
      read = λ m is.
          grown ∙ read_more m.now.reads c.loop-piece.file.items c.read_at.new.into _ _ c.in_ok-count.count (c.loop-piece.invariant.read m is) (c.in_ok-count.ensures.bytes m (c.loop-piece.invariant.same ∙ is)) (omega arith)
          (length-take-le c.in_ok-count.count c.read_at.new.into bound)
          ∙ ap (λ (l : Bytes). take (length l) m.now.reads) (sym grown);
      same = c.read_at.ensures.same ∙ c.loop-piece.invariant.same;
      faults = record {
        later = omega (arith, faults.later, c.read_at.ensures.cause.later);
        rose = λ told. absurd told;
        sound = λ never. c.read_at.ensures.sound (faults.sound never);
        quiet = λ never. record { kept = (c.read_at.ensures.quiet (faults.sound never)).kept ∙ (faults.quiet never).kept; none = λ told. told };
      };
    }
