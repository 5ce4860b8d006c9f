use Rattle.std.proofs.Common.{◌≡◌, ◌-◌, ◌≤◌}
use Rattle.mb_base.specs.Limits.{batch_bytes_limit}
use Rattle.mb_base.specs.Reading.{bounded_at}
use Rattle.mb_base.specs.Fields.{place_of}
use Rattle.mb_base.proofs.Loops.{with_front}
use Rattle.mb_parts.specs.Spelling.{request_bytes}
use Rattle.mb_parts.specs.Reading.{request_at}
use Rattle.mb_parts.proofs.batch.read_requests.Given as goal

abbrev pub invariant-loop : goal.invariant-loop
invariant-loop l = (l.used ≤ batch_bytes_limit)
    × (with_front l.requests (bounded_at request_bytes batch_bytes_limit (request_at l.shape) (l.count - l.counter) l.used (place_of l.fields))
    ≡ bounded_at request_bytes batch_bytes_limit (request_at l.shape) l.count 0 (place_of l.fn.fields))
