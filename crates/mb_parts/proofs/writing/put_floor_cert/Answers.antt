use Rattle.mb_parts.proofs.writing.put_floor_cert.Goals as goal

pub returns : goal.returns
returns c = record { ok = c.put_whole.ensures.ok; err = c.put_whole.ensures.err }
