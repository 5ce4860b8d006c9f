-- What a client makes of bytes that it reads: it takes a REPLY, and tells of all else.
use Rattle.std.proofs.Common.{◌≡◌, ℕ, Result, Ok, Err, refl}
use Rattle.mb_msg.specs.declared.message.Message.{Message}
use Rattle.mb_msg.specs.declared.message.Message.TheVariants as message
use Rattle.mb_msg.specs.declared.event.Outcome.{Outcome}
use Rattle.mb_msg.specs.declared.event.Outcome.TheVariants as outcome
use Rattle.mb_msg.specs.declared.normal.Reply.{Reply}
use Rattle.mb_schedule.specs.declared.schedule.Schedule.{Schedule}
use Rattle.mb_world_model.specs.World.{World as WorldState, answered, client_reads, takes_reply, Unread}
use Rattle.mb_members.specs.Replies.{reply_or}

pub reads_reply : (s : Schedule) (c : ℕ) (read : Result Message ℕ) (r : Reply) (x : WorldState) → Ok r ≡ reply_or read → client_reads s c read x ≡ takes_reply s c r x
reads_reply s c (Err at) r x e = absurd cc
reads_reply s c (Ok (message.Reply q)) r x e = let same : r ≡ q = cc in rw same refl
reads_reply s c (Ok (message.Request q)) r x e = absurd cc
reads_reply s c (Ok (message.Prepare q)) r x e = absurd cc
reads_reply s c (Ok (message.Commit q)) r x e = absurd cc
reads_reply s c (Ok (message.Checkpoint q)) r x e = absurd cc
reads_reply s c (Ok (message.ReqViewChange q)) r x e = absurd cc
reads_reply s c (Ok (message.ViewChange q)) r x e = absurd cc
reads_reply s c (Ok (message.NewView q)) r x e = absurd cc
reads_reply s c (Ok (message.Enter q)) r x e = absurd cc
reads_reply s c (Ok (message.Open q)) r x e = absurd cc
reads_reply s c (Ok (message.Join q)) r x e = absurd cc
reads_reply s c (Ok (message.Resend q)) r x e = absurd cc
reads_reply s c (Ok (message.Log q)) r x e = absurd cc
reads_reply s c (Ok (message.Fetch q)) r x e = absurd cc
reads_reply s c (Ok (message.State q)) r x e = absurd cc
reads_reply s c (Ok (message.Stop q)) r x e = absurd cc

told_of : (o q : Outcome) (x : WorldState) → o ≡ q → answered (Unread q) x ≡ answered (Unread o) x
told_of o q x same = rw same refl

pub reads_other : (s : Schedule) (c : ℕ) (read : Result Message ℕ) (o : Outcome) (x : WorldState) → Err o ≡ reply_or read → client_reads s c read x ≡ answered (Unread o) x
reads_other s c (Err at) o x e = told_of o (outcome.Malformed at) x (cc)
reads_other s c (Ok (message.Reply q)) o x e = absurd cc
reads_other s c (Ok (message.Request q)) o x e = told_of o outcome.Idle x (cc)
reads_other s c (Ok (message.Prepare q)) o x e = told_of o outcome.Idle x (cc)
reads_other s c (Ok (message.Commit q)) o x e = told_of o outcome.Idle x (cc)
reads_other s c (Ok (message.Checkpoint q)) o x e = told_of o outcome.Idle x (cc)
reads_other s c (Ok (message.ReqViewChange q)) o x e = told_of o outcome.Idle x (cc)
reads_other s c (Ok (message.ViewChange q)) o x e = told_of o outcome.Idle x (cc)
reads_other s c (Ok (message.NewView q)) o x e = told_of o outcome.Idle x (cc)
reads_other s c (Ok (message.Enter q)) o x e = told_of o outcome.Idle x (cc)
reads_other s c (Ok (message.Open q)) o x e = told_of o outcome.Idle x (cc)
reads_other s c (Ok (message.Join q)) o x e = told_of o outcome.Idle x (cc)
reads_other s c (Ok (message.Resend q)) o x e = told_of o outcome.Idle x (cc)
reads_other s c (Ok (message.Log q)) o x e = told_of o outcome.Idle x (cc)
reads_other s c (Ok (message.Fetch q)) o x e = told_of o outcome.Idle x (cc)
reads_other s c (Ok (message.State q)) o x e = told_of o outcome.Idle x (cc)
reads_other s c (Ok (message.Stop q)) o x e = told_of o outcome.Idle x (cc)
