-- Operations that were answered, and their results.
use Rattle.std.specs.Prelude.{◌≡◌, ℕ, ◌≤◌, true, List, [], ◌∷◌, ◌++◌, codes, length}
use Rattle.std.specs.List.{flat_map}
use Rattle.std.specs.Fmt.{decimal}
use Rattle.mb_base.specs.Shapes.{Bytes, HasQuorum}
use Rattle.mb_base.specs.declared.shape.Shape.{Shape}
use Rattle.mb_msg.specs.declared.normal.Reply.{Reply}
use Rattle.mb_sched.specs.Printing.{line_of, hex_word}
use Rattle.mb_client.specs.Accepted.{host_told}
use Rattle.mb_cluster.specs.Hearing.{Receive, Hearing, asked, hears_all, replies_heard}

-- the receives that were made for an operation, and the reply that tells its result
pub record Exchange : Type 0 where
  pub receives : List Receive
  pub reply : Reply

-- `result SEQ POS HEX`: the number of the request, its position, and the result
abbrev pub result_line : Reply → Bytes
result_line r = line_of (codes "result" ∷ decimal r.seq ∷ decimal r.pos ∷ hex_word r.result ∷ [])

abbrev pub result_text : List Exchange → Bytes
result_text exchanges = flat_map (λ x. result_line x.reply) exchanges

module _ (s : Shape) (secret : Bytes) where
  -- The last receive completed f+1 replies that agree, and none before it did. Among what was heard in these receives are replies of f+1
  -- different hosts, each under its host's tag, that tell this position and this result.
  pub record IsAnswered (c : Hearing) (x : Exchange) : Type 0 where
    pub earlier : List Receive
    pub last : Receive
    pub all : x.receives ≡ earlier ++ last ∷ []
    pub waits : (hears_all s secret c earlier).asker.waits ≡ true
    pub accepted : (hears_all s secret c x.receives).asker.accepted ≡ x.reply ∷ c.asker.accepted
    pub number : x.reply.seq ≡ c.asker.number
    pub quorum : HasQuorum s (host_told s secret 0 (replies_heard s c.held x.receives) x.reply)

  -- each was, one after the other, in at most so many receives
  abbrev pub AreAnswered : ℕ → Hearing → List Exchange → Type 0
  AreAnswered turns c [] = Unit {0}
  AreAnswered turns c (x ∷ xs) = IsAnswered (asked c) x × ((length x.receives ≤ turns) × AreAnswered turns (hears_all s secret (asked c) x.receives) xs)

  -- the client's side after them
  abbrev pub hearing_after : Hearing → List Exchange → Hearing
  hearing_after c [] = c
  hearing_after c (x ∷ xs) = hearing_after (hears_all s secret (asked c) x.receives) xs
