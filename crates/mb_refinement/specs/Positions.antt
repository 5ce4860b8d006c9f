-- What the host's code makes of the tables of the normal case where it goes step by step: calls that may be refused, certificates that may be no news,
-- and hosts, positions and clients one after the other.
use Rattle.std.specs.Prelude.{ℕ, ◌≡◌, ◌+◌, ◌*◌, ◌/◌, ◌<◌, ◌≤◌, ◌==◌, Bool, true, false, ◌&&◌, ◌||◌, not, nat_lt, nat_le, List, ◌∷◌, Option, Some, None, option_map, if◌then◌else◌}
use Rattle.std.specs.Option.{option_or}
use Rattle.mb_base.specs.declared.shape.Shape.{Shape}
use Rattle.mb_base.specs.Shapes.{Bytes, host_count, client_count, interval, span}
use Rattle.mb_usig.specs.Tags.{same_bytes}
use Rattle.mb_parts.specs.declared.certificates.Evidence.{Evidence}
use Rattle.mb_parts.specs.declared.certificates.StableCert.{StableCert}
use Rattle.mb_parts.specs.declared.certificates.FloorCert.{FloorCert}
use Rattle.mb_msg.specs.declared.change.Open.{Open}
use Rattle.mb_msg.specs.declared.change.Plan.{Plan}
use Rattle.mb_msg.specs.Plans.{plan_digest}
use Rattle.mb_model.specs.declared.known.Vote.{Vote}
use Rattle.mb_model.specs.declared.known.KnownSlot.{KnownSlot}
use Rattle.mb_model.specs.Service.{reply_of}
use Rattle.mb_model.specs.Histories.{Entry, Installed, History, Identity, view_of}
use Rattle.mb_model.specs.Held.{opened_by, plan_at}
use Rattle.mb_model.specs.Positions.{slot_vote, open_vote, slot_of_open, in_window}
use Rattle.mb_model.specs.Stable.{low_of as low_in}
use Rattle.mb_model.specs.Execution.{state_of, if_above}
use Rattle.mb_window.specs.Places.{item_at}
use Rattle.mb_votes.specs.Ballots.{vote_at}
use Rattle.mb_checkpoints.specs.Kept.{kept_at, low_of}
use Rattle.mb_checkpoints.specs.Certificates.{agreed_above, floor_from}
use Rattle.mb_change.specs.declared.opened.Opened.{Opened}
use Rattle.mb_normal.specs.Waiting.{request_of}
use Rattle.mb_normal.specs.declared.normal.Normal.{Normal}
use Rattle.mb_normal.specs.Searches.{Searches, searches_in, above_low}
use Rattle.mb_normal.specs.Tables.{Represents, Becomes}

-- Two searches that no table tells apart. The tables look for CHECKPOINTs at multiples of the interval that are not below the stable position, and
-- only for clients and senders of CHECKPOINTs that there are.
pub record Alike (s : Shape) (x y : Searches) : Type 0 where
  pub low : y.low ≡ x.low
  pub slots : (p : ℕ) → y.slots p ≡ x.slots p
  pub votes : (h p : ℕ) → y.votes h p ≡ x.votes h p
  pub pending : (c : ℕ) → c < client_count s → y.pending c ≡ x.pending c
  pub checkpoints : (h number : ℕ) → h < host_count s → x.low ≤ number * interval s → y.checkpoints h (number * interval s) ≡ x.checkpoints h (number * interval s)

-- what the tables hold themselves
abbrev pub found_in : Normal → Searches
found_in t = record {
  low = low_of t.checkpoints;
  slots = item_at t.slots.window;
  votes = vote_at t.votes.ballots;
  pending = request_of t.pending.by_client.items;
  checkpoints = λ h p. option_map (λ k. k.message) (kept_at t.checkpoints (p / interval t.checkpoints.shape) h);
}

-- the same system and the same host, at a stable position
pub record StandsAt (low : ℕ) (old new : Normal) : Type 0 where
  pub shape_is : new.shape ≡ old.shape
  pub host_is : new.host ≡ old.host
  pub low_is : low_of new.checkpoints ≡ low

-- ---- the first slot and the first vote for a position count: another is refused, and changes nothing

module _ (s : Shape) (x : Searches) where
  -- The tables have a place for a position.
  abbrev pub has_place : ℕ → Bool
  has_place p = nat_lt x.low p && nat_le p (x.low + span s)

  abbrev pub with_first_slot : ℕ → KnownSlot → Searches
  with_first_slot pos slot = record x { slots = λ p. option_or (x.slots p) (if has_place pos && p == pos then Some slot else None) }

  abbrev pub with_first_vote : ℕ → ℕ → Vote → Searches
  with_first_vote pos host vote = record x { votes = λ h p. option_or (x.votes h p) (if has_place pos && (p == pos && h == host) then Some vote else None) }

-- The slot was put, or was refused.
abbrev pub PutsSlot : Normal → Normal → ℕ → KnownSlot → Type 0
PutsSlot old new pos slot = (s : Shape) (host : ℕ) (x : Searches) → Represents s host old x → Represents s host new (with_first_slot s x pos slot)

-- The vote of a host was counted, or was refused.
abbrev pub CountsVote : Normal → Normal → ℕ → ℕ → Vote → Type 0
CountsVote old new pos voter vote = (s : Shape) (host : ℕ) (x : Searches) → Represents s host old x → Represents s host new (with_first_vote s x pos voter vote)

-- ---- a certificate is learnt where its position is above the stable one

abbrev pub RaisesWhere : Bool → Normal → Normal → ℕ → Type 0
RaisesWhere true old new low = Becomes old new (λ x. above_low x low)
RaisesWhere false old new low = new ≡ old

abbrev pub Learns : StableCert → Option StableCert → Normal → Normal → Type 0
Learns stable None old new = new ≡ old
Learns stable (Some c) old new = RaisesWhere (nat_lt stable.pos c.pos) old new c.pos

-- the certificate that kept CHECKPOINTs make, as the table answers it
abbrev pub AnswersStable : Normal → Option StableCert → Type 0
AnswersStable t c = (s : Shape) (host : ℕ) (x : Searches) → Represents s host t x → c ≡ agreed_above s x.checkpoints x.low

-- that of a floor for this host, likewise
abbrev pub AnswersFloor : Normal → ℕ → Option FloorCert → Type 0
AnswersFloor t owner c = (s : Shape) (host : ℕ) (x : Searches) → Represents s host t x → c ≡ floor_from s x.checkpoints owner x.low

-- ---- client by client: the pending requests of those below one are settled by these numbers

abbrev pub settled_below : Searches → (ℕ → ℕ) → ℕ → Searches
settled_below x numbers n = record x { pending = λ c. if nat_lt c n then if_above (numbers c) (x.pending c) else x.pending c }

-- those of the client table of a state that is installed
abbrev pub installed_numbers : {S : Type 0} → Identity S → ℕ → List Bytes → History → ℕ → ℕ
installed_numbers self pos parts d c = (reply_of (state_of self (Installed pos parts ∷ d)) c).seq

-- ---- the votes of OPENs, host by host and position by position

-- what was known before, or else the votes that are found, of the hosts and positions that were counted
abbrev pub counting : Searches → (ℕ → ℕ → Option Vote) → (ℕ → ℕ → Bool) → Searches
counting x found counted = record x { votes = λ h p. option_or (x.votes h p) (if counted h p then found h p else None) }

-- The hosts below one were counted.
abbrev pub hosts_below : ℕ → ℕ → ℕ → Bool
hosts_below host h p = nat_lt h host

-- So they were, and of this one the positions up to a last one.
abbrev pub positions_to : ℕ → ℕ → ℕ → ℕ → Bool
positions_to host last h p = nat_lt h host || (h == host && nat_le p last)

-- OPENs are of hosts that there are, and of views above the first.
abbrev pub AreOpens : Shape → History → Type 0
AreOpens s d = (h : ℕ) (e : Evidence) → opened_by d h ≡ Some e → (h < host_count s) × (1 ≤ e.view)

-- The OPEN of a host, of which a table says this, is of this view, and of the plan that is held for it.
abbrev pub is_open_of : ℕ → Plan → Opened → Bool
is_open_of view plan o = not (o.view == 0) && (o.view == view && same_bytes (plan_digest plan) o.plan)

module _ {S : Type 0} (self : Identity S) where
  -- what the tables stand for behind the raise, before OPENs are counted
  abbrev pub above_raise : Entry → History → Searches
  above_raise e d = above_low (searches_in self d) (low_in self (e ∷ d))

  -- the vote that the last OPEN of a host is, where it counts
  abbrev pub open_votes : History → ℕ → ℕ → Option Vote
  open_votes d h p = if in_window self d p then open_vote (opened_by d h) (plan_at self d (view_of self d)) (view_of self d) p else None

  -- ---- the own OPEN, position by position

  -- the slot that it makes of a position, where it counts
  abbrev pub open_slots : Open → History → ℕ → Option KnownSlot
  open_slots m d p = if in_window self d p then slot_of_open m (view_of self d) p else None

-- what was known before, or else the slots that are found, and a vote of this host for each, of the positions that were carried on
abbrev pub carrying : ℕ → Searches → (ℕ → Option KnownSlot) → (ℕ → Bool) → Searches
carrying own x found carried = record x {
  slots = λ p. option_or (x.slots p) (if carried p then found p else None);
  votes = λ h p. option_or (x.votes h p) (if carried p && own == h then option_map slot_vote (found p) else None);
}

-- The positions up to a last one were carried on.
abbrev pub up_to : ℕ → ℕ → Bool
up_to last p = nat_le p last
