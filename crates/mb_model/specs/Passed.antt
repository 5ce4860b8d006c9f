-- What a message has passed that is not refused, test by test.
use Rattle.std.specs.Prelude.{◌≡◌, ℕ, ◌+◌, true, false, ◌∷◌, nat_lt, ◌==◌, None, is_some, option_and_then}
use Rattle.mb_parts.specs.declared.request.Request.{Request}
use Rattle.mb_parts.specs.declared.batch.Batch.{Batch}
use Rattle.mb_parts.specs.Certificates.{is_stable}
use Rattle.mb_msg.specs.declared.message.Body.{Body}
use Rattle.mb_msg.specs.declared.message.Body.TheVariants.{Whole, Bare as Short}
use Rattle.mb_msg.specs.declared.message.Message.{Message}
use Rattle.mb_msg.specs.declared.message.Message.TheVariants as message
use Rattle.mb_msg.specs.declared.change.ReqViewChange.{ReqViewChange}
use Rattle.mb_msg.specs.declared.transfer.Resend.{Resend}
use Rattle.mb_msg.specs.declared.transfer.Log.{Log}
use Rattle.mb_msg.specs.declared.transfer.Fetch.{Fetch}
use Rattle.mb_msg.specs.declared.transfer.StateMsg.{StateMsg}
use Rattle.mb_msg.specs.declared.stamped.Stamped.{Stamped as StampedMessage}
use Rattle.mb_msg.specs.declared.stamped.Stamped.TheVariants as stamped
use Rattle.mb_msg.specs.Stamps.{ui_of}
use Rattle.mb_model.specs.Histories.{Accepted, History, Identity, gate}
use Rattle.mb_model.specs.Held.{change_fault, is_current, wish_of}
use Rattle.mb_msg.specs.Bodies.{whole_body}
use Rattle.mb_model.specs.Positions.{exec_of}
use Rattle.mb_model.specs.Execution.{pending, snapshot_of}
use Rattle.mb_model.specs.GateChecks.{valid, stamp_claim, is_own_future, conviction, is_permitted}
use Rattle.mb_model.specs.KindChecks.{is_badly_tagged, has_bad_tag, is_beyond, is_of_later_view, is_of_view, new_view_fault, opening_fault}
use Rattle.mb_model.specs.PlainChecks.{last_seq, is_behind_pending, is_bad_wish, has_news_for, is_certified_floor, is_certified_evidence, is_wanted, is_list_right, wrong_part, are_all_held, bad_state}

module _ {S : Type 0} (self : Identity S) where
  -- ---- stamped messages

  -- The certificate verifies, an own message was reached, the sender's gate is not closed at or before it, the counter is the next one of
  -- its sender, and the message may stand there.
  pub record PassesGate (d : History) (m : StampedMessage) : Type 0 where
    pub certified : valid self (stamp_claim m) ≡ true
    pub not_future : is_own_future self d (ui_of m) ≡ false
    pub not_convicted : conviction self d (ui_of m) ≡ None
    pub next : (ui_of m).counter ≡ (gate d (ui_of m).host).counter + 1
    pub permitted : is_permitted self d m ≡ true

  -- A batch came whole, each request with the tag of its client, or its position is executed.
  abbrev pub PassesBody : History → ℕ → Body Batch → Type 0
  PassesBody d pos (Whole b) = has_bad_tag self b ≡ false
  PassesBody d pos (Short digest) = nat_lt (exec_of d) pos ≡ false

  -- It is of no later view; in the host's view it is not beyond the window, and its body passes.
  pub record PassesVote (d : History) (view pos : ℕ) (body : Body Batch) : Type 0 where
    pub not_later : is_of_later_view self d view ≡ false
    pub within : is_of_view self d view ≡ true → is_beyond self d pos ≡ false
    pub shown : is_of_view self d view ≡ true → PassesBody d pos body

  -- what each kind has passed beside the gate; what is of an earlier view is not looked into
  abbrev pub PassesKind : History → StampedMessage → Type 0
  PassesKind d (stamped.Prepare m) = PassesVote d m.view m.pos m.body
  PassesKind d (stamped.Commit m) = PassesVote d m.view m.pos m.body
  PassesKind d (stamped.Checkpoint m) = is_beyond self d m.pos ≡ false
  PassesKind d (stamped.ViewChange m) = is_current self d m.view ≡ true → change_fault self m ≡ None
  PassesKind d (stamped.NewView m) = is_current self d m.view ≡ true → option_and_then (new_view_fault self m) (whole_body m.body) ≡ None
  PassesKind d (stamped.Enter m) = Unit {0}
  PassesKind d (stamped.Open m) = is_current self d m.evidence.view ≡ true → option_and_then (opening_fault self m.evidence) (whole_body m.body) ≡ None
  PassesKind d (stamped.Join m) = Unit {0}

  pub record PassesStamped (d : History) (m : StampedMessage) : Type 0 where
    pub gate : PassesGate d m
    pub kind : PassesKind d m

  -- ---- the others

  pub record PassesRequest (d : History) (r : Request) : Type 0 where
    pub tagged : is_badly_tagged self r ≡ false
    pub fresh : nat_lt (last_seq self d r.client) r.seq ≡ true
    pub above : is_behind_pending (pending self d r.client) r ≡ false

  pub record PassesWish (d : History) (m : ReqViewChange) : Type 0 where
    pub tagged : is_bad_wish self m ≡ false
    pub above : nat_lt (wish_of self d m.host) m.view ≡ true

  pub record PassesResend (d : History) (m : Resend) : Type 0 where
    pub not_own : (m.host == self.host) ≡ false
    pub has_news : has_news_for self d m ≡ true

  -- what stands before its entries
  pub record PassesLog (m : Log) : Type 0 where
    pub floor : is_certified_floor self m.host m.floor ≡ true
    pub stable : is_stable self.shape (valid self) m.stable ≡ true
    pub evidence : is_certified_evidence self m.evidence ≡ true
    pub not_own : (m.host == self.host) ≡ false

  pub record PassesFetch (d : History) (m : Fetch) : Type 0 where
    pub asked : (m.of == self.host) ≡ true
    pub has_snapshot : is_some (snapshot_of self d m.pos) ≡ true

  -- Its parts are wanted, all have the certified digests, and not all were held.
  pub record PassesState (d : History) (m : StateMsg) : Type 0 where
    pub wanted : is_wanted self d m.pos ≡ true
    pub list : is_list_right self d m ≡ true
    pub parts : wrong_part m.digests m.first m.parts ≡ None
    pub not_held : are_all_held self d m ≡ false
    pub state : bad_state self (Accepted (message.State m) ∷ d) ≡ None

  -- ---- each kind: a REPLY or a STOP is never accepted

  abbrev pub Passes : History → Message → Type 0
  Passes d (message.Request m) = PassesRequest d m
  Passes d (message.Prepare m) = PassesStamped d (stamped.Prepare m)
  Passes d (message.Commit m) = PassesStamped d (stamped.Commit m)
  Passes d (message.Reply m) = ⊥
  Passes d (message.Checkpoint m) = PassesStamped d (stamped.Checkpoint m)
  Passes d (message.ReqViewChange m) = PassesWish d m
  Passes d (message.ViewChange m) = PassesStamped d (stamped.ViewChange m)
  Passes d (message.NewView m) = PassesStamped d (stamped.NewView m)
  Passes d (message.Enter m) = PassesStamped d (stamped.Enter m)
  Passes d (message.Open m) = PassesStamped d (stamped.Open m)
  Passes d (message.Join m) = PassesStamped d (stamped.Join m)
  Passes d (message.Resend m) = PassesResend d m
  Passes d (message.Log m) = PassesLog m
  Passes d (message.Fetch m) = PassesFetch d m
  Passes d (message.State m) = PassesState d m
  Passes d (message.Stop m) = ⊥
