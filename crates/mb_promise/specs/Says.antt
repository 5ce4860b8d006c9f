-- What the messages say by which a host answers, asks and wishes: a reply, a wish, a RESEND, a FETCH. And whom it asks for state: the other hosts in turn.
use Rattle.std.specs.Prelude.{◌≡◌, ℕ, ◌+◌, ◌-◌, ◌^◌, ◌%◌, ◌<◌, ◌⊎◌, ◌∷◌, length, min, Some, slice_get}
use Rattle.mb_base.specs.Shapes.{host_count}
use Rattle.mb_usig.specs.Tags.{reply_tag, wish_tag}
use Rattle.mb_msg.specs.declared.message.Message.TheVariants as message
use Rattle.mb_msg.specs.declared.normal.Reply.{Reply}
use Rattle.mb_msg.specs.declared.change.ReqViewChange.{ReqViewChange}
use Rattle.mb_msg.specs.declared.transfer.Resend.{Resend}
use Rattle.mb_msg.specs.declared.transfer.Fetch.{Fetch}
use Rattle.mb_model.specs.Service.{reply_of}
use Rattle.mb_model.specs.Histories.{Entry, Nudged, History, Identity, gate}
use Rattle.mb_model.specs.Stable.{low_of}
use Rattle.mb_model.specs.Positions.{exec_of}
use Rattle.mb_model.specs.Execution.{state_of, asked_host, missing}
use Rattle.mb_model.specs.Making.{wish_for, resend, fetch}
use Rattle.mb_model.specs.Given.{stored_reply}

module _ {S : Type 0} (self : Identity S) where
  -- A wish is for this view, under the host's tag.
  pub record IsOwnWish (view : ℕ) (m : ReqViewChange) : Type 0 where
    pub host : m.host ≡ self.host
    pub is : m.view ≡ view
    pub tag : m.tag ≡ wish_tag self.secret self.host view

  -- A reply has the number, position and result of the client's last request that was served, under the tag for this client.
  pub record IsReplyTo (d : History) (c : ℕ) (m : Reply) : Type 0 where
    pub host : m.host ≡ self.host
    pub client : m.client ≡ c
    pub number : m.seq ≡ (reply_of (state_of self d) c).seq
    pub position : m.pos ≡ (reply_of (state_of self d) c).pos
    pub result : m.result ≡ (reply_of (state_of self d) c).result
    pub tag : m.tag ≡ reply_tag self.secret self.host c m.seq m.pos m.result

  -- A RESEND says the stable position, and of each host the counter behind that of its gate; the greatest one also where none is left.
  pub record AsksFrom (d : History) (m : Resend) : Type 0 where
    pub host : m.host ≡ self.host
    pub low : m.low ≡ low_of self d
    pub many : length m.nexts ≡ host_count self.shape
    pub nexts : (h : ℕ) → h < host_count self.shape → slice_get m.nexts h ≡ Some (min ((gate d h).counter + 1) (2 ^ 64 - 1))

  -- A FETCH asks for the state at the stable position from the first missing part on.
  pub record AsksForState (d : History) (m : Fetch) : Type 0 where
    pub host : m.host ≡ self.host
    pub asked : m.of ≡ asked_host self d
    pub position : m.pos ≡ low_of self d
    pub first : (i : ℕ) → missing self d ≡ Some i → m.first ≡ i

  -- another host
  pub record IsOther (h : ℕ) : Type 0 where
    pub there : h < host_count self.shape
    pub other : h ≡ self.host → ⊥

  -- the host behind another one, or the next, where that is the host itself
  abbrev pub IsNextHost : ℕ → ℕ → Type 0
  IsNextHost h next = (next ≡ (h + 1) % host_count self.shape) ⊎ (((h + 1) % host_count self.shape ≡ self.host) × (next ≡ (h + 2) % host_count self.shape))

  -- This is so after anything that a host has done. It asks a host until a Nudge finds it behind, and the next one from then on.
  pub record SaysWhatItHolds : Type 0 where
    pub wishes : (view : ℕ) → (m : ReqViewChange) × (wish_for self view ≡ message.ReqViewChange m) × IsOwnWish view m
    pub replies : (d : History) (c : ℕ) → (m : Reply) × (stored_reply self d c ≡ message.Reply m) × IsReplyTo d c m
    pub asks : (d : History) → (m : Resend) × (resend self d ≡ message.Resend m) × AsksFrom d m
    pub fetches : (d : History) → (m : Fetch) × (fetch self d ≡ message.Fetch m) × AsksForState d m
    pub others : (d : History) → self.host < host_count self.shape → IsOther (asked_host self d)
    pub turns : (d : History) → exec_of d < low_of self d → IsNextHost (asked_host self d) (asked_host self (Nudged ∷ d))
    pub stays : (e : Entry) (d : History) → (e ≡ Nudged → ⊥) → asked_host self (e ∷ d) ≡ asked_host self d
