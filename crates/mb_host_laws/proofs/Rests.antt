-- What was delivered, hashed and sent only grows, and what an entry rests on does so still (`rests_more`).
use Rattle.std.proofs.Common.{[], ◌∷◌}
use Rattle.mb_base.specs.Shapes.{Bytes}
use Rattle.mb_msg.specs.declared.message.Message.{Message}
use Rattle.mb_msg.specs.declared.message.Message.TheVariants as message
use Rattle.mb_msg.specs.Stamps.{as_message}
use Rattle.mb_model.specs.Histories.{Entry, Accepted, Stamped, Jumped, Closed, Served, Executed, Installed, DroppedParts, LostPatience, Nudged, History, Identity}
use Rattle.mb_host_laws.proofs.Cases.{all_more}
use Rattle.mb_host_laws.specs.Rests.{Each, compared_by, noted_by, Rests}

pub each_more : (P Q : Entry → History → Type 0) → ((e : Entry) (d : History) → P e d → Q e d) → (d : History) → Each P d → Each Q d
each_more P Q more [] a = tt
each_more P Q more (e ∷ d) a = (more e d a.0, each_more P Q more d a.1)

module _ {S : Type 0} (self : Identity S) where
  pub rests_more : (given given' : Message → Type 0) (hashed hashed' : Bytes → Type 0) (sent sent' : Message → Type 0)
      → ((m : Message) → given m → given' m) → ((s : Bytes) → hashed s → hashed' s) → ((m : Message) → sent m → sent' m)
      → (e : Entry) (d : History) → Rests self given hashed sent e d → Rests self given' hashed' sent' e d
  rests_more given given' hashed hashed' sent sent' g h s (Accepted m) d r = ((r.0.0, g r.0.0 r.0.1, r.0.2), all_more hashed hashed' h (compared_by self d m) r.1)
  rests_more given given' hashed hashed' sent sent' g h s (Stamped m) d r = (s (as_message m) r.0, all_more hashed hashed' h (noted_by self d m) r.1)
  rests_more given given' hashed hashed' sent sent' g h s (Jumped k f) d r = (r.0, r.1, g (message.Log r.0) r.2, r.3, r.4, r.5)
  rests_more given given' hashed hashed' sent sent' g h s (Closed k counter) d r = (r.0, r.1, g r.0 r.2, r.3, r.4)
  rests_more given given' hashed hashed' sent sent' g h s (Served pos placed) d r = tt
  rests_more given given' hashed hashed' sent sent' g h s (Executed slot) d r = tt
  rests_more given given' hashed hashed' sent sent' g h s (Installed pos parts) d r = r
  rests_more given given' hashed hashed' sent sent' g h s DroppedParts d r = tt
  rests_more given given' hashed hashed' sent sent' g h s LostPatience d r = r
  rests_more given given' hashed hashed' sent sent' g h s Nudged d r = tt
