-- What stands in a message that is no LOG: what stands in the stamped one that it is, and its own certificate behind that.
use Rattle.std.proofs.Common.{◌≡◌, false, ◌++◌, refl}
use Rattle.mb_base.specs.declared.shape.Shape.{Shape}
use Rattle.mb_parts.specs.declared.request.Request.{Request}
use Rattle.mb_msg.specs.declared.normal.Prepare.{Prepare}
use Rattle.mb_msg.specs.declared.normal.Commit.{Commit}
use Rattle.mb_msg.specs.declared.normal.Reply.{Reply}
use Rattle.mb_msg.specs.declared.change.ReqViewChange.{ReqViewChange}
use Rattle.mb_msg.specs.declared.change.ViewChange.{ViewChange}
use Rattle.mb_msg.specs.declared.change.NewView.{NewView}
use Rattle.mb_msg.specs.declared.change.Open.{Open}
use Rattle.mb_msg.specs.declared.transfer.Log.{Log}
use Rattle.mb_msg.specs.declared.message.Message.{Message}
use Rattle.mb_msg.specs.declared.message.Message.TheVariants as message
use Rattle.mb_msg.specs.Stamps.{as_stamped}
use Rattle.mb_model.specs.Compared.{inside_some}
use Rattle.mb_schedule.specs.declared.schedule.Schedule.{Schedule}
use Rattle.mb_world_model.specs.World.{World}
use Rattle.mb_model.specs.Inside.{claims_in_stamped, stamped_claims, claims_in, requests_in}
use Rattle.mb_world_model.specs.Forged.{has_forged_tag}
use Rattle.mb_forgery.specs.Checks.{own_claim}

pub own_behind : (s : Shape) (m : Message) → ((x : Log) → m ≡ message.Log x → ⊥) → inside_some (claims_in_stamped s) (as_stamped m) ++ own_claim m ≡ claims_in s m
unfolding claims_in stamped_claims
own_behind s (message.Prepare m) never = refl
own_behind s (message.Commit m) never = refl
own_behind s (message.Checkpoint m) never = refl
own_behind s (message.ViewChange m) never = refl
own_behind s (message.NewView m) never = refl
own_behind s (message.Enter m) never = refl
own_behind s (message.Open m) never = refl
own_behind s (message.Join m) never = refl
own_behind s (message.Request m) never = refl
own_behind s (message.Reply m) never = refl
own_behind s (message.ReqViewChange m) never = refl
own_behind s (message.Resend m) never = refl
own_behind s (message.Log m) never = absurd (never m refl)
own_behind s (message.Fetch m) never = refl
own_behind s (message.State m) never = refl
own_behind s (message.Stop m) never = refl

-- a message of a kind that has no tag and no request
pub no_tag : (s : Schedule) (w : World) (m : Message)
    → ((x : Reply) → m ≡ message.Reply x → ⊥) → ((x : ReqViewChange) → m ≡ message.ReqViewChange x → ⊥) → ((x : Request) → m ≡ message.Request x → ⊥) → ((x : Log) → m ≡ message.Log x → ⊥)
    → ((x : Prepare) → m ≡ message.Prepare x → ⊥) → ((x : Commit) → m ≡ message.Commit x → ⊥) → ((x : ViewChange) → m ≡ message.ViewChange x → ⊥) → ((x : NewView) → m ≡ message.NewView x → ⊥) → ((x : Open) → m ≡ message.Open x → ⊥)
    → false ≡ has_forged_tag s w m
unfolding has_forged_tag requests_in
no_tag s w (message.Prepare m) a b c d e f g h i = absurd (e m refl)
no_tag s w (message.Commit m) a b c d e f g h i = absurd (f m refl)
no_tag s w (message.Checkpoint m) a b c d e f g h i = refl
no_tag s w (message.ViewChange m) a b c d e f g h i = absurd (g m refl)
no_tag s w (message.NewView m) a b c d e f g h i = absurd (h m refl)
no_tag s w (message.Enter m) a b c d e f g h i = refl
no_tag s w (message.Open m) a b c d e f g h i = absurd (i m refl)
no_tag s w (message.Join m) a b c d e f g h i = refl
no_tag s w (message.Request m) a b c d e f g h i = absurd (c m refl)
no_tag s w (message.Reply m) a b c d e f g h i = absurd (a m refl)
no_tag s w (message.ReqViewChange m) a b c d e f g h i = absurd (b m refl)
no_tag s w (message.Resend m) a b c d e f g h i = refl
no_tag s w (message.Log m) a b c d e f g h i = absurd (d m refl)
no_tag s w (message.Fetch m) a b c d e f g h i = refl
no_tag s w (message.State m) a b c d e f g h i = refl
no_tag s w (message.Stop m) a b c d e f g h i = refl
