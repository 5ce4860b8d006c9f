-- What an event of a faulty host or client does, where nothing stands in the way of it.
use Rattle.std.proofs.Common.{◌≡◌, ◌<◌, ℕ, true, List, Option, Some, refl, ap, subst, ◌∙◌}
use Rattle.std.specs.Prelude.{option_map}
use Rattle.mb_base.specs.Shapes.{Bytes, host_count}
use Rattle.mb_msg.specs.declared.stamped.Stamped.{Stamped}
use Rattle.mb_msg.specs.declared.message.Message.TheVariants as message
use Rattle.mb_msg.specs.Spelling.{spelling}
use Rattle.mb_schedule.specs.declared.schedule.Name.{Name}
use Rattle.mb_schedule.specs.declared.schedule.Name.TheVariants as name
use Rattle.mb_schedule.specs.declared.schedule.WorldEvent.{WorldEvent}
use Rattle.mb_schedule.specs.declared.schedule.WorldEvent.TheVariants.{Ask, Give, Take, Raw, Patience, Nudge, Sign, TagReply, TagWish, StampPrepare, StampCommit, StampCheckpoint, StampChange, StampAs, StampRaw}
use Rattle.mb_base.specs.declared.shape.Shape.{Shape}
use Rattle.mb_schedule.specs.Limits.{EventFits, is_faulty, is_faulty_client}
use Rattle.mb_world_model.specs.World.{World as WorldState, System, made, request_of}
use Rattle.mb_world_model.specs.WorldEvents.{culprit, is_faulty_name}
use Rattle.mb_world_model.specs.WorldSteps.{happens}
use Rattle.mb_world_model.specs.FaultyHosts.{checkpoint_with, change_after, stamp_content, stamp_bytes, reply_of_host, wish_of_host}
use Rattle.mb_forgery.specs.Contents.{unstamped}
use Rattle.mb_world.specs.Contents.{IsAllowed, content_of, stamping_host}
use Rattle.mb_members.proofs.ListLaws.{some_is}
use Rattle.mb_world.proofs.StopLaws.{HasContent, is_doer_faulty, no_name, prepare_there, commit_there, as_there, checkpoint_there, change_there}

-- A faulty host stamps a content, which is the code's, whatever identifiers are in both.
pub record StampsOne {V : Type 0} (y : System V) (x : WorldState) (e : WorldEvent) (h : ℕ) (found : Option Stamped) : Type 0 where
  pub content : Stamped
  pub faulty : is_faulty y.schedule h ≡ true
  pub same : option_map unstamped found ≡ Some (unstamped content)
  pub done : happens y x e ≡ stamp_content y.schedule h content x

-- It is one of the hosts.
of_fits : (s : Shape) (k h : ℕ) → Some k ≡ Some h → k < host_count s → h < host_count s
of_fits s k h is there = subst (λ (n : ℕ). n < host_count s) (some_is k h is) there

pub stamping_fits : (s : Shape) (e : WorldEvent) (h : ℕ) → stamping_host e ≡ Some h → EventFits s e → h < host_count s
stamping_fits s (StampPrepare k view pos messages) h is fits = of_fits s k h is fits.0
stamping_fits s (StampCommit k m) h is fits = of_fits s k h is fits
stamping_fits s (StampCheckpoint k pos digest) h is fits = of_fits s k h is fits.0
stamping_fits s (StampChange k view counter) h is fits = of_fits s k h is fits.0
stamping_fits s (StampAs k m) h is fits = of_fits s k h is fits
stamping_fits s (Ask c op) h is fits = absurd cc
stamping_fits s (Give m k) h is fits = absurd cc
stamping_fits s (Take m c) h is fits = absurd cc
stamping_fits s (Raw n bytes) h is fits = absurd cc
stamping_fits s (Patience k) h is fits = absurd cc
stamping_fits s (Nudge k) h is fits = absurd cc
stamping_fits s (Sign c seq op) h is fits = absurd cc
stamping_fits s (TagReply k c seq pos result) h is fits = absurd cc
stamping_fits s (TagWish k view) h is fits = absurd cc
stamping_fits s (StampRaw k bytes) h is fits = absurd cc

module _ {V : Type 0} (y : System V) (x : WorldState) where
  -- Whose doing it is is faulty.
  pub doer_is_faulty : (e : WorldEvent) (found : Option Stamped) (who : Name) → culprit e ≡ Some who → IsAllowed y.schedule x e found → is_faulty_name y.schedule who ≡ true
  doer_is_faulty e found who is allowed = is_doer_faulty y.schedule x e who is (no_name y.schedule x e allowed.stop)

  -- ---- tags

  pub signs : (c seq : ℕ) (op : Bytes) → is_faulty_client y.schedule c ≡ true → happens y x (Sign c seq op) ≡ made y.schedule (spelling (message.Request (request_of y.schedule c seq op))) x
  unfolding happens
  signs c seq op faulty = rw faulty refl

  pub tags_reply : (h c seq pos : ℕ) (result : Bytes) → is_faulty y.schedule h ≡ true → happens y x (TagReply h c seq pos result) ≡ made y.schedule (spelling (reply_of_host y.schedule h c seq pos result)) x
  unfolding happens
  tags_reply h c seq pos result faulty = rw faulty refl

  pub tags_wish : (h view : ℕ) → is_faulty y.schedule h ≡ true → happens y x (TagWish h view) ≡ made y.schedule (spelling (wish_of_host y.schedule h view)) x
  unfolding happens
  tags_wish h view faulty = rw faulty refl

  -- ---- stamps

  pub stamps_raw : (h : ℕ) (bytes : Bytes) → is_faulty y.schedule h ≡ true → happens y x (StampRaw h bytes) ≡ stamp_bytes y.schedule h bytes x
  unfolding happens
  stamps_raw h bytes faulty = rw faulty refl

  stamps_one : (e : WorldEvent) (h : ℕ) (found : Option Stamped) → culprit e ≡ Some (name.Host h) → IsAllowed y.schedule x e found → HasContent y.schedule x e
      → ((m : Stamped) → is_faulty y.schedule h ≡ true → content_of y.schedule x e ≡ Some m → happens y x e ≡ stamp_content y.schedule h m x) → StampsOne y x e h found
  stamps_one e h found who allowed has done =
      let faulty : is_faulty y.schedule h ≡ true = doer_is_faulty e found (name.Host h) who allowed in
      record { content = has.0; faulty = faulty; same = allowed.content ∙ ap (option_map unstamped) has.1; done = done has.0 faulty has.1 }

  pub stamps_prepare : (h view pos : ℕ) (messages : List ℕ) (found : Option Stamped) → IsAllowed y.schedule x (StampPrepare h view pos messages) found → StampsOne y x (StampPrepare h view pos messages) h found
  unfolding happens
  stamps_prepare h view pos messages found allowed =
      stamps_one (StampPrepare h view pos messages) h found refl allowed (prepare_there y.schedule x h view pos messages allowed.stop) (λ m faulty is. rw (faulty, is) refl)

  pub stamps_commit : (h m : ℕ) (found : Option Stamped) → IsAllowed y.schedule x (StampCommit h m) found → StampsOne y x (StampCommit h m) h found
  unfolding happens
  stamps_commit h m found allowed = stamps_one (StampCommit h m) h found refl allowed (commit_there y.schedule x h m allowed.stop) (λ n faulty is. rw (faulty, is) refl)

  pub stamps_checkpoint : (h pos : ℕ) (digest : Bytes) (found : Option Stamped) → IsAllowed y.schedule x (StampCheckpoint h pos digest) found → StampsOne y x (StampCheckpoint h pos digest) h found
  unfolding happens
  stamps_checkpoint h pos digest found allowed =
      stamps_one (StampCheckpoint h pos digest) h found refl allowed (checkpoint_there y.schedule x h pos digest)
      (λ m faulty is. rw faulty (ap (λ n. stamp_content y.schedule h n x) (some_is (checkpoint_with (host_count y.schedule.shape) pos digest) m is)))

  pub stamps_change : (h view counter : ℕ) (found : Option Stamped) → IsAllowed y.schedule x (StampChange h view counter) found → StampsOne y x (StampChange h view counter) h found
  unfolding happens
  stamps_change h view counter found allowed =
      stamps_one (StampChange h view counter) h found refl allowed (change_there y.schedule x h view counter)
      (λ m faulty is. rw faulty (ap (λ n. stamp_content y.schedule h n x) (some_is (change_after y.schedule x h view counter) m is)))

  pub stamps_as : (h m : ℕ) (found : Option Stamped) → IsAllowed y.schedule x (StampAs h m) found → StampsOne y x (StampAs h m) h found
  unfolding happens
  stamps_as h m found allowed = stamps_one (StampAs h m) h found refl allowed (as_there y.schedule x h m allowed.stop) (λ n faulty is. rw (faulty, is) refl)

  -- ---- whichever content

  of_host : (e : WorldEvent) (h k : ℕ) (found : Option Stamped) → Some h ≡ Some k → StampsOne y x e h found → StampsOne y x e k found
  of_host e h k found same one = subst (λ (i : ℕ). StampsOne y x e i found) (some_is h k same) one

  pub stamps_any : (e : WorldEvent) (h : ℕ) (found : Option Stamped) → stamping_host e ≡ Some h → IsAllowed y.schedule x e found → StampsOne y x e h found
  stamps_any (StampPrepare k view pos messages) h found who allowed = of_host (StampPrepare k view pos messages) k h found who (stamps_prepare k view pos messages found allowed)
  stamps_any (StampCommit k m) h found who allowed = of_host (StampCommit k m) k h found who (stamps_commit k m found allowed)
  stamps_any (StampCheckpoint k pos digest) h found who allowed = of_host (StampCheckpoint k pos digest) k h found who (stamps_checkpoint k pos digest found allowed)
  stamps_any (StampChange k view counter) h found who allowed = of_host (StampChange k view counter) k h found who (stamps_change k view counter found allowed)
  stamps_any (StampAs k m) h found who allowed = of_host (StampAs k m) k h found who (stamps_as k m found allowed)
  stamps_any (Ask c op) h found who allowed = absurd cc
  stamps_any (Give m k) h found who allowed = absurd cc
  stamps_any (Take m c) h found who allowed = absurd cc
  stamps_any (Raw n bytes) h found who allowed = absurd cc
  stamps_any (Patience k) h found who allowed = absurd cc
  stamps_any (Nudge k) h found who allowed = absurd cc
  stamps_any (Sign c seq op) h found who allowed = absurd cc
  stamps_any (TagReply k c seq pos result) h found who allowed = absurd cc
  stamps_any (TagWish k view) h found who allowed = absurd cc
  stamps_any (StampRaw k bytes) h found who allowed = absurd cc
