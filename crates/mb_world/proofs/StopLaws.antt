-- What follows where nothing stands in the way of an event.
use Rattle.std.proofs.Common.{◌≡◌, ℕ, Bool, true, false, List, [], ◌∷◌, Option, Some, None, refl, subst}
use Rattle.std.specs.Prelude.{not, is_some, is_none, find, option_map}
use Rattle.std.specs.Bool.{then_some}
use Rattle.std.specs.Option.{option_or}
use Rattle.mb_base.specs.Shapes.{Bytes, host_count}
use Rattle.mb_msg.specs.declared.stamped.Stamped.{Stamped}
use Rattle.mb_msg.specs.Stamps.{as_stamped}
use Rattle.mb_schedule.specs.declared.schedule.Name.{Name}
use Rattle.mb_schedule.specs.declared.schedule.Name.TheVariants as name
use Rattle.mb_schedule.specs.declared.schedule.Schedule.{Schedule}
use Rattle.mb_schedule.specs.declared.schedule.WorldEvent.{WorldEvent}
use Rattle.mb_schedule.specs.declared.schedule.WorldEvent.TheVariants.{Ask, Give, Take, Raw, Patience, Nudge, Sign, TagReply, TagWish, StampPrepare, StampCommit, StampCheckpoint, StampChange, StampAs, StampRaw}
use Rattle.mb_schedule.specs.Limits.{EventFits, NameFits}
use Rattle.mb_base.specs.declared.shape.Shape.{Shape}
use Rattle.mb_members.proofs.ListLaws.{some_is}
use Rattle.mb_world_model.specs.World.{World as WorldState, numbered}
use Rattle.mb_world_model.specs.WorldEvents.{is_faulty_name, culprit}
use Rattle.mb_world_model.specs.FaultyHosts.{misfit, prepare_with, batch_from, commit_for, checkpoint_with, content, change_after}
use Rattle.mb_world_model.specs.Stops.{WorldStop, NotFaulty, NoSuchMessage, WrongKind, name_stop, missing_stop, kind_stop, stop_of}
use Rattle.mb_world.specs.Contents.{content_of}

-- ---- the stops one by one

-- Where neither is there, none of both is.
pub or_none : {A : Type 0} (o q : Option A) → option_or o q ≡ None → (o ≡ None) × (q ≡ None)
or_none None q e = (refl, e)
or_none (Some x) q e = absurd cc

pub no_name : (s : Schedule) (x : WorldState) (e : WorldEvent) → stop_of s x e ≡ None → name_stop s x e ≡ None
unfolding stop_of
no_name s x e none = (or_none _ _ none).0

pub no_missing : (s : Schedule) (x : WorldState) (e : WorldEvent) → stop_of s x e ≡ None → missing_stop s x e ≡ None
unfolding stop_of
no_missing s x e none = (or_none _ _ (or_none _ _ none).1).0

pub no_kind : (s : Schedule) (x : WorldState) (e : WorldEvent) → stop_of s x e ≡ None → kind_stop s x e ≡ None
unfolding stop_of
no_kind s x e none = (or_none _ _ (or_none _ _ (or_none _ _ none).1).1).0

-- ---- who is faulty

faulty_where : (b : Bool) (stop : WorldStop) → then_some (not b) stop ≡ None → b ≡ true
faulty_where true stop e = refl
faulty_where false stop e = absurd cc

-- whose doing it is
pub is_doer_faulty : (s : Schedule) (x : WorldState) (e : WorldEvent) (who : Name) → culprit e ≡ Some who → name_stop s x e ≡ None → is_faulty_name s who ≡ true
is_doer_faulty s x e who is none = faulty_where (is_faulty_name s who) (NotFaulty who) (rw is at none)

-- ---- messages that are there

found_one : (o : Option Bytes) (n : ℕ) → option_map NoSuchMessage (find (λ m. is_none o) (n ∷ [])) ≡ None → is_some o ≡ true
found_one None n e = absurd cc
found_one (Some b) n e = refl

pub given_there : (s : Schedule) (x : WorldState) (m h : ℕ) → stop_of s x (Give m h) ≡ None → is_some (numbered x.pool m) ≡ true
given_there s x m h none = found_one (numbered x.pool m) m (no_missing s x (Give m h) none)

pub taken_there : (s : Schedule) (x : WorldState) (m c : ℕ) → stop_of s x (Take m c) ≡ None → is_some (numbered x.pool m) ≡ true
taken_there s x m c none = found_one (numbered x.pool m) m (no_missing s x (Take m c) none)

-- ---- contents

-- A content is there.
abbrev pub HasContent : Schedule → WorldState → WorldEvent → Type 0
HasContent s x e = (m : Stamped) × (content_of s x e ≡ Some m)

content_there : (o : Option Stamped) (stop : WorldStop) → then_some (is_none o) stop ≡ None → (m : Stamped) × (o ≡ Some m)
content_there None stop e = absurd cc
content_there (Some m) stop e = (m, refl)

pub prepare_there : (s : Schedule) (x : WorldState) (h view pos : ℕ) (messages : List ℕ) → stop_of s x (StampPrepare h view pos messages) ≡ None → HasContent s x (StampPrepare h view pos messages)
prepare_there s x h view pos messages none =
    (prepare_with view pos (batch_from s x messages), rw (unmapped (misfit s x 0 messages) (no_kind s x (StampPrepare h view pos messages) none)) refl) where
      unmapped : (o : Option ℕ) → option_map WrongKind o ≡ None → is_none o ≡ true
      unmapped None e = refl
      unmapped (Some n) e = absurd cc

pub commit_there : (s : Schedule) (x : WorldState) (h m : ℕ) → stop_of s x (StampCommit h m) ≡ None → HasContent s x (StampCommit h m)
commit_there s x h m none = content_there (content s x m commit_for) (WrongKind m) (no_kind s x (StampCommit h m) none)

pub as_there : (s : Schedule) (x : WorldState) (h m : ℕ) → stop_of s x (StampAs h m) ≡ None → HasContent s x (StampAs h m)
as_there s x h m none = content_there (content s x m as_stamped) (WrongKind m) (no_kind s x (StampAs h m) none)

pub checkpoint_there : (s : Schedule) (x : WorldState) (h pos : ℕ) (digest : Bytes) → HasContent s x (StampCheckpoint h pos digest)
checkpoint_there s x h pos digest = (checkpoint_with (host_count s.shape) pos digest, refl)

pub change_there : (s : Schedule) (x : WorldState) (h view counter : ℕ) → HasContent s x (StampChange h view counter)
change_there s x h view counter = (change_after s x h view counter, refl)

-- ---- who is there

-- Whose doing it is is there.
pub doer_fits : (s : Shape) (e : WorldEvent) (who : Name) → EventFits s e → culprit e ≡ Some who → NameFits s who
doer_fits s (Ask c op) who f is = absurd cc
doer_fits s (Give m h) who f is = absurd cc
doer_fits s (Take m c) who f is = absurd cc
doer_fits s (Raw n bytes) who f is = absurd cc
doer_fits s (Patience h) who f is = absurd cc
doer_fits s (Nudge h) who f is = absurd cc
doer_fits s (Sign c seq op) who f is = subst (NameFits s) (some_is (name.Client c) who is) f.0
doer_fits s (TagReply h c seq pos result) who f is = subst (NameFits s) (some_is (name.Host h) who is) f.0
doer_fits s (TagWish h view) who f is = subst (NameFits s) (some_is (name.Host h) who is) f.0
doer_fits s (StampPrepare h view pos messages) who f is = subst (NameFits s) (some_is (name.Host h) who is) f.0
doer_fits s (StampCommit h m) who f is = subst (NameFits s) (some_is (name.Host h) who is) f
doer_fits s (StampCheckpoint h pos digest) who f is = subst (NameFits s) (some_is (name.Host h) who is) f.0
doer_fits s (StampChange h view counter) who f is = subst (NameFits s) (some_is (name.Host h) who is) f.0
doer_fits s (StampAs h m) who f is = subst (NameFits s) (some_is (name.Host h) who is) f
doer_fits s (StampRaw h bytes) who f is = subst (NameFits s) (some_is (name.Host h) who is) f
