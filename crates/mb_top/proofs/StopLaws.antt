-- What is told as forged is told with the number of its event.
use Rattle.std.proofs.Common.{◌≡◌, ℕ, Bool, true, false, not, Option, Some, None, option_map, option_and_then, IfSome, refl, subst}
use Rattle.std.specs.Bool.{then_some}
use Rattle.std.specs.Option.{option_or}
use Rattle.mb_schedule.specs.declared.schedule.Schedule.{Schedule}
use Rattle.mb_schedule.specs.declared.schedule.WorldEvent.{WorldEvent}
use Rattle.mb_schedule.specs.declared.schedule.WorldEvent.TheVariants.{Ask, Give, Take, Raw, Patience, Nudge, Sign, TagReply, TagWish, StampPrepare, StampCommit, StampCheckpoint, StampChange, StampAs, StampRaw}
use Rattle.mb_parts.specs.Claims.{Claim}
use Rattle.mb_world_model.specs.World.{World}
use Rattle.mb_world_model.specs.WorldEvents.{is_faulty_name, culprit}
use Rattle.mb_world_model.specs.Forged.{forged_claim, has_forged_tag}
use Rattle.mb_world_model.specs.Stops.{WorldStop, NotFaulty, NoSuchMessage, WrongKind, Forged, ForgedTag, stop_of, name_stop, missing_stop, kind_stop, forged_stop, event_number, delivered_message}

-- Where it is forged, it is of this event.
abbrev pub IsOf : ℕ → WorldStop → Type 0
IsOf n (Forged event host counter) = event ≡ n
IsOf n (ForgedTag event) = event ≡ n
IsOf n (NotFaulty who) = Unit {0}
IsOf n (NoSuchMessage number) = Unit {0}
IsOf n (WrongKind number) = Unit {0}

-- ---- of one of several

either : (P : WorldStop → Type 0) (a b : Option WorldStop) → IfSome a P → IfSome b P → IfSome (option_or a b) P
either P None b p q = q
either P (Some x) b p q = p

mapped : {A : Type 0} (P : WorldStop → Type 0) (f : A → WorldStop) (o : Option A) → ((x : A) → P (f x)) → IfSome (option_map f o) P
mapped P f None all = tt
mapped P f (Some x) all = all x

chosen : (P : WorldStop → Type 0) (b : Bool) (x : WorldStop) → P x → IfSome (then_some b x) P
chosen P true x p = p
chosen P false x p = tt

followed : {A : Type 0} (P : WorldStop → Type 0) (f : A → Option WorldStop) (o : Option A) → ((x : A) → IfSome (f x) P) → IfSome (option_and_then f o) P
followed P f None all = tt
followed P f (Some x) all = all x

-- ---- of an event

module _ (s : Schedule) (w : World) where
  abbrev Here : WorldStop → Type 0
  Here = IsOf (event_number s w)

  kind_is_of : (e : WorldEvent) → IfSome (kind_stop s w e) Here
  kind_is_of (StampPrepare h view pos messages) = mapped Here WrongKind _ (λ m. tt)
  kind_is_of (StampCommit h m) = chosen Here _ (WrongKind m) tt
  kind_is_of (StampAs h m) = chosen Here _ (WrongKind m) tt
  kind_is_of (StampChange h view counter) = chosen Here _ (WrongKind counter) tt
  kind_is_of (Ask c op) = tt
  kind_is_of (Give m h) = tt
  kind_is_of (Take m c) = tt
  kind_is_of (Raw who bytes) = tt
  kind_is_of (Patience h) = tt
  kind_is_of (Nudge h) = tt
  kind_is_of (Sign c seq op) = tt
  kind_is_of (TagReply h c seq pos result) = tt
  kind_is_of (TagWish h view) = tt
  kind_is_of (StampCheckpoint h pos digest) = tt
  kind_is_of (StampRaw h bytes) = tt

  stop_is_of : (e : WorldEvent) → IfSome (stop_of s w e) Here
  unfolding stop_of
  stop_is_of e =
      either Here (name_stop s w e) _ (followed Here (λ who. then_some (not (is_faulty_name s who)) (NotFaulty who)) (culprit e) (λ who. chosen Here (not (is_faulty_name s who)) (NotFaulty who) tt))
      (either Here (missing_stop s w e) _ (mapped Here NoSuchMessage _ (λ m. tt))
      (either Here (kind_stop s w e) _ (kind_is_of e)
      (either Here (forged_stop s w e) _ (mapped Here (λ (c : Claim). Forged (event_number s w) c.host c.counter) (option_and_then (forged_claim s w) (delivered_message s w e)) (λ c. refl))
      (followed Here (λ m. then_some (has_forged_tag s w m) (ForgedTag (event_number s w))) (delivered_message s w e) (λ m. chosen Here (has_forged_tag s w m) (ForgedTag (event_number s w)) refl)))))

  pub found_is_of : (e : WorldEvent) (found : WorldStop) → stop_of s w e ≡ Some found → IsOf (event_number s w) found
  found_is_of e found is = let P : Option WorldStop → Type 0 = λ o. IfSome o Here in subst P is (stop_is_of e)
