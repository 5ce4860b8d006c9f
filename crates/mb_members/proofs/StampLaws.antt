-- What a faulty host stamps: a content under its next identifier, or any bytes.
use Rattle.std.proofs.Common.{◌≡◌, ℕ, ◌+◌, ◌≤◌, false, List, ◌∷◌, set, Some, refl, sym, ap, ◌∙◌, arith}
use Rattle.std.specs.List.{slice_get}
use Rattle.mb_base.specs.Shapes.{Bytes}
use Rattle.mb_base.specs.declared.shape.Shape.{Shape}
use Rattle.mb_base.specs.declared.names.Ui.{Ui}
use Rattle.mb_parts.specs.Bares.{bare_bytes}
use Rattle.mb_msg.specs.declared.stamped.Stamped.{Stamped}
use Rattle.mb_msg.specs.declared.stamped.Stamped.TheVariants as stamped
use Rattle.mb_msg.specs.Spelling.{spelling}
use Rattle.mb_msg.specs.Stamps.{bare_of, with_ui, as_message}
use Rattle.mb_model.specs.Histories.{History}
use Rattle.mb_steps.proofs.StepRounds.{bare_under}
use Rattle.mb_schedule.specs.declared.schedule.Schedule.{Schedule}
use Rattle.mb_schedule.specs.Limits.{is_faulty}
use Rattle.mb_core.specs.declared.replica.Replica.{Replica}
use Rattle.mb_world_model.specs.World.{World as WorldState, System, FaultyStamp, update}
use Rattle.mb_world_model.specs.FaultyHosts.{bare_bytes_of, faulty_message, faulty_ui, stamp_as, stamp_content, stamp_bytes}
use Rattle.mb_forgery.specs.Contents.{placeholder, unstamped}
use Rattle.mb_members.specs.declared.members.FaultyHost.{FaultyHost}
use Rattle.mb_members.specs.declared.members.Member.{Member}
use Rattle.mb_members.specs.declared.members.Member.TheVariants as member
use Rattle.mb_members.specs.declared.members.Stamp.{Stamp}
use Rattle.mb_members.specs.Members.{AreOf, IsMember, IsStamper, RepresentsMembers, StampedWithin}
use Rattle.mb_members.specs.Stamping.{IsContentStamp, IsRawStamp, trusted_of}
use Rattle.mb_members.proofs.MemberLaws.{stamp_written, of_set, within_more, within_set}

-- ---- identifiers

again : (u v : Ui) (m : Stamped) → with_ui u (with_ui v m) ≡ with_ui u m
again u v (stamped.Prepare m) = refl
again u v (stamped.Commit m) = refl
again u v (stamped.Checkpoint m) = refl
again u v (stamped.ViewChange m) = refl
again u v (stamped.NewView m) = refl
again u v (stamped.Enter m) = refl
again u v (stamped.Open m) = refl
again u v (stamped.Join m) = refl

-- the same message, where only the identifiers differ
pub same_under : (u : Ui) (m n : Stamped) → unstamped m ≡ unstamped n → with_ui u m ≡ with_ui u n
same_under u m n e = sym (again u placeholder m) ∙ (ap (with_ui u) e ∙ again u placeholder n)

pub same_bare : (m n : Stamped) → unstamped m ≡ unstamped n → bare_of m ≡ bare_of n
same_bare m n e = sym (bare_under placeholder m) ∙ (ap bare_of e ∙ bare_under placeholder n)

-- ---- one host of all

module _ {V : Type 0} (y : System V) where
  -- The trusted part of a faulty host is where its stamps have it.
  pub trusted_at : (members : List (Member V)) (d : ℕ → History) (l : ℕ → List FaultyStamp) (i : ℕ) (f : FaultyHost) → RepresentsMembers y members d l → slice_get members i ≡ Some (member.Faulty f)
      → f.usig ≡ trusted_of y.schedule i (l i)
  trusted_at members d l i f all at = (all i (member.Faulty f) at).1.trusted

  -- It stamps once more.
  pub faulty_stamps : (members : List (Member V)) (d : ℕ → History) (l : ℕ → List FaultyStamp) (i : ℕ) (f new : FaultyHost) (k : FaultyStamp) → RepresentsMembers y members d l → slice_get members i ≡ Some (member.Faulty f)
      → (IsStamper y.schedule i f (l i) → IsStamper y.schedule i new (k ∷ l i)) → RepresentsMembers y (set members i (member.Faulty new)) d (update l i (k ∷ l i))
  faulty_stamps members d l i f new k all at more =
      let is : IsMember y i (member.Faulty f) (d i) (l i) = all i (member.Faulty f) at in
      stamp_written y members d l i (member.Faulty new) (k ∷ l i) all (is.0, more is.1)

  -- A correct host stamps nothing so.
  pub correct_at : (members : List (Member V)) (d : ℕ → History) (l : ℕ → List FaultyStamp) (i : ℕ) (r : Replica V) → RepresentsMembers y members d l → slice_get members i ≡ Some (member.Correct r) → is_faulty y.schedule i ≡ false
  correct_at members d l i r all at = (all i (member.Correct r) at).correct

module _ {V : Type 0} where
  pub stamped_more : (n : ℕ) (members : List (Member V)) (i : ℕ) (f new : FaultyHost) → StampedWithin n members → slice_get members i ≡ Some (member.Faulty f) → new.usig.counter ≤ f.usig.counter + 1
      → StampedWithin (n + 1) (set members i (member.Faulty new))
  stamped_more n members i f new all at more =
      let before : f.usig.counter ≤ n = all i (member.Faulty f) at in
      within_set (n + 1) members i (member.Faulty new) (within_more n members all) (omega arith)

  pub shape_stays : (s : Shape) (members : List (Member V)) (i : ℕ) (f new : FaultyHost) → AreOf s members → slice_get members i ≡ Some (member.Faulty f) → new.usig.shape ≡ f.usig.shape → AreOf s (set members i (member.Faulty new))
  shape_stays s members i f new all at same = of_set s members i (member.Faulty new) all (same ∙ all i (member.Faulty f) at)

-- ---- what an event names

-- its content
pub content_is : (s : Schedule) (x : WorldState) (h : ℕ) (content m : Stamped) (made : Stamp) → IsContentStamp (trusted_of s h (x.faulty_stamps h)) content made → unstamped content ≡ unstamped m
    → stamp_as s h made.bare made.message.items x ≡ stamp_content s h m x
content_is s x h content m made is same =
    let bare : made.bare ≡ bare_bytes_of s m = is.bare ∙ ap bare_bytes (same_bare content m same) in
    let message : made.message.items ≡ faulty_message s x h m =
    is.message ∙ (ap (λ b. spelling (as_message (with_ui (faulty_ui s x h (bare_bytes b)) content))) (same_bare content m same)
    ∙ ap (λ n. spelling (as_message n)) (same_under (faulty_ui s x h (bare_bytes_of s m)) content m same)) in
    ap (λ b. stamp_as s h b made.message.items x) bare ∙ ap (λ b. stamp_as s h (bare_bytes_of s m) b x) message

-- its bytes
pub bytes_are : (s : Schedule) (x : WorldState) (h : ℕ) (bytes : Bytes) (made : Stamp) → IsRawStamp (trusted_of s h (x.faulty_stamps h)) bytes made → stamp_as s h made.bare made.message.items x ≡ stamp_bytes s h bytes x
bytes_are s x h bytes made is = ap (λ b. stamp_as s h b made.message.items x) is.bare ∙ ap (λ b. stamp_as s h bytes b x) is.message
