-- Worlds to which events lead that nothing stopped: the first is one, and each event that nothing stops leads to another.
use Rattle.std.proofs.Common.{◌≡◌, ℕ, zero, suc, ◌<◌, ◌≤◌, List, [], ◌∷◌, ◌++◌, length, refl, sym, ap, subst, ◌∙◌, inl, inr, arith, length-append, Option, Some, None}
use Rattle.std.specs.Prelude.{slice_get, option_map, option_and_then}
use Rattle.std.specs.Bool.{then_some}
use Rattle.std.specs.Option.{option_or}
use Rattle.std.proofs.lemmas.Bool.{cases_eq}
use Rattle.std.proofs.lemmas.Option.{same_Some}
use Rattle.mb_parts.specs.Claims.{Claim}
use Rattle.mb_msg.specs.declared.message.Message.{Message}
use Rattle.mb_msg.specs.declared.message.Message.TheVariants as message
use Rattle.mb_schedule.specs.declared.schedule.WorldEvent.{WorldEvent}
use Rattle.mb_schedule.specs.declared.schedule.WorldEvent.TheVariants.{Ask, Give, Take, Raw, Patience, Nudge, Sign, TagReply, TagWish, StampPrepare, StampCommit, StampCheckpoint, StampChange, StampAs, StampRaw}
use Rattle.mb_world_model.specs.World.{World, System, nothing_happened}
use Rattle.mb_world_model.specs.WorldSteps.{happens, after, world}
use Rattle.mb_world_model.specs.Forged.{forged_claim, has_forged_tag}
use Rattle.mb_world_model.specs.Stops.{WorldStop, Forged, ForgedTag, event_number, delivered_message, name_stop, missing_stop, kind_stop, stop_of, IsUnstopped}
use Rattle.mb_world_laws.proofs.Standings.{before_last}
use Rattle.mb_make.specs.Soaks.{with_events}
use Rattle.mb_unforged.specs.Reached.{IsReached}
use Rattle.mb_unforged.proofs.SameWorlds.{misfit_same, happens_same, world_same, at_front, at_end}

module _ {S : Type 0} (system : System S) where
  abbrev On : List WorldEvent → System S
  On es = with_events system es

  -- ---- what stands in the way of an event is the same, whatever other events there are

  module _ (es fs : List WorldEvent) (w : World) where
    pub claim_same : (m : Message) → forged_claim (On es).schedule w m ≡ forged_claim (On fs).schedule w m
    unfolding forged_claim
    claim_same m = refl

    pub tag_same : (m : Message) → has_forged_tag (On es).schedule w m ≡ has_forged_tag (On fs).schedule w m
    unfolding has_forged_tag
    tag_same (message.Reply m) = refl
    tag_same (message.ReqViewChange m) = refl
    tag_same (message.Request m) = refl
    tag_same (message.Prepare m) = refl
    tag_same (message.Commit m) = refl
    tag_same (message.Checkpoint m) = refl
    tag_same (message.ViewChange m) = refl
    tag_same (message.NewView m) = refl
    tag_same (message.Enter m) = refl
    tag_same (message.Open m) = refl
    tag_same (message.Join m) = refl
    tag_same (message.Resend m) = refl
    tag_same (message.Log m) = refl
    tag_same (message.Fetch m) = refl
    tag_same (message.State m) = refl
    tag_same (message.Stop m) = refl

    forged_in : (o : Option Message) → option_map (λ (c : Claim). Forged (event_number (On es).schedule w) c.host c.counter) (option_and_then (forged_claim (On es).schedule w) o)
        ≡ option_map (λ (c : Claim). Forged (event_number (On fs).schedule w) c.host c.counter) (option_and_then (forged_claim (On fs).schedule w) o)
    forged_in None = refl
    forged_in (Some m) = rw (claim_same m) refl

    tagged_in : (o : Option Message) → option_and_then (λ (m : Message). then_some (has_forged_tag (On es).schedule w m) (ForgedTag (event_number (On es).schedule w))) o
        ≡ option_and_then (λ (m : Message). then_some (has_forged_tag (On fs).schedule w m) (ForgedTag (event_number (On fs).schedule w))) o
    tagged_in None = refl
    tagged_in (Some m) = rw (tag_same m) refl

    kind_same : (e : WorldEvent) → kind_stop (On es).schedule w e ≡ kind_stop (On fs).schedule w e
    kind_same (StampPrepare h view pos messages) = rw (misfit_same system es fs w 0 messages) refl
    kind_same (Ask c op) = refl
    kind_same (Give m h) = refl
    kind_same (Take m c) = refl
    kind_same (Raw who bytes) = refl
    kind_same (Patience h) = refl
    kind_same (Nudge h) = refl
    kind_same (Sign c seq op) = refl
    kind_same (TagReply h c seq pos result) = refl
    kind_same (TagWish h view) = refl
    kind_same (StampCommit h m) = refl
    kind_same (StampCheckpoint h pos digest) = refl
    kind_same (StampChange h view counter) = refl
    kind_same (StampAs h m) = refl
    kind_same (StampRaw h bytes) = refl

    pub stop_same : (e : WorldEvent) → stop_of (On es).schedule w e ≡ stop_of (On fs).schedule w e
    unfolding stop_of
    stop_same e = rest (kind_same e) (forged_in (delivered_message (On es).schedule w e)) (tagged_in (delivered_message (On es).schedule w e)) where
      rest : {a b c d f g : Option WorldStop} → a ≡ b → c ≡ d → f ≡ g
          → option_or (name_stop (On es).schedule w e) (option_or (missing_stop (On es).schedule w e) (option_or a (option_or c f))) ≡ option_or (name_stop (On es).schedule w e) (option_or (missing_stop (On es).schedule w e) (option_or b (option_or d g)))
      rest x y z = rw (x, y, z) refl

  -- ---- one event more

  module _ (es : List WorldEvent) (e : WorldEvent) where
    abbrev pub more : List WorldEvent
    more = es ++ e ∷ []

    front : (j : ℕ) → j < length es → slice_get es j ≡ slice_get more j
    front j lt = sym (at_front es (e ∷ []) j lt)

    world_there : (j : ℕ) → j ≤ length es → world (On es) j ≡ world (On more) j
    world_there j le = world_same system es more j (λ i lt. front i (omega (arith, le, lt)))

    pub count_more : length more ≡ suc (length es)
    count_more = omega (arith, length-append es (e ∷ []))

    pub then_happens : world (On more) (suc (length es)) ≡ happens (On more) (world (On more) (length es)) e
    unfolding world
    then_happens = ap (λ (o : Option WorldEvent). after (On more) (world (On more) (length es)) o) (at_end es e)

    unstopped_more : IsUnstopped (On es) (length es) → stop_of (On es).schedule (world (On es) (length es)) e ≡ None → IsUnstopped (On more) (suc (length es))
    unstopped_more before none j f lt at = elim (cases_eq j (length es)) [
      | inl here ↦
          let is : f ≡ e = same_Some f e (sym at ∙ (ap (slice_get more) here ∙ at_end es e)) in
          rw (here, is) (sym (stop_same es more (world (On more) (length es)) e) ∙ rw (← world_there (length es) (omega arith)) none)
      | inr earlier ↦
          let low : j < length es = omega (arith, lt, earlier) in
          sym (stop_same es more (world (On more) j) f) ∙ rw (← world_there j (omega (arith, low))) (before j f low (front j low ∙ at))
    ]

  -- ---- worlds that are reached

  pub reached_first : IsReached system nothing_happened
  unfolding world
  reached_first = record { events = []; unstopped = λ j e lt at. absurd (omega (arith, lt)); is = refl }

  -- what is known of a reached world and of the next one, as worlds of one schedule
  pub record IsNext (w : World) (e : WorldEvent) : Type 0 where
    pub events : List WorldEvent
    pub number : ℕ
    pub unstopped : IsUnstopped (On events) (suc number)
    pub here : world (On events) number ≡ w
    pub next : world (On events) (suc number) ≡ happens system w e
    pub count : length events ≡ suc number

  pub next_of : (w : World) → IsReached system w → (e : WorldEvent) → stop_of system.schedule w e ≡ None → IsNext w e
  next_of w r e none =
      let es : List WorldEvent = r.events in
      let here : world (On (more es e)) (length es) ≡ w = sym (world_there es e (length es) (omega arith)) ∙ r.is in
      record {
        events = more es e;
        number = length es;
        unstopped = unstopped_more es e r.unstopped (stop_same es system.schedule.events (world (On es) (length es)) e ∙ rw r.is none);
        here = here;
        next = then_happens es e ∙ (happens_same system (more es e) system.schedule.events (world (On (more es e)) (length es)) e ∙ ap (λ (x : World). happens system x e) here);
        count = count_more es e;
      }

  -- An event that nothing stops leads on.
  pub reached_more : (w : World) → IsReached system w → (e : WorldEvent) → stop_of system.schedule w e ≡ None → IsReached system (happens system w e)
  reached_more w r e none =
      let n : IsNext w e = next_of w r e none in
      record { events = n.events; unstopped = subst (IsUnstopped (On n.events)) (sym n.count) n.unstopped; is = ap (world (On n.events)) n.count ∙ n.next }

  -- Each world of a schedule is reached, whose events nothing stopped so far.
  pub reached_at : (k : ℕ) → IsUnstopped system k → IsReached system (world system k)
  unfolding world
  reached_at zero none = reached_first
  reached_at (suc k) none = go (reached_at k (before_last system k none)) (slice_get system.schedule.events k) refl where
    go : IsReached system (world system k) → (o : Option WorldEvent) → slice_get system.schedule.events k ≡ o → IsReached system (after system (world system k) o)
    go before None at = before
    go before (Some e) at = reached_more (world system k) before e (none k e (omega arith) at)
