-- What holds of each world that nothing stopped: each entry of each history rests on what was delivered, and what was delivered is clean.
--
-- What clients and faulty hosts do changes no history and delivers nothing to a host (`framed`). A host's step leaves entries that rest on the given
-- message and on what the step noted and sent (`stepped_rests`), and a message that no stop refuses has no forged certificate (`none_forged`).
use Rattle.std.proofs.Common.{◌≡◌, ℕ, zero, suc, Bool, true, false, List, [], ◌∷◌, ◌++◌, refl, sym, ap, subst, ◌∙◌, inl, inr, eqb, arith, Option, Some, None, Ok, Err}
use Rattle.std.specs.Prelude.{slice_get, map, fold, option_map, option_and_then, Result}
use Rattle.std.specs.List.{AllByRecursion}
use Rattle.std.specs.Option.{option_or}
use Rattle.std.proofs.lemmas.Bool.{cases_Bool, eqb-true, eq-eqb}
use Rattle.std.proofs.lemmas.List.{map-append}
use Rattle.mb_base.specs.Shapes.{Bytes, host_count}
use Rattle.mb_parts.specs.declared.request.Request.{Request}
use Rattle.mb_parts.specs.Claims.{Claim}
use Rattle.mb_parts.specs.Bares.{Bare, bare_bytes}
use Rattle.mb_parts.specs.Counters.{IsBeginning}
use Rattle.mb_msg.specs.declared.message.Message.{Message}
use Rattle.mb_msg.specs.declared.message.Message.TheVariants as message
use Rattle.mb_msg.specs.declared.stamped.Stamped.{Stamped as StampedMessage}
use Rattle.mb_msg.specs.Reading.{message_of}
use Rattle.mb_msg.specs.Spelling.{spelling}
use Rattle.mb_msg.specs.Stamps.{as_stamped, bare_of}
use Rattle.mb_msg.specs.declared.event.Event.{Event}
use Rattle.mb_msg.specs.declared.event.Event.TheVariants as event
use Rattle.mb_model.specs.Histories.{Entry, Stamped, Executed, History, said, stamped}
use Rattle.mb_model.specs.Sending.{Letter, Progress}
use Rattle.mb_model.specs.HostStep.{transition}
use Rattle.mb_model.specs.Members.{In}
use Rattle.mb_model.proofs.Members.{in_left, in_right}
use Rattle.mb_model.specs.Inside.{strings_in, claims_in}
use Rattle.mb_schedule.specs.declared.schedule.Name.TheVariants as name
use Rattle.mb_schedule.specs.declared.schedule.WorldEvent.{WorldEvent}
use Rattle.mb_schedule.specs.declared.schedule.WorldEvent.TheVariants.{Ask, Give, Take, Raw, Patience, Nudge, Sign, TagReply, TagWish, StampPrepare, StampCommit, StampCheckpoint, StampChange, StampAs, StampRaw}
use Rattle.mb_schedule.specs.Limits.{is_faulty, is_faulty_client}
use Rattle.mb_world_model.specs.World.{update, numbered, World, FaultyStamp, System, nothing_happened, self_of, read, stamps, steps, answered, give_host, give_client, client_reads, client_asks, heard, signal, arrives, made, request_of, given_strings, state_strings_in, with_tagged, is_tagged_message, Lost}
use Rattle.mb_world_model.specs.FaultyHosts.{stamp_as, stamp_some, stamp_content, stamp_bytes, content, prepare_of, commit_for, checkpoint_with, change_after, reply_of_host, wish_of_host}
use Rattle.mb_world_model.specs.WorldSteps.{where_faulty, with_message, stamps_some, happens, after, world}
use Rattle.mb_model.specs.Verified.{verifies}
use Rattle.mb_world_model.specs.WorldRecord.{issued}
use Rattle.mb_world_model.specs.Forged.{forged_claim, has_forged_tag}
use Rattle.mb_world_model.specs.Stops.{Forged, ForgedTag, stop_of, name_stop, missing_stop, kind_stop, forged_stop, tag_stop, event_number, delivered_message, to_correct, IsUnstopped}
use Rattle.mb_host_laws.proofs.KeptByEvents.{is_plain, IsKept, event_keeps, execution_keeps, state_keeps}
use Rattle.mb_host_laws.proofs.Cases.{all_left, all_more, all_right, each_in, flat_in, untrue}
use Rattle.mb_host_laws.specs.Rests.{Each, Rests}
use Rattle.mb_host_laws.proofs.Rests.{each_more, rests_more}
use Rattle.mb_host_laws.proofs.RestsGiven.{HashedIn, SentIn, Rested}
use Rattle.mb_host_laws.proofs.RestsEvents.{given_rests, patience_event, nudge_event}
use Rattle.mb_world_laws.proofs.Grown.{IsGivenTo, IsHashed, HasStrings, IsClean, Grows, grows_then, grows_same, issued_grows, given_grows, clean_grows, none_forged, none_unasked, RestsIn}

-- ---- a history goes on

abbrev Extends : List Bare → History → Type 0
Extends l d = IsBeginning l (said d)

pushed : (l : List Bare) (m : StampedMessage) (d : History) → Extends l d → Extends l (Stamped m ∷ d)
unfolding stamped
pushed l m d b = record { later = bare_of m ∷ b.later; is = ap (λ x. bare_of m ∷ x) b.is }

plainly : (l : List Bare) (e : Entry) (d : History) → is_plain e ≡ true → Extends l d → Extends l (e ∷ d)
unfolding stamped
plainly l (Stamped m) d p b = absurd cc
plainly l (Executed slot) d p b = absurd cc
plainly l e d p b = b

module _ {S : Type 0} (system : System S) where
  extending : (h : ℕ) (l : List Bare) → IsKept (self_of system h) (Extends l)
  unfolding stamped
  extending h l = record {
    plain = λ e x p b. plainly l e x p b;
    normal = λ m x n r b. pushed l m x b;
    change = λ m x n r b. pushed l m x b;
    executed = λ pos r x b. execution_keeps (self_of system h) (Extends l) (λ m x n r b. pushed l m x b) (λ pos p x b. b) (λ slot x b. b) pos r x b;
    state = λ m x b. state_keeps (self_of system h) (Extends l) (λ m x b. b) (λ e x p b. plainly l e x p b) m x b;
  }

  -- what a host stamped before a step it stamped behind it
  step_extends : (h : ℕ) (d : History) (e : Event) → Extends (said d) (transition (self_of system h) d e).left.history
  step_extends h d e = event_keeps (self_of system h) (Extends (said d)) (extending h (said d)) d e (record { later = []; is = refl })

  -- ---- what a world stands on

  pub record Standing (w : World) : Type 0 where
    pub rests : (h : ℕ) → RestsIn system w h (w.histories h)
    pub clean : (h : ℕ) (m : Message) → IsGivenTo system.schedule w h m → IsClean system.schedule w m

  -- An event leads from one world to another that stands too: the world grew, and what verifies in a message that was delivered by then had been
  -- issued before.
  pub record Passage (w v : World) : Type 0 where
    pub grows : Grows system.schedule w v
    pub issues : (h : ℕ) (m : Message) → IsGivenTo system.schedule v h m → (c : Claim) → In (claims_in system.schedule.shape m) c → verifies system.schedule.secret c ≡ true → issued system.schedule w c ≡ true
    pub standing : Standing v

  stays : (w : World) → Standing w → Passage w w
  stays w s = record { grows = grows_same system.schedule w; issues = λ h m x. (s.clean h m x).issues; standing = s }

  rests_grow : (w v : World) → Grows system.schedule w v → (h : ℕ) (d : History) → RestsIn system w h d → RestsIn system v h d
  rests_grow w v g h d a = each_more _ _ (rests_more (self_of system h) (IsGivenTo system.schedule w h) (IsGivenTo system.schedule v h) (IsHashed system.schedule w) (IsHashed system.schedule v)
      (HasStrings system.schedule w) (HasStrings system.schedule v) (given_grows system.schedule w v g h) g.hashed (λ m a. all_more (IsHashed system.schedule w) (IsHashed system.schedule v) g.hashed (strings_in system.schedule.shape m) a)) d a

  -- No history changes, and nothing is delivered to a host.
  framed : (w v : World) → Grows system.schedule w v → ((h : ℕ) → w.histories h ≡ v.histories h) → ((h : ℕ) → v.given h ≡ w.given h) → Standing w → Passage w v
  framed w v g same none s = record {
    grows = g;
    issues = λ h m x. (s.clean h m (before h m x)).issues;
    standing = record {
      rests = λ h. subst (RestsIn system v h) (same h) (rests_grow w v g h (w.histories h) (s.rests h));
      clean = λ h m x. clean_grows system.schedule w v g m (s.clean h m (before h m x));
    };
  } where
    before : (h : ℕ) (m : Message) → IsGivenTo system.schedule v h m → IsGivenTo system.schedule w h m
    before h m x = record { bytes = x.bytes; delivered = subst (λ (l : List Bytes). In l x.bytes) (none h) x.delivered; reads = x.reads }

  -- ---- a host's step

  abbrev left : ℕ → Event → World → Progress
  left h e w = (transition (self_of system h) (w.histories h) e).left

  with_before : (t : List Message) (l : Letter) (m : Message) → In t m → In (with_tagged t l) m
  with_before t l m i = elim (cases_Bool (is_tagged_message l.says)) [
    | inl yes_so ↦ rw yes_so (inr i)
    | inr not_so ↦ rw not_so i
  ]

  tagged_before : (l : List Letter) (t : List Message) (m : Message) → In t m → In (fold with_tagged t l) m
  tagged_before [] t m i = i
  tagged_before (x ∷ l) t m i = tagged_before l (with_tagged t x) m (with_before t x m i)

  mapped : {A B : Type 0} (f : A → B) (x y : List A) → IsBeginning x y → IsBeginning (map f x) (map f y)
  mapped f x y b = record { later = map f b.later; is = sym (map-append f b.later x) ∙ ap (map f) b.is }

  stamps_grow : (h : ℕ) (e : Event) (w : World) (g : ℕ) → IsBeginning (stamps system.schedule w g) (stamps system.schedule (steps system h e w) g)
  stamps_grow h e w g = elim (cases_Bool (is_faulty system.schedule g)) [
    | inl faulty ↦ rw faulty (record { later = []; is = refl })
    | inr correct ↦ rw correct (elim (cases_Bool (eqb g h)) [
      | inr other ↦ rw other (record { later = []; is = refl })
      | inl same ↦ rw same (subst (λ (i : ℕ). IsBeginning (map bare_bytes (said (w.histories i))) (map bare_bytes (said (left h e w).history))) (sym (eqb-true g h same))
          (mapped bare_bytes (said (w.histories h)) (said (left h e w).history) (step_extends h (w.histories h) e)))
    ])
  ]

  step_grows : (h : ℕ) (e : Event) (w : World) → Grows system.schedule w (steps system h e w)
  step_grows h e w = record {
    stamped = λ g. stamps_grow h e w g;
    given = λ g b i. i;
    hashed = λ x i. in_left (w.hashed ++ (left h e w).hashed) _ x (in_left w.hashed (left h e w).hashed x i);
    asked = λ r i. i;
    tagged = λ m i. tagged_before (left h e w).sent w.tagged m i;
  }

  -- ---- what a step leaves rests on what was noted and sent in it

  module _ (h : ℕ) (e : Event) (u : World) where
    abbrev then : World
    then = steps system h e u

    hashed_then : (s : Bytes) → HashedIn (self_of system h) (IsGivenTo system.schedule then h) (IsHashed system.schedule u) (HasStrings system.schedule u) (left h e u) s → IsHashed system.schedule then s
    hashed_then s (inl before) = in_left (u.hashed ++ (left h e u).hashed) _ s (in_left u.hashed (left h e u).hashed s before)
    hashed_then s (inr now) = in_left (u.hashed ++ (left h e u).hashed) _ s (in_right u.hashed (left h e u).hashed s now)

    sent_then : (m : Message) → SentIn (self_of system h) (IsGivenTo system.schedule then h) (IsHashed system.schedule u) (HasStrings system.schedule u) (left h e u) m → HasStrings system.schedule then m
    sent_then m (inl before) = all_more (IsHashed system.schedule u) (IsHashed system.schedule then) (step_grows h e u).hashed (strings_in system.schedule.shape m) before
    sent_then m (inr (l, i, is)) = each_in (IsHashed system.schedule then) (strings_in system.schedule.shape m) (λ s j.
        in_right (u.hashed ++ (left h e u).hashed) _ s
        (flat_in (λ (letter : Letter). strings_in system.schedule.shape letter.says) (left h e u).sent l i s (subst (λ (x : Message). In (strings_in system.schedule.shape x) s) (sym is) j)))

    -- of the host that makes the step, and of the others
    stepped_rests : Rested (self_of system h) (IsGivenTo system.schedule then h) (IsHashed system.schedule u) (HasStrings system.schedule u) (left h e u)
        → ((g : ℕ) → RestsIn system then g (u.histories g)) → (g : ℕ) → RestsIn system then g (then.histories g)
    stepped_rests a others g = elim (cases_Bool (eqb g h)) [
      | inr other ↦ rw other (others g)
      | inl same ↦ rw same (subst (λ (i : ℕ). RestsIn system then i (left h e u).history) (sym (eqb-true g h same)) now)
    ] where
      now : RestsIn system then h (left h e u).history
      now = each_more _ _ (rests_more (self_of system h) (IsGivenTo system.schedule then h) (IsGivenTo system.schedule then h) _ (IsHashed system.schedule then) _ (HasStrings system.schedule then) (λ m x. x) hashed_then sent_then) (left h e u).history a

  -- ---- a host is given bytes

  arrival_grows : (h : ℕ) (bytes : Bytes) (w : World) → Grows system.schedule w (arrives system.schedule h bytes w)
  arrival_grows h bytes w = record {
    stamped = λ g. record { later = []; is = refl };
    given = λ g b i. elim (cases_Bool (eqb g h)) [
      | inl same ↦ rw same (inr (subst (λ (j : ℕ). In (w.given j) b) (eqb-true g h same) i))
      | inr other ↦ rw other i
    ];
    hashed = λ x i. in_left w.hashed _ x i;
    asked = λ r i. i;
    tagged = λ m i. i;
  }

  -- It is no message, or one with nothing forged in it.
  abbrev Unforged : World → Bytes → Type 0
  Unforged w bytes = (m : Message) → read system.schedule bytes ≡ Some m → (forged_claim system.schedule w m ≡ None) × (has_forged_tag system.schedule w m ≡ false)

  is_read : (bytes : Bytes) (m : Message) → message_of system.schedule.shape bytes ≡ Ok m → read system.schedule bytes ≡ Some m
  is_read bytes m e = rw e refl

  module _ (h : ℕ) (bytes : Bytes) (w : World) where
    abbrev u : World
    u = arrives system.schedule h bytes w

    abbrev v : World
    v = steps system h (event.Given bytes) u

    grows : Grows system.schedule w v
    grows = grows_then system.schedule w u v (arrival_grows h bytes w) (step_grows h (event.Given bytes) u)

    now : (m : Message) → message_of system.schedule.shape bytes ≡ Ok m → IsGivenTo system.schedule v h m
    now m e = record { bytes = bytes; delivered = rw (eq-eqb h h refl) (inl refl); reads = is_read bytes m e }

    before : Standing w → Each (Rests (self_of system h) (IsGivenTo system.schedule v h) (IsHashed system.schedule u) (HasStrings system.schedule u)) (w.histories h)
    before s = each_more _ _ (rests_more (self_of system h) (IsGivenTo system.schedule w h) (IsGivenTo system.schedule v h) (IsHashed system.schedule w) (IsHashed system.schedule u)
        (HasStrings system.schedule w) (HasStrings system.schedule u) (given_grows system.schedule w v grows h) (λ x i. in_left w.hashed _ x i)
        (λ m a. all_more (IsHashed system.schedule w) (IsHashed system.schedule u) (λ x i. in_left w.hashed _ x i) (strings_in system.schedule.shape m) a)) (w.histories h) (s.rests h)

    arrived : (m : Message) → read system.schedule bytes ≡ Some m → AllByRecursion (IsHashed system.schedule v) (strings_in system.schedule.shape m ++ state_strings_in m)
    arrived m e = each_in (IsHashed system.schedule v) (strings_in system.schedule.shape m ++ state_strings_in m) (λ x i.
        (step_grows h (event.Given bytes) u).hashed x (in_right w.hashed (given_strings system.schedule bytes) x (rw e i)))

    new_clean : Unforged w bytes → (m : Message) → read system.schedule bytes ≡ Some m → IsClean system.schedule v m
    new_clean unforged m e = let f = unforged m e in record {
      issues = λ c i valid. issued_grows system.schedule w v grows c (none_forged system.schedule w m f.0 c i valid);
      strings = all_left (IsHashed system.schedule v) (strings_in system.schedule.shape m) (state_strings_in m) (arrived m e);
      states = all_right (IsHashed system.schedule v) (strings_in system.schedule.shape m) (state_strings_in m) (arrived m e);
      asked = λ r i t c. let a = none_unasked system.schedule w m f.1 r i t c in (a.0, grows.asked a.0 a.1, a.2);
    }

    old_clean : Standing w → (g : ℕ) (m : Message) (b : Bytes) → In (w.given g) b → read system.schedule b ≡ Some m → IsClean system.schedule v m
    old_clean s g m b i e = clean_grows system.schedule w v grows m (s.clean g m (record { bytes = b; delivered = i; reads = e }))

    at_host : Unforged w bytes → Standing w → (m : Message) (b : Bytes) → In (bytes ∷ w.given h) b → read system.schedule b ≡ Some m → IsClean system.schedule v m
    at_host unforged s m b (inl is) e = new_clean unforged m (subst (λ (x : Bytes). read system.schedule x ≡ Some m) (sym is) e)
    at_host unforged s m b (inr i) e = old_clean s h m b i e

    cleaned : Unforged w bytes → Standing w → (g : ℕ) (m : Message) (b : Bytes) → In (v.given g) b → read system.schedule b ≡ Some m → IsClean system.schedule v m
    cleaned unforged s g m b i e = elim (cases_Bool (eqb g h)) [
      | inl same ↦ at_host unforged s m b (rw same at i) e
      | inr other ↦ old_clean s g m b (rw other at i) e
    ]

    new_issues : Unforged w bytes → Standing w → (m : Message) (b : Bytes) → In (bytes ∷ w.given h) b → read system.schedule b ≡ Some m
        → (c : Claim) → In (claims_in system.schedule.shape m) c → verifies system.schedule.secret c ≡ true → issued system.schedule w c ≡ true
    new_issues unforged s m b (inl is) e = none_forged system.schedule w m (unforged m (subst (λ (x : Bytes). read system.schedule x ≡ Some m) (sym is) e)).0
    new_issues unforged s m b (inr i) e = (s.clean h m (record { bytes = b; delivered = i; reads = e })).issues

    all_issues : Unforged w bytes → Standing w → (g : ℕ) (m : Message) (b : Bytes) → In (v.given g) b → read system.schedule b ≡ Some m
        → (c : Claim) → In (claims_in system.schedule.shape m) c → verifies system.schedule.secret c ≡ true → issued system.schedule w c ≡ true
    all_issues unforged s g m b i e = elim (cases_Bool (eqb g h)) [
      | inl same ↦ new_issues unforged s m b (rw same at i) e
      | inr other ↦ (s.clean g m (record { bytes = b; delivered = rw other at i; reads = e })).issues
    ]

    pub given_standing : Unforged w bytes → Standing w → Passage w v
    given_standing unforged s = record {
      grows = grows;
      issues = λ g m x. all_issues unforged s g m x.bytes x.delivered x.reads;
      standing = record {
        rests = stepped_rests h (event.Given bytes) u
            (given_rests (self_of system h) (IsGivenTo system.schedule v h) (IsHashed system.schedule u) (HasStrings system.schedule u) (w.histories h) bytes now (before s))
            (λ g. rests_grow w v grows g (w.histories g) (s.rests g));
        clean = λ g m x. cleaned unforged s g m x.bytes x.delivered x.reads;
      };
    }

  -- ---- a host loses patience, or is nudged

  signal_standing : (h : ℕ) (e : Event) (w : World)
      → ((given : Message → Type 0) (old : Bytes → Type 0) (done : Message → Type 0) → Each (Rests (self_of system h) given old done) (w.histories h) → Rested (self_of system h) given old done (left h e w))
      → Standing w → Passage w (steps system h e w)
  signal_standing h e w rest s = record {
    grows = step_grows h e w;
    issues = λ g m x. (s.clean g m (record { bytes = x.bytes; delivered = x.delivered; reads = x.reads })).issues;
    standing = record {
      rests = stepped_rests h e w (rest (IsGivenTo system.schedule (steps system h e w) h) (IsHashed system.schedule w) (HasStrings system.schedule w)
          (each_more _ _ (rests_more (self_of system h) (IsGivenTo system.schedule w h) (IsGivenTo system.schedule (steps system h e w) h) (IsHashed system.schedule w) (IsHashed system.schedule w)
          (HasStrings system.schedule w) (HasStrings system.schedule w) (λ m x. same h m x) (λ x i. i) (λ m x. x)) (w.histories h) (s.rests h)))
          (λ g. rests_grow w (steps system h e w) (step_grows h e w) g (w.histories g) (s.rests g));
      clean = λ g m x. clean_grows system.schedule w (steps system h e w) (step_grows h e w) m (s.clean g m (record { bytes = x.bytes; delivered = x.delivered; reads = x.reads }));
    };
  } where
    same : (g : ℕ) (m : Message) → IsGivenTo system.schedule w g m → IsGivenTo system.schedule (steps system h e w) g m
    same g m x = record { bytes = x.bytes; delivered = x.delivered; reads = x.reads }

  signalled : (h : ℕ) (e : Event) (w : World)
      → ((given : Message → Type 0) (old : Bytes → Type 0) (done : Message → Type 0) → Each (Rests (self_of system h) given old done) (w.histories h) → Rested (self_of system h) given old done (left h e w))
      → Standing w → Passage w (signal system h e w)
  unfolding signal
  signalled h e w rest s = elim (cases_Bool (is_faulty system.schedule h)) [
    | inl faulty ↦ rw faulty (framed w (answered Lost w) (record { stamped = λ h. record { later = []; is = refl }; given = λ h b i. i; hashed = λ x i. i; asked = λ r i. i; tagged = λ m i. i }) (λ h. refl) (λ h. refl) s)
    | inr correct ↦ rw correct (signal_standing h e w rest s)
  ]

  -- ---- other events change no history and deliver nothing to a host

  added : (bytes : Bytes) (w : World) → Grows system.schedule w (made system.schedule bytes w)
  added bytes w = record { stamped = λ h. record { later = []; is = refl }; given = λ h b i. i; hashed = λ x i. in_left w.hashed _ x i; asked = λ r i. i; tagged = λ m i. i }

  made_standing : (bytes : Bytes) (w : World) → Standing w → Passage w (made system.schedule bytes w)
  made_standing bytes w s = framed w (made system.schedule bytes w) (added bytes w) (λ h. refl) (λ h. refl) s

  asks_standing : (c : ℕ) (op : Bytes) (w : World) → Standing w → Passage w (client_asks system.schedule c op w)
  asks_standing c op w s = framed w (client_asks system.schedule c op w)
      (record { stamped = λ h. record { later = []; is = refl }; given = λ h b i. i; hashed = λ x i. in_left w.hashed _ x i; asked = λ r i. inr i; tagged = λ m i. i }) (λ h. refl) (λ h. refl) s

  heard_grows : (bytes : Bytes) (w v : World) → ((h : ℕ) → stamps system.schedule w h ≡ stamps system.schedule v h) → ((h : ℕ) → v.given h ≡ w.given h) → v.hashed ≡ (heard system.schedule bytes w).hashed → v.asked ≡ w.asked → v.tagged ≡ w.tagged → Grows system.schedule w v
  heard_grows bytes w v a b c d e = record {
    stamped = λ h. record { later = []; is = a h };
    given = λ h x i. subst (λ (l : List Bytes). In l x) (sym (b h)) i;
    hashed = λ x i. subst (λ (l : List Bytes). In l x) (sym c) (in_left w.hashed (given_strings system.schedule bytes) x i);
    asked = λ r i. subst (λ (l : List Request). In l r) (sym d) i;
    tagged = λ m i. subst (λ (l : List Message). In l m) (sym e) i;
  }

  reads_standing : (c : ℕ) (bytes : Bytes) (r : Result Message ℕ) (w : World) → Standing w → Passage w (client_reads system.schedule c r (heard system.schedule bytes w))
  reads_standing c bytes (Err at) w s = framed w (client_reads system.schedule c (Err at) (heard system.schedule bytes w)) (heard_grows bytes w _ (λ h. refl) (λ h. refl) refl refl refl) (λ h. refl) (λ h. refl) s
  reads_standing c bytes (Ok (message.Reply r)) w s = framed w (client_reads system.schedule c (Ok (message.Reply r)) (heard system.schedule bytes w)) (heard_grows bytes w _ (λ h. refl) (λ h. refl) refl refl refl) (λ h. refl) (λ h. refl) s
  reads_standing c bytes (Ok m) w s = framed w (client_reads system.schedule c (Ok m) (heard system.schedule bytes w)) (heard_grows bytes w _ (λ h. refl) (λ h. refl) refl refl refl) (λ h. refl) (λ h. refl) s

  client_standing : (c : ℕ) (bytes : Bytes) (w : World) → Standing w → Passage w (give_client system.schedule c bytes w)
  unfolding give_client
  client_standing c bytes w s = elim (cases_Bool (is_faulty_client system.schedule c)) [
    | inl faulty ↦ rw faulty (framed w (answered Lost w) (record { stamped = λ h. record { later = []; is = refl }; given = λ h b i. i; hashed = λ x i. i; asked = λ r i. i; tagged = λ m i. i }) (λ h. refl) (λ h. refl) s)
    | inr correct ↦ rw correct (reads_standing c bytes (message_of system.schedule.shape bytes) w s)
  ]

  pushed_stamps : (f : ℕ → List FaultyStamp) (h : ℕ) (x : FaultyStamp) (g : ℕ) → IsBeginning (map (λ (y : FaultyStamp). y.bare) (f g)) (map (λ (y : FaultyStamp). y.bare) (update f h (x ∷ f h) g))
  pushed_stamps f h x g = elim (cases_Bool (eqb g h)) [
    | inl same ↦ rw same (subst (λ (i : ℕ). IsBeginning (map (λ (y : FaultyStamp). y.bare) (f i)) (x.bare ∷ map (λ (y : FaultyStamp). y.bare) (f h))) (sym (eqb-true g h same)) (record { later = x.bare ∷ []; is = refl }))
    | inr other ↦ rw other (record { later = []; is = refl })
  ]

  stamp_standing : (h : ℕ) (bare message : Bytes) (w : World) → Standing w → Passage w (stamp_as system.schedule h bare message w)
  stamp_standing h bare message w s = framed w (stamp_as system.schedule h bare message w) (record {
    stamped = λ g. elim (cases_Bool (is_faulty system.schedule g)) [
      | inl faulty ↦ rw faulty (pushed_stamps w.faulty_stamps h (record { bare = bare; message = message }) g)
      | inr correct ↦ rw correct (record { later = []; is = refl })
    ];
    given = λ g b i. i;
    hashed = λ x i. in_left w.hashed _ x i;
    asked = λ r i. i;
    tagged = λ m i. i;
  }) (λ g. refl) (λ g. refl) s

  faulty_standing : (t : Bool) (f : World → World) (w : World) → Passage w (f w) → Standing w → Passage w (where_faulty t f w)
  faulty_standing true f w a b = a
  faulty_standing false f w a b = stays w b

  content_standing : (h : ℕ) (m : StampedMessage) (w : World) → Standing w → Passage w (stamp_content system.schedule h m w)
  content_standing h m w s = stamp_standing h _ _ w s

  some_standing : (h : ℕ) (m : Option StampedMessage) (w : World) → Standing w → Passage w (stamps_some system h m w)
  some_standing h m w s = faulty_standing (is_faulty system.schedule h) (stamp_some (stamp_content system.schedule h) m) w (go m) s where
    go : (o : Option StampedMessage) → Passage w (stamp_some (stamp_content system.schedule h) o w)
    go None = stays w s
    go (Some x) = content_standing h x w s

  -- ---- an event that nothing stops

  last_two : {A : Type 0} (a b c d e : Option A) → option_or a (option_or b (option_or c (option_or d e))) ≡ None → (d ≡ None) × (e ≡ None)
  last_two (Some x) b c d e h = absurd cc
  last_two None (Some x) c d e h = absurd cc
  last_two None None (Some x) d e h = absurd cc
  last_two None None None (Some x) e h = absurd cc
  last_two None None None None e h = (refl, h)

  absent : {A B C : Type 0} (f : B → C) (g : A → Option B) (o : Option A) (x : A) → o ≡ Some x → option_map f (option_and_then g o) ≡ None → g x ≡ None
  absent {B = B} f g o x is e = go (g x) (rw is at e) where
    go : (p : Option B) → option_map f p ≡ None → p ≡ None
    go None e = refl
    go (Some y) e = absurd cc

  -- no stop: in what it delivers nothing is forged
  no_forgery : (w : World) (e : WorldEvent) → stop_of system.schedule w e ≡ None → (m : Message) → delivered_message system.schedule w e ≡ Some m → (forged_claim system.schedule w m ≡ None) × (has_forged_tag system.schedule w m ≡ false)
  unfolding stop_of
  no_forgery w e none m there =
      let a = last_two (name_stop system.schedule w e) (missing_stop system.schedule w e) (kind_stop system.schedule w e) (forged_stop system.schedule w e) (tag_stop system.schedule w e) none in (
        absent (λ (c : Claim). Forged (event_number system.schedule w) c.host c.counter) (forged_claim system.schedule w) (delivered_message system.schedule w e) m there a.0,
        untrue (has_forged_tag system.schedule w) (ForgedTag (event_number system.schedule w)) (delivered_message system.schedule w e) m there a.1,
      )

  host_standing : (h : ℕ) (bytes : Bytes) (w : World) → (is_faulty system.schedule h ≡ false → Unforged w bytes) → Standing w → Passage w (give_host system h bytes w)
  unfolding give_host
  host_standing h bytes w unforged s = elim (cases_Bool (is_faulty system.schedule h)) [
    | inl faulty ↦ rw faulty (framed w (answered Lost w) (record { stamped = λ h. record { later = []; is = refl }; given = λ h b i. i; hashed = λ x i. i; asked = λ r i. i; tagged = λ m i. i }) (λ h. refl) (λ h. refl) s)
    | inr correct ↦ rw correct (given_standing h bytes w (unforged correct) s)
  ]

  -- ---- one event, and all events

  passed : (b : Bool) (o : Option Bytes) → b ≡ false → to_correct system.schedule nothing_happened b o ≡ o
  passed true o e = absurd cc
  passed false o e = refl

  pool_standing : (w : World) (m h : ℕ) → stop_of system.schedule w (Give m h) ≡ None → Standing w → Passage w (with_message (give_host system h) (numbered w.pool m) w)
  pool_standing w m h none s = go (numbered w.pool m) refl where
    go : (o : Option Bytes) → numbered w.pool m ≡ o → Passage w (with_message (give_host system h) o w)
    go None is = stays w s
    go (Some bytes) is = host_standing h bytes w (λ correct x r. no_forgery w (Give m h) none x (rw (correct, is) r)) s

  take_standing : (w : World) (c : ℕ) (o : Option Bytes) → Standing w → Passage w (with_message (give_client system.schedule c) o w)
  take_standing w c None s = stays w s
  take_standing w c (Some bytes) s = client_standing c bytes w s

  happens_standing : (w : World) (e : WorldEvent) → stop_of system.schedule w e ≡ None → Standing w → Passage w (happens system w e)
  unfolding happens
  happens_standing w (Ask c op) none s = asks_standing c op w s
  happens_standing w (Give m h) none s = pool_standing w m h none s
  happens_standing w (Take m c) none s = take_standing w c (numbered w.pool m) s
  happens_standing w (Raw (name.Host h) bytes) none s = host_standing h bytes w (λ correct x r. no_forgery w (Raw (name.Host h) bytes) none x (rw correct r)) s
  happens_standing w (Raw (name.Client c) bytes) none s = client_standing c bytes w s
  happens_standing w (Patience h) none s = signalled h event.Patience w (λ given old done a. patience_event (self_of system h) given old done (w.histories h) a) s
  happens_standing w (Nudge h) none s = signalled h event.Nudge w (λ given old done a. nudge_event (self_of system h) given old done (w.histories h) a) s
  happens_standing w (Sign c seq op) none s = faulty_standing (is_faulty_client system.schedule c) (made system.schedule (spelling (message.Request (request_of system.schedule c seq op)))) w (made_standing _ w s) s
  happens_standing w (TagReply h c seq pos result) none s = faulty_standing (is_faulty system.schedule h) (made system.schedule (spelling (reply_of_host system.schedule h c seq pos result))) w (made_standing _ w s) s
  happens_standing w (TagWish h view) none s = faulty_standing (is_faulty system.schedule h) (made system.schedule (spelling (wish_of_host system.schedule h view))) w (made_standing _ w s) s
  happens_standing w (StampPrepare h view pos messages) none s = some_standing h (prepare_of system.schedule w view pos messages) w s
  happens_standing w (StampCommit h m) none s = some_standing h (content system.schedule w m commit_for) w s
  happens_standing w (StampCheckpoint h pos digest) none s = faulty_standing (is_faulty system.schedule h) (stamp_content system.schedule h (checkpoint_with (host_count system.schedule.shape) pos digest)) w (content_standing h (checkpoint_with (host_count system.schedule.shape) pos digest) w s) s
  happens_standing w (StampChange h view counter) none s = faulty_standing (is_faulty system.schedule h) (stamp_content system.schedule h (change_after system.schedule w h view counter)) w (content_standing h (change_after system.schedule w h view counter) w s) s
  happens_standing w (StampAs h m) none s = some_standing h (content system.schedule w m as_stamped) w s
  happens_standing w (StampRaw h bytes) none s = faulty_standing (is_faulty system.schedule h) (stamp_bytes system.schedule h bytes) w (stamp_standing h _ _ w s) s

  -- An event that nothing stops is a passage; behind the last one nothing happens.
  passes : (w : World) (o : Option WorldEvent) → ((e : WorldEvent) → o ≡ Some e → stop_of system.schedule w e ≡ None) → Standing w → Passage w (after system w o)
  passes w None none s = stays w s
  passes w (Some e) none s = happens_standing w e (none e refl) s

  pub before_last : (k : ℕ) → IsUnstopped system (suc k) → IsUnstopped system k
  before_last k none j e lt at = none j e (omega (arith, lt)) at

  -- Each world that nothing stopped stands.
  pub standing : (k : ℕ) → IsUnstopped system k → Standing (world system k)
  unfolding world
  standing zero none = record { rests = λ h. tt; clean = λ h m x. absurd x.delivered }
  standing (suc k) none = (passes (world system k) (slice_get system.schedule.events k) (λ e at. none k e (omega arith) at) (standing k (before_last k none))).standing

  pub passage : (k : ℕ) → IsUnstopped system (suc k) → Passage (world system k) (world system (suc k))
  unfolding world
  passage k none = passes (world system k) (slice_get system.schedule.events k) (λ e at. none k e (omega arith) at) (standing k (before_last k none))
