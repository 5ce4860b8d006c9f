-- What an event adds to the world: where it is a step of a correct host, what the step made; else a message that a client or a faulty host made, or bytes that a
-- client heard, or nothing.
use Rattle.std.proofs.Common.{◌≡◌, ℕ, ◌+◌, ◌⊎◌, Bool, true, false, List, [], ◌∷◌, ◌++◌, map, length, refl, sym, ap, subst, ◌∙◌, inl, inr, append_assoc, Option, Some, None, Result, Ok, Err}
use Rattle.std.specs.Prelude.{◌==◌, fold, option_map, Contains}
use Rattle.std.specs.List.{flat_map}
use Rattle.std.proofs.lemmas.Bool.{cases_Bool, cases_eq, eq-eqb, ne_eqb}
use Rattle.std.proofs.lemmas.List.{append-nil}
use Rattle.mb_base.specs.Shapes.{Bytes, host_count}
use Rattle.mb_parts.specs.Spelling.{request_bytes}
use Rattle.mb_parts.specs.Bares.{bare_bytes}
use Rattle.mb_parts.specs.Claims.{Claim}
use Rattle.mb_msg.specs.declared.message.Message.{Message}
use Rattle.mb_msg.specs.declared.message.Message.TheVariants as message
use Rattle.mb_msg.specs.declared.stamped.Stamped.{Stamped as StampedMessage}
use Rattle.mb_msg.specs.declared.event.Event.{Event}
use Rattle.mb_msg.specs.declared.event.Event.TheVariants as event
use Rattle.mb_msg.specs.declared.event.Slot.{Slot}
use Rattle.mb_msg.specs.Reading.{message_of}
use Rattle.mb_msg.specs.Spelling.{spelling}
use Rattle.mb_msg.specs.Stamps.{as_stamped}
use Rattle.mb_model.specs.States.{digest_string}
use Rattle.mb_model.specs.Compared.{inside_some}
use Rattle.mb_model.specs.Sending.{Letter, Progress}
use Rattle.mb_model.specs.HostStep.{transition}
use Rattle.mb_model.specs.Members.{In}
use Rattle.mb_model.proofs.Members.{in_contained, contained, in_map, all_in}
use Rattle.mb_schedule.specs.declared.schedule.Name.TheVariants as name
use Rattle.mb_schedule.specs.declared.schedule.WorldEvent.{WorldEvent}
use Rattle.mb_schedule.specs.declared.schedule.WorldEvent.TheVariants.{Ask, Give, Take, Raw, Patience, Nudge, Sign, TagReply, TagWish, StampPrepare, StampCommit, StampCheckpoint, StampChange, StampAs, StampRaw}
use Rattle.mb_schedule.specs.declared.schedule.Schedule.{Schedule}
use Rattle.mb_schedule.specs.Limits.{is_faulty, is_faulty_client}
use Rattle.mb_model.specs.Inside.{requests_in, bodies_in, claims_in, strings_in}
use Rattle.mb_world_model.specs.World.{numbered, extended, is_tagged_message, with_tagged, state_strings_in, World, FaultyStamp, System, self_of, read, made_strings, given_strings, request_of, made, heard, client_reads, give_client, give_host, signal}
use Rattle.mb_world_model.specs.FaultyHosts.{stamp_some, stamp_content, stamp_bytes, stamp_as, content, prepare_of, commit_for, checkpoint_with, change_after, reply_of_host, wish_of_host, bare_bytes_of, faulty_message}
use Rattle.mb_world_model.specs.WorldSteps.{where_faulty, with_message, stamps_some, happens}
use Rattle.mb_world_model.specs.EventsStep.{arrival}
use Rattle.mb_world_model.specs.Stops.{delivered}
use Rattle.mb_host_laws.proofs.Cases.{some_is, none_some, not_both}
use Rattle.mb_one_log.proofs.Executions.{in_parts}
use Rattle.mb_pins.specs.WorldAdds.{IsStringOf, IsStateString, IsTagged, IsStepOf, IsNoStep, request_for, IsHashedNow, StampsNow, ExtendsLine, sent_by, AddsNoMore, EventsAddNoMore}
use Rattle.mb_pins.proofs.Strings.{IsNoted, step_noted}
use Rattle.mb_world_laws.proofs.Asked.{not_asked}
use Rattle.mb_one_log.proofs.Replied.{from_letters as letters_tagged}

-- ---- lists

flat_from : {A B : Type 0} (f : A → List B) (l : List A) (y : B) → In (flat_map f l) y → (x : A) × (In l x) × (In (f x) y)
flat_from f [] y i = absurd i
flat_from f (z ∷ l) y i = elim (in_parts (f z) (flat_map f l) y i) [
  | inl here ↦ (z, inl refl, here)
  | inr later ↦ let r = flat_from f l y later in (r.0, inr r.1, r.2)
]

map_from : {A B : Type 0} (f : A → B) (l : List A) (y : B) → In (map f l) y → (x : A) × (In l x) × (f x ≡ y)
map_from f [] y i = absurd i
map_from f (z ∷ l) y (inl is) = (z, inl refl, is)
map_from f (z ∷ l) y (inr i) = let r = map_from f l y i in (r.0, inr r.1, r.2)

-- The line grows by slots of the step alone.
grown : (line l : List Slot) → (more : List Slot) × (fold extended line l ≡ line ++ more) × ((slot : Slot) → In more slot → In l slot)
grown line [] = ([], sym (append-nil line), λ slot i. absurd i)
grown line (x ∷ l) = elim (cases_Bool (x.pos == length line + 1)) [
  | inl new ↦ rw new (longer (grown (line ++ x ∷ []) l))
  | inr old ↦ rw old (let r = grown line l in (r.0, r.1, λ slot i. inr (r.2 slot i)))
] where
  longer : ((more : List Slot) × (fold extended (line ++ x ∷ []) l ≡ (line ++ x ∷ []) ++ more) × ((slot : Slot) → In more slot → In l slot)) → (more : List Slot) × (fold extended (line ++ x ∷ []) l ≡ line ++ more) × ((slot : Slot) → In more slot → In (x ∷ l) slot)
  longer (more, is, there) = (x ∷ more, is ∙ append_assoc line (x ∷ []) more, among) where
    among : (slot : Slot) → In (x ∷ more) slot → In (x ∷ l) slot
    among slot (inl same) = inl same
    among slot (inr i) = inr (there slot i)

-- What hosts tagged grows by the replies and wishes among the letters.
tagged_is : (m : Message) → is_tagged_message m ≡ true → IsTagged m
tagged_is (message.Reply m) e = tt
tagged_is (message.ReqViewChange m) e = tt
tagged_is m e = absurd cc

is_tagged : (m : Message) → IsTagged m → is_tagged_message m ≡ true
is_tagged (message.Reply m) t = refl
is_tagged (message.ReqViewChange m) t = refl
is_tagged m t = absurd t

from_letters : (ls : List Letter) (t : List Message) (m : Message) → In (fold with_tagged t ls) m → In t m ⊎ (IsTagged m × (l : Letter) × (In ls l) × (l.says ≡ m))
from_letters ls t m i = elim (letters_tagged ls t m i) [
  | inl old ↦ inl old
  | inr (l, j, is, kind) ↦ inr (tagged_is m kind, l, j, is)
]

stays_tagged : (ls : List Letter) (t : List Message) (m : Message) → In t m → In (fold with_tagged t ls) m
stays_tagged [] t m i = i
stays_tagged (l ∷ ls) t m i = stays_tagged ls (with_tagged t l) m (elim (cases_Bool (is_tagged_message l.says)) [ inl yes_so ↦ rw yes_so (inr i) | inr other ↦ rw other i ])

all_tagged : (ls : List Letter) (t : List Message) (l : Letter) → In ls l → IsTagged l.says → In (fold with_tagged t ls) l.says
all_tagged [] t l i kind = absurd i
all_tagged (k ∷ ls) t l (inr i) kind = all_tagged ls (with_tagged t k) l i kind
all_tagged (k ∷ ls) t l (inl is) kind =
    let first : In (with_tagged t k) l.says = subst (λ (j : Letter). In (with_tagged t j) l.says) (sym is) (rw (is_tagged l.says kind) (inl refl)) in
    stays_tagged ls (with_tagged t k) l.says first

-- ---- strings of a message

string_of : (s : Schedule) (m : Message) (x : Bytes) → In (strings_in s.shape m) x → IsStringOf s m x
unfolding strings_in
string_of s m x i = elim (in_parts (map request_bytes (requests_in m) ++ bodies_in m) (map (λ (c : Claim). bare_bytes c.says) (claims_in s.shape m)) x i) [
  | inr bare ↦ let c = map_from (λ (c : Claim). bare_bytes c.says) (claims_in s.shape m) x bare in inr (inr (c.0, contained (claims_in s.shape m) c.0 c.1, c.2))
  | inl other ↦ elim (in_parts (map request_bytes (requests_in m)) (bodies_in m) x other) [
    | inl request ↦ let r = map_from request_bytes (requests_in m) x request in inl (r.0, contained (requests_in m) r.0 r.1, r.2)
    | inr body ↦ inr (inl (contained (bodies_in m) x body))
  ]
]

state_string_of : (m : Message) (x : Bytes) → In (state_strings_in m) x → IsStateString m x
state_string_of (message.State m) x i = elim (in_parts m.parts (digest_string m.digests m.pos ∷ []) x i) [
  | inl part ↦ inl (contained m.parts x part)
  | inr list ↦ inr (last list)
] where
  last : In (digest_string m.digests m.pos ∷ []) x → digest_string m.digests m.pos ≡ x
  last (inl is) = is
  last (inr j) = absurd j
state_string_of m x i = absurd i

-- of bytes that are made, and of bytes that are delivered
of_made : (s : Schedule) (o : Option Message) (x : Bytes) → In (inside_some (strings_in s.shape) o) x → (m : Message) × (o ≡ Some m) × IsStringOf s m x
of_made s None x i = absurd i
of_made s (Some m) x i = (m, refl, string_of s m x i)

of_given : (s : Schedule) (o : Option Message) (x : Bytes) → In (inside_some (λ (m : Message). strings_in s.shape m ++ state_strings_in m) o) x → (m : Message) × (o ≡ Some m) × (IsStringOf s m x ⊎ IsStateString m x)
of_given s None x i = absurd i
of_given s (Some m) x i = elim (in_parts (strings_in s.shape m) (state_strings_in m) x i) [
  | inl here ↦ (m, refl, inl (string_of s m x here))
  | inr state ↦ (m, refl, inr (state_string_of m x state))
]

module _ {S : Type 0} (system : System S) where
  abbrev s : Schedule
  s = system.schedule

  -- ---- a step of a correct host

  abbrev arrived : Event → List Bytes → List Bytes
  arrived (event.Given bytes) l = bytes ∷ l
  arrived x l = l

  abbrev brought : Event → List Bytes
  brought (event.Given bytes) = given_strings s bytes
  brought x = []

  module _ (w : World) (h : ℕ) (x : Event) where
    abbrev left : Progress
    left = (transition (self_of system h) (w.histories h) x).left

    abbrev letter_strings : List Bytes
    letter_strings = flat_map (λ (l : Letter). strings_in s.shape l.says) left.sent

    abbrev IsOfStep : Bytes → Type 0
    IsOfStep y = In (brought x) y ⊎ (In left.hashed y ⊎ In letter_strings y)

    record IsStepped (v : World) : Type 0 where
      pool : v.pool ≡ w.pool ++ map (λ (l : Letter). spelling l.says) left.sent
      tagged : v.tagged ≡ fold with_tagged w.tagged left.sent
      line : v.line ≡ fold extended w.line left.executed
      given : v.given h ≡ arrived x (w.given h)
      others : (g : ℕ) → (g ≡ h → ⊥) → v.given g ≡ w.given g
      history : v.histories h ≡ left.history
      histories : (g : ℕ) → (g ≡ h → ⊥) → v.histories g ≡ w.histories g
      hashed : (y : Bytes) → In v.hashed y → In w.hashed y ⊎ IsOfStep y

    -- of the strings behind those before the step
    step_strings : (before : List Bytes) (y : Bytes) → In ((before ++ left.hashed) ++ letter_strings) y → In before y ⊎ IsOfStep y
    step_strings before y i = elim (in_parts (before ++ left.hashed) letter_strings y i) [
      | inr sent ↦ inr (inr (inr sent))
      | inl own ↦ elim (in_parts before left.hashed y own) [ inl old ↦ inl old | inr new ↦ inr (inr (inl new)) ]
    ]

  given_stepped : (w : World) (h : ℕ) (bytes : Bytes) → is_faulty s h ≡ false → IsStepped w h (event.Given bytes) (give_host system h bytes w)
  unfolding give_host
  given_stepped w h bytes correct =
      let x : Event = event.Given bytes in
      rw correct (record {
        pool = refl;
        tagged = refl;
        line = refl;
        given = rw (eq-eqb h h refl) refl;
        others = λ g ne. rw (ne_eqb g h ne) refl;
        history = rw (eq-eqb h h refl) refl;
        histories = λ g ne. rw (ne_eqb g h ne) refl;
        hashed = λ y i. elim (step_strings w h x (w.hashed ++ given_strings s bytes) y i) [
          | inr own ↦ inr own
          | inl before ↦ elim (in_parts w.hashed (given_strings s bytes) y before) [ inl old ↦ inl old | inr new ↦ inr (inl new) ]
        ];
      })

  abbrev IsSignal : Event → Type 0
  IsSignal (event.Given bytes) = ⊥
  IsSignal x = Unit {0}

  signal_stepped : (w : World) (h : ℕ) (x : Event) → IsSignal x → is_faulty s h ≡ false → IsStepped w h x (signal system h x w)
  unfolding signal
  signal_stepped w h (event.Given bytes) q correct = absurd q
  signal_stepped w h event.Patience q correct = rw correct (record {
    pool = refl;
    tagged = refl;
    line = refl;
    given = refl;
    others = λ g ne. refl;
    history = rw (eq-eqb h h refl) refl;
    histories = λ g ne. rw (ne_eqb g h ne) refl;
    hashed = λ y i. step_strings w h event.Patience w.hashed y i;
  })
  signal_stepped w h event.Nudge q correct = rw correct (record {
    pool = refl;
    tagged = refl;
    line = refl;
    given = refl;
    others = λ g ne. refl;
    history = rw (eq-eqb h h refl) refl;
    histories = λ g ne. rw (ne_eqb g h ne) refl;
    hashed = λ y i. step_strings w h event.Nudge w.hashed y i;
  })

  moved : (a b : ℕ × Event) (w v : World) → Some a ≡ Some b → (is_faulty s a.0 ≡ false → IsStepped w a.0 a.1 v) → is_faulty s b.0 ≡ false → IsStepped w b.0 b.1 v
  moved a b w v e f = subst (λ (p : ℕ × Event). is_faulty s p.0 ≡ false → IsStepped w p.0 p.1 v) (some_is a b e) f

  message_stepped : (w : World) (g h : ℕ) (x : Event) (o : Option Bytes) → option_map {U = ℕ × Event} (λ bytes. (g, event.Given bytes)) o ≡ Some (h, x) → is_faulty s h ≡ false → IsStepped w h x (with_message (give_host system g) o w)
  message_stepped w g h x None e correct = absurd cc
  message_stepped w g h x (Some bytes) e correct = moved (g, event.Given bytes) (h, x) w (give_host system g bytes w) e (given_stepped w g bytes) correct

  stepped_so : (w : World) (e : WorldEvent) (h : ℕ) (x : Event) → IsStepOf system w e h x → IsStepped w h x (happens system w e)
  unfolding happens
  stepped_so w (Give m g) h x (e, correct) = message_stepped w g h x (numbered w.pool m) e correct
  stepped_so w (Raw (name.Host g) bytes) h x (e, correct) = moved (g, event.Given bytes) (h, x) w (give_host system g bytes w) e (given_stepped w g bytes) correct
  stepped_so w (Patience g) h x (e, correct) = moved (g, event.Patience) (h, x) w (signal system g event.Patience w) e (signal_stepped w g event.Patience tt) correct
  stepped_so w (Nudge g) h x (e, correct) = moved (g, event.Nudge) (h, x) w (signal system g event.Nudge w) e (signal_stepped w g event.Nudge tt) correct
  stepped_so w (Raw (name.Client c) bytes) h x (e, correct) = absurd cc
  stepped_so w (Ask c op) h x (e, correct) = absurd cc
  stepped_so w (Take m c) h x (e, correct) = absurd cc
  stepped_so w (Sign c seq op) h x (e, correct) = absurd cc
  stepped_so w (TagReply g c seq pos result) h x (e, correct) = absurd cc
  stepped_so w (TagWish g view) h x (e, correct) = absurd cc
  stepped_so w (StampPrepare g view pos messages) h x (e, correct) = absurd cc
  stepped_so w (StampCommit g m) h x (e, correct) = absurd cc
  stepped_so w (StampCheckpoint g pos digest) h x (e, correct) = absurd cc
  stepped_so w (StampChange g view counter) h x (e, correct) = absurd cc
  stepped_so w (StampAs g m) h x (e, correct) = absurd cc
  stepped_so w (StampRaw g bytes) h x (e, correct) = absurd cc

  -- ---- no step of a correct host

  module _ (w : World) where
    -- a message was made, bytes came to a client, or nothing is hashed
    abbrev HashesMore : Option Bytes → World → Type 0
    HashesMore comes v = (v.hashed ≡ w.hashed) ⊎ (((bytes : Bytes) × (v.pool ≡ w.pool ++ bytes ∷ []) × (v.hashed ≡ w.hashed ++ made_strings s bytes))
        ⊎ ((bytes : Bytes) × (comes ≡ Some bytes) × (v.hashed ≡ w.hashed ++ given_strings s bytes)))

    record IsUnmoved (comes : Option Bytes) (v : World) : Type 0 where
      histories : (g : ℕ) → v.histories g ≡ w.histories g
      given : (g : ℕ) → v.given g ≡ w.given g
      tagged : v.tagged ≡ w.tagged
      line : v.line ≡ w.line
      hashed : HashesMore comes v

    nothing : (comes : Option Bytes) → IsUnmoved comes w
    nothing comes = record { histories = λ g. refl; given = λ g. refl; tagged = refl; line = refl; hashed = inl refl }

    lost_host : (comes : Option Bytes) (h : ℕ) (bytes : Bytes) → is_faulty s h ≡ true → IsUnmoved comes (give_host system h bytes w)
    unfolding give_host
    lost_host comes h bytes faulty = rw faulty (record { histories = λ g. refl; given = λ g. refl; tagged = refl; line = refl; hashed = inl refl })

    lost_signal : (comes : Option Bytes) (h : ℕ) (x : Event) → is_faulty s h ≡ true → IsUnmoved comes (signal system h x w)
    unfolding signal
    lost_signal comes h x faulty = rw faulty (record { histories = λ g. refl; given = λ g. refl; tagged = refl; line = refl; hashed = inl refl })

    lost_message : (comes : Option Bytes) (h : ℕ) (o : Option Bytes) → ((bytes : Bytes) → o ≡ Some bytes → is_faulty s h ≡ true) → IsUnmoved comes (with_message (give_host system h) o w)
    lost_message comes h None faulty = nothing comes
    lost_message comes h (Some bytes) faulty = lost_host comes h bytes (faulty bytes refl)

    made_one : (comes : Option Bytes) (bytes : Bytes) → IsUnmoved comes (made s bytes w)
    made_one comes bytes = record { histories = λ g. refl; given = λ g. refl; tagged = refl; line = refl; hashed = inr (inl (bytes, refl, refl)) }

    by_faulty : (comes : Option Bytes) (t : Bool) (f : World → World) → IsUnmoved comes (f w) → IsUnmoved comes (where_faulty t f w)
    by_faulty comes true f x = x
    by_faulty comes false f x = nothing comes

    stamped_one : (comes : Option Bytes) (h : ℕ) (bare message : Bytes) → IsUnmoved comes (stamp_as s h bare message w)
    stamped_one comes h bare message = record { histories = λ g. refl; given = λ g. refl; tagged = refl; line = refl; hashed = inr (inl (message, refl, refl)) }

    stamped_some : (comes : Option Bytes) (h : ℕ) (m : Option StampedMessage) → IsUnmoved comes (stamps_some system h m w)
    stamped_some comes h m = by_faulty comes (is_faulty s h) (stamp_some (stamp_content s h) m) (go m) where
      go : (o : Option StampedMessage) → IsUnmoved comes (stamp_some (stamp_content s h) o w)
      go None = nothing comes
      go (Some x) = stamped_one comes h (bare_bytes_of s x) (faulty_message s w h x)

    client_hears : (c : ℕ) (bytes : Bytes) (comes : Option Bytes) → comes ≡ Some bytes → (r : Result Message ℕ) → IsUnmoved comes (client_reads s c r (heard s bytes w))
    client_hears c bytes comes is (Err at) = record { histories = λ g. refl; given = λ g. refl; tagged = refl; line = refl; hashed = inr (inr (bytes, is, refl)) }
    client_hears c bytes comes is (Ok (message.Reply r)) = record { histories = λ g. refl; given = λ g. refl; tagged = refl; line = refl; hashed = inr (inr (bytes, is, refl)) }
    client_hears c bytes comes is (Ok m) = record { histories = λ g. refl; given = λ g. refl; tagged = refl; line = refl; hashed = inr (inr (bytes, is, refl)) }

    client_given : (c : ℕ) (bytes : Bytes) (comes : Option Bytes) → (is_faulty_client s c ≡ false → comes ≡ Some bytes) → IsUnmoved comes (give_client s c bytes w)
    unfolding give_client
    client_given c bytes comes is = elim (cases_Bool (is_faulty_client s c)) [
      | inl faulty ↦ rw faulty (record { histories = λ g. refl; given = λ g. refl; tagged = refl; line = refl; hashed = inl refl })
      | inr correct ↦ rw correct (client_hears c bytes comes (is correct) (message_of s.shape bytes))
    ]

    client_taken : (c : ℕ) (o comes : Option Bytes) → ((bytes : Bytes) → o ≡ Some bytes → is_faulty_client s c ≡ false → comes ≡ Some bytes) → IsUnmoved comes (with_message (give_client s c) o w)
    client_taken c None comes is = nothing comes
    client_taken c (Some bytes) comes is = client_given c bytes comes (is bytes refl)

    -- A host to which something comes is faulty, where it is no step of a correct one.
    must_fail : (e : WorldEvent) (h : ℕ) (x : Event) → IsNoStep system w e → arrival w e ≡ Some (h, x) → is_faulty s h ≡ true
    must_fail e h x none comes = elim (cases_Bool (is_faulty s h)) [ inl faulty ↦ faulty | inr correct ↦ absurd (none h x (comes, correct)) ]

    unmoved_so : (e : WorldEvent) → IsNoStep system w e → IsUnmoved (delivered s w e) (happens system w e)
    unfolding happens
    unmoved_so (Give m h) none = lost_message _ h (numbered w.pool m) (λ bytes at. must_fail (Give m h) h (event.Given bytes) none (ap (option_map {U = ℕ × Event} (λ (b : Bytes). (h, event.Given b))) at))
    unmoved_so (Raw (name.Host h) bytes) none = lost_host _ h bytes (must_fail (Raw (name.Host h) bytes) h (event.Given bytes) none refl)
    unmoved_so (Patience h) none = lost_signal _ h event.Patience (must_fail (Patience h) h event.Patience none refl)
    unmoved_so (Nudge h) none = lost_signal _ h event.Nudge (must_fail (Nudge h) h event.Nudge none refl)
    unmoved_so (Take m c) none = client_taken c (numbered w.pool m) _ (λ bytes at correct. rw (correct, at) refl)
    unmoved_so (Raw (name.Client c) bytes) none = client_given c bytes _ (λ correct. rw correct refl)
    unmoved_so (Ask c op) none = record { histories = λ g. refl; given = λ g. refl; tagged = refl; line = refl; hashed = inr (inl (spelling (message.Request (request_of s c ((w.askers c).number + 1) op)), refl, refl)) }
    unmoved_so (Sign c seq op) none = by_faulty _ (is_faulty_client s c) (made s (spelling (message.Request (request_of s c seq op)))) (made_one _ (spelling (message.Request (request_of s c seq op))))
    unmoved_so (TagReply h c seq pos result) none = by_faulty _ (is_faulty s h) (made s (spelling (reply_of_host s h c seq pos result))) (made_one _ (spelling (reply_of_host s h c seq pos result)))
    unmoved_so (TagWish h view) none = by_faulty _ (is_faulty s h) (made s (spelling (wish_of_host s h view))) (made_one _ (spelling (wish_of_host s h view)))
    unmoved_so (StampPrepare h view pos messages) none = stamped_some _ h (prepare_of s w view pos messages)
    unmoved_so (StampCommit h m) none = stamped_some _ h (content s w m commit_for)
    unmoved_so (StampCheckpoint h pos digest) none = by_faulty _ (is_faulty s h) (stamp_content s h (checkpoint_with (host_count s.shape) pos digest)) (stamped_one _ h _ _)
    unmoved_so (StampChange h view counter) none = by_faulty _ (is_faulty s h) (stamp_content s h (change_after s w h view counter)) (stamped_one _ h _ _)
    unmoved_so (StampAs h m) none = stamped_some _ h (content s w m as_stamped)
    unmoved_so (StampRaw h bytes) none = by_faulty _ (is_faulty s h) (stamp_bytes s h bytes) (stamped_one _ h _ _)

  -- ---- stamps of faulty hosts

  module _ (w : World) (h : ℕ) where
    record IsStamped (v : World) : Type 0 where
      faulty : is_faulty s h ≡ true
      stamp : FaultyStamp
      is : v.faulty_stamps h ≡ stamp ∷ w.faulty_stamps h
      made : v.pool ≡ w.pool ++ stamp.message ∷ []

    abbrev Stamps : World → Type 0
    Stamps v = (v.faulty_stamps h ≡ w.faulty_stamps h) ⊎ IsStamped v

    stamped_at : (g : ℕ) (bare message : Bytes) → is_faulty s g ≡ true → Stamps (stamp_as s g bare message w)
    stamped_at g bare message faulty =
        let st : FaultyStamp = record { bare = bare; message = message } in
        elim (cases_eq h g) [
          | inl same ↦ inr (record {
            faulty = subst (λ (k : ℕ). is_faulty s k ≡ true) (sym same) faulty;
            stamp = st;
            is = rw (eq-eqb h g same) (ap (λ (k : ℕ). st ∷ w.faulty_stamps k) (sym same));
            made = refl;
          })
          | inr other ↦ inl (rw (ne_eqb h g other) refl)
        ]

    where_stamped : (t : Bool) (f : World → World) → (t ≡ true → Stamps (f w)) → Stamps (where_faulty t f w)
    where_stamped true f x = x refl
    where_stamped false f x = inl refl

    some_stamped : (g : ℕ) (m : Option StampedMessage) → Stamps (stamps_some system g m w)
    some_stamped g m = where_stamped (is_faulty s g) (stamp_some (stamp_content s g) m) (go m) where
      go : (o : Option StampedMessage) → is_faulty s g ≡ true → Stamps (stamp_some (stamp_content s g) o w)
      go None faulty = inl refl
      go (Some x) faulty = stamped_at g (bare_bytes_of s x) (faulty_message s w g x) faulty

    host_stamps : (g : ℕ) (bytes : Bytes) → Stamps (give_host system g bytes w)
    unfolding give_host
    host_stamps g bytes = elim (cases_Bool (is_faulty s g)) [ inl faulty ↦ rw faulty (inl refl) | inr correct ↦ rw correct (inl refl) ]

    signal_stamps : (g : ℕ) (x : Event) → Stamps (signal system g x w)
    unfolding signal
    signal_stamps g x = elim (cases_Bool (is_faulty s g)) [ inl faulty ↦ rw faulty (inl refl) | inr correct ↦ rw correct (inl refl) ]

    reads_stamps : (c : ℕ) (bytes : Bytes) (r : Result Message ℕ) → Stamps (client_reads s c r (heard s bytes w))
    reads_stamps c bytes (Err at) = inl refl
    reads_stamps c bytes (Ok (message.Reply r)) = inl refl
    reads_stamps c bytes (Ok m) = inl refl

    client_stamps : (c : ℕ) (bytes : Bytes) → Stamps (give_client s c bytes w)
    unfolding give_client
    client_stamps c bytes = elim (cases_Bool (is_faulty_client s c)) [ inl faulty ↦ rw faulty (inl refl) | inr correct ↦ rw correct (reads_stamps c bytes (message_of s.shape bytes)) ]

    given_stamps : (g : ℕ) (o : Option Bytes) → Stamps (with_message (give_host system g) o w)
    given_stamps g None = inl refl
    given_stamps g (Some bytes) = host_stamps g bytes

    taken_stamps : (c : ℕ) (o : Option Bytes) → Stamps (with_message (give_client s c) o w)
    taken_stamps c None = inl refl
    taken_stamps c (Some bytes) = client_stamps c bytes

    stamps_so : (e : WorldEvent) → Stamps (happens system w e)
    unfolding happens
    stamps_so (Give m g) = given_stamps g (numbered w.pool m)
    stamps_so (Raw (name.Host g) bytes) = host_stamps g bytes
    stamps_so (Patience g) = signal_stamps g event.Patience
    stamps_so (Nudge g) = signal_stamps g event.Nudge
    stamps_so (Take m c) = taken_stamps c (numbered w.pool m)
    stamps_so (Raw (name.Client c) bytes) = client_stamps c bytes
    stamps_so (Ask c op) = inl refl
    stamps_so (Sign c seq op) = where_stamped (is_faulty_client s c) (made s (spelling (message.Request (request_of s c seq op)))) (λ faulty. inl refl)
    stamps_so (TagReply g c seq pos result) = where_stamped (is_faulty s g) (made s (spelling (reply_of_host s g c seq pos result))) (λ faulty. inl refl)
    stamps_so (TagWish g view) = where_stamped (is_faulty s g) (made s (spelling (wish_of_host s g view))) (λ faulty. inl refl)
    stamps_so (StampPrepare g view pos messages) = some_stamped g (prepare_of s w view pos messages)
    stamps_so (StampCommit g m) = some_stamped g (content s w m commit_for)
    stamps_so (StampCheckpoint g pos digest) = where_stamped (is_faulty s g) (stamp_content s g (checkpoint_with (host_count s.shape) pos digest)) (stamped_at g _ _)
    stamps_so (StampChange g view counter) = where_stamped (is_faulty s g) (stamp_content s g (change_after s w g view counter)) (stamped_at g _ _)
    stamps_so (StampAs g m) = some_stamped g (content s w m as_stamped)
    stamps_so (StampRaw g bytes) = where_stamped (is_faulty s g) (stamp_bytes s g bytes) (stamped_at g _ _)

  -- ---- requests that are asked

  module _ (w : World) where
    asked_now : (c : ℕ) (op : Bytes) → (happens system w (Ask c op)).asked ≡ request_for system w (Ask c op) c op ∷ w.asked
    unfolding happens
    asked_now c op = refl

  -- ---- which of both it is

  module _ (w : World) (e : WorldEvent) where
    abbrev IsSomeStep : Type 0
    IsSomeStep = (h : ℕ) × (x : Event) × IsStepOf system w e h x

    either_step : IsSomeStep ⊎ IsNoStep system w e
    either_step = go (arrival w e) refl where
      same : (a b : ℕ × Event) → Some a ≡ Some b → a.0 ≡ b.0
      same a b f = ap (λ (p : ℕ × Event). p.0) (some_is a b f)

      go : (o : Option (ℕ × Event)) → arrival w e ≡ o → IsSomeStep ⊎ IsNoStep system w e
      go None is = inr (λ h x k. none_some {A = ℕ × Event} (h, x) (sym is ∙ k.0))
      go (Some p) is = elim (cases_Bool (is_faulty s p.0)) [
        | inr correct ↦ inl (p.0, p.1, (is, correct))
        | inl faulty ↦ inr (λ h x k. not_both (is_faulty s h) (subst (λ (n : ℕ). is_faulty s n ≡ true) (same p (h, x) (sym is ∙ k.0)) faulty) k.1)
      ]

    step_at : (h : ℕ) (x : Event) → IsStepOf system w e h x → IsStepped w h x (happens system w e)
    step_at h x k = stepped_so w e h x k

    -- The history of a host stays, or the host makes a step.
    pub history_moves : (h : ℕ) → ((happens system w e).histories h ≡ w.histories h) ⊎ ((x : Event) × IsStepOf system w e h x × ((happens system w e).histories h ≡ (transition (self_of system h) (w.histories h) x).left.history))
    history_moves h = elim either_step [
      | inr no_step ↦ inl ((unmoved_so w e no_step).histories h)
      | inl (g, x, k) ↦ elim (cases_eq h g) [
        | inr other ↦ inl ((step_at g x k).histories h other)
        | inl same ↦ inr (subst (λ (i : ℕ). (y : Event) × IsStepOf system w e i y × ((happens system w e).histories i ≡ (transition (self_of system i) (w.histories i) y).left.history)) (sym same) (x, k, (step_at g x k).history))
      ]
    ]

    none_given : (h : ℕ) → ((bytes : Bytes) → IsStepOf system w e h (event.Given bytes) → ⊥) → (happens system w e).given h ≡ w.given h
    none_given h none = elim either_step [
      | inr no_step ↦ (unmoved_so w e no_step).given h
      | inl (g, x, k) ↦ elim (cases_eq h g) [
        | inr other ↦ (step_at g x k).others h other
        | inl same ↦ subst (λ (i : ℕ). (happens system w e).given i ≡ w.given i) (sym same) (signalled g x k (λ bytes is. none bytes (subst (λ (i : ℕ). IsStepOf system w e i (event.Given bytes)) (sym same) (subst (IsStepOf system w e g) is k))))
      ]
    ] where
      signalled : (g : ℕ) (x : Event) → IsStepOf system w e g x → ((bytes : Bytes) → x ≡ event.Given bytes → ⊥) → (happens system w e).given g ≡ w.given g
      signalled g (event.Given bytes) k never = absurd (never bytes refl)
      signalled g event.Patience k never = (step_at g event.Patience k).given
      signalled g event.Nudge k never = (step_at g event.Nudge k).given

    -- ---- the strings

    comes_so : (f : WorldEvent) (h : ℕ) (bytes : Bytes) → arrival w f ≡ Some (h, event.Given bytes) → is_faulty s h ≡ false → delivered s w f ≡ Some bytes
    comes_so (Give m g) h bytes at correct = go (numbered w.pool m) refl at where
      parts : (a b : ℕ) (x y : Bytes) → (let p : Option (ℕ × Event) = Some (a, event.Given x) in let q : Option (ℕ × Event) = Some (b, event.Given y) in p ≡ q) → (a ≡ b) × (x ≡ y)
      parts a b x y e = let f = some_is {A = ℕ × Event} (a, event.Given x) (b, event.Given y) e in (ap (λ (p : ℕ × Event). p.0) f, given_same x y (ap (λ (p : ℕ × Event). p.1) f)) where
        given_same : (x y : Bytes) → event.Given x ≡ event.Given y → x ≡ y
        given_same x y e = cc

      go : (o : Option Bytes) → numbered w.pool m ≡ o → option_map {U = ℕ × Event} (λ (b : Bytes). (g, event.Given b)) o ≡ Some (h, event.Given bytes) → delivered s w (Give m g) ≡ Some bytes
      go None is f = absurd cc
      go (Some b) is f = let p = parts g h b bytes f in rw (is, subst (λ (k : ℕ). is_faulty s k ≡ false) (sym p.0) correct) (ap (λ (y : Bytes). Some y) p.1)
    comes_so (Raw (name.Host g) b) h bytes at correct = go g h b bytes at correct where
      given_same : (x y : Bytes) → event.Given x ≡ event.Given y → x ≡ y
      given_same x y e = cc

      go : (g h : ℕ) (b bytes : Bytes) → (let p : Option (ℕ × Event) = Some (g, event.Given b) in let q : Option (ℕ × Event) = Some (h, event.Given bytes) in p ≡ q) → is_faulty s h ≡ false → delivered s w (Raw (name.Host g) b) ≡ Some bytes
      go g h b bytes at correct =
          let f = some_is {A = ℕ × Event} (g, event.Given b) (h, event.Given bytes) at in
          let host : g ≡ h = ap (λ (p : ℕ × Event). p.0) f in
          rw (subst (λ (k : ℕ). is_faulty s k ≡ false) (sym host) correct) (ap (λ (y : Bytes). Some y) (given_same b bytes (ap (λ (p : ℕ × Event). p.1) f)))
    comes_so (Patience g) h bytes at correct = let other : event.Patience ≡ event.Given bytes = ap (λ (p : ℕ × Event). p.1) (some_is {A = ℕ × Event} (g, event.Patience) (h, event.Given bytes) at) in absurd cc
    comes_so (Nudge g) h bytes at correct = let other : event.Nudge ≡ event.Given bytes = ap (λ (p : ℕ × Event). p.1) (some_is {A = ℕ × Event} (g, event.Nudge) (h, event.Given bytes) at) in absurd cc
    comes_so (Raw (name.Client c) b) h bytes at correct = absurd cc
    comes_so (Ask c op) h bytes at correct = absurd cc
    comes_so (Take m c) h bytes at correct = absurd cc
    comes_so (Sign c seq op) h bytes at correct = absurd cc
    comes_so (TagReply g c seq pos result) h bytes at correct = absurd cc
    comes_so (TagWish g view) h bytes at correct = absurd cc
    comes_so (StampPrepare g view pos messages) h bytes at correct = absurd cc
    comes_so (StampCommit g m) h bytes at correct = absurd cc
    comes_so (StampCheckpoint g pos digest) h bytes at correct = absurd cc
    comes_so (StampChange g view counter) h bytes at correct = absurd cc
    comes_so (StampAs g m) h bytes at correct = absurd cc
    comes_so (StampRaw g b) h bytes at correct = absurd cc

    abbrev IsNew : Bytes → Type 0
    IsNew y = IsHashedNow system w e y

    delivered_new : (bytes : Bytes) (y : Bytes) → delivered s w e ≡ Some bytes → In (given_strings s bytes) y → IsNew y
    delivered_new bytes y comes i = let m = of_given s (read s bytes) y i in inr (inl (m.0, record { bytes = bytes; comes = comes; reads = m.1 }, m.2))

    brought_new : (h : ℕ) (x : Event) (y : Bytes) → IsStepOf system w e h x → In (brought x) y → IsNew y
    brought_new h (event.Given bytes) y k i = delivered_new bytes y (comes_so e h bytes k.0 k.1) i
    brought_new h event.Patience y k i = absurd i
    brought_new h event.Nudge y k i = absurd i

    own_new : (h : ℕ) (y : Bytes) → IsNoted (self_of system h) y → IsNew y
    own_new h y (inl plan) = inr (inr (inl plan))
    own_new h y (inr own) = inr (inr (inr (h, own)))

    letter_new : (h : ℕ) (x : Event) (y : Bytes) → IsStepOf system w e h x → In (letter_strings w h x) y → IsNew y
    letter_new h x y k i =
        let sent : List Letter = (left w h x).sent in
        let r = flat_from (λ (l : Letter). strings_in s.shape l.says) sent y i in
        let l : Letter = r.0 in
        inl (
          l.says,
          record {
            bytes = spelling l.says;
            more = map (λ (l : Letter). spelling l.says) sent;
            added = (step_at h x k).pool;
            there = contained (map (λ (l : Letter). spelling l.says) sent) (spelling l.says) (in_map (λ (l : Letter). spelling l.says) sent l r.1);
            is = inl refl;
          },
          string_of s l.says y r.2,
        )

    step_new : (h : ℕ) (x : Event) (y : Bytes) → IsStepOf system w e h x → IsOfStep w h x y → IsNew y
    step_new h x y k (inl given) = brought_new h x y k given
    step_new h x y k (inr (inl own)) = own_new h y (all_in (IsNoted (self_of system h)) (left w h x).hashed y (step_noted (self_of system h) (w.histories h) x) own)
    step_new h x y k (inr (inr sent)) = letter_new h x y k sent

    other_new : (y : Bytes) → HashesMore w (delivered s w e) (happens system w e) → In (happens system w e).hashed y → In w.hashed y ⊎ IsNew y
    other_new y (inl same) i = inl (subst (λ (l : List Bytes). In l y) same i)
    other_new y (inr (inl (bytes, pool, hashed))) i = elim (in_parts w.hashed (made_strings s bytes) y (subst (λ (l : List Bytes). In l y) hashed i)) [
      | inl old ↦ inl old
      | inr new ↦ let m = of_made s (read s bytes) y new in inr (inl (m.0, record { bytes = bytes; more = bytes ∷ []; added = pool; there = contained (bytes ∷ []) bytes (inl refl); is = inr m.1 }, m.2))
    ]
    other_new y (inr (inr (bytes, comes, hashed))) i = elim (in_parts w.hashed (given_strings s bytes) y (subst (λ (l : List Bytes). In l y) hashed i)) [
      | inl old ↦ inl old
      | inr new ↦ inr (delivered_new bytes y comes new)
    ]

    new_in : (y : Bytes) → In (happens system w e).hashed y → In w.hashed y ⊎ IsNew y
    new_in y i = elim either_step [
      | inr no_step ↦ other_new y (unmoved_so w e no_step).hashed i
      | inl (h, x, k) ↦ elim ((step_at h x k).hashed y i) [
        | inl old ↦ inl old
        | inr new ↦ inr (step_new h x y k new)
      ]
    ]

    new_strings : (y : Bytes) → Contains (happens system w e).hashed y → Contains w.hashed y ⊎ IsNew y
    new_strings y c = elim (new_in y (in_contained (happens system w e).hashed y c)) [
      | inl old ↦ inl (contained w.hashed y old)
      | inr new ↦ inr new
    ]

    -- ---- all of it

    new_tagged : (h : ℕ) (x : Event) (m : Message) → IsStepOf system w e h x → Contains (happens system w e).tagged m → Contains w.tagged m ⊎ (IsTagged m × (l : Letter) × Contains (sent_by system w e h x) l × (l.says ≡ m))
    new_tagged h x m k c = elim (from_letters (left w h x).sent w.tagged m (subst (λ (l : List Message). In l m) (step_at h x k).tagged (in_contained (happens system w e).tagged m c))) [
      | inl old ↦ inl (contained w.tagged m old)
      | inr (kind, l, i, is) ↦ inr (kind, l, contained (left w h x).sent l i, is)
    ]

    each_tagged : (h : ℕ) (x : Event) (l : Letter) → IsStepOf system w e h x → Contains (sent_by system w e h x) l → IsTagged l.says → Contains (happens system w e).tagged l.says
    each_tagged h x l k c kind = contained (happens system w e).tagged l.says (subst (λ (t : List Message). In t l.says) (sym (step_at h x k).tagged) (all_tagged (left w h x).sent w.tagged l (in_contained (left w h x).sent l c) kind))

    line_more : (h : ℕ) (x : Event) → IsStepOf system w e h x → ExtendsLine system w e h x
    line_more h x k =
        let g = grown w.line (left w h x).executed in
        record { more = g.0; is = (step_at h x k).line ∙ g.1; executed = λ slot c. contained (left w h x).executed slot (g.2 slot (in_contained g.0 slot c)) }

    new_stamps : (h : ℕ) → ((happens system w e).faulty_stamps h ≡ w.faulty_stamps h) ⊎ StampsNow system w e h
    new_stamps h = elim (stamps_so w h e) [
      | inl same ↦ inl same
      | inr st ↦ inr (record { faulty = st.faulty; stamp = st.stamp; is = st.is; made = st.made })
    ]

    adds_no_more : AddsNoMore system w e
    adds_no_more = record {
      asks = λ c op is. subst (λ (f : WorldEvent). (happens system w f).asked ≡ request_for system w e c op ∷ w.asked) (sym is) (asked_now w c op);
      asks_none = not_asked system w e;
      gives = λ h bytes k. (step_at h (event.Given bytes) k).given;
      gives_none = none_given;
      tags = new_tagged;
      tags_all = each_tagged;
      tags_none = λ none. (unmoved_so w e none).tagged;
      extends = line_more;
      extends_none = λ none. (unmoved_so w e none).line;
      stamps = new_stamps;
      hashes = new_strings;
    }

pub events_add_no_more : (S : Type 0) → EventsAddNoMore S
events_add_no_more S system w e = adds_no_more system w e
