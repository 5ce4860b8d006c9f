-- A result that was accepted among the receives for a request rests on f+1 different hosts, of which replies were heard in these receives.
--
-- The client's side is that of the events `asked` so often and then `given` each of these replies, but for the results that it accepted before.
use Rattle.std.proofs.Common.{◌≡◌, ℕ, zero, suc, ◌<◌, Bool, true, false, ◌||◌, ◌&&◌, List, [], ◌∷◌, ◌++◌, Option, Some, None, Result, Ok, Err, inl, inr, refl, sym, ap, ◌∙◌, arith}
use Rattle.std.specs.Prelude.{◌==◌}
use Rattle.std.specs.List.{list_any, cons_option, AllByRecursion, Contains}
use Rattle.std.proofs.lemmas.Bool.{cases_Bool, or_cases}
use Rattle.std.proofs.lemmas.List.{append_cancel_right}
use Rattle.mb_base.specs.declared.shape.Shape.{Shape}
use Rattle.mb_base.specs.Shapes.{Bytes, host_count, HasQuorum, IsShape}
use Rattle.mb_msg.specs.declared.message.Message.{Message}
use Rattle.mb_msg.specs.declared.message.Message.TheVariants as message
use Rattle.mb_msg.specs.declared.normal.Reply.{Reply}
use Rattle.mb_msg.specs.Fits.{FitsFields}
use Rattle.mb_msg.specs.Reading.{message_of}
use Rattle.mb_frag.specs.Held.{Held}
use Rattle.mb_model.specs.Clients.{Asker, taken, takes, is_right, is_awaited, completes}
use Rattle.mb_steps.proofs.StepRounds.{tally_more}
use Rattle.mb_reading_laws.proofs.ReadFits.{read_fits}
use Rattle.mb_client.specs.Accepted.{ClientEvent, Asked, Given, replies_in, asker_after, tells_same, host_told}
use Rattle.mb_client.proofs.AcceptedResults.{accepted_have_quorum}
use Rattle.mb_cluster.specs.Hearing.{Receive, Hearing, asked, joined, reply_in, reply_or_none, as_reply, held_after, reply_heard, replies_heard, counts, hears_all}

-- ---- events

-- asked so often
asked_often : ℕ → List ClientEvent
asked_often zero = []
asked_often (suc n) = Asked ∷ asked_often n

none_given : (n : ℕ) → replies_in (asked_often n) ≡ []
unfolding asked_often
none_given zero = refl
none_given (suc n) = none_given n

-- and given a reply
abbrev given_too : Option Reply → List ClientEvent → List ClientEvent
given_too None events = events
given_too (Some r) events = Given r ∷ events

module _ (s : Shape) where
  -- and given each reply that is heard
  abbrev given_all : List ClientEvent → List Held → List Receive → List ClientEvent
  given_all events held [] = events
  given_all events held (g ∷ got) = given_all (given_too (reply_heard s held g) events) (held_after held g) got

  or_swap : (a b c : Bool) → (a || (b || c)) ≡ ((b || a) || c)
  or_swap true true c = refl
  or_swap true false c = refl
  or_swap false true c = refl
  or_swap false false c = refl

  -- a test is passed by one of them where it is by one that was given
  any_given : (p : Reply → Bool) (events : List ClientEvent) (held : List Held) (got : List Receive)
      → list_any p (replies_in (given_all events held got)) ≡ (list_any p (replies_heard s held got) || list_any p (replies_in events))
  any_given p events held [] = refl
  any_given p events held (g ∷ got) = any_given p (given_too (reply_heard s held g) events) (held_after held g) got ∙ here (reply_heard s held g) where
    here : (o : Option Reply) → (list_any p (replies_heard s (held_after held g) got) || list_any p (replies_in (given_too o events))) ≡ (list_any p (cons_option o (replies_heard s (held_after held g) got)) || list_any p (replies_in events))
    here None = refl
    here (Some r) = or_swap (list_any p (replies_heard s (held_after held g) got)) (p r) (list_any p (replies_in events))

  -- ---- each reply is of a host of the system

  of_reply : (m : Message) → FitsFields s m → (r : Reply) → as_reply m ≡ Some r → r.host < host_count s
  of_reply (message.Reply x) fits r is = let same : x ≡ r = cc in rw (← same) fits.host
  of_reply (message.Request x) fits r is = absurd cc
  of_reply (message.Prepare x) fits r is = absurd cc
  of_reply (message.Commit x) fits r is = absurd cc
  of_reply (message.Checkpoint x) fits r is = absurd cc
  of_reply (message.ReqViewChange x) fits r is = absurd cc
  of_reply (message.ViewChange x) fits r is = absurd cc
  of_reply (message.NewView x) fits r is = absurd cc
  of_reply (message.Enter x) fits r is = absurd cc
  of_reply (message.Open x) fits r is = absurd cc
  of_reply (message.Join x) fits r is = absurd cc
  of_reply (message.Resend x) fits r is = absurd cc
  of_reply (message.Log x) fits r is = absurd cc
  of_reply (message.Fetch x) fits r is = absurd cc
  of_reply (message.State x) fits r is = absurd cc
  of_reply (message.Stop x) fits r is = absurd cc

  module _ (shape : IsShape s) where
    in_read : (bytes : Bytes) (read : Result Message ℕ) → message_of s bytes ≡ read → (r : Reply) → reply_or_none read ≡ Some r → r.host < host_count s
    in_read bytes (Ok m) e r is = of_reply m (read_fits s shape bytes m e) r is
    in_read bytes (Err at) e r is = absurd cc

    in_bytes : (o : Option Bytes) (r : Reply) → reply_in s o ≡ Some r → r.host < host_count s
    in_bytes None r is = absurd cc
    in_bytes (Some bytes) r is = in_read bytes (message_of s bytes) refl r is

    in_heard : (held : List Held) (g : Receive) (r : Reply) → reply_heard s held g ≡ Some r → r.host < host_count s
    in_heard held None r is = absurd cc
    in_heard held (Some datagram) r is = in_bytes (joined held datagram).1 r is

    abbrev AreHosts : List ClientEvent → Type 0
    AreHosts events = AllByRecursion (λ x. x.host < host_count s) (replies_in events)

    hosts_given : (events : List ClientEvent) (o : Option Reply) → ((r : Reply) → o ≡ Some r → r.host < host_count s) → AreHosts events → AreHosts (given_too o events)
    hosts_given events None within hosts = hosts
    hosts_given events (Some r) within hosts = (within r refl, hosts)

    all_hosts : (events : List ClientEvent) (held : List Held) (got : List Receive) → AreHosts events → AreHosts (given_all events held got)
    all_hosts events held [] hosts = hosts
    all_hosts events held (g ∷ got) hosts = all_hosts (given_too (reply_heard s held g) events) (held_after held g) got (hosts_given events (reply_heard s held g) (in_heard held g) hosts)

  -- ---- the client's side

  -- with what was accepted before
  abbrev above : List Reply → Asker → Asker
  above before a = record a { accepted = a.accepted ++ before }

  module _ (secret : Bytes) where
    takes_above : (before : List Reply) (a : Asker) (r : Reply) → takes s secret 0 (above before a) r ≡ above before (takes s secret 0 a r)
    unfolding taken takes
    takes_above before a r = elim (cases_Bool (is_right s secret 0 r)) [
      | inr bad ↦ rw bad refl
      | inl right ↦ elim (cases_Bool (is_awaited s secret 0 a r)) [
        | inr other ↦ rw (right, other) refl
        | inl awaited ↦ elim (cases_Bool (completes s secret 0 a r)) [
          | inl complete ↦ rw (right, awaited, complete) refl
          | inr waiting ↦ rw (right, awaited, waiting) refl
        ]
      ]
    ]

    counts_above : (before : List Reply) (events : List ClientEvent) (o : Option Reply) → counts s secret (above before (asker_after s secret 0 events)) o ≡ above before (asker_after s secret 0 (given_too o events))
    counts_above before events None = refl
    counts_above before events (Some r) = takes_above before (asker_after s secret 0 events) r

    heard_above : (before : List Reply) (events : List ClientEvent) (held : List Held) (got : List Receive)
        → (hears_all s secret (record { held = held; asker = above before (asker_after s secret 0 events) }) got).asker ≡ above before (asker_after s secret 0 (given_all events held got))
    heard_above before events held [] = refl
    heard_above before events held (g ∷ got) =
        ap (λ a. (hears_all s secret (record { held = held_after held g; asker = a }) got).asker) (counts_above before events (reply_heard s held g))
        ∙ heard_above before (given_too (reply_heard s held g) events) (held_after held g) got

    number_asked : (n : ℕ) → (asker_after s secret 0 (asked_often n)).number ≡ n
    unfolding asked_often
    number_asked zero = refl
    number_asked (suc n) = let rest = number_asked n in omega (arith, rest)

    none_accepted : (n : ℕ) → (asker_after s secret 0 (asked_often n)).accepted ≡ []
    unfolding asked_often
    none_accepted zero = refl
    none_accepted (suc n) = none_accepted n

    -- a side that has just asked
    just_asked : (c : Hearing) → (asked c).asker ≡ above c.asker.accepted (asker_after s secret 0 (asked_often (suc c.asker.number)))
    unfolding asked_often
    just_asked c = rw (number_asked c.asker.number, none_accepted c.asker.number) refl

    one_accepted : (xs : List Reply) (r : Reply) → xs ≡ r ∷ [] → Contains xs r
    one_accepted xs r is = rw is (0, omega arith, refl)

    -- what was given was heard
    told_heard : (n : ℕ) (held : List Held) (got : List Receive) (r : Reply) (h : ℕ) → host_told s secret 0 (replies_in (given_all (asked_often n) held got)) r h ≡ true → host_told s secret 0 (replies_heard s held got) r h ≡ true
    told_heard n held got r h told =
        let p : Reply → Bool = λ x. x.host == h && tells_same s secret 0 r x in
        let is = any_given p (asked_often n) held got in
        elim (or_cases (list_any p (replies_heard s held got)) (list_any p (replies_in (asked_often n))) (sym is ∙ told)) [
          | inl heard ↦ heard
          | inr before ↦ let e = rw (none_given n) at before in absurd cc
        ]

    pub quorum_heard : IsShape s → (c : Hearing) (got : List Receive) (r : Reply) → (hears_all s secret (asked c) got).asker.accepted ≡ r ∷ c.asker.accepted
        → HasQuorum s (host_told s secret 0 (replies_heard s c.held got) r)
    quorum_heard shape c got r accepted =
        let before = c.asker.accepted in
        let events = asked_often (suc c.asker.number) in
        let all = given_all events c.held got in
        let side : (hears_all s secret (asked c) got).asker ≡ above before (asker_after s secret 0 all) =
        ap (λ a. (hears_all s secret (record { held = c.held; asker = a }) got).asker) (just_asked c) ∙ heard_above before events c.held got in
        let one : (asker_after s secret 0 all).accepted ≡ r ∷ [] =
        append_cancel_right (asker_after s secret 0 all).accepted (r ∷ []) before (sym (ap (λ (a : Asker). a.accepted) side) ∙ accepted) in
        let hosts = all_hosts shape events c.held got (rw (none_given (suc c.asker.number)) tt) in
        let many = accepted_have_quorum s secret 0 all hosts r (one_accepted (asker_after s secret 0 all).accepted r one) in
        let more = tally_more (host_told s secret 0 (replies_in all) r) (host_told s secret 0 (replies_heard s c.held got) r) (host_count s) (told_heard (suc c.asker.number) c.held got r) in
        omega (arith, many, more)
