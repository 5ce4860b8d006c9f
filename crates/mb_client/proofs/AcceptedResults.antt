-- A result that a client accepted came from f+1 different hosts.
--
-- After any events the counted replies are of different hosts, and each was given, is right, and answers the last request. So where f+1 of them agree with one
-- reply, as many hosts told the same.
use Rattle.std.proofs.Common.{◌≡◌, ℕ, ◌+◌, ◌<◌, ◌≤◌, Bool, true, false, ◌&&◌, ◌||◌, cond, List, [], ◌∷◌, inl, inr, refl, sym, ap, subst, ◌∙◌, arith, eqb}
use Rattle.std.specs.Prelude.{◌==◌, count_by}
use Rattle.std.specs.List.{list_any, AllByRecursion}
use Rattle.std.proofs.lemmas.Bool.{cases_Bool, and_parts, or_cases, or_right, eqb-true, eq-eqb, leb-true}
use Rattle.std.proofs.lemmas.List.Sums.{sum_by-cons}
use Rattle.mb_base.specs.declared.shape.Shape.{Shape}
use Rattle.mb_base.specs.Shapes.{Bytes, host_count, quorum, tally, HasQuorum}
use Rattle.mb_msg.specs.declared.normal.Reply.{Reply}
use Rattle.mb_model.specs.Clients.{Asker, taken, takes, is_right, is_awaited, completes, agrees, agreeing, counted}
use Rattle.mb_model.specs.Members.{In}
use Rattle.mb_model.proofs.Members.{in_contained, all_in, any_in}
use Rattle.mb_model.proofs.PlanLaws.{one_more}
use Rattle.mb_steps.proofs.StepRounds.{tally_more}
use Rattle.mb_client.specs.Replies.{has_host, AreOfDifferentHosts}
use Rattle.mb_client.specs.Accepted.{ClientEvent, Asked, Given, replies_in, asker_after, tells_same, host_told, AcceptedHaveQuorum}

-- ---- as many hosts as replies

-- where each host with one property has the other too, and one host has the other alone, more have it
host_more : (p q : ℕ → Bool) (a n : ℕ) → a < n → p a ≡ false → q a ≡ true → ((h : ℕ) → p h ≡ true → q h ≡ true) → 1 + tally p n ≤ tally q n
host_more p q a n lt none has more = rw (← one_more p a n none lt) (tally_more (λ h. (a == h) || p h) q n either) where
  either : (h : ℕ) → ((a == h) || p h) ≡ true → q h ≡ true
  either h e = elim (or_cases (a == h) (p h) e) [
    | inl same ↦ rw (← eqb-true a h same) has
    | inr holds ↦ more h holds
  ]

-- a host has a reply that passes the test
abbrev has_with : (Reply → Bool) → List Reply → ℕ → Bool
has_with good replies h = list_any (λ x. x.host == h && good x) replies

has_no_such : (good : Reply → Bool) (replies : List Reply) (h : ℕ) → has_host replies h ≡ false → has_with good replies h ≡ false
has_no_such good [] h none = refl
has_no_such good (x ∷ xs) h none = elim (cases_Bool (eqb x.host h)) [
  | inl same ↦ let e = rw same at none in absurd cc
  | inr other ↦ rw other (has_no_such good xs h (rw other at none))
]

abbrev one_if : Bool → ℕ
one_if b = cond b 1 0

-- Replies of different hosts are of as many hosts.
pub as_many_hosts : (good : Reply → Bool) (n : ℕ) (replies : List Reply) → AreOfDifferentHosts replies → ((x : Reply) → In replies x → x.host < n) → count_by good replies ≤ tally (has_with good replies) n
as_many_hosts good n [] different within = omega arith
as_many_hosts good n (x ∷ xs) different within =
    let rest = as_many_hosts good n xs different.1 (λ y i. within y (inr i)) in
    let more = λ (h : ℕ) (e : has_with good xs h ≡ true). or_right (x.host == h && good x) (has_with good xs h) e in
    let list = sum_by-cons (λ (y : Reply). cond (good y) 1 0) x xs in
    elim (cases_Bool (good x)) [
      | inl holds ↦
          let here : has_with good (x ∷ xs) x.host ≡ true = rw (eq-eqb x.host x.host refl, holds) refl in
          let one_more = host_more (has_with good xs) (has_with good (x ∷ xs)) x.host n (within x (inl refl)) (has_no_such good xs x.host different.0) here more in
          let one : one_if (good x) ≡ 1 = ap one_if holds in
          omega (arith, list, one, one_more, rest)
      | inr fails ↦
          let none : one_if (good x) ≡ 0 = ap one_if fails in
          omega (arith, list, none, rest, tally_more (has_with good xs) (has_with good (x ∷ xs)) n more)
    ]

in_any : (p : Reply → Bool) (l : List Reply) (x : Reply) → In l x → p x ≡ true → list_any p l ≡ true
in_any p [] x i e = absurd i
in_any p (y ∷ l) x (inl is) e = rw (is, e) refl
in_any p (y ∷ l) x (inr i) e = or_right (p y) (list_any p l) (in_any p l x i e)

-- ---- what is counted

module _ (s : Shape) (secret : Bytes) (client : ℕ) where
  -- a reply was given, is right, and answers the request of this number
  record IsTold (given : List Reply) (number : ℕ) (x : Reply) : Type 0 where
    given_is : In given x
    right : is_right s secret client x ≡ true
    seq : x.seq ≡ number

  -- after any events
  record IsSound (given : List Reply) (a : Asker) : Type 0 where
    different : AreOfDifferentHosts a.replies
    told : (x : Reply) → In a.replies x → IsTold given a.number x
    accepted : (r : Reply) → In a.accepted r → HasQuorum s (host_told s secret client given r)

  still_told : (given : List Reply) (r : Reply) (number : ℕ) (x : Reply) → IsTold given number x → IsTold (r ∷ given) number x
  still_told given r number x t = record { given_is = inr t.given_is; right = t.right; seq = t.seq }

  still_quorum : (given : List Reply) (x r : Reply) → HasQuorum s (host_told s secret client given r) → HasQuorum s (host_told s secret client (x ∷ given) r)
  still_quorum given x r many =
      let more = tally_more (host_told s secret client given r) (host_told s secret client (x ∷ given) r) (host_count s) (λ h e. or_right (x.host == h && tells_same s secret client r x) (host_told s secret client given r h) e) in
      omega arith

  -- a reply that is not counted
  still_sound : (given : List Reply) (r : Reply) (a : Asker) → IsSound given a → IsSound (r ∷ given) a
  still_sound given r a sound = record {
    different = sound.different;
    told = λ x i. still_told given r a.number x (sound.told x i);
    accepted = λ x i. still_quorum given r x (sound.accepted x i);
  }

  module _ (given : List Reply) (a : Asker) (sound : IsSound given a) (r : Reply) (right : is_right s secret client r ≡ true) (awaited : is_awaited s secret client a r ≡ true) where
    seq_is : r.seq ≡ a.number
    seq_is = eqb-true r.seq a.number (and_parts a.waits (r.seq == a.number) awaited).1

    counted_different : AreOfDifferentHosts (counted a.replies r)
    counted_different = elim (cases_Bool (has_host a.replies r.host)) [
      | inl old ↦ rw old sound.different
      | inr new ↦ rw new (new, sound.different)
    ]

    counted_told : (x : Reply) → In (counted a.replies r) x → IsTold (r ∷ given) a.number x
    counted_told = elim (cases_Bool (has_host a.replies r.host)) [
      | inl old ↦ rw old (λ x i. still_told given r a.number x (sound.told x i))
      | inr new ↦ rw new one_more
    ] where
      one_more : (x : Reply) → In (r ∷ a.replies) x → IsTold (r ∷ given) a.number x
      one_more x (inl is) = subst (IsTold (r ∷ given) a.number) is (record { given_is = inl refl; right = right; seq = seq_is })
      one_more x (inr i) = still_told given r a.number x (sound.told x i)

    -- a host with a counted reply that agrees told the same
    agreeing_host : (h : ℕ) → has_with (agrees r) (counted a.replies r) h ≡ true → host_told s secret client (r ∷ given) r h ≡ true
    agreeing_host h e =
        let one = any_in (λ x. x.host == h && agrees r x) (counted a.replies r) e in
        let x = one.0 in
        let parts = and_parts (x.host == h) (agrees r x) one.2 in
        let t = counted_told x one.1 in
        let seq : (x.seq == r.seq) ≡ true = eq-eqb x.seq r.seq (t.seq ∙ sym seq_is) in
        in_any (λ y. y.host == h && tells_same s secret client r y) (r ∷ given) x t.given_is (rw (parts.0, t.right, seq, parts.1) refl)

    told_by_quorum : ((x : Reply) → In (r ∷ given) x → x.host < host_count s) → completes s secret client a r ≡ true → HasQuorum s (host_told s secret client (r ∷ given) r)
    told_by_quorum within complete =
        let hosts = as_many_hosts (agrees r) (host_count s) (counted a.replies r) counted_different (λ x i. let t = counted_told x i in within x t.given_is) in
        let all = tally_more (has_with (agrees r) (counted a.replies r)) (host_told s secret client (r ∷ given) r) (host_count s) agreeing_host in
        omega (arith, leb-true (quorum s) (agreeing (counted a.replies r) r) complete, hosts, all)

  -- one more reply is given
  sound_more : (given : List Reply) (r : Reply) (a : Asker) → ((x : Reply) → In (r ∷ given) x → x.host < host_count s) → IsSound given a → IsSound (r ∷ given) (takes s secret client a r)
  unfolding taken takes
  sound_more given r a within sound = elim (cases_Bool (is_right s secret client r)) [
    | inr bad ↦ rw bad (still_sound given r a sound)
    | inl right ↦ elim (cases_Bool (is_awaited s secret client a r)) [
      | inr other ↦ rw (right, other) (still_sound given r a sound)
      | inl awaited ↦ elim (cases_Bool (completes s secret client a r)) [
        | inl complete ↦ rw (right, awaited, complete) (record {
          different = tt;
          told = λ x i. absurd i;
          accepted = λ x i. elim i [
            | inl is ↦ subst (λ y. HasQuorum s (host_told s secret client (r ∷ given) y)) is (told_by_quorum given a sound r right awaited within complete)
            | inr i ↦ still_quorum given r x (sound.accepted x i)
          ];
        })
        | inr waiting ↦ rw (right, awaited, waiting) (record {
          different = counted_different given a sound r right awaited;
          told = counted_told given a sound r right awaited;
          accepted = λ x i. still_quorum given r x (sound.accepted x i);
        })
      ]
    ]
  ]

  sound_after : (events : List ClientEvent) → AllByRecursion (λ x. x.host < host_count s) (replies_in events) → IsSound (replies_in events) (asker_after s secret client events)
  sound_after [] within = record { different = tt; told = λ x i. absurd i; accepted = λ x i. absurd i }
  sound_after (Asked ∷ events) within =
      let sound = sound_after events within in
      record { different = tt; told = λ x i. absurd i; accepted = sound.accepted }
  sound_after (Given r ∷ events) within =
      sound_more (replies_in events) r (asker_after s secret client events) (λ x i. all_in (λ (x : Reply). x.host < host_count s) (r ∷ replies_in events) x within i) (sound_after events within.1)

pub accepted_have_quorum : AcceptedHaveQuorum
accepted_have_quorum s secret client events within r is_accepted =
    let sound = sound_after s secret client events within in
    sound.accepted r (in_contained (asker_after s secret client events).accepted r is_accepted)
