-- What reassemblers hold behind one datagram more.
use Rattle.std.proofs.Common.{◌≡◌, ℕ, ◌+◌, ◌*◌, ◌<◌, ◌≤◌, true, false, List, [], ◌∷◌, length, map, get_or, refl, sym, ap, ◌∙◌, set, inl, inr, Option, Some, None, arith}
use Rattle.std.specs.Prelude.{◌==◌, ◌||◌, nat_lt, slice_get, ◌⊎◌}
use Rattle.std.specs.List.{range_with_len}
use Rattle.std.proofs.lemmas.Bool.{eq-eqb, ne_eqb, lt-ltb, le-ltb, cases_eq, cases_lt}
use Rattle.std.proofs.lemmas.List.{get_or-set_same, get_or-set_other, length-set, get_or_default}
use Rattle.std.proofs.lemmas.List.FromFn.{fill_by_all, length-map-range_with_len, get_or-map-range_with_len}
use Rattle.mb_base.specs.Limits.{most_faults, most_hosts}
use Rattle.mb_base.specs.Shapes.{Bytes, host_count}
use Rattle.mb_base.specs.declared.shape.Shape.{Shape}
use Rattle.mb_frag.specs.Held.{Held, nothing_held, push_of}
use Rattle.mb_node.specs.declared.inbox.Inbox.{Inbox}
use Rattle.mb_node.specs.Receives.{Receives, held_of, made_whole, whole_message}
use Rattle.mb_node.specs.Inboxes.{HasReceived}

-- ---- a datagram without bytes

pub none_taken : (s : Shape) (before : Receives) (inbox : Inbox) (dg : Bytes) → dg ≡ [] → HasReceived s before inbox → (None ≡ made_whole s before dg) × HasReceived s (Some dg ∷ before) inbox
unfolding held_of made_whole
none_taken s before inbox dg is has = rw is (refl, record { hosts = has.hosts; client = has.client })

-- ---- the datagrams of a sender

module _ (before : Receives) (s : Shape) (inbox : Inbox) (has : HasReceived s before inbox) where
  few : 2 * s.f + 1 ≤ most_hosts
  few = let most : s.f ≤ most_faults = s.faults_in.1 in omega arith

  hosts_len : length inbox.hosts.items ≡ host_count s
  hosts_len = ap length has.hosts ∙ length-map-range_with_len (λ h. held_of h before) 0 (host_count s)

  host_at : (k : ℕ) → k < host_count s → get_or inbox.hosts.items k nothing_held ≡ held_of k before
  host_at k lt = ap (λ (l : List Held). get_or l k nothing_held) has.hosts ∙ get_or-map-range_with_len (λ h. held_of h before) 0 (host_count s) k k nothing_held lt (omega arith)

module _ (before : Receives) (b : ℕ) (more : Bytes) where
  -- what its reassembler holds, and those of others
  held_same : held_of b (Some (b ∷ more) ∷ before) ≡ (push_of (held_of b before) (b ∷ more)).1
  unfolding held_of
  held_same = rw (eq-eqb b b refl) refl

  held_other : (h : ℕ) → (b == h) ≡ false → held_of h (Some (b ∷ more) ∷ before) ≡ held_of h before
  unfolding held_of
  held_other h other = rw other refl

  -- ---- one datagram more

  module _ (s : Shape) (inbox : Inbox) (has : HasReceived s before inbox) where
    peer_gives : (made : Option Bytes) → ((nat_lt b (host_count s) || (b == 255)) ≡ true) → made ≡ whole_message (push_of (held_of b before) (b ∷ more)) → made ≡ made_whole s before (b ∷ more)
    unfolding made_whole
    peer_gives made peer is = rw peer is

    -- of the client program
    pub client_more : (made : Option Bytes) (joiner : Held) → b ≡ 255 → made ≡ whole_message (push_of inbox.client (b ∷ more)) → joiner ≡ (push_of inbox.client (b ∷ more)).1
        → (made ≡ made_whole s before (b ∷ more)) × HasReceived s (Some (b ∷ more) ∷ before) (record { hosts = inbox.hosts; client = joiner })
    client_more made joiner client is held =
        let there : held_of b before ≡ inbox.client = ap (λ (h : ℕ). held_of h before) client ∙ sym has.client in (
          peer_gives made (rw (eq-eqb b 255 client) or_true) (is ∙ ap (λ (x : Held). whole_message (push_of x (b ∷ more))) (sym there)),
          record {
            hosts = fill_by_all (λ h. held_of h (Some (b ∷ more) ∷ before)) inbox.hosts.items (host_count s) nothing_held (hosts_len before s inbox has) (λ k lt. host_at before s inbox has k lt ∙ sym (held_other k (ne_eqb b k (λ e. omega (arith, e, client, lt, few before s inbox has)))));
            client = held ∙ ap (λ (x : Held). (push_of x (b ∷ more)).1) (sym there) ∙ sym held_same ∙ ap (λ (h : ℕ). held_of h (Some (b ∷ more) ∷ before)) client;
          },
        ) where
          or_true : (nat_lt b (host_count s) || true) ≡ true
          or_true = elim (nat_lt b (host_count s)) as (λ v. (v || true) ≡ true) [ true ↦ refl | false ↦ refl ]

    -- of a host
    pub host_more : (made : Option Bytes) (old joiner : Held) (hosts : List Held) → b < host_count s → old ≡ get_or inbox.hosts.items b old → made ≡ whole_message (push_of old (b ∷ more)) → joiner ≡ (push_of old (b ∷ more)).1 → hosts ≡ set inbox.hosts.items b joiner
        → (made ≡ made_whole s before (b ∷ more)) × ((hosts ≡ map (λ h. held_of h (Some (b ∷ more) ∷ before)) (range_with_len 0 (host_count s))) × (inbox.client ≡ held_of 255 (Some (b ∷ more) ∷ before)))
    host_more made old joiner hosts lt at is held hosts_is =
        let there : held_of b before ≡ old = sym (host_at before s inbox has b lt) ∙ get_or_default inbox.hosts.items b nothing_held old (omega (arith, lt, hosts_len before s inbox has)) ∙ sym at in (
          peer_gives made (rw (lt-ltb b (host_count s) lt) refl) (is ∙ ap (λ (x : Held). whole_message (push_of x (b ∷ more))) (sym there)),
          (
            fill_by_all (λ h. held_of h (Some (b ∷ more) ∷ before)) hosts (host_count s) nothing_held (ap length hosts_is ∙ length-set inbox.hosts.items b joiner ∙ hosts_len before s inbox has) each,
            has.client ∙ sym (held_other 255 (ne_eqb b 255 (λ e. omega (arith, e, lt, few before s inbox has)))),
          ),
        ) where
          each : (k : ℕ) → k < host_count s → get_or hosts k nothing_held ≡ held_of k (Some (b ∷ more) ∷ before)
          each k le = ap (λ (l : List Held). get_or l k nothing_held) hosts_is ∙ elim (cases_eq k b) [
            | inl same ↦
                let there : held_of b before ≡ old = sym (host_at before s inbox has b lt) ∙ get_or_default inbox.hosts.items b nothing_held old (omega (arith, lt, hosts_len before s inbox has)) ∙ sym at in
                ap (λ (n : ℕ). get_or (set inbox.hosts.items b joiner) n nothing_held) same ∙ get_or-set_same inbox.hosts.items b joiner nothing_held (omega (arith, lt, hosts_len before s inbox has)) ∙ held ∙ ap (λ (x : Held). (push_of x (b ∷ more)).1) (sym there) ∙ sym held_same ∙ ap (λ (n : ℕ). held_of n (Some (b ∷ more) ∷ before)) (sym same)
            | inr other ↦ get_or-set_other inbox.hosts.items b k joiner nothing_held other ∙ host_at before s inbox has k le ∙ sym (held_other k (ne_eqb b k (λ e. other (sym e))))
          ]

    -- of nobody
    pub other_more : host_count s ≤ b → (b ≡ 255 → ⊥) → (None ≡ made_whole s before (b ∷ more)) × HasReceived s (Some (b ∷ more) ∷ before) inbox
    unfolding made_whole
    other_more beyond no_client = (
      rw (le-ltb b (host_count s) beyond, ne_eqb b 255 no_client) refl,
      record {
        hosts = fill_by_all (λ h. held_of h (Some (b ∷ more) ∷ before)) inbox.hosts.items (host_count s) nothing_held (hosts_len before s inbox has) (λ k lt. host_at before s inbox has k lt ∙ sym (held_other k (ne_eqb b k (λ e. omega (arith, e, lt, beyond)))));
        client = has.client ∙ sym (held_other 255 (ne_eqb b 255 no_client));
      },
    )

-- ---- any datagram

pub client_taken : (s : Shape) (before : Receives) (inbox : Inbox) (dg : Bytes) (b : ℕ) → Some b ≡ slice_get dg 0 → b ≡ 255 → HasReceived s before inbox → (made : Option Bytes) (joiner : Held) → made ≡ whole_message (push_of inbox.client dg) → joiner ≡ (push_of inbox.client dg).1
    → (made ≡ made_whole s before dg) × HasReceived s (Some dg ∷ before) (record { hosts = inbox.hosts; client = joiner })
client_taken s before inbox [] b at client has made joiner is held = absurd cc
client_taken s before inbox (x ∷ more) b at client has made joiner is held = let same : x ≡ b = cc in client_more before x more s inbox has made joiner (same ∙ client) is held

pub host_taken : (s : Shape) (before : Receives) (inbox : Inbox) (dg : Bytes) (b index : ℕ) → Some b ≡ slice_get dg 0 → index ≡ b → index < length inbox.hosts.items → HasReceived s before inbox → (made : Option Bytes) (old joiner : Held) → old ≡ get_or inbox.hosts.items index old
    → made ≡ whole_message (push_of old dg) → joiner ≡ (push_of old dg).1
    → (made ≡ made_whole s before dg) × ((set inbox.hosts.items index joiner ≡ map (λ h. held_of h (Some dg ∷ before)) (range_with_len 0 (host_count s))) × (inbox.client ≡ held_of 255 (Some dg ∷ before)))
host_taken s before inbox [] b index at is_index lt has made old joiner there is held = absurd cc
host_taken s before inbox (x ∷ more) b index at is_index lt has made old joiner there is held =
    let same : b ≡ x = cc in
    let index_is : index ≡ x = is_index ∙ same in
    host_more before x more s inbox has made old joiner (set inbox.hosts.items index joiner) (omega (arith, lt, index_is, hosts_len before s inbox has))
    (there ∙ ap (λ (n : ℕ). get_or inbox.hosts.items n old) index_is) is held (ap (λ (n : ℕ). set inbox.hosts.items n joiner) index_is)

pub other_taken : (s : Shape) (before : Receives) (inbox : Inbox) (dg : Bytes) (b index : ℕ) → Some b ≡ slice_get dg 0 → index ≡ b → (index < length inbox.hosts.items → ⊥) → (b ≡ 255 → ⊥) → HasReceived s before inbox
    → (None ≡ made_whole s before dg) × HasReceived s (Some dg ∷ before) inbox
other_taken s before inbox [] b index at is_index beyond no_client has = absurd cc
other_taken s before inbox (x ∷ more) b index at is_index beyond no_client has =
    let same : b ≡ x = cc in
    other_more before x more s inbox has (beyond_all (cases_lt x (host_count s))) (λ e. no_client (same ∙ e)) where
      beyond_all : (x < host_count s) ⊎ (host_count s ≤ x) → host_count s ≤ x
      beyond_all (inl lt) = absurd (beyond (let same : b ≡ x = cc in omega (arith, lt, is_index, same, hosts_len before s inbox has)))
      beyond_all (inr le) = le

pub none_is : (dg : Bytes) → None ≡ slice_get dg 0 → dg ≡ []
none_is [] is = refl
none_is (x ∷ more) is = absurd cc
