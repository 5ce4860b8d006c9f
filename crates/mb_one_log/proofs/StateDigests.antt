-- The parts of an installed state have the certified digest.
--
-- Each part came in a STATE whose list of digests gives the certified state digest, and lists the part's digest. The strings of these lists are
-- hashed, so they are one string, and the lists are one. So the digests of the parts, in order, are that list.
use Rattle.std.proofs.Common.{◌≡◌, ℕ, suc, ◌+◌, ◌-◌, ◌<◌, ◌^◌, List, [], ◌∷◌, ◌++◌, length, refl, sym, ap, subst, ◌∙◌, inl, inr, arith, Option, Some}
use Rattle.std.specs.Prelude.{filter_map}
use Rattle.std.specs.List.{AllByRecursion, range_with_len, flat_map}
use Rattle.std.specs.Int.{w64}
use Rattle.sha2.specs.Sha256.{sha256}
use Rattle.sha2.proofs.Facts256.{length-sha256}
use Rattle.mb_base.specs.Limits.{part_count}
use Rattle.mb_base.specs.Shapes.{Bytes}
use Rattle.mb_base.specs.Spelling.{number}
use Rattle.mb_base.specs.Reading.{bytes_at, number_at, pair_at, repeat_at}
use Rattle.mb_base.proofs.Laws.{field_injective, pair_field, repeat_field, bytes_field, number_field, wide64}
use Rattle.mb_usig.proofs.Laws.{same_bytes-true}
use Rattle.mb_parts.specs.Fits.{IsDigest}
use Rattle.mb_msg.specs.declared.message.Message.{Message}
use Rattle.mb_msg.specs.declared.message.Message.TheVariants as message
use Rattle.mb_msg.specs.declared.stamped.Stamped.{Stamped as StampedMessage}
use Rattle.mb_msg.specs.declared.stamped.Stamped.TheVariants as stamped
use Rattle.mb_msg.specs.declared.transfer.StateMsg.{StateMsg}
use Rattle.mb_msg.specs.Stamps.{as_message}
use Rattle.mb_model.specs.Histories.{Accepted, Installed, History, Identity}
use Rattle.mb_model.specs.Stable.{stable_of, low_of}
use Rattle.mb_model.specs.States.{digest_string, part_digests, state_digest}
use Rattle.mb_model.specs.Execution.{part_held}
use Rattle.mb_model.specs.PlainChecks.{string_at}
use Rattle.mb_model.specs.Passed.{PassesState}
use Rattle.mb_model.specs.Members.{In}
use Rattle.mb_model.proofs.Members.{contained, in_left, in_right}
use Rattle.mb_world_model.specs.Hashed.{HashesApart}
use Rattle.mb_world_model.specs.World.{World, System, self_of, state_strings_in}
use Rattle.mb_host_laws.proofs.Cases.{all_at}
use Rattle.mb_host_laws.proofs.Moments.{IsPast, past_tail, each_at, past_past}
use Rattle.mb_host_laws.specs.Rests.{IsPart}
use Rattle.mb_world_laws.proofs.Grown.{IsGivenTo}
use Rattle.mb_world_laws.proofs.Facts.{Facts}
use Rattle.mb_model.proofs.Lists.{in_at}
use Rattle.mb_one_log.proofs.StateParts.{part_digest, part_from, stable_stays, each_held}

-- ---- lists of digests

-- so many digests
abbrev pub AreDigests : ℕ → List Bytes → Type 0
AreDigests n l = (length l ≡ n) × AllByRecursion IsDigest l

-- One string is that of one list of digests.
pub digests_apart : (n pos : ℕ) (a b : List Bytes) → pos < 2 ^ 64 → AreDigests n a → AreDigests n b → digest_string a pos ≡ digest_string b pos → a ≡ b
unfolding digest_string
digests_apart n pos a b lt x y e = ap (λ (p : List Bytes × ℕ). p.0) (field_injective (pair_at (repeat_at (bytes_at 32) n) (number_at w64)) (λ (p : List Bytes × ℕ). flat_map (λ d. d) p.0 ++ number w64 p.1) (λ (p : List Bytes × ℕ). AreDigests n p.0 × (p.1 < 2 ^ 64))
    (pair_field (repeat_at (bytes_at 32) n) (flat_map (λ d. d)) (AreDigests n) (number_at w64) (number w64) (λ k. k < 2 ^ 64) (repeat_field n (bytes_at 32) (λ d. d) IsDigest (bytes_field 32)) (number_field w64 (2 ^ 64) wide64))
    (a, pos) (b, pos) (x, lt) (y, lt) e)

pub digests_of : (l : List Bytes) → AllByRecursion IsDigest (part_digests l)
digests_of [] = tt
digests_of (x ∷ l) = (length-sha256 x, digests_of l)

-- Strings that are hashed are one where their digests are.
pub strings_apart : (hashed a b : List Bytes) → HashesApart hashed → AllByRecursion (In hashed) a → AllByRecursion (In hashed) b → part_digests a ≡ part_digests b → a ≡ b
strings_apart hashed [] [] apart x y e = refl
strings_apart hashed [] (v ∷ b) apart x y e = absurd cc
strings_apart hashed (u ∷ a) [] apart x y e = absurd cc
strings_apart hashed (u ∷ a) (v ∷ b) apart x y e =
    let first : sha256 u ≡ sha256 v = cc in
    let others : part_digests a ≡ part_digests b = cc in
    let here : u ≡ v = apart u v (contained hashed u x.0) (contained hashed v y.0) first in
    let rest : a ≡ b = strings_apart hashed a b apart x.1 y.1 others in
    rw (here, rest) refl

-- what is found at each number of a range, by its digest
pub record AreFound (hashed : List Bytes) (digests l : List Bytes) : Type 0 where
  pub digests_are : part_digests l ≡ digests
  pub hashed_all : AllByRecursion (In hashed) l

pub found_all : (hashed : List Bytes) (f : ℕ → Option Bytes) (digests : List Bytes) (a : ℕ)
    → ((i : ℕ) → i < length digests → (b : Bytes) × (f (a + i) ≡ Some b) × (sha256 b ≡ string_at digests i) × In hashed b) → AreFound hashed digests (filter_map f (range_with_len a (length digests)))
found_all hashed f [] a each = record { digests_are = refl; hashed_all = tt }
found_all hashed f (d ∷ digests) a each =
    let x = each 0 (omega arith) in
    let start : a + 0 ≡ a = omega arith in
    let here : f a ≡ Some x.0 = subst (λ (k : ℕ). f k ≡ Some x.0) start x.1 in
    let rest = found_all hashed f digests (a + 1) (λ i lt.
    let y = each (suc i) (omega (arith, lt)) in
    let s : a + suc i ≡ (a + 1) + i = omega arith in
    (y.0, subst (λ (k : ℕ). f k ≡ Some y.0) s y.1, y.2, y.3)) in
    rw here (record { digests_are = joined (sha256 x.0) d _ digests x.2 rest.digests_are; hashed_all = (x.3, rest.hashed_all) }) where
      joined : (x d : Bytes) (l digests : List Bytes) → x ≡ d → l ≡ digests → x ∷ l ≡ d ∷ digests
      joined x d l digests e g = cc

carry2 : (P : List Bytes → ℕ → Type 0) (a b : List Bytes) (p q : ℕ) → a ≡ b → p ≡ q → P b q → P a p
carry2 P a b p q e g x = subst (λ (y : List Bytes). P y p) (sym e) (subst (λ (n : ℕ). P b n) (sym g) x)

-- ---- in a world

module _ {S : Type 0} (system : System S) (w : World) (f : Facts system w) (h : ℕ) where
  abbrev self : Identity S
  self = self_of system h

  -- A part is listed at its number in a list of digests that the stable certificate gives.
  record IsListed (d : History) (i : ℕ) (b : Bytes) : Type 0 where
    digests : List Bytes
    are : AreDigests part_count digests
    string : In w.hashed (digest_string digests (low_of self d))
    state : sha256 (digest_string digests (low_of self d)) ≡ (stable_of self d).state
    listed : sha256 b ≡ string_at digests i
    hashed : In w.hashed b
    short : low_of self d < 2 ^ 64

  itself : (from : Message) (m : StateMsg) → IsPart self from (message.State m) → from ≡ message.State m
  itself from m (inl is) = is
  itself from m (inr (inl (x, there, is))) = absurd (no x is) where
    no : (x : StampedMessage) → as_message x ≡ message.State m → ⊥
    no (stamped.Prepare y) e = absurd cc
    no (stamped.Commit y) e = absurd cc
    no (stamped.Checkpoint y) e = absurd cc
    no (stamped.ViewChange y) e = absurd cc
    no (stamped.NewView y) e = absurd cc
    no (stamped.Enter y) e = absurd cc
    no (stamped.Open y) e = absurd cc
    no (stamped.Join y) e = absurd cc
  itself from m (inr (inr (c, there, is))) = absurd cc

  listed : (d : History) → IsPast d (w.histories h) → (i : ℕ) (b : Bytes) → part_held self d i ≡ Some b → IsListed d i b
  listed d past i b e =
      let x = part_from self d (low_of self d) i b e in
      let m : StateMsg = x.said in
      let then : History = Accepted (message.State m) ∷ x.before in
      let whole : IsPast then (w.histories h) = past_past then d (w.histories h) x.past past in
      let passes : PassesState self x.before m = (each_adds then whole).0 in
      let rests = (each_at _ then (w.histories h) whole (f.standing.rests h)).0 in
      let from : rests.0.0 ≡ message.State m = itself rests.0.0 m rests.0.2 in
      let given : IsGivenTo system.schedule w h (message.State m) = subst (λ (y : Message). IsGivenTo system.schedule w h y) from rests.0.1 in
      let strings : AllByRecursion (In w.hashed) (state_strings_in (message.State m)) = (f.standing.clean h (message.State m) given).states in
      let fits = f.read h (message.State m) given in
      let place : m.pos ≡ low_of self d = x.place in
      let string : In w.hashed (digest_string m.digests m.pos) = all_at (In w.hashed) (state_strings_in (message.State m)) strings (digest_string m.digests m.pos) (in_right m.parts _ _ (inl refl)) in
      let same : stable_of self x.before ≡ stable_of self d = sym (stays x.past.later m x.before (x.past.is) (x.low)) in
      let state : sha256 (digest_string m.digests m.pos) ≡ (stable_of self d).state = same_bytes-true _ _ passes.list ∙ ap (λ c. c.state) same in
      let low = fits.pos.1.0 in
      record {
        digests = m.digests;
        are = (fits.digest_count, fits.digests);
        string = subst (λ (p : ℕ). In w.hashed (digest_string m.digests p)) place string;
        state = subst (λ (p : ℕ). sha256 (digest_string m.digests p) ≡ (stable_of self d).state) place state;
        listed = part_digest m.digests m.parts m.first i b passes.parts x.first x.part;
        hashed = all_at (In w.hashed) (state_strings_in (message.State m)) strings b (in_left m.parts _ b (in_at m.parts (i - m.first) b x.part));
        short = omega (arith, place, low);
      } where
        each_adds : (then : History) → IsPast then (w.histories h) → Rattle.mb_steps.specs.Arises.Arises self then
        each_adds then p = arises_past p.later then (subst (λ (y : History). Rattle.mb_steps.specs.Arises.Arises self y) (sym p.is) (f.arises h)) where
          arises_past : (later then : History) → Rattle.mb_steps.specs.Arises.Arises self (later ++ then) → Rattle.mb_steps.specs.Arises.Arises self then
          arises_past [] then a = a
          arises_past (e ∷ later) then a = arises_past later then a.1

        stays : (new : History) (m : StateMsg) (before : History) → new ++ Accepted (message.State m) ∷ before ≡ d → low_of self before ≡ low_of self d → stable_of self d ≡ stable_of self before
        stays new m before is low =
            let whole : (new ++ Accepted (message.State m) ∷ []) ++ before ≡ d = moved new ∙ is in
            let at : low_of self ((new ++ Accepted (message.State m) ∷ []) ++ before) ≡ low_of self before = ap (low_of self) whole ∙ sym low in
            ap (stable_of self) (sym whole) ∙ stable_stays self (new ++ Accepted (message.State m) ∷ []) before at where
              moved : (l : History) → (l ++ Accepted (message.State m) ∷ []) ++ before ≡ l ++ Accepted (message.State m) ∷ before
              moved [] = refl
              moved (y ∷ l) = ap (λ (z : History). y ∷ z) (moved l)

  -- The parts of an installed state have the certified digest, and all strings of it are hashed.
  pub record IsCertified (d : History) (pos : ℕ) (parts : List Bytes) : Type 0 where
    pub place : pos ≡ low_of self d
    pub above : 0 < pos
    pub short : pos < 2 ^ 64
    pub many : length (part_digests parts) ≡ part_count
    pub state : state_digest parts pos ≡ (stable_of self d).state
    pub string : In w.hashed (digest_string (part_digests parts) pos)
    pub hashed : AllByRecursion (In w.hashed) parts

  pub certified : (pos : ℕ) (parts : List Bytes) (d : History) → IsPast (Installed pos parts ∷ d) (w.histories h) → IsCertified d pos parts
  certified pos parts d past =
      let before : IsPast d (w.histories h) = past_tail (Installed pos parts) d (w.histories h) past in
      let rests = (each_at _ (Installed pos parts ∷ d) (w.histories h) past (f.standing.rests h)).0 in
      let adds = (Rattle.mb_one_log.proofs.Executions.past_adds self past.later (Installed pos parts ∷ d) (subst (λ (y : History). Rattle.mb_steps.specs.Arises.Arises self y) (sym past.is) (f.arises h))).0 in
      let held = each_held self d rests.1 in
      let zeroth = held 0 (omega arith) in
      let first = listed d before 0 zeroth.0 zeroth.1 in
      let l : List Bytes = first.digests in
      let each : (i : ℕ) → i < length l → (b : Bytes) × (part_held self d (0 + i) ≡ Some b) × (sha256 b ≡ string_at l i) × In w.hashed b = λ i lt.
      let b = held i (omega (arith, lt, first.are.0)) in
      let x = listed d before i b.0 b.1 in
      let one : digest_string x.digests (low_of self d) ≡ digest_string l (low_of self d) = f.apart _ _ (contained w.hashed _ x.string) (contained w.hashed _ first.string) (x.state ∙ sym first.state) in
      let same : x.digests ≡ l = digests_apart part_count (low_of self d) x.digests l first.short x.are first.are one in
      let s : i ≡ 0 + i = omega arith in
      (b.0, subst (λ (k : ℕ). part_held self d k ≡ Some b.0) s b.1, x.listed ∙ ap (λ (y : List Bytes). string_at y i) same, x.hashed) in
      let all : AreFound w.hashed l (filter_map (part_held self d) (range_with_len 0 (length l))) = found_all w.hashed (part_held self d) l 0 each in
      let are : filter_map (part_held self d) (range_with_len 0 (length l)) ≡ parts = ap (λ (n : ℕ). filter_map (part_held self d) (range_with_len 0 n)) first.are.0 ∙ sym rests.0 in
      let digests : part_digests parts ≡ l = subst (λ (y : List Bytes). part_digests y ≡ l) are all.digests_are in
      let place : pos ≡ low_of self d = adds.0 in
      let short = first.short in
      let above = adds.1 in
      record {
        place = place;
        above = omega (arith, above);
        short = omega (arith, place, short);
        many = ap length digests ∙ first.are.0;
        state = carry2 (λ (a : List Bytes) (n : ℕ). sha256 (digest_string a n) ≡ (stable_of self d).state) (part_digests parts) l pos (low_of self d) digests place first.state;
        string = carry2 (λ (a : List Bytes) (n : ℕ). In w.hashed (digest_string a n)) (part_digests parts) l pos (low_of self d) digests place first.string;
        hashed = subst (λ (y : List Bytes). AllByRecursion (In w.hashed) y) are all.hashed_all;
      }
