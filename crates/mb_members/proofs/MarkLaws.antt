-- What was made stays made, so where nothing was forged nothing is.
use Rattle.std.proofs.Common.{◌≡◌, ℕ, zero, suc, ◌+◌, ◌-◌, ◌≤◌, Bool, true, false, List, [], ◌∷◌, ◌++◌, length, map, replicate, take, Option, Some, None, Ok, IfSome, arith, refl, sym, ap, subst, ◌∙◌, inl, inr, append_assoc}
use Rattle.std.specs.Prelude.{fold, option_map, slice_get, ◌⊎◌}
use Rattle.std.proofs.lemmas.List.{append-nil}
use Rattle.std.proofs.lemmas.Bool.{cases_eq}
use Rattle.std.proofs.lemmas.Option.{same_Some}
use Rattle.mb_base.specs.Shapes.{Bytes}
use Rattle.mb_parts.specs.Bares.{bare_bytes}
use Rattle.mb_msg.specs.declared.message.Message.{Message}
use Rattle.mb_msg.specs.declared.stamped.Stamped.{Stamped}
use Rattle.mb_msg.specs.AsStamped.{stamped_digest}
use Rattle.mb_msg.specs.Fits.{Fits}
use Rattle.mb_msg.specs.Signed.{covered}
use Rattle.mb_msg.specs.Reading.{message_of}
use Rattle.mb_msg.specs.Spelling.{spelling}
use Rattle.mb_msg.specs.Stamps.{as_stamped, bare_of}
use Rattle.mb_msg.proofs.Messages.{message_again}
use Rattle.mb_model.specs.Sending.{Letter}
use Rattle.mb_model.specs.Members.{In}
use Rattle.mb_model.proofs.Members.{contained}
use Rattle.mb_model.proofs.ShapesFit.{shape_fits}
use Rattle.mb_schedule.specs.declared.schedule.Schedule.{Schedule}
use Rattle.mb_world_model.specs.World.{World as WorldState, update, numbered, read, stamps, is_tagged_message, with_tagged}
use Rattle.mb_model.proofs.Lists.{get_more}
use Rattle.mb_world_model.specs.Forged.{IsUnforged}
use Rattle.mb_forgery.specs.Checks.{MadeMore}
use Rattle.mb_forgery.proofs.CleanLaws.{clean_stays}
use Rattle.mb_replica.specs.declared.told.Said.{Said}
use Rattle.mb_replica.specs.Told.{KnowsBytes, as_outgoing, said_of}
use Rattle.mb_members.specs.declared.marks.Mark.{Mark}
use Rattle.mb_members.specs.Marks.{IsBodyAt, IsCleanAt, IsMarkAt, AreMarks, AreSentClean, MarkedMore, lengthened, sent_mark, mark_at, unmarked}
use Rattle.mb_members.specs.Stamps.{FitsWhereStamped, IsReadable}
use Rattle.mb_members.proofs.ListLaws.{update_here, update_there}

-- ---- worlds of which one goes on from the other

-- All that was made in the first world was made in the second, and its messages have the same numbers.
pub record GoesOn (s : Schedule) (x z : WorldState) : Type 0 where
  pub made : MadeMore s x z
  pub pool : (more : List Bytes) × (z.pool ≡ x.pool ++ more)

-- Nothing more was made.
pub goes_same : (s : Schedule) (x z : WorldState) → ((h : ℕ) → stamps s z h ≡ stamps s x h) → z.asked ≡ x.asked → z.tagged ≡ x.tagged → z.pool ≡ x.pool → GoesOn s x z
goes_same s x z stamped asked tagged pool = record {
  made = record { stamps = λ h. ([], stamped h); asked = ([], asked); tagged = ([], tagged) };
  pool = ([], pool ∙ sym (append-nil x.pool));
}

pub goes_still : (s : Schedule) (x : WorldState) → GoesOn s x x
goes_still s x = goes_same s x x (λ h. refl) refl refl refl

-- One host stamped more.
pub longer_stamps : (f k : ℕ → List Bytes) (h : ℕ) (front : List Bytes) → ((g : ℕ) → update f h (front ++ f h) g ≡ k g) → (g : ℕ) → (more : List Bytes) × (k g ≡ more ++ f g)
longer_stamps f k h front is g = elim (cases_eq g h) [
  | inl same ↦ (front, sym (is g) ∙ rw (same, update_here f h (front ++ f h)) refl)
  | inr other ↦ ([], sym (is g) ∙ update_there f h g (front ++ f h) other)
]

tagged_one : (letter : Letter) (b : Bool) (t : List Message) → is_tagged_message letter.says ≡ b → (more : List Message) × (with_tagged t letter ≡ more ++ t)
tagged_one letter true t is = (letter.says ∷ [], rw is refl)
tagged_one letter false t is = ([], rw is refl)

-- Of what a host sent some was tagged.
pub tagged_more : (letters : List Letter) (t : List Message) → (more : List Message) × (fold with_tagged t letters ≡ more ++ t)
tagged_more [] t = ([], refl)
tagged_more (letter ∷ letters) t =
    let one = tagged_one letter (is_tagged_message letter.says) t refl in
    let rest = tagged_more letters (with_tagged t letter) in
    (rest.0 ++ one.0, rest.1 ∙ (ap (λ (l : List Message). rest.0 ++ l) one.1 ∙ sym (append_assoc rest.0 one.0 t)))

-- ---- marks

numbered_more : (pool more : List Bytes) (n : ℕ) (bytes : Bytes) → numbered pool n ≡ Some bytes → numbered (pool ++ more) n ≡ Some bytes
numbered_more pool more zero bytes e = absurd cc
numbered_more pool more (suc n) bytes e = get_more pool more n bytes e

if_some_more : (o : Option Bytes) (P Q : Bytes → Type 0) → ((b : Bytes) → P b → Q b) → IfSome o P → IfSome o Q
if_some_more None P Q more h = tt
if_some_more (Some b) P Q more h = more b h

-- What each mark says stays so.
pub still_marked : (s : Schedule) (x z : WorldState) (marks : List Mark) → GoesOn s x z → AreMarks s x marks → AreMarks s z marks
still_marked s x z marks on are = λ n.
    let before = are n in
    record {
      clean = λ is.
          let one = before.clean is in
          record {
            bytes = one.bytes;
            made = ap (λ (p : List Bytes). numbered p n) on.pool.1 ∙ numbered_more x.pool on.pool.0 n one.bytes one.made;
            clean = λ m reads. clean_stays s x z m on.made (one.clean m reads);
          };
      body = if_some_more (mark_at marks n).body (IsBodyAt s x n) (IsBodyAt s z n) (λ b one. record {
        bytes = one.bytes;
        made = ap (λ (p : List Bytes). numbered p n) on.pool.1 ∙ numbered_more x.pool on.pool.0 n one.bytes one.made;
        knows = one.knows;
      }) before.body;
    }

none_at : (n : ℕ) → mark_at [] n ≡ unmarked
none_at zero = refl
none_at (suc n) = refl

nothing_said : (s : Schedule) (x : WorldState) (n : ℕ) → IsMarkAt s x n unmarked
nothing_said s x n = record { clean = λ e. absurd cc; body = tt }

pub none_marked : (s : Schedule) (x : WorldState) (marks : List Mark) → marks ≡ [] → AreMarks s x marks
none_marked s x marks none = λ n. rw (none, none_at n) (nothing_said s x n)

-- One message more was looked through.
pub marked_more : (s : Schedule) (x : WorldState) (old new : List Mark) (number : ℕ) → ((n : ℕ) → MarkedMore old new number n) → IsCleanAt s x number → AreMarks s x old → AreMarks s x new
marked_more s x old new number more is are = λ n. record {
  clean = λ marked. elim ((more n).clean marked) [
    | inl same ↦ rw same is
    | inr before ↦ (are n).clean before
  ];
  body = rw (more n).body (are n).body;
}

-- ---- what a correct host sent

-- Of what it sent, as bytes with what was stamped.
abbrev sent_marks : List Letter → List Mark
sent_marks letters = map sent_mark (map as_outgoing letters)

-- A mark in front of so many is as it was, and one behind them that of what was sent.
abbrev Either : List Mark → List Mark → ℕ → ℕ → Mark → Type 0
Either marks behind count n mark = (mark ≡ mark_at marks n) ⊎ ((k : ℕ) × ((n ≡ count + k) × (mark ≡ mark_at behind k)))

-- so many marks, however many there are
one_of : (marks behind : List Mark) (count j n : ℕ) → count ≤ length marks + j → Either marks behind count n (mark_at (take count (marks ++ replicate j unmarked) ++ behind) n)
one_of marks behind zero j n le = inr (n, (omega arith, refl))
one_of [] behind (suc c) zero n le = absurd (omega (arith, le))
one_of [] behind (suc c) (suc j) zero le = inl refl
one_of [] behind (suc c) (suc j) (suc n) le = elim (one_of [] behind c j n (omega (arith, le))) [
  | inl is ↦ inl (is ∙ none_at n)
  | inr (k, (at, is)) ↦ inr (k, (omega (arith, at), is))
]
one_of (m ∷ marks) behind (suc c) j zero le = inl refl
one_of (m ∷ marks) behind (suc c) j (suc n) le = elim (one_of marks behind c j n (omega (arith, le))) [
  | inl is ↦ inl is
  | inr (k, (at, is)) ↦ inr (k, (omega (arith, at), is))
]

behind_at : (pool more : List Bytes) (n k : ℕ) → n ≡ length pool + k → slice_get (pool ++ more) n ≡ slice_get more k
behind_at [] more n k e = let same : n ≡ k = omega (arith, e) in ap (λ (i : ℕ). slice_get more i) same
behind_at (b ∷ pool) more zero k e = absurd (omega (arith, e))
behind_at (b ∷ pool) more (suc n) k e = behind_at pool more n k (omega (arith, e))

module _ (s : Schedule) where
  same_message : (m read : Message) → Fits s.shape m → message_of s.shape (spelling m) ≡ Ok read → m ≡ read
  same_message m read fits reads =
      let first : message_of s.shape (spelling m) ≡ Ok m = message_again s.shape (shape_fits s.shape) m fits in
      cc

  -- The digest of what was stamped is that of the message that its bytes are.
  knows_sent : (m : Message) → IfSome (covered m) (λ bare. Fits s.shape m) → (st : Stamped) → as_stamped m ≡ Some st → KnowsBytes s.shape (Some (stamped_digest st)) (spelling m)
  knows_sent m readable st is = λ read reads other stamped.
      let fits : Fits s.shape m = subst (λ (o : Option Stamped). IfSome (option_map (λ (k : Stamped). bare_bytes (bare_of k)) o) (λ bare. Fits s.shape m)) is readable in
      ap stamped_digest (same_Some st other (sym is ∙ (ap as_stamped (same_message m read fits reads) ∙ stamped)))

  -- what is said of one letter
  one_said : (x : WorldState) (n : ℕ) (l : Letter) → IsReadable s.shape l → ((m : Message) → read s (spelling l.says) ≡ Some m → IsUnforged s x m) → numbered x.pool n ≡ Some (spelling l.says) → IsMarkAt s x n (sent_mark (as_outgoing l))
  one_said x n l readable clean made = record { clean = λ e. record { bytes = spelling l.says; made = made; clean = clean }; body = body_said (as_stamped l.says) refl } where
    body_said : (o : Option Stamped) → as_stamped l.says ≡ o → IfSome (option_map (λ (t : Said). t.body) (option_map said_of o)) (IsBodyAt s x n)
    body_said None e = tt
    body_said (Some st) e = record { bytes = spelling l.says; made = made; knows = knows_sent l.says readable st e }

  letters_said : (x : WorldState) (count : ℕ) (letters : List Letter) → FitsWhereStamped s.shape letters → ((l : Letter) (m : Message) → In letters l → read s (spelling l.says) ≡ Some m → IsUnforged s x m)
      → ((k : ℕ) (b : Bytes) → slice_get (map (λ (l : Letter). spelling l.says) letters) k ≡ Some b → numbered x.pool (count + k) ≡ Some b) → (k : ℕ) → IsMarkAt s x (count + k) (mark_at (sent_marks letters) k)
  letters_said x count [] fit clean there k = rw (none_at k) (nothing_said s x (count + k))
  letters_said x count (l ∷ letters) fit clean there zero = one_said x (count + 0) l fit.0 (λ m reads. clean l m (inl refl) reads) (there 0 (spelling l.says) refl)
  letters_said x count (l ∷ letters) fit clean there (suc k) =
      let step : (count + 1) + k ≡ count + suc k = omega arith in
      subst (λ (n : ℕ). IsMarkAt s x n (mark_at (sent_marks letters) k)) step
      (letters_said x (count + 1) letters fit.1 (λ o m i reads. clean o m (inr i) reads) (λ i b at. subst (λ (n : ℕ). numbered x.pool n ≡ Some b) (omega arith) (there (suc i) b at)) k)

  -- The marks behind a step.
  pub marks_sent : (x z : WorldState) (marks new : List Mark) (letters : List Letter) (count : ℕ) → AreMarks s x marks → GoesOn s x z → FitsWhereStamped s.shape letters → AreSentClean s z letters → z.pool ≡ x.pool ++ map (λ (l : Letter). spelling l.says) letters
      → count ≡ length x.pool + 1 → new ≡ take count (lengthened marks count) ++ sent_marks letters → AreMarks s z new
  marks_sent x z marks new letters count are on fit clean pool many is = λ n.
      let still = still_marked s x z marks on are in
      rw is (elim (one_of marks (sent_marks letters) count (count - length marks) n (omega arith)) [
        | inl same ↦ rw same (still n)
        | inr (k, (at, same)) ↦ rw (same, at) (letters_said z count letters fit (λ l m i reads. clean l m (contained letters l i) reads) (λ i b there. in_pool i b there) k)
      ]) where
        in_pool : (i : ℕ) (b : Bytes) → slice_get (map (λ (l : Letter). spelling l.says) letters) i ≡ Some b → numbered z.pool (count + i) ≡ Some b
        in_pool i b there =
            let at : count + i ≡ suc (length x.pool + i) = omega (arith, many) in
            rw (at, pool) (behind_at x.pool (map (λ (l : Letter). spelling l.says) letters) (length x.pool + i) i refl ∙ there)
