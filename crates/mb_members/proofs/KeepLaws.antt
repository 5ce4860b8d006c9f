-- What is kept in the ledger, and what a step adds to it.
use Rattle.std.proofs.Common.{◌≡◌, ℕ, false, true, List, [], ◌∷◌, ◌++◌, map, Some, Result, OnOk, refl, sym, ap, subst, inl, inr, ◌∙◌}
use Rattle.std.specs.Prelude.{reverse, filter_map}
use Rattle.std.specs.List.{AllByRecursion}
use Rattle.std.proofs.lemmas.Bool.{cases_eq, cases_Bool}
use Rattle.mb_base.specs.Spelling.{IsBytes}
use Rattle.mb_base.specs.Shapes.{Bytes}
use Rattle.mb_base.specs.declared.shape.Shape.{Shape}
use Rattle.mb_parts.specs.declared.request.Request.{Request}
use Rattle.mb_msg.specs.declared.message.Message.{Message}
use Rattle.mb_msg.specs.Spelling.{spelling}
use Rattle.mb_model.specs.Histories.{History, stamped as all_stamped}
use Rattle.mb_model.specs.Sending.{Letter, Progress}
use Rattle.mb_schedule.specs.declared.schedule.Schedule.{Schedule}
use Rattle.mb_schedule.specs.Limits.{is_faulty}
use Rattle.mb_replica.specs.declared.told.Outgoing.{Outgoing}
use Rattle.mb_replica.specs.Told.{as_outgoing}
use Rattle.mb_world_model.specs.World.{World as WorldState, nothing_happened, FaultyStamp, update, stamps, partway}
use Rattle.mb_forgery.specs.declared.ledger.Ledger.{Ledger}
use Rattle.mb_forgery.specs.Ledgers.{Keeps, KeepsWorld}
use Rattle.mb_members.specs.Stamps.{bare_in, bares_of}
use Rattle.mb_members.proofs.ListLaws.{update_here, update_there}
use Rattle.mb_members.proofs.MarkLaws.{GoesOn, longer_stamps, tagged_more}

-- It speaks of the size of its own system.
pub keeps_then : (s : Shape) (l n : Ledger) (f g : ℕ → List Bytes) (a b : List Request) (t u : List Message) → Keeps s l f a t → (Keeps l.shape l f a t → Keeps l.shape n g b u) → Keeps s n g b u
keeps_then s l n f g a b t u k step =
    subst (λ (z : Shape). Keeps z n g b u) k.shape (step (subst (λ (z : Shape). Keeps z l f a t) (sym k.shape) k))

-- the same, where a call made it so
pub keeps_ok : {T E : Type 0} (r : Result T E) (s : Shape) (l n : Ledger) (f g : ℕ → List Bytes) (a b : List Request) (t u : List Message) → Keeps s l f a t → (Keeps l.shape l f a t → OnOk r (Keeps l.shape n g b u)) → OnOk r (Keeps s n g b u)
keeps_ok r s l n f g a b t u k step =
    subst (λ (z : Shape). OnOk r (Keeps z n g b u)) k.shape (step (subst (λ (z : Shape). Keeps z l f a t) (sym k.shape) k))

pub keeps_same : (s : Shape) (l : Ledger) (f g : ℕ → List Bytes) (a : List Request) (t : List Message) → ((h : ℕ) → f h ≡ g h) → Keeps s l f a t → Keeps s l g a t
keeps_same s l f g a t same k = record { shape = k.shape; bytes = λ h lt. subst (AllByRecursion IsBytes) (same h) (k.bytes h lt); stamps = λ h lt. k.stamps h lt ∙ ap Some (same h); fits = k.fits; asked = k.asked; tagged = k.tagged }

-- the stamps of all, where a correct host has a longer history
pub correct_stamps : (s : Schedule) (x : WorldState) (h : ℕ) (d : History) (more : List Bytes) → is_faulty s h ≡ false → bares_of d ≡ more ++ bares_of (x.histories h)
    → (g : ℕ) → update (stamps s x) h (more ++ stamps s x h) g ≡ stamps s (record x { histories = update x.histories h d }) g
correct_stamps s x h d more correct longer g = elim (cases_eq g h) [
  | inl same ↦ rw (same, update_here (stamps s x) h (more ++ stamps s x h), correct, update_here x.histories h d) (sym longer)
  | inr other ↦ rw (update_there (stamps s x) h g (more ++ stamps s x h) other, update_there x.histories h g d other) refl
]

-- where a faulty one stamped once more
pub faulty_stamps_more : (s : Schedule) (x : WorldState) (h : ℕ) (f : FaultyStamp) → is_faulty s h ≡ true
    → (g : ℕ) → update (stamps s x) h (f.bare ∷ stamps s x h) g ≡ stamps s (record x { faulty_stamps = update x.faulty_stamps h (f ∷ x.faulty_stamps h) }) g
faulty_stamps_more s x h f faulty g = elim (cases_eq g h) [
  | inl same ↦ rw (same, update_here (stamps s x) h (f.bare ∷ stamps s x h), faulty, update_here x.faulty_stamps h (f ∷ x.faulty_stamps h)) refl
  | inr other ↦ rw (update_there (stamps s x) h g (f.bare ∷ stamps s x h) other, update_there x.faulty_stamps h g (f ∷ x.faulty_stamps h) other) refl
]

-- Before the first event nothing was stamped.
nothing_stamped : (s : Schedule) (h : ℕ) → [] ≡ stamps s nothing_happened h
unfolding all_stamped
nothing_stamped s h = elim (cases_Bool (is_faulty s h)) [ inl faulty ↦ rw faulty refl | inr correct ↦ rw correct refl ]

pub nothing_kept : (s : Schedule) (l : Ledger) → Keeps s.shape l (λ h. []) [] [] → KeepsWorld s l nothing_happened
nothing_kept s l k = keeps_same s.shape l (λ h. []) (stamps s nothing_happened) [] [] (nothing_stamped s) k

-- ---- a host's step

pub sent_bytes : (letters : List Letter) → map (λ (m : Outgoing). m.bytes) (map as_outgoing letters) ≡ map (λ (letter : Letter). spelling letter.says) letters
sent_bytes [] = refl
sent_bytes (l ∷ ls) = ap (λ (bs : List Bytes). spelling l.says ∷ bs) (sent_bytes ls)

-- The world where a host has got so far in its step goes on from the one before.
pub went_partway : (s : Schedule) (x : WorldState) (h : ℕ) (left : Progress) → is_faulty s h ≡ false → bares_of left.history ≡ reverse (filter_map bare_in left.sent) ++ bares_of (x.histories h) → GoesOn s x (partway s h left x)
went_partway s x h left correct longer =
    let more : List Bytes = reverse (filter_map bare_in left.sent) in
    record {
      made = record {
        stamps = longer_stamps (stamps s x) (stamps s (record x { histories = update x.histories h left.history })) h more (correct_stamps s x h left.history more correct longer);
        asked = ([], refl);
        tagged = tagged_more left.sent x.tagged;
      };
      pool = (map (λ (letter : Letter). spelling letter.says) left.sent, refl);
    }
