-- What a faulty host shows, from the last message back: the forms of a kept log, each with allowed values.
use Rattle.std.proofs.Common.{◌≡◌, ℕ, suc, ◌≤◌, Bool, true, false, ◌||◌, List, [], ◌∷◌, ◌++◌, length, map, reverse, None, refl, sym, ap, subst, ◌∙◌, append_assoc, arith, lit<, lit≤}
use Rattle.std.specs.List.{AllByRecursion}
use Rattle.std.proofs.Math.Nat.{zero-mod}
use Rattle.std.proofs.lemmas.List.{append-nil, reverse-append, map-append, length-reverse}
use Rattle.mb_base.specs.declared.shape.Shape.{Shape}
use Rattle.mb_base.specs.Shapes.{interval}
use Rattle.mb_parts.specs.declared.certificates.StableMember.{StableMember}
use Rattle.mb_parts.specs.Fits.{IsPosition, FitsStable}
use Rattle.mb_msg.specs.declared.change.ChangeBody.{ChangeBody}
use Rattle.mb_msg.specs.declared.stamped.Shown.{Shown}
use Rattle.mb_msg.specs.declared.stamped.Stamped.{Stamped}
use Rattle.mb_msg.specs.declared.stamped.Stamped.TheVariants as stamped
use Rattle.mb_msg.specs.declared.message.Body.TheVariants.{Whole}
use Rattle.mb_msg.specs.Fits.{FitsShown, FitsStamped, shown_limit}
use Rattle.mb_model.specs.OwnLog.{behind, behind_opening, behind_change, kept_forms, as_shown}
use Rattle.mb_model.specs.Plans.{no_base}
use Rattle.mb_host_laws.proofs.KeptForms.{opening_fits, shown_fits}
use Rattle.mb_model.proofs.Lists.{all_reverse}
use Rattle.mb_forgery.specs.Contents.{placeholder, unstamped, change_of, is_opening, entry_of, entries_of}

-- ---- one message

-- Behind a VIEW_CHANGE nothing is shown otherwise.
change_same : (b : Bool) (x : Stamped) → entry_of b (behind_change x) ≡ entry_of b x
change_same true (stamped.Prepare m) = refl
change_same true (stamped.Commit m) = refl
change_same true (stamped.Checkpoint m) = refl
change_same true (stamped.ViewChange m) = refl
change_same true (stamped.NewView m) = refl
change_same true (stamped.Enter m) = refl
change_same true (stamped.Open m) = refl
change_same true (stamped.Join m) = refl
change_same false (stamped.Prepare m) = refl
change_same false (stamped.Commit m) = refl
change_same false (stamped.Checkpoint m) = refl
change_same false (stamped.ViewChange m) = refl
change_same false (stamped.NewView m) = refl
change_same false (stamped.Enter m) = refl
change_same false (stamped.Open m) = refl
change_same false (stamped.Join m) = refl

opened_twice : (x : Stamped) → as_shown (behind_opening (behind_opening x)) ≡ as_shown (behind_opening x)
opened_twice (stamped.Prepare m) = refl
opened_twice (stamped.Commit m) = refl
opened_twice (stamped.Checkpoint m) = refl
opened_twice (stamped.ViewChange m) = refl
opened_twice (stamped.NewView m) = refl
opened_twice (stamped.Enter m) = refl
opened_twice (stamped.Open m) = refl
opened_twice (stamped.Join m) = refl

-- behind an opening
opening_same : (b : Bool) (x : Stamped) → entry_of b (behind_opening x) ≡ entry_of (b || true) x
opening_same true x = opened_twice x
opening_same false x = refl

-- behind what takes no body
others_same : (b : Bool) (x : Stamped) → entry_of b x ≡ entry_of (b || false) x
others_same true x = refl
others_same false x = refl

behind_same : (b : Bool) (m x : Stamped) → entry_of b (behind m x) ≡ entry_of (b || is_opening m) x
behind_same b (stamped.Open m) x = opening_same b x
behind_same b (stamped.Join m) x = opening_same b x
behind_same b (stamped.ViewChange m) x = change_same b x ∙ others_same b x
behind_same b (stamped.Prepare m) x = others_same b x
behind_same b (stamped.Commit m) x = others_same b x
behind_same b (stamped.Checkpoint m) x = others_same b x
behind_same b (stamped.NewView m) x = others_same b x
behind_same b (stamped.Enter m) x = others_same b x

-- ---- all of them

map_twice : (b : Bool) (m : Stamped) (l : List Stamped) → map (entry_of b) (map (behind m) l) ≡ map (entry_of (b || is_opening m)) l
map_twice b m [] = refl
map_twice b m (x ∷ l) =
    ap (λ (e : Shown). e ∷ map (entry_of b) (map (behind m) l)) (behind_same b m x)
    ∙ ap (λ (t : List Shown). entry_of (b || is_opening m) x ∷ t) (map_twice b m l)

forms_entries : (b : Bool) (l : List Stamped) → map (entry_of b) (kept_forms l) ≡ entries_of b l
unfolding kept_forms entries_of
forms_entries b [] = refl
forms_entries b (m ∷ l) = ap (λ (t : List Shown). entry_of b m ∷ t) (map_twice b m (kept_forms l) ∙ forms_entries (b || is_opening m) l)

as_entries : (l : List Stamped) → map as_shown l ≡ map (entry_of false) l
as_entries [] = refl
as_entries (x ∷ l) = ap (λ (t : List Shown). as_shown x ∷ t) (as_entries l)

map_reversed : {A B : Type 0} (f : A → B) (l : List A) → map f (reverse l) ≡ reverse (map f l)
map_reversed f [] = refl
map_reversed f (x ∷ l) =
    ap (map f) (reverse-append (x ∷ []) l)
    ∙ map-append f (reverse l) (x ∷ [])
    ∙ ap (λ t. t ++ f x ∷ []) (map_reversed f l)
    ∙ sym (reverse-append (f x ∷ []) (map f l))

-- The kept log is shown so.
pub kept_entries : (l : List Stamped) → reverse (entries_of false l) ≡ map as_shown (reverse (kept_forms l))
kept_entries l = ap reverse (sym (as_entries (kept_forms l) ∙ forms_entries false l)) ∙ sym (map_reversed as_shown (kept_forms l))

-- One more message is taken from the end.
pub next_entry : (b : Bool) (m : Stamped) (l : List Stamped) → entries_of b (reverse (l ++ m ∷ [])) ≡ entry_of b m ∷ entries_of (b || is_opening m) (reverse l)
unfolding entries_of
next_entry b m l = ap (entries_of b) (reverse-append l (m ∷ []))

-- So the loop goes on.
pub one_more : (b next : Bool) (m : Stamped) (left messages : List Stamped) (before after all : List Shown) (e : Shown)
    → messages ≡ left ++ m ∷ [] → e ≡ entry_of b m → after ≡ before ++ e ∷ [] → next ≡ (b || is_opening m)
    → before ++ entries_of b (reverse messages) ≡ all → after ++ entries_of next (reverse left) ≡ all
one_more b next m left messages before after all e split is pushed flag written =
    let rest : List Shown = entries_of (b || is_opening m) (reverse left) in
    ap (λ (n : Bool). after ++ entries_of n (reverse left)) flag
    ∙ ap (λ (a : List Shown). a ++ rest) pushed
    ∙ append_assoc before (e ∷ []) rest
    ∙ ap (λ (x : Shown). before ++ x ∷ rest) is
    ∙ ap (λ (t : List Shown). before ++ t) (sym (ap (λ (ms : List Stamped). entries_of b (reverse ms)) split ∙ next_entry b m left))
    ∙ written

pub opened_before : (b x : Bool) → b ≡ true → b ≡ (b || x)
opened_before true x e = refl
opened_before false x e = absurd cc

pub opened_here : (b x r : Bool) → r ≡ x → b ≡ false → r ≡ (b || x)
opened_here true x r e f = absurd cc
opened_here false x r e f = e

-- And so it ends.
pub all_written : (b : Bool) (messages : List Stamped) (written all : List Shown) → length messages ≡ 0 → written ++ entries_of b (reverse messages) ≡ all → written ≡ all
unfolding entries_of
all_written b [] written all none e = sym (append-nil written) ∙ e
all_written b (m ∷ l) written all none e = absurd (omega (arith, none))

-- ---- how many, and with which values

length_entries : (b : Bool) (l : List Stamped) → length (entries_of b l) ≡ length l
unfolding entries_of
length_entries b [] = refl
length_entries b (m ∷ l) = ap (λ (n : ℕ). suc n) (length_entries (b || is_opening m) l)

pub entries_count : (messages : List Stamped) → length (reverse (entries_of false (reverse messages))) ≡ length messages
entries_count messages = length-reverse (entries_of false (reverse messages)) ∙ length_entries false (reverse messages) ∙ length-reverse messages

-- the VIEW_CHANGE that shows this
abbrev pub showing : ℕ → ChangeBody → Stamped
showing view body = stamped.ViewChange (record { view = view; body = Whole body; ui = placeholder })

-- that of these entries, whose stable certificate has these members
abbrev pub made : ℕ → List StableMember → List Shown → Stamped
made view members entries = showing view (record { floor = None; stable = record no_base { members = members }; entries = entries })

module _ (s : Shape) where
  entry_fits : (b : Bool) (m : Stamped) → FitsStamped s m → FitsShown s (entry_of b m)
  entry_fits true m f = shown_fits s (behind_opening m) (opening_fits s m f)
  entry_fits false m f = shown_fits s m f

  all_entries : (b : Bool) (l : List Stamped) → AllByRecursion (FitsStamped s) l → AllByRecursion (FitsShown s) (entries_of b l)
  unfolding entries_of
  all_entries b [] a = tt
  all_entries b (m ∷ l) a = (entry_fits b m a.0, all_entries (b || is_opening m) l a.1)

  pub entries_fit : (messages : List Stamped) → AllByRecursion (FitsStamped s) messages → AllByRecursion (FitsShown s) (reverse (entries_of false (reverse messages)))
  entries_fit messages a = all_reverse (FitsShown s) (entries_of false (reverse messages)) (all_entries false (reverse messages) (all_reverse (FitsStamped s) messages a))

  -- The last one's values are allowed, and those of the others.
  pub last_fits : (l : List Stamped) (m : Stamped) → AllByRecursion (FitsStamped s) (l ++ m ∷ []) → AllByRecursion (FitsStamped s) l × FitsStamped s m
  last_fits [] m a = (tt, a.0)
  last_fits (x ∷ l) m a = let b = last_fits l m a.1 in ((a.0, b.0), b.1)

  no_stable_fits : FitsStable s no_base
  no_stable_fits = record { pos = (lit< tt, zero-mod (interval s)); held = (refl, refl) }

  pub change_fits : (view : ℕ) (members : List StableMember) (entries : List Shown) (messages : List Stamped) → IsPosition view → AllByRecursion (FitsStamped s) messages → length messages ≤ shown_limit s
      → members ≡ [] → entries ≡ reverse (entries_of false (reverse messages)) → FitsStamped s (made view members entries)
  change_fits view members entries messages at fits count none is =
      let same : length entries ≡ length messages = ap length is ∙ entries_count messages in
      record {
        view = at;
        body = record {
          floor = tt;
          stable = subst (λ (l : List StableMember). FitsStable s (record no_base { members = l })) (sym none) no_stable_fits;
          count = omega (arith, same, count);
          entries = subst (AllByRecursion (FitsShown s)) (sym is) (entries_fit messages fits);
        };
        ui = record { host = omega arith; counter = (lit≤ tt, lit< tt); cert = refl };
      }

pub change_is : (view : ℕ) (members : List StableMember) (entries : List Shown) (messages : List Stamped) → members ≡ [] → entries ≡ reverse (entries_of false (reverse messages))
    → made view members entries ≡ unstamped (change_of view (reverse messages))
change_is view members entries messages none is =
    ap (λ (l : List StableMember). made view l entries) none ∙ ap (made view []) (is ∙ kept_entries (reverse messages))
