-- The forms in which a log is shown, newest first: what stands before an opening is shortened, and nothing else.
--
-- A log is kept by shortening, at each opening and each VIEW_CHANGE, what is behind. Shown, a VIEW_CHANGE and a NEW_VIEW have no body anyway, so only
-- openings count, and it counts only whether there is one (`kept_shown`).
use Rattle.std.proofs.Common.{◌≡◌, ℕ, zero, suc, Bool, true, false, ◌||◌, List, [], ◌∷◌, length, refl, ap, ◌∙◌}
use Rattle.std.specs.Prelude.{map, take, if◌then◌else◌}
use Rattle.mb_parts.specs.Spelling.{batch_bytes}
use Rattle.mb_parts.specs.Bares.{Bare}
use Rattle.mb_msg.specs.declared.stamped.Shown.{Shown}
use Rattle.mb_msg.specs.declared.stamped.Shown.TheVariants as shown
use Rattle.mb_msg.specs.declared.stamped.Stamped.{Stamped as StampedMessage}
use Rattle.mb_msg.specs.declared.stamped.Stamped.TheVariants as stamped
use Rattle.mb_msg.specs.Spelling.{open_body_bytes}
use Rattle.mb_msg.specs.Stamps.{bare_of, bare_of_shown}
use Rattle.mb_model.specs.UsableLogs.{bares, is_opening_entry}
use Rattle.mb_model.specs.OwnLog.{shortened, behind, behind_opening, behind_change, kept_forms, as_shown}

-- a vote or an OPEN without its body
abbrev pub shorten : Shown → Shown
shorten (shown.Prepare m) = shown.Prepare (record m { body = shortened batch_bytes m.body })
shorten (shown.Commit m) = shown.Commit (record m { body = shortened batch_bytes m.body })
shorten (shown.Open m) = shown.Open (record m { body = shortened open_body_bytes m.body })
shorten e = e

abbrev pub shorten_where : Bool → Shown → Shown
shorten_where b e = if b then shorten e else e

abbrev pub opens : StampedMessage → Bool
opens m = is_opening_entry (as_shown m)

-- messages, newest first, as they are shown; the flag says that an opening is behind them
unfoldable pub shown_forms : Bool → List StampedMessage → List Shown
shown_forms b [] = []
shown_forms b (m ∷ l) = shorten_where b (as_shown m) ∷ shown_forms (b || opens m) l

-- ---- one step of keeping

opening_shown : (x : StampedMessage) → as_shown (behind_opening x) ≡ shorten (as_shown x)
opening_shown (stamped.Prepare m) = refl
opening_shown (stamped.Commit m) = refl
opening_shown (stamped.Checkpoint m) = refl
opening_shown (stamped.ViewChange m) = refl
opening_shown (stamped.NewView m) = refl
opening_shown (stamped.Enter m) = refl
opening_shown (stamped.Open m) = refl
opening_shown (stamped.Join m) = refl

change_shown : (x : StampedMessage) → as_shown (behind_change x) ≡ as_shown x
change_shown (stamped.Prepare m) = refl
change_shown (stamped.Commit m) = refl
change_shown (stamped.Checkpoint m) = refl
change_shown (stamped.ViewChange m) = refl
change_shown (stamped.NewView m) = refl
change_shown (stamped.Enter m) = refl
change_shown (stamped.Open m) = refl
change_shown (stamped.Join m) = refl

behind_shown : (m x : StampedMessage) → as_shown (behind m x) ≡ shorten_where (opens m) (as_shown x)
behind_shown (stamped.Prepare m) x = refl
behind_shown (stamped.Commit m) x = refl
behind_shown (stamped.Checkpoint m) x = refl
behind_shown (stamped.ViewChange m) x = change_shown x
behind_shown (stamped.NewView m) x = refl
behind_shown (stamped.Enter m) x = refl
behind_shown (stamped.Open m) x = opening_shown x
behind_shown (stamped.Join m) x = opening_shown x

shorten_twice : (e : Shown) → shorten (shorten e) ≡ shorten e
shorten_twice (shown.Prepare m) = refl
shorten_twice (shown.Commit m) = refl
shorten_twice (shown.Checkpoint m) = refl
shorten_twice (shown.ViewChange m) = refl
shorten_twice (shown.NewView m) = refl
shorten_twice (shown.Enter m) = refl
shorten_twice (shown.Open m) = refl
shorten_twice (shown.Join m) = refl

shorten_both : (a b : Bool) (e : Shown) → shorten_where a (shorten_where b e) ≡ shorten_where (b || a) e
shorten_both true true e = shorten_twice e
shorten_both true false e = refl
shorten_both false true e = refl
shorten_both false false e = refl

map_behind : (m : StampedMessage) (l : List StampedMessage) → map as_shown (map (behind m) l) ≡ map (shorten_where (opens m)) (map as_shown l)
map_behind m [] = refl
map_behind m (x ∷ l) = ap (λ (e : Shown). e ∷ map as_shown (map (behind m) l)) (behind_shown m x) ∙ ap (λ (t : List Shown). shorten_where (opens m) (as_shown x) ∷ t) (map_behind m l)

or_turn : (a b c : Bool) → ((b || c) || a) ≡ ((b || a) || c)
or_turn true true c = refl
or_turn false true c = refl
or_turn true false true = refl
or_turn true false false = refl
or_turn false false true = refl
or_turn false false false = refl

shown_behind : (a b : Bool) (l : List StampedMessage) → map (shorten_where a) (shown_forms b l) ≡ shown_forms (b || a) l
unfolding shown_forms
shown_behind a b [] = refl
shown_behind a b (m ∷ l) =
    ap (λ (e : Shown). e ∷ map (shorten_where a) (shown_forms (b || opens m) l)) (shorten_both a b (as_shown m))
    ∙ ap (λ (t : List Shown). shorten_where (b || a) (as_shown m) ∷ t) (shown_behind a (b || opens m) l ∙ ap (λ (c : Bool). shown_forms c l) (or_turn a b (opens m)))

-- ---- all of it

-- Kept as it is, a log is shown so.
pub kept_shown : (l : List StampedMessage) → map as_shown (kept_forms l) ≡ shown_forms false l
unfolding kept_forms shown_forms
kept_shown [] = refl
kept_shown (m ∷ l) = ap (λ (t : List Shown). as_shown m ∷ t) (map_behind m (kept_forms l) ∙ ap (map (shorten_where (opens m))) (kept_shown l) ∙ shown_behind (opens m) false l)

pub first_shown : (n : ℕ) (b : Bool) (l : List StampedMessage) → take n (shown_forms b l) ≡ shown_forms b (take n l)
unfolding shown_forms
first_shown zero b l = refl
first_shown (suc n) b [] = refl
first_shown (suc n) b (m ∷ l) = ap (λ (t : List Shown). shorten_where b (as_shown m) ∷ t) (first_shown n (b || opens m) l)

-- ---- what the forms leave as it is

shorten_bare : (e : Shown) → bare_of_shown (shorten e) ≡ bare_of_shown e
shorten_bare (shown.Prepare m) = refl
shorten_bare (shown.Commit m) = refl
shorten_bare (shown.Checkpoint m) = refl
shorten_bare (shown.ViewChange m) = refl
shorten_bare (shown.NewView m) = refl
shorten_bare (shown.Enter m) = refl
shorten_bare (shown.Open m) = refl
shorten_bare (shown.Join m) = refl

shown_bare : (m : StampedMessage) → bare_of_shown (as_shown m) ≡ bare_of m
shown_bare (stamped.Prepare m) = refl
shown_bare (stamped.Commit m) = refl
shown_bare (stamped.Checkpoint m) = refl
shown_bare (stamped.ViewChange m) = refl
shown_bare (stamped.NewView m) = refl
shown_bare (stamped.Enter m) = refl
shown_bare (stamped.Open m) = refl
shown_bare (stamped.Join m) = refl

pub form_bare : (b : Bool) (m : StampedMessage) → bare_of_shown (shorten_where b (as_shown m)) ≡ bare_of m
form_bare true m = shorten_bare (as_shown m) ∙ shown_bare m
form_bare false m = shown_bare m

-- What is shown says what was stamped.
pub forms_bare : (b : Bool) (l : List StampedMessage) → bares (shown_forms b l) ≡ map bare_of l
unfolding shown_forms
forms_bare b [] = refl
forms_bare b (m ∷ l) = ap (λ (x : Bare). x ∷ bares (shown_forms (b || opens m) l)) (form_bare b m) ∙ ap (λ (t : List Bare). bare_of m ∷ t) (forms_bare (b || opens m) l)

pub forms_length : (b : Bool) (l : List StampedMessage) → length (shown_forms b l) ≡ length l
unfolding shown_forms
forms_length b [] = refl
forms_length b (m ∷ l) = ap (λ (n : ℕ). suc n) (forms_length (b || opens m) l)
