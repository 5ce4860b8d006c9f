-- Of a log that is shown: as many entries of a sort as messages, in whatever order, and a shown list put the other way round.
use Rattle.std.proofs.Common.{◌≡◌, ℕ, Bool, true, false, ◌||◌, cond, List, [], ◌∷◌, ◌++◌, refl, sym, ap, ◌∙◌, arith}
use Rattle.std.specs.Prelude.{map, reverse, count_by}
use Rattle.std.proofs.lemmas.List.{reverse-append}
use Rattle.std.proofs.lemmas.List.Sums.{sum_by-append, sum_by-cons}
use Rattle.mb_msg.specs.declared.stamped.Stamped.{Stamped as StampedMessage}
use Rattle.mb_msg.specs.declared.stamped.Stamped.TheVariants as stamped
use Rattle.mb_model.specs.UsableLogs.{is_normal_kind}
use Rattle.mb_model.specs.OwnLog.{is_normal, as_shown}
use Rattle.mb_host_laws.proofs.Cases.{map_append}
use Rattle.mb_justified.proofs.ShownForms.{shorten_where, opens, shown_forms}

pub mapped_reverse : {A B : Type 0} (g : A → B) (l : List A) → map g (reverse l) ≡ reverse (map g l)
mapped_reverse g [] = refl
mapped_reverse {A} {B} g (x ∷ l) =
    ap (λ (y : List A). map g y) (reverse-append (x ∷ []) l)
    ∙ map_append g (reverse l) (x ∷ [])
    ∙ ap (λ (y : List B). y ++ g x ∷ []) (mapped_reverse g l)
    ∙ sym (reverse-append (g x ∷ []) (map g l))

pub count_reverse : {A : Type 0} (t : A → Bool) (l : List A) → count_by t (reverse l) ≡ count_by t l
count_reverse t [] = refl
count_reverse {A} t (x ∷ l) =
    ap (λ (y : List A). count_by t y) (reverse-append (x ∷ []) l)
    ∙ omega (arith, sum_by-append (λ y. cond (t y) 1 0) (reverse l) (x ∷ []), count_reverse t l, sum_by-cons (λ y. cond (t y) 1 0) x l, sum_by-cons (λ y. cond (t y) 1 0) x [])

form_normal : (b : Bool) (m : StampedMessage) → is_normal_kind (shorten_where b (as_shown m)) ≡ is_normal m
form_normal true (stamped.Prepare m) = refl
form_normal true (stamped.Commit m) = refl
form_normal true (stamped.Checkpoint m) = refl
form_normal true (stamped.ViewChange m) = refl
form_normal true (stamped.NewView m) = refl
form_normal true (stamped.Enter m) = refl
form_normal true (stamped.Open m) = refl
form_normal true (stamped.Join m) = refl
form_normal false (stamped.Prepare m) = refl
form_normal false (stamped.Commit m) = refl
form_normal false (stamped.Checkpoint m) = refl
form_normal false (stamped.ViewChange m) = refl
form_normal false (stamped.NewView m) = refl
form_normal false (stamped.Enter m) = refl
form_normal false (stamped.Open m) = refl
form_normal false (stamped.Join m) = refl

-- As many entries of a sort are shown as there are messages of it.
pub forms_count : (t : Bool → Bool) (b : Bool) (l : List StampedMessage) → count_by (λ e. t (is_normal_kind e)) (shown_forms b l) ≡ count_by (λ m. t (is_normal m)) l
unfolding shown_forms
forms_count t b [] = refl
forms_count t b (m ∷ l) =
    omega (
      arith,
      sum_by-cons (λ e. cond (t (is_normal_kind e)) 1 0) (shorten_where b (as_shown m)) (shown_forms (b || opens m) l),
      sum_by-cons (λ y. cond (t (is_normal y)) 1 0) m l,
      forms_count t (b || opens m) l,
      ap {B = ℕ} (λ (x : Bool). cond (t x) 1 0) (form_normal b m),
    )
