-- First parts of what is sent.
use Rattle.std.proofs.Common.{◌≡◌, ℕ, List, [], ◌++◌, map, take, drop, refl, sym, ap, ◌∙◌, append_assoc, append-nil, Option, Err}
use Rattle.std.specs.Prelude.{Result}
use Rattle.std.proofs.lemmas.List.{take-append-drop, map-append}
use Rattle.mb_edge.specs.Told.{with_more}
use Rattle.mb_edge.proofs.ToldLemmas.{with_more-nil, with_more-append}
use Rattle.mb_node.specs.Sends.{Sends}
use Rattle.mb_node.specs.Outside.{IsFirstPart, SendsPart, Delivers}

pub part_none : {A : Type 0} (xs : List A) → IsFirstPart [] xs
part_none xs = record { rest = xs; joined = refl }

pub part_whole : {A : Type 0} (xs : List A) → IsFirstPart xs xs
part_whole xs = record { rest = []; joined = append-nil xs }

pub part_behind : {A : Type 0} (before xs ys : List A) → IsFirstPart xs ys → IsFirstPart (before ++ xs) (before ++ ys)
part_behind before xs ys p = record { rest = p.rest; joined = append_assoc before xs p.rest ∙ ap (λ (zs : List _). before ++ zs) p.joined }

pub part_before : {A : Type 0} (xs ys more : List A) → IsFirstPart xs ys → IsFirstPart xs (ys ++ more)
part_before xs ys more p = record { rest = p.rest ++ more; joined = sym (append_assoc xs p.rest more) ∙ ap (λ (zs : List _). zs ++ more) p.joined }

pub part_map : {A B : Type 0} (f : A → B) (xs : List A) (i : ℕ) → IsFirstPart (map f (take i xs)) (map f xs)
part_map f xs i = record { rest = map f (drop i xs); joined = sym (map-append f (take i xs) (drop i xs)) ∙ ap (map f) (take-append-drop i xs) }

-- nothing more was sent
pub sends_none : (all : Sends) (told : Option Sends) → SendsPart all told told
sends_none all told = record { part = []; first = part_none all; sent = sym (with_more-nil told) }

-- behind what was sent before
pub sends_behind : (before all : Sends) (old mid now : Option Sends) → mid ≡ with_more old before → SendsPart all mid now → SendsPart (before ++ all) old now
sends_behind before all old mid now is p = record {
  part = before ++ p.part;
  first = part_behind before p.part all p.first;
  sent = p.sent ∙ ap (λ (t : Option Sends). with_more t p.part) is ∙ with_more-append old before p.part;
}

pub sends_before : (all more : Sends) (old now : Option Sends) → SendsPart all old now → SendsPart (all ++ more) old now
sends_before all more old now p = record { part = p.part; first = part_before p.part all more p.first; sent = p.sent }

pub sent_both : (old mid now : Option Sends) (xs ys : Sends) → mid ≡ with_more old xs → now ≡ with_more mid ys → now ≡ with_more old (xs ++ ys)
sent_both old mid now xs ys a b = b ∙ ap (λ (t : Option Sends). with_more t ys) a ∙ with_more-append old xs ys

-- a call that failed
pub stopped : {E : Type 0} (all : Sends) (old now : Option Sends) (r : Result (Unit {0}) E) (e : E) → r ≡ Err e → SendsPart all old now → Delivers all old now r
stopped all old now r e is p = rw is p
