-- What a disk in memory reads is one of its crash images.
use Rattle.std.specs.Prelude.{◌≡◌, ℕ, ◌+◌, ◌-◌, ◌<◌, max, List, [], ◌∷◌, ◌++◌, length, get_or, take, drop, replicate, Some, None, refl}
use Rattle.std.proofs.Common.{inl, inr, ◌∙◌, sym, ap, subst, arith, length-append, length-take, length-drop}
use Rattle.std.proofs.lemmas.List.{length-replicate, get_or_append_left, get_or-append_right, get_or-take, get_or-drop}
use Rattle.mb_base.specs.Shapes.{Bytes}
use Rattle.mb_edge.specs.declared.memory_disk.Done.{Done}
use Rattle.mb_edge.specs.declared.memory_disk.Done.TheVariants.{Written, Synced}
use Rattle.mb_edge.specs.Disks.{Content, settled, overwritten, after_write, IsOutside, IsImage, IsTorn, Moments, next}
use Rattle.mb_edge.specs.MemoryDisks.{after_done, moments_after, first_moment}

module _ (at : ℕ) (bytes old : Bytes) where
  abbrev front : Bytes
  front = take at old ++ replicate (at - length old) 0

  abbrev rest : Bytes
  rest = drop (at + length bytes) old

  length-front : length front ≡ at
  length-front = omega (arith, length-append (take at old) (replicate (at - length old) 0), length-take at old, length-replicate {A = ℕ} (at - length old) 0)

  pub length-overwritten : length (overwritten at bytes old) ≡ max (at + length bytes) (length old)
  length-overwritten = omega (arith, length-append front (bytes ++ rest), length-append bytes rest, length-drop (at + length bytes) old, length-front)

  -- the other bytes stay
  pub get_or-overwritten : (place : ℕ) → place < length old → IsOutside place (record { at = at; count = length bytes }) → get_or (overwritten at bytes old) place 0 ≡ get_or old place 0
  get_or-overwritten place lt (inl below) =
      get_or_append_left front (bytes ++ rest) 0 place (omega (arith, length-front, below))
      ∙ get_or_append_left (take at old) (replicate (at - length old) 0) 0 place (omega (arith, length-take at old, below, lt))
      ∙ get_or-take at old place 0 below
  get_or-overwritten place lt (inr above) =
      let back : at + length bytes + (place - at - length bytes) ≡ place = omega (arith, above) in
      get_or-append_right front (bytes ++ rest) at place 0 length-front (omega (arith, above))
      ∙ get_or-append_right bytes rest (length bytes) (place - at) 0 refl (omega (arith, above))
      ∙ get_or-drop (at + length bytes) old (place - at - length bytes) 0
      ∙ ap (λ (k : ℕ). get_or old k 0) back

pub settled_reads : (bytes : Bytes) → IsImage (settled bytes) bytes
settled_reads bytes = record { no_shorter = omega arith; no_longer = omega arith; stays = λ place lt outside. refl }

written_reads : (at : ℕ) (bytes : Bytes) (content : Content) → IsImage content content.reads → IsImage (after_write at bytes content) (overwritten at bytes content.reads)
written_reads at bytes content is =
    let len = length-overwritten at bytes content.reads in
    record {
      no_shorter = omega (arith, len, is.no_shorter);
      no_longer = omega (arith, len, is.no_longer);
      stays = λ place lt outside. get_or-overwritten at bytes content.reads place (omega (arith, lt, is.no_shorter)) outside.0 ∙ is.stays place lt outside.1;
    }

-- as many other bytes as were to be written
pub torn_reads : (at count : ℕ) (bytes old : Bytes) → length bytes ≡ count → IsTorn (record { at = at; count = count }) old (overwritten at bytes old)
torn_reads at count bytes old same =
    let len = length-overwritten at bytes old in
    record {
      no_shorter = omega (arith, len);
      no_longer = omega (arith, len, same);
      stays = λ place lt outside. get_or-overwritten at bytes old place lt (subst (λ (n : ℕ). IsOutside place (record { at = at; count = n })) (sym same) outside);
    }

after_reads : (content : Content) (done : Done) → IsImage content content.reads → IsImage (after_done content done) (after_done content done).reads
after_reads content (Written at bytes) is = written_reads at bytes content is
after_reads content Synced is = settled_reads content.reads

all_read : (moments : Moments) (done : List Done) → IsImage moments.now moments.now.reads → IsImage (moments_after moments done).now (moments_after moments done).now.reads
all_read moments [] is = is
all_read moments (first ∷ done) is = all_read (next moments (after_done moments.now first)) done (after_reads moments.now first is)

pub memory_reads : (bytes : Bytes) (done : List Done) → IsImage (moments_after (first_moment bytes) done).now (moments_after (first_moment bytes) done).now.reads
memory_reads bytes done = all_read (first_moment bytes) done (settled_reads bytes)

-- as a disk in memory tells it
pub image_told : (bytes : Bytes) (done : List Done) (moments : Moments) → Some (moments_after (first_moment bytes) done) ≡ Some moments → IsImage moments.now moments.now.reads
image_told bytes done moments is =
    let same : moments_after (first_moment bytes) done ≡ moments = cc in
    subst (λ (m : Moments). IsImage m.now m.now.reads) same (memory_reads bytes done)

-- of a disk that tells nothing
pub untold : (moments : Moments) → None ≡ Some moments → IsImage moments.now moments.now.reads
untold moments is = absurd cc
