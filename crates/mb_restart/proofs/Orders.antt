-- Why the record has to be on the disk before its gate is written, and the gate before the event is acknowledged.
use Rattle.std.proofs.Common.{◌≡◌, inl, inr, ℕ, ◌+◌, ◌≤◌, List, [], ◌∷◌, ◌++◌, length, get_or, drop, refl, sym, ap, ◌∙◌, arith, length-append}
use Rattle.std.proofs.lemmas.List.{drop_at, get_or_append_left}
use Rattle.mb_base.specs.Shapes.{Bytes}
use Rattle.mb_edge.specs.Disks.{Range, Content, settled, after_write, IsOutside, IsImage}
use Rattle.mb_msg.specs.declared.event.Event.{Event}
use Rattle.mb_journal.specs.Files.{record_text, entries}
use Rattle.mb_journal.specs.Keeping.{RestsAt, IsCut}
use Rattle.mb_restart.specs.Orders.{resting, staged, OneWriteLoses, NoSyncLoses, NoSecondSyncLoses}

-- ---- the gate alone

-- a crash keeps a gate of 1, and nothing that was to stand behind it
gate_alone : (head bytes : Bytes) (old : Content) → old.synced ≡ head ++ 0 ∷ [] → 1 ≤ length bytes → IsImage (after_write (length head) bytes old) (head ++ 1 ∷ [])
gate_alone head bytes old synced some =
    let before = ap length synced ∙ length-append head (0 ∷ []) in
    let after = length-append head (1 ∷ []) in
    record {
      no_shorter = omega (arith, before, after);
      no_longer = omega (arith, some, after);
      stays = λ place within outside. elim outside.0 [
        | inl front ↦ get_or_append_left head (1 ∷ []) 0 place front ∙ sym (get_or_append_left head (0 ∷ []) 0 place front) ∙ ap (λ (l : Bytes). get_or l place 0) (sym synced)
        | inr behind ↦ absurd (omega (arith, before, within, behind, some))
      ];
    }

gates_differ : (tail : Bytes) → ◌≡◌ {A = Bytes} (1 ∷ []) (0 ∷ tail) → ⊥
gates_differ tail is = let gates : ◌≡◌ {A = ℕ} 1 0 = cc in absurd (omega (arith, gates))

-- it is neither shut, nor does a record stand behind it
gate_is_broken : (header : Bytes) (events : List Event) (event : Event) → IsCut header events event ((header ++ entries events) ++ 1 ∷ []) → ⊥
gate_is_broken header events event (inl shut) =
    let head = header ++ entries events in
    gates_differ shut.tail (sym (drop_at head (1 ∷ []) (length head) refl) ∙ ap (drop (length head)) shut.file_is ∙ drop_at head (0 ∷ shut.tail) (length head) refl)
gate_is_broken header events event (inr whole) =
    let head = header ++ entries events in
    let behind = record_text event ++ 0 ∷ whole.tail in
    absurd (omega (arith, ap length whole.file_is, length-append head (1 ∷ []), length-append head (whole.gate ∷ behind), length-append (record_text event) (0 ∷ whole.tail)))

pub one_write_loses : OneWriteLoses
one_write_loses header events event =
    let head = header ++ entries events in
    record {
      image = head ++ 1 ∷ [];
      is = gate_alone head (1 ∷ staged event) (resting header events) refl (omega arith);
      broken = gate_is_broken header events event;
    }

pub no_sync_loses : NoSyncLoses
no_sync_loses header events event =
    let head = header ++ entries events in
    record {
      image = head ++ 1 ∷ [];
      is = gate_alone head (1 ∷ []) (after_write (length head + 1) (staged event) (resting header events)) refl (omega arith);
      broken = gate_is_broken header events event;
    }

-- ---- a gate that was not synced

unsynced : (range : Range) (older : List Range) (content : Content) (file : Bytes) → content.written ≡ range ∷ older → content ≡ settled file → ⊥
unsynced range older content file written rests = let none = sym written ∙ ap (λ (c : Content). c.written) rests in absurd cc

pub no_second_sync_loses : NoSecondSyncLoses
no_second_sync_loses header events event tail =
    let head = header ++ entries events in
    let file = head ++ 0 ∷ (record_text event ++ 0 ∷ tail) in
    let content = after_write (length head) (1 ∷ []) (settled file) in
    record {
      image = file;
      is = record { no_shorter = omega arith; no_longer = omega arith; stays = λ place within outside. refl };
      shut = record { tail = record_text event ++ 0 ∷ tail; file_is = refl };
      not_at_rest = λ end rests. unsynced (record { at = length head; count = 1 }) [] content _ refl rests.file;
    }
