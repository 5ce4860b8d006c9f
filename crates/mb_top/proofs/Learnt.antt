-- What is learnt of what a correct host was given is the line of the world.
use Rattle.std.proofs.Common.{◌≡◌, ℕ, List, [], ◌∷◌, ◌++◌, sym, subst, ◌∙◌, arith, inl, inr}
use Rattle.std.specs.Prelude.{Contains}
use Rattle.std.specs.Io.KnownBytes.{Appends}
use Rattle.mb_base.specs.Shapes.{Bytes}
use Rattle.mb_base.specs.declared.shape.Shape.{Shape}
use Rattle.mb_kv.specs.Pairs.{Pairs}
use Rattle.mb_msg.specs.declared.event.Slot.{Slot}
use Rattle.mb_model.specs.Members.{In}
use Rattle.mb_model.proofs.Members.{in_contained, contained}
use Rattle.mb_schedule.specs.declared.schedule.Schedule.{Schedule}
use Rattle.mb_sched.specs.declared.records.Record.{Record}
use Rattle.mb_world_model.specs.World.{World}
use Rattle.mb_edge.specs.Seen.{Device}
use Rattle.mb_answer.specs.Devices.{Says, said, failed, cut_short, answered, unread, starved}
use Rattle.mb_answer.specs.Records.{IsRecordText, AnswersText, too_long, bad_line, right}
use Rattle.mb_answer.proofs.RecordTexts.{same_record}
use Rattle.mb_reviewing.specs.Given.{given_in}
use Rattle.mb_reviewing.specs.Learning.{machine, snapshots, Learns as LearnsOf, AnswersLearn, learnt, differs, LearnsFrom}
use Rattle.mb_reviewing.proofs.LearntAll.{learnt_whole}
use Rattle.mb_learn.specs.Proved.{IsLearnt, DiffersAt}
use Rattle.mb_learned.specs.Learned.{WereGiven, LearnsRightly}
use Rattle.mb_learned.proofs.Learned.{learners_agree}
use Rattle.mb_top.specs.Blames.{IsRecordIn}
use Rattle.mb_top.specs.Histories.{WritesLine, LearnsTheLine}
use Rattle.mb_top.specs.Systems.{system_of, world}
use Rattle.mb_top.proofs.KvService.{kv_is_service}

module _ (s : Schedule) (w : World) (r : Record) (of : IsRecordIn s w r) (rightly : LearnsRightly (system_of s) w r.id) (old new : Device) where
  -- At status 0 the line is written, and status 10 isn't told.
  abbrev Right : ℕ → Type 0
  Right status = (status ≡ 0 → WritesLine s w r old new) × ¬ (status ≡ 10)

  none_told : (status n : ℕ) → status ≡ n → ¬ (n ≡ 0) → ¬ (n ≡ 10) → Right status
  none_told status n is zero ten = (λ told. absurd (zero (sym is ∙ told)), λ told. ten (sym is ∙ told))

  -- what is learnt in the words of the schedule
  moved : (taken : List Bytes) (slots : List Slot) → LearnsOf r taken slots → IsLearnt s.shape machine [] s.secret taken slots
  moved taken slots is =
      subst (λ (x : Shape). IsLearnt x machine [] s.secret taken slots) of.shape (subst (λ (k : Bytes). IsLearnt r.config.shape machine [] k taken slots) of.secret is)

  moved_difference : (taken : List Bytes) (slots : List Slot) (position : ℕ) (certified : Bytes) → DiffersAt r.config.shape machine [] snapshots r.config.secret taken slots position certified
      → DiffersAt s.shape machine [] snapshots s.secret taken slots position certified
  moved_difference taken slots position certified is =
      subst (λ (x : Shape). DiffersAt x machine [] snapshots s.secret taken slots position certified) of.shape
      (subst (λ (k : Bytes). DiffersAt r.config.shape machine [] snapshots k taken slots position certified) of.secret is)

  all_given : WereGiven (system_of s) w r.id (given_in r.entries)
  all_given bytes there = subst (λ (l : List Bytes). Contains l bytes) of.given there

  first_given : (before : List Bytes) (last : Bytes) (later : List Bytes) → given_in r.entries ≡ before ++ last ∷ later → WereGiven (system_of s) w r.id (before ++ last ∷ [])
  first_given before last later place bytes there =
      all_given bytes (subst (λ (l : List Bytes). Contains l bytes) (sym place) (contained (before ++ last ∷ later) bytes (more before (in_contained (before ++ last ∷ []) bytes there)))) where
        more : (l : List Bytes) → In (l ++ last ∷ []) bytes → In (l ++ last ∷ later) bytes
        more [] (inl is) = inl is
        more [] (inr none) = absurd none
        more (y ∷ l) (inl is) = inl is
        more (y ∷ l) (inr i) = inr (more l i)

  said_right : (wanted : ℕ) (out : Bytes) (status : ℕ) → AnswersLearn r wanted out → Says wanted out status old new → Right status
  said_right wanted out status (learnt slots took zero text_is) (said same grew) =
      let learns = moved (given_in r.entries) slots (learnt_whole r (given_in r.entries) slots took) in (
        λ told. record {
          slots = slots;
          written = subst (λ (b : Bytes). Appends old.bytes new.bytes b) text_is grew;
          took = took;
          committed = rightly.committed (given_in r.entries) slots all_given learns;
          line = rightly.one_history (given_in r.entries) slots all_given learns;
        },
        λ ten. absurd (omega (arith, same, zero, ten)),
      )
  said_right wanted out status (differs slots position certified first ten text_is) (said same grew) =
      absurd (rightly.same_states (first.before ++ first.last ∷ []) slots position certified (first_given first.before first.last first.later first.place)
      (moved (first.before ++ first.last ∷ []) slots first.learnt) (moved_difference (first.before ++ first.last ∷ []) slots position certified first.differs))
  said_right wanted out status a (failed six rose part) = none_told status 6 six (λ e. absurd (omega (arith, e))) (λ e. absurd (omega (arith, e)))
  said_right wanted out status a (cut_short four part) = none_told status 4 four (λ e. absurd (omega (arith, e))) (λ e. absurd (omega (arith, e)))

  refused : (wanted : ℕ) (out : Bytes) (status : ℕ) → wanted ≡ 2 → Says wanted out status old new → Right status
  refused wanted out status two (said same grew) = none_told status 2 (same ∙ two) (λ e. absurd (omega (arith, e))) (λ e. absurd (omega (arith, e)))
  refused wanted out status two (failed six rose part) = none_told status 6 six (λ e. absurd (omega (arith, e))) (λ e. absurd (omega (arith, e)))
  refused wanted out status two (cut_short four part) = none_told status 4 four (λ e. absurd (omega (arith, e))) (λ e. absurd (omega (arith, e)))

  text_right : (text : Bytes) (wanted : ℕ) (out : Bytes) (status : ℕ) → IsRecordText text r → AnswersText AnswersLearn text wanted out → Says wanted out status old new → Right status
  text_right text wanted out status is (too_long long two text_is) says = refused wanted out status two says
  text_right text wanted out status is (bad_line n short fault two text_is) says = refused wanted out status two says
  text_right text wanted out status is (right q is' answers) says = said_right wanted out status (subst (λ (x : Record). AnswersLearn x wanted out) (sym (same_record text r q is is')) answers) says

  learns_right : (text : Bytes) (status : ℕ) (source source' : Device) → IsRecordText text r → LearnsFrom text status source source' old new → Right status
  learns_right text status source source' is (answered wanted out a says) = text_right text wanted out status is a says
  learns_right text status source source' is (unread five rose kept) = none_told status 5 five (λ e. absurd (omega (arith, e))) (λ e. absurd (omega (arith, e)))
  learns_right text status source source' is (starved four kept) = none_told status 4 four (λ e. absurd (omega (arith, e))) (λ e. absurd (omega (arith, e)))

pub learns_the_line : (text : Bytes) (r : Record) (status : ℕ) (source source' old new : Device) → IsRecordText text r → LearnsFrom text status source source' old new → LearnsTheLine status r old new
learns_the_line text r status source source' old new is told = λ s fits k le none apart of.
    learns_right s (world s k) r of (learners_agree Pairs (system_of s) kv_is_service fits k le none r.id of.correct apart) old new text status source source' is told
