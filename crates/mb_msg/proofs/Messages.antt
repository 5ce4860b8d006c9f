-- Whole messages: what is read is spelled so and fits, and what fits and is spelled so is read.
use Rattle.std.proofs.Common.{◌≡◌, ◌≢◌, ℕ, ◌+◌, ◌^◌, ◌<◌, ◌≤◌, Bool, true, false, cond, ltb, eqb, List, [], ◌++◌, length, Result, Ok, Err, refl, sym, ap, subst, ◌∙◌, arith, lit<, lit≤}
use Rattle.std.specs.Prelude.{IfOk}
use Rattle.std.specs.Int.{w8}
use Rattle.std.proofs.lemmas.Bool.{eqb-true, eqb-false, ne_eqb, le-ltb, ltb-false}
use Rattle.std.proofs.lemmas.List.{append-nil, nil_from_length}
use Rattle.mb_base.specs.declared.limits.TheConstants.{MESSAGE_LIMIT}
use Rattle.mb_base.specs.declared.shape.Shape.{Shape}
use Rattle.mb_base.specs.Shapes.{Bytes, IsShape}
use Rattle.mb_base.specs.Spelling.{number, IsBytes}
use Rattle.mb_base.specs.Reading.{Cursor, cursor, number_in, map_at}
use Rattle.mb_base.proofs.Laws.{IsField, Takes, bind_ok, ok_is, allow_ok, made_field, within_field, wide8}
use Rattle.mb_parts.specs.declared.fault.Undecoded.{Undecoded}
use Rattle.mb_parts.specs.Decoded.{DecodesWhole}
use Rattle.mb_parts.specs.Reading.{digest_at}
use Rattle.mb_parts.proofs.Fields.{digest_field, request_field}
use Rattle.mb_msg.specs.declared.stamped.Stamped.{Stamped}
use Rattle.mb_msg.specs.declared.stamped.Stamped.TheVariants as stamped
use Rattle.mb_msg.specs.declared.message.Message.{Message}
use Rattle.mb_msg.specs.declared.message.Message.TheVariants as message
use Rattle.mb_msg.specs.Spelling.{kind_of, behind_kind, stamped_kind, behind_stamped_kind, spelling}
use Rattle.mb_msg.specs.Stamps.{as_message}
use Rattle.mb_msg.specs.Fits.{FitsStamped, FitsStop, FitsFields, Fits}
use Rattle.mb_msg.specs.Reading.{is_stamped_kind, stop_of, behind_stamped_kind_at, behind_kind_at, message_of}
use Rattle.mb_msg.proofs.KindFields.{reply_field, wish_field, resend_field, fetch_field, state_field}
use Rattle.mb_msg.proofs.Dispatch.{Yields, made_yields, cond_yields, made_again, stamped_yields, stamped_again, log_field}

kind_within : (m : Message) → (1 ≤ kind_of m) × (kind_of m < 17)
kind_within (message.Request m) = (lit≤ tt, lit< tt)
kind_within (message.Prepare m) = (lit≤ tt, lit< tt)
kind_within (message.Commit m) = (lit≤ tt, lit< tt)
kind_within (message.Reply m) = (lit≤ tt, lit< tt)
kind_within (message.Checkpoint m) = (lit≤ tt, lit< tt)
kind_within (message.ReqViewChange m) = (lit≤ tt, lit< tt)
kind_within (message.ViewChange m) = (lit≤ tt, lit< tt)
kind_within (message.NewView m) = (lit≤ tt, lit< tt)
kind_within (message.Enter m) = (lit≤ tt, lit< tt)
kind_within (message.Open m) = (lit≤ tt, lit< tt)
kind_within (message.Join m) = (lit≤ tt, lit< tt)
kind_within (message.Resend m) = (lit≤ tt, lit< tt)
kind_within (message.Log m) = (lit≤ tt, lit< tt)
kind_within (message.Fetch m) = (lit≤ tt, lit< tt)
kind_within (message.State m) = (lit≤ tt, lit< tt)
kind_within (message.Stop m) = (lit≤ tt, lit< tt)

-- ---- a stamped message as a message

as_message_kind : (m : Stamped) → kind_of (as_message m) ≡ stamped_kind m
as_message_kind (stamped.Prepare m) = refl
as_message_kind (stamped.Commit m) = refl
as_message_kind (stamped.Checkpoint m) = refl
as_message_kind (stamped.ViewChange m) = refl
as_message_kind (stamped.NewView m) = refl
as_message_kind (stamped.Enter m) = refl
as_message_kind (stamped.Open m) = refl
as_message_kind (stamped.Join m) = refl

as_message_bytes : (m : Stamped) → behind_kind (as_message m) ≡ behind_stamped_kind m
as_message_bytes (stamped.Prepare m) = refl
as_message_bytes (stamped.Commit m) = refl
as_message_bytes (stamped.Checkpoint m) = refl
as_message_bytes (stamped.ViewChange m) = refl
as_message_bytes (stamped.NewView m) = refl
as_message_bytes (stamped.Enter m) = refl
as_message_bytes (stamped.Open m) = refl
as_message_bytes (stamped.Join m) = refl

pub as_message_fits : (s : Shape) (m : Stamped) → FitsStamped s m → FitsFields s (as_message m)
as_message_fits s (stamped.Prepare m) f = f
as_message_fits s (stamped.Commit m) f = f
as_message_fits s (stamped.Checkpoint m) f = f
as_message_fits s (stamped.ViewChange m) f = f
as_message_fits s (stamped.NewView m) f = f
as_message_fits s (stamped.Enter m) f = f
as_message_fits s (stamped.Open m) f = f
as_message_fits s (stamped.Join m) f = f

-- the kinds that are left when those that are not stamped are tried
stamped_left : (k : ℕ) → 1 ≤ k → k < 17 → k ≢ 1 → k ≢ 4 → k ≢ 6 → k ≢ 12 → k ≢ 13 → k ≢ 14 → k ≢ 15 → k ≢ 16 → ((2 ≤ k) × (k ≤ 11)) × (is_stamped_kind k ≡ true)
stamped_left k some lt n1 n4 n6 n12 n13 n14 n15 n16 = ((omega (arith, some, n1), omega (arith, lt, n12, n13, n14, n15, n16)), rw (ne_eqb k 4 n4, ne_eqb k 6 n6) refl)

module _ (s : Shape) (h : IsShape s) where
  stop_field : IsField (map_at stop_of digest_at) (λ m. m.tag) FitsStop
  stop_field = made_field stop_of _ _ _ (λ m. m.tag) FitsStop (λ d f. refl) (λ d f. f) (λ m f. (m.tag, refl, f)) digest_field

  abbrev KindFits : ℕ → Message → Type 0
  KindFits kind m = (kind_of m ≡ kind) × FitsFields s m

  stamped_made : (k : ℕ) → ((2 ≤ k) × (k ≤ 11)) × (is_stamped_kind k ≡ true) → Yields (map_at as_message (behind_stamped_kind_at s k)) behind_kind (KindFits k)
  stamped_made k ok c y t fits e =
      let a = bind_ok (behind_stamped_kind_at s k c) (λ v. Ok (as_message v.0, v.1)) (y, t) e in
      let p = stamped_yields s h k ok c a.0.0 a.0.1 fits a.1 in
      let made : Takes c (behind_kind (as_message a.0.0)) a.0.1 = subst (λ (u : Bytes). Takes c u a.0.1) (sym (as_message_bytes a.0.0)) p.0 in
      subst (λ (z : Message × Cursor). Takes c (behind_kind z.0) z.1 × KindFits k z.0) (ok_is (as_message a.0.0, a.0.1) (y, t) a.2) (made, (as_message_kind a.0.0 ∙ p.1.0, as_message_fits s a.0.0 p.1.1))

  kind_yields : (k : ℕ) → 1 ≤ k → k < 17 → Yields (behind_kind_at s k) behind_kind (KindFits k)
  unfolding behind_kind_at
  kind_yields k some lt =
      let F = behind_kind in
      let P = KindFits k in
      cond_yields (eqb k 1) _ _ F P (λ e. made_yields message.Request _ _ _ F P (λ x. refl) (λ x f. (sym (eqb-true k 1 e), f)) (request_field s h)) (λ n1.
      cond_yields (eqb k 4) _ _ F P (λ e. made_yields message.Reply _ _ _ F P (λ x. refl) (λ x f. (sym (eqb-true k 4 e), f)) (reply_field s h)) (λ n4.
      cond_yields (eqb k 6) _ _ F P (λ e. made_yields message.ReqViewChange _ _ _ F P (λ x. refl) (λ x f. (sym (eqb-true k 6 e), f)) (wish_field s h)) (λ n6.
      cond_yields (eqb k 12) _ _ F P (λ e. made_yields message.Resend _ _ _ F P (λ x. refl) (λ x f. (sym (eqb-true k 12 e), f)) (resend_field s h)) (λ n12.
      cond_yields (eqb k 13) _ _ F P (λ e. made_yields message.Log _ _ _ F P (λ x. refl) (λ x f. (sym (eqb-true k 13 e), f)) (log_field s h)) (λ n13.
      cond_yields (eqb k 14) _ _ F P (λ e. made_yields message.Fetch _ _ _ F P (λ x. refl) (λ x f. (sym (eqb-true k 14 e), f)) (fetch_field s h)) (λ n14.
      cond_yields (eqb k 15) _ _ F P (λ e. made_yields message.State _ _ _ F P (λ x. refl) (λ x f. (sym (eqb-true k 15 e), f)) (state_field s h)) (λ n15.
      cond_yields (eqb k 16) _ _ F P (λ e. made_yields message.Stop _ _ _ F P (λ x. refl) (λ x f. (sym (eqb-true k 16 e), f)) stop_field) (λ n16.
      stamped_made k (stamped_left k some lt (eqb-false k 1 n1) (eqb-false k 4 n4) (eqb-false k 6 n6) (eqb-false k 12 n12) (eqb-false k 13 n13) (eqb-false k 14 n14) (eqb-false k 15 n15) (eqb-false k 16 n16))))))))))

  abbrev ReadsKind : Message → ℕ → Bytes → Type 0
  ReadsKind m at rest = behind_kind_at s (kind_of m) (cursor at (behind_kind m ++ rest)) ≡ Ok (m, cursor (at + length (behind_kind m)) rest)

  kind_again : (m : Message) (at : ℕ) (rest : Bytes) → FitsFields s m → ReadsKind m at rest
  unfolding behind_kind_at
  kind_again (message.Request m) at rest f = made_again message.Request _ _ _ (request_field s h) m at rest f
  kind_again (message.Reply m) at rest f = made_again message.Reply _ _ _ (reply_field s h) m at rest f
  kind_again (message.ReqViewChange m) at rest f = made_again message.ReqViewChange _ _ _ (wish_field s h) m at rest f
  kind_again (message.Resend m) at rest f = made_again message.Resend _ _ _ (resend_field s h) m at rest f
  kind_again (message.Log m) at rest f = made_again message.Log _ _ _ (log_field s h) m at rest f
  kind_again (message.Fetch m) at rest f = made_again message.Fetch _ _ _ (fetch_field s h) m at rest f
  kind_again (message.State m) at rest f = made_again message.State _ _ _ (state_field s h) m at rest f
  kind_again (message.Stop m) at rest f = made_again message.Stop _ _ _ stop_field m at rest f
  kind_again (message.Prepare m) at rest f = rw (stamped_again s h (stamped.Prepare m) at rest f) refl
  kind_again (message.Commit m) at rest f = rw (stamped_again s h (stamped.Commit m) at rest f) refl
  kind_again (message.Checkpoint m) at rest f = rw (stamped_again s h (stamped.Checkpoint m) at rest f) refl
  kind_again (message.ViewChange m) at rest f = rw (stamped_again s h (stamped.ViewChange m) at rest f) refl
  kind_again (message.NewView m) at rest f = rw (stamped_again s h (stamped.NewView m) at rest f) refl
  kind_again (message.Enter m) at rest f = rw (stamped_again s h (stamped.Enter m) at rest f) refl
  kind_again (message.Open m) at rest f = rw (stamped_again s h (stamped.Open m) at rest f) refl
  kind_again (message.Join m) at rest f = rw (stamped_again s h (stamped.Join m) at rest f) refl

-- ---- all of the bytes

passed : {A : Type 0} (b : Bool) (d : ℕ) (r : Result A ℕ) (y : A) → cond b (Err d) r ≡ Ok y → (b ≡ false) × (r ≡ Ok y)
passed true d r y e = absurd cc
passed false d r y e = (refl, e)

-- what is read fits and is spelled so
pub message_takes : (s : Shape) → IsShape s → (bytes : Bytes) (m : Message) → IsBytes bytes → message_of s bytes ≡ Ok m → Fits s m × (bytes ≡ spelling m)
unfolding message_of spelling
message_takes s shape bytes m fits e =
    let read = passed (ltb MESSAGE_LIMIT (length bytes)) _ _ m e in
    let few : length bytes ≤ MESSAGE_LIMIT = ltb-false _ _ read.0 in
    let a = bind_ok (number_in w8 1 16 (cursor 0 bytes)) _ m read.1 in
    let b = bind_ok (behind_kind_at s a.0.0 a.0.1) _ m a.2 in
    let g = allow_ok (eqb (length b.0.1.rest) 0) b.0.1.at b.0.0 m b.2 in
    let k = (within_field w8 (2 ^ 8) 1 17 (lit≤ tt) (lit≤ tt) wide8).takes (cursor 0 bytes) a.0.0 a.0.1 fits a.1 in
    let p = kind_yields s shape a.0.0 k.1.0 k.1.1 a.0.1 b.0.0 b.0.1 k.0.rest_fits b.1 in
    let nothing : b.0.1.rest ≡ [] = nil_from_length b.0.1.rest (eqb-true _ _ g.0) in
    let rest : a.0.1.rest ≡ behind_kind b.0.0 = p.0.parts ∙ ap (λ (x : List ℕ). behind_kind b.0.0 ++ x) nothing ∙ append-nil (behind_kind b.0.0) in
    let whole : bytes ≡ number w8 (kind_of b.0.0) ++ behind_kind b.0.0 = k.0.parts ∙ ap (λ (x : List ℕ). number w8 a.0.0 ++ x) rest ∙ ap (λ (n : ℕ). number w8 n ++ behind_kind b.0.0) (sym p.1.0) in
    subst (λ (v : Message). Fits s v × (bytes ≡ number w8 (kind_of v) ++ behind_kind v)) g.1 (record { fields = p.1.1; size = subst (λ (u : Bytes). length u ≤ MESSAGE_LIMIT) whole few }, whole)

-- what fits and is spelled so is read
pub message_again : (s : Shape) → IsShape s → (m : Message) → Fits s m → message_of s (spelling m) ≡ Ok m
unfolding message_of spelling
message_again s shape m f =
    let short : ltb MESSAGE_LIMIT (length (number w8 (kind_of m) ++ behind_kind m)) ≡ false = le-ltb _ _ f.size in
    let text = behind_kind m in
    let at = 0 + length (number w8 (kind_of m)) in
    let kind = (within_field w8 (2 ^ 8) 1 17 (lit≤ tt) (lit≤ tt) wide8).again (kind_of m) 0 text (kind_within m) in
    let part : behind_kind_at s (kind_of m) (cursor at text) ≡ Ok (m, cursor (at + length text) []) =
    ap (λ (x : List ℕ). behind_kind_at s (kind_of m) (cursor at x)) (sym (append-nil text)) ∙ kind_again s shape m at [] f.fields in
    rw (short, kind, part) refl

-- ---- what `decode` gives

pub is_found : (s : Shape) → IsShape s → (bytes : Bytes) (r : Result Message Undecoded) → IsBytes bytes → DecodesWhole r (message_of s bytes) → IfOk r (λ m. Fits s m × (bytes ≡ spelling m))
is_found s shape bytes (Ok m) fits given = message_takes s shape bytes m fits given
is_found s shape bytes (Err e) fits given = tt

pub is_only : (s : Shape) → IsShape s → (bytes : Bytes) (r : Result Message Undecoded) (m : Message) → DecodesWhole r (message_of s bytes) → Fits s m → bytes ≡ spelling m → DecodesWhole r (Ok m)
is_only s shape bytes r m given f e = subst (DecodesWhole r) (ap (message_of s) e ∙ message_again s shape m f) given
