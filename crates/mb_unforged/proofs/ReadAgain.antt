-- The bytes of a REPLY are read as a message that is spelled so, or not at all, also where the REPLY has no values of the grammar; and so it is with wishes and
-- REQUESTs. The bytes of other messages that aren't stamped are read as messages of the same kind.
use Rattle.std.proofs.Common.{◌≡◌, ℕ, zero, suc, ◌+◌, ◌-◌, ◌^◌, ◌<◌, ◌≤◌, ◌&&◌, Bool, true, false, cond, ltb, eqb, leb, [], ◌∷◌, ◌++◌, length, take, drop, inl, inr, Result, Ok, Err, refl, sym, ap, subst, ◌∙◌, arith, lit<, lit≤, length-append, append_assoc}
use Rattle.std.specs.List.{AllByRecursion}
use Rattle.std.specs.Int.{Width, w8, w16, w64, byte_len, from_be_bytes, to_be_bytes}
use Rattle.std.specs.Prelude.{nat_lt}
use Rattle.std.proofs.lemmas.Bool.{cases_Bool, eqb-true, le-ltb, ltb-false}
use Rattle.std.proofs.lemmas.List.{take_at, drop_at, take-append-drop, append-nil, nil_from_length, length-take}
use Rattle.mb_base.specs.Limits.{text_limit}
use Rattle.mb_base.specs.Shapes.{Bytes, IsShape, host_count, client_count}
use Rattle.mb_base.specs.Spelling.{IsBytes, number, text16}
use Rattle.mb_base.specs.Reading.{Cursor, cursor, Reads, bytes_at, number_at, number_in, pair_at, text16_at, text_in, map_at}
use Rattle.mb_base.specs.declared.shape.Shape.{Shape}
use Rattle.mb_base.specs.declared.limits.TheConstants.{MESSAGE_LIMIT}
use Rattle.mb_base.proofs.Laws.{IsWide, bind_ok, guard_ok, allow_ok, ok_is, within_field, wide8, wide16, wide64}
use Rattle.mb_parts.specs.declared.limits.TheConstants.{MAX_PLACE}
use Rattle.mb_parts.specs.declared.request.Request.{Request}
use Rattle.mb_parts.specs.Spelling.{request_bytes}
use Rattle.mb_parts.specs.Reading.{host_at, client_at, counter_at, place_at, position_at, digest_at, request_of_fields, request_at}
use Rattle.mb_msg.specs.declared.normal.Reply.{Reply}
use Rattle.mb_msg.specs.declared.change.ReqViewChange.{ReqViewChange}
use Rattle.mb_msg.specs.declared.transfer.Resend.{Resend}
use Rattle.mb_msg.specs.declared.transfer.Fetch.{Fetch}
use Rattle.mb_msg.specs.declared.transfer.StateMsg.{StateMsg}
use Rattle.mb_msg.specs.declared.message.Message.{Message}
use Rattle.mb_msg.specs.declared.message.Message.TheVariants as message
use Rattle.mb_msg.specs.Spelling.{reply_bytes, wish_bytes, spelling}
use Rattle.mb_msg.specs.Fits.{FitsFields}
use Rattle.mb_msg.proofs.Messages.{message_again}
use Rattle.mb_msg.specs.Reading.{reply_at, wish_at, resend_at, fetch_at, state_at, reply_of_fields, wish_of_fields, behind_kind_at, message_of}

-- ---- numbers

all_bytes : (l : Bytes) → AllByRecursion (λ (b : ℕ). b < 256) l → IsBytes l
all_bytes [] a i = omega arith
all_bytes (b ∷ l) a zero = a.0
all_bytes (b ∷ l) a (suc i) = all_bytes l a.1 i

-- a width whose numbers are spelled in bytes
record IsSpelled (w : Width) : Type 0 where
  limit : ℕ
  wide : IsWide w limit
  bytes : (n : ℕ) → IsBytes (number w n)

spelled8 : IsSpelled w8
unfolding number
spelled8 = record { limit = 2 ^ 8; wide = wide8; bytes = λ n. all_bytes (to_be_bytes w8 n) (omega arith, tt) }

spelled16 : IsSpelled w16
unfolding number
spelled16 = record { limit = 2 ^ 16; wide = wide16; bytes = λ n. all_bytes (to_be_bytes w16 n) (omega arith, (omega arith, tt)) }

spelled64 : IsSpelled w64
unfolding number
spelled64 = record {
  limit = 2 ^ 64;
  wide = wide64;
  bytes = λ n. all_bytes (to_be_bytes w64 n) (omega arith, (omega arith, (omega arith, (omega arith, (omega arith, (omega arith, (omega arith, (omega arith, tt))))))));
}

-- What is read at the head of this text is spelled so.
abbrev IsBack : {A : Type 0} → (Cursor → Reads A) → (A → Bytes) → Bytes → Type 0
IsBack {A} f tf text = (at : ℕ) (rest : Bytes) (v : A × Cursor) → f (cursor at (text ++ rest)) ≡ Ok v → (next : ℕ) × (v.1 ≡ cursor next rest) × (tf v.0 ≡ text)

-- What is read of the whole of this text is spelled so.
abbrev IsWhole : {A : Type 0} → (Cursor → Reads A) → (A → Bytes) → Bytes → Type 0
IsWhole {A} f tf text = (at : ℕ) (v : A × Cursor) → f (cursor at text) ≡ Ok v → v.1.rest ≡ [] → tf v.0 ≡ text

module _ (w : Width) (s : IsSpelled w) where
  number_now : (n at : ℕ) (rest : Bytes) → number_at w (cursor at (number w n ++ rest)) ≡ Ok (from_be_bytes w (number w n), cursor (at + byte_len w) rest)
  unfolding number
  number_now n at rest =
      let len : length (to_be_bytes w n) ≡ byte_len w = s.wide.len n in
      let long : ltb (length (to_be_bytes w n ++ rest)) (byte_len w) ≡ false = le-ltb _ _ (omega (arith, length-append (to_be_bytes w n) rest, len)) in
      rw (long, take_at (to_be_bytes w n) rest (byte_len w) len, drop_at (to_be_bytes w n) rest (byte_len w) len) refl

  again : (n : ℕ) → number w (from_be_bytes w (number w n)) ≡ number w n
  unfolding number
  again n = s.wide.back (to_be_bytes w n) (s.wide.len n) (s.bytes n)

  -- A number that is read is spelled as the one that was spelled.
  number_back : (low high n : ℕ) → IsBack (number_in w low high) (number w) (number w n)
  unfolding number_in
  number_back low high n at rest v e =
      let a = bind_ok (number_at w (cursor at (number w n ++ rest))) _ v e in
      let g = allow_ok (leb low a.0.0 && leb a.0.0 high) at a.0 v a.2 in
      let now : (from_be_bytes w (number w n), cursor (at + byte_len w) rest) ≡ v = ok_is (from_be_bytes w (number w n), cursor (at + byte_len w) rest) v (sym (number_now n at rest) ∙ a.1 ∙ ap (λ (y : ℕ × Cursor). Ok y) g.1) in (
        at + byte_len w,
        ap (λ (y : ℕ × Cursor). y.1) (sym now),
        ap (λ (y : ℕ × Cursor). number w y.0) (sym now) ∙ again n,
      )

-- ---- bytes

bytes_back : (count : ℕ) (s : Cursor) (v : Bytes × Cursor) → bytes_at count s ≡ Ok v → (count ≤ length s.rest) × ((v.0 ≡ take count s.rest) × (v.1.rest ≡ drop count s.rest))
bytes_back count s v e =
    let g = guard_ok (ltb (length s.rest) count) s.at (take count s.rest, record { at = s.at + count; rest = drop count s.rest }) v e in
    (ltb-false _ _ g.0, (ap (λ (y : Bytes × Cursor). y.0) (sym g.1), ap (λ (y : Bytes × Cursor). y.1.rest) (sym g.1)))

all_taken : (count : ℕ) (l : Bytes) → drop count l ≡ [] → take count l ≡ l
all_taken count l none = sym (append-nil (take count l)) ∙ ap (λ (y : Bytes). take count l ++ y) (sym none) ∙ take-append-drop count l

bytes_whole : (count : ℕ) (text : Bytes) → IsWhole (bytes_at count) (λ x. x) text
bytes_whole count text at v e none = let b = bytes_back count (cursor at text) v e in b.1.0 ∙ all_taken count text (sym b.1.1 ∙ none)

-- a text, and bytes behind it
text_back : (most : ℕ) (text behind : Bytes) (at : ℕ) (v : Bytes × Cursor) → text16_at most (cursor at (text16 text ++ behind)) ≡ Ok v → text16 v.0 ++ v.1.rest ≡ text16 text ++ behind
unfolding text_in
text_back most text behind at v e =
    let all : Bytes = text ++ behind in
    let regrouped = subst (λ (r : Bytes). text16_at most (cursor at r) ≡ Ok v) (append_assoc (number w16 (length text)) text behind) e in
    let a = bind_ok (number_in w16 0 most (cursor at (number w16 (length text) ++ all))) _ v regrouped in
    let n = number_back w16 spelled16 0 most (length text) at all a.0 a.1 in
    let b = bytes_back a.0.0 (cursor n.0 all) v (subst (λ (c : Cursor). bytes_at a.0.0 c ≡ Ok v) n.1 a.2) in
    let long : length v.0 ≡ a.0.0 = omega (arith, ap length b.1.0, b.0, length-take a.0.0 all) in
    let same : v.0 ++ v.1.rest ≡ all = ap (λ (y : Bytes). y ++ v.1.rest) b.1.0 ∙ ap (λ (y : Bytes). take a.0.0 all ++ y) b.1.1 ∙ take-append-drop a.0.0 all in
    append_assoc (number w16 (length v.0)) v.0 v.1.rest ∙ ap (λ (y : Bytes). number w16 (length v.0) ++ y) same ∙ ap (λ (y : Bytes). y ++ all) (ap (number w16) long ∙ n.2)
    ∙ sym (append_assoc (number w16 (length text)) text behind)

texts_whole : (most count : ℕ) (text behind : Bytes) → IsWhole (pair_at (text16_at most) (bytes_at count)) (λ p. text16 p.0 ++ p.1) (text16 text ++ behind)
texts_whole most count text behind at v e none =
    let a = bind_ok (text16_at most (cursor at (text16 text ++ behind))) _ v e in
    let b = bind_ok (bytes_at count a.0.1) _ v a.2 in
    let is : ((a.0.0, b.0.0), b.0.1) ≡ v = ok_is ((a.0.0, b.0.0), b.0.1) v b.2 in
    let ended : b.0.1.rest ≡ [] = ap (λ (y : (Bytes × Bytes) × Cursor). y.1.rest) is ∙ none in
    let last : b.0.0 ≡ a.0.1.rest = bytes_whole count a.0.1.rest a.0.1.at b.0 b.1 ended in
    ap (λ (y : (Bytes × Bytes) × Cursor). text16 y.0.0 ++ y.0.1) (sym is) ∙ ap (λ (y : Bytes). text16 a.0.0 ++ y) last ∙ text_back most text behind at a.0 a.1

-- ---- one after the other, and seen another way

pair_whole : {A B : Type 0} (f : Cursor → Reads A) (tf : A → Bytes) (x : Bytes) (g : Cursor → Reads B) (tg : B → Bytes) (y : Bytes) → IsBack f tf x → IsWhole g tg y → IsWhole (pair_at f g) (λ p. tf p.0 ++ tg p.1) (x ++ y)
pair_whole {A} {B} f tf x g tg y p q at v e none =
    let a = bind_ok (f (cursor at (x ++ y))) _ v e in
    let first = p at y a.0 a.1 in
    let b = bind_ok (g a.0.1) _ v a.2 in
    let is : ((a.0.0, b.0.0), b.0.1) ≡ v = ok_is ((a.0.0, b.0.0), b.0.1) v b.2 in
    let ended : b.0.1.rest ≡ [] = ap (λ (z : (A × B) × Cursor). z.1.rest) is ∙ none in
    let second : tg b.0.0 ≡ y = q first.0 b.0 (subst (λ (c : Cursor). g c ≡ Ok b.0) first.1 b.1) ended in
    ap (λ (z : (A × B) × Cursor). tf z.0.0 ++ tg z.0.1) (sym is) ∙ ap (λ (z : Bytes). z ++ tg b.0.0) first.2 ∙ ap (λ (z : Bytes). x ++ z) second

map_whole : {A B : Type 0} (make : A → B) (f : Cursor → Reads A) (tf : A → Bytes) (tg : B → Bytes) (x : Bytes) → ((a : A) → tg (make a) ≡ tf a) → IsWhole f tf x → IsWhole (map_at make f) tg x
map_whole {A} {B} make f tf tg x same p at v e none =
    let a = bind_ok (f (cursor at x)) (λ y. Ok (make y.0, y.1)) v e in
    let is : (make a.0.0, a.0.1) ≡ v = ok_is (make a.0.0, a.0.1) v a.2 in
    ap (λ (z : B × Cursor). tg z.0) (sym is) ∙ same a.0.0 ∙ p at a.0 a.1 (ap (λ (z : B × Cursor). z.1.rest) is ∙ none)

-- ---- a message behind its kind

passed : {A : Type 0} (b : Bool) (d : ℕ) (r : Result A ℕ) (y : A) → cond b (Err d) r ≡ Ok y → r ≡ Ok y
passed true d r y e = absurd cc
passed false d r y e = e

record KindRead (s : Shape) (kind : ℕ) (text : Bytes) (x : Message) : Type 0 where
  value : Message × Cursor
  read : behind_kind_at s kind (cursor (0 + length (number w8 kind)) text) ≡ Ok value
  ended : value.1.rest ≡ []
  is : value.0 ≡ x

kind_read : (s : Shape) (kind : ℕ) (text : Bytes) (x : Message) → (1 ≤ kind) × (kind < 17) → message_of s (number w8 kind ++ text) ≡ Ok x → KindRead s kind text x
unfolding message_of
kind_read s kind text x within e =
    let first : Reads ℕ = number_in w8 1 16 (cursor 0 (number w8 kind ++ text)) in
    let behind : Cursor = cursor (0 + length (number w8 kind)) text in
    let a = bind_ok first _ x (passed (ltb MESSAGE_LIMIT (length (number w8 kind ++ text))) _ _ x e) in
    let told : first ≡ Ok (kind, behind) = (within_field w8 (2 ^ 8) 1 17 (lit≤ tt) (lit≤ tt) wide8).again kind 0 text within in
    let b = bind_ok (behind_kind_at s a.0.0 a.0.1) _ x a.2 in
    let g = allow_ok (eqb (length b.0.1.rest) 0) b.0.1.at b.0.0 x b.2 in
    record {
      value = b.0;
      read = subst (λ (p : ℕ × Cursor). behind_kind_at s p.0 p.1 ≡ Ok b.0) (ok_is a.0 (kind, behind) (sym a.1 ∙ told)) b.1;
      ended = nil_from_length b.0.1.rest (eqb-true _ _ g.0);
      is = g.1;
    }

-- the part of which a message is made
record MadeOf {A : Type 0} (f : Cursor → Reads A) (make : A → Message) (c : Cursor) (v : Message × Cursor) : Type 0 where
  part : A × Cursor
  read : f c ≡ Ok part
  is : (make part.0, part.1) ≡ v

made_of : {A : Type 0} (f : Cursor → Reads A) (make : A → Message) (c : Cursor) (v : Message × Cursor) → map_at make f c ≡ Ok v → MadeOf f make c v
made_of f make c v e = let a = bind_ok (f c) (λ y. Ok (make y.0, y.1)) v e in record { part = a.0; read = a.1; is = ok_is (make a.0.0, a.0.1) v a.2 }

module _ (s : Shape) where
  -- the kind of a message, and the part behind it
  kind_again : {A : Type 0} (kind : ℕ) (f : Cursor → Reads A) (make : A → Message) (text : Bytes) → (1 ≤ kind) × (kind < 17) → ((c : Cursor) → behind_kind_at s kind c ≡ map_at make f c)
      → (x : Message) → message_of s (number w8 kind ++ text) ≡ Ok x → (v : A × Cursor) × (f (cursor (0 + length (number w8 kind)) text) ≡ Ok v) × (v.1.rest ≡ []) × (make v.0 ≡ x)
  kind_again kind f make text within same x e =
      let k = kind_read s kind text x within e in
      let a = made_of f make (cursor (0 + length (number w8 kind)) text) k.value (sym (same (cursor (0 + length (number w8 kind)) text)) ∙ k.read) in
      (a.part, a.read, ap (λ (v : Message × Cursor). v.1.rest) a.is ∙ k.ended, ap (λ (v : Message × Cursor). v.0) a.is ∙ k.is)

  -- where the part is spelled as it was
  part_again : {A : Type 0} (kind : ℕ) (f : Cursor → Reads A) (make : A → Message) (tf : A → Bytes) (text : Bytes) → (1 ≤ kind) × (kind < 17) → ((c : Cursor) → behind_kind_at s kind c ≡ map_at make f c) → IsWhole f tf text
      → (x : Message) → message_of s (number w8 kind ++ text) ≡ Ok x → (y : A) × (make y ≡ x) × (tf y ≡ text)
  part_again kind f make tf text within same whole x e =
      let a = kind_again kind f make text within same x e in
      (a.0.0, a.3, whole (0 + length (number w8 kind)) a.0 a.1 a.2)

  -- ---- a REPLY

  reply_whole : (m : Reply) → IsWhole (reply_at s) reply_bytes (reply_bytes m)
  unfolding reply_at reply_bytes
  reply_whole m =
      let texts_at : Cursor → Reads (Bytes × Bytes) = pair_at (text16_at text_limit) digest_at in
      let pos_at : Cursor → Reads (ℕ × (Bytes × Bytes)) = pair_at place_at texts_at in
      let seq_at : Cursor → Reads (ℕ × (ℕ × (Bytes × Bytes))) = pair_at counter_at pos_at in
      let named_at : Cursor → Reads (ℕ × (ℕ × (ℕ × (Bytes × Bytes)))) = pair_at (client_at s) seq_at in
      let texts = texts_whole text_limit 32 m.result m.tag in
      let pos = pair_whole place_at (number w64) (number w64 m.pos) texts_at _ _ (number_back w64 spelled64 0 MAX_PLACE m.pos) texts in
      let seq = pair_whole counter_at (number w64) (number w64 m.seq) pos_at _ _ (number_back w64 spelled64 1 (2 ^ 64 - 1) m.seq) pos in
      let client = pair_whole (client_at s) (number w8) (number w8 m.client) seq_at _ _ (number_back w8 spelled8 0 (client_count s - 1) m.client) seq in
      let host = pair_whole (host_at s) (number w8) (number w8 m.host) named_at _ _ (number_back w8 spelled8 0 (host_count s - 1) m.host) client in
      map_whole reply_of_fields (pair_at (host_at s) named_at) _ reply_bytes _ (λ a. refl) host

  pub reply_again : (m : Reply) (x : Message) → message_of s (spelling (message.Reply m)) ≡ Ok x → (y : Reply) × (message.Reply y ≡ x) × (spelling (message.Reply y) ≡ spelling (message.Reply m))
  unfolding spelling behind_kind_at
  reply_again m x e =
      let a = part_again 4 (reply_at s) message.Reply reply_bytes (reply_bytes m) (lit≤ tt, lit< tt) (λ c. refl) (reply_whole m) x e in
      (a.0, a.1, ap (λ (t : Bytes). number w8 4 ++ t) a.2)

  -- ---- a wish

  wish_whole : (m : ReqViewChange) → IsWhole (wish_at s) wish_bytes (wish_bytes m)
  unfolding wish_at wish_bytes
  wish_whole m =
      let view = pair_whole position_at (number w64) (number w64 m.view) digest_at _ _ (number_back w64 spelled64 1 MAX_PLACE m.view) (bytes_whole 32 m.tag) in
      let host = pair_whole (host_at s) (number w8) (number w8 m.host) (pair_at position_at digest_at) _ _ (number_back w8 spelled8 0 (host_count s - 1) m.host) view in
      map_whole wish_of_fields (pair_at (host_at s) (pair_at position_at digest_at)) _ wish_bytes _ (λ a. refl) host

  pub wish_again : (m : ReqViewChange) (x : Message) → message_of s (spelling (message.ReqViewChange m)) ≡ Ok x → (y : ReqViewChange) × (message.ReqViewChange y ≡ x) × (spelling (message.ReqViewChange y) ≡ spelling (message.ReqViewChange m))
  unfolding spelling behind_kind_at
  wish_again m x e =
      let a = part_again 6 (wish_at s) message.ReqViewChange wish_bytes (wish_bytes m) (lit≤ tt, lit< tt) (λ c. refl) (wish_whole m) x e in
      (a.0, a.1, ap (λ (t : Bytes). number w8 6 ++ t) a.2)

  -- ---- a REQUEST

  request_whole : (m : Request) → IsWhole (request_at s) request_bytes (request_bytes m)
  unfolding request_at request_bytes
  request_whole m =
      let texts_at : Cursor → Reads (Bytes × Bytes) = pair_at (text16_at text_limit) digest_at in
      let seq_at : Cursor → Reads (ℕ × (Bytes × Bytes)) = pair_at counter_at texts_at in
      let texts = texts_whole text_limit 32 m.op m.tag in
      let seq = pair_whole counter_at (number w64) (number w64 m.seq) texts_at _ _ (number_back w64 spelled64 1 (2 ^ 64 - 1) m.seq) texts in
      let client = pair_whole (client_at s) (number w8) (number w8 m.client) seq_at _ _ (number_back w8 spelled8 0 (client_count s - 1) m.client) seq in
      map_whole request_of_fields (pair_at (client_at s) seq_at) _ request_bytes _ (λ a. refl) client

  pub request_again : (m : Request) (x : Message) → message_of s (spelling (message.Request m)) ≡ Ok x → (y : Request) × (message.Request y ≡ x) × (request_bytes y ≡ request_bytes m)
  unfolding spelling behind_kind_at
  request_again m x e = part_again 1 (request_at s) message.Request request_bytes (request_bytes m) (lit≤ tt, lit< tt) (λ c. refl) (request_whole m) x e

  -- ---- kinds that have neither certificates nor requests

  pub resend_again : (m : Resend) (x : Message) → message_of s (spelling (message.Resend m)) ≡ Ok x → (y : Resend) × (message.Resend y ≡ x)
  unfolding spelling behind_kind_at
  resend_again m x e = let a = kind_again 12 (resend_at s) message.Resend _ (lit≤ tt, lit< tt) (λ c. refl) x e in (a.0.0, a.3)

  pub fetch_again : (m : Fetch) (x : Message) → message_of s (spelling (message.Fetch m)) ≡ Ok x → (y : Fetch) × (message.Fetch y ≡ x)
  unfolding spelling behind_kind_at
  fetch_again m x e = let a = kind_again 14 (fetch_at s) message.Fetch _ (lit≤ tt, lit< tt) (λ c. refl) x e in (a.0.0, a.3)

  pub state_again : (m : StateMsg) (x : Message) → message_of s (spelling (message.State m)) ≡ Ok x → (y : StateMsg) × (message.State y ≡ x)
  unfolding spelling behind_kind_at
  state_again m x e = let a = kind_again 15 (state_at s) message.State _ (lit≤ tt, lit< tt) (λ c. refl) x e in (a.0.0, a.3)

long_unread : (s : Shape) (bytes : Bytes) → nat_lt MESSAGE_LIMIT (length bytes) ≡ true → message_of s bytes ≡ Err MESSAGE_LIMIT
unfolding message_of
long_unread s bytes long = rw long refl

-- What has the values of the grammar is read again, if anything is: it may be too long.
pub read_fields : (s : Shape) → IsShape s → (m x : Message) → FitsFields s m → message_of s (spelling m) ≡ Ok x → m ≡ x
read_fields s shape m x f e = elim (cases_Bool (nat_lt MESSAGE_LIMIT (length (spelling m)))) [
  | inl long ↦ absurd (too_long (message_of s (spelling m)) (long_unread s (spelling m) long) e)
  | inr short ↦ same (message_of s (spelling m)) (message_again s shape m (record { fields = f; size = ltb-false MESSAGE_LIMIT (length (spelling m)) short })) e
] where
  same : (y : Result Message ℕ) → y ≡ Ok m → y ≡ Ok x → m ≡ x
  same y a b = cc

  too_long : (y : Result Message ℕ) → y ≡ Err MESSAGE_LIMIT → y ≡ Ok x → ⊥
  too_long y a b = absurd cc
