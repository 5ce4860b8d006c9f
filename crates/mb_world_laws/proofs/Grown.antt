-- Worlds that grow: what was stamped, given, hashed and asked stays so, and what was issued stays issued.
use Rattle.std.proofs.Common.{◌≡◌, ℕ, Bool, true, false, List, [], ◌∷◌, ◌++◌, refl, ap, subst, ◌∙◌, inl, inr, Some, None}
use Rattle.std.specs.Prelude.{find, ◌&&◌, not, option_and_then}
use Rattle.std.specs.List.{AllByRecursion, list_any}
use Rattle.std.proofs.lemmas.Bool.{cases_Bool}
use Rattle.mb_base.specs.Shapes.{Bytes}
use Rattle.mb_parts.specs.declared.request.Request.{Request}
use Rattle.mb_parts.specs.BareReading.{bare_of_bytes}
use Rattle.mb_parts.specs.Claims.{Claim}
use Rattle.mb_parts.specs.Counters.{at_counter, IsBeginning}
use Rattle.mb_parts.proofs.Counters.{at_more}
use Rattle.mb_parts.proofs.IssuedLaws.{says, issued_again}
use Rattle.mb_msg.specs.declared.message.Message.{Message}
use Rattle.mb_msg.specs.declared.message.Message.TheVariants as message
use Rattle.mb_usig.specs.Tags.{same_bytes}
use Rattle.mb_parts.specs.Spelling.{request_bytes}
use Rattle.mb_model.specs.Verified.{verifies, is_rightly_tagged}
use Rattle.mb_model.specs.Histories.{History}
use Rattle.mb_model.specs.Members.{In}
use Rattle.mb_model.proofs.Members.{any_in}
use Rattle.mb_model.specs.Inside.{claims_in, strings_in, requests_in}
use Rattle.mb_schedule.specs.declared.schedule.Schedule.{Schedule}
use Rattle.mb_schedule.specs.Limits.{is_faulty_client}
use Rattle.mb_world_model.specs.World.{World, System, self_of, read, stamps, state_strings_in}
use Rattle.mb_world_model.specs.WorldRecord.{issued}
use Rattle.mb_world_model.specs.Forged.{is_forged_claim, forged_claim, is_forged_request, has_forged_tag, was_asked}
use Rattle.mb_host_laws.proofs.Cases.{all_more, or_false, some_none, then_some_of, third_holds}
use Rattle.mb_host_laws.specs.Rests.{Each, Rests}

-- ---- what a world says of a host

module _ (s : Schedule) where
  -- The message was delivered to the host.
  pub record IsGivenTo (w : World) (h : ℕ) (m : Message) : Type 0 where
    pub bytes : Bytes
    pub delivered : In (w.given h) bytes
    pub reads : read s bytes ≡ Some m

  abbrev pub IsHashed : World → Bytes → Type 0
  IsHashed w x = In w.hashed x

  -- All that is hashed of a message is hashed in the world.
  abbrev pub HasStrings : World → Message → Type 0
  HasStrings w m = AllByRecursion (IsHashed w) (strings_in s.shape m)

  -- A client asked what has these bytes.
  abbrev pub WasAsked : World → Request → Type 0
  WasAsked w r = (q : Request) × In w.asked q × (same_bytes (request_bytes q) (request_bytes r) ≡ true)

  -- What verifies in a delivered message was issued, its strings are hashed, and no tag in it is forged.
  pub record IsClean (w : World) (m : Message) : Type 0 where
    pub issues : (c : Claim) → In (claims_in s.shape m) c → verifies s.secret c ≡ true → issued s w c ≡ true
    pub strings : HasStrings w m
    pub states : AllByRecursion (IsHashed w) (state_strings_in m)
    pub asked : (r : Request) → In (requests_in m) r → is_rightly_tagged s.secret r ≡ true → is_faulty_client s r.client ≡ false → WasAsked w r

  -- ---- worlds that grow

  pub record Grows (w v : World) : Type 0 where
    pub stamped : (h : ℕ) → IsBeginning (stamps s w h) (stamps s v h)
    pub given : (h : ℕ) (b : Bytes) → In (w.given h) b → In (v.given h) b
    pub hashed : (x : Bytes) → In w.hashed x → In v.hashed x
    pub asked : (r : Request) → In w.asked r → In v.asked r
    pub tagged : (m : Message) → In w.tagged m → In v.tagged m

  pub grows_then : (u v w : World) → Grows u v → Grows v w → Grows u w
  grows_then u v w a b = record {
    stamped = λ h. both (a.stamped h) (b.stamped h);
    given = λ h x i. b.given h x (a.given h x i);
    hashed = λ x i. b.hashed x (a.hashed x i);
    asked = λ r i. b.asked r (a.asked r i);
    tagged = λ m i. b.tagged m (a.tagged m i);
  } where
    joined : {A : Type 0} (x y z : List A) → (x ++ y) ++ z ≡ x ++ (y ++ z)
    joined [] y z = refl
    joined (e ∷ x) y z = ap (λ l. e ∷ l) (joined x y z)

    both : {A : Type 0} {x y z : List A} → IsBeginning x y → IsBeginning y z → IsBeginning x z
    both {x = x} p q = record { later = q.later ++ p.later; is = joined q.later p.later x ∙ ap (λ l. q.later ++ l) p.is ∙ q.is }

  pub grows_same : (w : World) → Grows w w
  grows_same w = record { stamped = λ h. record { later = []; is = refl }; given = λ h b i. i; hashed = λ x i. i; asked = λ r i. i; tagged = λ m i. i }

  at_beginning : {A : Type 0} (x y : List A) (n : ℕ) (a : A) → IsBeginning x y → at_counter x n ≡ Some a → at_counter y n ≡ Some a
  at_beginning x y n a b e = subst (λ l. at_counter l n ≡ Some a) b.is (at_more b.later x n a e)

  -- What was issued stays so.
  pub issued_grows : (w v : World) → Grows w v → (c : Claim) → issued s w c ≡ true → issued s v c ≡ true
  issued_grows w v g c e =
      let t = then_some_of (bare_of_bytes s.shape) (at_counter (stamps s w c.host) c.counter) c.says (says s.shape (stamps s w) c e) in
      issued_again s.shape (stamps s v) c (ap (option_and_then (bare_of_bytes s.shape)) (at_beginning (stamps s w c.host) (stamps s v c.host) c.counter t.0 (g.stamped c.host) t.1) ∙ t.2)

  pub given_grows : (w v : World) → Grows w v → (h : ℕ) (m : Message) → IsGivenTo w h m → IsGivenTo v h m
  given_grows w v g h m x = record { bytes = x.bytes; delivered = g.given h x.bytes x.delivered; reads = x.reads }

  pub strings_grow : (w v : World) → Grows w v → (l : List Bytes) → AllByRecursion (IsHashed w) l → AllByRecursion (IsHashed v) l
  strings_grow w v g l a = all_more (IsHashed w) (IsHashed v) g.hashed l a

  pub clean_grows : (w v : World) → Grows w v → (m : Message) → IsClean w m → IsClean v m
  clean_grows w v g m x = record {
    issues = λ c i e. issued_grows w v g c (x.issues c i e);
    strings = strings_grow w v g (strings_in s.shape m) x.strings;
    states = strings_grow w v g (state_strings_in m) x.states;
    asked = λ r i t c. let a = x.asked r i t c in (a.0, g.asked a.0 a.1, a.2);
  }

  -- ---- nothing forged

  in_first : {A : Type 0} (P : A → Type 0) (y : A) (l : List A) (x : A) → In (y ∷ l) x → P y → (In l x → P x) → P x
  in_first P y l x (inl is) first more = subst P is first
  in_first P y l x (inr i) first more = more i

  none_found : {A : Type 0} (t : A → Bool) (l : List A) → find t l ≡ None → (x : A) → In l x → t x ≡ false
  none_found t [] e x i = absurd i
  none_found t (y ∷ l) e x i = elim (cases_Bool (t y)) [
    | inl here ↦ absurd (some_none y (rw here at e))
    | inr other ↦ in_first (λ z. t z ≡ false) y l x i other (λ j. none_found t l (rw other at e) x j)
  ]

  issued_where : (a b : Bool) → (a && not b) ≡ false → a ≡ true → b ≡ true
  issued_where true true e t = refl
  issued_where true false e t = absurd cc
  issued_where false b e t = absurd cc

  -- What verifies in a message without a forged certificate was issued.
  pub none_forged : (w : World) (m : Message) → forged_claim s w m ≡ None → (c : Claim) → In (claims_in s.shape m) c → verifies s.secret c ≡ true → issued s w c ≡ true
  unfolding forged_claim
  none_forged w m e c i v = issued_where (verifies s.secret c) (issued s w c) (none_found (is_forged_claim s w) (claims_in s.shape m) e c i) v

  none_any : {A : Type 0} (t : A → Bool) (l : List A) → list_any t l ≡ false → (x : A) → In l x → t x ≡ false
  none_any t [] e x i = absurd i
  none_any t (y ∷ l) e x i = let b = or_false (t y) (list_any t l) e in in_first (λ z. t z ≡ false) y l x i b.0 (λ j. none_any t l b.1 x j)

  no_forged_request : (w : World) (m : Message) → has_forged_tag s w m ≡ false → (r : Request) → In (requests_in m) r → is_forged_request s w r ≡ false
  unfolding has_forged_tag requests_in
  no_forged_request w (message.Reply m) e r i = absurd i
  no_forged_request w (message.ReqViewChange m) e r i = absurd i
  no_forged_request w m e r i = none_any (is_forged_request s w) (requests_in m) e r i

  -- What is rightly tagged in a message without a forged tag was asked, where its client is correct.
  pub none_unasked : (w : World) (m : Message) → has_forged_tag s w m ≡ false → (r : Request) → In (requests_in m) r → is_rightly_tagged s.secret r ≡ true → is_faulty_client s r.client ≡ false → WasAsked w r
  none_unasked w m e r i t c = any_in (λ q. same_bytes (request_bytes q) (request_bytes r)) w.asked (third_holds (is_rightly_tagged s.secret r) (is_faulty_client s r.client) (was_asked s w r) (no_forged_request w m e r i) t c)

-- ---- what histories rest on in a world

module _ {S : Type 0} (system : System S) where
  -- Each entry rests on what the world delivered to the host, on its hashed strings, and on what was made.
  abbrev pub RestsIn : World → ℕ → History → Type 0
  RestsIn w h d = Each (Rests (self_of system h) (IsGivenTo system.schedule w h) (IsHashed system.schedule w) (HasStrings system.schedule w)) d
