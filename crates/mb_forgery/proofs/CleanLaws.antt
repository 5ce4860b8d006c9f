-- A message in which nothing was forged stays so, since what was made stays made.
use Rattle.std.proofs.Common.{◌≡◌, Bool, true, false, ◌&&◌, ◌||◌, not, List, [], ◌∷◌, ◌++◌, Option, Some, None, refl, sym, ap, ◌∙◌}
use Rattle.std.specs.Prelude.{find, option_and_then}
use Rattle.std.specs.List.{list_any}
use Rattle.std.proofs.lemmas.List.Folds.{list_any-append}
use Rattle.mb_base.specs.Shapes.{Bytes}
use Rattle.mb_usig.specs.Tags.{same_bytes, request_tag, reply_tag, wish_tag}
use Rattle.mb_parts.specs.declared.request.Request.{Request}
use Rattle.mb_parts.specs.Spelling.{request_bytes}
use Rattle.mb_parts.specs.BareReading.{bare_of_bytes}
use Rattle.mb_parts.specs.Counters.{at_counter}
use Rattle.mb_parts.specs.Claims.{Claim}
use Rattle.mb_parts.proofs.Counters.{at_more}
use Rattle.mb_parts.proofs.IssuedLaws.{says, issued_again}
use Rattle.mb_msg.specs.declared.message.Message.{Message}
use Rattle.mb_msg.specs.declared.message.Message.TheVariants as message
use Rattle.mb_msg.specs.Spelling.{spelling}
use Rattle.mb_model.specs.Verified.{verifies}
use Rattle.mb_schedule.specs.declared.schedule.Schedule.{Schedule}
use Rattle.mb_schedule.specs.Limits.{is_faulty, is_faulty_client}
use Rattle.mb_world_model.specs.World.{World, stamps}
use Rattle.mb_world_model.specs.WorldRecord.{issued}
use Rattle.mb_model.specs.Inside.{claims_in, requests_in}
use Rattle.mb_world_model.specs.Forged.{is_forged_claim, forged_claim, is_forged_request, has_forged_tag, IsUnforged}
use Rattle.mb_forgery.specs.Checks.{MadeMore}

-- ---- tests that fewer pass

module _ {A : Type 0} (p q : A → Bool) (fewer : (x : A) → p x ≡ true → q x ≡ true) where
  both_false : (x : A) → q x ≡ false → p x ≡ false
  both_false x e = by (p x) refl where
    by : (b : Bool) → p x ≡ b → b ≡ false
    by false is = refl
    by true is = sym (fewer x is) ∙ e

  pub none_found : (l : List A) → find q l ≡ None → find p l ≡ None
  none_found [] e = refl
  none_found (x ∷ l) e = by (q x) refl (none_found l) where
    by : (b : Bool) → q x ≡ b → (find q l ≡ None → find p l ≡ None) → find p (x ∷ l) ≡ None
    by true is later = absurd (some_none (rw is at e)) where
      some_none : Some x ≡ None → ⊥
      some_none e = cc
    by false is later = rw (both_false x is) (later (rw is at e))

  pub none_passes : (l : List A) → list_any q l ≡ false → list_any p l ≡ false
  none_passes [] e = refl
  none_passes (x ∷ l) e = by (q x) refl (none_passes l) where
    by : (b : Bool) → q x ≡ b → (list_any q l ≡ false → list_any p l ≡ false) → list_any p (x ∷ l) ≡ false
    by true is later = absurd (not_both (rw is at e)) where
      not_both : true ≡ false → ⊥
      not_both e = cc
    by false is later = rw (both_false x is) (later (rw is at e))

-- What verifies and was not made later was not made before.
not_made_before : (verified before later : Bool) → (before ≡ true → later ≡ true) → (verified && not later) ≡ true → (verified && not before) ≡ true
not_made_before true false later stays e = refl
not_made_before true true true stays e = absurd cc
not_made_before true true false stays e = stays refl
not_made_before false before later stays e = e

not_made_by : (verified correct before later : Bool) → (before ≡ true → later ≡ true) → (verified && (correct && not later)) ≡ true → (verified && (correct && not before)) ≡ true
not_made_by true correct before later stays e = not_made_before correct before later stays e
not_made_by false correct before later stays e = e

or_true : (a b : Bool) → b ≡ true → (a || b) ≡ true
or_true true b e = refl
or_true false b e = e

-- One of more passes.
any_more : {A : Type 0} (p : A → Bool) (now more before : List A) → now ≡ more ++ before → list_any p before ≡ true → list_any p now ≡ true
any_more p now more before is e = ap (list_any p) is ∙ list_any-append p more before ∙ or_true (list_any p more) (list_any p before) e

module _ (s : Schedule) (w v : World) (more : MadeMore s w v) where
  issued_stays : (c : Claim) → issued s w c ≡ true → issued s v c ≡ true
  issued_stays c e = issued_again s.shape (stamps s v) c (by (at_counter (stamps s w c.host) c.counter) refl (says s.shape (stamps s w) c e)) where
    by : (o : Option Bytes) → at_counter (stamps s w c.host) c.counter ≡ o → option_and_then (bare_of_bytes s.shape) o ≡ Some c.says
        → option_and_then (bare_of_bytes s.shape) (at_counter (stamps s v c.host) c.counter) ≡ Some c.says
    by None is e = absurd cc
    by (Some bytes) is e =
        let m = more.stamps c.host in
        let stands : at_counter (stamps s v c.host) c.counter ≡ Some bytes = ap (λ l. at_counter l c.counter) m.1 ∙ at_more m.0 (stamps s w c.host) c.counter bytes is in
        ap (option_and_then (bare_of_bytes s.shape)) stands ∙ e

  claims_stay : (m : Message) → forged_claim s w m ≡ None → forged_claim s v m ≡ None
  unfolding forged_claim
  claims_stay m e = none_found (is_forged_claim s v) (is_forged_claim s w) (λ c. not_made_before (verifies s.secret c) (issued s w c) (issued s v c) (issued_stays c)) (claims_in s.shape m) e

  asked_stays : (r : Request) → list_any (λ q. same_bytes (request_bytes q) (request_bytes r)) w.asked ≡ true → list_any (λ q. same_bytes (request_bytes q) (request_bytes r)) v.asked ≡ true
  asked_stays r = any_more (λ q. same_bytes (request_bytes q) (request_bytes r)) v.asked more.asked.0 w.asked more.asked.1

  tagged_stays : (m : Message) → list_any (λ x. same_bytes (spelling x) (spelling m)) w.tagged ≡ true → list_any (λ x. same_bytes (spelling x) (spelling m)) v.tagged ≡ true
  tagged_stays m = any_more (λ x. same_bytes (spelling x) (spelling m)) v.tagged more.tagged.0 w.tagged more.tagged.1

  requests_stay : (l : List Request) → list_any (is_forged_request s w) l ≡ false → list_any (is_forged_request s v) l ≡ false
  requests_stay l = none_passes (is_forged_request s v) (is_forged_request s w)
      (λ r. not_made_by (same_bytes r.tag (request_tag s.secret r.client r.seq r.op)) (not (is_faulty_client s r.client)) _ _ (asked_stays r)) l

  opposite : (p q : Bool) → (p ≡ true → q ≡ true) → q ≡ false → p ≡ false
  opposite false q fewer e = refl
  opposite true q fewer e = sym (fewer refl) ∙ e

  tags_stay : (m : Message) → has_forged_tag s w m ≡ false → has_forged_tag s v m ≡ false
  unfolding has_forged_tag
  tags_stay (message.Reply m) e = opposite _ _
      (not_made_by (same_bytes m.tag (reply_tag s.secret m.host m.client m.seq m.pos m.result)) (not (is_faulty s m.host)) _ _ (tagged_stays (message.Reply m))) e
  tags_stay (message.ReqViewChange m) e = opposite _ _
      (not_made_by (same_bytes m.tag (wish_tag s.secret m.host m.view)) (not (is_faulty s m.host)) _ _ (tagged_stays (message.ReqViewChange m))) e
  tags_stay (message.Request m) e = requests_stay (requests_in (message.Request m)) e
  tags_stay (message.Prepare m) e = requests_stay (requests_in (message.Prepare m)) e
  tags_stay (message.Commit m) e = requests_stay (requests_in (message.Commit m)) e
  tags_stay (message.Checkpoint m) e = requests_stay (requests_in (message.Checkpoint m)) e
  tags_stay (message.ViewChange m) e = requests_stay (requests_in (message.ViewChange m)) e
  tags_stay (message.NewView m) e = requests_stay (requests_in (message.NewView m)) e
  tags_stay (message.Enter m) e = requests_stay (requests_in (message.Enter m)) e
  tags_stay (message.Open m) e = requests_stay (requests_in (message.Open m)) e
  tags_stay (message.Join m) e = requests_stay (requests_in (message.Join m)) e
  tags_stay (message.Resend m) e = requests_stay (requests_in (message.Resend m)) e
  tags_stay (message.Log m) e = requests_stay (requests_in (message.Log m)) e
  tags_stay (message.Fetch m) e = requests_stay (requests_in (message.Fetch m)) e
  tags_stay (message.State m) e = requests_stay (requests_in (message.State m)) e
  tags_stay (message.Stop m) e = requests_stay (requests_in (message.Stop m)) e

pub clean_stays : (s : Schedule) (w v : World) (m : Message) → MadeMore s w v → IsUnforged s w m → IsUnforged s v m
clean_stays s w v m more clean = record { claims = claims_stay s w v more m clean.claims; tags = tags_stay s w v more m clean.tags }
