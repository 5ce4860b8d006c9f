-- What each inner event adds to the messages that were made: nothing, what a correct host sends in a step, or one message in which nothing is forged.
use Rattle.std.proofs.Common.{◌≡◌, ℕ, ◌+◌, ◌^◌, ◌<◌, ◌≤◌, ◌⊎◌, Bool, true, false, List, [], ◌∷◌, ◌++◌, length, refl, sym, ap, subst, inl, inr, eqb, arith, Option, Some, None, Ok, Err}
use Rattle.std.specs.Prelude.{map, fold, Result}
use Rattle.std.proofs.lemmas.Bool.{cases_Bool, eqb-true, eq-eqb}
use Rattle.mb_base.specs.Limits.{batch_limit}
use Rattle.mb_base.specs.Shapes.{Bytes, IsShape, host_count}
use Rattle.mb_usig.proofs.Laws.{length-signed_request, length-signed_reply, length-wish_tag, true-same_bytes}
use Rattle.mb_parts.specs.declared.request.Request.{Request}
use Rattle.mb_parts.specs.Fits.{IsPlace, IsPosition, FitsRequest}
use Rattle.mb_parts.specs.Spelling.{request_bytes}
use Rattle.mb_msg.specs.declared.event.Event.{Event}
use Rattle.mb_msg.specs.declared.event.Event.TheVariants as event
use Rattle.mb_msg.specs.declared.message.Message.{Message}
use Rattle.mb_msg.specs.declared.message.Message.TheVariants as message
use Rattle.mb_msg.specs.declared.stamped.Stamped.{Stamped as StampedMessage}
use Rattle.mb_msg.specs.Fits.{FitsFields}
use Rattle.mb_msg.specs.Stamps.{as_stamped}
use Rattle.mb_msg.specs.Reading.{message_of}
use Rattle.mb_msg.specs.Spelling.{spelling}
use Rattle.mb_model.specs.HostStep.{transition}
use Rattle.mb_schedule.specs.declared.schedule.Schedule.{Schedule}
use Rattle.mb_schedule.specs.declared.schedule.WorldEvent.{WorldEvent}
use Rattle.mb_schedule.specs.declared.schedule.WorldEvent.TheVariants.{Ask, Give, Take, Raw, Patience, Nudge, Sign, TagReply, TagWish, StampPrepare, StampCommit, StampCheckpoint, StampChange, StampAs, StampRaw}
use Rattle.mb_schedule.specs.Limits.{is_faulty, is_faulty_client, EventFits}
use Rattle.mb_model.specs.Inside.{claims_in, requests_in}
use Rattle.mb_world_model.specs.World.{World, System, FaultyStamp, self_of, update, numbered, read, made, request_of, client_reads, heard, give_client, give_host, signal, with_tagged}
use Rattle.mb_world_model.specs.WorldEvents.{IsCorrect}
use Rattle.mb_world_model.specs.WorldSteps.{where_faulty, with_message, happens}
use Rattle.mb_world_model.specs.FaultyHosts.{reply_of_host, wish_of_host, prepare_with, checkpoint_with, stamp_some, stamp_content, content, misfit, batch_from, prepare_of}
use Rattle.mb_world_laws.proofs.Grown.{Grows}
use Rattle.mb_host_laws.proofs.Cases.{some_is}
use Rattle.mb_unforged.specs.NoneForged.{IsInner}
use Rattle.mb_unforged.proofs.Ready.{read_is}
use Rattle.mb_unforged.proofs.ReadAgain.{request_again, read_fields}
use Rattle.mb_unforged.proofs.Genuine.{IsGenuine}
use Rattle.mb_unforged.proofs.FaultyStamps.{PoolIsGenuine, IsContent, prepare_content, checkpoint_content, message_content, stamp_genuine}

module _ {S : Type 0} (system : System S) (w : World) where
  abbrev s : Schedule
  s = system.schedule

  -- At most one more was stamped by each faulty host.
  abbrev pub StampsFew : World → Type 0
  StampsFew v = (g : ℕ) → length (v.faulty_stamps g) ≤ length (w.faulty_stamps g) + 1

  pub record AddsNothing (v : World) : Type 0 where
    pub pool : v.pool ≡ w.pool
    pub stamps : StampsFew v

  pub record AddsLetters (v : World) : Type 0 where
    pub host : ℕ
    pub correct : IsCorrect system.schedule host
    pub seen : Event
    pub left : v.histories host ≡ (transition (self_of system host) (w.histories host) seen).left.history
    pub tags : v.tagged ≡ fold with_tagged w.tagged (transition (self_of system host) (w.histories host) seen).left.sent
    pub pool : v.pool ≡ w.pool ++ map (λ letter. spelling letter.says) (transition (self_of system host) (w.histories host) seen).left.sent
    pub stamps : StampsFew v

  pub record AddsOne (v : World) : Type 0 where
    pub bytes : Bytes
    pub pool : v.pool ≡ w.pool ++ bytes ∷ []
    pub stamps : StampsFew v
    pub genuine : Grows system.schedule w v → (m : Message) → read system.schedule bytes ≡ Some m → IsGenuine system.schedule v m

  abbrev pub Adds : World → Type 0
  Adds v = AddsNothing v ⊎ (AddsLetters v ⊎ AddsOne v)

  no_stamps : (g : ℕ) → length (w.faulty_stamps g) ≤ length (w.faulty_stamps g) + 1
  no_stamps g = omega arith

  nothing : Adds w
  nothing = inl (record { pool = refl; stamps = no_stamps })

  -- ---- hosts and clients

  given_adds : (h : ℕ) (bytes : Bytes) → h < host_count s.shape → Adds (give_host system h bytes w)
  unfolding give_host
  given_adds h bytes lt = elim (cases_Bool (is_faulty s h)) [
    | inl faulty ↦ rw faulty (inl (record { pool = refl; stamps = no_stamps }))
    | inr correct ↦ rw correct (inr (inl (record { host = h; correct = (lt, correct); seen = event.Given bytes; left = rw (eq-eqb h h refl) refl; tags = refl; pool = refl; stamps = no_stamps })))
  ]

  signal_adds : (h : ℕ) (e : Event) → h < host_count s.shape → Adds (signal system h e w)
  unfolding signal
  signal_adds h e lt = elim (cases_Bool (is_faulty s h)) [
    | inl faulty ↦ rw faulty (inl (record { pool = refl; stamps = no_stamps }))
    | inr correct ↦ rw correct (inr (inl (record { host = h; correct = (lt, correct); seen = e; left = rw (eq-eqb h h refl) refl; tags = refl; pool = refl; stamps = no_stamps })))
  ]

  reads_add : (c : ℕ) (bytes : Bytes) (r : Result Message ℕ) → AddsNothing (client_reads s c r (heard s bytes w))
  reads_add c bytes (Err at) = record { pool = refl; stamps = no_stamps }
  reads_add c bytes (Ok (message.Reply r)) = record { pool = refl; stamps = no_stamps }
  reads_add c bytes (Ok m) = record { pool = refl; stamps = no_stamps }

  client_adds : (c : ℕ) (bytes : Bytes) → Adds (give_client s c bytes w)
  unfolding give_client
  client_adds c bytes = elim (cases_Bool (is_faulty_client s c)) [
    | inl faulty ↦ rw faulty (inl (record { pool = refl; stamps = no_stamps }))
    | inr correct ↦ rw correct (inl (reads_add c bytes (message_of s.shape bytes)))
  ]

  host_takes : (h : ℕ) (o : Option Bytes) → h < host_count s.shape → Adds (with_message (give_host system h) o w)
  host_takes h None lt = nothing
  host_takes h (Some bytes) lt = given_adds h bytes lt

  client_takes : (c : ℕ) (o : Option Bytes) → Adds (with_message (give_client s c) o w)
  client_takes c None = nothing
  client_takes c (Some bytes) = client_adds c bytes

  where_faulty_adds : (t : Bool) (f : World → World) → (t ≡ true → Adds (f w)) → Adds (where_faulty t f w)
  where_faulty_adds true f a = a refl
  where_faulty_adds false f a = nothing

  -- ---- messages that are made by themselves

  not_both : (b : Bool) → b ≡ true → b ≡ false → ⊥
  not_both true e f = absurd cc
  not_both false e f = absurd cc

  read_back : IsShape s.shape → (m x : Message) → FitsFields s.shape m → read s (spelling m) ≡ Some x → m ≡ x
  read_back shape m x f e = read_fields s.shape shape m x f (read_is (message_of s.shape (spelling m)) x e)

  -- what a client asks
  ask_adds : (c : ℕ) (op : Bytes) → Adds (happens system w (Ask c op))
  unfolding happens claims_in requests_in
  ask_adds c op =
      let r : Request = request_of s c ((w.askers c).number + 1) op in
      inr (inr (record {
        bytes = spelling (message.Request r);
        pool = refl;
        stamps = no_stamps;
        genuine = λ grows m e.
            let a = request_again s.shape r m (read_is (message_of s.shape (spelling (message.Request r))) m e) in
            subst (λ (y : Message). IsGenuine s (happens system w (Ask c op)) y) a.1 (record {
              parts = record { claims = tt; requests = ((λ t f. (r, inl refl, true-same_bytes (request_bytes r) (request_bytes a.0) (sym a.2))), tt) };
              made = tt;
            });
      }))

  module _ (shape : IsShape s.shape) where
    sign_adds : (c seq : ℕ) (op : Bytes) → EventFits s.shape (Sign c seq op) → is_faulty_client s c ≡ true → Adds (made s (spelling (message.Request (request_of s c seq op))) w)
    unfolding claims_in requests_in
    sign_adds c seq op fits faulty =
        let r : Request = request_of s c seq op in
        let f : FitsRequest s.shape r = record { client = fits.0; seq = fits.1.0; op = fits.1.1; tag = length-signed_request s.secret c _ } in
        inr (inr (record {
          bytes = spelling (message.Request r);
          pool = refl;
          stamps = no_stamps;
          genuine = λ grows m e. subst (λ (y : Message). IsGenuine s (made s (spelling (message.Request r)) w) y) (read_back shape (message.Request r) m f e)
              (record { parts = record { claims = tt; requests = ((λ t c. absurd (not_both (is_faulty_client s r.client) faulty c)), tt) }; made = tt });
        }))

    reply_adds : (h c seq pos : ℕ) (result : Bytes) → EventFits s.shape (TagReply h c seq pos result) → is_faulty s h ≡ true → Adds (made s (spelling (reply_of_host s h c seq pos result)) w)
    unfolding claims_in requests_in
    reply_adds h c seq pos result fits faulty = inr (inr (record {
      bytes = spelling (reply_of_host s h c seq pos result);
      pool = refl;
      stamps = no_stamps;
      genuine = λ grows m e. subst (λ (y : Message). IsGenuine s (made s (spelling (reply_of_host s h c seq pos result)) w) y)
          (read_back shape (reply_of_host s h c seq pos result) m (record { host = fits.0; client = fits.1.0; seq = fits.1.1.0; pos = fits.1.1.1.0; result = fits.1.1.1.1; tag = length-signed_reply s.secret h c _ }) e)
          (record { parts = record { claims = tt; requests = tt }; made = λ correct. absurd (not_both (is_faulty s h) faulty correct) });
    }))

    wish_adds : (h view : ℕ) → EventFits s.shape (TagWish h view) → is_faulty s h ≡ true → Adds (made s (spelling (wish_of_host s h view)) w)
    unfolding claims_in requests_in
    wish_adds h view fits faulty = inr (inr (record {
      bytes = spelling (wish_of_host s h view);
      pool = refl;
      stamps = no_stamps;
      genuine = λ grows m e. subst (λ (y : Message). IsGenuine s (made s (spelling (wish_of_host s h view)) w) y)
          (read_back shape (wish_of_host s h view) m (record { host = fits.0; view = fits.1; tag = length-wish_tag s.secret h view }) e)
          (record { parts = record { claims = tt; requests = tt }; made = λ correct. absurd (not_both (is_faulty s h) faulty correct) });
    }))

    module _ (low : (h : ℕ) → length (w.faulty_stamps h) + 1 < 2 ^ 64) (pool : PoolIsGenuine s shape w) where
      one_stamp : (h : ℕ) (x : FaultyStamp) (g : ℕ) → length (update w.faulty_stamps h (x ∷ w.faulty_stamps h) g) ≤ length (w.faulty_stamps g) + 1
      one_stamp h x g = elim (cases_Bool (eqb g h)) [
        | inl same ↦ rw same (omega (arith, ap (λ (i : ℕ). length (w.faulty_stamps i)) (eqb-true g h same)))
        | inr other ↦ rw other (omega arith)
      ]

      -- a content
      content_adds : (h : ℕ) (x : StampedMessage) → h < host_count s.shape → IsContent s shape w x → is_faulty s h ≡ true → Adds (stamp_content s h x w)
      content_adds h x there c faulty = inr (inr (record { bytes = _; pool = refl; stamps = one_stamp h _; genuine = stamp_genuine s shape w h x faulty there (low h) c }))

      some_adds : (h : ℕ) (o : Option StampedMessage) → h < host_count s.shape → ((x : StampedMessage) → o ≡ Some x → IsContent s shape w x) → is_faulty s h ≡ true → Adds (stamp_some (stamp_content s h) o w)
      some_adds h None there c faulty = nothing
      some_adds h (Some x) there c faulty = content_adds h x there (c x refl) faulty

      prepare_is : (view pos : ℕ) (ns : List ℕ) → IsPlace view → IsPosition pos → (1 ≤ length ns) × (length ns ≤ batch_limit) → (x : StampedMessage) → prepare_of s w view pos ns ≡ Some x → IsContent s shape w x
      prepare_is view pos ns in_view in_window few x e = go (misfit s w 0 ns) refl where
        go : (o : Option ℕ) → misfit s w 0 ns ≡ o → IsContent s shape w x
        go (Some n) is = absurd (none_some (rw is at e)) where
          none_some : None ≡ Some x → ⊥
          none_some f = absurd cc
        go None is = subst (IsContent s shape w) (some_is (prepare_with view pos (batch_from s w ns)) x (rw is at e)) (prepare_content s shape w pool view pos ns in_view in_window few is)

      -- So it is with each inner event.
      pub event_adds : (e : WorldEvent) → IsInner e → EventFits s.shape e → Adds (happens system w e)
      unfolding happens
      event_adds (Ask c op) inner fits = ask_adds c op
      event_adds (Give m h) inner fits = host_takes h (numbered w.pool m) fits
      event_adds (Take m c) inner fits = client_takes c (numbered w.pool m)
      event_adds (Raw who bytes) inner fits = absurd inner
      event_adds (Patience h) inner fits = signal_adds h event.Patience fits
      event_adds (Nudge h) inner fits = signal_adds h event.Nudge fits
      event_adds (Sign c seq op) inner fits = where_faulty_adds (is_faulty_client s c) (made s (spelling (message.Request (request_of s c seq op)))) (λ faulty. sign_adds c seq op fits faulty)
      event_adds (TagReply h c seq pos result) inner fits = where_faulty_adds (is_faulty s h) (made s (spelling (reply_of_host s h c seq pos result))) (λ faulty. reply_adds h c seq pos result fits faulty)
      event_adds (TagWish h view) inner fits = where_faulty_adds (is_faulty s h) (made s (spelling (wish_of_host s h view))) (λ faulty. wish_adds h view fits faulty)
      event_adds (StampPrepare h view pos ns) inner fits =
          where_faulty_adds (is_faulty s h) (stamp_some (stamp_content s h) (prepare_of s w view pos ns)) (some_adds h (prepare_of s w view pos ns) fits.0 (prepare_is view pos ns fits.1.0 fits.1.1.0 fits.1.1.1))
      event_adds (StampCommit h m) inner fits = absurd inner
      event_adds (StampCheckpoint h pos digest) inner fits =
          where_faulty_adds (is_faulty s h) (stamp_content s h (checkpoint_with (host_count s.shape) pos digest)) (content_adds h (checkpoint_with (host_count s.shape) pos digest) fits.0 (checkpoint_content s shape w pos digest fits.1.0 fits.1.1))
      event_adds (StampChange h view counter) inner fits = absurd inner
      event_adds (StampAs h m) inner fits =
          where_faulty_adds (is_faulty s h) (stamp_some (stamp_content s h) (content s w m as_stamped)) (some_adds h (content s w m as_stamped) fits (message_content s shape w pool m))
      event_adds (StampRaw h bytes) inner fits = absurd inner
