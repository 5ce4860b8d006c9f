-- A certified floor is sound: of f+1 hosts that show it one is correct, and its CHECKPOINT shows the floor that its gate remembered.
--
-- The certificate names the digest of the floors of each member. A correct member stamped a CHECKPOINT with this digest, whose floors are those under
-- its position (`stamped_floors`). Both strings of floors are hashed, so they are one, and both lists fit, so they are one too.
use Rattle.std.proofs.Common.{◌≡◌, ℕ, ◌≤◌, ◌<◌, Bool, true, false, List, [], ◌∷◌, ◌++◌, length, refl, sym, ap, subst, ◌∙◌, inl, inr, Option, Some, None}
use Rattle.std.specs.Prelude.{◌==◌, map, slice_get, option_and_then, if◌then◌else◌}
use Rattle.std.specs.List.{AllByRecursion, list_all}
use Rattle.std.proofs.lemmas.Bool.{and_parts, eqb-true}
use Rattle.sha2.specs.Sha256.{sha256}
use Rattle.mb_base.specs.Shapes.{Bytes, quorum, host_count}
use Rattle.mb_base.proofs.Laws.{field_injective}
use Rattle.mb_parts.specs.declared.floor.Floor.{Floor}
use Rattle.mb_parts.specs.declared.certificates.FloorMember.{FloorMember}
use Rattle.mb_parts.specs.declared.certificates.FloorCert.{FloorCert}
use Rattle.mb_parts.specs.Spelling.{floors_bytes, request_bytes}
use Rattle.mb_parts.specs.Reading.{floors_at}
use Rattle.mb_parts.specs.Bares.{Bare, bare_bytes}
use Rattle.mb_parts.specs.Bares as bare
use Rattle.mb_parts.specs.Claims.{Claim, floor_claims, are_rising}
use Rattle.mb_parts.specs.Certificates.{floor_for, same_floor, first_floor, agree_on_floor, certified_floor}
use Rattle.mb_parts.specs.Fits.{FitsFloors, FitsFloorMember, FitsFloorCert}
use Rattle.mb_parts.proofs.Fields.{floors_field}
use Rattle.mb_msg.specs.declared.message.Body.{Body}
use Rattle.mb_msg.specs.declared.message.Body.TheVariants.{Whole}
use Rattle.mb_msg.specs.declared.normal.Checkpoint.{Checkpoint}
use Rattle.mb_msg.specs.declared.normal.Floors.{Floors}
use Rattle.mb_msg.specs.declared.message.Message.TheVariants as message
use Rattle.mb_msg.specs.declared.stamped.Stamped.{Stamped as StampedMessage}
use Rattle.mb_msg.specs.declared.stamped.Stamped.TheVariants as stamped
use Rattle.mb_msg.specs.Bodies.{body_digest, FitsBody}
use Rattle.mb_msg.specs.Spelling.{floors_body_bytes}
use Rattle.mb_msg.specs.Fits.{FitsFloorsBody}
use Rattle.mb_msg.specs.Stamps.{bare_of}
use Rattle.mb_model.specs.Histories.{Stamped, History, Identity, stamped as all_stamped}
use Rattle.mb_model.specs.Sending.{next_ui}
use Rattle.mb_model.specs.Making.{floors_under, checkpoint, present_parts}
use Rattle.mb_model.specs.States.{state_digest}
use Rattle.mb_model.specs.Members.{In}
use Rattle.mb_model.proofs.Members.{contained, in_left, in_right, in_map}
use Rattle.mb_steps.specs.Arises.{Makes}
use Rattle.mb_world_model.specs.Hashed.{HashesApart}
use Rattle.mb_model.specs.Inside.{strings_in, bodies_in, requests_in, claims_in, floor_bodies, body_in}
use Rattle.mb_schedule.specs.Limits.{is_faulty}
use Rattle.mb_world_model.specs.WorldEvents.{IsCorrect}
use Rattle.mb_world_model.specs.World.{World, System, self_of}
use Rattle.mb_world_model.specs.WorldRecord.{issued}
use Rattle.mb_host_laws.proofs.Cases.{all_at, all_holds, none_some}
use Rattle.mb_host_laws.proofs.Found.{floor_is}
use Rattle.mb_host_laws.specs.Rests.{Each}
use Rattle.mb_world_laws.proofs.Facts.{Facts}
use Rattle.mb_views.proofs.Follows.{IsLed, JumpsLed}
use Rattle.mb_views.proofs.CorrectOne.{correct_one, IsStamped, issued_stamped}
use Rattle.mb_host_laws.proofs.Moments.{IsPast, past_tail, each_at}
use Rattle.mb_views.proofs.Floors.{arises_then, shown_led}

-- ---- floors that pass the test of equality

floor_found : (x y : Option Floor) (o : Floor) → x ≡ Some o → same_floor x y ≡ true → y ≡ Some o
floor_found None y o is e = absurd (none_some o is)
floor_found (Some a) None o is e = absurd cc
floor_found (Some a) (Some b) o is e = ap Some (sym (floor_is a b e)) ∙ is

-- ---- a stamped CHECKPOINT

pub record IsCheckpoint (x : StampedMessage) (pos : ℕ) (state digest : Bytes) : Type 0 where
  pub message : Checkpoint
  pub is : x ≡ stamped.Checkpoint message
  pub place : message.pos ≡ pos
  pub has : message.state ≡ state
  pub body : body_digest floors_body_bytes message.body ≡ digest

pub checkpoint_said : (x : StampedMessage) (pos : ℕ) (state digest : Bytes) → bare_of x ≡ bare.Checkpoint pos state digest → IsCheckpoint x pos state digest
checkpoint_said (stamped.Checkpoint m) pos state digest e = record { message = m; is = refl; place = cc; has = cc; body = cc }
checkpoint_said (stamped.Prepare m) pos state digest e = absurd cc
checkpoint_said (stamped.Commit m) pos state digest e = absurd cc
checkpoint_said (stamped.ViewChange m) pos state digest e = absurd cc
checkpoint_said (stamped.NewView m) pos state digest e = absurd cc
checkpoint_said (stamped.Enter m) pos state digest e = absurd cc
checkpoint_said (stamped.Open m) pos state digest e = absurd cc
checkpoint_said (stamped.Join m) pos state digest e = absurd cc

pub stamped_in : (later before : History) (m : StampedMessage) → In (all_stamped (later ++ Stamped m ∷ before)) m
unfolding all_stamped
stamped_in [] before m = inl refl
stamped_in (Stamped x ∷ later) before m = inr (stamped_in later before m)
stamped_in (e ∷ later) before m = stamped_in later before m

module _ {S : Type 0} (system : System S) (w : World) (f : Facts system w) (jumps : (h : ℕ) → IsCorrect system.schedule h → Each (JumpsLed system w f) (w.histories h)) where
  -- The floors that a correct host's CHECKPOINT shows are those under its position, they fit, and their string is hashed.
  pub record ShowsFloors (h pos : ℕ) (digest : Bytes) : Type 0 where
    pub before : History
    pub message : Checkpoint
    pub past : IsPast (Stamped (stamped.Checkpoint message) ∷ before) (w.histories h)
    pub digest_is : sha256 (floors_bytes (floors_under (self_of system h) before pos)) ≡ digest
    pub fits : FitsFloors system.schedule.shape (floors_under (self_of system h) before pos)
    pub hashed : In w.hashed (floors_bytes (floors_under (self_of system h) before pos))

  body_hashed : (m : Checkpoint) (b : Floors) → m.body ≡ Whole b → In (strings_in system.schedule.shape (message.Checkpoint m)) (floors_body_bytes b)
  unfolding strings_in bodies_in
  body_hashed m b e = in_left _ (map (λ c. bare_bytes c.says) (claims_in system.schedule.shape (message.Checkpoint m))) (floors_body_bytes b)
      (in_right (map request_bytes (requests_in (message.Checkpoint m))) (body_in floors_body_bytes m.body) (floors_body_bytes b) (rw e (inl refl)))

  pub shows_floors : (h n pos : ℕ) (state digest : Bytes) → IsCorrect system.schedule h → IsStamped (w.histories h) n (bare.Checkpoint pos state digest) → ShowsFloors h pos digest
  shows_floors h n pos state digest correct x = go (checkpoint_said x.message pos state digest x.says) where
    go : IsCheckpoint x.message pos state digest → ShowsFloors h pos digest
    go c =
        let self : Identity S = self_of system h in
        let d : History = x.before in
        let m : Checkpoint = c.message in
        let past : IsPast (Stamped (stamped.Checkpoint m) ∷ d) (w.histories h) = record { later = x.later; is = subst (λ (y : StampedMessage). x.later ++ Stamped y ∷ d ≡ w.histories h) c.is x.is } in
        let makes : Makes self d (stamped.Checkpoint m) = (arises_then system w f h correct (jumps h correct) (Stamped (stamped.Checkpoint m) ∷ d) past).0 in
        let made : Checkpoint = record { pos = makes.0; state = state_digest (present_parts self d) makes.0; body = Whole (record { floors = floors_under self d makes.0 }); ui = next_ui self d (bare_of (checkpoint self d makes.0)) } in
        let same : made ≡ m = cc makes.3 in
        let place : makes.0 ≡ pos = ap (λ (y : Checkpoint). y.pos) same ∙ c.place in
        let shown : Floors = record { floors = floors_under self d pos } in
        let body : m.body ≡ Whole shown = sym (ap (λ (y : Checkpoint). y.body) same) ∙ ap (λ (q : ℕ). Whole (record { floors = floors_under self d q })) place in
        let there : In (all_stamped (w.histories h)) (stamped.Checkpoint m) = subst (λ (y : History). In (all_stamped y) (stamped.Checkpoint m)) past.is (stamped_in past.later d (stamped.Checkpoint m)) in
        let strings = (each_at _ (Stamped (stamped.Checkpoint m) ∷ d) (w.histories h) past (f.standing.rests h)).0.0 in
        record {
          before = d;
          message = m;
          past = past;
          digest_is = subst (λ (y : Body Floors). body_digest floors_body_bytes y ≡ digest) body c.body;
          fits = subst (λ (y : Body Floors). FitsBody (FitsFloorsBody system.schedule.shape) y) body (f.floors h correct m there);
          hashed = all_at (λ (y : Bytes). In w.hashed y) (strings_in system.schedule.shape (message.Checkpoint m)) strings (floors_body_bytes shown) (body_hashed m shown body);
        }

  if_is : (b : Bool) (x : Option Floor) (o : Floor) → (if b then x else None) ≡ Some o → (b ≡ true) × (x ≡ Some o)
  if_is true x o e = (refl, e)
  if_is false x o e = absurd cc

  member_hosts : (l : List FloorMember) → AllByRecursion (FitsFloorMember system.schedule.shape) l → AllByRecursion (λ (m : FloorMember). m.host < host_count system.schedule.shape) l
  member_hosts [] a = tt
  member_hosts (m ∷ l) a = (a.0.host, member_hosts l a.1)

  -- A floor certificate that was issued gives a floor where the prefix of its host led, at most as high as its position. Its floors are among
  -- strings of which none_some two share a digest, as are all that are hashed in the world.
  pub certified_led : (strings : List Bytes) → HashesApart strings → ((x : Bytes) → In w.hashed x → In strings x) → (g : ℕ) (c : FloorCert) (o : Floor)
      → certified_floor system.schedule.shape (issued system.schedule w) g c ≡ Some o → FitsFloorCert system.schedule.shape c → AllByRecursion (In strings) (floor_bodies c)
      → IsLed system w f g o × (o.top ≤ c.pos)
  unfolding certified_floor
  certified_led strings apart within g c o e fits bodies =
      let agreed = if_is (agree_on_floor system.schedule.shape (issued system.schedule w) g c) (first_floor g c.members) o e in
      let a = and_parts (length c.members == quorum system.schedule.shape) _ agreed.0 in
      let b = and_parts (are_rising (map (λ m. m.host) c.members)) _ a.1 in
      let k = and_parts (list_all (issued system.schedule w) (floor_claims c)) _ b.1 in
      let one = correct_one (λ (m : FloorMember). m.host) system.schedule.shape (is_faulty system.schedule) c.members f.few (eqb-true _ _ a.0) b.0 (member_hosts c.members fits.members.1.1) in
      let m : FloorMember = one.0 in
      let claim : Claim = record { host = m.host; counter = m.counter; says = bare.Checkpoint c.pos c.state (sha256 (floors_bytes m.floors)); cert = m.cert } in
      let was_issued : issued system.schedule w claim ≡ true = all_holds (issued system.schedule w) (floor_claims c) k.0 claim (in_map _ c.members m one.1) in
      let shows : ShowsFloors m.host c.pos (sha256 (floors_bytes m.floors)) = shows_floors m.host m.counter c.pos c.state (sha256 (floors_bytes m.floors)) (one.2, one.3) (issued_stamped system w f claim (one.2, one.3) was_issued) in
      let shown : List (Option Floor) = floors_under (self_of system m.host) shows.before c.pos in
      let member : In strings (floors_bytes m.floors) = all_at (In strings) (floor_bodies c) bodies (floors_bytes m.floors) (in_map (λ (x : FloorMember). floors_bytes x.floors) c.members m one.1) in
      let same_bytes : floors_bytes shown ≡ floors_bytes m.floors = apart (floors_bytes shown) (floors_bytes m.floors) (contained strings _ (within _ shows.hashed)) (contained strings _ member) shows.digest_is in
      let same : shown ≡ m.floors = field_injective (floors_at system.schedule.shape) floors_bytes (FitsFloors system.schedule.shape) (floors_field system.schedule.shape f.shape) shown m.floors shows.fits
      (all_at (FitsFloorMember system.schedule.shape) c.members fits.members.1.1 m one.1).floors same_bytes in
      let found : floor_for g m ≡ Some o = floor_found (first_floor g c.members) (floor_for g m) o agreed.1 (all_holds _ c.members k.1 m one.1) in
      let led = shown_led system w f m.host (one.2, one.3) (jumps m.host (one.2, one.3)) shows.before c.pos g o (past_tail (Stamped (stamped.Checkpoint shows.message)) shows.before (w.histories m.host) shows.past)
      (subst (λ (l : List (Option Floor)). option_and_then (λ x. x) (slice_get l g) ≡ Some o) (sym same) found) in
      led
