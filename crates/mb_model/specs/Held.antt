-- What a host holds of view changes: wishes, VIEW_CHANGEs, ENTERs, OPENs of hosts, the NEW_VIEW, the evidence, and the plan.
use Rattle.std.specs.Prelude.{ℕ, zero, suc, ◌+◌, Bool, false, ◌&&◌, ◌||◌, not, List, [], ◌∷◌, ◌++◌, length, map, max, take, filter, filter_map, find, nat_lt, nat_le, ◌==◌, Option, Some, None, if◌then◌else◌, option_map, option_and_then, is_none}
use Rattle.std.specs.List.{range_with_len}
use Rattle.std.specs.Option.{option_or}
use Rattle.mb_base.specs.Shapes.{max_faults, quorum, host_count, tally}
use Rattle.mb_usig.specs.Tags.{same_bytes}
use Rattle.mb_parts.specs.declared.certificates.Evidence.{Evidence}
use Rattle.mb_parts.specs.declared.certificates.EvidenceMember.{EvidenceMember}
use Rattle.mb_msg.specs.declared.message.Message.TheVariants as message
use Rattle.mb_msg.specs.declared.change.ViewChange.{ViewChange}
use Rattle.mb_msg.specs.declared.change.NewView.{NewView}
use Rattle.mb_msg.specs.declared.change.Enter.{Enter}
use Rattle.mb_msg.specs.declared.change.Open.{Open}
use Rattle.mb_msg.specs.declared.change.Plan.{Plan}
use Rattle.mb_msg.specs.declared.stamped.Stamped.TheVariants as stamped
use Rattle.mb_msg.specs.Bodies.{body_digest, whole_body}
use Rattle.mb_msg.specs.Spelling.{new_view_body_bytes}
use Rattle.mb_parts.specs.declared.limits.TheConstants.{MAX_PLACE}
use Rattle.mb_model.specs.Verified.{verifies}
use Rattle.mb_model.specs.UsableLogs.{Fault, log_fault, is_whole}
use Rattle.mb_model.specs.Plans.{ShownLog, plan_of}
use Rattle.mb_model.specs.Histories.{Entry, Accepted, Stamped, LostPatience, History, Identity, view_of}

-- the greatest view of all
abbrev pub view_limit : ℕ
view_limit = MAX_PLACE

-- ---- the last ENTER and the last OPEN of a host

unfoldable pub enter_of : History → ℕ → Option Enter
enter_of [] h = None
enter_of (Accepted (message.Enter m) ∷ d) h = if m.ui.host == h then Some m else enter_of d h
enter_of (Stamped (stamped.Enter m) ∷ d) h = if m.ui.host == h then Some m else enter_of d h
enter_of (_ ∷ d) h = enter_of d h

-- the evidence of the last OPEN that was accepted of a host
unfoldable pub opened_by : History → ℕ → Option Evidence
opened_by [] h = None
opened_by (Accepted (message.Open m) ∷ d) h = if m.ui.host == h then Some m.evidence else opened_by d h
opened_by (_ ∷ d) h = opened_by d h

module _ {S : Type 0} (self : Identity S) where
  -- A message of this view is not below the host's.
  abbrev pub is_current : History → ℕ → Bool
  is_current d view = nat_le (view_of self d) view

  -- why a VIEW_CHANGE isn't usable, where it is whole
  abbrev pub change_fault : ViewChange → Option Fault
  change_fault m = option_and_then (log_fault self.shape self.secret (verifies self.secret) m.ui.host m.view m.ui.counter) (whole_body m.body)

  -- ---- wishes

  -- the view that an entry asks for in the name of a host: a wish, a VIEW_CHANGE, or the view behind the one that this host lost patience in
  abbrev pub wish_in : History → Entry → ℕ → ℕ
  wish_in d (Accepted (message.ReqViewChange m)) h = if m.host == h then m.view else 0
  wish_in d (Accepted (message.ViewChange m)) h = if m.ui.host == h then m.view else 0
  wish_in d (Stamped (stamped.ViewChange m)) h = if m.ui.host == h then m.view else 0
  wish_in d LostPatience h = if self.host == h then view_of self d + 1 else 0
  wish_in d _ h = 0

  -- the greatest view that a host asked for
  unfoldable pub wish_of : History → ℕ → ℕ
  wish_of [] h = 0
  wish_of (e ∷ d) h = max (wish_of d h) (wish_in d e h)

  -- f+1 hosts wish for a view that is not below this one.
  abbrev pub is_wished : History → ℕ → Bool
  is_wished d view = nat_le (quorum self.shape) (tally (λ h. nat_le view (wish_of d h)) (host_count self.shape))

  -- of the wishes of the hosts below a number, the greatest that f+1 hosts reach
  unfoldable pub quorum_wish : History → ℕ → ℕ
  quorum_wish d zero = 0
  quorum_wish d (suc n) = max (quorum_wish d n) (if is_wished d (wish_of d n) then wish_of d n else 0)

  -- ---- VIEW_CHANGEs

  -- one that is stored, always whole: of another host one to a view that is current, and an own one that is usable. (That another's is usable
  -- was seen as it was accepted.)
  abbrev pub change_in : History → Entry → Option ViewChange
  change_in d (Accepted (message.ViewChange m)) = if is_whole m.body && is_current d m.view then Some m else None
  change_in d (Stamped (stamped.ViewChange m)) = if is_whole m.body && is_none (change_fault m) then Some m else None
  change_in d _ = None

  -- A host's newer one takes the place of its earlier one, and goes last.
  abbrev pub arrived : Option ViewChange → List ViewChange → List ViewChange
  arrived None l = l
  arrived (Some m) l = filter (λ c. not (c.ui.host == m.ui.host)) l ++ m ∷ []

  -- those stored, in the order of arrival
  unfoldable pub changes_of : History → List ViewChange
  changes_of [] = []
  changes_of (e ∷ d) = arrived (change_in d e) (changes_of d)

  abbrev pub by_rising_host : List ViewChange → List ViewChange
  by_rising_host l = filter_map (λ h. find (λ c. c.ui.host == h) l) (range_with_len 0 (host_count self.shape))

  -- the first f+1, by rising host
  abbrev pub first_quorum : List ViewChange → Option (List ViewChange)
  first_quorum l = if nat_le (quorum self.shape) (length l) then Some (by_rising_host (take (quorum self.shape) l)) else None

  -- of those to a view
  abbrev pub chosen : History → ℕ → Option (List ViewChange)
  chosen d view = first_quorum (filter (λ c. c.view == view) (changes_of d))

  -- ---- the NEW_VIEW: the last one

  abbrev pub new_view_in : History → Entry → Option NewView
  new_view_in d (Accepted (message.NewView m)) = if is_whole m.body && is_current d m.view then Some m else None
  new_view_in d (Stamped (stamped.NewView m)) = Some m
  new_view_in d _ = None

  unfoldable pub new_view_of : History → Option NewView
  new_view_of [] = None
  new_view_of (e ∷ d) = option_or (new_view_in d e) (new_view_of d)

-- ---- the evidence: that of the greatest view so far

-- its view, 0 where there is none
abbrev pub evidence_view : Option Evidence → ℕ
evidence_view None = 0
evidence_view (Some e) = e.view

-- what a message of another host shows
abbrev pub evidence_shown : Entry → Option Evidence
evidence_shown (Accepted (message.Open m)) = Some m.evidence
evidence_shown (Accepted (message.Join m)) = m.evidence
evidence_shown (Accepted (message.Log m)) = m.evidence
evidence_shown _ = None

module _ {S : Type 0} (self : Identity S) where
  -- It is held where its view is current and above that of the held one.
  abbrev pub is_news : History → Option Evidence → Evidence → Bool
  is_news d held e = is_current self d e.view && nat_lt (evidence_view held) e.view

  abbrev pub with_news : History → Option Evidence → Option Evidence → Option Evidence
  with_news d held None = held
  with_news d held (Some e) = if is_news d held e then Some e else held

  -- That of an own OPEN is held from then on.
  unfoldable pub evidence_of : History → Option Evidence
  evidence_of [] = None
  evidence_of (Stamped (stamped.Open m) ∷ d) = Some m.evidence
  evidence_of (e ∷ d) = with_news d (evidence_of d) (evidence_shown e)

-- ---- the plan, with its view: the last one

-- the logs that VIEW_CHANGEs show
abbrev pub shown_log : ViewChange → Option ShownLog
shown_log m = option_map (λ b. record { host = m.ui.host; body = b }) (whole_body m.body)

abbrev pub logs_of : List ViewChange → List ShownLog
logs_of changes = filter_map shown_log changes

abbrev pub plan_in_open : Open → Option (ℕ × Plan)
plan_in_open m = option_map (λ b. (m.evidence.view, record { base = b.stable; batches = b.batches })) (whole_body m.body)

abbrev pub is_plan_of : ℕ → Option (ℕ × Plan) → Bool
is_plan_of view None = false
is_plan_of view (Some p) = p.0 == view

-- the plan of a view, where it is the one that is held
abbrev pub plan_of_view : ℕ → Option (ℕ × Plan) → Option Plan
plan_of_view view None = None
plan_of_view view (Some p) = if p.0 == view then Some p.1 else None

module _ {S : Type 0} (self : Identity S) where
  -- the plan of these VIEW_CHANGEs
  abbrev pub plan_from : List ViewChange → Plan
  plan_from changes = plan_of self.shape (logs_of changes)

  abbrev pub plan_in_new_view : NewView → Option (ℕ × Plan)
  plan_in_new_view m = option_map (λ b. (m.view, plan_from b.changes)) (whole_body m.body)

  -- An OPEN gives its plan where its evidence comes to be held, and where evidence of its view is held without a plan of that view.
  abbrev pub gives_plan : History → Option (ℕ × Plan) → Evidence → Bool
  gives_plan d held e = is_news self d (evidence_of self d) e || (is_current self d e.view && (evidence_view (evidence_of self d) == e.view && not (is_plan_of e.view held)))

  abbrev pub plan_in : History → Option (ℕ × Plan) → Entry → Option (ℕ × Plan)
  plan_in d held (Accepted (message.NewView m)) = if is_current self d m.view then plan_in_new_view m else None
  plan_in d held (Stamped (stamped.NewView m)) = plan_in_new_view m
  plan_in d held (Accepted (message.Open m)) = if gives_plan d held m.evidence then plan_in_open m else None
  plan_in d held _ = None

  unfoldable pub plan_held : History → Option (ℕ × Plan)
  plan_held [] = None
  plan_held (e ∷ d) = option_or (plan_in d (plan_held d) e) (plan_held d)

  abbrev pub plan_at : History → ℕ → Option Plan
  plan_at d view = plan_of_view view (plan_held d)

-- ---- the evidence that a host can show for a view

-- of a view
abbrev pub evidence_in : ℕ → Option Evidence → Option Evidence
evidence_in view None = None
evidence_in view (Some e) = if e.view == view then Some e else None

abbrev pub new_view_in_view : ℕ → Option NewView → Option NewView
new_view_in_view view None = None
new_view_in_view view (Some n) = if n.view == view then Some n else None

-- An ENTER answers a NEW_VIEW.
abbrev pub answers : NewView → Enter → Bool
answers n m = m.view == n.view && (m.counter == n.ui.counter && same_bytes m.plan n.plan)

abbrev pub as_member : Enter → EvidenceMember
as_member m = record { host = m.ui.host; counter = m.ui.counter; cert = m.ui.cert }

module _ {S : Type 0} (self : Identity S) where
  -- the last ENTERs of the hosts that answer a NEW_VIEW, by rising host
  abbrev pub enters_for : History → NewView → List Enter
  enters_for d n = filter (answers n) (filter_map (enter_of d) (range_with_len 0 (host_count self.shape)))

  -- of a NEW_VIEW and the ENTERs of the f lowest hosts
  abbrev pub evidence_with : NewView → List Enter → Option Evidence
  evidence_with n enters = if nat_le (max_faults self.shape) (length enters) then Some (record {
    view = n.view;
    base = n.base;
    end = n.end;
    plan = n.plan;
    body = body_digest new_view_body_bytes n.body;
    counter = n.ui.counter;
    cert = n.ui.cert;
    members = map as_member (take (max_faults self.shape) enters);
  }) else None

  -- the held one of that view, else that of the held NEW_VIEW of that view
  abbrev pub evidence_for : History → ℕ → Option Evidence
  evidence_for d view = option_or (evidence_in view (evidence_of self d)) (option_and_then (λ n. evidence_with n (enters_for d n)) (new_view_in_view view (new_view_of self d)))
