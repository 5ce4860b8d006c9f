-- Earlier moments of a history (`IsPast`): what was so then, what was stamped by then, and the moment at which a message was stamped.
use Rattle.std.proofs.Common.{◌≡◌, List, [], ◌∷◌, ◌++◌, refl, sym, ap, subst, ◌∙◌, inl, inr}
use Rattle.mb_parts.specs.Bares.{Bare}
use Rattle.mb_parts.specs.Counters.{IsBeginning}
use Rattle.mb_msg.specs.declared.stamped.Stamped.{Stamped as StampedMessage}
use Rattle.mb_msg.specs.Stamps.{bare_of}
use Rattle.mb_model.specs.Histories.{Entry, Stamped, History, Identity, said, stamped as all_stamped}
use Rattle.mb_steps.specs.OwnLists.{AreNumbered}
use Rattle.mb_model.specs.Members.{In}
use Rattle.mb_steps.specs.Arises.{Arises}
use Rattle.mb_host_laws.specs.Rests.{Each}

-- ---- how a history once was

pub record IsPast (d whole : History) : Type 0 where
  pub later : History
  pub is : later ++ d ≡ whole

pub past_tail : (e : Entry) (d whole : History) → IsPast (e ∷ d) whole → IsPast d whole
past_tail e d whole p = record { later = p.later ++ e ∷ []; is = moved p.later ∙ p.is } where
  moved : (l : History) → (l ++ e ∷ []) ++ d ≡ l ++ e ∷ d
  moved [] = refl
  moved (x ∷ l) = ap (λ (y : History). x ∷ y) (moved l)

pub past_said : (later d : History) → IsBeginning (said d) (said (later ++ d))
unfolding all_stamped
past_said [] d = record { later = []; is = refl }
past_said (Stamped m ∷ later) d = let b = past_said later d in record { later = bare_of m ∷ b.later; is = ap (λ (y : List Bare). bare_of m ∷ y) b.is }
past_said (e ∷ later) d = past_said later d

pub each_past : (P : Entry → History → Type 0) (later d : History) → Each P (later ++ d) → Each P d
each_past P [] d a = a
each_past P (e ∷ later) d a = each_past P later d a.1

pub each_at : (P : Entry → History → Type 0) (d whole : History) → IsPast d whole → Each P whole → Each P d
each_at P d whole p a = each_past P p.later d (subst (λ (x : History). Each P x) (sym p.is) a)

pub past_numbered : {S : Type 0} (self : Identity S) (later d : History) → AreNumbered self (all_stamped (later ++ d)) → AreNumbered self (all_stamped d)
unfolding all_stamped
past_numbered self [] d n = n
past_numbered self (Stamped m ∷ later) d n = past_numbered self later d n.1
past_numbered self (e ∷ later) d n = past_numbered self later d n

pub arises_by : {S : Type 0} (self : Identity S) (later d : History) → Arises self (later ++ d) → Arises self d
arises_by self [] d a = a
arises_by self (e ∷ later) d a = arises_by self later d a.1

-- ---- the moment at which a message was stamped

pub record WasStamped (d : History) (m : StampedMessage) : Type 0 where
  pub before : History
  pub past : IsPast (Stamped m ∷ before) d

pub was_stamped : (d : History) (m : StampedMessage) → In (all_stamped d) m → WasStamped d m
unfolding all_stamped
was_stamped [] m i = absurd i
was_stamped (Stamped x ∷ d) m (inl is) = record { before = d; past = record { later = []; is = ap (λ (y : StampedMessage). Stamped y ∷ d) (sym is) } }
was_stamped (Stamped x ∷ d) m (inr i) = let r = was_stamped d m i in record { before = r.before; past = record { later = Stamped x ∷ r.past.later; is = ap (λ (y : History). Stamped x ∷ y) r.past.is } }
was_stamped (e ∷ d) m i = let r = was_stamped d m i in record { before = r.before; past = record { later = e ∷ r.past.later; is = ap (λ (y : History). e ∷ y) r.past.is } }

pub entry_stamped : (d : History) (m : StampedMessage) → In d (Stamped m) → In (all_stamped d) m
unfolding all_stamped
entry_stamped [] m i = absurd i
entry_stamped (Stamped x ∷ d) m (inl is) = inl (same x m is) where
  same : (x y : StampedMessage) → Stamped x ≡ Stamped y → x ≡ y
  same x y e = cc
entry_stamped (Stamped x ∷ d) m (inr i) = inr (entry_stamped d m i)
entry_stamped (e ∷ d) m (inl is) = absurd cc
entry_stamped (e ∷ d) m (inr i) = entry_stamped d m i

-- a moment before a moment
pub past_past : (d e whole : History) → IsPast d e → IsPast e whole → IsPast d whole
past_past d e whole p q = record { later = q.later ++ p.later; is = joined q.later p.later d ∙ ap (λ (x : History). q.later ++ x) p.is ∙ q.is } where
  joined : (a b c : History) → (a ++ b) ++ c ≡ a ++ (b ++ c)
  joined [] b c = refl
  joined (x ∷ a) b c = ap (λ (y : History). x ∷ y) (joined a b c)

-- What was stamped then is stamped.
pub stamped_by : (d : History) (m : StampedMessage) (whole : History) → IsPast (Stamped m ∷ d) whole → In (all_stamped whole) m
unfolding all_stamped
stamped_by d m whole p = subst (λ (x : History). In (all_stamped x) m) p.is (there p.later) where
  there : (later : History) → In (all_stamped (later ++ Stamped m ∷ d)) m
  there [] = inl refl
  there (Stamped x ∷ later) = inr (there later)
  there (e ∷ later) = there later
