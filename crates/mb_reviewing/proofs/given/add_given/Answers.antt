use Rattle.std.proofs.Common.{◌≡◌, ℕ, List, [], ◌∷◌, ◌++◌, sym, ap, ◌∙◌}
use Rattle.std.proofs.lemmas.List.{map-append}
use Rattle.std.specs.Global.{Vec}
use Rattle.mb_base.specs.Shapes.{Bytes}
use Rattle.mb_msg.specs.declared.event.Event.{Event}
use Rattle.mb_msg.specs.declared.event.Event.TheVariants.{Given}
use Rattle.mb_audit.specs.Stamps.{texts}
use Rattle.mb_reviewing.specs.Given.{given_by}
use Rattle.mb_reviewing.proofs.given.add_given.Goals as goal

given_more : (old new : List (Vec ℕ)) (v : Vec ℕ) (bytes : Bytes) (event : Event) → new ≡ old ++ v ∷ [] → v.items ≡ bytes → event ≡ Given bytes → texts new ≡ texts old ++ given_by event
given_more old new v bytes event more is given =
    ap texts more ∙ (map-append (λ (w : Vec ℕ). w.items) old (v ∷ []) ∙ (ap (λ (b : Bytes). texts old ++ b ∷ []) is ∙ sym (ap (λ (e : Event). texts old ++ given_by e) given)))

pub returns-in_ok-push-in-Given : goal.returns-in_ok-push-in-Given
returns-in_ok-push-in-Given c =
    given_more c.args.given.now.items c.push.new.self.items c.into_vec.result c.in-Given.bytes c.args.event c.in_ok-push-in-Given.ensures.items c.into_vec.ensures c.in-Given.is
