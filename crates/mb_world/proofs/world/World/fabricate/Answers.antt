use Rattle.std.proofs.Common.{◌≡◌, None, refl, subst}
use Rattle.mb_schedule.specs.declared.schedule.Name.TheVariants as name
use Rattle.mb_schedule.specs.declared.schedule.WorldEvent.{WorldEvent}
use Rattle.mb_schedule.specs.declared.schedule.WorldEvent.TheVariants.{Sign, TagReply, TagWish, StampRaw}
use Rattle.mb_world_model.specs.Stops.{stop_of}
use Rattle.mb_world.proofs.StopLaws.{is_doer_faulty, no_name}
use Rattle.mb_world.proofs.EventLaws.{signs, tags_reply, tags_wish, stamps_raw}
use Rattle.mb_world.proofs.world.World.fabricate.Goals as goal

pub returns-in-Sign-clause-stands : goal.returns-in-Sign-clause-stands
returns-in-Sign-clause-stands g c = λ y x h.
    let stop = subst (λ (e : WorldEvent). stop_of y.schedule x e ≡ None) c.in-Sign.is (c.requires.there y x h) in
    let faulty = is_doer_faulty y.schedule x (Sign c.in-Sign.client c.in-Sign.seq c.in-Sign.op) (name.Client c.in-Sign.client) refl (no_name y.schedule x (Sign c.in-Sign.client c.in-Sign.seq c.in-Sign.op) stop) in
    rw (c.in-Sign.is, signs y x c.in-Sign.client c.in-Sign.seq c.in-Sign.op faulty) (c.sign.ensures.stands y x h)

pub returns-in-TagReply-clause-stands : goal.returns-in-TagReply-clause-stands
returns-in-TagReply-clause-stands g c = λ y x h.
    let stop = subst (λ (e : WorldEvent). stop_of y.schedule x e ≡ None) c.in-TagReply.is (c.requires.there y x h) in
    let faulty = is_doer_faulty y.schedule x (TagReply c.in-TagReply.host c.in-TagReply.client c.in-TagReply.seq c.in-TagReply.pos c.in-TagReply.answer) (name.Host c.in-TagReply.host) refl (no_name y.schedule x (TagReply c.in-TagReply.host c.in-TagReply.client c.in-TagReply.seq c.in-TagReply.pos c.in-TagReply.answer) stop) in
    rw (c.in-TagReply.is, tags_reply y x c.in-TagReply.host c.in-TagReply.client c.in-TagReply.seq c.in-TagReply.pos c.in-TagReply.answer faulty) (c.tag_reply.ensures.stands y x h faulty)

pub returns-in-TagWish-clause-stands : goal.returns-in-TagWish-clause-stands
returns-in-TagWish-clause-stands g c = λ y x h.
    let stop = subst (λ (e : WorldEvent). stop_of y.schedule x e ≡ None) c.in-TagWish.is (c.requires.there y x h) in
    let faulty = is_doer_faulty y.schedule x (TagWish c.in-TagWish.host c.in-TagWish.view) (name.Host c.in-TagWish.host) refl (no_name y.schedule x (TagWish c.in-TagWish.host c.in-TagWish.view) stop) in
    rw (c.in-TagWish.is, tags_wish y x c.in-TagWish.host c.in-TagWish.view faulty) (c.tag_wish.ensures.stands y x h faulty)

pub returns-in-StampRaw-clause-stands : goal.returns-in-StampRaw-clause-stands
returns-in-StampRaw-clause-stands g c = λ y x h.
    let stop = subst (λ (e : WorldEvent). stop_of y.schedule x e ≡ None) c.in-StampRaw.is (c.requires.there y x h) in
    let faulty = is_doer_faulty y.schedule x (StampRaw c.in-StampRaw.host c.in-StampRaw.bytes) (name.Host c.in-StampRaw.host) refl (no_name y.schedule x (StampRaw c.in-StampRaw.host c.in-StampRaw.bytes) stop) in
    rw (c.in-StampRaw.is, stamps_raw y x c.in-StampRaw.host c.in-StampRaw.bytes faulty, ← c.as_slice.ensures) (c.stamp_raw.ensures.stands y x h faulty)
