use Rattle.std.proofs.Common.{sym, ◌∙◌}
use Rattle.mb_members.proofs.MarkLaws.{marked_more}
use Rattle.mb_world.proofs.WorldLaws.{on_ok_more}
use Rattle.mb_world.proofs.world.World.mark_clean.Goals as goal

pub returns-clause-stands : goal.returns-clause-stands
returns-clause-stands g c = λ y x h.
    let old = h.rest in
    let is = c.requires.clean y x h (sym (c.is_faulty.ensures y x h) ∙ c.if-is_faulty.false) in
    on_ok_more c.note_clean.result _ _ c.note_clean.ensures
    (λ one. record {
      members = h.members;
      rest = record {
        shape = old.shape;
        verifier = old.verifier;
        pens = old.pens;
        hosts = old.hosts;
        clients = old.clients;
        askers = old.askers;
        ledger = old.ledger;
        pool = old.pool;
        marks = marked_more y.schedule x c.args.self.now.marks.items _ c.args.number one is old.marks;
        line = old.line;
        refused = old.refused;
        events = old.events;
      };
    })
