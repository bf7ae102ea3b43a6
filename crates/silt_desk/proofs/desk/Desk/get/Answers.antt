use Rattle.silt_desk.proofs.Common.{◌∙◌, ap, get_reply}
use Rattle.silt_desk.proofs.Serving.{get_plain, keeps, serves}
use Rattle.silt_desk.proofs.desk.Desk.get.Goals as goal

pub returns-clause-reply : goal.returns-clause-reply
returns-clause-reply g c = rw (← c.self.view_is) (serves g.D.Disk g.T.Trace _ _ _ _ c.self.inside.ledgers c.note.new.ledgers _ _ _ _ _
    (ap (get_reply c.get-answer.new.out) c.plain.ensures ∙ get_plain c.get-answer.new.out c.get-answer.result) c.get-answer.ensures.reply c.note.ensures)

pub invariant_of-self : goal.invariant_of-self
invariant_of-self g c =
    keeps g.D.Disk g.T.Trace _ _ _ _ _ _ c.args.seat.now c.note.new.seat _ g.met.T.Trace.agrees_after g.met.T.Trace.counts_after _ _
    (ap (get_reply c.get-answer.new.out) c.plain.ensures ∙ get_plain c.get-answer.new.out c.get-answer.result) c.get-answer.ensures.reply c.note.ensures c.self.invariant
