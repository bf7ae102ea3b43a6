use Rattle.silt_desk.proofs.Common.{◌∙◌, ap, change_reply}
use Rattle.silt_desk.proofs.Serving.{change_plain, keeps, serves}
use Rattle.silt_desk.proofs.desk.Desk.put.Goals as goal

pub returns : goal.returns
returns g c = rw (← c.self.view_is) (serves g.D.Disk g.T.Trace _ _ _ _ c.self.inside.ledgers c.note.new.ledgers _ _ _ _ _
    (ap change_reply c.plain.ensures ∙ change_plain c.put-answer.result) c.put-answer.ensures c.note.ensures)

pub invariant_of-self : goal.invariant_of-self
invariant_of-self g c =
    keeps g.D.Disk g.T.Trace _ _ _ _ _ _ c.args.seat.now c.note.new.seat _ g.met.T.Trace.agrees_after g.met.T.Trace.counts_after _ _
    (ap change_reply c.plain.ensures ∙ change_plain c.put-answer.result) c.put-answer.ensures c.note.ensures c.self.invariant
