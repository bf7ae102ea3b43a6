use Rattle.silt_desk.proofs.Common.{◌∙◌, ap, flush_reply}
use Rattle.silt_desk.proofs.Serving.{flush_plain, keeps, serves}
use Rattle.silt_desk.proofs.desk.Desk.flush.Goals as goal

pub returns : goal.returns
returns g c = rw (← c.self.view_is) (serves g.D.Disk g.T.Trace _ _ _ _ c.self.inside.ledgers c.note.new.ledgers _ _ _ _ _
    (ap flush_reply c.plain.ensures ∙ flush_plain c.flush-answer.result) c.flush-answer.ensures c.note.ensures)

pub invariant_of-self : goal.invariant_of-self
invariant_of-self g c =
    keeps g.D.Disk g.T.Trace _ _ _ _ _ _ c.args.seat.now c.note.new.seat _ g.met.T.Trace.agrees_after g.met.T.Trace.counts_after _ _
    (ap flush_reply c.plain.ensures ∙ flush_plain c.flush-answer.result) c.flush-answer.ensures c.note.ensures c.self.invariant
