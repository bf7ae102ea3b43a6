use Rattle.silt_desk.proofs.Common.{◌∙◌, ap, swap_reply}
use Rattle.silt_desk.proofs.Serving.{swap_plain, keeps, serves}
use Rattle.silt_desk.proofs.desk.Desk.swap.Goals as goal

pub returns : goal.returns
returns g c = rw (← c.self.view_is) (serves g.D.Disk g.T.Trace _ _ _ _ c.self.inside.ledgers c.note_both.new.ledgers _ _ _ _ _
    (ap swap_reply c.plain.ensures ∙ swap_plain c.swap-answer.result) c.swap-answer.ensures
    (rw (c.is_some.ensures, c.is_some-2.ensures, c.or_none-value.ensures, c.or_none-second.ensures) at c.note_both.ensures))

pub invariant_of-self : goal.invariant_of-self
invariant_of-self g c =
    keeps g.D.Disk g.T.Trace _ _ _ _ _ _ c.args.seat.now c.note_both.new.seat _ g.met.T.Trace.agrees_after g.met.T.Trace.counts_after _ _
    (ap swap_reply c.plain.ensures ∙ swap_plain c.swap-answer.result) c.swap-answer.ensures
    (rw (c.is_some.ensures, c.is_some-2.ensures, c.or_none-value.ensures, c.or_none-second.ensures) at c.note_both.ensures) c.self.invariant
