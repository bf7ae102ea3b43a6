use Rattle.silt_jobs.proofs.Common.{◌∙◌, sym}
use Rattle.silt_jobs.proofs.BackgroundWork.{does_off, does_on}
use Rattle.silt_jobs.proofs.jobs.background_work.TendingAnswerer.answer.Goals as goal

pub returns-then-is_some-clause-answers : goal.returns-then-is_some-clause-answers
returns-then-is_some-clause-answers g c =
    rw (← c.self.view_is) (does_off g.D.Disk _ _ _ _ _ _ (sym c.is_some.ensures ∙ c.if-is_some.true) c.answer_on.ensures)

pub returns-clause-answers : goal.returns-clause-answers
returns-clause-answers g c =
    rw (← c.self.view_is) (does_on g.D.Disk _ _ _ _ _ _ _ _ (sym c.is_some.ensures ∙ c.if-is_some.false) c.tend_on-self-inside.ensures c.answer_on-2.ensures)
