use Rattle.silt_session.proofs.Common.{Vec, ◌∙◌, ap, sym, requests_of}
use Rattle.silt_session.proofs.JobLogs.{awaited_come}
use Rattle.silt_session.proofs.pipeline.Handed.wait.Goals as goal

pub returns-in-Some : goal.returns-in-Some
returns-in-Some g c = λ requests asks.
    awaited_come (λ (tasks : Vec _ _). tasks.items) c.in-Some.awaited.ticket.asked requests c.wait.result c.ok_or.result (rw c.in-Some.is at asks) c.ok_or.ensures.ok_part
    (rw c.in-Some.is at c.wait.ensures)

pub returns-in-None : goal.returns-in-None
returns-in-None g c = λ requests asks. ap requests_of c.new.ensures.items ∙ sym (rw c.in-None.is at asks)
