use Rattle.silt_session.proofs.Common.{ap, refl, ◌∙◌, Pipeline}
use Rattle.silt_session.proofs.Tolds.{more_both, more_none}
use Rattle.silt_session.proofs.pipeline.Pipeline.learn.Goals as goal

pub loop-task-init : goal.loop-task-init
loop-task-init g c = record { told = more_none _; next = refl; same = refl }

pub loop-task-preserved : goal.loop-task-preserved
loop-task-preserved g c =
    let before = c.loop-task.invariant in
    record {
      told = more_both _ _ _ before.told c.learn.ensures.told;
      next = c.learn.ensures.next ∙ before.next;
      same = ap (λ (p : Pipeline _ _ _). record p { told = c.learn.new.self }) before.same;
    }
