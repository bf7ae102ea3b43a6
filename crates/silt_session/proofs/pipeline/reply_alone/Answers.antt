use Rattle.silt_session.proofs.Common.{rules}
use Rattle.silt_session.proofs.Pipelines.{reply_passes, task_order}
use Rattle.silt_session.proofs.Tolds.{more_both, more_passed, starts_before}
use Rattle.silt_session.proofs.pipeline.reply_alone.Goals as goal

pub returns-clause-told : goal.returns-clause-told
returns-clause-told g c = more_both _ _ _ c.learn.ensures.told (more_passed _ _ c.tell.ensures.told)

pub returns-clause-reply : goal.returns-clause-reply
returns-clause-reply g c =
    reply_passes g.D.Disk g.T.Trace c.learn.new.self c.tell.new.told c.tell.ensures.told c.in_ok-task.task c.args.tasks.items c.tell.result (search rules) c.tell.ensures.reply

pub returns-clause-order : goal.returns-clause-order
returns-clause-order g c =
    task_order c.learn.new.self c.tell.new.told (starts_before _ _ c.learn.ensures.told c.requires) c.tell.ensures.told c.in_ok-task.task c.args.tasks.items c.tell.result
    (search rules) c.tell.ensures.place
