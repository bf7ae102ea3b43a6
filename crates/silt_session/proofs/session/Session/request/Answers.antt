use Rattle.silt_session.proofs.Pipelines.{alone_comes, alone_order}
use Rattle.silt_session.proofs.session.Session.request.Goals as goal

pub returns-in-Ok-commit-clause-reply : goal.returns-in-Ok-commit-clause-reply
returns-in-Ok-commit-clause-reply g c =
    alone_comes g.D.Disk g.T.Trace c.reply_alone.new.told c.args.request c.in-Ok.tasks.items c.in-Ok-commit.tasks.items c.reply_alone.result
    c.ok_or.result c.in-Ok.ensures c.in-Ok-commit.ensures c.ok_or.ensures.ok_part
    c.reply_alone.ensures.reply

pub returns-in-Ok-commit-clause-order : goal.returns-in-Ok-commit-clause-order
returns-in-Ok-commit-clause-order g c =
    alone_order c.reply_alone.new.told c.args.request c.in-Ok.tasks.items c.in-Ok-commit.tasks.items c.reply_alone.result
    c.ok_or.result c.in-Ok.ensures c.in-Ok-commit.ensures c.ok_or.ensures.ok_part
    c.reply_alone.ensures.order
