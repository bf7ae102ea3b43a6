use Rattle.silt_log.proofs.Common.{◌∙◌}
use Rattle.silt_log.proofs.CommitByteExits.{prepare_done}
use Rattle.silt_log.proofs.Splices.{fills_at}
use Rattle.silt_log.proofs.log.Log.prepare.Goals as goal

pub returns-clause-written : goal.returns-clause-written
returns-clause-written g c =
    rw (← c.self.view_is) (fills_at _ _ _ _ 0 _ _ c.commits_at-at.ensures.value (c.deref_mut.ensures.len ∙ c.self.invariant.buffer) c.in_ok-write_commits.ensures.written)

pub returns-clause-ok : goal.returns-clause-ok
returns-clause-ok g c =
    let written = rw c.commits_at-at.ensures.value at c.in_ok-write_commits.ensures.written in
    rw (← c.self.view_is) (prepare_done (g.D.Disk.content c.args.disk.now) _ _ _ c.self.invariant.bounds.region (rw (← c.self.view_is) at c.requires.size)
    c.write_commits.ensures.wrote.size (c.deref_mut.ensures.len ∙ c.self.invariant.buffer) written c.in_ok-write_commits.ensures.rests)
