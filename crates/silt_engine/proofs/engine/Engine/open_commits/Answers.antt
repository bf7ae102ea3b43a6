use Rattle.silt_engine.proofs.Common.{[]}
use Rattle.silt_engine.proofs.Flushes.{flush_breaks, flush_failed_map, flushed, flushed_quiet}
use Rattle.silt_engine.proofs.Exits.{on_error, same_disk, went_so}
use Rattle.silt_engine.proofs.engine.Engine.open_commits.Goals as goal

pub returns-in_err-open_commits-clause-err : goal.returns-in_err-open_commits-clause-err
returns-in_err-open_commits-clause-err g c =
    let stands = rw (← c.self.view_is) at c.requires.stands in
    on_error _ _ _ c.from_residual.ensures.1 (rw (← c.self.view_is) (record {
      counted = c.in_err-open_commits.ensures.wrote.failures;
      breaks = flush_breaks _ _ _ _ stands c.open_commits.ensures.wrote.size c.open_commits.ensures.wrote.changes c.in_err-open_commits.ensures.err;
      map = flush_failed_map _ _ _ _ stands c.open_commits.ensures.wrote.size c.open_commits.ensures.wrote.changes c.in_err-open_commits.ensures.err;
    }))

pub returns-clause-works : goal.returns-clause-works
returns-clause-works g c =
    let stands = rw (← c.self.view_is) at c.requires.stands in
    rw (← c.self.view_is) (went_so g.D.Disk [] _ _ _ _ _ (same_disk c.open_commits.ensures.wrote) stands c.in_ok-open_commits.ensures.wrote.failures (flushed _ _ _ c.open_commits.new.self
    stands c.open_commits.ensures.wrote.size c.open_commits.ensures.wrote.changes c.in_ok-open_commits.ensures.ok) c.in_ok-open_commits.ensures.wrote.made)

pub returns-clause-quiet : goal.returns-clause-quiet
returns-clause-quiet g c =
    let stands = rw (← c.self.view_is) at c.requires.stands in
    flushed_quiet _ _ _ _ stands c.open_commits.ensures.wrote.size c.open_commits.ensures.wrote.changes c.in_ok-open_commits.ensures.ok
