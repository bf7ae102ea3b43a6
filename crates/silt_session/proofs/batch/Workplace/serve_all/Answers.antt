use Rattle.silt_session.proofs.Common.{◌∙◌, ◌++◌, ◌∷◌, [], ap, counted}
use Rattle.silt_session.proofs.Batches.{batches_more}
use Rattle.silt_session.proofs.batch.Workplace.serve_all.Goals as goal

pub loop-preserved : goal.loop-preserved
loop-preserved g c =
    let before = c.loop.invariant in
    let jobs = c.in-Some-take_all.jobs in
    record {
      number = c.serve_batch-left.ensures.number ∙ before.number;
      batches = (
        before.batches.0 ++ jobs.items ∷ [],
        batches_more g.D.Disk g.T.Trace _ _ _ _ _ _ _ _ before.batches.0 _ _ c.serve_batch-left.result.1 before.batches.1
            c.serve_batch-left.ensures.batch (c.in-Some-take_all.ensures ∙ ap (λ n. counted n c.loop.taker) jobs.ok.0),
      );
    }
