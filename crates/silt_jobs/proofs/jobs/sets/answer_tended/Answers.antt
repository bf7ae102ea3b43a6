use Rattle.silt_jobs.proofs.Common.{◌≡◌, refl, rules}
use Rattle.silt_jobs.proofs.SessionEnds.{tended_stores}
use Rattle.silt_jobs.proofs.jobs.sets.answer_tended.Goals as goal

pub returns : goal.returns
returns g c =
    let whole : c.as_slice.result.now ≡ c.answer_set-stores.result.0.items = search rules in
    tended_stores g.W.Write.contents g.W.KeepsError.kept_error g.W.KeepsTally.kept_tally c.args.options (g.R.KeepsError.kept_error c.answer_set-stores.new.reader)
    g.D.Disk _ _ _ _ _ _ c.end_session.result c.end_session.ensures c.args.stores.items c.answer_set-stores.result.0.items _ (rw whole at c.refusal_of-refusal.ensures) refl c.answer_set-stores.ensures
