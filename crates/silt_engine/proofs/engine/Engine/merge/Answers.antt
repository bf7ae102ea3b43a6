use Rattle.silt_engine.proofs.Common.{◌≡◌, Some, sym, ◌∙◌}
use Rattle.silt_engine.proofs.MergeSteps.{refused_merge}
use Rattle.silt_engine.proofs.Exits.{refused}
use Rattle.silt_engine.proofs.engine.Engine.merge.Goals as goal

pub returns-in-Some-clause-works : goal.returns-in-Some-clause-works
returns-in-Some-clause-works g c = refused g.D.Disk c.args.disk.now c.args.self.now _

pub returns-in-Some-clause-err : goal.returns-in-Some-clause-err
returns-in-Some-clause-err g c = refused_merge g.D.Disk _ _ _ c.requires.stands (sym c.found_damaged.ensures ∙ c.in-Some.is)

pub returns-in-Some-clause-stuck : goal.returns-in-Some-clause-stuck
returns-in-Some-clause-stuck g c = λ place found. let same : Some c.in-Some.place ≡ Some place = sym c.in-Some.is ∙ c.found_damaged.ensures ∙ found in cc
