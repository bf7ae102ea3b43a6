use Rattle.silt_merge.proofs.Common.{ap, ◌∙◌, refl, PieceState}
use Rattle.silt_merge.proofs.Comparing.{none_compared}
use Rattle.silt_merge.proofs.Stepping.{started}
use Rattle.silt_merge.proofs.merge.Merge.start.Goals as goal

pub returns-clause-merged : goal.returns-clause-merged
returns-clause-merged c = λ content. started _ _ _ _ _ _ _ _ _ _ _ c.geometry-geometry.ensures c.requires.apart c.new-4.ensures.empty c.new-5.ensures.empty (ap (λ (p : PieceState). p.parts)
    (c.slots.view_is ∙ c.in_ok-slots.ensures)) (ap (λ (p : PieceState). p.parts) (c.ahead.view_is ∙ c.in_ok-ahead.ensures)) c.in_ok-input.ensures c.new-6.ensures

pub returns-clause-compared : goal.returns-clause-compared
returns-clause-compared c = λ digest. none_compared _ _ digest _ refl refl refl c.in_ok-input.ensures
