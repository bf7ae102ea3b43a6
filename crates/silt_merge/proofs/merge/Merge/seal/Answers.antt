use Rattle.silt_merge.proofs.Common.{ap, BuilderState}
use Rattle.silt_merge.proofs.Ending.{seals}
use Rattle.silt_merge.proofs.Viewing.{state_of}
use Rattle.silt_merge.proofs.merge.Merge.seal.Goals as goal

pub returns-clause-made : goal.returns-clause-made
returns-clause-made c =
    let made = c.in_ok-seal.ensures.made in
    rw (← c.self.view_is) (seals (state_of c.self.inside) _ (made.0, ap (λ (b : BuilderState). record (state_of c.self.inside) { index = b }) made.1, made.2))
