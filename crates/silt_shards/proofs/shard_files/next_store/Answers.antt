use Rattle.silt_shards.proofs.Common.{◌≡◌, Ok, subst, GivesFor}
use Rattle.silt_shards.proofs.Openings.{other_shape}
use Rattle.silt_shards.proofs.shard_files.next_store.Goals as goal

pub returns-clause-cause : goal.returns-clause-cause
returns-clause-cause g c = λ disk gives count first opened.
    let is : c.args.opened ≡ Ok c.in-Ok.core = let a = c.in-Ok.is in let b = c.in-Ok.core-is in cc in
    let gave : GivesFor g.D.Disk disk (Ok c.in-Ok.core) = subst (GivesFor g.D.Disk disk) is gives in
    other_shape g.D.Disk c.args.cores.now c.in-Ok.core first disk (λ like. absurd (let shown = c.is_like.ensures.1 like in let hidden = c.if-is_like.false in cc)) opened gave.0
