use Rattle.silt_shards.proofs.Common.{◌≡◌, length, rules, ap, ◌∙◌, arith, IsAttemptOn}
use Rattle.silt_shards.proofs.Attempts.{all_back, zip_changed}
use Rattle.silt_shards.proofs.shard_files.make_all.Goals as goal

pub returns-clause-on : goal.returns-clause-on
returns-clause-on g c = λ disks every.
    let value : c.as_mut_slice.result.now ≡ c.args.attempts.items = search rules in
    let same : length c.for_each_mut.new.s ≡ length c.as_mut_slice.result.now = search rules in
    let made = zip_changed (IsAttemptOn g.D.Disk) disks c.as_mut_slice.result.now c.for_each_mut.new.s same
    (λ i d within disk on.
    let at = (c.for_each_mut.ensures i d within).1 in
    rw at.left at (at.call disk (rw (← at.argument_is) at on)))
    (rw value every) in
    rw (all_back c.args.attempts.len c.for_each_mut.new.s c.args.attempts.items (same ∙ ap length value) (omega (arith, c.args.attempts.ok))) made
