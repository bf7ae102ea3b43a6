use Rattle.silt_shards.proofs.Common.{◌≡◌, ◌++◌, ◌∷◌, [], List, length, length-append, append_assoc, refl, sym, ◌∙◌, ap, arith, into_iter_items, AllZip-long, IsAttemptOn}
use Rattle.silt_shards.specs.declared.attempt.Attempt.TheVariants.{Due}
use Rattle.silt_shards.proofs.Attempts.{zip_whole}
use Rattle.silt_shards.proofs.Openings.{zip_more}
use Rattle.silt_shards.proofs.shard_files.all_due.Goals as goal

pub loop-disk-init : goal.loop-disk-init
loop-disk-init g c =
    let given = c.into_iter-disk-iterator.ensures.into_iter_gives in
    record {
      can = tt;
      finite = tt;
      room = omega (arith, c.requires.room, ap length c.requires.none, ap length given.0, c.args.disks.ok, c.args.attempts.ok);
      due = ([], refl, rw c.requires.none tt);
    }

pub loop-disk-preserved : goal.loop-disk-preserved
loop-disk-preserved g c =
    let before = c.loop-disk.invariant in
    let due = before.due in
    let steps = c.in-Some.ensures.steps in
    record {
      can = tt;
      finite = tt;
      room = omega (arith, before.room, ap length steps.0, c.push_reserved.ensures.len, c.push_reserved.ensures.capacity);
      due = (
        due.0 ++ c.in-Some.disk ∷ [],
        append_assoc due.0 (c.in-Some.disk ∷ []) (into_iter_items c.next.new.self) ∙ ap (λ (l : List g.row.D.Denot). due.0 ++ l) (sym steps.0) ∙ due.1,
        rw c.push_reserved.ensures.items (zip_more (IsAttemptOn g.D.Disk) due.0 c.loop-disk.attempts.items c.in-Some.disk (Due c.in-Some.disk) due.2 refl),
      );
    }

pub returns-clause-due : goal.returns-clause-due
returns-clause-due g c =
    let due = c.loop-disk.invariant.due in
    zip_whole (IsAttemptOn g.D.Disk) _ _ _ _ (due.1 ∙ c.into_iter-disk-iterator.ensures.into_iter_gives.0) (omega (arith, c.in-None.ensures.steps.0, c.loop-disk.disk-iterator.rest.ok)) due.2

pub returns-clause-count : goal.returns-clause-count
returns-clause-count g c =
    let due = c.loop-disk.invariant.due in
    let given = c.into_iter-disk-iterator.ensures.into_iter_gives in
    let none : length (into_iter_items c.loop-disk.disk-iterator) ≡ 0 = omega (arith, c.in-None.ensures.steps.0, c.loop-disk.disk-iterator.rest.ok) in
    let same : length c.loop-disk.attempts.items ≡ length due.0 = AllZip-long (IsAttemptOn g.D.Disk) due.0 c.loop-disk.attempts.items due.2 in
    omega (arith, same, none, length-append due.0 (into_iter_items c.loop-disk.disk-iterator), ap length due.1, ap length given.0, c.loop-disk.attempts.ok, c.args.disks.ok)
