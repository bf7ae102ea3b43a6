use Rattle.silt_shards.proofs.Common.{◌≡◌, ◌≤◌, length, ap, arith, into_iter_items}
use Rattle.silt_shards.proofs.Attempts.{gathers_all, gathers_more, gathers_next, gathers_none, gathers_refused}
use Rattle.silt_shards.proofs.Openings.{count_most, shape_more, shape_none}
use Rattle.silt_shards.proofs.shard_files.gather.Goals as goal

pub loop-attempt-init : goal.loop-attempt-init
loop-attempt-init g c =
    let given = c.into_iter-attempt-iterator.ensures.into_iter_gives in
    record {
      can = tt;
      finite = tt;
      room = omega (arith, c.requires.room, ap length c.requires.none, ap length given.0, c.args.attempts.ok, c.args.cores.ok);
      count = omega (arith, ap length c.requires.none, c.args.cores.ok);
      gathered = λ disks every. gathers_none g.D.Disk disks _ _ c.requires.none every;
      shape = rw c.requires.none shape_none;
    }

pub outcome-requires-after_bounds : goal.outcome-requires-after_bounds
outcome-requires-after_bounds g c κs within =
    let on = c.requires.on in
    let every = rw (← c.into_iter-attempt-iterator.ensures.into_iter_gives.0) at on.1 in
    gathers_next g.D.Disk on.0 c.loop-attempt.cores.items _ (into_iter_items c.next.new.self) (rw c.in-Some.ensures.steps.0 at (c.loop-attempt.invariant.gathered on.0 every))

pub next_store-requires-after_bounds : goal.next_store-requires-after_bounds
next_store-requires-after_bounds g c κs within =
    let given = c.into_iter-attempt-iterator.ensures.into_iter_gives in
    let most : c.args.attempts.len ≤ 64 = count_most c.args.attempts.len c.requires.count in
    omega (arith, most, c.loop-attempt.invariant.count, ap length given.0, ap length c.in-Some.ensures.steps.0, ap length c.as_slice.ensures.value, c.loop-attempt.cores.ok, c.args.attempts.ok)

pub returns-clause-opens : goal.returns-clause-opens
returns-clause-opens g c = λ disks every.
    let first = rw (← c.into_iter-attempt-iterator.ensures.into_iter_gives.0) at every in
    gathers_all g.D.Disk disks _ (into_iter_items c.loop-attempt.attempt-iterator) (c.loop-attempt.invariant.gathered disks first)
    (omega (arith, c.in-None.ensures.steps.0, c.loop-attempt.attempt-iterator.rest.ok))

pub returns-clause-count : goal.returns-clause-count
returns-clause-count g c =
    let given = c.into_iter-attempt-iterator.ensures.into_iter_gives in
    let none : length (into_iter_items c.loop-attempt.attempt-iterator) ≡ 0 = omega (arith, c.in-None.ensures.steps.0, c.loop-attempt.attempt-iterator.rest.ok) in
    omega (arith, c.loop-attempt.invariant.count, none, ap length given.0, c.loop-attempt.cores.ok, c.args.attempts.ok)

pub returns-in-Err-clause-cause : goal.returns-in-Err-clause-cause
returns-in-Err-clause-cause g c = λ disks every.
    let first = rw (← c.into_iter-attempt-iterator.ensures.into_iter_gives.0) at every in
    let now = rw (c.in-Some.ensures.steps.0, ← c.as_slice.ensures.value) at (c.loop-attempt.invariant.gathered disks first) in
    gathers_refused g.D.Disk disks c.as_slice.result.now c.in-Some.attempt (into_iter_items c.next.new.self) _ _ _ now c.in-Err.ensures.shard
    (λ disk on. c.in-Err.ensures.cause disk (c.outcome.ensures disk on)) (λ disk on. c.in-Err.ensures.images disk (c.outcome.ensures disk on))

pub loop-attempt-preserved : goal.loop-attempt-preserved
loop-attempt-preserved g c =
    let before = c.loop-attempt.invariant in
    let steps = c.in-Some.ensures.steps in
    record {
      can = tt;
      finite = tt;
      room = omega (arith, before.room, ap length steps.0, c.push_reserved.ensures.len, c.push_reserved.ensures.capacity);
      count = omega (arith, before.count, ap length steps.0, c.push_reserved.ensures.len);
      gathered = λ disks every.
          rw c.push_reserved.ensures.items (gathers_more g.D.Disk disks c.loop-attempt.cores.items c.in-Some.attempt (into_iter_items c.next.new.self) c.in-Ok.core
          (rw steps.0 at (before.gathered disks every)) (λ disk on. c.in-Ok.ensures.opens disk (c.outcome.ensures disk on)));
      shape = rw c.push_reserved.ensures.items (shape_more _ _ before.shape (rw c.as_slice.ensures.value at c.in-Ok.ensures.like));
    }
