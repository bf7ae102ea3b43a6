use Rattle.silt_jobs.proofs.Common.{◌≡◌, ◌≤◌, ◌∙◌, ℕ, drop, length, max, suc, vec_len, refl, sym, ap, subst, arith, into_iter_items, HasFailed, exit_status, worst_status}
use Rattle.silt_shards.proofs.Openings.{count_most}
use Rattle.silt_jobs.proofs.SetParts.{all_done, behind_place, broken_off, done_next, worst_more}
use Rattle.silt_jobs.proofs.jobs.set_jobs.do_on_each.Goals as goal

pub loop-disk-init : goal.loop-disk-init
loop-disk-init g c =
    let given = c.into_iter-disk-iterator.ensures.into_iter_gives in
    let none = c.in-Ok.ensures.len in
    record {
      can = tt;
      finite = tt;
      room = omega (arith, none, c.in-Ok.ensures.capacity, c.len.ensures, ap length given.0, c.args.disks.ok);
      count = omega (arith, none);
      rest = rw none refl;
      does = rw none (c.in-Ok.ensures.items, refl);
      worst = ap (worst_status 0) (sym c.in-Ok.ensures.items);
    }

pub returns-then-is_broken : goal.returns-then-is_broken
returns-then-is_broken g c =
    let before = c.loop-disk.invariant in
    let given = c.into_iter-disk-iterator.ensures.into_iter_gives in
    let most : vec_len c.args.disks ≤ 64 = count_most (vec_len c.args.disks) c.requires in
    broken_off g.D.Disk (HasFailed g.D.Watched.kept_read g.D.Watched.last_failure) c.args.job (into_iter_items c.into_iter-disk-iterator.result) c.args.disks.items (vec_len c.loop-disk.parts) _
    (vec_len c.args.disks) c.in-Some.disk (into_iter_items c.next.new.self) c.do_shard-part.result (record { parts = c.loop-disk.parts; whole = c.at_shard.result }) _ _ _ given.0
    (omega (arith, most, c.len-shard.ensures, before.count, ap length given.0, c.args.disks.ok)) (before.rest ∙ c.in-Some.ensures.steps.0) before.does
    (sym c.is_broken.ensures ∙ c.if-is_broken.true) c.do_shard-part.ensures c.at_shard.ensures

pub loop-disk-preserved : goal.loop-disk-preserved
loop-disk-preserved g c =
    let before = c.loop-disk.invariant in
    let steps = c.in-Some.ensures.steps in
    let given = c.into_iter-disk-iterator.ensures.into_iter_gives in
    let most : vec_len c.args.disks ≤ 64 = count_most (vec_len c.args.disks) c.requires in
    let all = into_iter_items c.into_iter-disk-iterator.result in
    let more : vec_len c.push_reserved.new.self ≡ suc (vec_len c.loop-disk.parts) = omega (arith, c.push_reserved.ensures.len) in
    record {
      can = tt;
      finite = tt;
      room = omega (arith, before.room, ap length steps.0, c.push_reserved.ensures.len, c.push_reserved.ensures.capacity);
      count = omega (arith, before.count, ap length steps.0, c.push_reserved.ensures.len);
      rest = subst (λ (n : ℕ). drop n all ≡ into_iter_items c.next.new.self) (sym more)
          (behind_place all (vec_len c.loop-disk.parts) c.in-Some.disk (into_iter_items c.next.new.self) (before.rest ∙ steps.0));
      does = done_next g.D.Disk (HasFailed g.D.Watched.kept_read g.D.Watched.last_failure) c.args.job all (vec_len c.loop-disk.parts) _ (vec_len c.push_reserved.new.self) c.loop-disk.parts.items _
          c.in-Some.disk (into_iter_items c.next.new.self) c.do_shard-part.result _ _ _ (omega (arith, most, c.len-shard.ensures, before.count, ap length given.0, c.args.disks.ok)) more
          c.push_reserved.ensures.items (before.rest ∙ steps.0) (sym c.is_broken.ensures ∙ c.if-is_broken.false) before.does c.do_shard-part.ensures;
      worst = c.worse-worst.ensures ∙ ap (λ (n : ℕ). max n c.exit_status.result) before.worst ∙ ap (λ (n : ℕ). max (worst_status 0 c.loop-disk.parts.items) n) c.exit_status.ensures
          ∙ sym (worst_more 0 c.loop-disk.parts.items c.do_shard-part.result) ∙ ap (worst_status 0) (sym c.push_reserved.ensures.items);
    }

pub returns : goal.returns
returns g c =
    let before = c.loop-disk.invariant in
    let given = c.into_iter-disk-iterator.ensures.into_iter_gives in
    let none : length (into_iter_items c.loop-disk.disk-iterator) ≡ 0 = omega (arith, c.in-None.ensures.steps.0, c.loop-disk.disk-iterator.rest.ok) in
    all_done g.D.Disk (HasFailed g.D.Watched.kept_read g.D.Watched.last_failure) c.args.job (into_iter_items c.into_iter-disk-iterator.result) c.args.disks.items (vec_len c.loop-disk.parts)
    (vec_len c.args.disks) c.loop-disk.worst (record { parts = c.loop-disk.parts; whole = c.plain.result }) _ _ given.0
    (omega (arith, none, before.count, ap length given.0, c.args.disks.ok)) before.does
    before.worst c.plain.ensures
