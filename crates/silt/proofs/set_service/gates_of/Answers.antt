use Rattle.std.proofs.Common.{arith, ap, ◌∙◌, ℕ, Some, get_or}
use Rattle.std.proofs.lemmas.List.{map_more}
use Rattle.std.proofs.lemmas.List.FromFn.{map-range_with_len_more}
use Rattle.silt_store_set.specs.CoreState.{CoreState}
use Rattle.silt.specs.Services.{least_merged}
use Rattle.silt.proofs.Gates.{one_more}
use Rattle.silt.proofs.set_service.gates_of.Goals as goal

pub loop-core-preserved : goal.loop-core-preserved
loop-core-preserved g c =
    let before = c.loop-core.invariant in
    let n = c.loop-core.core-index in
    let merged : CoreState g.row.D.Denot → ℕ = λ core. least_merged c.args.parts.now.merge_at core.shape.hashes in
    record {
      count = omega (arith, c.push_reserved.ensures.len, before.count);
      room = omega (arith, c.push_reserved.ensures.capacity, before.room);
      shards = one_more _ c.push_reserved.new.self.items c.loop-core.gates.items c.new-gate.result _ _ (Some n) c.push_reserved.ensures.items before.shards
          (c.new-gate.ensures.shard ∙ ap (λ (shard : ℕ). Some shard) (omega (arith, before.count, c.requires, c.loop-core-test.true, c.len-shard.ensures)))
          (map-range_with_len_more (λ (shard : ℕ). Some shard) 0 n n (omega arith));
      least = one_more _ c.push_reserved.new.self.items c.loop-core.gates.items c.new-gate.result _ _ (merged (get_or c.args.cores.now n c.core-item.result)) c.push_reserved.ensures.items before.least
          (c.new-gate.ensures.least ∙ ap merged c.core-item.is) (map_more merged c.args.cores.now n c.core-item.result c.loop-core-test.true);
    }
