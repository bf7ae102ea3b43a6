use Rattle.std.proofs.Common.{◌≡◌, ◌≤◌, Some, length, map, take, vec_capacity, vec_len}
use Rattle.std.specs.List.{range_with_len}
use Rattle.silt.specs.Services.{least_merged}
use Rattle.silt.proofs.set_service.gates_of.Given as goal

-- each store so far has its gate, and there is room for the others
abbrev pub invariant-loop-core : goal.invariant-loop-core
invariant-loop-core g l = record {
  count : vec_len l.gates ≡ l.core-index;
  room : length l.cores ≤ vec_capacity l.gates;
  shards : map (λ gate. gate.shard) l.gates.items ≡ map Some (range_with_len 0 l.core-index);
  least : map (λ gate. gate.least) l.gates.items ≡ map (λ core. least_merged l.parts.merge_at core.shape.hashes) (take l.core-index l.cores);
}
