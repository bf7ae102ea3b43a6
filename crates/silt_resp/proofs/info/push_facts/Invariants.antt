use Rattle.silt_resp.proofs.Common.{◌≡◌, ◌++◌, take}
use Rattle.std.proofs.Common.{flat_map, map}
use Rattle.silt_resp.specs.Info.{info_line}
use Rattle.silt_resp.proofs.info.push_facts.Given as goal

abbrev pub invariant-loop-name : goal.invariant-loop-name
invariant-loop-name l = l.out.items ≡ l.initial.out.items ++ flat_map info_line (map (λ row. (row.0.now, row.1)) (take l.name-index l.rows))
