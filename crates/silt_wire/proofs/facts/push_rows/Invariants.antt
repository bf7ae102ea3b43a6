use Rattle.silt_wire.proofs.Common.{◌≡◌, ◌++◌, flat_map, map, string_bytes, take, fact_line}
use Rattle.silt_wire.proofs.facts.push_rows.Given as goal

abbrev pub invariant-loop-name : goal.invariant-loop-name
invariant-loop-name l = string_bytes l.text ≡ string_bytes l.initial.text ++ flat_map fact_line (map (λ row. (row.0.now, row.1)) (take l.name-index l.rows))
