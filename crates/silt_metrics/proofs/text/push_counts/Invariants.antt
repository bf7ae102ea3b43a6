use Rattle.std.proofs.Common.{◌≡◌, ◌++◌, flat_map, map, string_bytes, take}
use Rattle.silt_metrics.specs.Pages.{count_metric}
use Rattle.silt_metrics.proofs.text.push_counts.Given as goal

abbrev pub invariant-loop-name : goal.invariant-loop-name
invariant-loop-name l = string_bytes l.text ≡ string_bytes l.initial.text ++ flat_map count_metric (map (λ row. (row.0.now, row.1)) (take l.name-index l.rows))
