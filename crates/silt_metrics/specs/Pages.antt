-- The text of the page.
use Rattle.std.specs.Prelude.{ℕ, List, [], ◌∷◌, ◌++◌, codes, if◌then◌else◌}
use Rattle.std.specs.Fmt.{decimal}
use Rattle.std.specs.List.{flat_map, list_any}
use Rattle.std.specs.Str.{bytes_eq}
use Rattle.silt_event.specs.declared.counts.Counts.{Counts}
use Rattle.silt_event.specs.declared.facts.Facts.{Facts}
use Rattle.silt_wire.specs.Facts.{count_rows, fact_rows}

-- the names of the counts that may fall
abbrev pub falling : List (List ℕ)
falling = codes "uptime" ∷ codes "open_connections" ∷ codes "last_failure" ∷ []

-- a number that only grows is a counter, and any other is a gauge
unfoldable pub count_type : List ℕ → List ℕ
count_type name = if list_any (bytes_eq name) falling then codes "gauge" else codes "counter"

-- a number with its type and its name
unfoldable pub metric : List ℕ → List ℕ × ℕ → List ℕ
metric type row = codes "# TYPE silt_" ++ (row.0 ++ (codes " " ++ (type ++ (codes "\nsilt_" ++ (row.0 ++ (codes " " ++ (decimal row.1 ++ codes "\n")))))))

-- a fact may fall
abbrev pub fact_metric : List ℕ × ℕ → List ℕ
fact_metric row = metric (codes "gauge") row

abbrev pub count_metric : List ℕ × ℕ → List ℕ
count_metric row = metric (count_type row.0) row

-- the facts and the counts, in their order
abbrev pub page_text : Facts → Counts → List ℕ
page_text facts counts = flat_map fact_metric (fact_rows facts) ++ flat_map count_metric (count_rows counts)
