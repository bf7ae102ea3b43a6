-- The texts of facts and of counts.
use Rattle.std.specs.Prelude.{ℕ, List, [], ◌∷◌, ◌++◌, codes, flat_map, zip, None, Option, Some}
use Rattle.std.specs.Fmt.{decimal}
use Rattle.silt_event.specs.declared.counts.Counts.{Counts}
use Rattle.silt_event.specs.declared.facts.Facts.{Facts}

-- the facts in the order of their texts, each a name and a number
abbrev pub fact_rows : Facts → List (List ℕ × ℕ)
fact_rows facts =
    (codes "stores", facts.stores) ∷ (codes "failed", facts.failed) ∷ (codes "commands", facts.commands) ∷ (codes "charge", facts.charge)
    ∷ (codes "capacity", facts.capacity) ∷ (codes "generation", facts.generation) ∷ (codes "frozen_logs", facts.frozen_logs)
    ∷ (codes "hash_stores", facts.hash_stores) ∷ (codes "sorted_entries", facts.sorted_entries)
    ∷ (codes "converted_slots", facts.converted_slots) ∷ (codes "merge_steps", facts.merge_steps) ∷ []

-- a fact as a line
abbrev pub fact_line : List ℕ × ℕ → List ℕ
fact_line row = row.0 ++ (codes " " ++ (decimal row.1 ++ codes "\n"))

-- the names of the counts, in their order
abbrev pub count_names : List (List ℕ)
count_names =
    codes "uptime" ∷ codes "connections" ∷ codes "open_connections" ∷ codes "refused_connections"
    ∷ codes "gets" ∷ codes "puts" ∷ codes "deletes" ∷ codes "swaps" ∷ codes "flushes"
    ∷ codes "refused_1" ∷ codes "refused_2" ∷ codes "refused_3" ∷ codes "refused_4" ∷ codes "refused_5" ∷ codes "refused_6"
    ∷ codes "refused_7" ∷ codes "refused_8" ∷ codes "refused_9" ∷ codes "refused_10" ∷ codes "refused_11"
    ∷ codes "batches" ∷ codes "batches_128us" ∷ codes "batches_256us" ∷ codes "batches_512us" ∷ codes "batches_1ms" ∷ codes "batches_2ms"
    ∷ codes "batches_4ms" ∷ codes "batches_8ms" ∷ codes "batches_16ms" ∷ codes "batches_32ms" ∷ codes "batches_65ms"
    ∷ codes "batches_131ms" ∷ codes "batches_262ms" ∷ codes "batches_longer"
    ∷ codes "last_failure" ∷ codes "findings" ∷ codes "scrubs" ∷ codes "backups" ∷ []

-- the counts in the order of their texts, each a name and a number
abbrev pub count_rows : Counts → List (List ℕ × ℕ)
count_rows counts = zip count_names counts.numbers

-- the rows of the counts, if there are some
abbrev pub counts_rows : Option Counts → List (List ℕ × ℕ)
counts_rows None = []
counts_rows (Some counts) = count_rows counts

-- the facts and the counts, a line each, and a last line that says that there are no more
abbrev pub info_text : Facts → Option Counts → List ℕ
info_text facts counts = flat_map fact_line (fact_rows facts) ++ (flat_map fact_line (counts_rows counts) ++ codes "end\n")
