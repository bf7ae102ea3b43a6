-- The page, part by part.
use Rattle.std.proofs.Common.{◌≡◌, ◌++◌, ℕ, List, [], flat_map, refl}
use Rattle.silt_event.specs.declared.counts.Counts.{Counts}
use Rattle.silt_event.specs.declared.facts.Facts.{Facts}
use Rattle.silt_wire.specs.Facts.{count_rows, fact_rows}
use Rattle.silt_metrics.specs.Pages.{count_metric, fact_metric, page_text}

pub page_is : (facts : Facts) (counts : Counts) (begun front whole : List ℕ) (fact_list count_list : List (List ℕ × ℕ)) → begun ≡ [] → fact_list ≡ fact_rows facts
    → count_list ≡ count_rows counts → front ≡ begun ++ flat_map fact_metric fact_list → whole ≡ front ++ flat_map count_metric count_list → whole ≡ page_text facts counts
page_is facts counts begun front whole fact_list count_list none first second front_is whole_is = rw (whole_is, front_is, none, first, second) refl
