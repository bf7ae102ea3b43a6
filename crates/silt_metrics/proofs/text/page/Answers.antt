use Rattle.std.proofs.Common.{◌∙◌, Bor, List, ap, map, string_bytes, ℕ}
use Rattle.silt_metrics.proofs.Printing.{page_is}
use Rattle.silt_metrics.proofs.text.page.Goals as goal

pub returns : goal.returns
returns c =
    let rows_of = λ (rows : List (Bor (List ℕ) × ℕ)). map (λ (row : Bor (List ℕ) × ℕ). (row.0.now, row.1)) rows in
    page_is c.args.facts.now c.args.counts.now (string_bytes c.new-text.result) (string_bytes c.push_facts.new.text) (string_bytes c.push_counts.new.text) (rows_of c.fact_rows.result)
    (rows_of c.deref.result.now) c.new-text.ensures.bytes c.fact_rows.ensures (ap rows_of c.deref.ensures.value ∙ c.in_ok-count_rows.ensures) c.in_ok-push_facts.ensures
    c.in_ok-push_counts.ensures
