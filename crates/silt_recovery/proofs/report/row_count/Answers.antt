use Rattle.silt_recovery.proofs.Common.{◌≤◌, ℕ, ◌+◌, List, take, sum_by, sym, ap, ◌∙◌, subst, arith, take_all, LogStoreState, sum_by_more}
use Rattle.silt_recovery.proofs.Reports.{used_rows}
use Rattle.silt_recovery.proofs.report.row_count.Goals as goal

pub overflow_add-count : goal.overflow_add-count
overflow_add-count c =
    let most : c.store-item.result.log.used ≤ 131072 =
    subst (λ (s : LogStoreState). s.log.used ≤ 131072) (sym c.store-item.is) (c.requires.most c.loop-store.store-index c.store-item.result c.loop-store-test.true) in
    omega (arith, most, c.len-count.ensures.value, c.loop-store.invariant.most, c.loop-store-test.true, c.requires.few)

pub loop-store-preserved : goal.loop-store-preserved
loop-store-preserved c =
    let most : c.store-item.result.log.used ≤ 131072 =
    subst (λ (s : LogStoreState). s.log.used ≤ 131072) (sym c.store-item.is) (c.requires.most c.loop-store.store-index c.store-item.result c.loop-store-test.true) in
    let before : ℕ = sum_by used_rows (take c.loop-store.store-index c.args.stores.now) in
    record {
      counted =
          ap (λ (n : ℕ). n + c.len-count.result) c.loop-store.invariant.counted ∙ ap (λ (n : ℕ). before + n) (c.len-count.ensures.value ∙ ap used_rows c.store-item.is)
          ∙ sym (sum_by_more used_rows c.args.stores.now c.loop-store.store-index c.store-item.result c.loop-store-test.true);
      most = omega (arith, most, c.len-count.ensures.value, c.loop-store.invariant.most);
    }

pub returns : goal.returns
returns c = c.loop-store.invariant.counted ∙ ap (λ (stores : List LogStoreState). sum_by used_rows stores) (take_all c.loop-store.store-index c.args.stores.now c.loop-store-test.false)
