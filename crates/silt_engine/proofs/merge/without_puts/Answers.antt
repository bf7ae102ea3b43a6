use Rattle.silt_engine.proofs.Common.{◌≡◌, get_or, arith, take_all, HashState, sum_by_more}
use Rattle.silt_engine.proofs.merge.without_puts.Goals as goal

pub loop-store-preserved : goal.loop-store-preserved
loop-store-preserved c =
    let more = sum_by_more (λ (store : HashState). store.puts) c.args.stores.now c.loop-store.store-index c.store-item.result c.loop-store-test.true in
    let its : c.puts.result ≡ (get_or c.args.stores.now c.loop-store.store-index c.store-item.result).puts = cc (c.puts.ensures.value, c.store-item.is) in
    omega (arith, more, its, c.loop-store.invariant, c.saturating_sub-left.ensures)

pub returns : goal.returns
returns c = cc (c.loop-store.invariant, take_all c.loop-store.store-index c.args.stores.now c.loop-store-test.false)
