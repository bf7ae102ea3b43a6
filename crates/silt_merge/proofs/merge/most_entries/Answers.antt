use Rattle.silt_merge.proofs.Common.{arith, rules, take_all, sum_by_more}
use Rattle.silt_merge.proofs.merge.most_entries.Goals as goal

pub loop-store-preserved : goal.loop-store-preserved
loop-store-preserved c = search (rules, arith, sum_by_more)

pub returns : goal.returns
returns c = search (rules, arith, take_all)
