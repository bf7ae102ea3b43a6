use Rattle.std.proofs.Common.{ap, ◌∙◌}
use lib.Seq.{map-set_same}
use Rattle.silt.proofs.set_service.report_each.Goals as goal

pub loop-shard-preserved : goal.loop-shard-preserved
loop-shard-preserved g c = record {
  contents = map-set_same g.D.Disk.content c.loop-shard.disks.items c.loop-shard.shard c.report_at_once.new.self c.index_mut.result.now
      (c.report_at_once.ensures.disk ∙ ap g.D.Disk.content c.index_mut.ensures.value) ∙ c.loop-shard.invariant.contents;
  count = c.loop-shard.invariant.count;
}
