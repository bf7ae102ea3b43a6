use Rattle.std.proofs.Common.{◌≡◌, map, vec_len}
use Rattle.silt.proofs.set_service.report_each.Given as goal

-- each disk has the content that it had
abbrev pub invariant-loop-shard : goal.invariant-loop-shard
invariant-loop-shard g l = record {
  contents : map g.D.Disk.content l.disks.items ≡ map g.D.Disk.content l.initial.disks.items;
  count : vec_len l.disks ≡ vec_len l.initial.disks;
}
