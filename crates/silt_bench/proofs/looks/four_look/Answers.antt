use denote.Param.Send.{sendable}
use Rattle.std.proofs.Crossing.{crosses}
use Rattle.std.proofs.sync.RwLock.TheSendSync.{the_sync as lock_sync}
use Rattle.silt_desk.proofs.count.Count.TheSendSync.{the_send as count_send, the_sync as count_sync}
use Rattle.silt_desk.proofs.Shares.{desk_send, desk_sync}
use Rattle.silt_bench.proofs.looks.four_look.Goals as goal

pub join_over-first-requires-sync-S : goal.join_over-first-requires-sync-S
join_over-first-requires-sync-S g c κs within = search (sendable, crosses, lock_sync, count_send, count_sync, desk_send, desk_sync) depth 20
