use denote.Param.Send.{sendable}
use Rattle.std.proofs.Crossing.{crosses}
use Rattle.std.proofs.sync.RwLock.TheSendSync.{the_sync as lock_sync}
use Rattle.silt_desk.proofs.kept.Kept.TheSendSync.{the_send as kept_send, the_sync as kept_sync}
use Rattle.silt_desk.proofs.Shares.{desk_send, desk_sync}
use Rattle.silt_desk_tests.proofs.desk.looks.both_look.Goals as goal

pub each_over-requires-sync-S : goal.each_over-requires-sync-S
each_over-requires-sync-S g c κs within = search (sendable, crosses, lock_sync, desk_send, desk_sync, kept_send, kept_sync) depth 20
