-- What the threads of a server may share.
use Rattle.silt_server.proofs.Names.{sendable, crosses}
use Rattle.std.proofs.sync.RwLock.TheSendSync.{the_sync as lock_sync}
use Rattle.silt_desk.proofs.Shares.{desk_send, desk_sync}
use Rattle.silt_session.proofs.job.Job.TheSendSync.{the_send as job_send, the_sync as job_sync}
use Rattle.silt_session.proofs.job_log.JobLog.TheSendSync.{the_sync as log_sync}
use Rattle.silt_server.proofs.common.Serving.TheSendSync.{the_sync as serving_sync}
use Rattle.silt_server.proofs.serving_set.ServingSet.TheSendSync.{the_sync as set_sync}

pub ruleset shared = (sendable, crosses, lock_sync, desk_send, desk_sync, serving_sync, set_sync, job_send, job_sync, log_sync)
