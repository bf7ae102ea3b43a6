use Rattle.silt_server.proofs.Serving.{reports_no_memory}
use Rattle.silt_server.proofs.written.write_refused.Goals as goal

pub returns-in_ok-write_all-in-NoMemory : goal.returns-in_ok-write_all-in-NoMemory
returns-in_ok-write_all-in-NoMemory g c = reports_no_memory c.args.refusal.now _ _ c.in-NoMemory.is c.in_ok-write_all-in-NoMemory.ensures.bytes
