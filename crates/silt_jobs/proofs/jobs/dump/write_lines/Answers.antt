use Rattle.silt_jobs.proofs.Common.{Appends-keeps}
use Rattle.silt_jobs.proofs.Dumps.{writes_lines}
use Rattle.silt_jobs.proofs.jobs.dump.write_lines.Goals as goal

pub returns : goal.returns
returns g c =
    let written = rw c.as_bytes.ensures.value at c.in_ok-write_all.ensures.bytes in
    writes_lines g.D.Disk c.args.disk.now c.in_ok-early.early _ _ _ _ c.in_ok-early.ensures (Appends-keeps _ _ _ _ written c.in_ok-flush.ensures.bytes)
