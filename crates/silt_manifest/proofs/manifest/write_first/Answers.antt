use Rattle.silt_manifest.proofs.Common.{ap, rules, arith, subst, sym, ◌∙◌, slot_at, wrote_err, wrote_ok, wrote_then, wrote_wider, FitsSlot, record_bytes}
use Rattle.silt_manifest.proofs.FirstExits.{all_first, first_fits}
use Rattle.silt_manifest.proofs.manifest.write_first.Goals as goal

pub record_bytes-requires : goal.record_bytes-requires
record_bytes-requires g c = subst FitsSlot (sym c.first.ensures) first_fits

pub returns-in_err-write_commit-clause-wrote : goal.returns-in_err-write_commit-clause-wrote
returns-in_err-write_commit-clause-wrote g c = wrote_err c.in_err-write_commit.was c.from_residual.ensures.1 (omega arith) (omega arith)
    (wrote_wider _ _ (omega arith) (omega arith) c.write_commit.ensures.wrote)

pub returns-in_err-write_record-clause-wrote : goal.returns-in_err-write_record-clause-wrote
returns-in_err-write_record-clause-wrote g c =
    let closed = wrote_wider (slot_at 0) 4096 (omega arith) (omega arith) c.write_commit.ensures.wrote in
    let written = wrote_wider (slot_at 0) 4096 (omega arith) (omega arith) c.write_record.ensures.wrote in
    wrote_err c.in_err-write_record.was c.from_residual-in_err-write_record.ensures.1 (omega arith) (omega arith) (wrote_then c.in_ok-write_commit.was closed written)

pub returns-in_err-write_commit-2-clause-wrote : goal.returns-in_err-write_commit-2-clause-wrote
returns-in_err-write_commit-2-clause-wrote g c =
    let closed = wrote_wider (slot_at 0) 4096 (omega arith) (omega arith) c.write_commit.ensures.wrote in
    let written = wrote_wider (slot_at 0) 4096 (omega arith) (omega arith) c.write_record.ensures.wrote in
    let opened = wrote_wider (slot_at 0) 4096 (omega arith) (omega arith) c.write_commit-2.ensures.wrote in
    wrote_err c.in_err-write_commit-2.was c.from_residual-in_err-write_commit-2.ensures.1 (omega arith) (omega arith)
    (wrote_then c.in_ok-write_commit.was closed (wrote_then c.in_ok-write_record.was written opened))

pub returns : goal.returns
returns g c =
    let closed = wrote_wider (slot_at 0) 4096 (omega arith) (omega arith) c.write_commit.ensures.wrote in
    let written = wrote_wider (slot_at 0) 4096 (omega arith) (omega arith) c.write_record.ensures.wrote in
    let opened = wrote_wider (slot_at 0) 4096 (omega arith) (omega arith) c.write_commit-2.ensures.wrote in
    let bytes = c.record_bytes.ensures.value ∙ ap (λ b. record_bytes b c.args.digests.now) c.first.ensures in
    let last = c.in_ok-write_commit-2.ensures in
    record {
      wrote = wrote_ok c.in_ok-write_commit-2.was (wrote_then c.in_ok-write_commit.was closed (wrote_then c.in_ok-write_record.was written opened));
      current = all_first c.args.digests.now c.record_bytes.result _ _ _ _ c.record_bytes.ensures.fits c.requires.size c.requires.closed bytes
          c.in_ok-write_commit.ensures.written c.in_ok-write_record.ensures.written last.written last.rests;
      rests = search rules;
    }
