use Rattle.silt_hash_store.proofs.Common.{err_from_is_err_and}
use Rattle.silt_hash_store.proofs.Chunks.{refused_grown}
use Rattle.silt_hash_store.proofs.Growing.{slot_taken}
use Rattle.silt_hash_store.proofs.rebuild.Rebuilt.add_slot.Goals as goal

pub returns-clause-ok : goal.returns-clause-ok
returns-clause-ok g c = λ honest says is. slot_taken c.args.self.now c.take.new.self (g.D.Disk.content c.args.disk.now).shown c.args.slot c.in_ok-added.added c.requires.slot
    c.examine.ensures.held.long is (c.in_ok-added.ensures.ok honest says is.tagged) c.take.ensures

pub returns-in_err-added-clause-err : goal.returns-in_err-added-clause-err
returns-in_err-added-clause-err g c =
    let refused = err_from_is_err_and c.from_residual.result c.from_residual.ensures.1 in
    rw (refused.1, refused.2) (refused_grown (g.D.Disk.content c.args.disk.now) c.args.self.now c.args.slot c.args.head _ c.in_err-added.field-0.0 c.in_err-added.ensures.err)
