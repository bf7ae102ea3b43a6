use Rattle.silt_hash_store.proofs.Common.{ℕ, ◌*◌, IsTrue, sym, ap, ◌∙◌, row_len, IsFirstUnsound, IsGrown, HoldsSlots}
use Rattle.silt_hash_store.proofs.Bytes.{ends_well, more_fed}
use Rattle.silt_hash_store.proofs.Chunks.{refused_read}
use Rattle.silt_hash_store.proofs.rebuild.Rebuilt.add_read.Goals as goal

pub add_slots-requires-clause-bytes : goal.add_slots-requires-clause-bytes
add_slots-requires-clause-bytes g c = λ lifetimes outlive.
    let len = c.row_len-len.ensures.value ∙ ap row_len c.geometry.ensures.value in
    c.read_slots.auto.out ∙ c.requires.buffer ∙ ap (λ (n : ℕ). c.args.count * n) (sym len)

pub returns-clause-ok : goal.returns-clause-ok
returns-clause-ok g c = λ honest is. c.add_slots.ensures.ok honest (c.in_default.ensures.slots honest) is

pub returns-clause-err : goal.returns-clause-err
returns-clause-err g c =
    let old = c.args.self.now in
    let content = g.D.Disk.content c.args.disk.now in
    refused_read c.add_slots.result _ (IsTrue content.honest) (HoldsSlots old.store.shape old.store.region content.shown c.args.first c.args.count c.read_slots.new.out) (IsGrown old content.shown
    c.args.first) (IsFirstUnsound content old.store.shape old.store.region) (λ honest. c.in_default.ensures.slots honest) c.add_slots.ensures.err

pub returns-clause-fed : goal.returns-clause-fed
returns-clause-fed g c = λ honest fed. ends_well c.add_slots.result _ (more_fed c.update.new.self c.args.self.now.store c.args.first c.args.count (g.D.Disk.content c.args.disk.now).shown
    c.read_slots.new.out (c.in_default.ensures.slots honest) (c.read_slots.auto.out ∙ c.requires.buffer) (c.update.ensures _ fed))
