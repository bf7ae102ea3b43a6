use Rattle.silt_engine.proofs.Common.{◌≡◌, List, ℕ, length, drop, Some, ◌∙◌, subst, arith, take_all, slot_row, StoredRow, key_cmp, take-append-le}
use Rattle.std.specs.BTreeMap as tree
use Rattle.silt_engine.proofs.Folds.{does_put}
use Rattle.silt_engine.proofs.entries.put_slot.Goals as goal

pub returns-clause-ok : goal.returns-clause-ok
returns-clause-ok g c = λ honest is_put.
    let row : StoredRow = slot_row c.args.store.now.shape c.args.store.now.region (g.D.Disk.content c.args.disk.now).shown c.args.slot in
    let bytes : List ℕ = c.read_value.new.out in
    let long : length bytes ≡ c.in-Ok.value.len = omega (arith, c.read_value.auto.out, c.deref_mut.ensures.len) in
    let value : c.new.result ≡ row.value = c.new.ensures
    ∙ take-append-le c.in-Ok.value.len bytes (drop (length bytes) c.in-Ok.value.items) (omega (arith, long)) ∙ take_all c.in-Ok.value.len bytes (omega (arith, long))
    ∙ c.in_default-read_value.ensures.value honest in
    does_put row c.args.key c.args.entries.now c.insert.new.self is_put.0 is_put.1
    (subst (λ (v : List ℕ). tree.Updates key_cmp c.args.entries.now c.insert.new.self c.args.key (Some v)) value c.in-Ok-insert.ensures.updates)
