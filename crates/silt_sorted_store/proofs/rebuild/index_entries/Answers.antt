use Rattle.silt_sorted_store.proofs.Common.{ℕ, ◌*◌, ◌/◌, ◌<◌, ◌≤◌, ap, ◌∙◌, arith, le-div_iff_mul-le, entry_len, keys_of, entries_of}
use Rattle.silt_sorted_store.proofs.Entries.{entry_count}
use Rattle.silt_sorted_store.proofs.Checking.{indexing_all, indexing_fine}
use Rattle.silt_sorted_store.proofs.rebuild.index_entries.Goals as goal

pub take_entries-requires-clause-some : goal.take_entries-requires-clause-some
take_entries-requires-clause-some g c = λ lifetimes outlive some.
    let positive : 0 < c.entry_len-len.result = omega (arith, c.entry_len-len.ensures.value) in
    let room : 1 ≤ 65536 / c.entry_len-len.result = (le-div_iff_mul-le positive).1 (omega (arith, c.entry_len-len.ensures.value, c.entry_len-len.ensures.limits.value_len_most)) in
    omega (arith, c.min-most.ensures, c.len.ensures.value, room, some)

pub take_entries-requires-clause-buffer : goal.take_entries-requires-clause-buffer
take_entries-requires-clause-buffer g c = λ lifetimes outlive.
    let len_is = c.entry_len-len.ensures.value ∙ ap entry_len c.geometry.ensures in
    let room = ap (λ (n : ℕ). c.min-most.result * n) len_is in
    omega (arith, c.deref_mut.ensures.len, c.in-Ok.ensures.len, room)

pub returns-in-Ok-finish-clause-index : goal.returns-in-Ok-finish-clause-index
returns-in-Ok-finish-clause-index g c = λ honest.
    let store = c.args.entries.now in
    let content = g.D.Disk.content c.args.disk.now in
    let rows = entries_of content store in
    let long = entry_count store.shape store.region store.count content.shown in
    c.in-Ok-finish.ensures.keys (keys_of rows) (indexing_all rows store.count c.take_entries.new.builder.building long (c.in_ok-take_entries.ensures.taken honest))

pub returns-in-Ok-finish-clause-rising : goal.returns-in-Ok-finish-clause-rising
returns-in-Ok-finish-clause-rising g c = λ honest.
    let store = c.args.entries.now in
    let content = g.D.Disk.content c.args.disk.now in
    let long = entry_count store.shape store.region store.count content.shown in
    indexing_fine (entries_of content store) store.count c.take_entries.new.builder.building long (c.in_ok-take_entries.ensures.taken honest)
