use Rattle.silt_merge.proofs.Common.{◌≡◌, ◌<◌, length, arith}
use Rattle.silt_merge.proofs.Reading.{blank, row_read}
use Rattle.silt_merge.proofs.merge.read_row.Goals as goal

pub split_at_mut-key-requires : goal.split_at_mut-key-requires
split_at_mut-key-requires g c =
    let below : c.in-Some.source.store < length c.args.stores.now = rw c.in-Some.is at c.requires.store in
    omega (arith, c.requires.shapes c.in-Some.source.store blank below)

pub returns-clause-row : goal.returns-clause-row
returns-clause-row g c = λ shape shapes honest.
    let below : c.in-Some.source.store < length c.args.stores.now = rw c.in-Some.is at c.requires.store in
    let long : length c.copy_from_slice.new.self ≡ 20 = omega (arith, c.copy_from_slice.ensures.len, c.split_at_mut-key.ensures.front_len) in
    rw c.in-Some.is (row_read c.read_value.result shape (g.D.Disk.content c.args.disk.now).shown c.args.stores.now c.index-stores-source.result c.args.choice.now.key.0 c.in-Some.source
    c.args.out.now c.copy_from_slice.new.self c.read_value.new.out below c.index-stores-source.is shapes c.copy_from_slice.ensures.after long (c.read_value.ensures.value honest))
