use Rattle.silt_sorted_store.proofs.Common.{◌≡◌, ℕ, ◌+◌, ◌*◌, ◌<◌, ◌≤◌, length, List, Option, Ok, IfSome, refl, sym, subst, ap, ◌∙◌, arith, length-take-le, take_all, Holds, entry_len, StoredRow}
use Rattle.silt_sorted_store.proofs.Common.{entries_bytes, HoldsKeys, IsIndexing, TakesKeys, entries_of}
use Rattle.silt_sorted_store.proofs.Entries.{entry_count}
use Rattle.silt_sorted_store.proofs.Checking.{indexing_none}
use Rattle.silt_sorted_store.proofs.Chunks.{chunk_fits, written_back}
use Rattle.silt_sorted_store.proofs.Digested.{bytes_of_chunk}
use Rattle.silt_sorted_store.proofs.rebuild.take_entries.Goals as goal

pub loop-place-init : goal.loop-place-init
loop-place-init g c = record {
  upto = omega arith;
  room = refl;
  counted = c.requires.empty.counted;
  hashed = λ honest. c.requires.fresh;
  taken = λ honest. indexing_none (entries_of (g.D.Disk.content c.args.disk.now) c.args.entries.now) c.args.builder.now.building c.requires.empty.built c.requires.empty.last;
}

pub slice_bounds-chunk-end : goal.slice_bounds-chunk-end
slice_bounds-chunk-end g c = chunk_fits c.args.entries.now.shape c.min-next.result c.args.most c.entry_len-len.result (length c.loop-place.buffer) (omega (arith, c.min-next.ensures))
    (c.entry_len-len.ensures.value ∙ ap entry_len c.geometry.ensures) (omega (arith, c.requires.buffer, c.loop-place.invariant.room))

pub slice_bounds-chunk-end-in-loop-place : goal.slice_bounds-chunk-end-in-loop-place
slice_bounds-chunk-end-in-loop-place g c = sym (length-take-le _ c.loop-place.buffer (chunk_fits c.args.entries.now.shape c.min-next.result c.args.most c.entry_len-len.result (length
    c.loop-place.buffer) (omega (arith, c.min-next.ensures)) (c.entry_len-len.ensures.value ∙ ap entry_len c.geometry.ensures) (omega (arith, c.requires.buffer, c.loop-place.invariant.room))))

pub read_entries-requires-clause-some : goal.read_entries-requires-clause-some
read_entries-requires-clause-some g c = λ lifetimes outlive.
    let some = c.requires.some (omega (arith, c.loop-place-test.true, c.len-count.ensures.value)) in
    omega (arith, some, c.min-next.ensures, c.loop-place-test.true)

pub read_entries-requires-clause-out : goal.read_entries-requires-clause-out
read_entries-requires-clause-out g c = λ lifetimes outlive.
    let len_is = c.entry_len-len.ensures.value ∙ ap entry_len c.geometry.ensures in
    let fits = chunk_fits c.args.entries.now.shape c.min-next.result c.args.most c.entry_len-len.result (length c.loop-place.buffer)
    (omega (arith, c.min-next.ensures)) len_is (omega (arith, c.requires.buffer, c.loop-place.invariant.room)) in
    length-take-le _ c.loop-place.buffer fits ∙ ap (λ (n : ℕ). c.min-next.result * n) len_is

pub take_keys-requires-clause-bytes : goal.take_keys-requires-clause-bytes
take_keys-requires-clause-bytes g c =
    let len_is = c.entry_len-len.ensures.value ∙ ap entry_len c.geometry.ensures in
    let fits = chunk_fits c.args.entries.now.shape c.min-next.result c.args.most c.entry_len-len.result (length c.loop-place.buffer)
    (omega (arith, c.min-next.ensures)) len_is (omega (arith, c.requires.buffer, c.loop-place.invariant.room)) in
    c.read_entries.auto.out ∙ length-take-le _ c.loop-place.buffer fits

pub loop-place-smaller : goal.loop-place-smaller
loop-place-smaller g c =
    let some = c.requires.some (omega (arith, c.loop-place-test.true, c.len-count.ensures.value)) in
    omega (arith, some, c.min-next.ensures, c.loop-place-test.true, c.len-count.ensures.value)

pub returns-clause-taken : goal.returns-clause-taken
returns-clause-taken g c = λ honest.
    let all : c.loop-place.place ≡ c.args.entries.now.count = omega (arith, c.loop-place-test.false, c.len-count.ensures.value, c.loop-place.invariant.upto) in
    subst (λ (n : ℕ). IsIndexing (entries_of (g.D.Disk.content c.args.disk.now) c.args.entries.now) n c.loop-place.builder.building) all (c.loop-place.invariant.taken honest)

pub loop-place-preserved : goal.loop-place-preserved
loop-place-preserved g c =
    let store = c.args.entries.now in
    let content = g.D.Disk.content c.args.disk.now in
    let rows = entries_of content store in
    let place = c.loop-place.place in
    let next = c.min-next.result in
    let long = entry_count store.shape store.region store.count content.shown in
    let within : place + next ≤ store.count = omega (arith, c.min-next.ensures, c.loop-place-test.true, c.len-count.ensures.value) in
    record {
      upto = within;
      room = written_back c.read_entries.new.out c.loop-place.buffer (next * c.entry_len-len.result) c.read_entries.auto.out ∙ c.loop-place.auto.buffer;
      counted = c.in-Ok-None.ensures.counted (ap Ok c.in-Ok-None.field-0-is);
      hashed = λ honest.
          let len_is = c.entry_len-len.ensures.value ∙ ap entry_len c.geometry.ensures in
          let fits = chunk_fits store.shape next c.args.most c.entry_len-len.result (length c.loop-place.buffer)
          (omega (arith, c.min-next.ensures)) len_is (omega (arith, c.requires.buffer, c.loop-place.invariant.room)) in
          let long : length c.read_entries.new.out ≡ next * entry_len store.shape = c.read_entries.auto.out ∙ length-take-le _ c.loop-place.buffer fits ∙ ap (λ (n : ℕ). next * n) len_is in
          subst (Holds c.update.new.self) (sym (bytes_of_chunk rows place next (entry_len store.shape) c.read_entries.new.out (c.in_default.ensures.entries honest) long))
          (c.update.ensures _ (c.loop-place.invariant.hashed honest));
      taken = λ honest.
          let holds = subst (λ (n : ℕ). HoldsKeys rows place next n c.read_entries.new.out)
          (sym (c.entry_len-len.ensures.value ∙ ap entry_len c.geometry.ensures)) (c.in_default.ensures.keys honest) in
          subst (TakesKeys rows (place + next) c.take_keys.new.builder.building) c.in-Ok-None.field-0-is
          (c.in-Ok-None.ensures.taken rows (omega (arith, within, long)) holds (c.loop-place.invariant.taken honest));
    }

pub returns-in-Ok-Some-clause-err : goal.returns-in-Ok-Some-clause-err
returns-in-Ok-Some-clause-err g c =
    let store = c.args.entries.now in
    let content = g.D.Disk.content c.args.disk.now in
    let rows = entries_of content store in
    let place = c.loop-place.place in
    let next = c.min-next.result in
    let long = entry_count store.shape store.region store.count content.shown in
    let within : place + next ≤ store.count = omega (arith, c.min-next.ensures, c.loop-place-test.true, c.len-count.ensures.value) in
    let below = subst (λ (found : Option ℕ). IfSome found (λ damaged. damaged < place + next)) c.in-Ok-Some.field-0-is c.in-Ok-Some.ensures.place in (
      omega (arith, within, below),
      λ honest.
          let holds = subst (λ (n : ℕ). HoldsKeys rows place next n c.read_entries.new.out)
          (sym (c.entry_len-len.ensures.value ∙ ap entry_len c.geometry.ensures)) (c.in_default.ensures.keys honest) in
          subst (TakesKeys rows (place + next) c.take_keys.new.builder.building) c.in-Ok-Some.field-0-is
          (c.in-Ok-Some.ensures.taken rows (omega (arith, within, long)) holds (c.loop-place.invariant.taken honest)),
    )

pub returns-clause-hashed : goal.returns-clause-hashed
returns-clause-hashed g c = λ honest.
    let store = c.args.entries.now in
    let content = g.D.Disk.content c.args.disk.now in
    let rows = entries_of content store in
    let long = entry_count store.shape store.region store.count content.shown in
    let all : c.loop-place.place ≡ store.count = omega (arith, c.loop-place-test.false, c.len-count.ensures.value, c.loop-place.invariant.upto) in
    subst (λ (l : List StoredRow). Holds c.loop-place.hasher (entries_bytes l)) (take_all c.loop-place.place rows (omega (arith, all, long))) (c.loop-place.invariant.hashed honest)
