use Rattle.silt_engine.proofs.Common.{arith, entries_of, entries_law}
use Rattle.silt_engine.proofs.Folds.{bytes_from, does_entry, does_whole}
use Rattle.silt_engine.proofs.entries.do_entries.Goals as goal

pub loop-place-preserved : goal.loop-place-preserved
loop-place-preserved g c = record {
  long = omega (arith, c.entry.auto.out, c.loop-place.invariant.long);
  done = λ honest.
      let content = g.D.Disk.content c.args.disk.now in
      does_entry (entries_of content c.args.store.now) c.loop-place.place c.entry.new.out c.in-Ok.key _ c.args.entries.now c.loop-place.entries c.put_value.new.entries
      (c.in-Ok.ensures.entry honest) c.in-Ok.ensures.key (bytes_from c.entry.new.out 20) (c.loop-place.invariant.done honest) c.in-Ok-put_value.ensures;
}

pub returns-clause-ok : goal.returns-clause-ok
returns-clause-ok g c = λ honest.
    let content = g.D.Disk.content c.args.disk.now in
    let store = c.args.store.now in
    does_whole (entries_of content store) c.loop-place.place c.args.entries.now c.loop-place.entries (omega (
      arith,
      (entries_law store.shape store.region store.count content.shown).counted,
      c.loop-place-test.false,
      c.loop-place.auto.place-end,
      c.len-place-end.ensures.value,
    )) (c.loop-place.invariant.done honest)
