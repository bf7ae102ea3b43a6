use Rattle.silt_sorted_store.proofs.Common.{sym, ◌∙◌, arith, length-drop, take_all, entries_of}
use Rattle.silt_sorted_store.proofs.Locating.{entry_has, key_of_entry, keys_agree, keys_differ}
use Rattle.silt_sorted_store.proofs.sorted_entries.SortedEntries.value_by_entry.Goals as goal

pub returns-then-ne-clause-other : goal.returns-then-ne-clause-other
returns-then-ne-clause-other g c = λ honest was same.
    let rows = entries_of (g.D.Disk.content c.args.disk.now) c.args.self.now in
    let at = key_of_entry rows c.args.place _ (c.in_ok-standing.ensures.entry honest) in
    keys_differ c.in_ok-standing.standing.0 c.args.key.now.0 c.ne.result c.ne.ensures c.if-ne.true (c.in_ok-standing.ensures.key ∙ sym at ∙ same)

pub returns-clause-found : goal.returns-clause-found
returns-clause-found g c = λ honest was.
    let rows = entries_of (g.D.Disk.content c.args.disk.now) c.args.self.now in
    let has = keys_agree c.in_ok-standing.standing.0 c.args.key.now.0 c.ne.result c.ne.ensures c.if-ne.false in
    entry_has rows c.args.place c.entry.new.out _ _ (c.in_ok-standing.ensures.entry honest) (sym c.in_ok-standing.ensures.key ∙ has)
    (c.copy_from_slice.ensures.after ∙ take_all _ _ (omega (arith, length-drop 20 c.entry.new.out)))
