use Rattle.silt_sorted_store.proofs.Entries.{entry_read}
use Rattle.silt_sorted_store.proofs.sorted_entries.SortedEntries.entry.Goals as goal

pub returns-clause-entry : goal.returns-clause-entry
returns-clause-entry g c = λ honest.
    let store = c.args.self.now in
    entry_read store.shape store.region store.count _ c.args.place c.entry_at.result _ _ c.requires.place c.entry_at.ensures.value c.requires.out (c.in_ok-read.ensures.bytes honest)
