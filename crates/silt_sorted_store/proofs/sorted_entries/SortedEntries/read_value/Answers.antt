use Rattle.silt_sorted_store.proofs.Common.{arith}
use Rattle.silt_sorted_store.proofs.Entries.{value_read}
use Rattle.silt_sorted_store.proofs.sorted_entries.SortedEntries.read_value.Goals as goal

pub returns-clause-value : goal.returns-clause-value
returns-clause-value g c = λ honest.
    let store = c.args.self.now in
    value_read store.shape store.region store.count _ c.args.place c.entry_at.result _ _ c.requires.place c.entry_at.ensures.value
    (omega (arith, c.entry_at.ensures.fits, c.requires.size)) c.requires.out (c.in_ok-read.ensures.bytes honest)
