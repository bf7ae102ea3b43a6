use Rattle.silt_sorted_store.proofs.Common.{arith}
use Rattle.silt_sorted_store.proofs.Entries.{key_read}
use Rattle.silt_sorted_store.proofs.sorted_entries.SortedEntries.read_key.Goals as goal

pub returns-clause-key : goal.returns-clause-key
returns-clause-key g c = λ honest.
    let store = c.args.self.now in
    key_read store.shape store.region store.count _ c.args.place c.entry_at.result _ c.requires.place c.entry_at.ensures.value
    (omega (arith, c.entry_at.ensures.fits, c.requires.size)) (c.in_ok-read.ensures.bytes honest)
