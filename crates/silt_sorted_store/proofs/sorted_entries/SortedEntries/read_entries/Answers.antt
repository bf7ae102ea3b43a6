use Rattle.silt_sorted_store.proofs.Common.{length, size}
use Rattle.silt_sorted_store.proofs.Chunks.{chunk_inside, entries_read, keys_read}
use Rattle.silt_sorted_store.proofs.sorted_entries.SortedEntries.read_entries.Goals as goal

pub read-requires : goal.read-requires
read-requires g c =
    let store = c.args.self.now in
    chunk_inside store.shape store.region store.count c.args.place c.args.count c.entry_at.result (length c.args.out.now) (size (g.D.Disk.content c.args.disk.now)) c.len-known.ensures.held.region
    c.len-known.ensures.held.room c.requires.within c.entry_at.ensures.value c.requires.out c.requires.size

pub returns-clause-keys : goal.returns-clause-keys
returns-clause-keys g c = λ honest.
    let store = c.args.self.now in
    let content = g.D.Disk.content c.args.disk.now in
    let fits = chunk_inside store.shape store.region store.count c.args.place c.args.count c.entry_at.result (length c.args.out.now) (size content) c.len-known.ensures.held.region
    c.len-known.ensures.held.room c.requires.within c.entry_at.ensures.value c.requires.out c.requires.size in
    keys_read store.shape store.region store.count content.shown c.args.place c.args.count c.entry_at.result (length c.args.out.now)
    _ c.requires.within c.entry_at.ensures.value c.requires.out fits (c.in_ok-read.ensures.bytes honest)

pub returns-clause-entries : goal.returns-clause-entries
returns-clause-entries g c = λ honest.
    let store = c.args.self.now in
    let content = g.D.Disk.content c.args.disk.now in
    let fits = chunk_inside store.shape store.region store.count c.args.place c.args.count c.entry_at.result (length c.args.out.now) (size content) c.len-known.ensures.held.region
    c.len-known.ensures.held.room c.requires.within c.entry_at.ensures.value c.requires.out c.requires.size in
    entries_read store.shape store.region store.count content.shown c.args.place c.args.count c.entry_at.result (length c.args.out.now)
    _ c.requires.within c.entry_at.ensures.value c.requires.out fits (c.in_ok-read.ensures.bytes honest)
