use Rattle.silt_sorted_store.proofs.Common.{◌∙◌, entries_of}
use Rattle.silt_sorted_store.proofs.Locating.{keys_agree, parts_have}
use Rattle.silt_sorted_store.proofs.sorted_entries.SortedEntries.value_by_parts.Goals as goal

pub returns-clause-found : goal.returns-clause-found
returns-clause-found g c = λ honest was.
    let has = keys_agree c.in_ok-standing.standing.0 c.args.key.now.0 c.ne.result c.ne.ensures c.if-ne.false in
    parts_have (entries_of (g.D.Disk.content c.args.disk.now) c.args.self.now) c.args.place c.args.key.now.0 _ (c.in_ok-standing.ensures.key honest ∙ has) (c.in_ok-read_value.ensures.value honest)
