use Rattle.silt_trie.proofs.Built.{CodesGroups}
use Rattle.silt_trie.proofs.trie_builder.write_groups.Given as goal

abbrev pub invariant-loop-group : goal.invariant-loop-group
invariant-loop-group l = CodesGroups l.first l._group l.count l.levels l.keys l.waiting l.initial.bits l.bits l.initial.marks.items l.marks.items
