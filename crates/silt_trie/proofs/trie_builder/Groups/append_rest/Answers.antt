use Rattle.silt_trie.proofs.Common.{◌≡◌, ◌++◌, ◌∷◌, [], rules, mark_behind}
use Rattle.silt_trie.proofs.Above.{building_of}
use Rattle.silt_trie.proofs.Built.{finished}
use Rattle.silt_trie.proofs.Growing.{grows_more}
use Rattle.silt_trie.proofs.trie_builder.Groups.append_rest.Goals as goal

pub returns-clause-grows : goal.returns-clause-grows
returns-clause-grows c =
    let marks = grows_more _ _ _ _ c.write_groups.ensures.grows.1 c.in_ok-push_mark.ensures.ok in
    rw (← c.self.view_is) (c.write_groups.ensures.grows.0, marks)

pub returns-clause-made : goal.returns-clause-made
returns-clause-made c =
    let behind : c.push_mark.new.marks.items ≡ c.write_groups.new.marks.items ++ mark_behind c.write_groups.new.bits c.self.inside.count ∷ [] = search rules in
    rw (← c.self.view_is) (finished (building_of c.self.inside) _ c.write_groups.new.bits c.write_groups.new.marks.items c.push_mark.new.marks.items _
    c.group_under_way.ensures.group c.deref.ensures.value c.self.invariant.levels.0 c.in_ok-write_groups.ensures.coded behind)
