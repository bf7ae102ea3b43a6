use Rattle.silt_trie.proofs.Common.{◌+◌, ◌^◌, ◌<◌, List, refl, ap, ◌∙◌, arith, Key}
use Rattle.silt_trie.specs.Building.{Building}
use Rattle.silt_trie.proofs.Above.{building_of, built_push, held_push}
use Rattle.silt_trie.proofs.Built.{ComesTo, comes_no_further, comes_to}
use Rattle.silt_trie.proofs.trie_builder.Groups.push.Goals.{After-self-2-1, then-first-next+in_ok-code_groups, else-first-next}
use Rattle.silt_trie.proofs.trie_builder.Groups.push.Goals as goal

-- the groups before the key's are coded then
comes : (c : After-self-2-1) → ComesTo c.group_of-next.result (building_of c.self.inside) (building_of c.if-first-next.self-inside)
comes c =
    let old = building_of c.self.inside in
    let now = building_of c.if-first-next.self-inside in
    let items = c.in_ok-reserve.ensures.items in
    elim c.if-first-next.branch [
      | then-first-next+in_ok-code_groups w ↦
          comes_to _ _ old now _ _ _ _ c.group_under_way-first.ensures.group w.if-first-next.true (w.deref.ensures.value ∙ items)
          w.clear.ensures.items (ap building_of w.self-inside-is) w.in_ok-code_groups.ensures.coded
      | else-first-next w ↦
          let same = ap (λ (group : List Key). record { code = old.code; marks = old.marks; group = group; count = old.count; last = old.last; levels = old.levels }) items in
          comes_no_further _ _ old now c.group_under_way-first.ensures.group w.if-first-next.false (ap building_of w.self-inside-is ∙ same)
    ]

-- and there is room for one more key
few : (c : After-self-2-1) → c.self.inside.count + 2 < 2 ^ 32
few c = omega (arith, c.requires.few, ap (λ (b : Building). b.count) c.self.view_is)

pub invariant_of-self-2 : goal.invariant_of-self-2
invariant_of-self-2 c =
    held_push _ _ _ _ c.args.key c.self.invariant (comes c) c.group_of-next.ensures.group (few c) (c.is_above.ensures.next c.if-not-is_above.false) c.push_reserved.ensures.items refl refl refl

pub returns-clause-built : goal.returns-clause-built
returns-clause-built c = rw (← c.self.view_is) λ ok keys building.
    built_push _ _ _ _ c.args.key keys building (comes c) c.group_of-next.ensures.group (few c) (c.is_above.ensures.next c.if-not-is_above.false) c.push_reserved.ensures.items refl refl refl refl refl
