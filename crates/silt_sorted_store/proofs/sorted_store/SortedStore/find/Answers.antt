use Rattle.silt_sorted_store.proofs.Common.{◌≡◌, sym, subst, ap, ◌∙◌, arith, SortedState, entries_of, IndexedState}
use Rattle.silt_sorted_store.proofs.Rising.{key_at}
use Rattle.silt_sorted_store.proofs.Entries.{entry_count}
use Rattle.silt_sorted_store.proofs.Locating.{found_here, keys_agree, keys_differ, none_named, other_named}
use Rattle.silt_sorted_store.proofs.sorted_store.SortedStore.find.Goals as goal

pub returns-in_default-clause-entry : goal.returns-in_default-clause-entry
returns-in_default-clause-entry g c = λ honest none is.
    let store = c.args.self.now.sorted in
    let content = g.D.Disk.content c.args.disk.now in
    none_named (entries_of content store) c.args.key.now.0 (c.in_default.ensures.place (entries_of content store) (entry_count store.shape store.region store.count content.shown) is)

pub returns-then-ne-clause-entry : goal.returns-then-ne-clause-entry
returns-then-ne-clause-entry g c = λ honest none is.
    let store = c.args.self.now.sorted in
    let content = g.D.Disk.content c.args.disk.now in
    let named = c.in-Some.ensures.place (entries_of content store) (entry_count store.shape store.region store.count content.shown) is in
    let at = subst (λ (s : SortedState). key_at (entries_of content s) c.in-Some.place ≡ c.in_ok-standing.standing.0)
    (ap (λ (s : IndexedState). s.sorted) c.self.view_is) (c.in_ok-standing.ensures.key honest) in
    other_named (entries_of content store) c.args.key.now.0 c.in-Some.place named
    (λ same. keys_differ c.in_ok-standing.standing.0 c.args.key.now.0 c.ne.result c.ne.ensures c.if-ne.true (sym at ∙ same))

pub returns-clause-entry : goal.returns-clause-entry
returns-clause-entry g c = λ honest none is.
    let store = c.args.self.now.sorted in
    let content = g.D.Disk.content c.args.disk.now in
    let long = entry_count store.shape store.region store.count content.shown in
    let at = subst (λ (s : SortedState). key_at (entries_of content s) c.in-Some.place ≡ c.in_ok-standing.standing.0)
    (ap (λ (s : IndexedState). s.sorted) c.self.view_is) (c.in_ok-standing.ensures.key honest) in
    let has = keys_agree c.in_ok-standing.standing.0 c.args.key.now.0 c.ne.result c.ne.ensures c.if-ne.false in
    found_here (entries_of content store) c.args.key.now.0 c.in-Some.place none (omega (arith, long, c.in-Some.ensures.below)) (at ∙ has)
