use Rattle.silt_sorted_store.proofs.Common.{◌≢◌, subst, ap, SortedState, entries_of, IndexedState, HasKeyAndValue}
use Rattle.silt_sorted_store.proofs.Rising.{key_at}
use Rattle.silt_sorted_store.proofs.Entries.{entry_count}
use Rattle.silt_sorted_store.proofs.Locating.{none_named, other_named, value_here}
use Rattle.silt_sorted_store.proofs.sorted_store.SortedStore.get.Goals as goal

pub returns-in_default-clause-none : goal.returns-in_default-clause-none
returns-in_default-clause-none g c = λ honest none is no.
    let store = c.args.self.now.sorted in
    let content = g.D.Disk.content c.args.disk.now in
    none_named (entries_of content store) c.args.key.now.0 (c.in_default.ensures.place (entries_of content store) (entry_count store.shape store.region store.count content.shown) is)

pub returns-clause-found : goal.returns-clause-found
returns-clause-found g c = λ honest none is yes.
    let content = g.D.Disk.content c.args.disk.now in
    let has = subst (λ (s : SortedState). HasKeyAndValue (entries_of content s) c.in-Some.place c.args.key.now.0 c.value_of.new.out)
    (ap (λ (s : IndexedState). s.sorted) c.self.view_is) (c.value_of.ensures.found honest yes) in
    value_here (entries_of content c.args.self.now.sorted) c.args.key.now.0 c.in-Some.place c.value_of.new.out none has

pub returns-clause-none : goal.returns-clause-none
returns-clause-none g c = λ honest none is no.
    let store = c.args.self.now.sorted in
    let content = g.D.Disk.content c.args.disk.now in
    let named = c.in-Some.ensures.place (entries_of content store) (entry_count store.shape store.region store.count content.shown) is in
    let other = subst (λ (s : SortedState). key_at (entries_of content s) c.in-Some.place ≢ c.args.key.now.0)
    (ap (λ (s : IndexedState). s.sorted) c.self.view_is) (c.value_of.ensures.other honest no) in
    other_named (entries_of content store) c.args.key.now.0 c.in-Some.place named other
