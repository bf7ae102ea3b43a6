use Rattle.silt_merge.proofs.Common.{ap, ◌∙◌, sym, subst, entries_of, IsMergeOf, sources, sorted_in}
use Rattle.silt_merge.proofs.Ending.{done_entries, done_merge}
use Rattle.silt_merge.proofs.Viewing.{state_of}
use Rattle.silt_merge.proofs.merge.Merge.into_store.Goals as goal

pub returns-clause-entries : goal.returns-clause-entries
returns-clause-entries c =
    let store = c.new.ensures.store ∙ c.entries-entries.ensures ∙ ap sorted_in (sym c.self.view_is) in
    rw (← c.self.view_is) (λ content stores sorted done is honest sound.
    ap (entries_of content) store ∙ done_entries (state_of c.self.inside) sorted content stores c.self.invariant.0 done is honest sound)

pub returns-clause-merge : goal.returns-clause-merge
returns-clause-merge c =
    let store = c.new.ensures.store ∙ c.entries-entries.ensures ∙ ap sorted_in (sym c.self.view_is) in
    rw (← c.self.view_is) (λ content stores sorted done is honest sound room. subst (IsMergeOf (sources content.shown stores sorted)) (sym (ap (entries_of content) store)) (done_merge
    (state_of c.self.inside) sorted content stores c.self.invariant.0 done is honest sound room))
