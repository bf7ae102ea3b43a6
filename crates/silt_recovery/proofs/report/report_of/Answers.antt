use Rattle.silt_recovery.proofs.Common.{◌≤◌, List, All, length, sum_by, sym, ap, ◌∙◌, subst, LogStoreState, EngineState, layout_of, current_slot, held_stores}
use Rattle.silt_recovery.proofs.Reports.{few_frozen, few_rows, reported_so, used_rows}
use Rattle.silt_recovery.proofs.report.report_of.Goals as goal

pub row_count-requires-clause-few : goal.row_count-requires-clause-few
row_count-requires-clause-few g c =
    let held : EngineState = held_stores c.args.held.now in
    subst (λ (stores : List LogStoreState). length stores ≤ 7) (sym c.deref.ensures.value)
    (few_frozen (g.D.Disk.content c.args.disk.now) held (current_slot c.args.held.now.manifest) c.requires.holds c.current-body.ensures.sound)

pub row_count-requires-clause-most : goal.row_count-requires-clause-most
row_count-requires-clause-most g c =
    subst (λ (stores : List LogStoreState). All (λ (store : LogStoreState). store.log.used ≤ 131072) stores) (sym c.deref.ensures.value)
    (few_rows (g.D.Disk.content c.args.disk.now) c.args.held.now.manifest.shape c.args.held.now.frozen.items c.requires.holds.limits c.requires.holds.frozen)

pub returns : goal.returns
returns g c =
    let held : EngineState = held_stores c.args.held.now in
    reported_so (g.D.Disk.content c.args.disk.now) held c.current-body.result c.len.result c.len-2.result c.row_count.result c.len-3.result
    c.args.held.now.hash_rows c.layout_of.result c.requires.holds c.requires.hash_rows c.current-body.ensures.value c.len.ensures.value c.len-2.ensures.value
    (c.row_count.ensures ∙ ap (λ (stores : List LogStoreState). sum_by used_rows stores) c.deref.ensures.value) c.len-3.ensures.value (c.layout_of.ensures ∙ ap layout_of c.digests-said.ensures.value)
