use Rattle.silt_store_set.proofs.Common.{sym, subst, ap, ◌∙◌, get, Map, held_stores, EngineState, current_map, ShowsStores}
use Rattle.silt_recovery.proofs.Shown.{held_good, held_map, held_shown}
use Rattle.silt_store_set.proofs.device_entries.read_entries.Goals as goal

pub returns-in-Ok-clause-entries : goal.returns-in-Ok-clause-entries
returns-in-Ok-clause-entries g c = λ honest key.
    let content = g.D.Disk.content c.args.disk.now in
    let s : EngineState = held_stores c.in_ok-held.held in
    let shows : ShowsStores content c.new-engine.result = subst (λ (t : EngineState). ShowsStores content t) (sym c.new-engine.ensures) (held_shown content s c.in_ok-held.ensures.holds) in
    c.in-Ok.ensures.entries shows honest key ∙ ap (λ (m : Map). get m key.0) (ap (current_map content) c.new-engine.ensures ∙ held_map content s c.in_ok-held.ensures.holds honest)

pub returns-in-Ok-clause-good : goal.returns-in-Ok-clause-good
returns-in-Ok-clause-good g c = λ honest. held_good (g.D.Disk.content c.args.disk.now) (held_stores c.in_ok-held.held) c.in_ok-held.ensures.holds honest
