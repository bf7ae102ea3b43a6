use Rattle.silt_engine.proofs.Common.{◌≡◌, ◌-◌, ◌++◌, ℕ, List, drop, map, sym, subst, arith, Map, oldest_first, StoredRow, all_rows, SortedState, entries_of, DoesRows, hashed_rows, AreEntriesOf}
use Rattle.silt_engine.proofs.Common.{EngineState}
use Rattle.silt_engine.proofs.Folds.{does_all, does_log, does_more}
use Rattle.silt_engine.proofs.Lookups.{current_is, rows_in}
use Rattle.silt_engine.proofs.Exits.{state_of}
use Rattle.silt_engine.proofs.engine.Engine.entries.Goals as goal

pub loop-index-preserved : goal.loop-index-preserved
loop-index-preserved g c = λ honest.
    does_log (rows_in (g.D.Disk.content c.args.disk.now)) c.self.inside.frozen.items (c.loop-index.index - 1) c.loop-index.index
    c.index.result.now c.do_hash_stores.new.entries c.loop-index.entries c.do_log.new.entries
    (omega (arith, c.loop-index-test.true)) (omega (arith, c.loop-index-test.true, c.loop-index.auto.index, c.len-index.ensures, c.self.inside.frozen.ok)) (sym c.index.ensures)
    (c.loop-index.invariant honest) (c.in_ok-do_log.ensures.ok honest)

pub returns-clause-entries : goal.returns-clause-entries
returns-clause-entries g c = rw (← c.self.view_is) (λ shows honest.
    let content = g.D.Disk.content c.args.disk.now in
    let none : c.loop-index.index ≡ 0 = omega (arith, c.loop-index-test.false) in
    let entries : List StoredRow = entries_of content c.self.inside.sorted.sorted in
    let hashed : List StoredRow = hashed_rows content (state_of c.self.inside) in
    let logs : List StoredRow = oldest_first (map (rows_in content) c.self.inside.frozen.items) in
    let hashes : DoesRows hashed c.do_sorted_store.new.entries c.do_hash_stores.new.entries =
    subst (λ (v : EngineState). DoesRows (hashed_rows content v) c.do_sorted_store.new.entries c.do_hash_stores.new.entries) (sym c.self.view_is) (c.in_ok-do_hash_stores.ensures.ok honest) in
    let does_entries : DoesRows entries c.new-entries.result c.do_sorted_store.new.entries =
    subst (λ (t : SortedState). DoesRows (entries_of content t) c.new-entries.result c.do_sorted_store.new.entries) c.entries.ensures (c.in_ok-do_sorted_store.ensures.ok honest) in
    let behind = does_more entries hashed c.new-entries.result c.do_sorted_store.new.entries c.do_hash_stores.new.entries does_entries hashes in
    let older : DoesRows logs c.do_hash_stores.new.entries c.loop-index.entries =
    subst (λ (n : ℕ). DoesRows (oldest_first (map (rows_in content) (drop n c.self.inside.frozen.items))) c.do_hash_stores.new.entries c.loop-index.entries) none (c.loop-index.invariant honest) in
    let both = does_more (entries ++ hashed) logs c.new-entries.result c.do_hash_stores.new.entries c.loop-index.entries behind older in
    let all = does_more (entries ++ hashed ++ logs) (all_rows content c.self.inside.active.log) c.new-entries.result c.loop-index.entries
    c.do_log-2.new.entries both (c.in_ok-do_log-2.ensures.ok honest) in
    subst (λ (m : Map). AreEntriesOf m c.do_log-2.new.entries) (sym (current_is content _ shows honest))
    (does_all (entries ++ hashed ++ logs ++ all_rows content c.self.inside.active.log) c.new-entries.result c.do_log-2.new.entries c.new-entries.ensures.empty all))
