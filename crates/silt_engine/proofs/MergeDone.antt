-- What a merge takes of the stores, and when it is done.
use Rattle.silt_engine.proofs.Common.{◌≡◌, ◌≤◌, ℕ, ◌+◌, ◌-◌, ◌++◌, IsTrue, List, [], true, length, map, take, drop, get_or, refl, ap, sym, ◌∙◌, subst, Option, Some, None, arith, IfSome, and_parts}
use Rattle.silt_engine.proofs.Common.{eqb-true, length-drop, take-append-drop, take_all, All-drop, Content, Shape, StoredRow, put_count, HashState, IsHashStore, IsHeldHash, IsSound, charge_of}
use Rattle.silt_engine.proofs.Common.{rows_of, with_log_rows, known_rows, oldest_first, part_rows, Part, map_of_rows, sorted_findings, Stores, sorted_rows, SortedState, count_law, all_rows}
use Rattle.silt_engine.proofs.Common.{waiting_rows, Body, IsMergeOf, entries_in, merged_rows, MergeState, is_done, oldest_stores, charge_without, merge_sources, puts_in, IsMerging, EngineState}
use Rattle.silt_engine.proofs.Common.{HasGathered, Stands, base_map, shown_stores, leb-true, slice_get-get_or, charge_law, parts_law, ReplacesStores, with_merged, AreSound, sources, entry_count}
use Rattle.silt_engine.proofs.Common.{AreCompared, IsDoneBySteps}
use Rattle.silt_engine.specs.Merge as spec
use Rattle.silt_image.specs.Stores.{stores_named}
use Rattle.silt_merge.proofs.Ending.{done_entries, done_steps}
use Rattle.silt_merge.proofs.Newest.{key_count_law, merged_law}
use Rattle.silt_engine.proofs.MergeStores.{merges, rows_old, sound_with, sources_named, sources_puts, sources_with}
use Rattle.silt_merge.proofs.Sounding.{sound_stores}
use Rattle.silt_engine.proofs.Facts.{base_is, full_stores, shown_sound}
use Rattle.silt_engine.proofs.Named.{named_body, named_here, named_shape, with_body, with_shape}

module _ (content : Content) (s : EngineState) (stands : Stands content s) where
  pub sorted_shape : s.sorted.shape ≡ s.manifest.shape
  sorted_shape = ap (λ (t : SortedState). t.shape) stands.whole.sorted

  -- the entries of the sorted store rise
  pub shown_entries : IsTrue content.honest → sorted_findings (entries_in content.shown s.sorted) ≡ []
  unfolding stores_named
  shown_entries h = cc (stands.whole.sorted, ((parts_law (shown_stores content s)).0 (shown_sound content s stands h)).entries)

  -- nothing is found in what a merge takes
  pub taken_sound : IsTrue content.honest → (count : ℕ) → AreSound content.shown (oldest_stores count s.hashes) s.sorted
  taken_sound h count = sound_stores content (oldest_stores count s.hashes) s.sorted h (All-drop (λ (store : HashState). store.shape ≡ s.sorted.shape) (length s.hashes - count) s.hashes (λ k
      d inside. (stands.whole.hashed k d inside).has_shape ∙ sym sorted_shape)) (All-drop IsHeldHash (length s.hashes - count) s.hashes (λ k d inside. (stands.whole.hashed k d inside).held))
      (All-drop (IsHashStore content) (length s.hashes - count) s.hashes stands.hashed) (shown_entries h)

  -- the stores of the full image
  pub full_is : IsTrue content.honest → spec.full_stores content s ≡ with_log_rows s.manifest.current.active (all_rows content s.active.log) (shown_stores content s)
  full_is h = named_here _ _ _ _ (full_stores _ s stands h) (with_shape _ _ _ ∙ named_shape _ _ _) (with_body _ _ _ ∙ named_body _ _ _)

  -- what a merge takes of what is shown, and of the full image
  pub sources_shown : (count : ℕ) → merge_sources count (shown_stores content s) ≡ sources content.shown (oldest_stores count s.hashes) s.sorted
  sources_shown count = sources_named _ _ _ _ count _ stands.whole.sorted stands.whole.hash_regions

  pub sources_full : IsTrue content.honest → (count : ℕ) → merge_sources count (spec.full_stores content s) ≡ sources content.shown (oldest_stores count s.hashes) s.sorted
  sources_full h count = ap (merge_sources count) (full_is h) ∙ sources_with _ count _ _ ∙ sources_shown count

  -- a merge is done after the steps that its stores take
  pub done_by_steps : IsTrue content.honest → IfSome s.merging (IsDoneBySteps content s)
  done_by_steps h = each _ stands.whole.merging stands.merged
    where
      each : (o : Option MergeState) → IfSome o (IsMerging s) → IfSome o (HasGathered content s) → IfSome o (IsDoneBySteps content s)
      each None merging merged = tt
      each (Some merge) merging merged =
          let way : IsMerging s merge = merging in
          rw (← (sources_full h merge.stores)) at (done_steps merge _ _ _ _ refl way.held merged.0 h (taken_sound h _))

-- ---- a merge that is done

module _ (content : Content) (s : EngineState) (merge : MergeState) (stands : Stands content s) (was : s.merging ≡ Some merge) (done : is_done merge s.sorted ≡ true) where
  pub way : IsMerging s merge
  way = subst (λ (o : Option MergeState). IfSome o (IsMerging s)) was stands.whole.merging

  gathered : HasGathered content s merge
  gathered = rw was at stands.merged

  abbrev t : Stores
  t = shown_stores content s

  -- the hash stores that it did not take, and those that it did
  abbrev pub newer_parts : List Part
  newer_parts = take (length (shown_stores content s).hashes - merge.stores) (shown_stores content s).hashes

  abbrev pub taken_parts : List Part
  taken_parts = drop (length (shown_stores content s).hashes - merge.stores) (shown_stores content s).hashes

  pub split : t.hashes ≡ newer_parts ++ taken_parts
  split = sym (take-append-drop (length t.hashes - merge.stores) t.hashes)

  -- the rows that it took, and its entries
  abbrev pub rows : List StoredRow
  rows = merge_sources merge.stores (shown_stores content s)

  abbrev pub new_entries : List StoredRow
  new_entries = sorted_rows s.manifest.shape merge.region merge.written content.shown

  -- the puts that it took are among all
  taken_puts : put_count rows ≤ charge_of t
  taken_puts =
      let all = rows_old t t.body newer_parts taken_parts (merged_rows rows) split (merged_law rows) in
      omega (arith, ap put_count all, count_law rows (oldest_first (map known_rows newer_parts) ++ oldest_first (map part_rows t.logs)))

  -- so its entries have room
  room : IsTrue content.honest → length (merged_rows rows) ≤ s.manifest.shape.sorted_capacity
  room h =
      let few = (key_count_law rows).1 in
      let most = charge_law t (shown_sound _ s stands h) in
      let capacity : t.shape.sorted_capacity ≡ s.manifest.shape.sorted_capacity = ap (λ (sh : Shape). sh.sorted_capacity) (named_shape _ _ _) in
      omega (arith, few, most, capacity, taken_puts)

  -- and are the newest rows that are puts
  pub entries_are : IsTrue content.honest → new_entries ≡ merged_rows rows
  entries_are h = cc (
    way.has_shape,
    done_entries merge s.sorted content (oldest_stores merge.stores s.hashes) way.held done gathered.0 h (taken_sound content s stands h merge.stores),
    sources_shown content s stands merge.stores,
    take_all s.manifest.shape.sorted_capacity (merged_rows rows) (room h),
  )

  is_merge : IsTrue content.honest → IsMergeOf rows new_entries
  is_merge h = subst (IsMergeOf rows) (sym (entries_are h)) (merged_law rows)

  -- the stores with them
  abbrev pub merged_stores : Body → Stores
  merged_stores body = with_merged body newer_parts new_entries (shown_stores content s)

  replaces : (body : Body) → IsTrue content.honest → ReplacesStores rows new_entries t (merged_stores body)
  replaces body h = merges t body newer_parts taken_parts new_entries split (shown_sound _ s stands h) (is_merge h)

  -- have the same map
  pub merged_map : (body : Body) → IsTrue content.honest → map_of_rows (rows_of (merged_stores body)) ≡ base_map content s
  merged_map body h = (replaces body h).map ∙ sym (base_is _ s)

  -- nothing is found in them
  pub merged_sound : (body : Body) → IsTrue content.honest → IsSound (merged_stores body)
  merged_sound body h = (replaces body h).sound

  -- also once the waiting rows are settled
  pub merged_full_sound : (body : Body) → IsTrue content.honest → IsSound (with_log_rows s.manifest.current.active (all_rows content s.active.log) (merged_stores body))
  merged_full_sound body h = sound_with body newer_parts taken_parts new_entries (all_rows content s.active.log) s.manifest.current.active t split (is_merge h)
      (subst (λ (n : ℕ). IsSound (with_log_rows n (all_rows content s.active.log) t)) stands.whole.active_region (stands.sound h))

  -- the puts that went away do not count, and the entries do
  pub merged_counted : (body : Body) → IsTrue content.honest → (charge : ℕ) → charge ≡ s.charge - ((s.charge - charge_without s merge.stores) - merge.written)
      → charge ≡ put_count (rows_of (merged_stores body) ++ waiting_rows content s.active.log)
  merged_counted body h charge is =
      let waiting : List StoredRow = waiting_rows content s.active.log in
      let taken : put_count rows ≡ s.sorted.count + puts_in (oldest_stores merge.stores s.hashes) =
      ap put_count (sources_shown content s stands merge.stores)
      ∙ sources_puts content (oldest_stores merge.stores s.hashes) s.sorted h (All-drop (λ (store : HashState). store.shape ≡ s.sorted.shape) (length s.hashes - merge.stores) s.hashes
      (λ k d inside. (stands.whole.hashed k d inside).has_shape ∙ sym (sorted_shape content s stands)))
      (All-drop (IsHashStore content) (length s.hashes - merge.stores) s.hashes stands.hashed) in
      let written : length new_entries ≡ merge.written = entry_count s.manifest.shape merge.region merge.written content.shown in
      let fewer : length new_entries ≤ put_count rows = let few = (is_merge h).charge in let all = (is_merge h).counted in omega (arith, few, all) in
      let moved = (replaces body h).charge in
      let behind = count_law (rows_of (merged_stores body)) waiting in
      let before = count_law (rows_of t) waiting in
      let counted = stands.counted h in
      omega (arith, is, taken, written, fewer, moved, behind, before, counted, taken_puts)

  -- what it read of each of its stores has the digest of that store
  pub all_compared : merge.damaged ≡ None → AreCompared s merge.stores
  all_compared sound =
      let parts = and_parts _ _ done in
      let stores : List HashState = oldest_stores merge.stores s.hashes in
      record {
        hashes = λ k d inside. rw way.has_shape at (gathered.1.hashes sound k (get_or stores k d)
            (omega (arith, eqb-true merge.store merge.stores (and_parts _ _ parts.0).0, way.most, length-drop (length s.hashes - merge.stores) s.hashes)) (slice_get-get_or stores k d inside));
        entries = λ some. rw way.has_shape at (gathered.1.entries sound some (leb-true s.sorted.count merge.passed parts.1));
      }

-- ---- its end
