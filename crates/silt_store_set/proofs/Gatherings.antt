-- If a merge is out of memory, the slot that it gathers next has the first row of a key, or the key that it decides next has a value.
use Rattle.silt_store_set.proofs.Common.{◌≡◌, ℕ, zero, suc, ◌+◌, ◌-◌, ◌*◌, ◌<◌, ◌≤◌, true, IsTrue, List, [], ◌∷◌, ◌++◌, drop, length, map, take, get_or, Option, Some, None, IsSomeAnd, refl}
use Rattle.silt_store_set.proofs.Common.{sym, subst, ap, ◌∙◌, arith, append_assoc, length-map, Content, Shape, StoredRow, hash_rows, all_rows, Body, regions_of, MergeState, oldest_stores}
use Rattle.silt_store_set.proofs.Common.{steps_of, GathersRow, TakesKey, full_stores, merge_sources, HasGathered, Stands, IsMerging, EngineState, sources_full, taken_sound, filter, flat_map}
use Rattle.silt_store_set.proofs.Common.{slice_get, suc-mul, option_or, length-append, take-append-drop, newest_row, has_known_kind, is_put_row, hash_part, rows_before, slot_row}
use Rattle.silt_store_set.proofs.Common.{newest_rows, rows_of_hashes, source_at, full_is, sorted_shape, HasNewKey}
use Rattle.std.proofs.lemmas.List.Elements.{filter-append}
use Rattle.std.proofs.lemmas.Option.{slice_get-get_or}
use Rattle.std.proofs.Math.Seq.{get_or-append_seam, take-append_seam}
use Rattle.silt_hash_store.specs.State.{HashState}
use Rattle.silt_hash_store.proofs.Slotting.{all_before, before_count, before_more, before_taken}
use Rattle.silt_image.specs.Meaning.{with_log_rows}
use Rattle.silt_image.specs.Stores.{stores_named}
use Rattle.silt_log.specs.Parts.{part_rows}
use Rattle.silt_merge.specs.Merging.{IsMergedIn, gathered_rows}
use Rattle.silt_merge.proofs.Newest.{newest_append}
use Rattle.silt_engine.proofs.MergeStores.{taken_named}

-- ---- lists one after the other

module _ {X : Type 0} where
  -- the element behind this many others, and those before it
  next_there : (before : List X) (x : X) (behind : List X) (n : ℕ) → length before ≡ n → slice_get (before ++ x ∷ behind) n ≡ Some x
  next_there before x behind n long =
      let inside : length before < length (before ++ x ∷ behind) = omega (arith, length-append before (x ∷ behind)) in
      ap (slice_get (before ++ x ∷ behind)) (sym long) ∙ slice_get-get_or (before ++ x ∷ behind) (length before) x inside ∙ ap Some (get_or-append_seam before x behind x)

  first_there : (before behind : List X) (n : ℕ) → length before ≡ n → take n (before ++ behind) ≡ before
  first_there before behind n long = ap (λ (m : ℕ). take m (before ++ behind)) (sym long) ∙ take-append_seam before behind

  -- lists of one length, this many of them
  lists_long : (f : ℕ → List X) (each : ℕ) → ((n : ℕ) → length (f n) ≡ each) → (ns : List ℕ) (k : ℕ) → k ≤ length ns → length (flat_map f (take k ns)) ≡ k * each
  lists_long f each all [] zero most = omega arith
  lists_long f each all [] (suc k) most = absurd (omega arith)
  lists_long f each all (n ∷ ns) zero most = omega arith
  lists_long f each all (n ∷ ns) (suc k) most = omega (arith, length-append (f n) (flat_map f (take k ns)), all n, lists_long f each all ns k (omega arith), suc-mul k each)

  -- an element of one of the lists comes behind the lists before, and behind the elements before it
  stands_behind : (f : ℕ → List X) (ns : List ℕ) (k d : ℕ) (before : List X) (x : X) (rest : List X) → k < length ns → f (get_or ns k d) ≡ before ++ x ∷ rest
      → (behind : List X) × (flat_map f ns ≡ (flat_map f (take k ns) ++ before) ++ x ∷ behind)
  stands_behind f [] k d before x rest below is = absurd (omega arith)
  stands_behind f (n ∷ ns) zero d before x rest below is = (rest ++ flat_map f ns, ap (λ l. l ++ flat_map f ns) is ∙ append_assoc before (x ∷ rest) (flat_map f ns))
  stands_behind f (n ∷ ns) (suc k) d before x rest below is = search (arith, stands_behind f ns k d before x rest, append_assoc)

-- ---- keys that no row has

-- if neither option has a value, each is None
none_of_both : {A : Type 0} (o p : Option A) → option_or o p ≡ None → (o ≡ None) × (p ≡ None)
none_of_both None p none = (refl, none)
none_of_both (Some x) p none = absurd (cc)

module _ (key : List ℕ) where
  -- if neither part has a row of the key, both together have none
  none_together : (older newer : List StoredRow) → newest_row older key ≡ None → newest_row newer key ≡ None → newest_row (older ++ newer) key ≡ None
  none_together older newer old new = newest_append older newer key ∙ ap (λ o. option_or o (newest_row older key)) new ∙ old

-- ---- the slots of regions

module _ (s : Shape) (image : List ℕ) where
  -- one region after the other
  abbrev slots_in : List ℕ → List StoredRow
  slots_in regions = flat_map (λ region. hash_rows s region image) regions

  parts_slots : (regions : List ℕ) → flat_map part_rows (map (hash_part s image) regions) ≡ slots_in regions
  parts_slots [] = refl
  parts_slots (region ∷ regions) = ap (λ l. hash_rows s region image ++ l) (parts_slots regions)

  -- the row of a slot comes behind the rows before it
  row_behind : (region slot : ℕ) → slot < 4 * s.buckets → hash_rows s region image ≡ rows_before s region image slot ++ slot_row s region image slot ∷ drop (slot + 1) (hash_rows s region image)
  row_behind region slot inside =
      let rest : List StoredRow = drop (slot + 1) (hash_rows s region image) in
      sym (take-append-drop (slot + 1) (hash_rows s region image))
      ∙ ap (λ l. l ++ rest) (before_taken s region image (slot + 1) (omega arith) ∙ before_more s region image slot)
      ∙ append_assoc (rows_before s region image slot) (slot_row s region image slot ∷ []) rest

  -- a key that no row of stores has, no slot of them has
  none_in : (key : List ℕ) (regions : List ℕ) → newest_row (rows_of_hashes s image regions) key ≡ None → newest_row (filter has_known_kind (slots_in regions)) key ≡ None
  none_in key [] none = none
  none_in key (region ∷ regions) none = search (arith, none_in key regions, none_of_both, newest_append, filter-append, none_together)

  -- a key that no gathered row has, no slot before has
  none_before : (key : List ℕ) (regions : List ℕ) (store slot : ℕ) → newest_row (gathered_rows s image regions store slot) key ≡ None
      → newest_row (filter has_known_kind (slots_in (take store regions) ++ rows_before s (get_or regions store 0) image slot)) key ≡ None
  unfolding gathered_rows
  none_before key regions store slot none = search (arith, none_of_both, newest_append, filter-append, none_together, none_in)

  -- the slot that is gathered next
  next_slot : (regions : List ℕ) (store slot steps : ℕ) → store < length regions → slot < 4 * s.buckets → steps ≡ store * (4 * s.buckets) + slot
      → has_known_kind (slot_row s (get_or regions store 0) image slot) ≡ true → newest_row (gathered_rows s image regions store slot) (slot_row s (get_or regions store 0) image slot).key ≡ None
      → HasNewKey (slots_in regions) steps
  next_slot regions store slot steps below inside is known none =
      let region : ℕ = get_or regions store 0 in
      let row : StoredRow = slot_row s region image slot in
      let before : List StoredRow = slots_in (take store regions) ++ rows_before s region image slot in
      let all = stands_behind (λ (r : ℕ). hash_rows s r image) regions store 0 (rows_before s region image slot) row
      (drop (slot + 1) (hash_rows s region image)) below (row_behind region slot inside) in
      let long : length before ≡ steps = search (arith, length-append, lists_long, all_before, before_count) in
      record {
        row = row;
        next = cc (all.1, next_there before row all.0 steps long);
        known = known;
        new_key = cc (all.1, first_there before (row ∷ all.0) steps long, none_before row.key regions store slot none);
      }

-- ---- a merge in progress

-- other rows of a log leave the hash stores
hashes_with : (region : ℕ) (rows : List StoredRow) (shape : Shape) (body : Body) (image : List ℕ)
    → (with_log_rows region rows (stores_named shape body image)).hashes ≡ map (hash_part shape image) body.hashed
unfolding with_log_rows stores_named
hashes_with region rows shape body image = refl

module _ (content : Content) (s : EngineState) (stands : Stands content s) (honest : IsTrue content.honest) where
  -- the slots that it takes of the full image are those of its stores
  slots_taken : (count : ℕ) → flat_map part_rows (drop (length (full_stores content s).hashes - count) (full_stores content s).hashes) ≡ slots_in
      s.manifest.shape content.shown (regions_of (oldest_stores count s.hashes))
  slots_taken count =
      let same : (full_stores content s).hashes ≡ map (hash_part s.manifest.shape content.shown) s.manifest.current.hashed =
      cc (full_is content s stands honest, hashes_with s.manifest.current.active (all_rows content s.active.log) s.manifest.shape s.manifest.current content.shown) in
      cc (
        taken_named s.manifest.shape content.shown s.manifest.current.hashed s.hashes count stands.whole.hash_regions,
        parts_slots s.manifest.shape content.shown (regions_of (oldest_stores count s.hashes)),
      )

  -- the key that a merge decides next has a value, if its entry needs memory
  pub decides_next : (merge : MergeState) → IsMerging s merge → HasGathered content s merge → TakesKey content (oldest_stores merge.stores s.hashes) s.sorted merge
      → IsSomeAnd (slice_get (newest_rows (merge_sources merge.stores (full_stores content s))) (steps_of merge - merge.stores * (4 * s.manifest.shape.buckets))) (λ row. is_put_row row ≡ true)
  decides_next merge way merged takes =
      let slots : merge.store * (4 * merge.shape.buckets) ≡ merge.stores * (4 * s.manifest.shape.buckets) = cc (takes.gathered, way.has_shape) in
      let decided : merge.decided ≡ steps_of merge - merge.stores * (4 * s.manifest.shape.buckets) = omega (arith, slots, way.held.ended takes.gathered) in
      rw (← (sources_full content s stands honest merge.stores), decided) at (takes.puts honest merged.0 (taken_sound content s stands honest merge.stores))

  module _ (merge : MergeState) (way : IsMerging s merge) (merged : HasGathered content s merge) (takes : GathersRow content (oldest_stores merge.stores s.hashes) merge) where
    abbrev stores : List HashState
    stores = oldest_stores merge.stores s.hashes

    abbrev regions : List ℕ
    regions = regions_of stores

    -- the row in the slot that is gathered next
    abbrev due_in : Shape → StoredRow
    due_in sh = slot_row sh (get_or regions merge.store 0) content.shown merge.slot

    was : IsMergedIn content.shown stores s.sorted merge
    was = merged.0.merged honest (taken_sound content s stands honest merge.stores)

    -- if no row of a key waits, none of its rows is gathered
    none_gathered : (key : List ℕ) → source_at merge.waiting key ≡ None → newest_row (gathered_rows s.manifest.shape content.shown regions merge.store merge.slot) key ≡ None
    none_gathered key none =
        let rows : Shape → List StoredRow = λ sh. gathered_rows sh content.shown regions merge.store merge.slot in
        cc (sorted_shape content s stands, way.held.gathers takes.gathers, was.gathered.waits key)

    pub new_key_next : HasNewKey (flat_map part_rows (drop (length (full_stores content s).hashes - merge.stores) (full_stores content s).hashes)) (steps_of merge)
    new_key_next =
        let long : length regions ≡ merge.stores = length-map stores (λ store. store.region) ∙ merged.0.counted in
        let steps : steps_of merge ≡ merge.store * (4 * s.manifest.shape.buckets) + merge.slot =
        omega (arith, way.held.gathers takes.gathers, ap (λ (sh : Shape). merge.store * (4 * sh.buckets)) way.has_shape) in
        rw (← (slots_taken merge.stores)) at (next_slot s.manifest.shape content.shown regions merge.store merge.slot (steps_of merge) (omega (arith, takes.gathers, long)) (subst (λ (sh : Shape).
        merge.slot < 4 * sh.buckets) way.has_shape way.held.slot) steps (subst (λ (sh : Shape). has_known_kind (due_in sh) ≡ true) way.has_shape (takes.known honest)) (none_gathered (due_in
        s.manifest.shape).key (subst (λ (sh : Shape). source_at merge.waiting (due_in sh).key ≡ None) way.has_shape (takes.new_key honest))))
