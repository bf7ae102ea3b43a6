-- What a change on another part of the disk leaves of a merge.
use Rattle.silt_merge.proofs.Common.{◌≡◌, ◌≢◌, ℕ, suc, ◌+◌, ◌-◌, ◌*◌, ◌<◌, ◌≤◌, ◌⊎◌, IsTrue, List, [], ◌∷◌, ◌++◌, filter, length, map, take, get_or, Option, Some, None, option_map, refl, sym, ap}
use Rattle.silt_merge.proofs.Common.{◌∙◌, arith, length-map, Shape, entry_len, sorted_at, kind_byte, slot_row, hash_part, HashState, all_before, StoredRow, is_put_row, keys_of, sorted_rows}
use Rattle.silt_merge.proofs.Common.{SortedState, AreSound, source_row, entries_in, has_row_with, newest_rows, regions_of, IsHeldMerge, MergeState, source_at, Source, IsBuildingOf, All}
use Rattle.silt_merge.proofs.Common.{drop-append-add, get_or-map, length-append, take-map, LiesOutside, Torn, device_size, entries_len, hash_at, slots_len, regions_apart, IsHeldSorted}
use Rattle.silt_merge.proofs.Common.{MergedElsewhereLaw, OldestStoresLaw, IsGatheredIn, IsMergedIn, decided_rows, key_count}
use Rattle.silt_hash_store.proofs.Elsewhere.{slot_outside, slots_inside}
use Rattle.silt_hash_store.specs.Slots.{rows_before}
use Rattle.silt_log.proofs.Bodies.{map_range_same}
use Rattle.silt_sorted_store.proofs.Elsewhere.{entries_inside, entries_outside}
use Rattle.silt_merge.specs.Merging.{gathered_rows}
use Rattle.silt_merge.specs.Rows.{sources}
use Rattle.silt_merge.proofs.Pieces.{slots_same}

-- there are as many regions as stores
pub regions_count : (stores : List HashState) → length (regions_of stores) ≡ length stores
regions_count stores = length-map stores (λ (s : HashState). s.region)

-- ---- all that is merged

-- two images show the same in the hash regions and in the sorted store
pub record SameSources (s : Shape) (regions : List ℕ) (sorted : SortedState) (old new : List ℕ) : Type 0 where
  pub rows : (store slot : ℕ) → store < length regions → slot < 4 * s.buckets → slot_row s (get_or regions store 0) new slot ≡ slot_row s (get_or regions store 0) old slot
  pub entries : entries_in new sorted ≡ entries_in old sorted

module _ (s : Shape) (old new : List ℕ) where
  -- the rows before a slot
  before_same : (region count : ℕ) → ((slot : ℕ) → slot < count → slot_row s region new slot ≡ slot_row s region old slot) → rows_before s region new count ≡ rows_before s region old count
  unfolding rows_before
  before_same region count rows = map_range_same (slot_row s region new) (slot_row s region old) 0 count (λ place low high. rows place (omega arith))

  -- all rows of each store
  part_same : (region : ℕ) → ((slot : ℕ) → slot < 4 * s.buckets → slot_row s region new slot ≡ slot_row s region old slot) → hash_part s new region ≡ hash_part s old region
  unfolding rows_before
  part_same region rows = search (arith, all_before, map_range_same)

  -- those of all stores
  parts_same : (regions : List ℕ) → ((store slot : ℕ) → store < length regions → slot < 4 * s.buckets → slot_row s (get_or regions store 0) new slot ≡ slot_row s (get_or regions store 0) old slot)
      → map (hash_part s new) regions ≡ map (hash_part s old) regions
  parts_same [] rows = refl
  parts_same (region ∷ regions) rows =
      let rest = parts_same regions (λ store slot below inside. rows (suc store) slot (omega arith) inside) in
      let first = part_same region (λ slot inside. rows 0 slot (omega arith) inside) in
      ap (λ p. p ∷ map (hash_part s new) regions) first ∙ ap (λ ps. hash_part s old region ∷ ps) rest

  -- and those of the first of them
  first_same : (count : ℕ) (regions : List ℕ) → ((store slot : ℕ) → store < length regions → slot < 4 * s.buckets
      → slot_row s (get_or regions store 0) new slot ≡ slot_row s (get_or regions store 0) old slot)
      → map (hash_part s new) (take count regions) ≡ map (hash_part s old) (take count regions)
  first_same count regions rows = sym (take-map (hash_part s new) count regions) ∙ ap (take count) (parts_same _ rows) ∙ take-map (hash_part s old) count regions

  -- the rows that are gathered
  gathered_same : (regions : List ℕ) (store slot : ℕ)
      → ((store slot : ℕ) → store < length regions → slot < 4 * s.buckets → slot_row s (get_or regions store 0) new slot ≡ slot_row s (get_or regions store 0) old slot)
      → (store < length regions) ⊎ (slot ≡ 0) → slot ≤ 4 * s.buckets → gathered_rows s new regions store slot ≡ gathered_rows s old regions store slot
  unfolding gathered_rows rows_before
  gathered_same regions store slot rows some most = search (arith, map_range_same, first_same)

module _ (old new : List ℕ) (stores : List HashState) (sorted : SortedState) (same : SameSources sorted.shape (regions_of stores) sorted old new) where
  -- all rows that are merged
  pub sources_same : sources new stores sorted ≡ sources old stores sorted
  unfolding sources
  sources_same = cc (same.entries, parts_same sorted.shape old new (regions_of stores) same.rows)

  -- there was no finding if there is none
  pub sound_before : AreSound new stores sorted → AreSound old stores sorted
  sound_before sound = search (arith, parts_same)

  -- the row of a source
  row_same : (source : Source) → source.store < length (regions_of stores) → source.slot < 4 * sorted.shape.buckets
      → source_row sorted.shape new (regions_of stores) source ≡ source_row sorted.shape old (regions_of stores) source
  row_same source below inside = ap (λ (r : StoredRow). let q : StoredRow = record r { kind = kind_byte source.kind } in q) (same.rows source.store source.slot below inside)

  -- what was gathered and decided is so still
  pub merged_same : (merge : MergeState)
      → ((key : List ℕ) (source : Source) → source_at merge.waiting key ≡ Some source → (source.store < length (regions_of stores)) × (source.slot < 4 * sorted.shape.buckets))
      → (merge.store < length (regions_of stores)) ⊎ (merge.slot ≡ 0) → merge.slot ≤ 4 * sorted.shape.buckets → IsGatheredIn old stores sorted merge
      → sorted_rows merge.shape merge.region merge.written new ≡ take merge.shape.sorted_capacity (filter is_put_row (decided_rows old stores sorted merge.decided))
      → IsBuildingOf (keys_of (sorted_rows merge.shape merge.region merge.written new)) merge.index.building → IsMergedIn new stores sorted merge
  merged_same merge inside some most is writes index =
      let decided : decided_rows new stores sorted merge.decided ≡ decided_rows old stores sorted merge.decided = ap (λ l. take merge.decided (newest_rows l)) sources_same in
      record {
        gathered = record {
          most = omega (arith, is.most, ap key_count sources_same);
          waits = λ key.
              cc (row_of_source key (source_at merge.waiting key) refl, is.waits key, gathered_same sorted.shape old new (regions_of stores) merge.store merge.slot same.rows some most);
          last = λ key same_key. ap (has_row_with key.0) decided ∙ is.last key same_key;
          slots = λ below. slots_same sorted.shape (get_or (regions_of stores) merge.store 0) old new merge.slot merge.slots (λ slot inside. same.rows
              merge.store slot (omega (arith, below, regions_count stores)) inside) (is.slots below);
          ahead = rw (← same.entries) at is.ahead;
          passes = λ place below. cc (same.entries, is.passes place below);
          slots_hashed = λ below. rw (← (before_same sorted.shape old new (get_or (regions_of stores) merge.store 0) merge.slot (λ slot inside. same.rows
              merge.store slot (omega (arith, below, regions_count stores)) (omega (arith, inside, most))))) at (is.slots_hashed below);
          entries_hashed = λ past. rw (← same.entries) at (is.entries_hashed past);
        };
        writes = cc;
        index = index;
      }
    where
      row_of_source : (key : List ℕ) (o : Option Source) → source_at merge.waiting key ≡ o
          → option_map (source_row sorted.shape new (regions_of stores)) (source_at merge.waiting key) ≡ option_map (source_row sorted.shape old (regions_of stores)) (source_at merge.waiting key)
      row_of_source key None is = ap (option_map (source_row sorted.shape new (regions_of stores))) is ∙ sym (ap (option_map (source_row sorted.shape old (regions_of stores))) is)
      row_of_source key (Some source) is =
          let where_it_is = inside key source is in
          ap (option_map (source_row sorted.shape new (regions_of stores))) is ∙ ap Some (row_same source where_it_is.0 where_it_is.1)
          ∙ sym (ap (option_map (source_row sorted.shape old (regions_of stores))) is)

-- the region of a store
region_of : (stores : List HashState) (store : ℕ) (blank : HashState) → store < length stores → get_or (regions_of stores) store 0 ≡ (get_or stores store blank).region
region_of stores store blank below = get_or-map (λ (s : HashState). s.region) stores store blank 0 below

-- a change outside all that is merged
pub same_outside : (stores : List HashState) (sorted : SortedState) (old new : List ℕ) (at count : ℕ) → device_size sorted.shape ≤ length old
    → All (λ store. store.region < sorted.shape.hashes) stores → IsHeldSorted sorted
    → LiesOutside (sorted_at sorted.shape sorted.region) (entries_len sorted.shape) at count
    → All (λ store. LiesOutside (hash_at sorted.shape store.region) (slots_len sorted.shape) at count) stores → Torn at count old new → SameSources sorted.shape (regions_of stores) sorted old new
same_outside stores sorted old new at count fits there held behind outside torn = record {
  rows = λ store slot below inside.
      let blank : HashState = record { shape = sorted.shape; region = 0; tags = []; puts = 0; digest = [] } in
      let within : store < length stores = omega (arith, regions_count stores) in
      let region : ℕ = (get_or stores store blank).region in
      let its : get_or (regions_of stores) store 0 ≡ region = region_of stores store blank within in
      let ends = slots_inside sorted.shape region (there store blank within) in
      cc (slot_outside sorted.shape region slot at count old new (omega (arith, ends)) inside (outside store blank within) torn);
  entries =
      let ends = entries_inside sorted.shape sorted.region held.region in
      entries_outside sorted.shape sorted.region sorted.count at count old new (omega (arith, ends)) held.room behind torn;
}

-- a change of entries of another sorted region
pub same_beside : (stores : List HashState) (sorted : SortedState) (region : ℕ) (old new : List ℕ) → device_size sorted.shape ≤ length old
    → All (λ store. store.region < sorted.shape.hashes) stores → IsHeldSorted sorted → sorted.region ≢ region → region < 2
    → Torn (sorted_at sorted.shape region) (sorted.shape.sorted_capacity * entry_len sorted.shape) old new → SameSources sorted.shape (regions_of stores) sorted old new
same_beside stores sorted region old new fits there held apart below torn =
    let s : Shape = sorted.shape in
    let regions = regions_apart s in
    same_outside stores sorted old new _ _ fits there held (search arith) (search arith) torn

-- a source of a merge, as the number of a region and a slot
pub source_inside : (stores : List HashState) (sorted : SortedState) (merge : MergeState) → IsHeldMerge merge → sorted.shape ≡ merge.shape → length stores ≡ merge.stores
    → (key : List ℕ) (source : Source) → source_at merge.waiting key ≡ Some source → (source.store < length (regions_of stores)) × (source.slot < 4 * sorted.shape.buckets)
source_inside stores sorted merge held shape counted key source is = search (arith, regions_count)

-- the next store of a merge
pub store_next : (stores : List HashState) (merge : MergeState) → IsHeldMerge merge → length stores ≡ merge.stores → (merge.store < length (regions_of stores)) ⊎ (merge.slot ≡ 0)
store_next stores merge held counted = search (arith, regions_count)

-- a merge has gathered and written what it had
pub merged_elsewhere : MergedElsewhereLaw
merged_elsewhere stores sorted merge old new at count held_sorted held fits own behind outside changes is = record {
  shape = is.shape;
  counted = is.counted;
  apart = is.apart;
  hashed = λ honest. rw (← (kept honest)) at (is.hashed (sym changes.honest ∙ honest));
  merged = λ honest sound.
      let was : IsTrue old.honest = sym changes.honest ∙ honest in
      let torn = changes.shown was in
      let same = same_outside stores sorted _ _ at count fits sound.there held_sorted behind outside torn in
      let so_far = is.merged was (sound_before _ _ stores sorted same sound) in
      merged_same _ _ stores sorted same merge (source_inside stores sorted merge held is.shape is.counted) (store_next stores merge held is.counted) (rw is.shape (omega (arith, held.slot)))
      so_far.gathered (kept honest ∙ so_far.writes) (rw (← (kept honest)) at so_far.index);
}
  where
    -- what it wrote stays
    kept : IsTrue new.honest → sorted_rows merge.shape merge.region merge.written new.shown ≡ sorted_rows merge.shape merge.region merge.written old.shown
    kept honest =
        let was : IsTrue old.honest = sym changes.honest ∙ honest in
        entries_outside _ _ _ at count old.shown new.shown (rw (← is.shape) (omega (arith, entries_inside sorted.shape merge.region held.there))) held.room (rw is.shape at own)
        (changes.shown was)

-- the oldest stores, after newer ones came
pub oldest_stores_law : OldestStoresLaw
oldest_stores_law newer stores count most =
    let before : length (newer ++ stores) - count ≡ length newer + (length stores - count) = omega (arith, most, length-append newer stores) in
    cc (drop-append-add newer stores (length stores - count))
