-- What the decision of a key leaves, and what a merge that is done has written.
use Rattle.silt_merge.proofs.Common.{kind_byte, is_put, eq-eqb, cond-false, cases_Bool, leb-true, ◌≡◌, ◌≢◌, ℕ, ◌+◌, ◌*◌, ◌<◌, ◌≤◌, ◌&&◌, nat_lt, Bool, true, false, ◌||◌, cond, IsTrue, List, []}
use Rattle.silt_merge.proofs.Common.{◌∷◌, ◌++◌, filter, length, take, get_or, slice_get, Option, Some, None, option_map, inl, inr, refl, sym, subst, ap, ◌∙◌, arith, bytes_eq, Ordering, Less}
use Rattle.silt_merge.proofs.Common.{Equal, Greater, and_parts, cases_lt, cond-true, eqb-true, ltb-false, ltb-true, is_eq-slice_cmp, length-map, slice_get_within, Content, size, entry_len}
use Rattle.silt_merge.proofs.Common.{sorted_at, Place, Key, HashState, exact_bytes, slice_cmp, sorted_rows, SortedState, entries_of, StoredRow, entries_bytes, entry_row, is_put_row, keys_of}
use Rattle.silt_merge.proofs.Common.{IsNextEntry, ReadsRow, due_rows, is_written, AreSound, HasMerged, source_row, AreEntries, AreSlots, parts_after, entries_in, has_row_with, rows_of_hashes}
use Rattle.silt_merge.proofs.Common.{newest_rows, regions_of, IsHeldMerge, MergeState, hashed_after, is_behind, passed_after, source_at, written_after, BuilderState, IsBuildingOf, is_above}
use Rattle.silt_merge.proofs.Common.{Choice, Source, key_of_row, key_at, Holds, Sha1, HasTaken, Taken, ◌==◌, nat_le, not, IsSomeAnd, is_some, is_lt, nat_cmp, take_all, ChangesWithin, device_size}
use Rattle.silt_merge.proofs.Common.{next_region, IsHeldSorted, IsFirstWaiting, IsOffered, choice_of, choice_puts, IsGatheredIn, IsMergeOf, Seals, key_count, IsInside, is_done, keys_after}
use Rattle.silt_merge.proofs.Common.{steps_for, steps_of, IsTrieOf, entry_count, lower_below}
use Rattle.silt_sorted_store.specs.Findings.{sorted_findings}
use Rattle.silt_merge.specs.Rows.{merged_rows, sources}
use Rattle.silt_trie.specs.Marks.{MarkedCode}
use Rattle.silt_merge.proofs.Choosing.{IsChosen, chosen}
use Rattle.silt_merge.proofs.Deciding.{IsDecided, all_decided, cond_some, decided_with, decided_without, due_more, has_more, lowest_next, next_above, next_enters, next_waits, none_waits}
use Rattle.silt_merge.proofs.Elsewhere.{SameSources, merged_same, regions_count, same_beside, sound_before, source_inside}
use Rattle.silt_merge.proofs.Gathering.{all_gathered}
use Rattle.silt_merge.proofs.Comparing.{entry_bytes}
use Rattle.silt_merge.proofs.Keys.{above_index, bytes_written, count_written, keys_written, puts_row, rows_due}
use Rattle.silt_merge.proofs.Making.{grown}
use Rattle.silt_merge.proofs.Newest.{Rises, key_itself, merged_law, rises_from, rises_newest, turned}

-- entries in which nothing is found rise
rises_of : (rows : List StoredRow) → sorted_findings rows ≡ [] → Rises rows
rises_of rows none = rises_from rows (λ low high lower inside. lower_below rows low high none lower inside)

-- ---- by rows

module _ (image : List ℕ) (stores : List HashState) (sorted : SortedState) where
  abbrev entries : List StoredRow
  entries = entries_in image sorted

  abbrev hashed : List StoredRow
  hashed = rows_of_hashes sorted.shape image (regions_of stores)

  -- the row that a key's source names
  abbrev pub waits_in : List (Key × Source) → List ℕ → Option StoredRow
  waits_in waiting key = option_map (source_row sorted.shape image (regions_of stores)) (source_at waiting key)

  -- without those of a key
  waits_gone : (waiting after : List (Key × Source)) (own key_is : List ℕ) → key_is ≡ own → ((key : List ℕ) → source_at after key ≡ cond (bytes_eq own key) None (source_at waiting key))
      → (key : List ℕ) → waits_in after key ≡ cond (bytes_eq key_is key) None (waits_in waiting key)
  waits_gone waiting after own key_is same gone key = search arith

  -- once all slots are gathered, the rows that wait are those not decided
  decided_of : (merge : MergeState) → length (regions_of stores) ≤ merge.store → merge.slot ≡ 0 → IsGatheredIn image stores sorted merge
      → IsDecided entries hashed merge.decided merge.passed (waits_in merge.waiting)
  unfolding sources
  decided_of merge past none is = search (arith, all_gathered, entry_count)

  -- and the other way round
  gathered_of : (merge : MergeState) → length (regions_of stores) ≤ merge.store → merge.slot ≡ 0 → merge.decided ≤ length (newest_rows (entries ++ hashed))
      → ((key : Key) → merge.last ≡ Some key → has_row_with key.0 (take merge.decided (newest_rows (entries ++ hashed))) ≡ true)
      → AreEntries entries merge.passed merge.ahead → HasTaken merge.input (entries_bytes (take merge.passed entries))
      → IsDecided entries hashed merge.decided merge.passed (waits_in merge.waiting) → IsGatheredIn image stores sorted merge
  unfolding sources
  gathered_of merge past none most last ahead holds is = search (arith, regions_count, all_gathered, entry_count)

-- ---- a key that is decided

-- the entry that is due for a row of a source
due_row : (row shown : StoredRow) (source : Source) (key bytes : List ℕ) → row ≡ (let r : StoredRow = record shown { kind = kind_byte source.kind } in r) → row.key ≡ key
    → (is_put source.kind ≡ true → entry_row bytes ≡ (let r : StoredRow = record { kind = 1; key = key; value = shown.value } in r))
    → due_rows (is_put source.kind) bytes ≡ filter is_put_row (row ∷ [])
due_row row shown source key bytes is same read = search (arith, cond-true, eq-eqb, cond-false)

-- whose entry is written, if it is a put
due_of : (image : List ℕ) (stores : List HashState) (sorted : SortedState) (merge : MergeState) (choice : Choice) (bytes after : List ℕ) (row : StoredRow) → Rises (entries_in image sorted)
    → IsDecided (entries_in image sorted) (rows_of_hashes sorted.shape image (regions_of stores)) merge.decided merge.passed (waits_in image stores sorted merge.waiting)
    → IsChosen (entries_in image sorted) merge.passed bytes (source_row sorted.shape image (regions_of stores)) merge.waiting choice
    → slice_get (newest_rows (entries_in image sorted ++ rows_of_hashes sorted.shape image (regions_of stores))) merge.decided ≡ Some row → row.key ≡ choice.key.0
    → ReadsRow sorted.shape image (regions_of stores) choice.key.0 choice.source bytes after → due_rows (choice_puts choice.source) after ≡ filter is_put_row (row ∷ [])
due_of image stores sorted merge choice bytes after row rises so_far is there same read = search (arith, key_of_row, next_enters, next_waits, due_row)

-- a merge on an honest disk that has gathered all slots
module _ (content : Content) (stores : List HashState) (sorted : SortedState) (merge : MergeState) (held : IsHeldMerge merge) (all : merge.store ≡ merge.stores)
    (is : HasMerged content stores sorted merge) (honest : IsTrue content.honest) (sound : AreSound content.shown stores sorted) where
  abbrev image : List ℕ
  image = content.shown

  abbrev all_rows : List StoredRow
  all_rows = newest_rows (entries_in image sorted ++ rows_of_hashes sorted.shape image (regions_of stores))

  rises : Rises (entries_in image sorted)
  rises = rises_of _ sound.entries

  -- the rows that wait are those not decided
  so_decided : IsDecided (entries_in image sorted) (rows_of_hashes sorted.shape image (regions_of stores)) merge.decided merge.passed (waits_in image stores sorted merge.waiting)
  so_decided = decided_of _ stores sorted merge (omega (arith, regions_count stores, is.counted)) (held.ended all) (is.merged honest sound).gathered

  -- a key that is decided
  module _ (first : Option (Key × Source)) (next : Option Key) (choice : Choice) (bytes row_bytes : List ℕ) (its_first : IsFirstWaiting merge.waiting first)
      (made : choice_of first next ≡ Some choice) (some : is_some next ≡ nat_lt merge.passed sorted.count)
      (there : IsTrue content.honest → AreEntries (entries_of content sorted) merge.passed merge.ahead → IsNextEntry (entries_of content sorted) merge.passed bytes next)
      (read : IsTrue content.honest → ReadsRow merge.shape image (regions_of stores) choice.key.0 choice.source bytes row_bytes) where
    its_choice : IsChosen (entries_in image sorted) merge.passed bytes (source_row sorted.shape image (regions_of stores)) merge.waiting choice
    its_choice = chosen _ merge.passed bytes _ merge.waiting first next choice its_first (there honest (is.merged honest sound).gathered.ahead)
        (some ∙ ap (nat_lt merge.passed) (sym (entry_count sorted.shape sorted.region sorted.count image))) made

    -- it is that of the next newest row
    decides : (row : StoredRow) × (slice_get all_rows merge.decided ≡ Some row) × (row.key ≡ choice.key.0)
    decides = lowest_next _ _ _ _ (waits_in image stores sorted merge.waiting) rises so_decided _ its_choice.lowest

    due_is_row : due_rows (choice_puts choice.source) row_bytes ≡ filter is_put_row (decides.0 ∷ [])
    due_is_row = due_of image stores sorted merge choice bytes row_bytes decides.0 rises so_decided its_choice decides.1 decides.2 (rw is.shape (read honest))

    -- so the next row to decide is a put, if the row that decides is
    pub next_puts : choice_puts choice.source ≡ true → IsSomeAnd (slice_get (newest_rows (sources content.shown stores sorted)) merge.decided) (λ row. is_put_row row ≡ true)
    unfolding sources
    next_puts puts = subst (λ (o : Option StoredRow). IsSomeAnd o (λ row. is_put_row row ≡ true)) (sym decides.1)
        (puts_row row_bytes decides.0 (sym (ap (λ b. due_rows b row_bytes) puts) ∙ due_is_row))

    -- one key more is decided
    decided_step : (after : List (Key × Source)) → ((key : List ℕ) → source_at after key ≡ cond (bytes_eq choice.key.0 key) None (source_at merge.waiting key))
        → IsDecided (entries_in image sorted) (rows_of_hashes sorted.shape image (regions_of stores)) (merge.decided + 1) (passed_after choice.passes merge.passed)
        (waits_in image stores sorted after)
    decided_step after gone = elim (cases_Bool choice.passes) [
      | inl passes ↦
          let it = its_choice.passes passes in
          rw (← (ap (λ b. passed_after b merge.passed) passes)) at (decided_with _ _ _ _ (waits_in image stores sorted merge.waiting)
          rises so_decided _ (waits_in image stores sorted after) decides.1 it.0 (it.1 ∙ sym decides.2) let_go_row)
      | inr stays ↦
          rw (← (ap (λ b. passed_after b merge.passed) stays)) at (decided_without _ _ _ _ (waits_in image stores sorted merge.waiting) rises so_decided _
          (waits_in image stores sorted after) decides.1 (λ below. ap (λ k. slice_cmp nat_cmp k (key_at (entries_in image sorted) merge.passed)) decides.2 ∙
          its_choice.stays stays below) let_go_row)
    ]
      where
        let_go_row : (key : List ℕ) → waits_in image stores sorted after key ≡ cond (bytes_eq decides.0.key key) None (waits_in image stores sorted merge.waiting key)
        let_go_row key = waits_gone image stores sorted merge.waiting after choice.key.0 decides.0.key decides.2 gone key

-- the last key of one key more
last_decided : (rows : List StoredRow) (decided : ℕ) (row : StoredRow) (own key : Key) → slice_get rows decided ≡ Some row
    → row.key ≡ own.0 → Some own ≡ Some key → has_row_with key.0 (take (decided + 1) rows) ≡ true
last_decided rows decided row own key there same is =
    let one : own ≡ key = cc in
    let last : (b : Bool) → (b || true) ≡ true = elim [ true ↦ refl | false ↦ refl ] in
    cc (has_more rows decided row key.0 there, key_itself row.key key.0 (same ∙ ap (λ (k : Key). k.0) one), last (has_row_with key.0 (take decided rows)))

-- the entries that are ahead after a key are the next ones
ahead_after : (rows : List StoredRow) (passes : Bool) (passed : ℕ) (ahead : List (List ℕ)) → AreEntries rows passed ahead → AreEntries rows (passed_after passes passed) (parts_after passes ahead)
ahead_after rows true passed [] is = tt
ahead_after rows true passed (bytes ∷ ahead) is = is.1
ahead_after rows false passed ahead is = is

-- the next entry is skipped only if there is one
pub skipped_inside : (passed count : ℕ) (last : Option Key) (first : Option (Key × Source)) (next : Option Key) (choice : Choice)
    → choice_of first next ≡ Some choice → is_some next ≡ nat_lt passed count → (is_behind last next || choice.passes) ≡ true → passed < count
skipped_inside passed count last first next choice made some skips = search arith

-- the bytes of the entries that are skipped after a key
passed_bytes : (rows : List StoredRow) (passes : Bool) (passed : ℕ) (ahead : List (List ℕ)) → (passes ≡ true → 0 < length ahead) → AreEntries rows passed ahead
    → entries_bytes (take (passed_after passes passed) rows) ≡ hashed_after passes (entries_bytes (take passed rows)) (get_or ahead 0 [])
passed_bytes rows true passed ahead some are = entry_bytes rows passed ahead (some refl) are
passed_bytes rows false passed ahead some are = refl

-- these are the bytes of the next slots of the store in progress
abbrev NextSlots : List ℕ → List HashState → SortedState → MergeState → List (List ℕ) → Type 0
NextSlots image stores sorted merge slots = merge.store < length stores → AreSlots sorted.shape (get_or (regions_of stores) merge.store 0) image merge.slot slots

-- a merge with other slots and entries ahead, whatever it found damaged, if they are the next ones
pub merged_with : (content : Content) (stores : List HashState) (sorted : SortedState) (merge : MergeState) (slots ahead : List (List ℕ)) (damaged : Option Place)
    → (IsTrue content.honest → sorted.shape ≡ merge.shape → NextSlots content.shown stores sorted merge merge.slots → NextSlots content.shown stores sorted merge slots)
    → (IsTrue content.honest → AreEntries (entries_of content sorted) merge.passed merge.ahead → AreEntries (entries_of content sorted) merge.passed ahead)
    → HasMerged content stores sorted merge → HasMerged content stores sorted (record merge { slots = slots; ahead = ahead; damaged = damaged })
merged_with content stores sorted merge slots ahead damaged next_slots next_entries is = record {
  shape = is.shape;
  counted = is.counted;
  apart = is.apart;
  hashed = is.hashed;
  merged = λ honest sound.
      let so_far = is.merged honest sound in
      search arith;
}

-- what is found damaged does not matter for what is merged
pub merged_noted : (content : Content) (stores : List HashState) (sorted : SortedState) (merge : MergeState) (damaged : Option Place)
    → HasMerged content stores sorted merge → HasMerged content stores sorted (record merge { damaged = damaged })
merged_noted content stores sorted merge damaged = merged_with _ stores sorted merge _ _ _ (λ honest shape slots. slots) (λ honest entries. entries)

-- ---- on a disk

-- a merge once a key is decided
abbrev pub decided_to : MergeState → Choice → List (Key × Source) → Bool → BuilderState → Taken → Sha1 → MergeState
decided_to merge choice after due index input hasher = record merge {
  waiting = after;
  passed = passed_after choice.passes merge.passed;
  written = written_after due merge.written;
  index = index;
  decided = merge.decided + 1;
  last = Some choice.key;
  ahead = parts_after choice.passes merge.ahead;
  input = input;
  hasher = hasher;
}

-- on an honest disk the next entry is above the last key, so that none is passed over for its key
pub merged_behind : (content : Content) (stores : List HashState) (sorted : SortedState) (merge : MergeState) (next : Option Key) (bytes : List ℕ) (input : Taken) → IsHeldMerge merge
    → merge.store ≡ merge.stores → is_some next ≡ nat_lt merge.passed sorted.count
    → (IsTrue content.honest → AreEntries (entries_of content sorted) merge.passed merge.ahead → IsNextEntry (entries_of content sorted) merge.passed bytes next)
    → is_behind merge.last next ≡ true → HasMerged content stores sorted merge
    → HasMerged content stores sorted (record merge { passed = merge.passed + 1; decided = merge.decided + 1; ahead = parts_after true merge.ahead; input = input })
unfolding sources
merged_behind content stores sorted merge next bytes input held all some there behind is = record {
  shape = is.shape;
  counted = is.counted;
  apart = is.apart;
  hashed = is.hashed;
  merged = λ honest sound.
      let so_far = is.merged honest sound in
      absurd (go next merge.last refl some (there honest so_far.gathered.ahead) behind (λ key is_key below. next_above _ _ merge.decided merge.passed (waits_in
      content.shown stores sorted merge.waiting) (rises_of _ sound.entries) (so_decided _ stores sorted merge held all is honest sound) key.0
      (so_far.gathered.last key is_key) (omega (arith, entry_count sorted.shape sorted.region sorted.count content.shown, below))));
}
  where
    go : (next : Option Key) (last : Option Key) → merge.last ≡ last → is_some next ≡ nat_lt merge.passed sorted.count
        → IsNextEntry (entries_of content sorted) merge.passed bytes next → is_behind last next ≡ true
        → ((key : Key) → merge.last ≡ Some key → merge.passed < sorted.count → slice_cmp nat_cmp key.0 (key_at (entries_of content sorted) merge.passed) ≡ Less) → ⊥
    go None last is_last some there behind lower = absurd (cc)
    go (Some next) None is_last some there behind lower = absurd (cc)
    go (Some next) (Some last) is_last some there behind lower =
        let below : merge.passed < sorted.count = ltb-true merge.passed sorted.count (sym some) in
        let its : key_at (entries_of content sorted) merge.passed ≡ next.0 = key_of_row (entries_of content sorted) merge.passed (entry_row bytes) there.0 ∙ sym there.1 in
        let less : slice_cmp nat_cmp last.0 next.0 ≡ Less = ap (slice_cmp nat_cmp last.0) (sym its) ∙ lower last is_last below in
        let under : not (is_lt (slice_cmp nat_cmp last.0 next.0)) ≡ false = ap (λ o. not (is_lt o)) less in
        absurd (cc)

module _ (old new : Content) (stores : List HashState) (sorted : SortedState) (merge : MergeState) (held : IsHeldMerge merge)
    (held_sorted : IsHeldSorted sorted) (fits : device_size merge.shape ≤ size old)
    (changes : ChangesWithin (sorted_at merge.shape merge.region) (merge.shape.sorted_capacity * entry_len merge.shape) old new) where
  -- all that is merged stays
  sources_stay : HasMerged old stores sorted merge → AreSound new.shown stores sorted → IsTrue old.honest → SameSources sorted.shape (regions_of stores) sorted old.shown new.shown
  sources_stay is sound was = same_beside stores sorted _ _ _ (rw (← is.shape) at fits) sound.there held_sorted is.apart held.there (rw (← is.shape) at (changes.shown was))

  -- a source that waits after a key is decided waited before
  still_inside : (choice : Choice) (after : List (Key × Source)) → ((key : List ℕ) → source_at after key ≡ cond (bytes_eq choice.key.0 key) None (source_at merge.waiting key))
      → (key : List ℕ) (source : Source) → source_at after key ≡ Some source → source_at merge.waiting key ≡ Some source
  still_inside choice after gone key source is = (cond_some _ _ source (sym (gone key) ∙ is)).1

  -- a decided key, with its entry if it has one
  pub merged_step : (first : Option (Key × Source)) (next : Option Key) (choice : Choice) (bytes row_bytes : List ℕ) (after : List (Key × Source))
      (due : Bool) (count : ℕ) (index : BuilderState) (input : Taken) (hasher : Sha1) → merge.store ≡ merge.stores → IsFirstWaiting merge.waiting first
      → choice_of first next ≡ Some choice → is_some next ≡ nat_lt merge.passed sorted.count
      → (IsTrue old.honest → AreEntries (entries_of old sorted) merge.passed merge.ahead → IsNextEntry (entries_of old sorted) merge.passed bytes next)
      → (merge.passed < sorted.count → 0 < length merge.ahead)
      → (IsTrue old.honest → ReadsRow merge.shape old.shown (regions_of stores) choice.key.0 choice.source bytes row_bytes)
      → due ≡ is_written (choice_puts choice.source) merge.written merge.shape.sorted_capacity → count ≡ merge.written + cond (is_written due merge.written merge.shape.sorted_capacity) 1 0
      → (IsTrue old.honest → sorted_rows merge.shape merge.region count new.shown ≡ take merge.shape.sorted_capacity
      (sorted_rows merge.shape merge.region merge.written old.shown ++ due_rows due row_bytes))
      → ((key : List ℕ) → source_at after key ≡ cond (bytes_eq choice.key.0 key) None (source_at merge.waiting key))
      → ((keys : List (List ℕ)) → IsBuildingOf keys merge.index.building → length keys ≡ merge.written
      → is_above merge.index.building.last choice.key.0 ≡ true → IsBuildingOf (keys_after due keys choice.key.0) index.building)
      → ((hashed : List ℕ) → HasTaken merge.input hashed → HasTaken input (hashed_after choice.passes hashed (get_or merge.ahead 0 [])))
      → ((hashed : List ℕ) → Holds merge.hasher hashed → Holds hasher (hashed_after due hashed row_bytes))
      → HasMerged old stores sorted merge
      → HasMerged new stores sorted
      (decided_to merge choice after due index input hasher)
  unfolding sources
  merged_step first next choice bytes row_bytes after due count index input hasher all its_first made some there is_ahead read due_is counted written gone indexes takes hashes is = record {
    shape = is.shape;
    counted = is.counted;
    apart = is.apart;
    hashed = λ honest.
        let was : IsTrue old.honest = sym changes.honest ∙ honest in
        subst (Holds hasher) (sym (ap entries_bytes rows_after
        ∙ bytes_written cap merge.written old_rows new_rows (choice_puts choice.source) due row_bytes due_is old_count held.room (written was))) (hashes (entries_bytes old_rows) (is.hashed was));
    merged = λ honest sound.
        let was : IsTrue old.honest = sym changes.honest ∙ honest in
        let image : List ℕ = old.shown in
        let merge_after : MergeState = decided_to merge choice after due index input hasher in
        let same = sources_stay is sound was in
        let sound_old = sound_before old.shown new.shown stores sorted same sound in
        let so_far = is.merged was sound_old in
        let past : length (regions_of stores) ≤ merge.store = omega (arith, regions_count stores, is.counted) in
        let none = held.ended all in
        let long = entry_count sorted.shape sorted.region sorted.count image in
        let choices = its_choice old stores sorted merge held all is was sound_old first next choice bytes row_bytes its_first made some there read in
        let next_row = decides old stores sorted merge held all is was sound_old first next choice bytes row_bytes its_first made some there read in
        let its_due = due_is_row old stores sorted merge held all is was sound_old first next choice bytes row_bytes its_first made some there read in
        let newest : List StoredRow = newest_rows (entries_in image sorted ++ rows_of_hashes sorted.shape image (regions_of stores)) in
        let after_it = decided_step old stores sorted merge held all is was sound_old first next choice bytes row_bytes its_first made some there read after gone in
        let writes = due_more newest merge.decided cap next_row.0 old_rows (due_rows (choice_puts choice.source) row_bytes) new_rows next_row.1 so_far.writes
        its_due (rows_due cap merge.written old_rows new_rows (choice_puts choice.source) due row_bytes due_is old_count held.room (written was)) in
        let keys = keys_written cap merge.written old_rows new_rows (choice_puts choice.source) due row_bytes due_is old_count held.room (written was) next_row.0 choice.key.0 its_due next_row.2 in
        let above = above_index old_rows newest merge.index.building merge.decided cap next_row.0
        choice.key.0 (rises_newest (entries_in image sorted ++ rows_of_hashes sorted.shape image (regions_of stores))) so_far.index so_far.writes next_row.1 next_row.2 in
        let built : IsBuildingOf (keys_after due (keys_of old_rows) choice.key.0) index.building =
        indexes (keys_of old_rows) so_far.index (length-map old_rows (λ (r : StoredRow). r.key) ∙ old_count) above in
        let holds : HasTaken input (entries_bytes (take (passed_after choice.passes merge.passed) (entries_in image sorted))) =
        rw (passed_bytes (entries_in image sorted) choice.passes merge.passed merge.ahead (λ passes. is_ahead (omega (arith, (choices.passes passes).0, long))) so_far.gathered.ahead)
        (takes (entries_bytes (take merge.passed (entries_in image sorted))) (so_far.gathered.entries_hashed (omega (arith, past, regions_count stores)))) in
        let gathered = gathered_of image stores sorted merge_after past none (omega (arith, slice_get_within newest merge.decided next_row.0 next_row.1))
        (λ key is_key. last_decided newest merge.decided next_row.0 choice.key key next_row.1 next_row.2 is_key)
        (ahead_after (entries_in image sorted) choice.passes merge.passed merge.ahead so_far.gathered.ahead) holds after_it in
        merged_same old.shown new.shown stores sorted same merge_after (λ key source found. source_inside stores sorted merge held is.shape is.counted key
        source (still_inside choice after gone key source found)) (inr none) (omega (arith, none)) gathered (rows_after ∙ writes) (subst (λ (l : List (List ℕ)).
        IsBuildingOf l index.building) (sym (ap keys_of rows_after ∙ keys)) built);
  }
    where
      cap : ℕ
      cap = merge.shape.sorted_capacity

      old_rows : List StoredRow
      old_rows = sorted_rows merge.shape merge.region merge.written old.shown

      new_rows : List StoredRow
      new_rows = sorted_rows merge.shape merge.region count new.shown

      old_count : length old_rows ≡ merge.written
      old_count = entry_count _ _ _ _

      -- as many entries are written as the region returned
      rows_after : sorted_rows merge.shape merge.region (written_after due merge.written) new.shown ≡ new_rows
      rows_after = ap (λ n. sorted_rows merge.shape merge.region n new.shown) (sym (count_written cap _ _ due count due_is counted))

-- ---- on any disk

-- a merge with others ahead, another index with as many keys as there may be, and another hasher
pub held_with : (merge : MergeState) (slots ahead : List (List ℕ)) (index : BuilderState) (hasher : Sha1) → index.building.count ≤ merge.written + 1
    → IsHeldMerge merge → IsHeldMerge (record merge { slots = slots; ahead = ahead; index = index; hasher = hasher })
held_with merge slots ahead index hasher most held = search arith

-- a merge with one key more, whose entry is written or not
pub decided_held : (merge : MergeState) (choice : Choice) (is_written : Bool) (after : List (Key × Source)) (ahead : List (List ℕ)) (input : Taken)
    → IsHeldMerge merge → merge.store ≡ merge.stores → IsOffered merge.waiting merge.last choice
    → (is_written ≡ true → merge.written < merge.shape.sorted_capacity) → ((key : List ℕ) → source_at after key ≡ cond (bytes_eq choice.key.0 key) None (source_at merge.waiting key))
    → length after ≤ length merge.waiting → ((source : Source) → source_at merge.waiting choice.key.0 ≡ Some source → length after + 1 ≡ length merge.waiting)
    → IsHeldMerge (record (decided_to merge choice after is_written merge.index input merge.hasher) { ahead = ahead })
decided_held merge choice is_written after ahead input held all offers room gone long less = record {
  there = held.there;
  store = held.store;
  slot = held.slot;
  ended = held.ended;
  gathers = λ still. absurd (omega (arith, all));
  fresh = λ still. absurd (omega (arith, all));
  unpassed = λ still. absurd (omega (arith, all));
  above = λ key source found.
      let parts = cond_some _ _ source (sym (gone key) ∙ found) in
      higher key parts.0 (offers.least key source parts.1);
  inside = λ key source found.
      let inside = held.inside key source (cond_some _ _ source (sym (gone key) ∙ found)).1 in
      record { store = inside.store; slot = inside.slot };
  room = within _ room;
  few = go _ refl;
  index = omega (arith, grown is_written merge.written (written_after is_written merge.written) refl, held.index);
}
  where
    within : (b : Bool) → (b ≡ true → merge.written < merge.shape.sorted_capacity) → written_after b merge.written ≤ merge.shape.sorted_capacity
    within true below = omega (arith, below refl)
    within false below = held.room

    higher : (key : List ℕ) → bytes_eq choice.key.0 key ≡ false → slice_cmp nat_cmp key choice.key.0 ≢ Less → is_lt (slice_cmp nat_cmp choice.key.0 key) ≡ true
    higher key other least =
        let go : (o : Ordering) → slice_cmp nat_cmp key choice.key.0 ≡ o → is_lt (slice_cmp nat_cmp choice.key.0 key) ≡ true = elim [
          | Less ↦ λ o. absurd (least o)
          | Equal ↦ λ o. let same = key_itself _ key (sym (exact_bytes key choice.key.0 o)) in absurd (cc)
          | Greater ↦ λ o. ap is_lt (turned key choice.key.0 o)
        ] in
        go _ refl

    at_least : (b : Bool) → merge.passed ≤ passed_after b merge.passed
    at_least true = omega arith
    at_least false = omega arith

    go : (o : Option Source) → choice.source ≡ o → merge.decided + 1 + length after ≤ merge.store * (4 * merge.shape.buckets) + merge.slot + passed_after choice.passes merge.passed
    go None is =
        let one : passed_after choice.passes merge.passed ≡ merge.passed + 1 = ap (λ b. passed_after b merge.passed) (offers.none is) in
        omega (arith, held.few, long)
    go (Some source) is = let one = less source (offers.source source is) in omega (arith, held.few, at_least choice.passes)

-- a source that decides lies in one of the stores
pub offered_inside : (merge : MergeState) (choice : Choice) → IsHeldMerge merge → IsOffered merge.waiting merge.last choice → (source : Source) → choice.source ≡ Some source → IsInside merge source
offered_inside merge choice held offers source is = held.inside choice.key.0 source (offers.source source is)

-- ---- done

module _ (merge : MergeState) (sorted : SortedState) where
  -- a merge in which a row waits is not done
  pub not_decided : length merge.waiting ≢ 0 → false ≡ is_done merge sorted
  not_decided some = search arith

  -- nor is one that still gathers
  pub not_gathered : merge.store < merge.stores → false ≡ is_done merge sorted
  not_gathered below = sym (search arith)

  -- once all slots are gathered and no row waits, the entries decide
  pub entries_decide : merge.store ≡ merge.stores → length merge.waiting ≡ 0 → nat_le sorted.count merge.passed ≡ is_done merge sorted
  entries_decide all none = search arith

  -- what a merge that is done has
  done_parts : is_done merge sorted ≡ true → (merge.store ≡ merge.stores) × (merge.waiting ≡ []) × (sorted.count ≤ merge.passed)
  done_parts done =
      let last = and_parts ((merge.store == merge.stores) && (length merge.waiting == 0)) (nat_le sorted.count merge.passed) done in
      let both = and_parts (merge.store == merge.stores) (length merge.waiting == 0) last.0 in
      (eqb-true merge.store merge.stores both.0, no_length _ (eqb-true (length merge.waiting) 0 both.1), leb-true sorted.count merge.passed last.1)
    where
      no_length : (l : List (Key × Source)) → length l ≡ 0 → l ≡ []
      no_length [] none = refl
      no_length (x ∷ l) none = absurd (omega arith)

  done_from : merge.store ≡ merge.stores → merge.waiting ≡ [] → sorted.count ≤ merge.passed → is_done merge sorted ≡ true
  done_from all none past = search arith

  -- one that is not done has a key to decide once all slots are gathered
  pub nothing_left : (first : Option (Key × Source)) (next : Option Key) → is_done merge sorted ≡ false → merge.store ≡ merge.stores
      → IsFirstWaiting merge.waiting first → is_some next ≡ nat_lt merge.passed sorted.count → choice_of first next ≡ None → ⊥
  nothing_left None None more all none no_next no_choice = let done = done_from all none (ltb-false merge.passed sorted.count (sym no_next)) in absurd (cc)
  nothing_left None (Some next) more all its_first some no_choice = absurd (cc)
  nothing_left (Some (key, source)) None more all its_first some no_choice = absurd (cc)
  nothing_left (Some (key, source)) (Some next) more all its_first some no_choice = absurd (cc)

  -- a list of rows that wait for no key is empty
  nothing_waits : (waiting : List (Key × Source)) → ((key : List ℕ) → source_at waiting key ≡ None) → waiting ≡ []
  nothing_waits [] none = refl
  nothing_waits ((key, source) ∷ waiting) none =
      let here : source_at ((key, source) ∷ waiting) key.0 ≡ Some source = cond-true _ _ _ (is_eq-slice_cmp key.0 key.0 ∙ key_itself key.0 key.0 refl) in
      search arith

  -- a merge that is done has decided each key
  all_keys : (content : Content) (stores : List HashState) → IsHeldMerge merge → HasMerged content stores sorted merge → IsTrue content.honest → AreSound content.shown stores sorted
      → is_done merge sorted ≡ true → merge.decided ≡ key_count (sources content.shown stores sorted)
  unfolding sources
  all_keys content stores held is honest sound done =
      let image : List ℕ = content.shown in
      let parts = done_parts done in
      let so_far = is.merged honest sound in
      let long = entry_count sorted.shape sorted.region sorted.count image in
      let all = all_decided (entries_in image sorted) (rows_of_hashes sorted.shape image (regions_of stores)) merge.decided merge.passed (waits_in image stores sorted merge.waiting)
      (rises_of _ sound.entries) (so_decided _ stores sorted merge held parts.0 is honest sound) (λ key. ap (λ l. waits_in image stores sorted l key) parts.1) (omega (arith, long, parts.2)) in
      search arith

  -- it is done after so many steps
  pub done_steps : (content : Content) (stores : List HashState) (done : Bool) → done ≡ is_done merge sorted → IsHeldMerge merge
      → HasMerged content stores sorted merge → IsTrue content.honest → AreSound content.shown stores sorted
      → (IsTrue done → steps_of merge ≡ steps_for merge (key_count (sources content.shown stores sorted)))
      × (steps_of merge ≡ steps_for merge (key_count (sources content.shown stores sorted)) → IsTrue done)
  unfolding sources
  done_steps content stores done same held is honest sound = (
    λ it.
        let is_it : is_done merge sorted ≡ true = sym same ∙ it in
        let store = (done_parts is_it).0 in
        omega (arith, all_keys content stores held is honest sound is_it, ap (λ n. n * (4 * merge.shape.buckets)) store, held.ended store),
    λ steps.
        let image : List ℕ = content.shown in
        let so_far = is.merged honest sound in
        let most = so_far.gathered.most in
        let whole = all_gathered_at most steps in
        let none = none_waits (entries_in image sorted) (rows_of_hashes sorted.shape image (regions_of stores)) merge.decided
        merge.passed (waits_in image stores sorted merge.waiting) (rises_of _ sound.entries) (so_decided _ stores sorted merge held whole.0 is honest sound) whole.1 in
        same ∙ done_from whole.0 (nothing_waits merge.waiting (λ key. no_source (source_at merge.waiting key) (none.0 key)))
        (omega (arith, entry_count sorted.shape sorted.region sorted.count image, none.1)),
  )
    where
      no_source : (o : Option Source) → option_map (source_row sorted.shape content.shown (regions_of stores)) o ≡ None → o ≡ None
      no_source None none = refl
      no_source (Some source) none = absurd (cc)

      fewer : (store stores slot slots : ℕ) → store < stores → slot < slots → store * slots + slot < stores * slots
      fewer store stores slot slots below inside = omega (arith, next_region store stores slots below)

      all_gathered_at : merge.decided ≤ length (newest_rows (entries_in content.shown sorted ++ rows_of_hashes sorted.shape content.shown (regions_of stores)))
          → merge.store * (4 * merge.shape.buckets) + merge.slot + merge.decided ≡ merge.stores * (4 * merge.shape.buckets) + length
          (newest_rows (entries_in content.shown sorted ++ rows_of_hashes sorted.shape content.shown (regions_of stores)))
          → (merge.store ≡ merge.stores) × (length (newest_rows (entries_in content.shown sorted ++ rows_of_hashes sorted.shape content.shown (regions_of stores))) ≤ merge.decided)
      all_gathered_at most steps = elim (cases_lt merge.store merge.stores) [
        | inl below ↦ absurd (omega (arith, fewer _ _ _ _ below held.slot, most, steps))
        | inr past ↦
            let store : merge.store ≡ merge.stores = omega (arith, held.store) in
            (store, omega (arith, ap (λ n. n * (4 * merge.shape.buckets)) store, held.ended store, steps))
      ]

  -- and has written all entries
  pub done_entries : (content : Content) (stores : List HashState) → IsHeldMerge merge → is_done merge sorted ≡ true
      → HasMerged content stores sorted merge → IsTrue content.honest → AreSound content.shown stores sorted
      → sorted_rows merge.shape merge.region merge.written content.shown ≡ take merge.shape.sorted_capacity (merged_rows (sources content.shown stores sorted))
  unfolding merged_rows
  done_entries content stores held done is honest sound =
      cc ((is.merged honest sound).writes, take_all merge.decided (newest_rows (sources content.shown stores sorted)) (omega (arith, all_keys _ stores held is honest sound done)))

  -- which are a merge of the rows
  pub done_merge : (content : Content) (stores : List HashState) → IsHeldMerge merge → is_done merge sorted ≡ true → HasMerged content stores sorted merge → IsTrue content.honest
      → AreSound content.shown stores sorted → length (merged_rows (sources content.shown stores sorted)) ≤ merge.shape.sorted_capacity
      → IsMergeOf (sources content.shown stores sorted) (sorted_rows merge.shape merge.region merge.written content.shown)
  done_merge content stores held done is honest sound room =
      let all = done_entries _ stores held done is honest sound ∙ take_all merge.shape.sorted_capacity (merged_rows (sources content.shown stores sorted)) room in
      rw (← all) at (merged_law (sources content.shown stores sorted))

-- the index of a merge, in which only its builder changes
pub seals : (old new : MergeState) → (made : MarkedCode) × (new ≡ record old { index = record { building = old.index.building; sealed = Some made } })
    × IsTrieOf old.index.building made → Seals old new
seals old new (made, same, trie) = record { made = made; same = same; indexed = λ content stores sorted done is honest sound. trie.keys _ (is.merged honest sound).index }
