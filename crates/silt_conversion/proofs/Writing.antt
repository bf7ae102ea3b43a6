-- The state after a step of a conversion, and the store of a finished conversion.
use Rattle.silt_conversion.proofs.Common.{◌≡◌, ◌≢◌, ℕ, ◌+◌, ◌*◌, ◌≤◌, ◌<◌, true, IsTrue, List, [], ◌∷◌, ◌++◌, filter, length, Option, Some, None, inl, inr, refl, sym, subst, ap, ◌∙◌, arith}
use Rattle.silt_conversion.proofs.Common.{length-set, get_or-set_other, get_or-set_same, cases_eq, map-range_with_len_more, Entry, IsBucketCount, Slots, entry_at, ChangesWithin, Content}
use Rattle.silt_conversion.proofs.Common.{LiesOutside, size, Shape, device_size, commits_at, log_len, row_len, put_count, has_known_kind, row_bytes, row_of, rows_bytes, StoredRow, hash_rows}
use Rattle.silt_conversion.proofs.Common.{hash_slot_at, slot_row, slot_tag, tag_of, count_law, row_at, InBounds, all_rows, IsFrozenStore, IsIndexed, LogStoreState, frozen_elsewhere, rows_outside}
use Rattle.silt_conversion.proofs.Common.{known_there, IsTableOf, behind_logs, slots_inside, all_before}
use Rattle.std.proofs.lemmas.List.Elements.{filter-append}
use Rattle.sha1.specs.Sha1.{Holds, sha1}
use Rattle.sha1.specs.declared.Sha1.{Sha1}
use Rattle.silt_hash_store.specs.Findings.{hash_findings}
use Rattle.silt_frame.specs.Frame.{head_len}
use Rattle.silt_frame.proofs.RowBytes.{row_bytes_of, rows_bytes_more}
use Rattle.silt_hash_store.specs.Slots.{rows_before}
use Rattle.silt_log.proofs.Bodies.{map_range_same}
use Rattle.silt_log.proofs.Elsewhere.{row_of_all}
use Rattle.silt_conversion.specs.Conversion.{ConversionState, HasWritten, IsDigestOf, IsHeldConversion, Steps, converted_before, converted_row, converted_rows, tag_of_entry, with_entry}
use Rattle.silt_conversion.specs.declared.conversion.Conversion.TheInside.{Inside}
use Rattle.silt_hash_store.specs.State.{IsHashStore}
use Rattle.silt_hash_store.proofs.Reading.{slot_elsewhere}
use Rattle.silt_conversion.proofs.Soundness.{converted_sound, converted_tag}

-- the row of an entry of a log
pub due_is : (content : Content) (log : LogStoreState) (slot tag place : ℕ) → entry_at log.table slot ≡ Some (tag, place) → place < log.log.used
    → row_at log.log.shape log.log.region content.shown place ≡ converted_row log.log.shape log.table (all_rows content log.log) slot
due_is content log slot tag place at below = search (arith, row_of_all)

-- and it is of a known kind
pub due_known : (content : Content) (log : LogStoreState) (place : ℕ) → IsIndexed content log → IsTrue content.honest → place < log.log.used
    → has_known_kind (row_at log.log.shape log.log.region content.shown place) ≡ true
due_known content log place index honest below = known_there content log.log place (index.known honest) below

-- the puts of one more slot
due_more : (s : Shape) (table : Slots) (rows : List StoredRow) (n : ℕ)
    → put_count (filter has_known_kind (converted_before s table rows (n + 1))) ≡ put_count
    (filter has_known_kind (converted_before s table rows n)) + put_count (filter has_known_kind (converted_row s table rows n ∷ []))
unfolding converted_before
due_more s table rows n =
    let before : List StoredRow = converted_before s table rows n in
    cc (
      map-range_with_len_more (converted_row s table rows) 0 n n (omega arith),
      filter-append has_known_kind before (converted_row s table rows n ∷ []),
      count_law (filter has_known_kind before) (filter has_known_kind (converted_row s table rows n ∷ [])),
    )

-- the bytes of one more slot
bytes_more : (s : Shape) (table : Slots) (rows : List StoredRow) (n : ℕ)
    → rows_bytes (converted_before s table rows (n + 1)) ≡ rows_bytes (converted_before s table rows n) ++ row_bytes (converted_row s table rows n)
unfolding converted_before
bytes_more s table rows n = ap rows_bytes (map-range_with_len_more (converted_row s table rows) 0 n n (omega arith)) ∙ rows_bytes_more _ _

-- a conversion with no slot written
pub none_written : (content : Content) (log : LogStoreState) (conversion : ConversionState) → conversion.shape ≡ log.log.shape
    → conversion.next ≡ 0 → conversion.puts ≡ 0 → Holds conversion.hasher [] → HasWritten content log conversion
unfolding converted_before
none_written content log conversion same next puts unfed = search arith

-- ---- tags

-- with an entry there are as many
pub entry_long : (tags : List (Option ℕ)) (slot : ℕ) (entry : Option Entry) → length (with_entry tags slot entry) ≡ length tags
entry_long tags slot None = refl
entry_long tags slot (Some entry) = length-set tags slot (Some entry.0)

-- the slot has the entry's tag
pub entry_here : (tags : List (Option ℕ)) (slot : ℕ) (entry : Option Entry) → slot < length tags → slot_tag tags slot ≡ None → slot_tag (with_entry tags slot entry) slot ≡ tag_of_entry entry
entry_here tags slot None below none = none
entry_here tags slot (Some entry) below none = get_or-set_same tags slot (Some entry.0) None below

-- and another slot has its own
pub entry_elsewhere : (tags : List (Option ℕ)) (slot other : ℕ) (entry : Option Entry) → other ≢ slot → slot_tag (with_entry tags slot entry) other ≡ slot_tag tags other
entry_elsewhere tags slot other entry apart = search (arith, get_or-set_other)

-- a conversion with one more slot, and at most one more put
pub held_as : (conversion : ConversionState) (tags : List (Option ℕ)) (len puts : ℕ) (hasher : Sha1) (entry : Option Entry)
    → IsHeldConversion conversion len → conversion.next < 4 * conversion.shape.buckets → puts ≤ 1 → tags ≡ with_entry conversion.tags conversion.next entry
    → IsHeldConversion (record conversion { next = conversion.next + 1; tags = tags; puts = conversion.puts + puts; hasher = hasher }) len
held_as conversion tags len puts hasher entry held below few same = search (arith, entry_long, entry_elsewhere, held.later)

-- the conversion of these fields
abbrev pub conversion_of : Inside → ConversionState
conversion_of c = record { shape = c.region.geometry; region = c.region.number; tags = c.tags; next = c.next; puts = c.puts; hasher = c.hasher }

-- ---- a slot that is written

-- what a conversion has written stays, if its slots and the log's rows do
pub written_same : (old new : Content) (log : LogStoreState) (conversion : ConversionState) → new.honest ≡ old.honest
    → (IsTrue old.honest → all_rows new log.log ≡ all_rows old log.log)
    → (IsTrue old.honest → (slot : ℕ) → slot < conversion.next
    → slot_row conversion.shape conversion.region new.shown slot ≡ slot_row conversion.shape conversion.region old.shown slot)
    → HasWritten old log conversion → HasWritten new log conversion
written_same old new log conversion same rows slots is = search (arith, is.due, is.charged, is.hashed)

module _ (old new : Content) (log : LogStoreState) (conversion : ConversionState) (bounds : InBounds log.log) (same : conversion.shape ≡ log.log.shape)
    (fits : device_size conversion.shape ≤ size old) (changes : ChangesWithin (hash_slot_at conversion.shape conversion.region conversion.next) (row_len conversion.shape) old new) where
  outside : LiesOutside (commits_at log.log.shape log.log.region) (log_len log.log.shape) (hash_slot_at conversion.shape conversion.region conversion.next) (row_len conversion.shape)
  outside = search (arith, behind_logs)

  log_fits : device_size log.log.shape ≤ size old
  log_fits = subst (λ (s : Shape). device_size s ≤ size old) same fits

  -- the log keeps its rows
  rows_kept : IsTrue old.honest → all_rows new log.log ≡ all_rows old log.log
  rows_kept honest = rows_outside old new log.log (hash_slot_at conversion.shape conversion.region conversion.next) (row_len conversion.shape) bounds log_fits outside changes honest

  -- and matches the disk
  pub frozen_kept : IsFrozenStore old log → IsFrozenStore new log
  frozen_kept frozen = frozen_elsewhere old new log (hash_slot_at conversion.shape conversion.region conversion.next) (row_len conversion.shape) frozen bounds log_fits outside changes

  -- the slots before show what they showed
  pub written_kept : conversion.region < conversion.shape.hashes → conversion.next < 4 * conversion.shape.buckets → HasWritten old log conversion → HasWritten new log conversion
  written_kept there below = written_same old new log conversion changes.honest rows_kept (λ was slot low. slot_elsewhere conversion.shape conversion.region conversion.next slot old.shown
      new.shown (omega (arith, slots_inside conversion.shape conversion.region there, fits)) below (omega (arith, low, below)) (λ at. absurd (omega arith)) (changes.shown was))

  -- and the next one its row
  pub written_step : (after : ConversionState) → conversion.region < conversion.shape.hashes → conversion.next < 4 * conversion.shape.buckets → length conversion.tags ≡ 4 * conversion.shape.buckets
      → slot_tag conversion.tags conversion.next ≡ None → Steps log old new conversion after → IsFrozenStore old log → HasWritten old log conversion → HasWritten new log after
  written_step after there below long none steps frozen is =
      let kept = written_kept there below is in
      let was : IsTrue new.honest → IsTrue old.honest = λ honest. sym changes.honest ∙ honest in
      let due : IsTrue new.honest → due_in old ≡ due_in new = λ honest.
      ap (λ (rows : List StoredRow). converted_row conversion.shape log.table rows conversion.next) (sym (rows_kept (was honest))) in
      rw steps.next (record {
        shape = is.shape;
        due = λ honest slot low. elim (cases_eq slot conversion.next) [
          | inl here ↦ ap (slot_row conversion.shape conversion.region new.shown) here ∙ steps.shows
              (was honest) frozen ∙ due honest ∙ ap (converted_row conversion.shape log.table (all_rows new log.log)) (sym here)
          | inr other ↦ kept.due honest slot (omega arith)
        ];
        tagged = λ slot low. elim (cases_eq slot conversion.next) [
          | inl here ↦ ap (slot_tag (with_entry conversion.tags conversion.next (entry_at log.table conversion.next))) here ∙ entry_here conversion.tags conversion.next (entry_at log.table
              conversion.next) (omega (arith, below, long)) none ∙ ap (λ n. tag_of_entry (entry_at log.table n)) (sym here)
          | inr other ↦ entry_elsewhere conversion.tags conversion.next slot (entry_at log.table conversion.next) other ∙ is.tagged slot (omega arith)
        ];
        charged = λ honest. steps.added (was honest) frozen ∙ ap (λ (row : StoredRow). conversion.puts + put_count (filter has_known_kind (row ∷ []))) (due honest) ∙ ap (λ n. n + put_count (filter
            has_known_kind (due_in new ∷ []))) (kept.charged honest) ∙ sym (due_more conversion.shape log.table (all_rows new log.log) conversion.next);
        hashed = λ honest. let before : List ℕ = rows_bytes (converted_before conversion.shape log.table (all_rows new log.log) conversion.next) in subst (λ (l : List
            ℕ). Holds after.hasher l) (ap (λ (row : StoredRow). before ++ row_bytes row) (due honest) ∙ sym (bytes_more conversion.shape log.table (all_rows new log.log)
            conversion.next)) (steps.fed (was honest) frozen before (kept.hashed honest));
      })
    where
      due_in : Content → StoredRow
      due_in content = converted_row conversion.shape log.table (all_rows content log.log) conversion.next

-- a step that wrote the bytes of the row and fed them to the hasher
pub step_made : (log : LogStoreState) (old new : Content) (before : ConversionState) (tags : List (Option ℕ)) (puts : ℕ) (hasher : Sha1) (row written fed : List ℕ)
    → tags ≡ with_entry before.tags before.next (entry_at log.table before.next)
    → (IsTrue old.honest → IsFrozenStore old log → row_of row ≡ converted_row before.shape log.table (all_rows old log.log) before.next) → puts ≡ put_count (filter has_known_kind (row_of row ∷ []))
    → (IsTrue old.honest → slot_row before.shape before.region new.shown before.next ≡ row_of written) → written ≡ row
    → ((bytes : List ℕ) → Holds before.hasher bytes → Holds hasher (bytes ++ fed)) → fed ≡ row → head_len ≤ length row
    → Steps log old new before (record before { next = before.next + 1; tags = tags; puts = before.puts + puts; hasher = hasher })
step_made log old new before tags puts hasher row written fed is_tags due is_puts shows is_written feeds is_fed long = search (arith, row_bytes_of)

-- ---- all slots

-- the slots of a finished conversion show all rows that belong there
pub all_due : (content : Content) (log : LogStoreState) (conversion : ConversionState) → conversion.next ≡ 4 * conversion.shape.buckets → HasWritten content log conversion → IsTrue content.honest
    → hash_rows conversion.shape conversion.region content.shown ≡ converted_rows conversion.shape log.table (all_rows content log.log)
unfolding rows_before converted_before converted_rows
all_due content log conversion done is honest = search (arith, all_before, map_range_same, is.due)

-- and its puts are those of all these rows
pub all_charged : (content : Content) (log : LogStoreState) (conversion : ConversionState) → conversion.next ≡ 4 * conversion.shape.buckets → HasWritten content log conversion → IsTrue content.honest
    → conversion.puts ≡ put_count (filter has_known_kind (converted_rows conversion.shape log.table (all_rows content log.log)))
unfolding converted_rows
all_charged content log conversion done is honest = search (arith, is.charged)

-- and its digest is that of the slots' bytes
pub all_digested : (content : Content) (log : LogStoreState) (conversion : ConversionState) (digest : List ℕ)
    → conversion.next ≡ 4 * conversion.shape.buckets → HasWritten content log conversion → IsTrue content.honest
    → IsDigestOf conversion.hasher digest → digest ≡ sha1 (rows_bytes (hash_rows conversion.shape conversion.region content.shown))
unfolding converted_rows
all_digested content log conversion digest done is honest finalizes = search (arith, all_due, is.hashed)

-- the table of a log that is only read is that of its rows
pub table_of : (content : Content) (log : LogStoreState) → IsBucketCount log.log.shape.buckets → IsFrozenStore content log
    → IsTrue content.honest → IsTableOf log.log.shape (all_rows content log.log) log.table
table_of content log count frozen honest = record { count = count; known = frozen.index.known honest; indexed = frozen.index.indexed honest }

-- the store of a finished conversion matches the disk
pub store_stands : (content : Content) (log : LogStoreState) (conversion : ConversionState) (digest : List ℕ) → IsBucketCount conversion.shape.buckets → conversion.next ≡ 4 * conversion.shape.buckets
    → IsDigestOf conversion.hasher digest → IsFrozenStore content log → HasWritten content log conversion
    → IsHashStore content (record { shape = conversion.shape; region = conversion.region; tags = conversion.tags; puts = conversion.puts; digest = digest })
store_stands content log conversion digest count done finalizes frozen is = record {
  sound = λ honest. ap (λ (rows : List StoredRow). hash_findings conversion.shape (record { region = conversion.region; rows = rows })) (all_due content log conversion done is honest)
      ∙ converted_sound conversion.shape (all_rows content log.log) log.table conversion.region (its_table honest);
  tagged = λ honest slot below. is.tagged slot (omega (arith, below, done))
      ∙ sym (converted_tag conversion.shape (all_rows content log.log) log.table (its_table honest) slot)
      ∙ ap (tag_of conversion.shape.buckets slot) (sym (is.due honest slot (omega (arith, below, done))));
  counted = λ honest. all_charged content log conversion done is honest ∙ ap (λ (rows : List StoredRow). put_count (filter has_known_kind rows)) (sym (all_due content log conversion done is honest));
  digested = λ honest. all_digested content log conversion digest done is honest finalizes;
}
  where
    its_table : IsTrue content.honest → IsTableOf conversion.shape (all_rows content log.log) log.table
    its_table honest = subst (λ (s : Shape). IsTableOf s (all_rows content log.log) log.table) (sym is.shape)
        (table_of content log (subst (λ (s : Shape). IsBucketCount s.buckets) is.shape count) frozen honest)
