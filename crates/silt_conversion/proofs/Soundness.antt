-- The rows that a conversion writes are sound, and have the tags of the log's table.
use Rattle.silt_conversion.proofs.Common.{◌≡◌, ◌≢◌, ℕ, ◌+◌, ◌*◌, ◌/◌, ◌<◌, ◌==◌, true, false, ◌||◌, cond, List, [], length, map, take, get_or, slice_get, Option, Some, None, inl, inr, option_map}
use Rattle.silt_conversion.proofs.Common.{refl, sym, ap, ◌∙◌, arith, bytes_eq, range_with_len, and_parts, cases_Bool, cases_eq, cond-false, cond-true, eq-eqb, ne_eqb, get_or-map-range_with_len}
use Rattle.silt_conversion.proofs.Common.{length-map-range_with_len, take-map-range_with_len, slice_get-get_or, slice_get_within, bytes_eq-Decides, Entry, Slots, entry_at, place_at, newest_apart}
use Rattle.silt_conversion.proofs.Common.{Shape, row_len, keys_of, has_known_kind, StoredRow, entry_law, key_of_row, keys_count, passes_at, ConvertedSoundLaw, IsTableOf, is_row_of, tag_of}
use Rattle.silt_conversion.proofs.Common.{empty_not_known, sound_empty, sound_known, tag_empty, tag_known}
use Rattle.std.proofs.lemmas.List.{get_or-replicate}
use Rattle.silt_cuckoo.specs.Keys.{first_bucket, key_pair, second_bucket}
use Rattle.silt_cuckoo.specs.Pairs.{pair_of}
use Rattle.silt_cuckoo.specs.Placing.{other_bucket}
use Rattle.silt_hash_store.specs.Findings.{hash_findings, holds_key, is_in_bucket, is_sound_hash_slot}
use Rattle.silt_log.specs.Parts.{Part}
use Rattle.silt_log_store.specs.Laws.{HasEntries}
use Rattle.silt_conversion.specs.Conversion.{converted_before, converted_row, converted_rows, empty_row, row_for, tag_of_entry}
use Rattle.silt_hash_store.proofs.Finding.{holds_none}
use Rattle.silt_hash_store.proofs.Growing.{nothing_from}

-- the row of an empty slot has the kind 0
pub empty_kind : (s : Shape) → (empty_row s).kind ≡ 0
empty_kind s = get_or-replicate (row_len s) 0 0 0 (omega arith)

-- a pair of buckets, from the one in which a slot lies
other_of : (at tag first second : ℕ) → pair_of at tag ≡ pair_of first second → ((at == first) || (at == second)) ≡ true × (tag ≡ cond (at == first) second first)
other_of at tag first second same = search (arith, cases_eq, eq-eqb, cond-true, ne_eqb, cond-false)

module _ (s : Shape) (rows : List StoredRow) (table : Slots) (is : IsTableOf s rows table) where
  abbrev blank : StoredRow
  blank = empty_row s

  entries : HasEntries table s.buckets (keys_of rows)
  entries = entry_law s.buckets (keys_of rows) table is.count is.indexed

  -- the row of an entry
  pub row_of_entry : (slot tag place : ℕ) → entry_at table slot ≡ Some (tag, place) → converted_row s table rows slot ≡ get_or rows place blank
  row_of_entry slot tag place at = ap (λ (e : Option Entry). row_for s rows (option_map (λ (x : Entry). x.1) e)) at

  -- a slot without an entry is empty
  pub row_of_none : (slot : ℕ) → entry_at table slot ≡ None → converted_row s table rows slot ≡ blank
  row_of_none slot at = ap (λ (e : Option Entry). row_for s rows (option_map (λ (x : Entry). x.1) e)) at

  -- the place of an entry is that of a row
  pub place_inside : (slot tag place : ℕ) → entry_at table slot ≡ Some (tag, place) → place < length rows
  place_inside slot tag place at = omega (arith, (entries.newest slot tag place at).0, keys_count rows)

  there : (place : ℕ) → place < length rows → slice_get rows place ≡ Some (get_or rows place blank)
  there place below = slice_get-get_or rows place blank below

  -- each row is of a known kind
  pub known_at : (place : ℕ) → place < length rows → has_known_kind (get_or rows place blank) ≡ true
  known_at place below = passes_at has_known_kind rows place (get_or rows place blank) is.known (there place below)

  -- and has its key
  pub key_at : (place : ℕ) → place < length rows → get_or (keys_of rows) place [] ≡ (get_or rows place blank).key
  key_at place below = key_of_row rows place (get_or rows place blank) (there place below)

  -- the row of an entry is of a known kind
  pub entry_known : (slot tag place : ℕ) → entry_at table slot ≡ Some (tag, place) → has_known_kind (converted_row s table rows slot) ≡ true
  entry_known slot tag place at = ap has_known_kind (row_of_entry slot tag place at) ∙ known_at place (place_inside slot tag place at)

  entry_key : (slot tag place : ℕ) → entry_at table slot ≡ Some (tag, place) → (converted_row s table rows slot).key ≡ get_or (keys_of rows) place []
  entry_key slot tag place at = ap (λ (r : StoredRow). r.key) (row_of_entry slot tag place at) ∙ sym (key_at place (place_inside slot tag place at))

  -- it lies in one of its key's buckets, and the entry's tag is the other
  entry_buckets : (slot tag place : ℕ) → entry_at table slot ≡ Some (tag, place)
      → (is_in_bucket s slot (converted_row s table rows slot).key ≡ true)
      × (tag ≡ other_bucket (first_bucket s.buckets (converted_row s table rows slot).key) (second_bucket s.buckets (converted_row s table rows slot).key) slot)
  entry_buckets slot tag place at =
      let key : List ℕ = (converted_row s table rows slot).key in
      let pair : pair_of (slot / 4) tag ≡ pair_of (first_bucket s.buckets key) (second_bucket s.buckets key) =
      entries.buckets_of slot tag place at ∙ ap (key_pair s.buckets) (sym (entry_key slot tag place at)) in
      other_of (slot / 4) tag (first_bucket s.buckets key) (second_bucket s.buckets key) pair

  -- the tag of the row that belongs in a slot is that of the entry there
  pub converted_tag : (slot : ℕ) → tag_of s.buckets slot (converted_row s table rows slot) ≡ tag_of_entry (entry_at table slot)
  converted_tag slot = go (entry_at table slot) refl
    where
      go : (e : Option Entry) → entry_at table slot ≡ e → tag_of s.buckets slot (converted_row s table rows slot) ≡ tag_of_entry e
      go None at = tag_empty s.buckets slot (converted_row s table rows slot) (ap (λ (r : StoredRow). r.kind) (row_of_none slot at) ∙ empty_kind s)
      go (Some (tag, place)) at = tag_known s.buckets slot (converted_row s table rows slot) (entry_known slot tag place at) ∙ ap Some (sym (entry_buckets slot tag place at).1)

  -- an entry's place, if a row of the key belongs in another slot
  pub same_slot : (slot tag place other other_tag other_place : ℕ) → entry_at table slot ≡ Some (tag, place) → entry_at table other ≡ Some (other_tag, other_place)
      → get_or (keys_of rows) place [] ≡ get_or (keys_of rows) other_place [] → other ≡ slot
  same_slot slot tag place other other_tag other_place at other_at same =
      let one : place ≡ other_place = newest_apart (keys_of rows) place other_place (entries.newest slot tag place at) (entries.newest other other_tag other_place other_at) same in
      let here : place_at table slot ≡ Some place = ap (option_map (λ (e : Entry). e.1)) at in
      let also : place_at table other ≡ Some place = ap (option_map (λ (e : Entry). e.1)) other_at ∙ ap Some (sym one) in
      entries.once place slot other here also

  -- no other slot has a row of the same key
  pub due_once : (slot tag place other : ℕ) → entry_at table slot ≡ Some (tag, place) → other ≢ slot → is_row_of (converted_row s table rows slot).key (converted_row s table rows other) ≡ false
  due_once slot tag place other at apart = go (entry_at table other) refl
    where
      key : List ℕ
      key = (converted_row s table rows slot).key

      go : (e : Option Entry) → entry_at table other ≡ e → is_row_of (converted_row s table rows slot).key (converted_row s table rows other) ≡ false
      go None none =
          let unknown : has_known_kind (converted_row s table rows other) ≡ false =
          empty_not_known (converted_row s table rows other) (ap (λ (r : StoredRow). r.kind) (row_of_none other none) ∙ empty_kind s) in
          rw unknown refl
      go (Some (other_tag, other_place)) other_at = elim (cases_Bool (is_row_of (converted_row s table rows slot).key (converted_row s table rows other))) [
        | inr lacks ↦ lacks
        | inl has ↦
            let parts = and_parts (has_known_kind (converted_row s table rows other)) (bytes_eq (converted_row s table rows other).key (converted_row s table rows slot).key) has in
            let same : (converted_row s table rows other).key ≡ (converted_row s table rows slot).key =
            (bytes_eq-Decides (converted_row s table rows other).key (converted_row s table rows slot).key).0 parts.1 in
            absurd (apart (same_slot slot tag place other other_tag other_place at other_at (sym (entry_key slot tag place at) ∙ sym same ∙ entry_key other other_tag other_place other_at)))
      ]

  -- each slot is sound
  sound_due : (slot : ℕ) → slot < 4 * s.buckets → is_sound_hash_slot s (converted_rows s table rows) slot (converted_row s table rows slot) ≡ true
  unfolding converted_before converted_rows
  sound_due slot below = go (entry_at table slot) refl
    where
      go : (e : Option Entry) → entry_at table slot ≡ e → is_sound_hash_slot s (map (converted_row s table rows) (range_with_len 0 (4 * s.buckets))) slot (converted_row s table rows slot) ≡ true
      go None none = sound_empty s (map (converted_row s table rows) (range_with_len 0 (4 * s.buckets))) slot (converted_row s table rows slot)
          (ap (λ (r : StoredRow). r.kind) (row_of_none slot none) ∙ empty_kind s)
      go (Some (tag, place)) at =
          let before : List StoredRow = map (converted_row s table rows) (range_with_len 0 slot) in
          let taken : take slot (map (converted_row s table rows) (range_with_len 0 (4 * s.buckets))) ≡ before =
          take-map-range_with_len (converted_row s table rows) 0 (4 * s.buckets) slot (omega arith) in
          let alone : holds_key (converted_row s table rows slot).key before ≡ false = holds_none (converted_row s table rows slot).key before blank (λ i low.
          let under : i < slot = omega (arith, low, length-map-range_with_len (converted_row s table rows) 0 slot) in
          cc (get_or-map-range_with_len (converted_row s table rows) 0 slot i i blank under (omega arith), due_once slot tag place i at (λ same. absurd (omega arith)))) in
          sound_known s (map (converted_row s table rows) (range_with_len 0 (4 * s.buckets))) slot (converted_row s table rows slot) (entry_known slot tag place
          at) ((entry_buckets slot tag place at).0) (ap (holds_key (converted_row s table rows slot).key) taken ∙ alone)

-- there is no finding in the rows that belong in the slots
pub converted_sound : ConvertedSoundLaw
unfolding hash_findings converted_before converted_rows
converted_sound s rows table region is =
    let all : List StoredRow = map (converted_row s table rows) (range_with_len 0 (4 * s.buckets)) in
    let part : Part = record { region = region; rows = all } in
    nothing_from s part 0 all (λ slot row there.
    let below : slot < 4 * s.buckets = omega (arith, slice_get_within all slot row there, length-map-range_with_len (converted_row s table rows) 0 (4 * s.buckets)) in
    let here : slice_get all slot ≡ Some (converted_row s table rows slot) = slice_get-get_or all slot (empty_row s) (slice_get_within all slot row there)
    ∙ ap Some (get_or-map-range_with_len (converted_row s table rows) 0 (4 * s.buckets) slot slot (empty_row s) below (omega arith)) in
    let same : converted_row s table rows slot ≡ row = cc in
    let number : 0 + slot ≡ slot = omega arith in
    ap (λ n. is_sound_hash_slot s all n row) number ∙ ap (is_sound_hash_slot s all slot) (sym same) ∙ sound_due s rows table is slot below)
