-- A rebuild, slot by slot, and the findings in a hash region.
use Rattle.silt_hash_store.proofs.Common.{◌≡◌, ℕ, zero, suc, ◌+◌, ◌*◌, ◌<◌, true, false, IsTrue, List, [], ◌∷◌, ◌++◌, length, filter, flat_map, take, get_or, slice_get, slice_set, rules}
use Rattle.silt_hash_store.proofs.Common.{replicate, Option, Some, None, inl, inr, refl, sym, subst, ap, ◌∙◌, arith, length-append, append-nil, get_or-set_other, get_or-set_same}
use Rattle.silt_hash_store.proofs.Common.{enumerate_from, is_some, and_from, cases_eq, get_or_past, filter-append, list_any_at, get_or_from_slice_get, slice_get_within, bytes_eq-Decides}
use Rattle.silt_hash_store.proofs.Common.{sha1, Content, Shape, kind_byte, kind_of, Kind, has_known_kind, StoredRow, rows_bytes, has_tag_of, hash_part, hash_rows, is_row_of, is_sound_slot}
use Rattle.silt_hash_store.proofs.Common.{slot_row, slot_tag, Found, FindsRow, AddsSound, IsFirstUnsound, IsGrown, IsRebuiltHash, TagsKey, TakesAdded, IsScanRefused, HashState, IsHashStore}
use Rattle.silt_hash_store.proofs.Common.{IsHeldHash, IsTagged, ScanError, Damaged, Rebuilt}
use Rattle.std.proofs.lemmas.List.Sums.{sum_by-append}
use Rattle.silt_frame.specs.declared.key.Kind.TheVariants.{Put, Delete}
use Rattle.silt_hash_store.specs.Findings.{hash_findings, holds_key, is_sound_hash_slot, slot_findings}
use Rattle.silt_log.specs.Parts.{Part}
use Rattle.silt_hash_store.specs.Slots.{rows_before}
use Rattle.silt_event.specs.declared.place.Place.TheVariants.{Hash}
use Rattle.silt_event.proofs.Findings.{nothing_both, nothing_second, nothing_where_passes}
use Rattle.silt_hash_store.proofs.Finding.{untagged_none}
use Rattle.silt_hash_store.proofs.Slotting.{all_before, before_count, before_more, before_taken, before_there, empty_not_known, tag_empty, unsound_twice}
use Rattle.silt_event.specs.declared.damage.Finding.TheVariants as finding

-- ---- findings

-- sound slots from a number on give no finding
pub nothing_from : (s : Shape) (part : Part) (k : ℕ) (rows : List StoredRow) → ((i : ℕ) (row : StoredRow) → slice_get rows i ≡ Some row → is_sound_hash_slot s part.rows (k + i) row ≡ true)
    → flat_map (slot_findings s part) (enumerate_from k rows) ≡ []
nothing_from s part k [] sound = refl
nothing_from s part k (row ∷ rows) sound =
    let here : k + 0 ≡ k = omega arith in
    let first : is_sound_hash_slot s part.rows k row ≡ true = ap (λ n. is_sound_hash_slot s part.rows n row) (sym here) ∙ sound 0 row refl in
    nothing_both (slot_findings s part (k, row)) (flat_map (slot_findings s part) (enumerate_from (k + 1) rows)) (nothing_where_passes (is_sound_hash_slot s
    part.rows k row) (finding.Damaged (Hash part.region k)) first) (nothing_from s part (k + 1) rows (λ i other there.
    let further : k + 1 + i ≡ k + suc i = omega arith in
    ap (λ n. is_sound_hash_slot s part.rows n other) further ∙ sound (suc i) other there))

-- if there is no finding, all are sound
pub sound_from : (s : Shape) (part : Part) (k : ℕ) (rows : List StoredRow) → flat_map (slot_findings s part) (enumerate_from k rows) ≡ []
    → (i : ℕ) (row : StoredRow) → slice_get rows i ≡ Some row → is_sound_hash_slot s part.rows (k + i) row ≡ true
sound_from s part k (first ∷ rows) none (suc i) row there = search (
  arith,
  sound_from s part (k + 1) rows (nothing_second (slot_findings s part (k, first)) (flat_map (slot_findings s part) (enumerate_from (k + 1) rows)) none) i row there,
  nothing_second,
)
sound_from s part k rows none i row there = search (rules, arith)

-- the first of what comes behind nothing
first_behind : {X : Type 0} (xs ys : List X) (x : X) → xs ≡ [] → slice_get ys 0 ≡ Some x → slice_get (xs ++ ys) 0 ≡ Some x
first_behind xs ys x none e = ap (λ l. slice_get (l ++ ys) 0) none ∙ e

-- the first slot that is not sound is the first finding
pub first_from : (s : Shape) (part : Part) (k n : ℕ) (rows : List StoredRow) (row : StoredRow) → slice_get rows n ≡ Some row
    → ((i : ℕ) (earlier : StoredRow) → i < n → slice_get rows i ≡ Some earlier → is_sound_hash_slot s part.rows (k + i) earlier ≡ true)
    → is_sound_hash_slot s part.rows (k + n) row ≡ false → slice_get (flat_map (slot_findings s part) (enumerate_from k rows)) 0 ≡ Some (finding.Damaged (Hash part.region (k + n)))
first_from s part k n [] row there sound unsound = absurd (cc)
first_from s part k zero (first ∷ rows) row there sound unsound = search arith
first_from s part k (suc n) (first ∷ rows) row there sound unsound =
    let here : k + 0 ≡ k = omega arith in
    let further : k + 1 + n ≡ k + suc n = omega arith in
    let passes : is_sound_hash_slot s part.rows k first ≡ true = ap (λ m. is_sound_hash_slot s part.rows m first) (sym here) ∙ sound 0 first (omega arith) refl in
    first_behind (slot_findings s part (k, first)) (flat_map (slot_findings s part) (enumerate_from (k + 1) rows)) (finding.Damaged (Hash part.region (k + suc
    n))) (search arith) (first_from s part (k + 1) n rows row there (λ i earlier low at.
    let step : k + 1 + i ≡ k + suc i = omega arith in
    ap (λ m. is_sound_hash_slot s part.rows m earlier) step ∙ sound (suc i) earlier (omega arith) at)
    (ap (λ m. is_sound_hash_slot s part.rows m row) further ∙ unsound)
    ∙ ap (λ m. Some (finding.Damaged (Hash part.region m))) further)

-- ---- a whole store

module _ (s : Shape) (region : ℕ) (image : List ℕ) where
  -- the row in each slot
  all_there : (slot : ℕ) → slot < 4 * s.buckets → slice_get (hash_rows s region image) slot ≡ Some (slot_row s region image slot)
  all_there slot below = ap (λ (rows : List StoredRow). slice_get rows slot) (all_before s region image) ∙ before_there s region image (4 * s.buckets) slot below

  all_within : (slot : ℕ) (row : StoredRow) → slice_get (hash_rows s region image) slot ≡ Some row → slot < 4 * s.buckets
  all_within slot row there = search (arith, slice_get_within, all_before, before_count)

  -- there is no finding if all slots are sound
  pub nothing_found : ((slot : ℕ) → slot < 4 * s.buckets → is_sound_slot s region image slot ≡ true) → hash_findings s (hash_part s image region) ≡ []
  unfolding hash_findings
  nothing_found sound = nothing_from s (hash_part s image region) 0 (hash_rows s region image) (λ slot row there.
      let below = all_within slot row there in
      let here = all_there slot below in
      let same : slot_row s region image slot ≡ row = cc in
      let number : 0 + slot ≡ slot = omega arith in
      ap (λ n. is_sound_hash_slot s (hash_rows s region image) n row) number ∙ ap (is_sound_hash_slot s (hash_rows s region image) slot) (sym same) ∙ sound slot below)

  -- and only there
  pub all_sound : hash_findings s (hash_part s image region) ≡ [] → (slot : ℕ) → slot < 4 * s.buckets → is_sound_slot s region image slot ≡ true
  unfolding hash_findings
  all_sound none slot below =
      let number : slot ≡ 0 + slot = omega arith in
      cc (sound_from s (hash_part s image region) 0 (hash_rows s region image) none slot (slot_row s region image slot) (all_there slot below))

  -- the first slot that is not sound
  pub first_found : (slot : ℕ) → slot < 4 * s.buckets → ((earlier : ℕ) → earlier < slot → is_sound_slot s region image earlier ≡ true) → is_sound_slot s region image slot ≡ false
      → slice_get (hash_findings s (hash_part s image region)) 0 ≡ Some (finding.Damaged (Hash region slot))
  unfolding hash_findings
  first_found slot below sound unsound =
      let number : 0 + slot ≡ slot = omega arith in
      first_from s _ 0 slot _ _ (all_there slot below) (λ i earlier low there.
      let here = all_there i (omega (arith, low, below)) in
      let same : slot_row s region image i ≡ earlier = cc in
      let its_number : 0 + i ≡ i = omega arith in
      cc (sound i low)) (cc) ∙ ap (λ n. Some (finding.Damaged (Hash region n))) number

-- a store that matches the disk has the tags of all slots
pub tagged_all : (content : Content) (store : HashState) → IsHeldHash store → IsTrue content.honest → IsHashStore content store → IsTagged store content.shown (4 * store.shape.buckets)
tagged_all content store held honest is = search (arith, all_sound, get_or_past)

-- so what is found among the rows before the last slot is found among all rows
pub found_in_all : (s : Shape) (region : ℕ) (image : List ℕ) (key : List ℕ) (found : Option Found)
    → FindsRow (rows_before s region image (4 * s.buckets)) key found → FindsRow (hash_rows s region image) key found
found_in_all s region image key found finds = subst (λ (rows : List StoredRow). FindsRow rows key found) (sym (all_before s region image)) finds

-- and if no slot has a tag of a key, no row has the key
pub untagged_all : (content : Content) (store : HashState) (key : List ℕ) → IsHeldHash store → IsTrue content.honest → IsHashStore content store → false ≡ has_tag_of store.tags store.shape.buckets key
    → FindsRow (hash_rows store.shape store.region content.shown) key None
untagged_all content store key held honest is lacks = search (arith, found_in_all, untagged_none, tagged_all)

-- ---- one slot

-- a row of a known kind, by its head
pub head_known : (row : StoredRow) (kind : Kind) → kind_of row.kind ≡ Some kind → has_known_kind row ≡ true
head_known row kind is = ap is_some is

module _ (store : HashState) (image : List ℕ) (slot : ℕ) (is : IsTagged store image slot) where
  abbrev shown : StoredRow
  shown = slot_row store.shape store.region image slot

  -- the rows before the slot
  earlier : take slot (hash_rows store.shape store.region image) ≡ rows_before store.shape store.region image slot
  earlier = before_taken store.shape store.region image slot is.most

  -- a row that is new adds its kind and its tag
  pub adds_row : (kind : Kind) (key : List ℕ) (tag : ℕ) → kind_of shown.kind ≡ Some kind → key ≡ shown.key → TagsKey store.shape slot key (Some tag)
      → FindsRow (rows_before store.shape store.region image slot) key None → AddsSound store image slot (Some (kind, tag))
  adds_row kind key tag is_kind same (inside, other) none = search (arith, earlier)

  -- nor is a row whose key an earlier slot has
  pub twice_unsound : (kind : Kind) (key : List ℕ) (found : Found) → kind_of shown.kind ≡ Some kind → key ≡ shown.key → FindsRow (rows_before store.shape store.region image slot) key (Some found)
      → is_sound_slot store.shape store.region image slot ≡ false
  twice_unsound kind key found is_kind same (other, there, its_key, its_kind) =
      let inside = slice_get_within (rows_before store.shape store.region image slot) found.place other there in
      let known : has_known_kind other ≡ true = known_byte found.kind other.kind its_kind in
      let held : is_row_of key other ≡ true = and_from _ _ known ((bytes_eq-Decides other.key key).1 its_key) in
      let at : is_row_of key (get_or (rows_before store.shape store.region image slot) found.place other) ≡ true =
      ap (is_row_of key) (get_or_from_slice_get (rows_before store.shape store.region image slot) found.place other other there) ∙ held in
      unsound_twice store.shape (hash_rows store.shape store.region image) slot shown (head_known shown kind is_kind)
      (ap (holds_key shown.key) earlier ∙ ap (λ (k : List ℕ). holds_key k (rows_before store.shape store.region image slot)) (sym same)
      ∙ list_any_at (is_row_of key) (rows_before store.shape store.region image slot) found.place other inside at)
    where
      known_byte : (kind : Kind) (byte : ℕ) → kind_byte kind ≡ byte → is_some (kind_of byte) ≡ true
      known_byte Put byte e = ap (λ n. is_some (kind_of n)) (sym e)
      known_byte Delete byte e = ap (λ n. is_some (kind_of n)) (sym e)

-- ---- one slot more

-- the rows of known kinds with one slot more
known_more : (s : Shape) (region : ℕ) (image : List ℕ) (slot : ℕ)
    → filter has_known_kind (rows_before s region image (slot + 1)) ≡ filter has_known_kind (rows_before s region image slot) ++ filter has_known_kind (slot_row s region image slot ∷ [])
known_more s region image slot = ap (filter has_known_kind) (before_more s region image slot) ∙ filter-append has_known_kind (rows_before s region image slot) (slot_row s region image slot ∷ [])

-- a row of an unknown kind is no row of these
none_kept : (row : StoredRow) → has_known_kind row ≡ false → filter has_known_kind (row ∷ []) ≡ []
none_kept row unknown = rw unknown refl

-- the store of one slot more
pub slot_taken : (old new : Rebuilt) (image : List ℕ) (slot : ℕ) (added : Option (Kind × ℕ)) → slot < 4 * old.store.shape.buckets → length old.store.tags ≡ 4 * old.store.shape.buckets
    → IsGrown old image slot → AddsSound old.store image slot added → TakesAdded slot added old new → IsGrown new image (slot + 1)
slot_taken old new image slot None below long is adds takes = search (arith, known_more, none_kept, empty_not_known, append-nil, cases_eq, tag_empty)
slot_taken old new image slot (Some (kind, tag)) below long is adds takes =
    let row : StoredRow = slot_row old.store.shape old.store.region image slot in
    let known : has_known_kind row ≡ true = head_known row kind adds.adds.0 in
    let before : List StoredRow = filter has_known_kind (rows_before old.store.shape old.store.region image slot) in
    let kept : filter has_known_kind (rows_before old.store.shape old.store.region image (slot + 1)) ≡ before ++ row ∷ [] = search (arith, known_more) in
    let tags : List (Option ℕ) = slice_set old.store.tags slot (Some tag) in
    subst (λ (r : Rebuilt). IsGrown r image (slot + 1)) (sym takes) (record {
      tagged = record {
        most = omega (arith, below);
        sound = λ j low. elim (cases_eq j slot) [ inl here ↦ rw (← here) at adds.sound | inr other ↦ is.tagged.sound j (omega arith) ];
        tagged = search (arith, cases_eq, get_or-set_same, get_or-set_other);
        later = search (arith, get_or-set_other);
      };
      charged = search (arith, sum_by-append);
      counted = ap (λ n. n + 1) is.counted ∙ sym (length-append before (row ∷ [])) ∙ ap length (sym kept);
    })

-- ---- the rebuild

-- a store of no slots
pub none_grown : (rebuilt : Rebuilt) (image : List ℕ) → rebuilt.store.tags ≡ replicate (4 * rebuilt.store.shape.buckets) None → rebuilt.store.puts ≡ 0 → rebuilt.rows ≡ 0 → IsGrown rebuilt image 0
unfolding rows_before
none_grown rebuilt image tags puts rows = record {
  tagged = record {
    most = omega arith;
    sound = λ slot low. absurd (omega arith);
    tagged = λ slot low. absurd (omega arith);
    later = λ slot past. ap (λ (t : List (Option ℕ)). slot_tag t slot) tags ∙ no_tag (4 * rebuilt.store.shape.buckets) slot;
  };
  charged = puts;
  counted = rows;
}
  where
    no_tag : (n slot : ℕ) → get_or (replicate {A = Option ℕ} n None) slot None ≡ None
    no_tag zero slot = refl
    no_tag (suc n) zero = refl
    no_tag (suc n) (suc slot) = no_tag n slot

-- its digest is nothing to what was taken
pub grown_digested : (rebuilt : Rebuilt) (digest image : List ℕ) (count : ℕ) → IsGrown rebuilt image count → IsGrown (record rebuilt { store = record rebuilt.store { digest = digest } }) image count
grown_digested rebuilt digest image count is = search arith

-- a store of all slots
pub all_grown : (content : Content) (rebuilt : Rebuilt) → IsTrue content.honest → IsGrown rebuilt content.shown (4 * rebuilt.store.shape.buckets)
    → rebuilt.store.digest ≡ sha1 (rows_bytes (rows_before rebuilt.store.shape rebuilt.store.region content.shown (4 * rebuilt.store.shape.buckets))) → IsRebuiltHash content rebuilt
all_grown content rebuilt honest is digest = search (arith, nothing_found, all_before)

-- a rebuild that was refused at a slot
pub refused_at : {F : Type 0} (content : Content) (rebuilt : Rebuilt) (s : Shape) (region slot : ℕ) (given : F → Type 0) (error : ScanError F)
    → rebuilt.store.shape ≡ s → rebuilt.store.region ≡ region → slot < 4 * s.buckets
    → (IsTrue content.honest → IsGrown rebuilt content.shown slot)
    → IsScanRefused (λ at. (at ≡ slot) × (IsTrue content.honest → IsGrown rebuilt content.shown slot → is_sound_slot rebuilt.store.shape rebuilt.store.region content.shown slot ≡ false)) given error
    → IsScanRefused (λ at. IsTrue content.honest → IsFirstUnsound content s region at) given error
refused_at content rebuilt s region slot given error shape number below is refused = search (arith, first_found)
