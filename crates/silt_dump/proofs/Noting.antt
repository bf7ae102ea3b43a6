-- Rows noted at their spots.
use Rattle.silt_dump.proofs.Common.{◌≡◌, ◌<◌, ◌≤◌, ℕ, ◌+◌, ◌*◌, ◌==◌, Bool, IsTrue, cond, if◌then◌else◌, true, false, List, [], ◌∷◌, ◌++◌, length, filter, map, take, drop, get_or, Some, None}
use Rattle.silt_dump.proofs.Common.{refl, ap, sym, ◌∙◌, subst, arith, append_assoc, is_eq, BTreeMap, get, lookup, drop_all, drop_more, map-append, take_all, take_more, is_eq-slice_cmp, Content}
use Rattle.silt_dump.proofs.Common.{Shape, Map, map_after, command_of, map_of_rows, value_given, changed_get, map_after-append, map_law, Key, Put, Delete, kind_byte, StoredRow, has_known_kind}
use Rattle.silt_dump.proofs.Common.{key_cmp, row_of, slot_row, hash_rows, oldest_first, all_rows, all_count, row_of_all, entries_of, EngineState, ShowsStores, current_map, hashed_rows}
use Rattle.silt_dump.proofs.Common.{hash_store_at, current_is, rows_in, AreSpotsOf, IsSpotOf, NotesRows, Overlays, log_at, logged_rows, row_of_log, spot_value, value_over, Spot}
use Rattle.std.specs.Str.{bytes_eq}
use Rattle.std.proofs.lemmas.List.Elements.{filter-append}
use Rattle.silt_frame.specs.declared.key.Kind.{Kind}
use Rattle.silt_hash_store.specs.Slots.{rows_before}
use Rattle.silt_hash_store.proofs.Slotting.{all_before, before_more}
use Rattle.silt_dump.specs.declared.spot.Spot.TheVariants.{Deleted, Logged, Hashed}
use Rattle.std.specs.BTreeMap as tree

module _ (content : Content) (s : EngineState) where
  -- ---- one row

  -- the spots have rows, with one more of them
  pub spots_more : (key : Key) (spot : Spot) (old new : BTreeMap Key Spot) → IsSpotOf s spot → tree.Updates key_cmp old new key (Some spot) → AreSpotsOf s old → AreSpotsOf s new
  spots_more key spot old new is updates are q its there = go (is_eq (key_cmp key q)) refl
    where
      go : (b : Bool) → is_eq (key_cmp key q) ≡ b → IsSpotOf s its
      go true same =
          let this : Some spot ≡ Some its = sym (updates.0 q ∙ ap (λ (b : Bool). cond b (Some spot) (tree.get key_cmp old q)) same) ∙ there in
          let is_its : spot ≡ its = cc in
          subst (IsSpotOf s) is_its is
      go false other = are q its (sym (updates.0 q ∙ ap (λ (b : Bool). cond b (Some spot) (tree.get key_cmp old q)) other) ∙ there)

  -- a row was noted
  pub overlays_row : (row : StoredRow) (key : Key) (spot : Spot) (old new : BTreeMap Key Spot) (above behind : Map) → row.key ≡ key.0 → spot_value content s spot ≡ value_given row
      → tree.Updates key_cmp old new key (Some spot) → Overlays content s above behind old → Overlays content s (map_after above (map command_of (row ∷ []))) behind new
  overlays_row row key spot old new above behind key_is value_is updates over q =
      changed_get above row q.0
      ∙ ap (λ (k : List ℕ). cond (bytes_eq k q.0) (value_given row) (get above q.0)) key_is
      ∙ go (bytes_eq key.0 q.0) refl
      ∙ ap (value_over content s (get behind q.0)) (ap (λ (b : Bool). cond b (Some spot) (tree.get key_cmp old q)) (sym (is_eq-slice_cmp key.0 q.0)) ∙ sym (updates.0 q))
    where
      go : (b : Bool) → bytes_eq key.0 q.0 ≡ b → cond (bytes_eq key.0 q.0) (value_given row) (get above q.0) ≡ value_over content
          s (get behind q.0) (cond (bytes_eq key.0 q.0) (Some spot) (tree.get key_cmp old q))
      go true is = rw is (sym value_is)
      go false is = rw is (over q)

  pub notes_row : (row : StoredRow) (key : Key) (spot : Spot) (old new : BTreeMap Key Spot) → IsSpotOf s spot
      → (IsTrue content.honest → row.key ≡ key.0) → (IsTrue content.honest → spot_value content s spot ≡ value_given row)
      → tree.Updates key_cmp old new key (Some spot) → NotesRows content s (row ∷ []) old new
  notes_row row key spot old new is key_is value_is updates = record {
    spots = spots_more key spot old new is updates;
    notes = λ h above behind. overlays_row row key spot old new above behind (key_is h) (value_is h) updates;
  }

  -- no row was noted
  pub notes_none : (spots : BTreeMap Key Spot) → NotesRows content s [] spots spots
  notes_none spots = record { spots = λ are. are; notes = λ h above behind over. over }

  -- further rows were noted
  pub notes_more : (rows more : List StoredRow) (a b c : BTreeMap Key Spot) → NotesRows content s rows a b → NotesRows content s more b c → NotesRows content s (rows ++ more) a c
  notes_more rows more a b c first second = record {
    spots = λ are. second.spots (first.spots are);
    notes = λ h above behind over.
        subst (λ (m : Map). Overlays content s m behind c) (sym (ap (map_after above) (map-append command_of rows more) ∙ map_after-append above (map command_of rows) (map command_of more)))
        (second.notes h (map_after above (map command_of rows)) behind (first.notes h above behind over));
  }

  -- one more row of some was noted
  pub notes_next : (rows : List StoredRow) (n : ℕ) (row : StoredRow) (a b c : BTreeMap Key Spot) → n < length rows → get_or rows n row ≡ row
      → NotesRows content s (take n rows) a b → NotesRows content s (row ∷ []) b c
      → NotesRows content s (take (n + 1) rows) a c
  notes_next rows n row a b c inside is first second =
      subst (λ (l : List StoredRow). NotesRows content s l a c) (sym (take_more rows n row inside ∙ ap (λ (r : StoredRow). take n rows ++ r ∷ []) is))
      (notes_more (take n rows) (row ∷ []) a b c first second)

  -- all of some rows were noted
  pub notes_whole : (rows : List StoredRow) (n : ℕ) (a b : BTreeMap Key Spot) → length rows ≡ n → NotesRows content s (take n rows) a b → NotesRows content s rows a b
  notes_whole rows n a b counted does = subst (λ (l : List StoredRow). NotesRows content s l a b) (take_all n rows (omega (arith, counted))) does

  -- the rows of one more store, newer than those that were noted
  pub notes_store : {X : Type 0} (rows_of : X → List StoredRow) (stores : List X) (n k : ℕ) (store : X) (a b c : BTreeMap Key Spot) → k ≡ n + 1 → n < length stores → get_or stores n store ≡ store
      → NotesRows content s (oldest_first (map rows_of (drop k stores))) a b → NotesRows content s (rows_of store) b c → NotesRows content s (oldest_first (map rows_of (drop n stores))) a c
  notes_store rows_of stores n k store a b c next inside is first second =
      let split : drop n stores ≡ store ∷ drop k stores = drop_more stores n store inside ∙ ap (λ x. x ∷ drop (n + 1) stores) is ∙ ap (λ (m : ℕ). store ∷ drop m stores) (sym next) in
      subst (λ l. NotesRows content s (oldest_first (map rows_of l)) a c) (sym split) (notes_more (oldest_first (map rows_of (drop k stores))) (rows_of store) a b c first second)

  -- at first no store's rows were noted
  pub notes_from_start : {X : Type 0} (rows_of : X → List StoredRow) (stores : List X) (n : ℕ) (spots : BTreeMap Key Spot)
      → length stores ≤ n → NotesRows content s (oldest_first (map rows_of (drop n stores))) spots spots
  notes_from_start rows_of stores n spots most = subst (λ l. NotesRows content s (oldest_first (map rows_of l)) spots spots) (sym (drop_all n stores most)) (notes_none spots)

  -- at the end those of all stores were
  pub notes_to_end : {X : Type 0} (rows_of : X → List StoredRow) (stores : List X) (n : ℕ) (a b : BTreeMap Key Spot) → n ≤ 0 → NotesRows content s (oldest_first (map rows_of (drop n stores))) a b
      → NotesRows content s (oldest_first (map rows_of stores)) a b
  notes_to_end rows_of stores n a b least does =
      let none : n ≡ 0 = omega (arith, least) in
      subst (λ (m : ℕ). NotesRows content s (oldest_first (map rows_of (drop m stores))) a b) none does

  -- ---- rows of logs

  -- the spot of a row that is a put there, or a delete
  fits_spot : (b : Bool) (spot : Spot) → IsSpotOf s spot → IsSpotOf s (cond b spot Deleted)
  fits_spot true spot is = is
  fits_spot false spot is = tt

  -- what it gives is what the row gives
  gives_row : (row : StoredRow) (spot : Spot) → spot_value content s spot ≡ Some row.value → spot_value content s (cond (row.kind == 1) spot Deleted) ≡ value_given row
  gives_row row spot is = go (row.kind == 1) refl
    where
      go : (b : Bool) → (row.kind == 1) ≡ b → spot_value content s (cond (row.kind == 1) spot Deleted) ≡ value_given row
      go true put = rw put is
      go false other = rw other refl

  -- one more row of a log was noted
  pub notes_logged : (number place : ℕ) (bytes : List ℕ) (key : Key) (spot : Spot) (a b c : BTreeMap Key Spot) → number ≤ length s.frozen → place < (log_at s number).log.used
      → key.0 ≡ (row_of bytes).key → spot ≡ cond ((row_of bytes).kind == 1) (Logged number place) Deleted → (IsTrue content.honest → row_of bytes ≡ row_of_log content (log_at s number) place)
      → tree.Updates key_cmp b c key (Some spot)
      → NotesRows content s (take place (all_rows content (log_at s number).log)) a b → NotesRows content s (take (place + 1) (all_rows content (log_at s number).log)) a c
  notes_logged number place bytes key spot a b c there inside key_is spot_is reads updates first =
      let store = log_at s number in
      let row : StoredRow = row_of_log content store place in
      notes_next (all_rows content store.log) place row a b c (omega (arith, all_count content store.log, inside)) (row_of_all content store.log place row inside) first
      (notes_row row key spot b c
      (subst (IsSpotOf s) (sym spot_is) (fits_spot ((row_of bytes).kind == 1) (Logged number place) (there, inside)))
      (λ h. sym (key_is ∙ ap (λ (r : StoredRow). r.key) (reads h)))
      (λ h. ap (spot_value content s) (spot_is ∙ ap (λ (r : StoredRow). cond (r.kind == 1) (Logged number place) Deleted) (reads h)) ∙ gives_row row (Logged number place) refl)
      updates)

  -- ---- rows of hash stores

  -- a row of a known kind was noted
  pub notes_kept : (row : StoredRow) (key : Key) (spot : Spot) (old new : BTreeMap Key Spot) → IsSpotOf s spot
      → (IsTrue content.honest → has_known_kind row ≡ true) → (IsTrue content.honest → row.key ≡ key.0)
      → (IsTrue content.honest → spot_value content s spot ≡ value_given row) → tree.Updates key_cmp old new key (Some spot) → NotesRows content s (filter has_known_kind (row ∷ [])) old new
  notes_kept row key spot old new is known key_is value_is updates = record {
    spots = spots_more key spot old new is updates;
    notes = λ h above behind over.
        let kept : filter has_known_kind (row ∷ []) ≡ row ∷ [] = rw (known h) refl in
        subst (λ (l : List StoredRow). Overlays content s (map_after above (map command_of l)) behind new) (sym kept)
        (overlays_row row key spot old new above behind (key_is h) (value_is h) updates over);
  }

  -- what the spot of a row in a slot gives
  pub gives_slot : (number slot : ℕ) (row : StoredRow) (kind : Kind) (spot : Spot) → row ≡ slot_row (hash_store_at s number).shape (hash_store_at s number).region content.shown slot
      → kind_byte kind ≡ row.kind → (kind ≡ Put → spot ≡ Hashed number slot) → (kind ≡ Delete → spot ≡ Deleted) → spot_value content s spot ≡ value_given row
  gives_slot number slot row kind spot is byte put delete = go kind refl
    where
      go : (k : Kind) → kind ≡ k → spot_value content s spot ≡ value_given row
      go Put e =
          let one : row.kind ≡ 1 = sym byte ∙ ap kind_byte e in
          ap (spot_value content s) (put e) ∙ ap (λ (r : StoredRow). Some r.value) (sym is) ∙ ap (λ (n : ℕ). if n == 1 then Some row.value else None) (sym one)
      go Delete e =
          let two : row.kind ≡ 2 = sym byte ∙ ap kind_byte e in
          ap (spot_value content s) (delete e) ∙ ap (λ (n : ℕ). if n == 1 then Some row.value else None) (sym two)

  module _ (shape : Shape) (region : ℕ) (image : List ℕ) where
    -- no slot was noted
    pub notes_no_slot : (spots : BTreeMap Key Spot) → NotesRows content s (filter has_known_kind (rows_before shape region image 0)) spots spots
    unfolding rows_before
    notes_no_slot spots = notes_none spots

    -- one slot more was noted
    pub notes_slot : (slot : ℕ) (a b c : BTreeMap Key Spot) → NotesRows content s (filter has_known_kind (rows_before shape region image slot)) a b
        → NotesRows content s (filter has_known_kind (slot_row shape region image slot ∷ [])) b c
        → NotesRows content s (filter has_known_kind (rows_before shape region image (slot + 1))) a c
    notes_slot slot a b c first second =
        let split : filter has_known_kind (rows_before shape region image (slot + 1)) ≡ filter has_known_kind (rows_before shape region image slot)
        ++ filter has_known_kind (slot_row shape region image slot ∷ []) =
        ap (filter has_known_kind) (before_more shape region image slot) ∙ filter-append has_known_kind (rows_before shape region image slot) (slot_row shape region image slot ∷ []) in
        subst (λ (l : List StoredRow). NotesRows content s l a c) (sym split)
        (notes_more (filter has_known_kind (rows_before shape region image slot)) (filter has_known_kind (slot_row shape region image slot ∷ [])) a b c first second)

    -- all slots were noted
    pub notes_slots : (count : ℕ) (a b : BTreeMap Key Spot) → count ≡ 4 * shape.buckets
        → NotesRows content s (filter has_known_kind (rows_before shape region image count)) a b → NotesRows content s (filter has_known_kind (hash_rows shape region image)) a b
    notes_slots count a b all does =
        subst (λ (l : List StoredRow). NotesRows content s (filter has_known_kind l) a b) (ap (rows_before shape region image) all ∙ sym (all_before shape region image)) does

  -- ---- all rows

  -- from no spots: over the entries of the sorted store they give the map
  pub notes_all : (first last : BTreeMap Key Spot) → ShowsStores content s → IsTrue content.honest → tree.IsEmpty first
      → NotesRows content s (hashed_rows content s ++ logged_rows content s) first last
      → Overlays content s (current_map content s) (map_of_rows (entries_of content s.sorted)) last
  notes_all first last shows honest none notes =
      let entries : List StoredRow = entries_of content s.sorted in
      let rows : List StoredRow = hashed_rows content s ++ logged_rows content s in
      let logs : List StoredRow = oldest_first (map (rows_in content) s.frozen) in
      let newest : List StoredRow = all_rows content s.active.log in
      let whole : map_of_rows (entries ++ rows) ≡ current_map content s =
      ap map_of_rows (sym (append_assoc entries (hashed_rows content s) (logs ++ newest)) ∙ sym (append_assoc (entries ++ hashed_rows content s) logs newest))
      ∙ sym (current_is content s shows honest) in
      subst (λ (m : Map). Overlays content s m (map_of_rows entries) last) (sym (map_law entries rows) ∙ whole)
      (notes.notes honest (map_of_rows entries) (map_of_rows entries)
      (λ key. ap (value_over content s (get (map_of_rows entries) key.0)) (sym (ap (lookup (tree.is_at (key_cmp key))) none))))

  -- no spots have rows
  pub no_spots : (spots : BTreeMap Key Spot) → tree.IsEmpty spots → AreSpotsOf s spots
  no_spots spots none key spot there = absurd (let no : None ≡ Some spot = sym (ap (lookup (tree.is_at (key_cmp key))) none) ∙ there in cc)
