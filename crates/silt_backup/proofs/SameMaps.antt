-- A backup of a moment of a store has the map of that moment's base.
use Rattle.silt_backup.proofs.Common.{◌≡◌, ◌⊎◌, ◌≤◌, ◌+◌, ◌%◌, ℕ, true, IsTrue, Contains, List, [], ◌∷◌, ◌++◌, length, map, slice_get, slice_range, Some, drop, option_map, inl, inr, refl, sym, ap}
use Rattle.silt_backup.proofs.Common.{subst, ◌∙◌, arith, sha1, AreLogs, BackupLaw, Collision, Shape, device_size, commits_at, log_size, StoredRow, entries_bytes, rows_bytes, Part, known_rows}
use Rattle.silt_backup.proofs.Common.{log_part, oldest_first, part_rows, Body, Digests, sorted_rows}
use Rattle.std.proofs.lemmas.Option.{get_or_from_slice_get, slice_get-map, slice_get_within}
use Rattle.silt_backup.proofs.Copies.{entries_equal, hashes_equal, log_rows_equal}
use Rattle.silt_disk.specs.declared.disk.Disk.{Ghosts}
use Rattle.silt_event.specs.Rows.{map_of_rows}
use Rattle.silt_hash_store.specs.Slots.{hash_part, hash_rows}
use Rattle.silt_image.proofs.Frame.{names_regions}
use Rattle.silt_image.proofs.Named.{stores_law, whole_law}
use Rattle.silt_image.proofs.Verdict.{rows_law}
use Rattle.silt_image.specs.Meaning.{AreDigestsOf, image_map, rows_of}
use Rattle.silt_image.specs.Stores.{Stores, stores_named}
use Rattle.silt_log.specs.Rows.{log_rows}
use Rattle.silt_manifest.specs.Body.{is_well_formed}
use Rattle.silt_store_set.specs.CoreState.{CoreState}
use Rattle.silt_view.specs.Moments.{HoldLogs}

-- an element of a list of numbers, by its place
contained : (ids : List ℕ) (place id : ℕ) → slice_get ids place ≡ Some id → Contains ids id
contained ids place id is = (place, slice_get_within ids place id is, get_or_from_slice_get ids place id id is)

-- the part at a place of a list that is made of numbers
part_at : (f : ℕ → Part) (ids : List ℕ) (place id : ℕ) → slice_get ids place ≡ Some id → slice_get (map f ids) place ≡ Some (f id)
part_at f ids place id is = slice_get-map f ids place ∙ ap (option_map f) is

-- stores in the same regions, with the same digests and the same bytes of the logs, have the same rows
same_rows : (shape : Shape) (body : Body) (digests : Digests) (shown image : List ℕ) → length image ≡ device_size shape → is_well_formed shape (body.generation % 2) body ≡ true
    → AreDigestsOf (Some digests) (stores_named shape body shown) → AreDigestsOf (Some digests) (stores_named shape body image)
    → map (log_part shape shown) (body.active ∷ body.frozen) ≡ map (log_part shape image) (body.active ∷ body.frozen)
    → (rows_of (stores_named shape body shown) ≡ rows_of (stores_named shape body image)) ⊎ Collision
unfolding rows_of stores_named
same_rows shape body digests shown image size sound said copied logs =
    let there = names_regions shape (body.generation % 2) body sound in
    let fits : device_size shape ≤ length image = omega (arith, size) in
    let hash_said : (place region : ℕ) → slice_get body.hashed place ≡ Some region → sha1 (rows_bytes (hash_rows shape region shown)) ≡ sha1 (rows_bytes (hash_rows shape region image)) =
    λ place region is.
    sym (said.hashed place (hash_part shape shown region) (part_at (hash_part shape shown) body.hashed place region is) _ refl)
    ∙ copied.hashed place (hash_part shape image region) (part_at (hash_part shape image) body.hashed place region is) _ refl in
    let sorted_said : sha1 (entries_bytes (sorted_rows shape body.sorted body.sorted_count shown)) ≡ sha1 (entries_bytes (sorted_rows shape body.sorted body.sorted_count image)) =
    sym (said.sorted _ refl) ∙ copied.sorted _ refl in
    elim (hashes_equal shape body.hashed shown image fits (λ place region is. there.hashes region (contained body.hashed place region is)) hash_said) [
      | inr collision ↦ inr collision
      | inl hashes ↦
          elim (entries_equal shape body.sorted body.sorted_count shown image fits there.sorted there.sorted_count sorted_said) [
            | inr collision ↦ inr collision
            | inl entries ↦
                inl (ap (λ (es : List StoredRow). es ++ oldest_first (map known_rows (map (hash_part shape shown) body.hashed))
                ++ oldest_first (map part_rows (map (log_part shape shown) (body.active ∷ body.frozen)))) entries
                ∙ ap (λ (ps : List Part). sorted_rows shape body.sorted body.sorted_count image ++ oldest_first (map known_rows ps)
                ++ oldest_first (map part_rows (map (log_part shape shown) (body.active ∷ body.frozen)))) hashes
                ∙ ap (λ (ps : List Part). sorted_rows shape body.sorted body.sorted_count image
                ++ oldest_first (map known_rows (map (hash_part shape image) body.hashed)) ++ oldest_first (map part_rows ps)) logs)
          ]
    ]

-- the logs have the same rows on the disk of the store and in the backup
same_logs : {D F : Type 0} (disk : Ghosts D F) (core : CoreState D) (regions bytes image : List ℕ) → IsTrue (disk.content core.disk).honest → HoldLogs disk core regions bytes
    → AreLogs core.shape regions bytes image → map (log_part core.shape (disk.content core.disk).shown) regions ≡ map (log_part core.shape image) regions
same_logs disk core [] bytes image honest hold are = refl
same_logs disk core (region ∷ regions) bytes image honest (own, holds) (copied, others) =
    let shown : List ℕ = (disk.content core.disk).shown in
    let at : ℕ = commits_at core.shape region in
    let len : ℕ = log_size core.shape in
    let same : slice_range shown at (at + len) ≡ slice_range image at (at + len) = sym (own.1 honest ∙ ap (λ n. slice_range shown at (at + n)) own.0) ∙ copied in
    let first : log_rows core.shape region shown ≡ log_rows core.shape region image = log_rows_equal core.shape region shown image same in
    let rest = same_logs disk core regions (drop len bytes) image honest holds others in
    ap (λ (rows : List StoredRow). record { region = region; rows = rows } ∷ map (log_part core.shape shown) regions) first
    ∙ ap (λ (parts : List Part). log_part core.shape image region ∷ parts) rest

pub backup_law : {D F : Type 0} (disk : Ghosts D F) → BackupLaw disk
unfolding image_map
backup_law disk core moment image is honest working backup =
    let shown : List ℕ = (disk.content core.disk).shown in
    let stores : Stores = backup.stores in
    let has = (stores_law image stores).0 backup.are in
    let whole = whole_law image stores backup.are in
    let shape_is : stores.shape ≡ core.shape = backup.shape ∙ is.shape in
    let body_is : stores.body ≡ core.body = backup.body ∙ is.named.0 in
    let stores_are : stores ≡ stores_named core.shape core.body image =
    has.named ∙ ap (λ (t : Shape). stores_named t stores.body image) shape_is ∙ ap (λ (b : Body). stores_named core.shape b image) body_is in
    let size : length image ≡ device_size core.shape = whole.size ∙ ap (λ (t : Shape). device_size t) shape_is in
    let sound : is_well_formed core.shape (core.body.generation % 2) core.body ≡ true =
    subst (λ (b : Body). is_well_formed core.shape (b.generation % 2) b ≡ true) body_is
    (subst (λ (t : Shape). is_well_formed t (stores.body.generation % 2) stores.body ≡ true) shape_is whole.sound) in
    let copied : AreDigestsOf (Some moment.digests) (stores_named core.shape core.body image) = subst (AreDigestsOf (Some moment.digests)) stores_are backup.digests in
    let base : map_of_rows (rows_of (stores_named core.shape core.body shown)) ≡ core.base = is.map working honest in
    let named : moment.body.active ∷ moment.body.frozen ≡ core.body.active ∷ core.body.frozen = ap (λ (b : Body). b.active ∷ b.frozen) is.named.0 in
    let own : HoldLogs disk core (core.body.active ∷ core.body.frozen) moment.logs.items = subst (λ (ids : List ℕ). HoldLogs disk core ids moment.logs.items) named is.logs in
    let other : AreLogs core.shape (core.body.active ∷ core.body.frozen) moment.logs.items image =
    subst (λ (ids : List ℕ). AreLogs core.shape ids moment.logs.items image) named
    (subst (λ (t : Shape). AreLogs t (moment.body.active ∷ moment.body.frozen) moment.logs.items image) is.shape backup.logs) in
    let logs = same_logs disk core (core.body.active ∷ core.body.frozen) moment.logs.items image honest own other in
    elim (same_rows core.shape core.body moment.digests shown image size sound (is.named.1 working honest) copied
    logs) [
      | inr collision ↦ inr collision
      | inl same ↦
          inl (ap map_of_rows (rows_law image stores backup.are ∙ ap rows_of stores_are) ∙ ap map_of_rows (sym same) ∙ base)
    ]
