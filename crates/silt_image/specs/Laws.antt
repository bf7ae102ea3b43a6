-- Laws of images, for the crates above.
use Rattle.std.specs.Prelude.{◌≡◌, ◌≢◌, ◌≤◌, ◌<◌, ◌↔◌, ℕ, ◌+◌, ◌%◌, ◌==◌, true, false, IsTrue, IsSome, List, [], ◌∷◌, ◌++◌, length, take, flat_map, get_or, slice_get, Contains, Option, Some, Ok, Err}
use Rattle.std.specs.List.{list_any, list_all, enumerate_from}
use Rattle.std.specs.FinMap.{empty}
use Rattle.silt_disk.specs.Disk.{Torn}
use Rattle.silt_disk.specs.Layout.{Shape, InLimits, device_size, slot_at, commits_at, hash_at, sorted_at, log_size, hash_size, sorted_size, sector}
use Rattle.silt_log.specs.Rows.{log_rows}
use Rattle.silt_frame.specs.Rows.{StoredRow, has_known_kind}
use Rattle.silt_manifest.specs.Body.{first_body, is_well_formed}
use Rattle.silt_manifest.specs.Digests.{long_record}
use Rattle.silt_manifest.specs.Current.{manifest_found, open_record}
use Rattle.silt_manifest.specs.declared.body.Body.{Body}
use Rattle.silt_manifest.specs.declared.digests.Digests.{Digests}
use Rattle.silt_manifest.specs.declared.slot.SlotRecord.{SlotRecord}
use Rattle.silt_disk.specs.Header.{FitsHeader, IsHeader, header_bytes, header_of, header_shape, is_in_limits, shape_of}
use Rattle.silt_log.specs.Parts.{Part}
use Rattle.silt_image.specs.Stores.{Stores, image_digests, image_stores, shape_found, stores_named}
use Rattle.silt_image.specs.Meaning.{AreDigestsOf, HasActive, IsGood, IsSound, StandsFor, charge_of, entries_digest, image_charge, image_fits, image_map}
use Rattle.silt_image.specs.Meaning.{image_rows, image_stands, image_verdict, names_log, rows_of, said_entry_findings, said_hash_findings, store_findings}
use Rattle.silt_image.specs.Meaning.{with_log_rows, with_new_log}
use Rattle.silt_event.specs.Rows.{map_of_rows}
use Rattle.silt_log_store.specs.Findings.{fits_table, log_findings, row_findings}
use Rattle.silt_hash_store.specs.Findings.{hash_findings}
use Rattle.silt_sorted_store.specs.Findings.{sorted_findings}
use Rattle.silt_event.specs.declared.damage.Finding.{Finding}
use Rattle.silt_event.specs.declared.damage.Finding.TheVariants.{Damaged}
use Rattle.silt_event.specs.declared.place.Place.TheVariants.{Charge}
use Rattle.silt_frame.specs.Commit.{commit_open}

-- ---- the header

-- a header reads back as it was written, whether its commit byte is open or not
abbrev pub HeaderLaw : Type 0
HeaderLaw = (shape : Shape) (commit : ℕ) (rest : List ℕ) → FitsHeader shape → header_shape (commit ∷ header_bytes shape ++ rest) ≡ shape

-- the test of the limits decides them
abbrev pub LimitsLaw : Type 0
LimitsLaw = (shape : Shape) → IsTrue (is_in_limits shape) ↔ InLimits shape

-- a device of the length that its header's numbers give, with an open commit byte, has this shape
abbrev pub FormattedLaw : Type 0
FormattedLaw = (shape : Shape) → InLimits shape → shape_found (device_size shape) (commit_open ∷ header_bytes shape) ≡ Ok shape

-- ---- the stores of an image

-- the image has these stores: its shape and its current body are theirs, with any digests, and the body names them
pub record HasStores (s : Stores) (image : List ℕ) : Type 0 where
  pub shape : shape_found (length image) (header_of image) ≡ Ok s.shape
  pub digests : Option Digests
  pub current : manifest_found s.shape image ≡ Ok (record { body = s.body; digests = digests })
  pub named : s ≡ stores_named s.shape s.body image

-- an image has these stores exactly if its shape and its current body are theirs, and the regions that the body names have their rows
abbrev pub StoresLaw : Type 0
StoresLaw = (image : List ℕ) (s : Stores) → (image_stores image ≡ Ok s) ↔ HasStores s image

-- every image with these stores has: a header within the limits, its length, a well-formed body, and an active log apart from the others
pub record IsWhole (s : Stores) (image : List ℕ) : Type 0 where
  pub header : IsHeader (header_of image)
  pub has_shape : shape_of image ≡ s.shape
  pub limits : InLimits s.shape
  pub size : length image ≡ device_size s.shape
  pub sound : is_well_formed s.shape (s.body.generation % 2) s.body ≡ true
  pub active : HasActive (log_rows s.shape s.body.active image) s
  pub names : (region : ℕ) → names_log s region ≡ list_any (λ id. id == region) (s.body.active ∷ s.body.frozen)

-- an image with stores is whole
abbrev pub WholeLaw : Type 0
WholeLaw = (image : List ℕ) (s : Stores) → image_stores image ≡ Ok s → IsWhole s image

-- the digests of an image with stores are those after the current body
abbrev pub DigestsLaw : Type 0
DigestsLaw =
    (image : List ℕ) (s : Stores) (found : SlotRecord) → image_stores image ≡ Ok s → manifest_found s.shape image ≡ Ok found
    → image_digests image ≡ found.digests

-- ---- the meaningful bytes

-- both images have the same bytes in this range
pub record SameWithin (at count : ℕ) (before after : List ℕ) : Type 0 where
  pub same : (place : ℕ) → at ≤ place → place < at + count → get_or after place 0 ≡ get_or before place 0

-- both images have the same bytes in each region that the body names
pub record SameRegions (shape : Shape) (body : Body) (before after : List ℕ) : Type 0 where
  pub logs : (region : ℕ) → Contains (body.active ∷ body.frozen) region → SameWithin (commits_at shape region) (log_size shape) before after
  pub hashes : (region : ℕ) → Contains body.hashed region → SameWithin (hash_at shape region) (hash_size shape) before after
  pub sorted : SameWithin (sorted_at shape body.sorted) (sorted_size shape) before after

-- two images of one length agree on the header, on the slots if they are open, and on each region that the current body names
pub record Agree (before after : List ℕ) : Type 0 where
  pub size : length after ≡ length before
  pub header : header_of after ≡ header_of before
  pub first_slot : open_record after 0 ≡ open_record before 0
  pub second_slot : open_record after 1 ≡ open_record before 1
  pub regions : (s : Stores) → image_stores before ≡ Ok s → SameRegions s.shape s.body before after

-- two images have the same meaning
pub record SameMeaning (before after : List ℕ) : Type 0 where
  pub verdict : image_verdict after ≡ image_verdict before
  pub stands : image_stands after ≡ image_stands before
  pub fits : image_fits after ≡ image_fits before
  pub rows : image_rows after ≡ image_rows before
  pub map : image_map after ≡ image_map before
  pub charge : image_charge after ≡ image_charge before

-- images that agree on all meaningful bytes have the same stores and the same digests in their manifests
abbrev pub FrameLaw : Type 0
FrameLaw = (before after : List ℕ) → Agree before after → (image_stores after ≡ image_stores before) × (image_digests after ≡ image_digests before)

-- images with the same stores and the same digests in their manifests have the same meaning
abbrev pub MeaningLaw : Type 0
MeaningLaw = (before after : List ℕ) → image_stores after ≡ image_stores before → image_digests after ≡ image_digests before → SameMeaning before after

-- a change in a log region changes only the rows of that log, and nothing if no log has the region
abbrev pub LogRegionLaw : Type 0
LogRegionLaw =
    (before after : List ℕ) (s : Stores) (region : ℕ) → image_stores before ≡ Ok s → region < s.shape.logs
    → Torn (commits_at s.shape region) (log_size s.shape) before after → image_stores after ≡ Ok (with_log_rows region (log_rows s.shape region after) s)

-- the rows of a log that is not named do not matter
abbrev pub UnnamedLaw : Type 0
UnnamedLaw = (s : Stores) (region : ℕ) (rows : List StoredRow) → names_log s region ≡ false → with_log_rows region rows s ≡ s

-- a change in a hash region that the body does not name changes nothing
abbrev pub FreeHashLaw : Type 0
FreeHashLaw =
    (before after : List ℕ) (s : Stores) (region : ℕ) → image_stores before ≡ Ok s → region < s.shape.hashes
    → list_any (λ id. id == region) s.body.hashed ≡ false → Torn (hash_at s.shape region) (hash_size s.shape) before after → image_stores after ≡ Ok s

-- nor does one in the sorted region that the body does not name
abbrev pub FreeSortedLaw : Type 0
FreeSortedLaw =
    (before after : List ℕ) (s : Stores) (region : ℕ) → image_stores before ≡ Ok s → region < 2 → region ≢ s.body.sorted
    → Torn (sorted_at s.shape region) (sorted_size s.shape) before after → image_stores after ≡ Ok s

-- after a change in a manifest slot the stores are those that the new current body names
abbrev pub ManifestLaw : Type 0
ManifestLaw =
    (before after : List ℕ) (s : Stores) (slot : ℕ) (found : SlotRecord) → image_stores before ≡ Ok s → slot < 2 → Torn (slot_at slot) sector before after
    → manifest_found s.shape after ≡ Ok found → image_stores after ≡ Ok (stores_named s.shape found.body before)

-- a body freezes the active log of another: it has a new active log, and the old one is the newest frozen one
pub record FreezesActive (old new : Body) : Type 0 where
  pub frozen : new.frozen ≡ old.active ∷ old.frozen
  pub hashed : new.hashed ≡ old.hashed
  pub sorted : new.sorted ≡ old.sorted
  pub sorted_count : new.sorted_count ≡ old.sorted_count

-- a body that freezes the active log, and has an empty one in its place, names the stores with a new log in front
abbrev pub FreezeLaw : Type 0
FreezeLaw =
    (image : List ℕ) (s : Stores) (next : Body) → image_stores image ≡ Ok s → FreezesActive s.body next → log_rows s.shape next.active image ≡ []
    → stores_named s.shape next image ≡ with_new_log next s

-- ---- when there is no finding

-- no finding in the logs, the hash stores and the entries, and at most as many puts as the store may hold
pub record FindsNothing (s : Stores) : Type 0 where
  pub logs : flat_map (log_findings s.shape) s.logs ≡ []
  pub hashes : flat_map (hash_findings s.shape) s.hashes ≡ []
  pub entries : sorted_findings s.entries ≡ []
  pub charge : charge_of s ≤ s.shape.sorted_capacity

-- there is no finding exactly if no part has one
abbrev pub PartsLaw : Type 0
PartsLaw = (s : Stores) → IsSound s ↔ FindsNothing s

-- if there is no finding, there is none after the last rows of a log are dropped
abbrev pub BeginningLaw : Type 0
BeginningLaw =
    (s : Stores) (region n : ℕ) (rows more : List StoredRow) → IsSound (with_log_rows region (rows ++ more) s)
    → IsSound (with_log_rows region (rows ++ take n more) s)

-- if there is no finding, there is none with one more row of a log, of a known kind, that fits into its table and the capacity
abbrev pub TakenLaw : Type 0
TakenLaw =
    (s : Stores) (region : ℕ) (rows : List StoredRow) (row : StoredRow) → IsSound (with_log_rows region rows s) → has_known_kind row ≡ true
    → IsTrue (fits_table s.shape (rows ++ row ∷ [])) → charge_of (with_log_rows region (rows ++ row ∷ []) s) ≤ s.shape.sorted_capacity
    → IsSound (with_log_rows region (rows ++ row ∷ []) s)

-- if there is no finding, there is none with a new log
abbrev pub FrozenLaw : Type 0
FrozenLaw = (s : Stores) (next : Body) → IsSound s → IsSound (with_new_log next s)

-- if there is no finding, there are at most as many puts as the store may hold
abbrev pub ChargeLaw : Type 0
ChargeLaw = (s : Stores) → IsSound s → charge_of s ≤ s.shape.sorted_capacity

-- ---- the rows

-- rows at the end of the active log are the last of all rows
abbrev pub AppendLaw : Type 0
AppendLaw = (s : Stores) (rows more : List StoredRow) → HasActive rows s → rows_of (with_log_rows s.body.active (rows ++ more) s) ≡ rows_of s ++ more

-- a new log has no rows
abbrev pub NewLogLaw : Type 0
NewLogLaw = (s : Stores) (next : Body) → rows_of (with_new_log next s) ≡ rows_of s

-- a log whose rows are replaced by its own is unchanged
abbrev pub OwnRowsLaw : Type 0
OwnRowsLaw = (s : Stores) (rows : List StoredRow) → HasActive rows s → with_log_rows s.body.active rows s ≡ s

-- if the rows of a log are replaced twice, the last ones stay
abbrev pub AgainLaw : Type 0
AgainLaw = (s : Stores) (region : ℕ) (rows other : List StoredRow) → with_log_rows region other (with_log_rows region rows s) ≡ with_log_rows region other s

-- a new log in a region that no log has is the active one
abbrev pub NewActiveLaw : Type 0
NewActiveLaw = (s : Stores) (next : Body) → names_log s next.active ≡ false → HasActive [] (with_new_log next s)

-- ---- the verdict

-- an image is good exactly if it represents a map and the keys of its logs have places
abbrev pub VerdictLaw : Type 0
VerdictLaw = (image : List ℕ) → IsGood image ↔ (IsSome (image_stands image) × IsTrue (image_fits image))

-- stores whose digests the manifest gives have no finding exactly if they are sound and the digests are theirs
abbrev pub SaidLaw : Type 0
SaidLaw = (said : Option Digests) (s : Stores) → (store_findings said s ≡ []) ↔ (IsSound s × AreDigestsOf said s)

-- an image with stores is good exactly if they have no finding and the digests in its manifest are theirs
abbrev pub SoundLaw : Type 0
SoundLaw = (image : List ℕ) (s : Stores) → image_stores image ≡ Ok s → IsGood image ↔ (IsSound s × AreDigestsOf (image_digests image) s)

-- an image with sound stores, and with their digests, represents the map of their rows
abbrev pub StandsLaw : Type 0
StandsLaw =
    (image : List ℕ) (s : Stores) → image_stores image ≡ Ok s → IsSound s → AreDigestsOf (image_digests image) s
    → StandsFor s.shape (map_of_rows (rows_of s)) image

-- the rows of an image with stores are theirs
abbrev pub RowsLaw : Type 0
RowsLaw = (image : List ℕ) (s : Stores) → image_stores image ≡ Ok s → image_rows image ≡ rows_of s

-- a newly formatted device represents the empty map: its digest of the sorted store is that of no entries
abbrev pub EmptyLaw : Type 0
EmptyLaw =
    (image : List ℕ) (shape : Shape) (digests : Digests) → shape_found (length image) (header_of image) ≡ Ok shape
    → manifest_found shape image ≡ Ok (long_record first_body digests) → digests.sorted.0 ≡ entries_digest []
    → log_rows shape 0 image ≡ [] → StandsFor shape empty image

-- ---- the search

-- a row of a log is the first with a finding: the rows before it are of known kinds and have places
pub record FirstFinding (shape : Shape) (part : Part) (place : ℕ) (row : StoredRow) (finding : Finding) : Type 0 where
  pub there : slice_get part.rows place ≡ Some row
  pub known : list_all has_known_kind (take place part.rows) ≡ true
  pub fits : IsTrue (fits_table shape (take place part.rows))
  pub first : slice_get (row_findings shape part (place, row)) 0 ≡ Some finding

-- the first finding in the first log that has one is the verdict
abbrev pub FirstFindingLaw : Type 0
FirstFindingLaw =
    (image : List ℕ) (s : Stores) (before after : List Part) (part : Part) (place : ℕ) (row : StoredRow) (finding : Finding) → image_stores image ≡ Ok s
    → s.logs ≡ before ++ part ∷ after → flat_map (log_findings s.shape) before ≡ [] → FirstFinding s.shape part place row finding
    → image_verdict image ≡ Some finding

-- some hash stores, from the newest, have no finding, and the digests in the manifest are theirs
abbrev pub AreSoundParts : Shape → Option Digests → List Part → Type 0
AreSoundParts shape said parts = flat_map (said_hash_findings shape said) (enumerate_from 0 parts) ≡ []

-- so is the one in the first hash store that has one, if the logs have none
abbrev pub FirstSlotLaw : Type 0
FirstSlotLaw =
    (image : List ℕ) (s : Stores) (before after : List Part) (part : Part) (finding : Finding) → image_stores image ≡ Ok s
    → flat_map (log_findings s.shape) s.logs ≡ [] → s.hashes ≡ before ++ part ∷ after → AreSoundParts s.shape (image_digests image) before
    → slice_get (said_hash_findings s.shape (image_digests image) (length before, part)) 0 ≡ Some finding → image_verdict image ≡ Some finding

-- so is the one in the sorted store, if the logs and the hash stores have none
abbrev pub FirstEntryLaw : Type 0
FirstEntryLaw =
    (image : List ℕ) (s : Stores) (finding : Finding) → image_stores image ≡ Ok s → flat_map (log_findings s.shape) s.logs ≡ []
    → AreSoundParts s.shape (image_digests image) s.hashes → slice_get (said_entry_findings (image_digests image) s.entries) 0 ≡ Some finding
    → image_verdict image ≡ Some finding

-- stores with logs alone, which have no finding, have none exactly if there are at most as many puts as the store may hold
abbrev pub LogsSoundLaw : Type 0
LogsSoundLaw =
    (s : Stores) → flat_map (log_findings s.shape) s.logs ≡ [] → s.hashes ≡ [] → s.entries ≡ [] → IsSound s ↔ (charge_of s ≤ s.shape.sorted_capacity)

-- if there is no other finding, and there are more puts than the store may hold, that is the verdict
abbrev pub ChargeFoundLaw : Type 0
ChargeFoundLaw =
    (image : List ℕ) (s : Stores) → image_stores image ≡ Ok s → flat_map (log_findings s.shape) s.logs ≡ []
    → AreSoundParts s.shape (image_digests image) s.hashes → said_entry_findings (image_digests image) s.entries ≡ []
    → s.shape.sorted_capacity < charge_of s → image_verdict image ≡ Some (Damaged Charge)

-- if an image has no stores because of a finding, that finding is its verdict
abbrev pub NoStoresLaw : Type 0
NoStoresLaw = (image : List ℕ) (finding : Finding) → image_stores image ≡ Err finding → image_verdict image ≡ Some finding
