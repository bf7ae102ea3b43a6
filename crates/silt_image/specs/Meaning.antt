-- The meaning of an image's stores, and the findings in them.
use Rattle.std.specs.Prelude.{◌≡◌, ℕ, ◌==◌, nat_lt, Bool, true, false, not, get_or, if◌then◌else◌, List, [], ◌∷◌, ◌++◌}
use Rattle.std.specs.Prelude.{map, take, drop, sum_by, length, flat_map, slice_get, Option, Some, None, Result, Ok, Err}
use Rattle.std.specs.List.{list_any, list_all, enumerate_from}
use Rattle.std.specs.Option.{ForSome}
use Rattle.std.specs.Str.{bytes_eq}
use Rattle.sha1.specs.Sha1.{sha1}
use Rattle.silt_disk.specs.Layout.{Shape}
use Rattle.silt_frame.specs.Rows.{StoredRow, entries_bytes, put_count, rows_bytes}
use Rattle.silt_manifest.specs.declared.body.Body.{Body}
use Rattle.silt_manifest.specs.declared.digests.Digests.{Digests}
use Rattle.silt_event.specs.Commands.{Map}
use Rattle.silt_disk.specs.Header.{shape_of}
use Rattle.silt_log.specs.Parts.{Part, part_rows, known_rows, oldest_first}
use Rattle.silt_image.specs.Stores.{Stores, image_digests, image_stores}
use Rattle.silt_event.specs.declared.damage.Finding.{Finding}
use Rattle.silt_event.specs.declared.damage.Finding.TheVariants.{Damaged, Crowded}
use Rattle.silt_event.specs.declared.place.Place.{Place}
use Rattle.silt_event.specs.declared.place.Place.TheVariants.{Charge, HashDigest, SortedDigest}
use Rattle.silt_event.specs.declared.report.Layout.{Layout}
use Rattle.silt_event.specs.declared.report.Layout.TheVariants.{One, Two}
use Rattle.silt_event.specs.declared.report.Report.{Report}
use Rattle.silt_event.specs.Findings.{finding_if}
use Rattle.silt_event.specs.Rows.{map_of_rows}
use Rattle.silt_log_store.specs.Findings.{fits_table, log_findings}
use Rattle.silt_hash_store.specs.Findings.{hash_findings}
use Rattle.silt_sorted_store.specs.Findings.{sorted_findings}

-- ---- the rows and their map

-- All rows of the stores, from the oldest: the sorted entries, the hash stores, the frozen logs, the active log.
unfoldable pub rows_of : Stores → List StoredRow
rows_of s = s.entries ++ oldest_first (map known_rows s.hashes) ++ oldest_first (map part_rows s.logs)

-- the number of puts among all rows of the stores
abbrev pub charge_of : Stores → ℕ
charge_of s = put_count (rows_of s)

-- ---- the digests of the stores

-- the digest of a hash store: that of the bytes of its slots
abbrev pub part_digest : Part → List ℕ
part_digest part = sha1 (rows_bytes part.rows)

-- the digest of the sorted store: that of the bytes of its entries
abbrev pub entries_digest : List StoredRow → List ℕ
entries_digest entries = sha1 (entries_bytes entries)

-- the manifest's digest of the hash store at this place, counted from the newest
abbrev pub said_hash : Option Digests → ℕ → Option (List ℕ)
said_hash None place = None
said_hash (Some said) place = Some (get_or said.hashed place (record { 0 = [] })).0

-- the manifest's digest of the sorted store
abbrev pub said_sorted : Option Digests → Option (List ℕ)
said_sorted None = None
said_sorted (Some said) = Some said.sorted.0

-- each digest in the manifest is that of its store
pub record AreDigestsOf (said : Option Digests) (s : Stores) : Type 0 where
  pub hashed : (place : ℕ) (part : Part) → slice_get s.hashes place ≡ Some part → ForSome (said_hash said place) (λ digest. digest ≡ part_digest part)
  pub sorted : ForSome (said_sorted said) (λ digest. digest ≡ entries_digest s.entries)

-- ---- the findings in the stores, in the order of the search

-- the manifest has a digest, and it is not this one
abbrev pub digest_findings : Place → Option (List ℕ) → List ℕ → List Finding
digest_findings place None digest = []
digest_findings place (Some said) digest = finding_if (not (bytes_eq said digest)) (Damaged place)

-- the findings in a hash store at its place, counted from the newest: in its slots, and then in its digest
abbrev pub said_hash_findings : Shape → Option Digests → ℕ × Part → List Finding
said_hash_findings shape said (place, part) = hash_findings shape part ++ digest_findings (HashDigest part.region) (said_hash said place) (part_digest part)

-- the findings in the sorted store: in its entries, and then in its digest
abbrev pub said_entry_findings : Option Digests → List StoredRow → List Finding
said_entry_findings said entries = sorted_findings entries ++ digest_findings SortedDigest (said_sorted said) (entries_digest entries)

-- more puts than the store may hold
abbrev pub charge_findings : Stores → List Finding
charge_findings s = finding_if (nat_lt s.shape.sorted_capacity (charge_of s)) (Damaged Charge)

-- All findings in the stores, with these digests in the manifest: in the logs from the active one on, in the hash stores from the
-- newest on, in the sorted store, and in the number of puts.
unfoldable pub store_findings : Option Digests → Stores → List Finding
store_findings said s =
    flat_map (log_findings s.shape) s.logs ++ flat_map (said_hash_findings s.shape said) (enumerate_from 0 s.hashes)
    ++ said_entry_findings said s.entries ++ charge_findings s

-- the stores have no finding, if the manifest has no digests
abbrev pub IsSound : Stores → Type 0
IsSound s = store_findings None s ≡ []

-- ---- the meaning of an image

-- the rows of the stores, and none if there are no stores
abbrev pub rows_found : Result Stores Finding → List StoredRow
rows_found (Ok s) = rows_of s
rows_found (Err finding) = []

-- all findings in stores with these digests in the manifest, or the one finding because of which there are no stores
abbrev pub findings_of : Option Digests → Result Stores Finding → List Finding
findings_of said (Ok s) = store_findings said s
findings_of said (Err finding) = finding ∷ []

-- whether a finding says that keys have no places
abbrev pub is_crowding : Finding → Bool
is_crowding Crowded = true
is_crowding _ = false

-- the map of the stores; none if there is a finding other than crowding
abbrev pub map_where_sound : Option Digests → Result Stores Finding → Option Map
map_where_sound said (Ok s) = if list_all is_crowding (store_findings said s) then Some (map_of_rows (rows_of s)) else None
map_where_sound said (Err finding) = None

-- the keys of each log have places in a table
abbrev pub all_logs_fit : Result Stores Finding → Bool
all_logs_fit (Ok s) = list_all (λ part. fits_table s.shape part.rows) s.logs
all_logs_fit (Err finding) = false

-- all rows of an image, from the oldest
unfoldable pub image_rows : List ℕ → List StoredRow
image_rows image = rows_found (image_stores image)

-- the map of an image: that of its rows
unfoldable pub image_map : List ℕ → Map
image_map image = map_of_rows (image_rows image)

-- the number of put rows of an image
unfoldable pub image_charge : List ℕ → ℕ
image_charge image = put_count (image_rows image)

-- the first finding in an image; none if it is good
unfoldable pub image_verdict : List ℕ → Option Finding
image_verdict image = slice_get (findings_of (image_digests image) (image_stores image)) 0

-- the map that an image represents; none if there is a finding other than crowding
unfoldable pub image_stands : List ℕ → Option Map
image_stands image = map_where_sound (image_digests image) (image_stores image)

-- the keys of each log of an image have places in a table
unfoldable pub image_fits : List ℕ → Bool
image_fits image = all_logs_fit (image_stores image)

-- an image without a finding
abbrev pub IsGood : List ℕ → Type 0
IsGood image = image_verdict image ≡ None

-- a good image of this shape represents this map
pub record StandsFor (shape : Shape) (map : Map) (image : List ℕ) : Type 0 where
  pub good : IsGood image
  pub has_shape : shape_of image ≡ shape
  pub has_map : image_map image ≡ map

-- ---- the numbers of stores

-- the number of rows of some stores
abbrev pub row_count : List Part → ℕ
row_count parts = sum_by (λ part. length part.rows) parts

-- the layout of a manifest with these digests
abbrev pub layout_of : Option Digests → Layout
layout_of None = One
layout_of (Some said) = Two

-- the numbers of the stores: all rows of logs, and of a hash store the puts and deletes; and whether the manifest has digests
abbrev pub report_of : Option Digests → Stores → Report
report_of said s = record {
  generation = s.body.generation;
  active = s.body.active;
  active_rows = row_count (take 1 s.logs);
  frozen = length s.body.frozen;
  frozen_rows = row_count (drop 1 s.logs);
  hashes = length s.body.hashed;
  hash_rows = sum_by (λ part. length (known_rows part)) s.hashes;
  entries = s.body.sorted_count;
  charge = charge_of s;
  layout = layout_of said;
}

-- ---- stores with other rows

-- a store with these rows, if it has this region
abbrev pub with_part_rows : ℕ → List StoredRow → Part → Part
with_part_rows region rows part = if part.region == region then record part { rows = rows } else part

-- the log of this region, if it is named, with these rows in place of its own
unfoldable pub with_log_rows : ℕ → List StoredRow → Stores → Stores
with_log_rows region rows s = record s { logs = map (with_part_rows region rows) s.logs }

-- the stores under the next body: a new active log without rows comes before the others
unfoldable pub with_new_log : Body → Stores → Stores
with_new_log body s = record s { body = body; logs = record { region = body.active; rows = [] } ∷ s.logs }

-- one of the stores' logs has this region
abbrev pub names_log : Stores → ℕ → Bool
names_log s region = list_any (λ part. part.region == region) s.logs

-- the first log of the stores is the active one, with these rows, and no other has its region
pub record HasActive (rows : List StoredRow) (s : Stores) : Type 0 where
  pub frozen : List Part
  pub logs : s.logs ≡ record { region = s.body.active; rows = rows } ∷ frozen
  pub apart : list_any (λ part. part.region == s.body.active) frozen ≡ false
