-- Worked images, by computation.
use Rattle.std.specs.Prelude.{◌≡◌, ℕ, ◌-◌, ◌*◌, List, [], ◌∷◌, ◌++◌, map, replicate, length, take, refl, Option, Some, None, Result, Ok, Err}
use Rattle.silt_disk.specs.Layout.{Shape}
use Rattle.silt_log.specs.Rows.{log_rows, open_count, row_at, rows_from}
use Rattle.silt_frame.specs.Rows.{StoredRow}
use Rattle.byteorder.specs.Endian.{big_bytes}
use Rattle.silt_frame.specs.declared.digest.Digest.{Digest}
use Rattle.silt_manifest.specs.Body.{first_body}
use Rattle.silt_manifest.specs.Digests.{long_record, record_bytes}
use Rattle.silt_manifest.specs.Numbers.{ids_bytes}
use Rattle.silt_manifest.specs.Current.{open_record, record_behind, record_found}
use Rattle.silt_manifest.specs.declared.body.Body.{Body}
use Rattle.silt_manifest.specs.declared.digests.Digests.{Digests}
use Rattle.silt_cuckoo.specs.Index.{added, indexed}
use Rattle.silt_cuckoo.specs.Placing.{free_slot, moved_along, path_for, placed, put_along, shortest_walk, turns, victim}
use Rattle.silt_disk.specs.Header.{header_bytes, magic}
use Rattle.silt_image.specs.Stores.{Stores, image_digests, image_stores, shape_found, stores_named}
use Rattle.silt_hash_store.specs.Slots.{hash_rows}
use Rattle.silt_sorted_store.specs.State.{sorted_rows}
use Rattle.silt_log_store.specs.Findings.{fits_table, log_findings}
use Rattle.silt_hash_store.specs.Findings.{hash_findings}
use Rattle.silt_image.specs.Meaning.{image_rows, image_verdict, report_of, rows_of, store_findings}
use Rattle.silt_sorted_store.specs.Findings.{sorted_findings}
use Rattle.silt_event.specs.Rows.{newest_row}
use Rattle.silt_event.specs.declared.damage.Finding.{Finding}
use Rattle.silt_event.specs.declared.damage.Finding.TheVariants.{NotFormatted, Damaged, Crowded}
use Rattle.silt_event.specs.declared.place.Place.TheVariants.{Hash, Length, Log, Slot, Sorted}
use Rattle.silt_event.specs.declared.report.Layout.TheVariants.{One}
use Rattle.silt_event.specs.declared.report.Report.{Report}

-- ---- one small shape

small : Shape
small = record { value_len = 2; buckets = 2; log_capacity = 4; logs = 2; hashes = 2; sorted_capacity = 8 }

-- its header
header_row : 0xA7 ∷ header_bytes small ≡ 0xa7 ∷ 0x53 ∷ 0x49 ∷ 0x4c ∷ 0x54 ∷ 0x46 ∷ 0x4c ∷ 0x53 ∷ 0x48 ∷ 0 ∷ 0 ∷ 0 ∷ 2 ∷ 0 ∷ 0 ∷ 0 ∷ 2 ∷ 0 ∷ 0 ∷ 0 ∷ 2
    ∷ 0 ∷ 0 ∷ 0 ∷ 4 ∷ 0 ∷ 0 ∷ 0 ∷ 2 ∷ 0 ∷ 0 ∷ 0 ∷ 2 ∷ 0 ∷ 0 ∷ 0 ∷ 8 ∷ []
unfolding small
header_row = refl

-- some sectors that begin with these bytes
sector : ℕ → List ℕ → List ℕ
sector n bytes = bytes ++ replicate (n * 4096 - length bytes) 0

-- the header of a device that was formatted before there were digests: that of version 1
old_header : Shape → List ℕ
old_header s =
    magic ++ big_bytes 4 1 ++ big_bytes 4 s.value_len ++ big_bytes 4 s.buckets ++ big_bytes 4 s.log_capacity
    ++ big_bytes 4 s.logs ++ big_bytes 4 s.hashes ++ big_bytes 4 s.sorted_capacity

-- the bytes of a body behind which there are no digests
short_bytes : Body → List ℕ
short_bytes b =
    big_bytes 8 b.generation ++ big_bytes 4 b.active ++ ids_bytes 7 b.frozen ++ ids_bytes 16 b.hashed ++ big_bytes 4 b.sorted ++ big_bytes 4 b.sorted_count

-- such a device: its two slots, the commit bytes and bodies of log 0, hash region 0 and sorted region 0; the rest zeros
device : List ℕ → List ℕ → List ℕ → List ℕ → List ℕ → List ℕ → List ℕ
device slot0 slot1 commits bodies slots entries =
    sector 1 (0xA7 ∷ old_header small) ++ sector 1 slot0 ++ sector 1 slot1 ++ sector 1 commits ++ sector 1 bodies ++ sector 2 [] ++ sector 1 slots ++ sector 1
    [] ++ sector 1 entries ++ sector 1 []

formatted : List ℕ
formatted = device (0xA7 ∷ short_bytes first_body) [] [] [] [] []

formatted_is_good : image_verdict formatted ≡ None
unfolding image_verdict image_digests image_stores shape_found record_found record_behind stores_named log_rows rows_from row_at open_count
    hash_rows sorted_rows store_findings log_findings hash_findings sorted_findings rows_of fits_table added indexed lib.Count.ones formatted device sector small old_header short_bytes
formatted_is_good = refl

formatted_has_no_rows : image_rows formatted ≡ []
unfolding image_rows image_stores shape_found record_found record_behind stores_named log_rows rows_from row_at open_count hash_rows
    sorted_rows rows_of lib.Count.ones formatted device sector small old_header short_bytes
formatted_has_no_rows = refl

-- a key of 20 bytes
abc : List ℕ
abc = 0xa9 ∷ 0x99 ∷ 0x3e ∷ 0x36 ∷ 0x47 ∷ 0x06 ∷ 0x81 ∷ 0x6a ∷ 0xba ∷ 0x3e ∷ 0x25 ∷ 0x71 ∷ 0x78 ∷ 0x50 ∷ 0xc2 ∷ 0x6c ∷ 0x9c ∷ 0xd0 ∷ 0xd8 ∷ 0x9d ∷ []

-- one put that was flushed
one_put : List ℕ
one_put = device (0xA7 ∷ short_bytes first_body) [] (0xA7 ∷ []) (1 ∷ abc ++ 1 ∷ 2 ∷ []) [] []

one_put_is_good : image_verdict one_put ≡ None
unfolding image_verdict image_digests image_stores shape_found record_found record_behind stores_named log_rows rows_from row_at open_count
    hash_rows sorted_rows store_findings log_findings hash_findings sorted_findings rows_of fits_table added indexed placed path_for
    put_along moved_along free_slot lib.Count.ones one_put abc device sector small old_header short_bytes
one_put_is_good = refl

one_put_row : image_rows one_put ≡ record { kind = 1; key = abc; value = 1 ∷ 2 ∷ [] } ∷ []
unfolding image_rows image_stores shape_found record_found record_behind stores_named log_rows rows_from row_at open_count hash_rows
    sorted_rows rows_of lib.Count.ones one_put abc device sector small old_header short_bytes
one_put_row = refl

-- ---- what is found

-- one byte short
short_image : image_verdict (take 45055 formatted) ≡ Some (Damaged Length)
unfolding image_verdict image_stores shape_found formatted device sector small lib.Count.ones old_header short_bytes
short_image = refl

zero_image : image_verdict (sector 11 []) ≡ Some NotFormatted
unfolding image_verdict image_stores shape_found sector lib.Count.ones
zero_image = refl

-- slot 1 open with generation 0
wrong_slot : image_verdict (device (0xA7 ∷ short_bytes first_body) (0xA7 ∷ short_bytes first_body) [] [] [] []) ≡ Some (Damaged (Slot 1))
unfolding image_verdict image_digests image_stores shape_found record_found record_behind device sector small lib.Count.ones old_header short_bytes
wrong_slot = refl

unknown_kind : image_verdict (device (0xA7 ∷ short_bytes first_body) [] (0xA7 ∷ []) (3 ∷ []) [] []) ≡ Some (Damaged (Log 0 0))
unfolding image_verdict image_digests image_stores shape_found record_found record_behind stores_named log_rows rows_from row_at open_count
    hash_rows sorted_rows store_findings log_findings hash_findings sorted_findings rows_of fits_table added indexed placed path_for
    put_along moved_along free_slot lib.Count.ones device sector small old_header short_bytes
unknown_kind = refl

-- a body that names a hash store and two sorted entries
all_named : Body
all_named = record first_body { hashed = 0 ∷ []; sorted_count = 2 }

equal_entries : image_verdict (device (0xA7 ∷ short_bytes all_named) [] [] [] [] (replicate 44 1)) ≡ Some (Damaged (Sorted 1))
unfolding image_verdict image_digests image_stores shape_found record_found record_behind stores_named log_rows rows_from row_at open_count
    hash_rows sorted_rows store_findings log_findings hash_findings sorted_findings rows_of fits_table added indexed lib.Count.ones all_named device sector small old_header short_bytes
equal_entries = refl

-- the bytes of a row of this kind, whose key begins with this byte
body : ℕ → ℕ → ℕ → List ℕ
body kind first value = kind ∷ first ∷ replicate 19 0 ++ 0 ∷ value ∷ []

-- the row itself
row : ℕ → ℕ → ℕ → StoredRow
row kind first value = record { kind = kind; key = first ∷ replicate 19 0; value = 0 ∷ value ∷ [] }

-- an empty slot
empty_slot : List ℕ
empty_slot = replicate 23 0

-- a row in a bucket that its key does not have: the keys here have buckets 0 and 0
wrong_bucket : image_verdict (device (0xA7 ∷ short_bytes all_named) [] [] [] (empty_slot ++ empty_slot ++ empty_slot ++ empty_slot ++ body 1 1 7) []) ≡ Some (Damaged (Hash 0 4))
unfolding image_verdict image_digests image_stores shape_found record_found record_behind stores_named log_rows rows_from row_at open_count
    hash_rows sorted_rows store_findings log_findings hash_findings sorted_findings rows_of fits_table added indexed lib.Count.ones all_named device sector small body empty_slot old_header short_bytes
wrong_bucket = refl

-- a key in two slots
key_twice : image_verdict (device (0xA7 ∷ short_bytes all_named) [] [] [] (empty_slot ++ body 1 1 7 ++ empty_slot ++ body 2 1 7) []) ≡ Some (Damaged (Hash 0 3))
unfolding image_verdict image_digests image_stores shape_found record_found record_behind stores_named log_rows rows_from row_at open_count
    hash_rows sorted_rows store_findings log_findings hash_findings sorted_findings rows_of fits_table added indexed lib.Count.ones all_named device sector small body empty_slot old_header short_bytes
key_twice = refl

-- ---- the rows of all stores

-- two entries, a hash store with two rows, and a log with two
full : List ℕ
full = device (0xA7 ∷ short_bytes all_named) [] (0xA7 ∷ 0xA7 ∷ []) (body 1 1 5 ++ body 2 2 0) (empty_slot ++ body 2 1 0 ++ empty_slot ++ body 1 3 4)
    ((1 ∷ replicate 19 0 ++ 0 ∷ 1 ∷ []) ++ 2 ∷ replicate 19 0 ++ 0 ∷ 2 ∷ [])

full_rows : image_rows full ≡ row 1 1 1 ∷ row 1 2 2 ∷ row 2 1 0 ∷ row 1 3 4 ∷ row 1 1 5 ∷ row 2 2 0 ∷ []
unfolding image_rows image_stores shape_found record_found record_behind stores_named log_rows rows_from row_at open_count hash_rows
    sorted_rows rows_of lib.Count.ones full all_named device sector small body row empty_slot old_header short_bytes
full_rows = refl

full_is_good : image_verdict full ≡ None
unfolding image_verdict image_digests image_stores shape_found record_found record_behind stores_named log_rows rows_from row_at open_count
    hash_rows sorted_rows store_findings log_findings hash_findings sorted_findings rows_of fits_table added indexed placed path_for
    put_along moved_along free_slot lib.Count.ones full all_named device sector small body row empty_slot old_header short_bytes
full_is_good = refl

-- the last row of a key decides
newest_wins : newest_row (image_rows full) (1 ∷ replicate 19 0) ≡ Some (row 1 1 5)
unfolding image_rows image_stores shape_found record_found record_behind stores_named log_rows rows_from row_at open_count hash_rows
    sorted_rows rows_of lib.Count.ones full all_named device sector small body row empty_slot old_header short_bytes
newest_wins = refl

-- ---- a frozen log

-- a log of eight rows
wide : Shape
wide = record { value_len = 2; buckets = 2; log_capacity = 8; logs = 2; hashes = 2; sorted_capacity = 16 }

one_frozen : Body
one_frozen = record { generation = 1; active = 1; frozen = 0 ∷ []; hashed = []; sorted = 0; sorted_count = 0 }

-- rows of this kind, of the keys that begin with these bytes
bodies : ℕ → List ℕ → List ℕ
bodies kind [] = []
bodies kind (first ∷ rest) = body kind first first ++ bodies kind rest

frozen_device : ℕ → List ℕ → List ℕ → List ℕ
frozen_device kind first second =
    sector 1 (0xA7 ∷ old_header wide) ++ sector 1 [] ++ sector 1 (0xA7 ∷ short_bytes one_frozen)
    ++ sector 1 (map (λ k. 0xA7) first) ++ sector 1 (bodies 1 first) ++ sector 1 (map (λ k. 0xA7) second) ++ sector 1 (bodies kind second) ++ sector 4 []

-- the rows of the frozen log are older
frozen_rows : image_rows (frozen_device 2 (1 ∷ 2 ∷ []) (1 ∷ [])) ≡ row 1 1 1 ∷ row 1 2 2 ∷ row 2 1 1 ∷ []
unfolding image_rows image_stores shape_found record_found record_behind stores_named log_rows rows_from row_at open_count hash_rows
    sorted_rows rows_of lib.Count.ones frozen_device one_frozen wide sector bodies body row old_header short_bytes
frozen_rows = refl

-- the numbers of an image
reported : Result Stores Finding → Option Report
reported (Ok s) = Some (report_of None s)
reported (Err finding) = None

-- five keys of one bucket in two logs
frozen_report : reported (image_stores (frozen_device 1 (1 ∷ 2 ∷ 3 ∷ 4 ∷ []) (5 ∷ [])))
    ≡ Some (record { generation = 1; active = 1; active_rows = 1; frozen = 1; frozen_rows = 4; hashes = 0; hash_rows = 0; entries = 0; charge = 5; layout = One })
unfolding reported image_stores shape_found record_found record_behind stores_named log_rows rows_from row_at open_count hash_rows
    sorted_rows rows_of lib.Count.ones frozen_device one_frozen wide sector bodies body old_header short_bytes
frozen_report = refl

-- five keys of one bucket in one log
crowded_log : image_verdict (frozen_device 1 (1 ∷ 2 ∷ 3 ∷ 4 ∷ 5 ∷ []) []) ≡ Some Crowded
unfolding image_verdict image_digests image_stores shape_found record_found record_behind stores_named log_rows rows_from row_at open_count
    hash_rows sorted_rows store_findings log_findings hash_findings sorted_findings rows_of fits_table added indexed placed path_for
    put_along moved_along free_slot shortest_walk turns victim lib.Count.ones frozen_device one_frozen wide sector bodies body old_header short_bytes
crowded_log = refl

-- ---- digests

-- a digest of 20 bytes that begins with this one
digest : ℕ → Digest
digest first = record { 0 = first ∷ replicate 19 0 }

-- the digests in a slot of version 2, of one hash store and of the sorted store
said : Digests
said = record { hashed = digest 5 ∷ replicate 15 (digest 0); sorted = digest 6 }

-- a device of version 2 with this slot 0
new_device : List ℕ → List ℕ
new_device slot0 = sector 1 (0xA7 ∷ header_bytes small) ++ sector 1 slot0 ++ sector 9 []

-- the bytes of a slot with digests: the highest bit of the generation is set
long_slot : 0xA7 ∷ record_bytes first_body said ≡ 0xA7 ∷ 0x80 ∷ replicate 119 0 ++ 5 ∷ replicate 319 0 ++ 6 ∷ replicate 19 0
unfolding said digest lib.Count.ones
long_slot = refl

-- they read back
long_record_row : open_record (new_device (0xA7 ∷ record_bytes first_body said)) 0 ≡ Some (long_record first_body said)
unfolding record_behind lib.Count.ones new_device said digest sector small
long_record_row = refl

-- the digests in the manifest are those of the current slot
said_row : image_digests (new_device (0xA7 ∷ record_bytes first_body said)) ≡ Some said
unfolding image_digests record_found record_behind lib.Count.ones new_device said digest sector small
said_row = refl

-- a slot without digests, under a header of version 2
short_slot : image_verdict (new_device (0xA7 ∷ short_bytes first_body)) ≡ Some (Damaged (Slot 0))
unfolding image_verdict image_stores shape_found record_found record_behind lib.Count.ones new_device short_bytes sector small
short_slot = refl

-- a slot with digests, under a header of version 1
old_device_said : image_digests (device (0xA7 ∷ record_bytes first_body said) [] [] [] [] []) ≡ Some said
unfolding image_digests record_found record_behind lib.Count.ones device old_header said digest sector small
old_device_said = refl
