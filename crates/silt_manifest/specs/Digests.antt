-- The digests after a body: their bytes, and when a slot has them.
use Rattle.std.specs.Prelude.{◌≡◌, ℕ, ◌+◌, ◌*◌, ◌<◌, nat_le, Bool, if◌then◌else◌, List, ◌∷◌, ◌++◌, length, map, flat_map, get_or, slice_range, Some, None}
use Rattle.std.specs.List.{range_with_len}
use Rattle.silt_disk.specs.Layout.{most_hashes}
use Rattle.silt_disk.specs.Numbers.{number_at}
use Rattle.silt_frame.specs.Frame.{digest_len}
use Rattle.silt_frame.specs.declared.digest.Digest.{Digest}
use Rattle.silt_manifest.specs.Body.{FitsSlot, body_bytes, body_of, long_bit}
use Rattle.silt_manifest.specs.declared.body.Body.{Body}
use Rattle.silt_manifest.specs.declared.digests.Digests.{Digests}
use Rattle.silt_manifest.specs.declared.slot.SlotRecord.{SlotRecord}

-- the bytes of some digests, one after the other
abbrev pub digest_bytes : List Digest → List ℕ
digest_bytes digests = flat_map (λ digest. digest.0) digests

-- the bytes after a body, 340 bytes: the digests of all hash stores that there may be, and that of the sorted entries
abbrev pub digests_bytes : Digests → List ℕ
digests_bytes d = digest_bytes d.hashed ++ d.sorted.0

-- all bytes that are written after the commit byte of a slot
abbrev pub record_bytes : Body → Digests → List ℕ
record_bytes body digests = body_bytes body ++ digests_bytes digests

-- the length of a record: a body and the digests after it
abbrev pub record_len : ℕ
record_len = 460

-- the length of a slot's meaningful bytes: its commit byte and its record
abbrev pub slot_len : ℕ
slot_len = 461

-- where the digests of the hash stores begin in a slot
abbrev pub hash_digests_at : ℕ
hash_digests_at = 121

-- where the digest of the sorted entries is in a slot
abbrev pub sorted_digest_at : ℕ
sorted_digest_at = 441

-- the digest at this place of a slot
abbrev pub digest_at : ℕ → List ℕ → Digest
digest_at at slot = record { 0 = slice_range slot at (at + digest_len) }

-- the digests of a slot, whose first byte is the commit byte
abbrev pub digests_of : List ℕ → Digests
digests_of slot = record {
  hashed = map (λ k. digest_at (hash_digests_at + digest_len * k) slot) (range_with_len 0 most_hashes);
  sorted = digest_at sorted_digest_at slot;
}

-- digests follow the body of a slot
abbrev pub is_long : List ℕ → Bool
is_long slot = nat_le long_bit (number_at 8 1 slot)

-- the record of a slot, after its commit byte: a body, and the digests after it, if there are any
abbrev pub record_of : List ℕ → SlotRecord
record_of slot = record { body = body_of slot; digests = if is_long slot then Some (digests_of slot) else None }

-- the record of a body with these digests
abbrev pub long_record : Body → Digests → SlotRecord
long_record body digests = record { body = body; digests = Some digests }

-- digests that fit into a slot: those of all hash stores that there may be, and that of the sorted entries, each of its length
pub record FitsDigests (d : Digests) : Type 0 where
  pub count : length d.hashed ≡ most_hashes
  pub hashed : (k : ℕ) → k < most_hashes → length (get_or d.hashed k d.sorted).0 ≡ digest_len
  pub sorted : length d.sorted.0 ≡ digest_len

-- a body and its digests read back as they were written
abbrev pub RecordLaw : Type 0
RecordLaw = (body : Body) (digests : Digests) (commit : ℕ) → FitsSlot body → FitsDigests digests → record_of (commit ∷ record_bytes body digests) ≡ long_record body digests
