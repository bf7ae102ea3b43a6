-- What a pass sees of one part of a device, look by look.
use Rattle.std.specs.Prelude.{◌≡◌, ◌≢◌, ◌≤◌, ◌⊎◌, ℕ, ◌+◌, List, [], ◌++◌, length, Some, None}
use Rattle.sha1.specs.Sha1.{sha1}
use Rattle.silt_care.specs.Extents.{extent_of}
use Rattle.silt_care.specs.declared.extent.Extent.{Extent}
use Rattle.silt_care.specs.declared.extent.Part.{Part}
use Rattle.silt_care.specs.declared.finds.Finds.{Ghosts as FindsOf}
use Rattle.silt_care.specs.declared.looks.Looks.{Ghosts as LooksOf}
use Rattle.silt_care.specs.declared.pass.Verdict.{Verdict}
use Rattle.silt_care.specs.declared.pass.Verdict.TheVariants.{Unnamed, Sound, Damaged, Unread, Moved, Ended}
use Rattle.silt_care.specs.declared.pieces.Halt.{Halt}
use Rattle.silt_care.specs.declared.pieces.Halt.TheVariants as halt
use Rattle.silt_disk.specs.Layout.{Shape}
use Rattle.silt_manifest.specs.declared.body.Body.{Body}
use Rattle.silt_manifest.specs.declared.digests.Digests.{Digests}

-- the length of the buffer that a part is read into, piece by piece
abbrev pub piece_len : ℕ
piece_len = 65536

module _ {S G : Type 0} (looks : LooksOf S G) where
  -- these bytes were read from there on, one piece behind the other
  pub data Reads (at : ℕ) (first : S) : List ℕ → S → Type 0 where
    no_bytes : Reads at first [] first
    then_bytes : {bytes piece : List ℕ} {mid last : S} → Reads at first bytes mid → looks.gave mid (at + length bytes) piece last → Reads at first (bytes ++ piece) last

  -- all bytes were read
  abbrev pub ReadsAll : Extent → S → List ℕ → S → Type 0
  ReadsAll extent first bytes last = Reads extent.at first bytes last × (length bytes ≡ extent.len)

  -- the first bytes were read, and then a read failed
  abbrev pub ReadsSome : Extent → S → S → Type 0
  ReadsSome extent first last =
      (bytes : List ℕ) × (mid : S) × (fault : G) × (len : ℕ) × Reads extent.at first bytes mid × looks.faulted mid fault (extent.at + length bytes) len last
      × (length bytes + len ≤ extent.len)

  -- the bytes were not all read: the pass is to end, or a read failed
  abbrev pub Halts : {F : Type 0} → FindsOf F → F → Extent → S → Halt → S → Type 0
  Halts finds finder extent first halt.Ended last = finds.has_stopped finder
  Halts finds finder extent first halt.Unread last = ReadsSome extent first last

  -- a look showed that the record names these bytes for the part, with this digest
  abbrev pub ShowsExtent : Shape → Part → Extent → S → S → Type 0
  ShowsExtent shape part extent first last = (named : Body × Digests) × looks.showed first named last × (extent_of shape named part ≡ Some extent)

  -- a look showed that the record does not name them
  abbrev pub ShowsOther : Shape → Part → Extent → S → S → Type 0
  ShowsOther shape part extent first last = (named : Body × Digests) × looks.showed first named last × (extent_of shape named part ≢ Some extent)

  -- The record names a store, its bytes are read, and then, unless they have its digest, one more look shows whether the record
  -- still names it.
  abbrev pub Judges : {F : Type 0} → FindsOf F → Shape → F → Part → S → Verdict → S → Type 0
  Judges finds shape finder part first Unnamed last = (named : Body × Digests) × looks.showed first named last × (extent_of shape named part ≡ None)
  Judges finds shape finder part first (Sound len) last =
      (extent : Extent) × (bytes : List ℕ) × (begun : S) × ShowsExtent shape part extent first begun × ReadsAll extent begun bytes last × (sha1 bytes ≡ extent.digest.0) × (len ≡ extent.len)
  Judges finds shape finder part first (Damaged len) last =
      (extent : Extent) × (bytes : List ℕ) × (begun : S) × (read : S) × ShowsExtent shape part extent first begun × ReadsAll extent begun bytes read
      × (sha1 bytes ≢ extent.digest.0) × (len ≡ extent.len) × ShowsExtent shape part extent read last
  Judges finds shape finder part first Unread last =
      (extent : Extent) × (begun : S) × (read : S) × ShowsExtent shape part extent first begun × ReadsSome extent begun read × ShowsExtent shape part extent read last
  Judges finds shape finder part first Moved last =
      (extent : Extent) × (begun : S) × (read : S) × ShowsExtent shape part extent first begun
      × (((bytes : List ℕ) × ReadsAll extent begun bytes read) ⊎ ReadsSome extent begun read) × ShowsOther shape part extent read last
  Judges finds shape finder part first Ended last = finds.has_stopped finder
