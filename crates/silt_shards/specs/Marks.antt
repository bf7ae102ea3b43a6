-- The mark of a file: of which set it is a shard, and which one.
use Rattle.std.specs.Prelude.{◌≡◌, ◌≢◌, ◌⊎◌, ◌+◌, ◌<◌, ℕ, ◌==◌, nat_le, nat_lt, Bool, not, ◌&&◌, if◌then◌else◌, List, ◌∷◌, ◌++◌, length, slice_index, slice_range, codes, get_or}
use Rattle.std.specs.Str.{bytes_eq}
use Rattle.byteorder.specs.Endian.{big_bytes}
use Rattle.silt_disk.specs.Disk.{Content, Left, Torn}
use Rattle.silt_disk.specs.Numbers.{number_at}
use Rattle.silt_frame.specs.Commit.{commit_open, is_open}
use Rattle.silt_image.specs.Laws.{SameMeaning}
use Rattle.silt_image.specs.Stores.{image_stores}
use Rattle.silt_shards.specs.Routing.{IsShardCount, is_shard_count}
use Rattle.silt_shards.specs.declared.mark.Mark.{Mark}
use Rattle.silt_shards.specs.declared.mark.Marking.{Marking}
use Rattle.silt_shards.specs.declared.mark.Marking.TheVariants.{Unmarked, Unknown, Marked}

-- where the mark of a file begins: in the first sector, behind the header
abbrev pub mark_at : ℕ
mark_at = 2048

-- the length of a mark: its commit byte, the magic bytes, the version, the two numbers, and the bytes of the set
abbrev pub mark_len : ℕ
mark_len = 37

-- the length of a set's name, in bytes
abbrev pub set_len : ℕ
set_len = 16

-- the text SILTSHRD
abbrev pub mark_magic : List ℕ
mark_magic = codes "SILTSHRD"

-- the bytes of a mark after its commit byte: the magic bytes, version 1, the number of shards, the number of this shard, and the bytes of the set
abbrev pub mark_bytes : Mark → List ℕ
mark_bytes mark = mark_magic ++ big_bytes 4 1 ++ big_bytes 4 mark.count ++ big_bytes 4 mark.shard ++ mark.set

-- a set of so many shards has this one
abbrev pub is_shard : ℕ → ℕ → Bool
is_shard count shard = is_shard_count count && nat_lt shard count

-- the numbers of a mark are those of a shard, and as many bytes name its set as a name has
pub record IsShardMark (mark : Mark) : Type 0 where
  pub count : IsShardCount mark.count
  pub shard : mark.shard < mark.count
  pub set : length mark.set ≡ set_len

-- the commit byte is open, and the magic bytes follow
abbrev pub has_mark : List ℕ → Bool
has_mark bytes = is_open (slice_index bytes 0) && bytes_eq (slice_range bytes 1 9) mark_magic

-- the mark in these bytes
abbrev pub mark_in : List ℕ → Mark
mark_in bytes = record { count = number_at 4 13 bytes; shard = number_at 4 17 bytes; set = slice_range bytes 21 37 }

-- what these bytes say: there is no mark, or one of another version or with numbers of no shard, or this one
abbrev pub marking_in : List ℕ → Marking
marking_in bytes =
    if not (has_mark bytes) then Unmarked
    else if not ((number_at 4 9 bytes == 1) && is_shard (mark_in bytes).count (mark_in bytes).shard) then Unknown
    else Marked (mark_in bytes)

-- the bytes of an image where a mark is
abbrev pub mark_part : List ℕ → List ℕ
mark_part image = slice_range image mark_at (mark_at + mark_len)

-- what an image says of its place in a set; one that is too short has no mark
abbrev pub marking_of : List ℕ → Marking
marking_of image = if nat_le (mark_at + mark_len) (length image) then marking_in (mark_part image) else Unmarked

-- the mark's commit byte is closed
abbrev pub IsMarkClosed : List ℕ → Type 0
IsMarkClosed image = get_or image mark_at 0 ≢ commit_open

-- an image has no mark, or this one
abbrev pub IsMarkedOrNot : Mark → List ℕ → Type 0
IsMarkedOrNot mark image = (marking_of image ≡ Unmarked) ⊎ (marking_of image ≡ Marked mark)

-- a possible crash image before a call, but for the commit byte of its mark
pub record IsLeftButForMark (old : Content) (image : List ℕ) : Type 0 where
  pub before : List ℕ
  pub left : Left old before
  pub torn : Torn mark_at 1 before image

-- a possible crash image while a mark is written: one that was possible before, but for the commit byte; or one with no mark; or with this one
abbrev pub IsHalfMarked : Content → Mark → List ℕ → Type 0
IsHalfMarked old mark image = IsLeftButForMark old image ⊎ IsMarkedOrNot mark image

-- the mark of a file does not matter to its store: a change of the mark's bytes leaves the stores of an image and its meaning
abbrev pub FileMarkLaw : Type 0
FileMarkLaw = (before after : List ℕ) → Torn mark_at mark_len before after → (image_stores after ≡ image_stores before) × SameMeaning before after

-- a mark reads back as it was written
abbrev pub ReadBackLaw : Type 0
ReadBackLaw = (mark : Mark) (commit : ℕ) → IsShardMark mark → marking_in (commit ∷ mark_bytes mark) ≡ (if is_open commit then Marked mark else Unmarked)
