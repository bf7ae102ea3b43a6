-- The header of a device: its bytes, and the six numbers that it holds.
use Rattle.std.specs.Prelude.{◌≡◌, ◌⊎◌, ◌<◌, ◌*◌, ◌^◌, ℕ, ◌==◌, nat_le, Bool, ◌&&◌, ◌||◌, if◌then◌else◌, List, ◌++◌, length, slice_index, slice_range, codes}
use Rattle.std.specs.Str.{bytes_eq}
use Rattle.byteorder.specs.Endian.{big_bytes}
use Rattle.silt_disk.specs.Layout.{Shape, is_bucket_count, most_hashes, most_logs, most_sorted_capacity, most_value_len}
use Rattle.silt_frame.specs.Commit.{commit_open, is_open}
use Rattle.silt_disk.specs.Numbers.{number_at}
use Rattle.silt_disk.specs.declared.header.Version.{Version}
use Rattle.silt_disk.specs.declared.header.Version.TheVariants.{One, Two}

-- how many bytes of a device are its header: the commit byte, the magic bytes, the version and the six numbers
abbrev pub header_len : ℕ
header_len = 37

-- the text SILTFLSH
abbrev pub magic : List ℕ
magic = codes "SILTFLSH"

-- the bytes of a new header after its commit byte: the magic bytes, version 2 and the six numbers
abbrev pub header_bytes : Shape → List ℕ
header_bytes s =
    magic ++ big_bytes 4 2 ++ big_bytes 4 s.value_len ++ big_bytes 4 s.buckets ++ big_bytes 4 s.log_capacity
    ++ big_bytes 4 s.logs ++ big_bytes 4 s.hashes ++ big_bytes 4 s.sorted_capacity

-- the header of an image: its commit byte, and what follows it
abbrev pub header_of : List ℕ → List ℕ
header_of image = slice_range image 0 header_len

-- the version number in a header
abbrev pub version_number : List ℕ → ℕ
version_number header = number_at 4 9 header

-- the commit byte is open, and the magic bytes and version 1 or 2 follow
abbrev pub is_formatted : List ℕ → Bool
is_formatted header =
    is_open (slice_index header 0) && bytes_eq (slice_range header 1 9) magic && ((version_number header == 1) || (version_number header == 2))

-- the version of a formatted header
abbrev pub version_of : List ℕ → Version
version_of header = if version_number header == 2 then Two else One

-- a header has its full length, its commit byte is open, and the magic bytes and version 1 or 2 follow
pub record IsHeader (header : List ℕ) : Type 0 where
  pub whole : length header ≡ header_len
  pub commit : slice_index header 0 ≡ commit_open
  pub magic : slice_range header 1 9 ≡ magic
  pub version : (version_number header ≡ 1) ⊎ (version_number header ≡ 2)

-- the six numbers of a header
abbrev pub header_shape : List ℕ → Shape
header_shape header = record {
  value_len = number_at 4 13 header;
  buckets = number_at 4 17 header;
  log_capacity = number_at 4 21 header;
  logs = number_at 4 25 header;
  hashes = number_at 4 29 header;
  sorted_capacity = number_at 4 33 header;
}

-- the six numbers of an image
abbrev pub shape_of : List ℕ → Shape
shape_of image = header_shape (header_of image)

-- each of the six numbers lies within its limits
abbrev pub is_in_limits : Shape → Bool
is_in_limits s =
    nat_le 1 s.value_len && nat_le s.value_len most_value_len && is_bucket_count s.buckets && nat_le 1 s.log_capacity
    && nat_le s.log_capacity (4 * s.buckets) && nat_le 2 s.logs && nat_le s.logs most_logs && nat_le 1 s.hashes && nat_le s.hashes most_hashes
    && nat_le 1 s.sorted_capacity && nat_le s.sorted_capacity most_sorted_capacity

-- the six numbers fit into the fields of a header
pub record FitsHeader (s : Shape) : Type 0 where
  pub value_len : s.value_len < 256 ^ 4
  pub buckets : s.buckets < 256 ^ 4
  pub log_capacity : s.log_capacity < 256 ^ 4
  pub logs : s.logs < 256 ^ 4
  pub hashes : s.hashes < 256 ^ 4
  pub sorted_capacity : s.sorted_capacity < 256 ^ 4
