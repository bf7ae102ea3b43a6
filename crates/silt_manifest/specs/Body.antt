-- A manifest body: its bytes, and when it is well formed.
use Rattle.std.specs.Prelude.{◌≡◌, ◌<◌, ◌≤◌, ℕ, ◌+◌, ◌%◌, ◌^◌, ◌==◌, nat_le, nat_lt, Bool, true, ◌&&◌, not, List, [], ◌∷◌, ◌++◌, length}
use Rattle.std.specs.List.{list_any, list_all}
use Rattle.byteorder.specs.Endian.{big_bytes}
use Rattle.silt_disk.specs.Layout.{Shape, most_frozen, most_hashes}
use Rattle.silt_disk.specs.Numbers.{number_at}
use Rattle.silt_manifest.specs.Numbers.{ids_bytes, ids_at}
use Rattle.silt_manifest.specs.declared.body.Body.{Body}

-- the body of a newly formatted store
abbrev pub first_body : Body
first_body = record { generation = 0; active = 0; frozen = []; hashed = []; sorted = 0; sorted_count = 0 }

-- the highest bit of a generation's field: if set, digests follow the body
abbrev pub long_bit : ℕ
long_bit = 2 ^ 63

-- the bytes right after the commit byte of a slot, 120 bytes
abbrev pub body_bytes : Body → List ℕ
body_bytes b =
    big_bytes 8 (b.generation + long_bit) ++ big_bytes 4 b.active ++ ids_bytes most_frozen b.frozen ++ ids_bytes most_hashes b.hashed
    ++ big_bytes 4 b.sorted ++ big_bytes 4 b.sorted_count

-- the body of a slot, whose first byte is the commit byte
abbrev pub body_of : List ℕ → Body
body_of slot = record {
  generation = number_at 8 1 slot % long_bit;
  active = number_at 4 9 slot;
  frozen = ids_at 13 slot;
  hashed = ids_at 45 slot;
  sorted = number_at 4 113 slot;
  sorted_count = number_at 4 117 slot;
}

-- no number occurs twice
abbrev pub is_distinct : List ℕ → Bool
is_distinct [] = true
is_distinct (id ∷ ids) = not (list_any (λ other. other == id) ids) && is_distinct ids

-- all are below n
abbrev pub all_below : ℕ → List ℕ → Bool
all_below n ids = list_all (λ id. nat_lt id n) ids

-- fewer logs are frozen than there are, and these and the active one exist and are distinct
abbrev pub has_sound_logs : ℕ → Body → Bool
has_sound_logs logs b =
    nat_lt (length b.frozen) logs && nat_lt b.active logs && all_below logs b.frozen
    && not (list_any (λ id. id == b.active) b.frozen) && is_distinct b.frozen

-- the hash stores are distinct, and exist if there are this many regions
abbrev pub has_sound_hashes : ℕ → Body → Bool
has_sound_hashes hashes b = nat_le (length b.hashed) hashes && all_below hashes b.hashed && is_distinct b.hashed

-- a body may lie in the slot of this number
abbrev pub is_well_formed : Shape → ℕ → Body → Bool
is_well_formed s slot b =
    nat_lt b.generation (2 ^ 63) && (b.generation % 2 == slot) && has_sound_logs s.logs b && has_sound_hashes s.hashes b
    && nat_lt b.sorted 2 && nat_le b.sorted_count s.sorted_capacity

-- the numbers fit into the fields of a slot
pub record FitsSlot (b : Body) : Type 0 where
  pub generation : b.generation < long_bit
  pub active : b.active < 256 ^ 4
  pub frozen_count : length b.frozen ≤ most_frozen
  pub frozen : all_below (256 ^ 4) b.frozen ≡ true
  pub hashed_count : length b.hashed ≤ most_hashes
  pub hashed : all_below (256 ^ 4) b.hashed ≡ true
  pub sorted : b.sorted < 256 ^ 4
  pub sorted_count : b.sorted_count < 256 ^ 4

-- a body reads back as it was written
abbrev pub BodyLaw : Type 0
BodyLaw = (b : Body) (commit : ℕ) (rest : List ℕ) → FitsSlot b → body_of (commit ∷ body_bytes b ++ rest) ≡ b
