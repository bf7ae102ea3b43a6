-- How rows and entries are encoded and decoded.
use Rattle.std.specs.Prelude.{◌≡◌, ◌<◌, ℕ, length, ◌==◌, if◌then◌else◌, List, ◌∷◌, ◌++◌, take, drop, slice_index, Option, Some, None, Bool, true, false}
use Rattle.std.specs.Option.{option_map}
use Rattle.silt_frame.specs.declared.key.Key.{Key}
use Rattle.silt_frame.specs.declared.key.Kind.{Kind}
use Rattle.silt_frame.specs.declared.key.Kind.TheVariants.{Put, Delete}

-- the length of a key, in bytes
abbrev pub key_len : ℕ
key_len = 20

-- the length of a row's head, in bytes: the kind byte and the key
abbrev pub head_len : ℕ
head_len = 21

-- the length of a digest, in bytes
abbrev pub digest_len : ℕ
digest_len = 20

-- whether the kind is a put
abbrev pub is_put : Kind → Bool
is_put Put = true
is_put Delete = false

-- the kind as a byte
abbrev pub kind_byte : Kind → ℕ
kind_byte Put = 1
kind_byte Delete = 2

-- the kind of a byte, if it has one
abbrev pub kind_of : ℕ → Option Kind
kind_of byte = if byte == 1 then Some Put else if byte == 2 then Some Delete else None

-- the bytes of a row's head
abbrev pub head_bytes : Kind → Key → List ℕ
head_bytes kind key = kind_byte kind ∷ key.0

-- the kind and the key that the bytes of a head encode
abbrev pub head_of : List ℕ → Option (Kind × Key)
head_of bytes = option_map (λ kind. (kind, record { 0 = drop 1 bytes })) (kind_of (slice_index bytes 0))

-- the bytes of a sorted region's entry
abbrev pub entry_bytes : Key → List ℕ → List ℕ
entry_bytes key value = key.0 ++ value

-- the key and the value of an entry
abbrev pub entry_of : List ℕ → Key × List ℕ
entry_of bytes = (record { 0 = take key_len bytes }, drop key_len bytes)

-- a head reads back as it was written, and only the bytes of a head decode to it
abbrev pub HeadLaw : Type 0
HeadLaw =
    ((kind : Kind) (key : Key) → head_of (head_bytes kind key) ≡ Some (kind, key))
    × ((bytes : List ℕ) (kind : Kind) (key : Key) → 0 < length bytes → head_of bytes ≡ Some (kind, key) → bytes ≡ head_bytes kind key)

-- an entry reads back as it was written, and only the bytes of an entry decode to it
abbrev pub EntryLaw : Type 0
EntryLaw =
    ((key : Key) (value : List ℕ) → length key.0 ≡ key_len → entry_of (entry_bytes key value) ≡ (key, value))
    × ((bytes : List ℕ) → entry_bytes (entry_of bytes).0 (entry_of bytes).1 ≡ bytes)
