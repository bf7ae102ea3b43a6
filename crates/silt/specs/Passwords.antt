-- The password that a server asks its clients for.
use Rattle.std.specs.Prelude.{◌≡◌, ◌==◌, ◌<◌, ◌≤◌, ℕ, List, Option, None, Some, length, take}
use Rattle.silt.specs.Common.{position, option_map_or, sha1}

-- the first line, without its line feed
abbrev pub first_line : List ℕ → List ℕ
first_line bytes = option_map_or (λ at. take at bytes) (position (λ b. b == 10) bytes) bytes

-- a line that a client can send
abbrev pub CanBeSent : List ℕ → Type 0
CanBeSent line = (0 < length line) × (length line ≤ 8192)

-- a line that a client can send, and its digest
abbrev pub IsPassword : List ℕ → List ℕ → Type 0
IsPassword line digest = CanBeSent line × (digest ≡ sha1 line)

-- the system gave the first bytes of the file at this path, and this is the digest of their first line
abbrev pub ReadsPassword : (List ℕ → List ℕ → Type 0) → List ℕ → List ℕ → Type 0
ReadsPassword Begins path digest = (bytes : List ℕ) × Begins path bytes × IsPassword (first_line bytes) digest

-- the digest is that of the password in this file, if one is named
abbrev pub HasPassword : (List ℕ → List ℕ → Type 0) → Option (List ℕ) → Option (List ℕ) → Type 0
HasPassword Begins None digest = digest ≡ None
HasPassword Begins (Some path) digest = (found : List ℕ) × (digest ≡ Some found) × ReadsPassword Begins path found

-- the system gave the first bytes of the file at this path, and this is their first line, which a client can send
abbrev pub ReadsLine : (List ℕ → List ℕ → Type 0) → List ℕ → List ℕ → Type 0
ReadsLine Begins path line = (bytes : List ℕ) × Begins path bytes × (line ≡ first_line bytes) × CanBeSent line
