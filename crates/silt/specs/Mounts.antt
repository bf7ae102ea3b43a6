-- What is read of the list of mounted file systems.
use Rattle.std.specs.Prelude.{◌≡◌, ℕ, ◌+◌, if◌then◌else◌, List, map, codes, slice_get, Option, Some, None, option_map, option_and_then}
use Rattle.std.specs.Borrow.{Bor}
use Rattle.std.specs.Str.{bytes_eq}
use Rattle.silt.specs.Common.{position, words_of}
use Rattle.silt.specs.declared.mounts.Mount.{Mount}
use Rattle.silt.specs.declared.mounts.Weakness.{Weakness}
use Rattle.silt.specs.declared.mounts.Weakness.TheVariants.{InMemory, Remote}

-- a mounted file system: the numbers of its device and its type, as texts
pub record MountIn : Type 0 where
  pub device : List ℕ
  pub kind : List ℕ

-- a mount by these texts
abbrev pub named_mount : Mount → MountIn
named_mount mount = record { device = mount.device.now; kind = mount.kind.now }

-- where the first word is that is a hyphen
abbrev pub hyphen_at : List (Bor (List ℕ)) → Option ℕ
hyphen_at words = position (λ word. bytes_eq word.now (codes "-")) words

-- the word at a place
abbrev pub field_at : List (Bor (List ℕ)) → ℕ → Option (List ℕ)
field_at words at = option_map (λ word. word.now) (slice_get words at)

-- the file system of words: the third one names the device, and the word behind a hyphen the type
abbrev pub mount_on : List (Bor (List ℕ)) → Option MountIn
mount_on words =
    option_and_then (λ device. option_and_then (λ hyphen. option_map (λ kind.
    record { device = device; kind = kind })
    (field_at words (hyphen + 1))) (hyphen_at words)) (field_at words 2)

-- this is the file system of a line, by its words
abbrev pub IsMountOf : List ℕ → Option MountIn → Type 0
IsMountOf line mount = (words : List (Bor (List ℕ))) × (map (λ word. word.now) words ≡ words_of line) × (mount ≡ mount_on words)

-- why a file system of this type may not keep what it has synced
abbrev pub weakness_of : List ℕ → Option Weakness
weakness_of kind =
    if bytes_eq kind (codes "tmpfs") then Some InMemory
    else if bytes_eq kind (codes "ramfs") then Some InMemory
    else if bytes_eq kind (codes "nfs") then Some Remote
    else if bytes_eq kind (codes "nfs4") then Some Remote
    else if bytes_eq kind (codes "cifs") then Some Remote
    else if bytes_eq kind (codes "smb3") then Some Remote
    else if bytes_eq kind (codes "9p") then Some Remote
    else if bytes_eq kind (codes "ceph") then Some Remote
    else if bytes_eq kind (codes "afs") then Some Remote
    else if bytes_eq kind (codes "virtiofs") then Some Remote
    else if bytes_eq kind (codes "fuse.sshfs") then Some Remote
    else if bytes_eq kind (codes "fuse.s3fs") then Some Remote
    else if bytes_eq kind (codes "fuse.rclone") then Some Remote
    else if bytes_eq kind (codes "fuse.glusterfs") then Some Remote
    else None
