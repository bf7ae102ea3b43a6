-- The digests that the next manifest gets, from the stores in memory.
use Rattle.std.specs.Prelude.{ℕ, ◌-◌, List, ◌++◌, length, map, replicate, take, Option, Some, None}
use Rattle.std.specs.Option.{option_to_list}
use Rattle.silt_disk.specs.Layout.{most_hashes}
use Rattle.silt_frame.specs.Frame.{digest_len}
use Rattle.silt_frame.specs.declared.digest.Digest.{Digest}
use Rattle.silt_hash_store.specs.State.{HashState}
use Rattle.silt_manifest.specs.declared.digests.Digests.{Digests}
use Rattle.silt_standing.specs.State.{EngineState}

-- the digest in an unused place
abbrev pub no_digest : Digest
no_digest = record { 0 = replicate digest_len 0 }

-- the digest of a hash store
abbrev pub digest_of : HashState → Digest
digest_of store = record { 0 = store.digest }

-- some digests, and zeros behind them for the other hash stores that a device can have
abbrev pub padded : List Digest → List Digest
padded digests = digests ++ replicate (most_hashes - length digests) no_digest

-- the digests of hash stores, the newest first, after that of a newer one, if there is one; and that of the sorted store
abbrev pub digests_with : Option Digest → List HashState → Digest → Digests
digests_with first stores sorted = record { hashed = padded (option_to_list first ++ map digest_of stores); sorted = sorted }

-- those of the stores as they are
abbrev pub own_digests : EngineState → Digests
own_digests s = digests_with None s.hashes (record { 0 = s.digest })

-- with a hash store of this digest in front of the others
abbrev pub converted_digests : EngineState → List ℕ → Digests
converted_digests s digest = digests_with (Some (record { 0 = digest })) s.hashes (record { 0 = s.digest })

-- without this many of the oldest hash stores, and with this sorted store
abbrev pub merged_digests : EngineState → ℕ → List ℕ → Digests
merged_digests s count digest = digests_with None (take (length s.hashes - count) s.hashes) (record { 0 = digest })
