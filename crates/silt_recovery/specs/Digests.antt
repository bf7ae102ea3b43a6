-- The digests that a manifest has of its stores.
use Rattle.std.specs.Prelude.{ℕ, List, Option, Some, None}
use Rattle.silt_frame.specs.declared.digest.Digest.{Digest}

-- the bytes of a digest of the manifest
abbrev pub bytes_said : Option Digest → Option (List ℕ)
bytes_said None = None
bytes_said (Some digest) = Some digest.0
