-- What system calls do to the bytes of a file that behaves.
use Rattle.std.specs.Prelude.{◌≡◌, ℕ, ◌-◌, IsTrue, List, ◌++◌, length, take, replicate}
use Rattle.silt_disk.specs.Disk.{Content}

-- an image, truncated to this length or extended to it with zeros
abbrev pub with_length : ℕ → List ℕ → List ℕ
with_length len image = take len image ++ replicate (len - length image) 0

-- a file that was given this length
pub record Resizes (len : ℕ) (old new : Content) : Type 0 where
  pub honest : new.honest ≡ old.honest
  pub shown : IsTrue old.honest → new.shown ≡ with_length len old.shown

-- a file that shows what it showed
pub record ShowsAlike (old new : Content) : Type 0 where
  pub honest : new.honest ≡ old.honest
  pub shown : IsTrue old.honest → new.shown ≡ old.shown
