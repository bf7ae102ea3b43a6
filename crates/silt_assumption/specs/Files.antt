-- The content of a file of the system.
use Rattle.std.specs.Prelude.{◌≡◌, ℕ, false, replicate, refl}
use Rattle.std.specs.declared.fs.File.{File}
use Rattle.silt_disk.specs.Disk.{Content}

-- a content of this length that promises nothing: its zeros carry the length alone
abbrev pub unpromised : ℕ → Content
unpromised len = record {
  honest = false;
  shown = replicate len 0;
  settled = replicate len 0;
  pending = λ _. false;
  sizes = refl;
  agrees = λ _ _. refl;
}

-- The content of a file of the system. The definition is hidden: the name alone does not show whether the file behaves.
pub system_content : File → Content
system_content _ = unpromised 0

-- the law for the crate that makes the calls
pub system_unpromised : (file : File) → system_content file ≡ unpromised 0
unfolding system_content
system_unpromised file = refl
