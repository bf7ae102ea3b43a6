-- Disks in files, and the files of the system.
use Rattle.silt_device.proofs.Common.{◌≡◌, ℕ, false, List, IsTrue, refl, sym, ap, ◌∙◌, subst, arith, length-replicate, cases_Bool, cond-true, cond-false, Content, Tears, Writes, Settles, Stays}
use Rattle.silt_device.proofs.Common.{size, system_content, system_unpromised, unpromised, Resizes, HasLength, kept_content}
use Rattle.std.specs.declared.fs.File.{File}

-- if the file behaves, the disk's content is the file's
pub kept_same : (file : Content) (len : ℕ) → IsTrue file.honest → kept_content file len ≡ file
kept_same file len honest = cond-true file.honest file (unpromised len) honest

-- if it does not, the content promises the length alone
pub kept_none : (file : Content) (len : ℕ) → file.honest ≡ false → kept_content file len ≡ unpromised len
kept_none file len none = cond-false file.honest file (unpromised len) none

-- the disk has its length
pub kept_size : (file : Content) (len : ℕ) → HasLength file len → size (kept_content file len) ≡ len
kept_size file len has = search (arith, cases_Bool, kept_same, kept_none, length-replicate)

-- from a content that promises nothing, anything follows
none : {A : Type 0} → IsTrue false → A
none h = absurd (cc)

-- ---- a file of the system

-- what holds for two contents that promise nothing holds for two files of the system
known : (P : Content → Content → Type 0) (old new : File) → P (unpromised 0) (unpromised 0) → P (system_content old) (system_content new)
known P old new holds = subst (λ (c : Content). P c (system_content new)) (sym (system_unpromised old)) (subst (P (unpromised 0)) (sym (system_unpromised new)) holds)

pub system_settles : (old new : File) → Settles (system_content old) (system_content new)
system_settles old new = known Settles old new (record { honest = refl; shown = λ _. refl; rests = record { settled = λ _. refl; pending = λ _ _. refl } })

pub system_stays : (old new : File) → Stays (system_content old) (system_content new)
system_stays old new = known Stays old new (record { honest = refl; shown = λ _. refl; settled = λ _. refl; pending = λ _ _. refl })

pub system_tears : (at count : ℕ) (old new : File) → Tears at count (system_content old) (system_content new)
system_tears at count old new = known (Tears at count) old new (record { honest = refl; shown = λ h. none h; settled = λ h. none h; pending = λ h. none h })

pub system_writes : (at : ℕ) (bytes : List ℕ) (old new : File) → Writes at bytes (system_content old) (system_content new)
system_writes at bytes old new = known (Writes at bytes) old new (record { honest = refl; shown = λ h. none h })

pub system_resizes : (len : ℕ) (old new : File) → Resizes len (system_content old) (system_content new)
system_resizes len old new = known (Resizes len) old new (record { honest = refl; shown = λ h. none h })

-- for the crate that makes the calls a file of the system promises nothing
pub system_none : {A : Type 0} (file : File) → IsTrue (system_content file).honest → A
system_none {A} file honest = none (ap (λ (c : Content). c.honest) (sym (system_unpromised file)) ∙ honest)
