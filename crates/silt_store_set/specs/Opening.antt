-- Why an opening is refused, and what it leaves.
use Rattle.std.specs.Prelude.{IsTrue}
use Rattle.silt_disk.specs.Disk.{Content, GaveAny, Makes, MakesAtMost}
use Rattle.silt_disk.specs.declared.disk.Disk.{Ghosts}
use Rattle.silt_event.specs.declared.damage.Finding.{Finding}
use Rattle.silt_event.specs.declared.damage.Finding.TheVariants as finding
use Rattle.silt_recovery.specs.Opening.{IsUnwritten}
use Rattle.silt_recovery.specs.Refusals.{IsFound}
use Rattle.silt_event.specs.declared.refusal.Refusal.{Refusal}
use Rattle.silt_event.specs.declared.refusal.Refusal.TheVariants.{NotFormatted, Damaged, Crowded, Device, NoMemory}

-- the device's bytes give this finding, and nothing was written
abbrev pub FoundUnwritten : Content → Content → Finding → Type 0
FoundUnwritten old new found = (IsTrue old.honest → IsFound old.shown found) × IsUnwritten old new

-- why opening is refused, and what it leaves: nothing is written unless a write or the sync after it failed
abbrev pub OpeningCause : {D F : Type 0} → Ghosts D F → Content → D → Refusal F → Type 0
OpeningCause facts old disk NotFormatted = FoundUnwritten old (facts.content disk) finding.NotFormatted
OpeningCause facts old disk (Damaged place) = FoundUnwritten old (facts.content disk) (finding.Damaged place)
OpeningCause facts old disk Crowded = FoundUnwritten old (facts.content disk) finding.Crowded
OpeningCause facts old disk (Device fault) = GaveAny facts.gave disk fault
OpeningCause facts old disk NoMemory = IsUnwritten old (facts.content disk)
OpeningCause facts old disk refusal = ⊥

-- what a refused opening has made: one sync; or, if a device call failed, at most one write and two syncs
abbrev pub RefusalMakes : {D F : Type 0} → Ghosts D F → D → D → Refusal F → Type 0
RefusalMakes facts old new (Device fault) = MakesAtMost facts.writes facts.syncs 1 2 old new
RefusalMakes facts old new refusal = Makes facts.writes facts.syncs 0 1 old new
