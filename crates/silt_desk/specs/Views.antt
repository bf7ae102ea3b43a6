-- What a view of a served store shows: each look is one moment of the store.
use Rattle.std.specs.Prelude.{◌≡◌, ℕ, List}
use Rattle.silt_disk.specs.Layout.{Shape}
use Rattle.silt_disk.specs.declared.disk.Disk.{Ghosts}
use Rattle.silt_event.specs.declared.facts.Facts.{Facts}
use Rattle.silt_manifest.specs.declared.body.Body.{Body}
use Rattle.silt_manifest.specs.declared.digests.Digests.{Digests}
use Rattle.silt_store_set.specs.CoreState.{CoreState}
use Rattle.silt_store_set.specs.Facts.{facts_of}
use Rattle.silt_view.specs.Moments.{IsMoment}
use Rattle.silt_view.specs.Views.{GivesBytes, GivesFault, IsNamed}
use Rattle.silt_view.specs.declared.moment.Moment.{Moment}
use Rattle.silt_view.specs.declared.viewed.ReadFault.{ReadFault}

-- a store had this shape
abbrev pub HadShape : (D : Type 0) → Shape → Type 0
HadShape D shape = (core : CoreState D) × (shape ≡ core.shape)

-- a store had these facts
abbrev pub HadFacts : (D : Type 0) → Facts → Type 0
HadFacts D facts = (core : CoreState D) × (facts ≡ facts_of core)

module _ {D F : Type 0} (disk : Ghosts D F) where
  -- the record of a store named these regions, with these digests
  abbrev pub HadNamed : Body × Digests → Type 0
  HadNamed named = (core : CoreState D) × IsNamed disk core named

  -- a store was this
  abbrev pub HadMoment : Moment → Type 0
  HadMoment moment = (core : CoreState D) × IsMoment disk core moment

  -- the disk of a store gave these bytes from there on
  abbrev pub GaveBytes : ℕ → List ℕ → Type 0
  GaveBytes at bytes = (core : CoreState D) × GivesBytes disk core at bytes

  -- the disk of a store gave this fault for a read of this range, or had no such range
  abbrev pub GaveFault : ReadFault F → ℕ → ℕ → Type 0
  GaveFault fault at len = (core : CoreState D) × GivesFault disk core fault at len
