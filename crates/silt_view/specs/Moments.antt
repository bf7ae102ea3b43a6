-- What a store is at one moment.
use Rattle.std.specs.Prelude.{◌≡◌, ℕ, false, List, [], ◌∷◌, length, take, drop}
use Rattle.silt_disk.specs.Layout.{commits_at, log_size}
use Rattle.silt_disk.specs.declared.disk.Disk.{Ghosts}
use Rattle.silt_manifest.specs.declared.body.Body.{Body}
use Rattle.silt_store_set.specs.CoreState.{CoreState}
use Rattle.silt_store_set.specs.Facts.{NamesMap, facts_of}
use Rattle.silt_view.specs.Views.{GivesBytes, IsNamed}
use Rattle.silt_view.specs.declared.moment.Moment.{Moment}

module _ {D F : Type 0} (disk : Ghosts D F) (core : CoreState D) where
  -- these are the bytes of a whole log region, as the disk of a store gave them
  abbrev pub HasLog : ℕ → List ℕ → Type 0
  HasLog region bytes = (length bytes ≡ log_size core.shape) × GivesBytes disk core (commits_at core.shape region) bytes

  -- the bytes begin with those of these log regions, one behind the other
  abbrev pub HoldLogs : List ℕ → List ℕ → Type 0
  HoldLogs [] bytes = Unit {0}
  HoldLogs (region ∷ regions) bytes = HasLog region (take (log_size core.shape) bytes) × HoldLogs regions (drop (log_size core.shape) bytes)

  -- The store was this: the six numbers, the facts, the record, and the digests of the stores that it names. The bytes of `logs` are those of the logs
  -- that it names. If the store has not failed, the stores that it names represent its base, as an honest disk shows them.
  pub record IsMoment (moment : Moment) : Type 0 where
    pub shape : moment.geometry ≡ core.shape
    pub facts : moment.facts ≡ facts_of core
    pub named : IsNamed disk core (moment.body, moment.digests)
    pub logs : HoldLogs (moment.body.active ∷ moment.body.frozen) moment.logs.items
    pub map : core.failed ≡ false → NamesMap (disk.content core.disk) core.shape core.body core.base
