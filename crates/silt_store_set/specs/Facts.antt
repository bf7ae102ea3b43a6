-- The facts of a store.
use Rattle.std.specs.Prelude.{◌≡◌, ℕ, Bool, IsTrue, true, false, Option, Some, None, length}
use Rattle.silt_event.specs.declared.admin.Admin.{Admin as AdminOf}
use Rattle.silt_event.specs.declared.admin.Admin.TheVariants as admin
use Rattle.silt_event.specs.declared.admin.AdminReply.{AdminReply}
use Rattle.silt_event.specs.declared.admin.AdminReply.TheVariants as reply_case
use Rattle.silt_event.specs.declared.facts.Facts.{Facts}
use Rattle.silt_disk.specs.Disk.{Content}
use Rattle.silt_disk.specs.Layout.{Shape}
use Rattle.silt_event.specs.Commands.{Map}
use Rattle.silt_event.specs.Rows.{map_of_rows}
use Rattle.silt_image.specs.Meaning.{AreDigestsOf, rows_of}
use Rattle.silt_image.specs.Stores.{stores_named}
use Rattle.silt_manifest.specs.declared.body.Body.{Body}
use Rattle.silt_manifest.specs.declared.digests.Digests.{Digests}
use Rattle.silt_store_set.specs.CoreState.{ConvertWork, CoreState, MergeWork}

-- how many slots a conversion has written, if one is in progress
abbrev pub slots_written : Option ConvertWork → ℕ
slots_written None = 0
slots_written (Some work) = work.written

-- how many steps a merge has taken, if one is in progress
abbrev pub steps_taken : Option MergeWork → ℕ
steps_taken None = 0
steps_taken (Some work) = work.steps

-- how many stores have failed, of one
abbrev pub failed_count : Bool → ℕ
failed_count true = 1
failed_count false = 0

-- the numbers of a store that its calls speak of
abbrev pub facts_of : {D : Type 0} → CoreState D → Facts
facts_of core = record {
  stores = 1;
  failed = failed_count core.failed;
  commands = core.count;
  charge = core.charge;
  capacity = core.shape.sorted_capacity;
  generation = core.body.generation;
  frozen_logs = length core.body.frozen;
  hash_stores = length core.body.hashed;
  sorted_entries = core.body.sorted_count;
  converted_slots = slots_written core.converting;
  merge_steps = steps_taken core.merging;
}

-- on a disk that obeys the crash model, these are the digests of the stores that the record names, as the disk shows them
abbrev pub NamesDigests : Content → Shape → Body → Digests → Type 0
NamesDigests content shape body digests = IsTrue content.honest → AreDigestsOf (Some digests) (stores_named shape body content.shown)

-- on a disk that obeys the crash model, this map is that of the stores that the record names, as the disk shows them
abbrev pub NamesMap : Content → Shape → Body → Map → Type 0
NamesMap content shape body map = IsTrue content.honest → map_of_rows (rows_of (stores_named shape body content.shown)) ≡ map

-- a store gives its facts, counts nothing, and does nothing else
abbrev pub AdministersCore : {D : Type 0} → CoreState D → AdminOf → AdminReply → Type 0
AdministersCore core admin.Info reply = reply ≡ reply_case.Info (facts_of core) None
AdministersCore core command reply = reply ≡ reply_case.NotServed
