-- What is known, after the fact, of a store that failed.
use Rattle.std.specs.Prelude.{◌≡◌, ℕ, IsTrue, List, true}
use Rattle.silt_disk.specs.declared.disk.Disk.{Ghosts}
use Rattle.silt_event.specs.declared.event.Event.{Event}
use Rattle.silt_event.specs.declared.event.Event.TheVariants.{Flush}
use Rattle.silt_event.specs.declared.reply.Reply.{Reply}
use Rattle.silt_event.specs.declared.reply.Reply.TheVariants.{Acknowledged}
use Rattle.silt_image.specs.Meaning.{image_map}
use Rattle.silt_engine.specs.Calls.{HoldsPrefix}
use Rattle.silt_store_set.specs.CoreState.{CoreState, Does, map_of}

-- If the call after an acknowledged flush fails, an image represents the failed store's base after a first part of the waiting commands
-- only if it has the acknowledged map.
abbrev pub FailedLaw : {D F : Type 0} → Ghosts D F → Type 0
FailedLaw {D} {F} facts =
    (old flushed failed : CoreState D) (n : ℕ) (event : Event) (reply : Reply F) → Does facts old flushed Flush (Acknowledged n) → Does facts flushed failed event reply → failed.failed ≡ true
    → IsTrue (facts.content old.disk).honest → (image : List ℕ) → HoldsPrefix failed.shape failed.base failed.waiting image → image_map image ≡ map_of flushed
