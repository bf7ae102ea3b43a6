-- The digests in memory, and the base, are those of the stores that are shown.
use Rattle.silt_store_set.proofs.Common.{◌≡◌, IsTrue, Some, sym, Content, meaning, image_map, Stands, EngineState, map_of_rows, AreDigestsOf, rows_of, shown_stores}
use Rattle.silt_engine.proofs.Said.{frozen_said}
use Rattle.silt_engine.specs.Digests.{own_digests}
use Rattle.silt_image.specs.Meaning.{with_new_log}
use Rattle.silt_standing.specs.Standing.{base_map}

-- those of the stores with any new log are, and a log has no digest
pub own_said : (content : Content) (s : EngineState) → Stands content s → IsTrue content.honest → AreDigestsOf (Some (own_digests s)) (shown_stores content s)
unfolding with_new_log
own_said content s stands honest =
    let said = frozen_said content s stands honest s.manifest.current in
    record { hashed = said.hashed; sorted = said.sorted }

-- so is the map of what is shown
pub shown_is_base : (content : Content) (s : EngineState) → Stands content s → IsTrue content.honest → map_of_rows (rows_of (shown_stores content s)) ≡ image_map content.shown
unfolding base_map
shown_is_base content s stands honest = sym ((meaning content s stands).shown honest)
