-- What a device shows in which nothing is found.
use Rattle.silt_recovery.proofs.Common.{◌≡◌, IsTrue, ap, sym, arith, Content, EngineState, IsReadLog, Holds, slice_index_or, IsGood, rows_law, sound_law, first_rows, settled_rows, none_waiting}
use Rattle.silt_image.specs.Meaning.{image_map}
use Rattle.silt_log.specs.Rows.{log_rows}
use Rattle.silt_standing.specs.Standing.{ShowsStores, base_map, current_map}

module _ (content : Content) (s : EngineState) (holds : Holds content s) where
  -- the active log has the rows that are shown
  active_shown : IsTrue content.honest → log_rows s.active.log.shape s.active.log.region content.shown ≡ settled_rows content s.active.log
  unfolding log_rows
  active_shown h = ap (first_rows s.active.log.shape s.active.log.region content.shown) (sym (holds.active.scanned h).settled)

  -- the stores that are held are those that are shown
  pub held_shown : ShowsStores content s
  held_shown = record {
    whole = holds.whole;
    bounds = holds.active.bounds;
    active = active_shown;
    frozen = λ k d inside.
        let read : IsReadLog content s.manifest.shape (slice_index_or s.frozen k d) = holds.frozen k d inside in
        record { rows = λ h. (read.scanned h).used; indexed = read.indexed };
  }

  -- their map is that of the image that is shown
  pub held_map : IsTrue content.honest → current_map content s ≡ image_map content.shown
  unfolding base_map image_map
  held_map h = search (arith, none_waiting, rows_law)

  -- which is good
  pub held_good : IsTrue content.honest → IsGood content.shown
  held_good h = search (arith, sound_law)
