-- The names of the crates below and of specs/ that several proofs cite, passed on from one place. Declares nothing.
pub use Rattle.silt_disk.specs.Layout.{InLimits, Shape}
pub use Rattle.silt_disk.specs.declared.disk.Disk.{Ghosts}
pub use Rattle.silt_engine.specs.Conversion.{is_work, progress_due}
pub use Rattle.silt_engine.specs.Merge.{merge_progress, merge_sources}
pub use Rattle.silt_event.specs.declared.event.Event.{Event}
pub use Rattle.silt_event.specs.declared.event.Event.TheVariants.{Convert, Delete, Flush, Get, Merge, Put, Swap}
pub use Rattle.silt_event.specs.declared.progress.Progress.TheVariants.{Finished, Idle, Moved, Waiting}
pub use Rattle.silt_event.specs.declared.reply.Reply.{Reply}
pub use Rattle.silt_event.specs.declared.reply.Reply.TheVariants.{Absent, Accepted, Acknowledged, Differs, Found, Progress, Refused}
pub use Rattle.silt_manifest.specs.declared.body.Body.{Body}
pub use Rattle.silt_progress.specs.Laws.{BackgroundLaw, ConvertAllLaw, ConvertIdleLaw, ConvertRunLaw, ConvertStepLaw, FreesLaw, KeptLaw, MergeEndLaw, MergeIdleLaw, MergeLengthLaw, MergeRunLaw}
pub use Rattle.silt_progress.specs.Laws.{MergeStepLaw, MergeTurnLaw, NoRoomLaw, OpenedLaw, RestLaw, RoomLaw, WaitLaw, WholeMergeLaw}
pub use Rattle.silt_store_set.specs.Facts.{slots_written}
pub use Rattle.std.proofs.lemmas.Bool.{and_from, and_parts, cases_Bool, eqb-false, eqb-true}
pub use Rattle.std.proofs.lemmas.List.{length-map, length-take-le}
pub use Rattle.std.specs.List.{list_all}
pub use Rattle.std.specs.Option.{option_map}
pub use Rattle.std.specs.Prelude.{replicate, unwrap_or, ◌⊎◌}
