-- The names of the crates below and of specs/ that several proofs cite, passed on from one place. Declares nothing.
pub use Rattle.std.proofs.Common.{Bool, IsTrue, List, None, Some, ap, arith, cond, drop, false, get_or, inl, inr, leb, length, refl, rules, slice_range, subst, suc, sym, true, zero, ℕ, ◌+◌, ◌-◌}
pub use Rattle.std.proofs.Common.{◌<◌, ◌==◌, ◌||◌, ◌∙◌, ◌∷◌, ◌≡◌, ◌≤◌}
pub use Rattle.silt_assumption.specs.Files.{system_content, system_unpromised, unpromised}
pub use Rattle.silt_device.specs.Buffered.{BufferedBytes, BufferedState, Buffers, LaidOver, LaidOverAll, PassesOn, SavesWrites, SavesWritesLaw, appended, brought, buffered_content, byte_elsewhere}
pub use Rattle.silt_device.specs.Buffered.{byte_there, cleared, content_over, content_over_all, emptied, freed, grown, has_all, holds, image_over, length-image_over, lie_apart, owed, owed_all}
pub use Rattle.silt_device.specs.Buffered.{readied, takes, to_free, turned, waiting_after, waits}
pub use Rattle.silt_device.specs.File.{FileState, HasLength, IsFilledFile, IsOpened, IsWritten, file_content, kept_content, random_access_content}
pub use Rattle.silt_device.specs.Lives.{endless, filled, life_of, next_life}
pub use Rattle.silt_device.specs.System.{Resizes, ShowsAlike}
pub use Rattle.silt_disk.proofs.Costs.{made_both, most_made, none_made}
pub use Rattle.silt_disk.proofs.Images.{splice_byte, torn_splice}
pub use Rattle.silt_disk.specs.Disk.{Content, Makes, Restarts, Settles, Stays, Tears, Torn, Writes, size, splice, within}
pub use Rattle.std.proofs.lemmas.Bool.{and_parts, cases_Bool, cases_lt, cond-false, cond-true}
pub use Rattle.std.proofs.lemmas.Bool.Decides.{nat_tests}
pub use Rattle.std.proofs.lemmas.List.{append_assoc, drop_all, drop_more, ext_get_or, get_or-append_right, get_or_append_left, get_or_past, length-append, length-replicate, length-take}
pub use Rattle.std.proofs.lemmas.List.{with_items_is}
pub use Rattle.std.proofs.lemmas.List.Edits.{get_or-between, length-between, split_between}
pub use Rattle.std.specs.Prelude.{Err, IfOk, Ok, OnOk, Result}
