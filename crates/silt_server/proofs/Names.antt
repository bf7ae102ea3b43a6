-- The names of the crates below and of specs/ that several proofs cite, passed on from one place. Declares nothing.
pub use Rattle.std.proofs.Common.{All, Err, IfOk, IsSomeAnd, List, None, Ok, OnOk, Option, Result, Some, [], ap, append_assoc, arith, codes, drop, get_or, inl, inr, length, map, refl, rules}
pub use Rattle.std.proofs.Common.{slice_get, subst, suc, sum, sym, take, take-append-drop, true, vec_capacity, vec_len, zero, ℕ, ◌%◌, ◌++◌, ◌+◌, ◌<◌, ◌^◌, ◌∙◌, ◌∷◌, ◌≡◌, ◌≤◌, ◌⊎◌}
pub use Rattle.silt_desk.specs.Anchors.{AnchoredState, LeadsFrom}
pub use Rattle.silt_desk.specs.DeskState.{DeskState}
pub use Rattle.silt_desk.specs.Seeing.{SeenStore, seen}
pub use Rattle.silt_desk.specs.Servings.{LeavesCalls}
pub use Rattle.silt_disk.specs.Layout.{Shape}
pub use Rattle.silt_disk.specs.declared.disk.Disk.{Ghosts}
pub use Rattle.silt_server.specs.Serving.{AreInPlace, AreNewLogs, BreaksServing, CountsEach, EachFrom, IsLedFrom, IsNamedFor, IsTraced, LeavesEach, LeavesFrom, PrintsAllCalls, PrintsAllServed}
pub use Rattle.silt_server.specs.Serving.{PrintsCalls, PrintsServed, ServesCalls, WritesHead, head_text, network_text, no_memory_text, seen_at}
pub use Rattle.silt_server.specs.Texts.{busy_text, calls_text, listening_text, no_thread_text, refused_text}
pub use Rattle.silt_store_set.specs.CoreInvariant.{LeavesBegun}
pub use Rattle.silt_store_set.specs.CoreState.{CoreState}
pub use Rattle.silt_wire.proofs.Statuses.{never_done, status_told, told_weaker}
pub use Rattle.silt_wire.proofs.Streams.{Appends-append, Appends-keeps, Appends-none}
pub use Rattle.std.proofs.Crossing.{crosses}
pub use Rattle.std.proofs.lemmas.List.{append-nil, length-map, map-append, nil_from_length, take_all, take_more}
pub use Rattle.std.proofs.lemmas.List.Elements.{All-cons, All-nil, All-push, All-rest}
pub use Rattle.std.specs.List.{AllZip}
pub use Rattle.std.specs.Vec.Iter.{into_iter_items}
pub use denote.Param.Send.{sendable}
