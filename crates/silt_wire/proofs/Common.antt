-- The names of the crates below and of specs/ that several proofs cite, passed on from one place. Declares nothing.
pub use Rattle.std.proofs.Common.{Bool, Bor, Err, IfOk, List, None, Ok, OnErr, OnOk, Option, Result, Some, [], ap, append_assoc, arith, cond, drop, false, flat_map, get_or, inl, inr, is_some}
pub use Rattle.std.proofs.Common.{length, map, option_map, refl, rules, string_bytes, subst, suc, sym, take, take-append-drop, true, zero, ℕ, ◌&&◌, ◌*◌, ◌++◌, ◌+◌, ◌-◌, ◌<◌, ◌==◌, ◌^◌, ◌∙◌, ◌∷◌}
pub use Rattle.std.proofs.Common.{◌≡◌, ◌≢◌, ◌≤◌, ◌⊎◌}
pub use Rattle.silt_event.specs.Events.{AnswersEach, PlainReply}
pub use Rattle.silt_event.specs.Queries.{Answer, AnswersQuery, Query, admin, does, replies, says}
pub use Rattle.silt_event.specs.declared.event.Event.{Event}
pub use Rattle.silt_wire.specs.Batches.{IsAnswerable, requests, tail_after, tail_asked, valid}
pub use Rattle.silt_wire.specs.Facts.{count_names, fact_line}
pub use Rattle.silt_wire.specs.Http.{Guards, IsHttp, ends_line, handed_on, http_mark, is_passed, is_turned_away, line_after, open_after}
pub use Rattle.silt_wire.specs.LineBuffer.{HoldsBytes, TakesPiece}
pub use Rattle.silt_wire.specs.Sessions.{AnswersAll, AnswersSome, Ends, IsBeginning, IsCut, ServesAll, ServesSome, SessionState, answer_lines, asks, line_of, lines_after, queries_of, rest_after}
pub use Rattle.silt_wire.specs.Sessions.{texts_of}
pub use Rattle.silt_wire.specs.declared.batch.Tail.{Tail}
pub use Rattle.silt_wire.specs.declared.line.LineFault.{LineFault}
pub use Rattle.silt_wire.specs.declared.line_buffer.LineBuffer.{LineBuffer}
pub use Rattle.silt_wire.specs.declared.sessions.SessionEnd.{SessionEnd}
pub use Rattle.silt_wire.specs.declared.sessions.SessionEnd.TheVariants.{End, NoMemory, ReadFault}
pub use Rattle.std.proofs.lemmas.Bool.{cases_Bool, eqb-true, not-false, not-true}
pub use Rattle.std.proofs.lemmas.Grind.{common_steps, flat_map-append}
pub use Rattle.std.proofs.lemmas.List.{append-nil, drop_more, get_or-take, length-drop, length-take-le, map-append, take-take, take_all, take_more}
pub use Rattle.std.proofs.lemmas.List.Sums.{fails_before_first}
pub use Rattle.std.proofs.lemmas.Result.{on_err_weaker, on_ok_weaker}
pub use Rattle.std.specs.Io.KnownBytes.{Appends, Consumes, IsAtEnd, Keeps}
pub use Rattle.std.specs.List.{list_all, position, zip}
pub use Rattle.std.specs.Prelude.{IfNone, IfSome, MatchBool, nat_lt}
pub use Rattle.std.specs.Str.Parse.{AllDigits, digits_value}
