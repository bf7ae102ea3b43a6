-- The names of the crates below and of specs/ that several proofs cite, passed on from one place. Declares nothing.
pub use Rattle.std.proofs.Common.{Bool, Err, List, None, Ok, Option, Result, Some, [], ap, append_assoc, arith, cond, drop, false, get_or, inl, inr, length, not, refl, rules, subst, suc, sym, take}
pub use Rattle.std.proofs.Common.{true, zero, ℕ, ◌%◌, ◌++◌, ◌+◌, ◌-◌, ◌<◌, ◌==◌, ◌∙◌, ◌∷◌, ◌≡◌, ◌≤◌}
pub use Rattle.byteorder.specs.Endian.{big_number}
pub use Rattle.silt_event.specs.Events.{AnswersEach, HasValueOf, PlainReply}
pub use Rattle.silt_event.specs.Queries.{Answer, AnswersQuery, Query, does}
pub use Rattle.silt_event.specs.declared.event.Event.{Event}
pub use Rattle.silt_event.specs.declared.event.Event.TheVariants.{Delete, Get, Put}
pub use Rattle.silt_resp.specs.Arguments.{keys_named, puts_named}
pub use Rattle.silt_resp.specs.Batches.{GathersAsked, HoldsAsked, HoldsClient, IsBehind, due_seen, part_text, part_texts, tail_parts, tail_queries}
pub use Rattle.silt_resp.specs.Buffers.{HoldsStream, HoldsWith, HoldsWords, IsPiece, NoFeed, TakesInput}
pub use Rattle.silt_resp.specs.Commands.{Asked, says, shown_byte}
pub use Rattle.silt_resp.specs.Info.{is_section}
pub use Rattle.silt_resp.specs.Sessions.{AnswersCommands, AnswersSomeCommands, Client, EndsWith, ServesCommands, all_queries, asked_after, asked_each, asked_texts, client_after, new_client}
pub use Rattle.silt_resp.specs.Stream.{Command, Stream, broken, bulk, byte_taken, closed, command_read, commands_after, goes_on, inline_words, line, line_kind, line_limit, long, longest_word}
pub use Rattle.silt_resp.specs.Stream.{most_bytes, next_stream, spaced_words, start, stream_after, too_long, whole, word_ended, word_grown, word_of}
pub use Rattle.silt_resp.specs.declared.batch.Batch.{Batch}
pub use Rattle.silt_resp.specs.declared.command_buffer.BufferPlace.TheVariants.{Broken, Line}
pub use Rattle.silt_resp.specs.declared.command_buffer.CommandBuffer.{CommandBuffer}
pub use Rattle.silt_resp.specs.declared.fault.ProtocolFault.{ProtocolFault}
pub use Rattle.silt_resp.specs.declared.heads.LineKind.TheVariants.{WordLength}
pub use Rattle.silt_resp.specs.declared.session.RespEnd.{RespEnd}
pub use Rattle.silt_resp.specs.declared.session.RespEnd.TheVariants.{Closed, End, ReadFault}
pub use Rattle.silt_resp.specs.declared.settings.Settings.{Settings}
pub use Rattle.silt_resp.specs.declared.words.Extent.TheVariants.{FitsValues}
pub use Rattle.silt_resp.specs.declared.words.Span.TheVariants.{Whole}
pub use Rattle.silt_wire.proofs.Answering.{IsBeginning-all}
pub use Rattle.silt_wire.specs.Lines.{words_of}
pub use Rattle.silt_wire.specs.Sessions.{IsBeginning}
pub use Rattle.std.proofs.Math.ListN.{drop_of_length-le}
pub use Rattle.std.proofs.Math.Seq.{drop-cons, take-add}
pub use Rattle.std.proofs.lemmas.Bool.{cases_lt}
pub use Rattle.std.proofs.lemmas.Grind.{common_steps}
pub use Rattle.std.proofs.lemmas.List.{drop-append-le, drop_at, length-drop, length-take-le, take-append-le, take_all, take_at}
pub use Rattle.std.proofs.lemmas.List.Elements.{All-head, All-push, All-same, All-tail}
pub use Rattle.std.proofs.lemmas.Option.{slice_get-get_or}
pub use Rattle.std.specs.Io.KnownBytes.{Appends, Consumes}
pub use Rattle.std.specs.List.{list_all, list_any}
pub use Rattle.std.specs.Prelude.{All, if◌then◌else◌, nat_le, nat_lt, slice_get, slice_index}
