use Rattle.silt_dump.proofs.Common.{IsTrue, ◌+◌, Option, Some, None, Ok, ap, subst, ◌∙◌, BTreeMap, Key, GaveAny, CanGoOn, GoesTo, Piece, Spot, EntryStream}
use Rattle.silt_engine.proofs.Exits.{on_error}
use Rattle.silt_dump.proofs.Passing.{IsEntry, can_go_on, ends_early, entry_next, entry_passes, is_entry, none_next, none_taken, row_next, row_passes}
use Rattle.silt_dump.proofs.stream.EntryStream.pass.Goals as goal

pub returns-in_err-entry-clause-cause : goal.returns-in_err-entry-clause-cause
returns-in_err-entry-clause-cause g c =
    let content = g.D.Disk.content c.args.disk.now in
    let old : EntryStream = c.args.self.now in
    let entries = c.entries-entries.result.now in
    on_error c.from_residual.result c.in_err-entry.field-0.0 _ c.from_residual.ensures.1
    (ends_early (IsTrue content.honest) (CanGoOn content entries old.piece old.place old.last) (GaveAny g.D.Disk.gave c.args.disk.now) c.in_err-entry.field-0.0
    (can_go_on content old entries c.entries-entries.ensures c.requires.streams) c.in_err-entry.ensures.cause)

pub returns-in-Ok-clause-passes : goal.returns-in-Ok-clause-passes
returns-in-Ok-clause-passes g c =
    let content = g.D.Disk.content c.args.disk.now in
    let old : EntryStream = c.args.self.now in
    let piece : Piece = c.next_key.new.self in
    let is : IsEntry content old piece c.in_ok-entry.entry =
    is_entry content old c.entries-entries.result.now piece c.in_ok-entry.entry c.entries-entries.ensures c.requires.streams c.in_ok-entry.ensures.at
    (λ none. c.next_key.ensures.none (c.in_ok-entry.was ∙ ap (λ (e : Option Key). Ok e) none)) c.in_ok-entry.ensures.there c.in_ok-entry.ensures.holds c.in_ok-entry.ensures.key in
    row_passes content old c.requires.streams piece c.in_ok-entry.entry is c.take_lowest.new.spots c.in-Some-default.key c.in-Some-default.spot c.in-Some-default.ensures
    c.has_key-is_entry.result c.has_key-is_entry.ensures c.pass_row.new.self c.in-Ok.ensures.goes

pub returns-in-Ok-clause-next : goal.returns-in-Ok-clause-next
returns-in-Ok-clause-next g c = λ honest.
    let content = g.D.Disk.content c.args.disk.now in
    let old : EntryStream = c.args.self.now in
    let piece : Piece = c.next_key.new.self in
    let is : IsEntry content old piece c.in_ok-entry.entry =
    is_entry content old c.entries-entries.result.now piece c.in_ok-entry.entry c.entries-entries.ensures c.requires.streams c.in_ok-entry.ensures.at
    (λ none. c.next_key.ensures.none (c.in_ok-entry.was ∙ ap (λ (e : Option Key). Ok e) none)) c.in_ok-entry.ensures.there c.in_ok-entry.ensures.holds c.in_ok-entry.ensures.key in
    row_next content old c.requires.streams piece c.in_ok-entry.entry is c.take_lowest.new.spots c.in-Some-default.key c.in-Some-default.spot
    c.in-Some-default.ensures honest c.in-Ok.found c.pass_row.new.value
    (λ yes. c.pass_row.ensures.found honest (c.in-Ok.is ∙ ap Ok yes)) (λ no. c.pass_row.ensures.none honest (c.in-Ok.is ∙ ap Ok no))

pub returns-in-None-Some-clause-passes : goal.returns-in-None-Some-clause-passes
returns-in-None-Some-clause-passes g c =
    let content = g.D.Disk.content c.args.disk.now in
    let old : EntryStream = c.args.self.now in
    let piece : Piece = c.next_key.new.self in
    let is : IsEntry content old piece c.in_ok-entry.entry =
    is_entry content old c.entries-entries.result.now piece c.in_ok-entry.entry c.entries-entries.ensures c.requires.streams c.in_ok-entry.ensures.at
    (λ none. c.next_key.ensures.none (c.in_ok-entry.was ∙ ap (λ (e : Option Key). Ok e) none)) c.in_ok-entry.ensures.there c.in_ok-entry.ensures.holds c.in_ok-entry.ensures.key in
    let none = none_taken c.in_ok-entry.entry (Some c.in-None-Some.key) old.spots c.take_lowest.new.spots c.take_lowest.result c.take_lowest.ensures c.in-None-Some.is-0 c.in-None-Some.is-1 in
    let some : IsEntry content old piece (Some c.in-None-Some.key) = subst (IsEntry content old piece) c.in-None-Some.is-1 is in
    entry_passes content old c.requires.streams piece c.in-None-Some.key some none.1 c.pass_entry.new.self
    (subst (λ (spots : BTreeMap Key Spot). GoesTo (record old { spots = spots; piece = piece }) c.pass_entry.new.self (old.place + 1) c.in-None-Some.key) none.0 c.pass_entry.ensures.goes)

pub returns-in-None-Some-clause-next : goal.returns-in-None-Some-clause-next
returns-in-None-Some-clause-next g c = λ honest.
    let content = g.D.Disk.content c.args.disk.now in
    let old : EntryStream = c.args.self.now in
    let piece : Piece = c.next_key.new.self in
    let is : IsEntry content old piece c.in_ok-entry.entry =
    is_entry content old c.entries-entries.result.now piece c.in_ok-entry.entry c.entries-entries.ensures c.requires.streams c.in_ok-entry.ensures.at
    (λ none. c.next_key.ensures.none (c.in_ok-entry.was ∙ ap (λ (e : Option Key). Ok e) none)) c.in_ok-entry.ensures.there c.in_ok-entry.ensures.holds c.in_ok-entry.ensures.key in
    let none = none_taken c.in_ok-entry.entry (Some c.in-None-Some.key) old.spots c.take_lowest.new.spots c.take_lowest.result c.take_lowest.ensures c.in-None-Some.is-0 c.in-None-Some.is-1 in
    let some : IsEntry content old piece (Some c.in-None-Some.key) = subst (IsEntry content old piece) c.in-None-Some.is-1 is in
    entry_next content old c.requires.streams piece c.in-None-Some.key some none.1 honest c.pass_entry.new.value c.pass_entry.ensures.value

pub returns-in-None-None-clause-next : goal.returns-in-None-None-clause-next
returns-in-None-None-clause-next g c = λ honest.
    let content = g.D.Disk.content c.args.disk.now in
    let old : EntryStream = c.args.self.now in
    let piece : Piece = c.next_key.new.self in
    let is : IsEntry content old piece c.in_ok-entry.entry =
    is_entry content old c.entries-entries.result.now piece c.in_ok-entry.entry c.entries-entries.ensures c.requires.streams c.in_ok-entry.ensures.at
    (λ none. c.next_key.ensures.none (c.in_ok-entry.was ∙ ap (λ (e : Option Key). Ok e) none)) c.in_ok-entry.ensures.there c.in_ok-entry.ensures.holds c.in_ok-entry.ensures.key in
    let all = none_taken c.in_ok-entry.entry None old.spots c.take_lowest.new.spots c.take_lowest.result c.take_lowest.ensures c.in-None-None.is-0 c.in-None-None.is-1 in
    none_next content old c.requires.streams piece (subst (IsEntry content old piece) c.in-None-None.is-1 is) all.1 honest c.args.value.now
