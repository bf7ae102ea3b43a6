use Rattle.silt_merge.proofs.Common.{◌≡◌, ◌++◌, ◌*◌, ◌<◌, ◌||◌, ℕ, true, false, cond, nat_lt, Bool, IsTrue, List, [], Some, drop, get_or, length, take, inr, ap, refl, sym, ◌∙◌, arith, and_parts}
use Rattle.silt_merge.proofs.Common.{ltb-true, Holds, Content, entry_len, SortedDigest, HashState, due_rows, is_written, sorted_rows, entries_of, IsNextEntry, ReadsRow, AreEntries, regions_of}
use Rattle.silt_merge.proofs.Common.{MergeState, ends_entries, finding, hashed_after, is_behind, written_after, Choice, NoMemory, Source, All, take_at, most_more, choice_puts, Read}
use Rattle.silt_merge.proofs.Choosing.{offered}
use Rattle.silt_merge.proofs.Comparing.{compared_key}
use Rattle.silt_merge.proofs.Ending.{decided_to, held_with, merged_noted, merged_step, next_puts, nothing_left, offered_inside, skipped_inside}
use Rattle.silt_merge.proofs.Keys.{count_written}
use Rattle.silt_merge.proofs.Making.{made_added, one_most}
use Rattle.silt_merge.proofs.Reading.{each_source}
use Rattle.silt_merge.proofs.Stepped.{broke, decided_on, refused}
use Rattle.silt_merge.proofs.Taking.{entry_finds, entry_skipped, may_be}
use Rattle.silt_merge.proofs.Viewing.{state_of}
use Rattle.silt_merge.proofs.merge.Merge.decide_next.Goals as goal

pub ends_entries-ends-requires : goal.ends_entries-ends-requires
ends_entries-ends-requires g c = λ skips. skipped_inside _ _ c.self.inside.last _ _ _ (sym c.choose.ensures ∙ c.in-Some.is) c.next_entry-next.ensures.is_some (ap (λ b. b ||
    c.in-Some.choice.passes) (sym c.is_behind-is_behind.ensures) ∙ sym c.skips_entry-passes.ensures ∙ skips)

pub returns-in_default : goal.returns-in_default
returns-in_default g c =
    let merge : MergeState = state_of c.self.inside in
    let more = rw (← c.self.view_is) at c.requires.more in
    let all = rw (← c.self.view_is) at c.requires.gathered in
    absurd (nothing_left merge c.args.sorted.now _ _ more all c.first.ensures c.next_entry-next.ensures.is_some (sym c.choose.ensures ∙ c.in_default.is))

pub returns-then-is_behind : goal.returns-then-is_behind
returns-then-is_behind g c =
    let merge : MergeState = state_of c.self.inside in
    let all = rw (← c.self.view_is) at c.requires.gathered in
    let there = rw (← c.self.view_is) at c.requires.there in
    let sound = rw (← c.self.view_is) at c.requires.sound in
    let behind : is_behind merge.last c.next_entry-next.result ≡ true = sym c.is_behind-is_behind.ensures ∙ c.if-is_behind.true in
    let skips : c.skips_entry-passes.result ≡ true = c.skips_entry-passes.ensures ∙ ap (λ b. b || c.in-Some.choice.passes) c.if-is_behind.true in
    let inside = skipped_inside _ _ merge.last _ _ _ (sym c.choose.ensures ∙ c.in-Some.is) c.next_entry-next.ensures.is_some (ap (λ b. b || c.in-Some.choice.passes) behind) in
    let long : length (get_or merge.ahead 0 []) ≡ entry_len merge.shape = ap length (sym c.first-2.ensures.part) ∙ c.first-2.ensures.len (there inside) ∙ c.self.invariant.2 in
    let next : IsTrue (g.D.Disk.content c.args.disk.now).honest → AreEntries (entries_of (g.D.Disk.content c.args.disk.now) c.args.sorted.now) merge.passed merge.ahead
    → IsNextEntry (entries_of (g.D.Disk.content c.args.disk.now) c.args.sorted.now) merge.passed c.next_entry-next.new.out c.next_entry-next.result =
    λ honest. c.next_entry-next.ensures.next (entries_of (g.D.Disk.content c.args.disk.now) c.args.sorted.now) in
    let may = may_be _ _ _ _ _ _ _ _ (c.ends_entries-ends.ensures ∙ ap (λ b. ends_entries b merge.passed c.args.sorted.now.count) skips) c.first-2.ensures.part refl c.may_take-fits.ensures in
    rw (← c.self.view_is) (entry_skipped g.D.Disk _ _ _ _ merge _ c.may_take-fits.result c.next_entry-next.result c.next_entry-next.new.out _ _ c.self.invariant.0 all sound there
    c.next_entry-next.ensures.is_some next behind long may c.pass_entry.ensures.hashed (c.note.ensures.state
    ∙ ap (λ (m : MergeState). let r : MergeState = record m { damaged = finding c.may_take-fits.result SortedDigest } in r) c.pass_entry.ensures.state) c.note.ensures.held)

pub read_row-requires-clause-store : goal.read_row-requires-clause-store
read_row-requires-clause-store g c κs within =
    let merge : MergeState = state_of c.self.inside in
    let count = rw (← c.self.view_is) at c.requires.count in
    let offers = offered _ _ _ _ _ c.first.ensures (sym c.choose.ensures ∙ c.in-Some.is) (sym c.is_behind-is_behind.ensures ∙ c.if-is_behind.false) c.self.invariant.0.above in
    let below : (source : Source) → c.in-Some.choice.source ≡ Some source → source.store < length c.args.stores.now = λ source is.
    omega (arith, (offered_inside merge _ c.self.invariant.0 offers source is).store, count) in
    each_source _ below

pub read_row-requires-clause-slot : goal.read_row-requires-clause-slot
read_row-requires-clause-slot g c κs within =
    let merge : MergeState = state_of c.self.inside in
    let shapes = rw (← c.self.view_is) at c.requires.shapes in
    let offers = offered _ _ _ _ _ c.first.ensures (sym c.choose.ensures ∙ c.in-Some.is) (sym c.is_behind-is_behind.ensures ∙ c.if-is_behind.false) c.self.invariant.0.above in
    let below : (source : Source) → c.in-Some.choice.source ≡ Some source → All (λ (store : HashState). source.slot < 4 * store.shape.buckets) c.args.stores.now = λ source is k blank inside.
    let it = offered_inside merge _ c.self.invariant.0 offers source is in rw (← (shapes k blank inside)) at it.slot in
    each_source _ below

pub read_row-requires-clause-shapes : goal.read_row-requires-clause-shapes
read_row-requires-clause-shapes g c κs within =
    let shapes = rw (← c.self.view_is) at c.requires.shapes in
    λ k blank below. cc (shapes k blank below, c.deref_mut-2.ensures.len, c.self.invariant.3)

pub returns-in-Err : goal.returns-in-Err
returns-in-Err g c =
    rw (← c.self.view_is) (refused g.D.Disk _ _ _ _ (state_of c.self.inside) _ (Read c.in-Err.fault) refl c.self.invariant.0
    (rw (← c.self.view_is) at c.requires.sound) (refl, refl, c.in-Err.ensures.fault))

pub returns-in-Err-index_key : goal.returns-in-Err-index_key
returns-in-Err-index_key g c =
    let merge : MergeState = state_of c.self.inside in
    let content : Content = g.D.Disk.content c.args.disk.now in
    let all = rw (← c.self.view_is) at c.requires.gathered in
    let shapes = rw (← c.self.view_is) at c.requires.shapes in
    let rest : List ℕ = drop (length c.next_entry-next.new.out) c.self.inside.made.items in
    let bytes : c.deref_mut-2.result.now ≡ c.next_entry-next.new.out =
    c.deref_mut-2.ensures.value ∙ take_at c.next_entry-next.new.out rest c.self.inside.made.len (omega (arith, c.next_entry-next.ensures.len, c.deref_mut.ensures.len)) in
    let next : IsTrue content.honest → AreEntries (entries_of content c.args.sorted.now) merge.passed merge.ahead → IsNextEntry (entries_of content c.args.sorted.now) merge.passed
    c.next_entry-next.new.out c.next_entry-next.result = λ honest. c.next_entry-next.ensures.next (entries_of content c.args.sorted.now) in
    let read : IsTrue content.honest → ReadsRow merge.shape content.shown (regions_of c.args.stores.now) c.in-Some.choice.key.0 c.in-Some.choice.source c.next_entry-next.new.out
    c.read_row.new.out = λ honest. rw bytes at (c.in_default-read_row.ensures.row merge.shape shapes honest) in
    let both = and_parts (choice_puts c.in-Some.choice.source) (nat_lt merge.written merge.shape.sorted_capacity) (sym c.is_due-is_due.ensures ∙ c.in-Err-index_key.ensures.due) in
    let same : (let m : MergeState = record merge { index = c.index_key.new.index } in m) ≡ merge = ap (λ i. let m : MergeState = record merge { index = i } in m) c.in-Err-index_key.ensures.err in
    rw (← c.self.view_is) (refused g.D.Disk _ _ _ _ merge _ NoMemory same c.self.invariant.0 (rw (← c.self.view_is) at c.requires.sound) (
      refl,
      refl,
      λ was sound. inr (record {
        gathered = all;
        room = ltb-true merge.written merge.shape.sorted_capacity both.1;
        puts = λ honest is sound. next_puts content _ _ merge c.self.invariant.0 all is honest sound _ _ _ c.next_entry-next.new.out c.read_row.new.out c.first.ensures
            (sym c.choose.ensures ∙ c.in-Some.is) c.next_entry-next.ensures.is_some next read both.0;
      }),
    ))

pub returns-in-Err-write_due : goal.returns-in-Err-write_due
returns-in-Err-write_due g c =
    let merge : MergeState = state_of c.self.inside in
    let all = rw (← c.self.view_is) at c.requires.gathered in
    rw (← c.self.view_is) (broke g.D.Disk _ _ _ _ _ merge _ (rw (← c.self.view_is) at c.requires.sound) c.write_due.ensures.wrote.size all
    (record { shape = refl; region = refl; stores = refl }) (held_with merge _ _ _ _ c.index_key.ensures.most c.self.invariant.0) c.write_due.ensures.wrote.changes c.write_due.ensures.region
    c.in-Err-write_due.fault refl refl (most_more c.in-Err-write_due.ensures.wrote.made (one_most _) (omega arith)) c.in-Err-write_due.ensures.wrote.failures)

pub invariant_of-self-in-Ok : goal.invariant_of-self-in-Ok
invariant_of-self-in-Ok g c =
    (held_with (state_of c.self.inside) _ _ _ _ c.index_key.ensures.most c.self.invariant.0, c.self.invariant.1, c.self.invariant.2, c.self.invariant.3, c.self.invariant.4)

pub invariant_of-self-in-Err-write_due : goal.invariant_of-self-in-Err-write_due
invariant_of-self-in-Err-write_due g c =
    (held_with (state_of c.self.inside) _ _ _ _ c.index_key.ensures.most c.self.invariant.0, c.self.invariant.1, c.self.invariant.2, c.self.invariant.3, c.self.invariant.4)

pub mark_decided-requires-clause-offered : goal.mark_decided-requires-clause-offered
mark_decided-requires-clause-offered g c =
    offered _ _ _ _ _ c.first.ensures (sym c.choose.ensures ∙ c.in-Some.is) (sym c.is_behind-is_behind.ensures ∙ c.if-is_behind.false) c.self.invariant.0.above

pub mark_decided-requires-clause-room : goal.mark_decided-requires-clause-room
mark_decided-requires-clause-room g c = λ due.
    let merge : MergeState = state_of c.self.inside in
    let both = and_parts (choice_puts c.in-Some.choice.source) (nat_lt merge.written merge.shape.sorted_capacity) (sym c.is_due-is_due.ensures ∙ due) in
    ltb-true merge.written merge.shape.sorted_capacity both.1

pub returns-in-Ok : goal.returns-in-Ok
returns-in-Ok g c =
    let merge : MergeState = state_of c.self.inside in
    let large = rw (← c.self.view_is) at c.requires.size in
    let sound = rw (← c.self.view_is) at c.requires.sound in
    let fits : Bool = c.may_take-fits.result in
    let all = rw (← c.self.view_is) at c.requires.gathered in
    let there = rw (← c.self.view_is) at c.requires.there in
    let shapes = rw (← c.self.view_is) at c.requires.shapes in
    let choice : Choice = c.in-Some.choice in
    let due : Bool = c.is_due-is_due.result in
    let old : Content = g.D.Disk.content c.args.disk.now in
    let new : Content = g.D.Disk.content c.write_due.new.disk in
    let made = sym c.choose.ensures ∙ c.in-Some.is in
    let rest : List ℕ = drop (length c.next_entry-next.new.out) c.self.inside.made.items in
    let bytes : c.deref_mut-2.result.now ≡ c.next_entry-next.new.out =
    c.deref_mut-2.ensures.value ∙ take_at c.next_entry-next.new.out rest c.self.inside.made.len (omega (arith, c.next_entry-next.ensures.len, c.deref_mut.ensures.len)) in
    let row_bytes : c.deref.result.now ≡ c.read_row.new.out = c.deref.ensures.value ∙ take_at c.read_row.new.out _ _ (omega (arith, c.read_row.ensures.len, c.deref_mut-2.ensures.len)) in
    let hashed_bytes : c.deref-in-Ok.result.now ≡ c.read_row.new.out =
    c.deref-in-Ok.ensures.value ∙ take_at c.read_row.new.out _ _ (omega (arith, c.read_row.ensures.len, c.deref_mut-2.ensures.len)) in
    let next : IsTrue old.honest → AreEntries (entries_of old c.args.sorted.now) merge.passed merge.ahead → IsNextEntry (entries_of old c.args.sorted.now) merge.passed
    c.next_entry-next.new.out c.next_entry-next.result = λ honest. c.next_entry-next.ensures.next (entries_of old c.args.sorted.now) in
    let read : IsTrue old.honest → ReadsRow merge.shape old.shown (regions_of c.args.stores.now) choice.key.0 choice.source c.next_entry-next.new.out c.read_row.new.out
    = λ honest. rw bytes at (c.in_default-read_row.ensures.row merge.shape shapes honest) in
    let written : IsTrue old.honest → sorted_rows merge.shape merge.region c.in-Ok.field-0 new.shown ≡ take merge.shape.sorted_capacity
    (sorted_rows merge.shape merge.region merge.written old.shown ++ due_rows due c.read_row.new.out) = λ honest.
    c.in-Ok.ensures.written honest ∙ ap (λ b. take merge.shape.sorted_capacity (sorted_rows merge.shape merge.region merge.written old.shown ++ due_rows due b)) row_bytes in
    let hashes : (hashed : List ℕ) → Holds merge.hasher hashed → Holds c.hash_entry.new.hasher (hashed_after due hashed c.read_row.new.out)
    = λ hashed holds. rw hashed_bytes at (c.hash_entry.ensures hashed holds) in
    let offers = offered _ _ _ _ _ c.first.ensures made (sym c.is_behind-is_behind.ensures ∙ c.if-is_behind.false) c.self.invariant.0.above in
    let own : c.skips_entry-passes.result ≡ choice.passes = c.skips_entry-passes.ensures ∙ ap (λ b. b || choice.passes) c.if-is_behind.false in
    let inside : choice.passes ≡ true → merge.passed < c.args.sorted.now.count = λ passes. skipped_inside _ _ merge.last _ _ _ made c.next_entry-next.ensures.is_some
    (ap (λ b. b || choice.passes) (sym c.is_behind-is_behind.ensures ∙ c.if-is_behind.false) ∙ passes) in
    let long : choice.passes ≡ true → length (get_or merge.ahead 0 []) ≡ entry_len merge.shape =
    λ passes. ap length (sym c.first-2.ensures.part) ∙ c.first-2.ensures.len (there (inside passes)) ∙ c.self.invariant.2 in
    let may = may_be _ _ _ _ _ _ _ _ (c.ends_entries-ends.ensures ∙ ap (λ b. ends_entries b merge.passed c.args.sorted.now.count) own) c.first-2.ensures.part refl c.may_take-fits.ensures in
    let after : MergeState =
    decided_to merge choice c.mark_decided.new.self.waiting due c.index_key.new.index c.mark_decided.new.self.input c.hash_entry.new.hasher in
    let noted : MergeState = record after { damaged = finding fits SortedDigest } in
    let is : c.note-in-Ok.new.self ≡ noted = c.note-in-Ok.ensures.state
    ∙ ap (λ (m : MergeState). let r : MergeState = record m { damaged = finding fits SortedDigest } in r) c.mark_decided.ensures.state in
    let counted = count_written merge.shape.sorted_capacity merge.written (choice_puts choice.source) due c.in-Ok.field-0 c.is_due-is_due.ensures c.in-Ok.ensures.count in
    rw (← c.self.view_is, is) (decided_on g.D.Disk _ _ _ _ _ merge noted sound c.write_due.ensures.wrote.size all (record { shape = refl; region = refl; stores = refl }) (rw is at
    c.note-in-Ok.ensures.held) c.write_due.ensures.wrote.changes c.write_due.ensures.region due tt (inr (choice.key, refl, offers.above)) refl (made_added (cond (is_written due merge.written
    merge.shape.sorted_capacity) 1 0) c.in-Ok.field-0 merge.written (written_after due merge.written) c.in-Ok.ensures.count counted c.in-Ok.ensures.wrote.made) c.in-Ok.ensures.wrote.failures
    (omega arith) (λ was. merged_noted _ _ _ after _ (merged_step old new _ _ merge c.self.invariant.0 c.next_entry-next.ensures.held large c.write_due.ensures.region _ _ choice
    c.next_entry-next.new.out c.read_row.new.out c.mark_decided.new.self.waiting due c.in-Ok.field-0 c.index_key.new.index _ _ all c.first.ensures made c.next_entry-next.ensures.is_some next
    there read c.is_due-is_due.ensures c.in-Ok.ensures.count written c.mark_decided.ensures.gone c.in_default-index_key.ensures.index c.mark_decided.ensures.hashed hashes was)) (compared_key
    _ _ _ merge fits SortedDigest sound choice.passes _ _ _ _ _ _ _ _ c.self.invariant.0 all long may c.mark_decided.ensures.hashed) (entry_finds old _ _ _ merge choice.passes fits all there may))
