use Rattle.silt_merge.proofs.Common.{◌≡◌, ℕ, ◌++◌, List, length, take, drop, sym, subst, arith, entry_len, StoredRow, entries_of, AreEntries, parts_from, take_at, HoldsEntries}
use Rattle.silt_merge.proofs.Pieces.{are_entries, part_count}
use Rattle.silt_merge.proofs.piece.Piece.read_entries.Goals as goal

pub returns-clause-entries : goal.returns-clause-entries
returns-clause-entries g c = λ honest.
    let rows : List StoredRow = entries_of (g.D.Disk.content c.args.disk.now) c.args.entries.now in
    let new : List ℕ = c.entries_into.new.buffer in
    let len_is : c.self.inside.len ≡ entry_len c.args.entries.now.shape = rw (← c.self.view_is) at c.requires.len in
    let holds : HoldsEntries rows c.args.place c.min-count.result c.self.inside.len new =
    subst (λ (n : ℕ). HoldsEntries rows c.args.place c.min-count.result n new) (sym len_is) (c.in_ok-entries_into.ensures.entries honest) in
    let kept : take c.self.inside.bytes.len (new ++ drop (length new) c.self.inside.bytes.items) ≡ new = take_at new _ _ (omega (arith, c.entries_into.ensures.len, c.deref_mut.ensures.len)) in
    subst (λ (b : List ℕ). AreEntries rows c.args.place (parts_from b c.self.inside.len 0 c.min-count.result)) (sym kept) (are_entries rows new c.args.place c.self.inside.len c.min-count.result holds)

pub returns-clause-some : goal.returns-clause-some
returns-clause-some g c =
    let count = part_count (take c.self.inside.bytes.len (c.entries_into.new.buffer ++ drop (length c.entries_into.new.buffer) c.self.inside.bytes.items)) c.self.inside.len 0 c.min-count.result in
    omega (arith, count, c.min-count.ensures, c.self.invariant.1, c.requires.place, c.len.ensures.value)
