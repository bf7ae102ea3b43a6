use Rattle.silt_merge.proofs.Common.{ℕ, ◌*◌, length, ap, ◌∙◌, arith, entry_len, entries_of, rules, length-take-le}
use Rattle.silt_merge.proofs.Pieces.{front_fits, holds_front}
use Rattle.silt_merge.proofs.piece.entries_into.Goals as goal

pub slice_bounds-read_entries-end : goal.slice_bounds-read_entries-end
slice_bounds-read_entries-end g c = front_fits _ _ _ _ (c.entry_len-len.ensures.value ∙ ap entry_len c.geometry.ensures) c.requires.buffer

pub read_entries-requires-clause-out : goal.read_entries-requires-clause-out
read_entries-requires-clause-out g c = search (rules, arith, front_fits, length-take-le)

pub returns-clause-entries : goal.returns-clause-entries
returns-clause-entries g c = λ honest.
    let len_is = c.entry_len-len.ensures.value ∙ ap entry_len c.geometry.ensures in
    let fits = front_fits c.args.count c.entry_len-len.result (entry_len c.args.entries.now.shape) (length c.args.buffer.now) len_is c.requires.buffer in
    let long = c.read_entries.auto.out ∙ length-take-le _ c.args.buffer.now fits ∙ ap (λ (n : ℕ). c.args.count * n) len_is in
    holds_front (entries_of (g.D.Disk.content c.args.disk.now) c.args.entries.now) c.args.place c.args.count (entry_len c.args.entries.now.shape)
    c.read_entries.new.out _ (omega (arith, long)) (c.in_ok-read_entries.ensures.entries honest)
