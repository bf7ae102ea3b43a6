use Rattle.silt_dump.proofs.Common.{ℕ, ◌*◌, length, ap, ◌∙◌, arith, length-take-le, entry_len, entries_of}
use Rattle.silt_merge.proofs.Pieces.{front_fits, holds_front}
use Rattle.silt_dump.proofs.piece.entries_into.Goals as goal

pub returns-clause-entries : goal.returns-clause-entries
returns-clause-entries g c = λ honest.
    let len_is = c.entry_len-len.ensures.value ∙ ap entry_len c.geometry.ensures in
    let fits = front_fits c.args.count c.entry_len-len.result (entry_len c.args.entries.now.shape) (length c.args.buffer.now) len_is c.requires.buffer in
    let long = c.read_entries.auto.out ∙ length-take-le _ c.args.buffer.now fits ∙ ap (λ (n : ℕ). c.args.count * n) len_is in
    holds_front (entries_of (g.D.Disk.content c.args.disk.now) c.args.entries.now) c.args.place c.args.count (entry_len c.args.entries.now.shape)
    c.read_entries.new.out _ (omega (arith, long)) (c.in_ok-read_entries.ensures.entries honest)
