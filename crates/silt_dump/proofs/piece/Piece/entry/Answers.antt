use Rattle.silt_dump.proofs.Common.{ℕ, ◌≡◌, ◌<◌, ◌≤◌, ◌-◌, ◌*◌, length, ap, ◌∙◌, arith, entry_len, part_inside}
use Rattle.silt_dump.proofs.piece.Piece.entry.Goals as goal

pub slice_bounds-result-end : goal.slice_bounds-result-end
slice_bounds-result-end c =
    let piece = c.args.self.now in
    let i : ℕ = c.args.place - piece.first in
    let below : i < piece.most = omega (arith, c.requires.there, c.requires.at.from, c.requires.at.fits.most) in
    let len_is : c.entry_len-len.result ≡ entry_len c.args.entries.now.shape = c.entry_len-len.ensures.value ∙ ap entry_len c.geometry.ensures in
    let long : piece.most * c.entry_len-len.result ≤ length c.deref.result.now = omega (arith, c.deref.ensures.len, c.requires.at.fits.room, ap (λ (n : ℕ). piece.most * n) len_is) in
    omega (arith, part_inside 0 c.entry_len-len.result piece.most i (length c.deref.result.now) (omega (arith, long)) below)
