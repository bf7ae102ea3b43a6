use Rattle.silt_dump.proofs.Common.{ℕ, List, ◌≡◌, ◌<◌, ◌≤◌, ◌+◌, ◌-◌, true, false, ap, sym, subst, ◌∙◌, arith, Content, entry_len, entry_of, StoredRow, entry_row, Key, HasEntry, SortedState}
use Rattle.silt_dump.proofs.Common.{entries_of, key_of_row, IsAbove, HoldsPiece, bytes_at, key_at, Piece}
use Rattle.silt_dump.proofs.piece.Piece.next_key.Goals as goal

-- the key that was read at a place that a piece has
key_there : (content : Content) (entries : SortedState) (piece : Piece) (place : ℕ) (bytes : List ℕ) → HoldsPiece content entries piece → piece.first ≤ place → place < piece.first + piece.count
    → bytes ≡ bytes_at (entry_len entries.shape) piece place → (key : Key) (value : List ℕ) → (key, value) ≡ entry_of bytes → key ≡ key_at (entries_of content entries) place
key_there content entries piece place bytes holds from there is key value read =
    let rows : List StoredRow = entries_of content entries in
    let here : piece.first + (place - piece.first) ≡ place = omega (arith, from) in
    let entry : HasEntry rows place (bytes_at (entry_len entries.shape) piece place) =
    subst (λ (n : ℕ). HasEntry rows n (bytes_at (entry_len entries.shape) piece place)) here (holds (place - piece.first) (omega (arith, from, there))) in
    ap (λ (pair : Key × List ℕ). pair.0) read
    ∙ ap (λ (b : List ℕ). record { 0 = b }) (ap (λ (b : List ℕ). (entry_row b).key) is ∙ sym (key_of_row rows place (entry_row (bytes_at (entry_len entries.shape) piece place)) entry))

pub returns-then-is_above-clause-key : goal.returns-then-is_above-clause-key
returns-then-is_above-clause-key g c = λ honest holds.
    key_there (g.D.Disk.content c.args.disk.now) c.args.entries.now c.fill.new.self c.args.place c.entry.result.now (c.in_default.ensures.holds honest holds)
    c.in_default.ensures.at.from c.in_default.ensures.there c.entry.ensures c.entry_of.result.0 c.entry_of.result.1.now c.entry_of.ensures

pub returns-else-is_above-clause-cause : goal.returns-else-is_above-clause-cause
returns-else-is_above-clause-cause g c = λ can.
    let its : c.entry_of.result.0 ≡ key_at (entries_of (g.D.Disk.content c.args.disk.now) c.args.entries.now) c.args.place =
    key_there (g.D.Disk.content c.args.disk.now) c.args.entries.now c.fill.new.self c.args.place c.entry.result.now (c.in_default.ensures.holds can.honest can.holds)
    c.in_default.ensures.at.from c.in_default.ensures.there c.entry.ensures c.entry_of.result.0 c.entry_of.result.1.now c.entry_of.ensures in
    let inside : c.args.place < c.args.entries.now.count = omega (arith, c.if-place-len.false, c.len.ensures.value, c.requires.at.to, c.requires.at.fits.within) in
    let yes : c.is_above.result ≡ true = c.is_above.ensures.1 (subst (IsAbove c.args.last.now) (sym its) (can.above inside)) in
    absurd (let no : false ≡ true = sym c.if-is_above.false ∙ yes in cc)
