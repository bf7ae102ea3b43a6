use Rattle.silt_dump.proofs.Common.{ℕ, List, ◌≡◌, ◌<◌, ◌≤◌, ◌+◌, ◌-◌, ◌*◌, drop, length, take, ap, sym, ◌∙◌, arith, length-drop, take_all, entry_len, SortedState, part_inside, IsAtPlace, bytes_at}
use Rattle.silt_dump.proofs.Common.{Piece}
use Rattle.std.proofs.lemmas.List.Edits.{length-between}
use Rattle.silt_dump.proofs.stream.EntryStream.pass_entry.Goals as goal

-- the bytes of an entry that a piece has are as long as an entry
entry_long : (entries : SortedState) (piece : Piece) (place : ℕ) → IsAtPlace entries piece place → place < piece.first + piece.count
    → length (bytes_at (entry_len entries.shape) piece place) ≡ entry_len entries.shape
entry_long entries piece place at there =
    let len = entry_len entries.shape in
    let below : place - piece.first < piece.most = omega (arith, there, at.from, at.fits.most) in
    let room : 0 + piece.most * len ≤ length piece.bytes.items = omega (arith, at.fits.room, piece.bytes.ok.0) in
    let inside = part_inside 0 len piece.most (place - piece.first) (length piece.bytes.items) room below in
    omega (arith, length-between piece.bytes.items ((place - piece.first) * len) ((place - piece.first) * len + len) (omega (arith, inside)))

-- what is behind its key
behind_key : (entries other : SortedState) (piece : Piece) (place : ℕ) (bytes : List ℕ) → other ≡ entries → IsAtPlace entries piece place
    → place < piece.first + piece.count → bytes ≡ bytes_at (entry_len other.shape) piece place
    → (length (take (length bytes - 20) (drop 20 bytes)) ≡ entries.shape.value_len) × (take (length bytes - 20) (drop 20 bytes) ≡ drop 20 (bytes_at (entry_len entries.shape) piece place))
behind_key entries other piece place bytes same at there is =
    let its : bytes ≡ bytes_at (entry_len entries.shape) piece place = is ∙ ap (λ (e : SortedState). bytes_at (entry_len e.shape) piece place) same in
    let long : length bytes ≡ entry_len entries.shape = ap (λ (b : List ℕ). length b) its ∙ entry_long entries piece place at there in
    let all : take (length bytes - 20) (drop 20 bytes) ≡ drop 20 bytes = take_all (length bytes - 20) (drop 20 bytes) (omega (arith, length-drop 20 bytes)) in
    (omega (arith, ap (λ (b : List ℕ). length b) all, length-drop 20 bytes, long), all ∙ ap (drop 20) its)

pub copy_from_slice-requires : goal.copy_from_slice-requires
copy_from_slice-requires c =
    let self = c.args.self.now in
    c.requires.value ∙ sym (behind_key self.held.sorted.sorted c.entries.result.now self.piece self.place c.entry-entry.result.now
    c.entries.ensures c.requires.at c.requires.there c.entry-entry.ensures).0

pub returns-clause-value : goal.returns-clause-value
returns-clause-value c =
    let self = c.args.self.now in
    c.copy_from_slice.ensures.after
    ∙ (behind_key self.held.sorted.sorted c.entries.result.now self.piece self.place c.entry-entry.result.now c.entries.ensures c.requires.at c.requires.there c.entry-entry.ensures).1
