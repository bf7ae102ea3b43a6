use Rattle.silt_resp.proofs.Common.{◌≡◌, ◌≤◌, ◌+◌, length, arith, FitsValues, most_bytes}
use Rattle.silt_resp.proofs.Kept.{keeps_more}
use Rattle.silt_resp.proofs.words.WordBuffer.keep.Goals as goal

pub returns-clause-keeps : goal.returns-clause-keeps
returns-clause-keeps c = λ words h room.
    let old = c.args.self.now in
    let bytes = old.bytes.items in
    let word = c.args.word.now in
    let fits : old.extent ≡ FitsValues = c.in-FitsValues.is in
    let start : c.len-start.result ≡ length bytes = omega (arith, old.bytes.ok.0, c.len-start.ensures) in
    let few : length bytes + length word ≤ most_bytes = omega (arith, start, c.if-start-word-gt-MOST_BYTES.false) in
    let more = keeps_more bytes word old.spans.items words (rw fits at h) room c.if-word-gt-LONGEST_WORD.false few in
    rw (fits, c.in_ok-extend_from_slice.ensures.items, start) more
