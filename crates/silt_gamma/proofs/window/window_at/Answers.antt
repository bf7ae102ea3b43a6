use Rattle.std.proofs.Common.{◌/◌, ◌%◌, ◌≤◌, ◌++◌, ap, ◌∙◌, length, take, drop, replicate, arith, length-drop}
use Rattle.std.proofs.lemmas.List.{drop-replicate}
use Rattle.silt_gamma.specs.Bits.{bits_of}
use Rattle.silt_gamma.proofs.Words.{window_inside, window_padded}
use Rattle.silt_gamma.proofs.window.window_at.Goals as goal

pub returns-then-rest-ge9 : goal.returns-then-rest-ge9
returns-then-rest-ge9 c =
    let at = c.args.at in
    let bytes = c.args.bytes.now in
    let size = length-drop (at / 8) bytes in
    let same = ap length c.split_at.ensures.back in
    c.front_window.ensures ∙ ap (λ xs. take 64 (drop (at % 8) (bits_of xs))) c.split_at.ensures.back
    ∙ window_inside at (at / 8) (at % 8) bytes (omega arith) (omega arith) (omega arith)

pub returns : goal.returns
returns c =
    let at = c.args.at in
    let bytes = c.args.bytes.now in
    let size = length-drop (at / 8) bytes in
    let r = length c.split_at.result.1.now in
    let same = ap length c.split_at.ensures.back in
    let short : r ≤ 9 = omega arith in
    c.front_window-2.ensures
    ∙ ap (λ xs. take 64 (drop (at % 8) (bits_of (xs ++ drop r (replicate 9 0))))) (c.copy_from_slice.ensures.after ∙ c.split_at.ensures.back)
    ∙ ap (λ xs. take 64 (drop (at % 8) (bits_of (drop (at / 8) bytes ++ xs)))) (drop-replicate r 9 0)
    ∙ window_padded at (at / 8) (at % 8) r bytes (omega arith) (omega arith) c.requires (omega arith) (omega arith)
