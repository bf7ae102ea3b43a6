use Rattle.silt_resp.proofs.Common.{◌≡◌, ◌≤◌, ◌==◌, ℕ, true, false, drop, length, take, sym, ap, ◌∙◌, list_all, big_number}
use Rattle.silt_resp.proofs.Strings.{string_of-behind, string_of-there}
use Rattle.silt_resp.proofs.values.string_of.Goals as goal

pub returns-then-are_zeros : goal.returns-then-are_zeros
returns-then-are_zeros c =
    let value = c.args.value.now in
    let n = c.read_u16-len.result in
    let front = c.split_at.ensures.front in
    let back = c.split_at.ensures.back in
    let known = λ (k : ℕ). rw front at (c.known_bytes-known.ensures k) in
    let is : n ≡ big_number 2 (take 2 value) = c.read_u16-len.ensures ∙ ap (big_number 2) front in
    let fits : n ≤ length (drop 2 value) = rw back at c.if-len-rest.false in
    let zeros : list_all (λ b. b == 0) (drop n (drop 2 value)) ≡ true = cc (c.split_at-2.ensures.back, back, c.are_zeros.ensures, c.if-are_zeros.true) in
    cc (c.split_at-2.ensures.front, back, string_of-there value n known c.if-value-lt-LENGTH_LEN.false is fits zeros)

pub returns-else-are_zeros : goal.returns-else-are_zeros
returns-else-are_zeros c =
    let value = c.args.value.now in
    let n = c.read_u16-len.result in
    let back = c.split_at.ensures.back in
    let is : n ≡ big_number 2 (take 2 value) = c.read_u16-len.ensures ∙ ap (big_number 2) c.split_at.ensures.front in
    let fits : n ≤ length (drop 2 value) = rw back at c.if-len-rest.false in
    let others : list_all (λ b. b == 0) (drop n (drop 2 value)) ≡ false = cc (c.split_at-2.ensures.back, back, c.are_zeros.ensures, c.if-are_zeros.false) in
    sym (string_of-behind value n c.if-value-lt-LENGTH_LEN.false is fits others)
