use Rattle.silt_store_set.proofs.Common.{◌≡◌, ◌≤◌, ℕ, List, length, take, sym, ◌∙◌, ap, refl, replicate, length-replicate, take-replicate}
use Rattle.silt_store_set.proofs.replies.zeros.Goals as goal

-- the first of some zeros are zeros
first_zeros : (n m : ℕ) (zeros : List ℕ) → n ≤ m → zeros ≡ replicate m 0 → take n zeros ≡ replicate (length (take n zeros)) 0
first_zeros n m zeros some are =
    let first : take n zeros ≡ replicate n 0 = ap (take n) are ∙ take-replicate n m 0 some in
    first ∙ ap (λ (k : ℕ). replicate k 0) (sym (ap length first ∙ length-replicate n 0))

pub returns-clause-zeros : goal.returns-clause-zeros
returns-clause-zeros c = first_zeros c.args.len 4096 _ c.requires refl
