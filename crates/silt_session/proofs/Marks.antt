-- Which marks are set.
use Rattle.silt_session.proofs.Common.{◌≡◌, ◌≢◌, ◌<◌, ◌⊎◌, ℕ, zero, suc, List, inl, inr, length, get_or, refl, sym, ◌∙◌, ap, arith, replicate, cases_eq, ◌*◌, ◌/◌, ◌%◌, ◌^◌, slice_set, bit_or, w64}
use Rattle.silt_session.proofs.Common.{◌↔◌, get_or-set_other, get_or-set_same}
use Rattle.std.specs.Int.{bit_at}
use Rattle.std.proofs.lemmas.Nat.Bits.{bit_at-zero, bit_at_set_other, bit_at_set_same}

zero_at : (n i : ℕ) → get_or {A = ℕ} (replicate n 0) i 0 ≡ 0
zero_at zero i = refl
zero_at (suc n) zero = refl
zero_at (suc n) (suc i) = zero_at n i

-- no mark is set in words that are zero
pub none_marked : (number : ℕ) → bit_at (get_or (replicate 64 0) (number / 64) 0) (number % 64) ≡ 1 → ⊥
none_marked number is =
    let zero_word = ap (λ (w : ℕ). bit_at w (number % 64)) (zero_at 64 (number / 64)) ∙ bit_at-zero (number % 64) in
    omega (arith, is, zero_word)

-- the words in which this bit of this word is set
abbrev set_in : List ℕ → ℕ → ℕ → List ℕ
set_in words word bit = slice_set words word (bit_or (get_or words word 0) (1 * 2 ^ bit % 2 ^ 64))

module _ (words : List ℕ) (word bit : ℕ) (in_word : bit < 64) (in_words : word < length words) where
  set_same : bit_at (get_or (set_in words word bit) word 0) bit ≡ 1
  set_same = ap (λ (w : ℕ). bit_at w bit) (get_or-set_same words word _ 0 in_words) ∙ bit_at_set_same w64 (get_or words word 0) bit in_word

  set_other_word : (at i : ℕ) → at ≢ word → bit_at (get_or (set_in words word bit) at 0) i ≡ bit_at (get_or words at 0) i
  set_other_word at i other = ap (λ (w : ℕ). bit_at w i) (get_or-set_other words word at _ 0 other)

  set_other_bit : (i : ℕ) → i ≢ bit → bit_at (get_or (set_in words word bit) word 0) i ≡ bit_at (get_or words word 0) i
  set_other_bit i other = ap (λ (w : ℕ). bit_at w i) (get_or-set_same words word _ 0 in_words) ∙ bit_at_set_other w64 (get_or words word 0) bit in_word i other

  set_other : (at i : ℕ) → (at ≡ word → i ≢ bit) → bit_at (get_or (set_in words word bit) at 0) i ≡ bit_at (get_or words at 0) i
  set_other place i other = elim (cases_eq place word) [ inl is ↦ rw is (set_other_bit i (other is)) | inr apart ↦ set_other_word place i apart ]

  -- a mark with another number stays as it was
  set_none : (mark number : ℕ) → word ≡ mark / 64 → bit ≡ mark % 64 → number ≢ mark
      → bit_at (get_or (set_in words word bit) (number / 64) 0) (number % 64) ≡ bit_at (get_or words (number / 64) 0) (number % 64)
  set_none mark number is_word is_bit ne = set_other (number / 64) (number % 64) (λ at is. ne (omega (arith, at, is, is_word, is_bit)))

  -- the mark with this number is set
  set_its : (mark number : ℕ) → word ≡ mark / 64 → bit ≡ mark % 64 → number ≡ mark → bit_at (get_or (set_in words word bit) (number / 64) 0) (number % 64) ≡ 1
  set_its mark number is_word is_bit is = rw (is, ← is_word, ← is_bit) set_same

  -- the marks that were set, and this one, are set, and no other
  pub marked_too : (mark number : ℕ) → word ≡ mark / 64 → bit ≡ mark % 64
      → (bit_at (get_or (set_in words word bit) (number / 64) 0) (number % 64) ≡ 1) ↔ ((bit_at (get_or words (number / 64) 0) (number % 64) ≡ 1) ⊎ (number ≡ mark))
  marked_too mark number is_word is_bit = elim (cases_eq number mark) [
    | inl is ↦ (λ set. inr is, λ either. set_its mark number is_word is_bit is)
    | inr ne ↦
        let same = set_none mark number is_word is_bit ne in (λ set. inl (sym same ∙ set), elim [ inl set ↦ same ∙ set | inr is ↦ absurd (ne is) ])
  ]
