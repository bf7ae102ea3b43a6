-- Rounds of SHA-1, and the words of a block.
use Rattle.std.proofs.Common.{◌≡◌, ◌∙◌, ℕ, suc, ◌+◌, ◌*◌, List, ◌∷◌, [], ◌++◌, take, slice_index, refl, ap, subst, arith}
use Rattle.std.proofs.lemmas.List.{get_or-take}
use Rattle.sha1.specs.Sha1.{add_state, compress, first_words, next_word, round, round_constant, round_fn, rounds, schedule, word_at}

-- one round more
pub one_round : (h w v r : List ℕ) (t n : ℕ) → n ≡ suc t → v ≡ rounds h w t
    → r ≡ round v (round_fn t (slice_index v 1) (slice_index v 2) (slice_index v 3)) (round_constant t) (slice_index w t) → r ≡ rounds h w n
unfolding rounds
one_round h w v r t n next is done = search arith

-- no round yet
pub no_round : (h w : List ℕ) → h ≡ rounds h w 0
unfolding rounds
no_round h w = refl

-- one word of the block more
pub one_word : (block words : List ℕ) (i n : ℕ) (word : ℕ) → n ≡ suc i → take i words ≡ first_words block i → word ≡ word_at block (4 * i)
    → take i words ++ word ∷ [] ≡ first_words block n
unfolding first_words
one_word block words i n word next is made = search arith

-- the words before the first one that is made are those of the block
pub no_word_made : (block words : List ℕ) (i : ℕ) → i ≡ 16 → take i words ≡ first_words block i → take 16 words ≡ schedule block 0
unfolding schedule
no_word_made block words i is words_are = subst (λ (n : ℕ). take n words ≡ first_words block n) is words_are

-- one word more that is made of those before it
pub one_word_made : (block words : List ℕ) (t m n : ℕ) (word : ℕ) → t ≡ m + 16 → n ≡ suc m → take t words ≡ schedule block m → word ≡ next_word words t
    → take t words ++ word ∷ [] ≡ schedule block n
unfolding schedule
one_word_made block words t m n word at next is made = search (arith, get_or-take)

-- a block's words and all rounds make its compression
pub compressed : (h block words after : List ℕ) → words ≡ schedule block 64 → after ≡ rounds h words 80 → add_state h after ≡ compress h block
unfolding compress
compressed h block words after words_are after_is = ap (add_state h) (after_is ∙ ap (λ (x : List ℕ). rounds h x 80) words_are)
