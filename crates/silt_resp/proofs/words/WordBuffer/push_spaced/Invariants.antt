use Rattle.silt_resp.proofs.Common.{◌≡◌, ◌++◌, List, length, HoldsWords, spaced_words, words_of}
use Rattle.silt_resp.specs.Stream.{Word}
use Rattle.silt_resp.proofs.words.WordBuffer.push_spaced.Given as goal

-- with the words of the rest these are the words that were there and those of the text
abbrev pub invariant-loop-word : goal.invariant-loop-word
invariant-loop-word l = (words : List Word) → HoldsWords l.fn.self words
    → (so_far : List Word) × HoldsWords l.self so_far × (so_far ++ spaced_words (words_of l.rest) ≡ words ++ spaced_words (words_of l.fn.text))

abbrev pub decreases-loop-word : goal.decreases-loop-word
decreases-loop-word l = length (words_of l.rest)
