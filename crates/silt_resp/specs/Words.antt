-- Words in memory.
use Rattle.std.specs.Prelude.{ℕ, List, map, slice_range}
use Rattle.silt_resp.specs.declared.words.Span.{Span}
use Rattle.silt_resp.specs.declared.words.Span.TheVariants.{Whole, Long}
use Rattle.silt_resp.specs.Stream.{Word, whole, long}

-- the word whose bytes are there
abbrev pub word_in : List ℕ → Span → Word
word_in bytes (Whole first behind) = whole (slice_range bytes first behind)
word_in bytes Long = long

-- the words whose bytes are there
abbrev pub words_in : List ℕ → List Span → List Word
words_in bytes spans = map (word_in bytes) spans
