-- Words that are kept.
use Rattle.silt_resp.proofs.Common.{◌≡◌, ◌<◌, ◌≤◌, ◌+◌, ℕ, List, [], ◌∷◌, ◌++◌, length, refl, sym, ap, ◌∙◌, arith, All, drop-append-le, drop_at, length-drop, take-append-le, take_all, All-head}
use Rattle.silt_resp.proofs.Common.{All-push, All-tail, Whole, FitsValues, HoldsWith, longest_word, most_bytes, whole, word_of}
use Rattle.std.proofs.lemmas.List.{length-append, length_push, map_push}
use Rattle.std.proofs.lemmas.List.Elements.{All-weaker}
use Rattle.std.proofs.lemmas.List.Sums.{sum_by_push}
use Rattle.silt_resp.specs.declared.words.Span.{Span}
use Rattle.silt_resp.specs.Buffers.{IsWithin}
use Rattle.silt_resp.specs.Words.{word_in, words_in}
use Rattle.silt_resp.specs.Stream.{Word, kept_len, most_words}

-- ---- words between spaces

-- ---- bytes behind those of kept words

word_in-grown : (bytes more : List ℕ) (span : Span) → IsWithin (length bytes) span → word_in (bytes ++ more) span ≡ word_in bytes span
word_in-grown bytes more span within = search (arith, length-drop, drop-append-le, take-append-le)

words_in-grown : (bytes more : List ℕ) (spans : List Span) → All (IsWithin (length bytes)) spans → words_in (bytes ++ more) spans ≡ words_in bytes spans
words_in-grown bytes more [] within = refl
words_in-grown bytes more (span ∷ spans) within =
    cc (word_in-grown bytes more span (All-head (IsWithin (length bytes)) span spans within), words_in-grown bytes more spans (All-tail (IsWithin (length bytes)) span spans within))

-- the last bytes are those of the last word
word_in-last : (bytes word : List ℕ) → word_in (bytes ++ word) (Whole (length bytes) (length bytes + length word)) ≡ whole word
word_in-last bytes word = search (arith, drop_at, take_all)

IsWithin-grown : (bytes more : List ℕ) (span : Span) → IsWithin (length bytes) span → IsWithin (length (bytes ++ more)) span
IsWithin-grown bytes more span within = search (arith, length-append)

is_short : (word : List ℕ) → length word ≤ longest_word → word_of word ≡ whole word
is_short word short = search arith

-- one word more
pub keeps_more : (bytes word : List ℕ) (spans : List Span) (words : List Word) → HoldsWith FitsValues bytes spans words → length spans < most_words → length word ≤ longest_word
    → length bytes + length word ≤ most_bytes → HoldsWith FitsValues (bytes ++ word) (spans ++ Whole (length bytes) (length bytes + length word) ∷ []) (words ++ word_of word ∷ [])
keeps_more bytes word spans words h room short fits =
    let span = Whole (length bytes) (length bytes + length word) in
    let size = length-append bytes word in
    let count = length_push spans span in
    let last : word_in (bytes ++ word) span ≡ word_of word = word_in-last bytes word ∙ sym (is_short word short) in
    let there : words_in (bytes ++ word) spans ≡ words = words_in-grown bytes word spans h.kept.1 ∙ h.kept.0 in
    let inside : IsWithin (length (bytes ++ word)) span = (omega arith, omega (arith, size)) in
    let kept : kept_len (word_of word) ≡ length word = ap kept_len (is_short word short) in
    record {
      few_bytes = omega (arith, size);
      few_spans = omega (arith, count);
      kept = (search (arith, map_push), search (arith, All-push, All-weaker, IsWithin-grown), search (arith, sum_by_push));
    }
