-- What clients encode is read.
use Rattle.silt_resp.proofs.Common.{goes_on, nat_le, suc, false, common_steps, ◌≡◌, ◌<◌, ◌≤◌, ◌+◌, ◌-◌, ◌==◌, ℕ, true, List, [], ◌∷◌, ◌++◌, length, Some, Ok, refl, append_assoc, arith, rules, All}
use Rattle.silt_resp.proofs.Common.{nat_lt, if◌then◌else◌, list_all, take_at, All-head, All-tail, WordLength, NoFeed, Command, closed, command_read, commands_after, line, line_kind, long}
use Rattle.silt_resp.proofs.Common.{longest_word, next_stream, start, whole, word_ended, word_grown, word_of}
use Rattle.std.proofs.Common.{◌^◌, map}
use Rattle.std.specs.Char.{is_ascii_digit}
use Rattle.std.specs.Fmt.{decimal}
use Rattle.std.specs.List.{flat_map}
use Rattle.std.specs.Str.Parse.{digits_value}
use Rattle.std.proofs.lemmas.Fmt.{decimal_by_steps, decimal_nonempty, digits_decimal, digits_value-decimal, first_decimal, length-decimal-le}
use Rattle.std.proofs.lemmas.List.{append-nil, get_or_at, length-append}
use Rattle.std.proofs.lemmas.Str.Parse.{IsNumeralModel, numerals_by_value}
use Rattle.silt_wire.specs.Numbers.{number_of}
use Rattle.silt_resp.specs.Heads.{before_return, bytes_announced, longest_announced, most_announced, within, words_announced}
use Rattle.silt_resp.specs.Stream.{IsEncodable, RespLaw, Word, closes, command_bytes, word_bytes}
use Rattle.silt_resp.proofs.Runs.{Goes, Goes-append, Goes-byte, at_line, at_word, closed_run, line_run, word_run}
use Rattle.silt_resp.proofs.Streams.{commands_after-append}

-- ---- numbers

own : IsNumeralModel (λ ds. list_all is_ascii_digit ds ≡ true) (digits_value 10)
own = numerals_by_value (λ ds. list_all is_ascii_digit ds ≡ true) (search rules)

NoFeed-append : (xs ys : List ℕ) → NoFeed xs → NoFeed ys → NoFeed (xs ++ ys)
NoFeed-append [] ys h k = k
NoFeed-append (x ∷ xs) ys h k = (h.0, NoFeed-append xs ys h.1 k)

digit_is_no_feed : (n : ℕ) → ((48 + n) == 10) ≡ false
digit_is_no_feed n = grind (arith, common_steps)

-- no digit is a line feed
NoFeed-decimal : (n : ℕ) → n < 2 ^ 64 → NoFeed (decimal n)
NoFeed-decimal n fits = decimal_by_steps (λ _ ds. NoFeed ds) (λ m _. (digit_is_no_feed m, tt)) (λ m ds _ h. NoFeed-append ds _ h (digit_is_no_feed _, tt)) n fits

-- the number of a decimal text
number_of-decimal : (n : ℕ) → n ≤ 4294967295 → number_of (decimal n) ≡ Some n
number_of-decimal n small =
    let fits : n < 2 ^ 64 = omega arith in
    let some = decimal_nonempty n fits in
    let short = length-decimal-le 10 n (omega arith) (omega arith) fits in
    grind (arith, common_steps, digits_decimal own n fits, digits_value-decimal own n fits)

within-small : (most n : ℕ) → n ≤ most → within most (Some n) ≡ Some n
within-small most n small = let few : nat_le n most ≡ true = grind (arith, common_steps) in cc

-- a carriage return is taken off
before_return-of : (text : List ℕ) → before_return (text ++ 13 ∷ []) ≡ Some text
before_return-of text = search (arith, length-append, get_or_at, take_at)

-- a number of words is read
count_read : (n : ℕ) → 1 ≤ n → n ≤ most_announced → words_announced (42 ∷ (decimal n ++ 13 ∷ [])) ≡ Ok n
count_read n some most = search (arith, first_decimal, number_of-decimal, within-small, before_return-of)

-- the length of a word is read
length_read : (n : ℕ) → n ≤ longest_announced → bytes_announced (36 ∷ (decimal n ++ 13 ∷ [])) ≡ Ok n
length_read n most = cc (number_of-decimal n (omega arith), within-small longest_announced n most, before_return-of (decimal n))

-- a line with a number is short
head_fits : (mark n : ℕ) → n ≤ longest_announced → (mark == 10) ≡ false → NoFeed (mark ∷ (decimal n ++ 13 ∷ [])) × (length (mark ∷ (decimal n ++ 13 ∷ [])) ≤ 32)
head_fits mark n most other =
    let fits : n < 2 ^ 64 = omega arith in
    let short = length-decimal-le 10 n (omega arith) (omega arith) fits in
    search (arith, length-append, NoFeed-append, NoFeed-decimal)

-- ---- commands

-- the line in front of a command
count_goes : (n : ℕ) → 1 ≤ n → n ≤ most_announced → Goes start ((42 ∷ (decimal n ++ 13 ∷ [])) ++ 10 ∷ []) (at_line [] n []) []
count_goes n some most =
    let text = 42 ∷ (decimal n ++ 13 ∷ []) in
    let fits = head_fits 42 n (omega arith) refl in
    Goes-append (line_run [] 0 [] text fits.0 fits.1) (Goes-byte (at_line [] 0 text) 10 (at_line [] n []) [] (cc (count_read n some most)))

-- a word of which no byte has come
abbrev new_word : ℕ → Word
new_word n = if nat_lt longest_word n then long else whole []

-- the line in front of a word
length_goes : (words : List Word) (left n : ℕ) → n ≤ longest_announced
    → Goes (at_line words (suc left) []) ((36 ∷ (decimal n ++ 13 ∷ [])) ++ 10 ∷ []) (at_word words (suc left) (n + 2) (new_word n)) []
length_goes words left n most =
    let text = 36 ∷ (decimal n ++ 13 ∷ []) in
    let fits = head_fits 36 n most refl in
    let kind : line_kind (suc left) text ≡ WordLength = search arith in
    Goes-append (line_run words (suc left) [] text fits.0 (rw kind fits.1)) (Goes-byte (at_line words (suc left) text) 10 (at_word words (suc left) (n + 2) (new_word n)) [] (cc (length_read n most)))

new_word-grown : (word : List ℕ) → word_grown (new_word (length word)) word ≡ word_of word
new_word-grown word = search arith

-- the bytes of a word and its end
word_goes : (words : List Word) (left : ℕ) (word : List ℕ) → Goes (at_word words left (length word + 2) (new_word (length word))) word (at_word words left 2 (word_of word)) []
word_goes words left word =
    let due : length word + 2 - length word ≡ 2 = omega arith in
    rw (due, new_word-grown word) at (word_run words left (length word + 2) (new_word (length word)) word (omega arith))

-- a word as it is encoded
encoded_word : (words : List Word) (left : ℕ) (word : List ℕ) → length word ≤ longest_announced
    → Goes (at_line words (suc left) []) (word_bytes word) (word_ended (at_word words (suc left) 1 (word_of word)) (word_of word)).0
    (word_ended (at_word words (suc left) 1 (word_of word)) (word_of word)).1
encoded_word words left word short =
    let last = at_word words (suc left) 1 (word_of word) in
    let done = word_ended last (word_of word) in
    let end = Goes-append (Goes-byte (at_word words (suc left) 2 (word_of word)) 13 last [] refl) (Goes-byte last 10 done.0 done.1 refl) in
    let all = Goes-append (length_goes words left (length word) short) (Goes-append (word_goes words (suc left) word) end) in search (arith, append_assoc)

-- the words of a command
encoded_words : (words : List Word) (word : List ℕ) (rest : List (List ℕ)) → All (λ w. length w ≤ longest_announced) (word ∷ rest)
    → Goes (at_line words (length (word ∷ rest)) []) (flat_map word_bytes (word ∷ rest)) (next_stream (command_read (words ++ map word_of (word ∷ rest))))
    (command_read (words ++ map word_of (word ∷ rest)) ∷ [])
encoded_words words word [] short = rw append-nil (encoded_word words 0 word (All-head (λ (w : List ℕ). length w ≤ longest_announced) word [] short))
encoded_words words word (second ∷ rest) short =
    let n = length rest in
    let w = word_of word in
    let next = at_line (words ++ w ∷ []) (suc n) [] in
    let many : nat_le (suc (suc n)) 1 ≡ false = grind (arith, common_steps) in
    let left : suc (suc n) - 1 ≡ suc n = omega arith in
    let step : word_ended (at_word words (suc (suc n)) 1 w) w ≡ goes_on next = cc in
    let first = rw step at (encoded_word words (suc n) word (All-head (λ (v : List ℕ). length v ≤ longest_announced) word (second ∷ rest) short)) in
    let others = encoded_words (words ++ w ∷ []) second rest (All-tail (λ (v : List ℕ). length v ≤ longest_announced) word (second ∷ rest) short) in
    rw (append_assoc words (w ∷ []) (map word_of (second ∷ rest))) at (Goes-append first others)

-- a command as it is encoded
encoded_command : (words : List (List ℕ)) → IsEncodable words → Goes start (command_bytes words) (next_stream (command_read (map word_of words))) (command_read (map word_of words) ∷ [])
encoded_command [] h = absurd (omega (arith, h.some))
encoded_command (word ∷ rest) h =
    let n = length (word ∷ rest) in
    let all = Goes-append (count_goes n h.some h.most) (encoded_words [] word rest h.short) in
    search (arith, append_assoc)

-- behind a command that closes the stream no command is read
after_command : (command : Command) (bytes : List ℕ) (commands : List Command) → commands_after start bytes ≡ commands
    → commands_after (next_stream command) bytes ≡ (if closes command then [] else commands)
after_command command bytes commands h =
    elim (closes command) as (λ b. commands_after (record { words = []; left = 0; place = if b then closed else line [] }) bytes ≡ (if b then [] else commands)) [
      | true ↦ (closed_run [] 0 bytes).commands_are
      | false ↦ h
    ]

pub resp_law : RespLaw
resp_law [] h = refl
resp_law (words ∷ commands) h = search (arith, resp_law commands (All-tail IsEncodable words commands h), encoded_command, All-head, All-tail, commands_after-append, after_command)
