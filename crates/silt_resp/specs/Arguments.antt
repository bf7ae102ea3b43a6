-- The words behind a command's name: keys, values and options.
use Rattle.std.specs.Prelude.{◌≡◌, ◌⊎◌, ◌-◌, ℕ, Bool, false, min, nat_lt, List, [], ◌∷◌, length, slice_get, ok_or, Option, Some, None, Result, Ok, Err, MatchResult, if◌then◌else◌}
use Rattle.std.specs.Str.{str_eq_ignore_ascii_case}
use Rattle.sha1.specs.Sha1.{sha1}
use Rattle.silt_frame.specs.declared.key.Key.{Key}
use Rattle.silt_event.specs.declared.event.Event.{Event}
use Rattle.silt_event.specs.declared.event.Event.TheVariants.{Put}
use Rattle.silt_resp.specs.declared.fault.CommandFault.{CommandFault}
use Rattle.silt_resp.specs.declared.fault.CommandFault.TheVariants.{LongKey, LongValue, BadSyntax, NoMemory}
use Rattle.silt_resp.specs.Stream.{Word, whole, long}
use Rattle.silt_resp.specs.Values.{string_value}

-- goes on with a result, if there is no fault
abbrev pub and_then : {X Y : Type 0} → Result X CommandFault → (X → Result Y CommandFault) → Result Y CommandFault
and_then (Ok x) next = next x
and_then (Err fault) next = Err fault

-- the result is what is due, or memory ran out
abbrev pub Gives : {X Y : Type 0} → (X → Y) → Result Y CommandFault → Result X CommandFault → Type 0
Gives seen due result = MatchResult result (λ x. due ≡ Ok (seen x)) (λ fault. (fault ≡ NoMemory) ⊎ (due ≡ Err fault))

-- ---- one word

-- the most bytes of a name
abbrev pub longest_name : ℕ
longest_name = 8000

-- the most bytes of a string that a value of so many bytes holds
abbrev pub longest_string : ℕ → ℕ
longest_string value_len = min 65535 (value_len - 2)

-- the key that a word names
abbrev pub key_named : Word → Result Key CommandFault
key_named (whole name) = if nat_lt longest_name (length name) then Err LongKey else Ok (record { 0 = sha1 name })
key_named long = Err LongKey

-- the value of so many bytes that a word gives
abbrev pub value_named : ℕ → Word → Result (List ℕ) CommandFault
value_named value_len (whole s) =
    if nat_lt (longest_string value_len) (length s) then Err (LongValue (longest_string value_len)) else Ok (string_value value_len s)
value_named value_len long = Err (LongValue (longest_string value_len))

-- the word with this number, counted from 0
abbrev pub word_at : List Word → ℕ → Result Word CommandFault
word_at args index = ok_or (slice_get args index) BadSyntax

abbrev pub key_at : List Word → ℕ → Result Key CommandFault
key_at args index = and_then (word_at args index) key_named

abbrev pub value_at : ℕ → List Word → ℕ → Result (List ℕ) CommandFault
value_at value_len args index = and_then (word_at args index) (value_named value_len)

-- whether a word is this one, in either case
abbrev pub is_word : List ℕ → Option Word → Bool
is_word text (Some (whole word)) = str_eq_ignore_ascii_case word text
is_word text (Some long) = false
is_word text None = false

abbrev pub has_word : List Word → ℕ → List ℕ → Bool
has_word args index text = is_word text (slice_get args index)

-- ---- many words

-- the keys that all words name
abbrev pub keys_named : List Word → Result (List Key) CommandFault
keys_named [] = Ok []
keys_named (word ∷ words) = and_then (key_named word) (λ key. and_then (keys_named words) (λ keys. Ok (key ∷ keys)))

-- the puts of words that are keys and values by turns
abbrev pub puts_named : ℕ → List Word → Result (List Event) CommandFault
puts_named value_len [] = Ok []
puts_named value_len (word ∷ []) = and_then (key_named word) (λ key. Err BadSyntax)
puts_named value_len (word ∷ next ∷ words) =
    and_then (key_named word) (λ key. and_then (value_named value_len next) (λ value. and_then (puts_named value_len words) (λ puts. Ok (Put key value ∷ puts))))
