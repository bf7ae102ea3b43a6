-- The requests of lines.
use Rattle.std.specs.Prelude.{◌≡◌, ◌⊎◌, ℕ, Bool, ◌==◌, ◌&&◌, nat_le, nat_lt, if◌then◌else◌, List, [], ◌∷◌, length, codes, Option, Some, None, Result, Ok, Err}
use Rattle.std.specs.List.{slice_split, list_all}
use Rattle.std.specs.Option.{option_map}
use Rattle.std.specs.Result.{result_ok}
use Rattle.std.specs.Str.{bytes_eq}
use Rattle.std.specs.Str.Lines.{strip_carriage_return}
use Rattle.hex.specs.Hex.{decode_sized}
use Rattle.sha1.specs.Sha1.{sha1}
use Rattle.silt_frame.specs.declared.key.Key.{Key}
use Rattle.silt_event.specs.declared.event.Event.{Event}
use Rattle.silt_event.specs.declared.event.Event.TheVariants.{Put, Delete, Swap, Flush, Get, Convert, Merge}
use Rattle.silt_event.specs.declared.admin.Admin.{Admin as AdminOf}
use Rattle.silt_event.specs.declared.admin.Admin.TheVariants.{Info, Shutdown, Backup}
use Rattle.silt_event.specs.Queries.{Query, admin, does}
use Rattle.silt_wire.specs.declared.line.LineFault.{LineFault}
use Rattle.silt_wire.specs.declared.line.LineFault.TheVariants.{BadLine, BadKey, BadValue, LineTooLong, NoMemory}
use Rattle.silt_frame.specs.Frame.{key_len}

-- the words of a line: the parts between single spaces
abbrev pub words_of : List ℕ → List (List ℕ)
words_of text = slice_split (λ b. b == 32) text

-- whether a byte is allowed in a name
abbrev pub is_name_byte : ℕ → Bool
is_name_byte b = nat_le 0x21 b && nat_le b 0x7E

-- a name has 1 to 8,000 such bytes
abbrev pub is_name : List ℕ → Bool
is_name text = nat_le 1 (length text) && (nat_le (length text) 8000 && list_all is_name_byte text)

-- the bytes of a key: forty hexadecimal digits, or, after `=`, the digest of a name
abbrev pub key_bytes : List ℕ → Option (List ℕ)
key_bytes [] = None
key_bytes (first ∷ rest) =
    if first == 61 then (if is_name rest then Some (sha1 rest) else None)
    else result_ok (decode_sized (first ∷ rest) key_len)

-- the key that a word spells
abbrev pub key_of : List ℕ → Option Key
key_of word = option_map (λ bytes. record { 0 = bytes }) (key_bytes word)

-- the value that a word spells: two hexadecimal digits for each of its bytes
abbrev pub value_of : ℕ → List ℕ → Option (List ℕ)
value_of value_len word = result_ok (decode_sized word value_len)

-- an event on a key
abbrev pub with_key : (Key → Event) → Option Key → Result Event LineFault
with_key event None = Err BadKey
with_key event (Some key) = Ok (event key)

-- a put: the key is looked at before the value
abbrev pub with_key_and_value : Option Key → Option (List ℕ) → Result Event LineFault
with_key_and_value None value = Err BadKey
with_key_and_value (Some key) None = Err BadValue
with_key_and_value (Some key) (Some value) = Ok (Put key value)

-- the value that a word of a swap spells: none for a hyphen
abbrev pub value_or_none_of : ℕ → List ℕ → Option (Option (List ℕ))
value_or_none_of value_len word = if bytes_eq word (codes "-") then Some None else option_map Some (value_of value_len word)

-- a swap: the key is looked at before the values, and one of these has to be there
abbrev pub with_key_and_values : Option Key → Option (Option (List ℕ)) → Option (Option (List ℕ)) → Result Event LineFault
with_key_and_values None old new = Err BadKey
with_key_and_values (Some key) (Some None) (Some None) = Err BadValue
with_key_and_values (Some key) (Some old) (Some new) = Ok (Swap key old new)
with_key_and_values (Some key) old new = Err BadValue

-- the request of a line with one word
abbrev pub bare_event : List ℕ → Result Event LineFault
bare_event word =
    if bytes_eq word (codes "flush") then Ok Flush
    else if bytes_eq word (codes "convert") then Ok Convert
    else if bytes_eq word (codes "merge") then Ok Merge
    else Err BadLine

-- what a word and a key ask for
abbrev pub key_event : List ℕ → List ℕ → Result Event LineFault
key_event word key =
    if bytes_eq word (codes "delete") then with_key (λ k. Delete k) (key_of key)
    else if bytes_eq word (codes "get") then with_key (λ k. Get k) (key_of key)
    else Err BadLine

-- what a word, a key and a value ask for
abbrev pub value_event : ℕ → List ℕ → List ℕ → List ℕ → Result Event LineFault
value_event value_len word key value =
    if bytes_eq word (codes "put") then with_key_and_value (key_of key) (value_of value_len value) else Err BadLine

-- what a word, a key and two values ask for, each a value or a hyphen
abbrev pub swap_event : ℕ → List ℕ → List ℕ → List ℕ → List ℕ → Result Event LineFault
swap_event value_len word key old new =
    if bytes_eq word (codes "swap") then with_key_and_values (key_of key) (value_or_none_of value_len old) (value_or_none_of value_len new) else Err BadLine

-- what the words of a line ask for: the first word and the number of words are looked at first
unfoldable pub event_of : ℕ → List (List ℕ) → Result Event LineFault
event_of value_len (word ∷ []) = bare_event word
event_of value_len (word ∷ key ∷ []) = key_event word key
event_of value_len (word ∷ key ∷ value ∷ []) = value_event value_len word key value
event_of value_len (word ∷ key ∷ old ∷ new ∷ []) = swap_event value_len word key old new
event_of value_len words = Err BadLine

-- the most bytes that a line may have, its carriage return counted
abbrev pub longest_line : ℕ
longest_line = 16600

-- the request of a line, or why it has none; the length is checked first
abbrev pub asked_by : ℕ → List ℕ → Result Event LineFault
asked_by value_len line =
    if nat_lt longest_line (length line) then Err LineTooLong else event_of value_len (words_of (strip_carriage_return line))

-- whether a line is empty without its carriage return; such a line gets no reply
abbrev pub is_blank : List ℕ → Bool
is_blank line = length (strip_carriage_return line) == 0

-- the admin command that a word is
abbrev pub admin_word : List ℕ → Option AdminOf
admin_word word =
    if bytes_eq word (codes "info") then Some Info
    else if bytes_eq word (codes "shutdown") then Some Shutdown
    else if bytes_eq word (codes "backup") then Some Backup
    else None

-- the admin command of a line; a session has such lines, a script has none
abbrev pub admin_of : List ℕ → Option AdminOf
admin_of line = if nat_le (length line) longest_line then admin_word (strip_carriage_return line) else None

-- what a line of a session asks for, if it is no admin command
abbrev pub with_event : Result Event LineFault → Result Query LineFault
with_event (Ok event) = Ok (does event)
with_event (Err fault) = Err fault

-- what a line of a session asks for: its admin command, if it has one, and else its event
abbrev pub query_with : Option AdminOf → Result Event LineFault → Result Query LineFault
query_with (Some command) asked = Ok (admin command)
query_with None asked = with_event asked

-- what a line of a session asks for, or why it asks for nothing
abbrev pub query_by : ℕ → List ℕ → Result Query LineFault
query_by value_len line = query_with (admin_of line) (asked_by value_len line)

-- only a put and a swap need memory, for their values
abbrev pub WantsMemory : Result Event LineFault → Type 0
WantsMemory (Ok (Put key value)) = Unit {0}
WantsMemory (Ok (Swap key old new)) = Unit {0}
WantsMemory (Err BadValue) = Unit {0}
WantsMemory asked = ⊥

-- a line was parsed as what it asks for, or memory ran out
abbrev pub Parses : Result Event LineFault → Result Event LineFault → Type 0
Parses asked result = (result ≡ asked) ⊎ ((result ≡ Err NoMemory) × WantsMemory asked)
