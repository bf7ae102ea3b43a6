-- Keys and puts, one word after the other.
use Rattle.silt_resp.proofs.Common.{◌≡◌, ◌<◌, ◌+◌, ℕ, suc, List, [], ◌∷◌, ◌++◌, length, drop, get_or, Option, Some, None, Result, Ok, Err, refl, ap, ◌∙◌, append_assoc, arith, inl, inr, All}
use Rattle.silt_resp.proofs.Common.{slice_get, drop_of_length-le, drop-cons, slice_get-get_or, Event, Delete, Get, Put, HasValueOf, keys_named, puts_named, long}
use Rattle.std.specs.Prelude.{map, ok_or}
use Rattle.std.proofs.lemmas.List.Elements.{All-cons, All-nil}
use Rattle.std.proofs.lemmas.Option.{get_or_from_slice_get, slice_get_cases, slice_get_within}
use Rattle.silt_frame.specs.declared.key.Key.{Key}
use Rattle.silt_resp.specs.declared.fault.CommandFault.{CommandFault}
use Rattle.silt_resp.specs.declared.fault.CommandFault.TheVariants.{BadSyntax}
use Rattle.silt_resp.specs.Arguments.{and_then, key_at, key_named, value_at, value_named}
use Rattle.silt_resp.specs.Stream.{Word}

-- a word that is there comes first of the rest
pub drop_there : (args : List Word) (index : ℕ) (word : Word) → slice_get args index ≡ Some word → drop index args ≡ word ∷ drop (index + 1) args
drop_there args index word e =
    let next : suc index ≡ index + 1 = omega arith in
    cc (drop-cons args index word (slice_get_within args index word e), get_or_from_slice_get args index word word e)

-- the word that named something
named_word : {X : Type 0} (named : Word → Result X CommandFault) (found : Option Word) (x : X) → and_then (ok_or found BadSyntax) named ≡ Ok x
    → (word : Word) × (found ≡ Some word) × (named word ≡ Ok x)
named_word named None x e = absurd (cc)
named_word named (Some word) x e = (word, refl, e)

-- the word that is there did not
unnamed_word : {X : Type 0} (named : Word → Result X CommandFault) (found : Option Word) (word : Word) (fault : CommandFault) → found ≡ Some word
    → and_then (ok_or found BadSyntax) named ≡ Err fault → named word ≡ Err fault
unnamed_word named found word fault is e = cc

-- ---- keys

-- these keys, and those of the rest
abbrev pub keys_with : List Key → List Word → Result (List Key) CommandFault
keys_with keys rest = and_then (keys_named rest) (λ more. Ok (keys ++ more))

keys_first : (r : Result Key CommandFault) (key : Key) (m : Result (List Key) CommandFault) (keys : List Key) → r ≡ Ok key
    → and_then (and_then r (λ k. and_then m (λ ks. Ok (k ∷ ks)))) (λ ks. Ok (keys ++ ks)) ≡ and_then m (λ ks. Ok ((keys ++ key ∷ []) ++ ks))
keys_first r key m keys e = search (arith, append_assoc)

-- one key more
pub keys_more : (args : List Word) (index : ℕ) (key : Key) (keys : List Key) → key_at args index ≡ Ok key → keys_named args ≡ keys_with keys (drop index args)
    → keys_named args ≡ keys_with (keys ++ key ∷ []) (drop (index + 1) args)
keys_more args index key keys e h =
    let found = named_word key_named (slice_get args index) key e in
    cc (drop_there args index found.0 found.1, keys_first (key_named found.0) key (keys_named (drop (index + 1) args)) keys found.2)

-- a word that names none
pub keys_fault : (args : List Word) (index : ℕ) (fault : CommandFault) (keys : List Key) → key_at args index ≡ Err fault → index < length args
    → keys_named args ≡ keys_with keys (drop index args) → keys_named args ≡ Err fault
keys_fault args index fault keys e within h =
    let word = get_or args index long in
    let found = slice_get-get_or args index long within in
    cc (unnamed_word key_named (slice_get args index) word fault found e, drop_there args index word found)

-- ---- puts

-- these puts, and those of the rest
abbrev pub puts_with : ℕ → List Event → List Word → Result (List Event) CommandFault
puts_with len puts rest = and_then (puts_named len rest) (λ more. Ok (puts ++ more))

puts_first : (r : Result Key CommandFault) (s : Result (List ℕ) CommandFault) (key : Key) (value : List ℕ) (m : Result (List Event) CommandFault) (puts : List Event) → r ≡ Ok key → s ≡ Ok value
    → and_then (and_then r (λ k. and_then s (λ v. and_then m (λ ps. Ok (Put k v ∷ ps))))) (λ ps. Ok (puts ++ ps)) ≡ and_then m (λ ps. Ok ((puts ++ Put key value ∷ []) ++ ps))
puts_first r s key value m puts e f = search (arith, append_assoc)

-- one put more
pub puts_more : (len : ℕ) (args : List Word) (at : ℕ) (key : Key) (value : List ℕ) (puts : List Event) → key_at args at ≡ Ok key → value_at len args (at + 1) ≡ Ok value
    → puts_named len args ≡ puts_with len puts (drop at args) → puts_named len args ≡ puts_with len (puts ++ Put key value ∷ []) (drop (at + 2) args)
puts_more len args at key value puts e f h =
    let first = named_word key_named (slice_get args at) key e in
    let second = named_word (value_named len) (slice_get args (at + 1)) value f in
    let two : at + 1 + 1 ≡ at + 2 = omega arith in
    cc (
      drop_there args at first.0 first.1,
      drop_there args (at + 1) second.0 second.1,
      puts_first (key_named first.0) (value_named len second.0) key value (puts_named len (drop (at + 2) args)) puts first.2 second.2,
    )

bad_key : (len : ℕ) (word : Word) (words : List Word) (fault : CommandFault) → key_named word ≡ Err fault → puts_named len (word ∷ words) ≡ Err fault
bad_key len word words fault e = search arith

after_fault : (puts : List Event) (r : Result (List Event) CommandFault) (fault : CommandFault) → r ≡ Err fault → and_then r (λ more. Ok (puts ++ more)) ≡ Err fault
after_fault puts r fault e = ap (λ q. and_then q (λ more. Ok (puts ++ more))) e

-- a word that names no key
pub puts_key_fault : (len : ℕ) (args : List Word) (at : ℕ) (fault : CommandFault) (puts : List Event) → key_at args at ≡ Err fault → at < length args
    → puts_named len args ≡ puts_with len puts (drop at args) → puts_named len args ≡ Err fault
puts_key_fault len args at fault puts e within h =
    let word = get_or args at long in
    let found = slice_get-get_or args at long within in
    let bad = bad_key len word (drop (at + 1) args) fault (unnamed_word key_named (slice_get args at) word fault found e) in
    h ∙ ap (puts_with len puts) (drop_there args at word found) ∙ after_fault puts (puts_named len (word ∷ drop (at + 1) args)) fault bad

bad_value : (len : ℕ) (word next : Word) (words : List Word) (key : Key) (fault : CommandFault) → key_named word ≡ Ok key → value_named len next ≡ Err fault
    → puts_named len (word ∷ next ∷ words) ≡ Err fault
bad_value len word next words key fault e f = cc

no_value : (len : ℕ) (word : Word) (key : Key) → key_named word ≡ Ok key → puts_named len (word ∷ []) ≡ Err BadSyntax
no_value len word key e = ap (λ r. and_then r (λ k. Err BadSyntax)) e

-- a word that gives no value, or none
pub puts_value_fault : (len : ℕ) (args : List Word) (at : ℕ) (key : Key) (fault : CommandFault) (puts : List Event) → key_at args at ≡ Ok key → value_at len args (at + 1) ≡ Err fault
    → puts_named len args ≡ puts_with len puts (drop at args) → puts_named len args ≡ Err fault
puts_value_fault len args at key fault puts e f h =
    let first = named_word key_named (slice_get args at) key e in
    let cut = drop_there args at first.0 first.1 in
    let named = first.2 in
    elim ((slice_get_cases args (at + 1)).1) [
      | inl there ↦
          cc (
            drop_there args (at + 1) there.0 there.2,
            bad_value len first.0 there.0 (drop (at + 1 + 1) args) key fault first.2 (unnamed_word (value_named len) (slice_get args (at + 1)) there.0 fault there.2 f),
          )
      | inr past ↦ cc (drop_of_length-le args past.0, no_value len first.0 key first.2, past.1)
    ]

-- a value that is there is within the words
pub value_within : (len : ℕ) (args : List Word) (index : ℕ) (value : List ℕ) → value_at len args index ≡ Ok value → index < length args
value_within len args index value e = search (arith, named_word, slice_get_within)

-- ---- events without values

pub looks_fit : (len : ℕ) (keys : List Key) → All (HasValueOf len) (map (λ key. Get key) keys)
looks_fit len [] = All-nil (HasValueOf len)
looks_fit len (key ∷ keys) = All-cons (HasValueOf len) (Get key) (map (λ k. Get k) keys) tt (looks_fit len keys)

pub deletes_fit : (len : ℕ) (keys : List Key) → All (HasValueOf len) (map (λ key. Delete key) keys)
deletes_fit len [] = All-nil (HasValueOf len)
deletes_fit len (key ∷ keys) = search (arith, deletes_fit len keys, All-cons)
