-- A row whose head was read, and the key that is looked up.
use Rattle.silt_log_store.proofs.Common.{◌≡◌, ℕ, ◌+◌, ◌<◌, ◌==◌, not, Bool, true, false, List, [], ◌∷◌, get_or, length, Some, None, refl, sym, arith, list_all, AllWithin, bytes_eq, Content}
use Rattle.silt_log_store.proofs.Common.{kind_byte, Kind, Candidate, has_known_kind, StoredRow, keys_of, LogState, all_rows, IsFirstMatch, kind_with_key, kind_for}
use Rattle.silt_log.specs.Rows.{row_at, row_head}
use Rattle.silt_log_store.proofs.Rows.{row_there, key_there, known_there}
use Rattle.silt_log_store.proofs.Searching.{find_first, find_nothing, same_default}

-- the kind of a row's head
pub kind_of_head : (row : StoredRow) (key : List ℕ) → kind_with_key (row_head row) key ≡ kind_for row key
unfolding row_head
kind_of_head row key = grind arith

-- a kind that was found: the row has the key
pub kind_found : (row : StoredRow) (key : List ℕ) (kind : Kind) → kind_for row key ≡ Some kind → (bytes_eq row.key key ≡ true) × (kind_byte kind ≡ row.kind)
kind_found row key kind e = grind arith

-- none was found: the row has another key
pub kind_not_found : (row : StoredRow) (key : List ℕ) → has_known_kind row ≡ true → kind_for row key ≡ None → bytes_eq row.key key ≡ false
kind_not_found row key known e = grind arith

-- whether the row at a candidate's place has the key
abbrev pub has_key_at : List StoredRow → List ℕ → Candidate → Bool
has_key_at rows key c = bytes_eq (get_or (keys_of rows) c.place []) key

-- among no candidates none has the key
pub no_match : (rows : List StoredRow) (candidates : List Candidate) (key : List ℕ) → false ≡ not (length candidates == 0) → IsFirstMatch rows candidates key None
no_match rows [] key none = record { first = refl; kind = tt }
no_match rows (c ∷ candidates) key none = grind arith

module _ (content : Content) (log : LogState) (candidates : List Candidate) (key : List ℕ) where
  -- one candidate more that does not have it
  pub passed_more : (at : ℕ) (default : Candidate) → list_all has_known_kind (all_rows content log) ≡ true
      → AllWithin (λ (c : Candidate). has_key_at (all_rows content log) key c ≡ false) candidates 0 at
      → at < length candidates → (get_or candidates at default).place < log.used → None ≡ kind_for (row_at log.shape log.region content.shown (get_or candidates at default).place) key
      → AllWithin (λ (c : Candidate). has_key_at (all_rows content log) key c ≡ false) candidates 0 (at + 1)
  passed_more at default known before low below none = grind (arith, same_default, key_there, kind_not_found, known_there)

  -- the first that has it
  pub match_found : (at : ℕ) (c default : Candidate) (kind : Kind) → AllWithin (λ (c : Candidate). has_key_at (all_rows content log) key c ≡ false) candidates 0 at
      → at < length candidates → get_or candidates at default ≡ c → c.place < log.used → Some kind ≡ kind_for (row_at log.shape log.region content.shown c.place) key
      → IsFirstMatch (all_rows content log) candidates key (Some (record { slot = c.slot; found = record { kind = kind; place = c.place } }))
  match_found at c default kind before low is below some = grind (arith, kind_found, key_there, find_first, row_there)

  -- none has it
  pub none_found : AllWithin (λ (c : Candidate). has_key_at (all_rows content log) key c ≡ false) candidates 0 (length candidates) → IsFirstMatch (all_rows content log) candidates key None
  none_found fail = record { first = sym (find_nothing (has_key_at (all_rows content log) key) candidates fail); kind = tt }
