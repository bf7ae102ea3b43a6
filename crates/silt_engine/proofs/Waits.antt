-- Whether the row that a lookup found waits for a flush.
use Rattle.silt_engine.proofs.Common.{◌≡◌, ◌≢◌, ◌<◌, ◌≤◌, ◌+◌, ◌-◌, ℕ, true, false, nat_le, IsTrue, List, [], ◌∷◌, ◌++◌, length, map, get_or, Option, Some, None, inl, inr, refl, ap, sym, ◌∙◌, subst}
use Rattle.silt_engine.proofs.Common.{arith, list_any, bytes_eq, get, get-insert, get-remove, cases_lt, le-leb, nat_list_cmp_total, get_or-map, list_any_at, get_or_from_slice_get, slice_get_within}
use Rattle.silt_engine.proofs.Common.{bytes_eq-Decides, Command, Map, changed, delete, map_after, put, command_of, StoredRow, keys_of, FindsLast, HasNoRow, IsLastRow, Found, all_rows, settled_rows}
use Rattle.silt_engine.proofs.Common.{waiting_rows, all_are_settled_and_waiting, all_count, IsIndexed, Content, EngineState, Stands, waiting_commands, Active, lt-leb, get_or-append-add}
use Rattle.silt_engine.proofs.Common.{get_or-append_right, list_any_none, same_key, changes_key, is_of_key, is_waiting_row}
use Rattle.std.proofs.Common.{length-append}
use Rattle.silt_engine.proofs.Lookups.{other_key}

-- ---- commands of other keys

-- what a map has for a key after a command of another one
other_stays : (m : Map) (command : Command) (key : List ℕ) → is_of_key key command ≡ false → get (changed m command) key ≡ get m key
other_stays m (put other value) key differs = cc (get-insert nat_list_cmp_total m other value key, same_key key other)
other_stays m (delete other) key differs = cc (get-remove nat_list_cmp_total m other key, same_key key other)

-- and after commands of other ones
pub others_stay : (m : Map) (commands : List Command) (key : List ℕ) → changes_key commands key ≡ false → get (map_after m commands) key ≡ get m key
others_stay m [] key none = refl
others_stay m (command ∷ commands) key none = search (arith, others_stay (changed m command) commands key, other_stays)

-- ---- rows and their commands

of_row : (key : List ℕ) (row : StoredRow) → is_of_key key (command_of row) ≡ bytes_eq row.key key
of_row key row = search arith

of_rows : (key : List ℕ) (rows : List StoredRow) → changes_key (map command_of rows) key ≡ list_any (λ (row : StoredRow). bytes_eq row.key key) rows
of_rows key [] = refl
of_rows key (row ∷ rows) = cc (of_row key row, of_rows key rows)

module _ (settled waiting : List StoredRow) (key : List ℕ) where
  -- from this place on no row has the key
  abbrev LacksFrom : ℕ → Type 0
  LacksFrom from = (place : ℕ) → from ≤ place → place < length (settled ++ waiting) → get_or (keys_of (settled ++ waiting)) place [] ≢ key

  -- the key of a waiting row, by its number
  key_behind : (index : ℕ) (default : StoredRow) → index < length waiting → get_or (keys_of (settled ++ waiting)) (length settled + index) [] ≡ (get_or waiting index default).key
  key_behind index default inside = search (arith, get_or-map, length-append, get_or-append-add)

  -- so none waits, if the place is not behind the settled rows
  none_waits : (from : ℕ) → from ≤ length settled → LacksFrom from → changes_key (map command_of waiting) key ≡ false
  none_waits from before lacks = of_rows key _ ∙ list_any_none (λ (row : StoredRow). bytes_eq row.key key) waiting (search (arith, other_key, length-append, key_behind))

  -- a row of the key behind the settled rows waits
  one_waits : (place : ℕ) (row : StoredRow) → length settled ≤ place → IsLastRow (settled ++ waiting) key place row → changes_key (map command_of waiting) key ≡ true
  one_waits place row behind is =
      let here : get_or waiting (place - length settled) row ≡ row =
      sym (get_or-append_right settled waiting (length settled) place row refl behind) ∙ get_or_from_slice_get (settled ++ waiting) place row row is.there in
      of_rows key _
      ∙ list_any_at (λ (row : StoredRow). bytes_eq row.key key) waiting (place - length settled) row
      (omega (arith, behind, slice_get_within (settled ++ waiting) place row is.there, length-append settled waiting)) (search (arith, bytes_eq-Decides))

  -- the last row of the key waits exactly if a waiting command changes the key
  last_waits : (found : Found) → FindsLast (settled ++ waiting) key (Some found) → nat_le (length settled) found.place ≡ changes_key (map command_of waiting) key
  last_waits found (row, is, kind) = elim (cases_lt found.place (length settled)) [
    | inl before ↦ search (arith, lt-leb, none_waits, is.last)
    | inr behind ↦ le-leb (length settled) found.place behind ∙ sym (one_waits _ row behind is)
  ]

  -- and without a row of the key none does
  lacking_waits : HasNoRow (settled ++ waiting) key → false ≡ changes_key (map command_of waiting) key
  lacking_waits none = sym (none_waits 0 (omega arith) (λ place from inside. none place inside))

-- ---- the row that a lookup finds

-- in the active log, which is seen through the stores' fields
module _ (content : Content) (view s : EngineState) (is : view ≡ s) (key : List ℕ) (o : Option Found)
    (finds : IsTrue content.honest → IsIndexed content view.active → FindsLast (all_rows content view.active.log) key o) (stands : Stands content s) (honest : IsTrue content.honest) where
  -- the last row of the key, among the settled and the waiting rows
  finds_last : FindsLast (settled_rows content s.active.log ++ waiting_rows content s.active.log) key o
  finds_last =
      rw (all_are_settled_and_waiting content s.active.log stands.active.bounds.order) at (subst (λ (v : EngineState). IsTrue content.honest → IsIndexed content
      v.active → FindsLast (all_rows content v.active.log) key o) is finds honest stands.indexed)

  -- it is there
  pub active_waits : (found : Found) → o ≡ Some found → is_waiting_row s (Some (Active, found)) ≡ changes_key (waiting_commands content s) key
  active_waits found some = ap (λ (n : ℕ). nat_le n found.place) (sym (all_count content (record s.active.log { used = s.active.log.settled }))) ∙ last_waits _ _ key found (rw some at finds_last)

  -- it is not, so no row of the key waits
  pub nothing_waits : o ≡ None → false ≡ changes_key (waiting_commands content s) key
  nothing_waits none = lacking_waits (settled_rows content s.active.log) (waiting_rows content s.active.log) key (rw none at finds_last)
