-- Which row a step keeps, and which key it decides.
use Rattle.std.specs.Prelude.{◌≡◌, ◌≢◌, ℕ, Bool, true, false, cond, List, [], take, get_or, slice_get, Option, Some, None}
use Rattle.std.specs.Ordering.{match_ordering, nat_cmp}
use Rattle.std.specs.Option.{option_or}
use Rattle.std.specs.Cmp.Lexicographic.{slice_cmp}
use Rattle.std.specs.Str.{bytes_eq}
use Rattle.silt_frame.specs.declared.key.Kind.TheVariants.{Put}
use Rattle.silt_disk.specs.Layout.{Shape}
use Rattle.silt_frame.specs.declared.key.Key.{Key}
use Rattle.std.specs.declared.cmp.Ordering.TheVariants.{Less}
use Rattle.silt_frame.specs.Frame.{is_put, kind_byte, key_len}
use Rattle.silt_frame.specs.declared.key.Row.{Row}
use Rattle.silt_hash_store.specs.Slots.{slot_row}
use Rattle.silt_frame.specs.Rows.{entry_row, StoredRow}
use Rattle.silt_trie.specs.Building.{is_above}
use Rattle.silt_merge.specs.State.{source_at}
use Rattle.silt_merge.specs.declared.choice.Choice.{Choice}
use Rattle.silt_merge.specs.declared.source.Source.{Source}

-- the row in a slot of a store, if it has this key
abbrev pub own_source : ℕ → ℕ → Row → List ℕ → Option Source
own_source store slot row key = cond (bytes_eq row.key.0 key) (Some (record { kind = row.kind; store = store; slot = slot })) None

-- the row in a slot of a store waits for its key, unless a newer one does
abbrev pub Gathers : ℕ → ℕ → Option Row → List (Key × Source) → List (Key × Source) → Type 0
Gathers store slot None before after = (key : List ℕ) → source_at after key ≡ source_at before key
Gathers store slot (Some row) before after = (key : List ℕ) → source_at after key ≡ option_or (source_at before key) (own_source store slot row key)

-- the first key with a waiting row, and the row: no row waits for a lower key
abbrev pub IsFirstWaiting : List (Key × Source) → Option (Key × Source) → Type 0
IsFirstWaiting waiting None = waiting ≡ []
IsFirstWaiting waiting (Some (key, source)) =
    (source_at waiting key.0 ≡ Some source) × ((other : List ℕ) (its : Source) → source_at waiting other ≡ Some its → slice_cmp nat_cmp other key.0 ≢ Less)

-- the key of the next entry, whose bytes are these; none if all are skipped
abbrev pub IsNextEntry : List StoredRow → ℕ → List ℕ → Option Key → Type 0
IsNextEntry entries passed bytes None = Unit {0}
IsNextEntry entries passed bytes (Some key) = (slice_get entries passed ≡ Some (entry_row bytes)) × (key.0 ≡ take key_len bytes)

-- the choice of the lower of two keys
abbrev pub lower_choice : Key → Source → Key → Choice
lower_choice key source next =
    match_ordering (slice_cmp nat_cmp key.0 next.0)
    (record { key = key; source = Some source; passes = false })
    (record { key = key; source = Some source; passes = true })
    (record { key = next; source = None; passes = true })

-- the next key to decide: the lower of the first key with a waiting row and the next entry's key
abbrev pub choice_of : Option (Key × Source) → Option Key → Option Choice
choice_of None None = None
choice_of None (Some next) = Some (record { key = next; source = None; passes = true })
choice_of (Some (key, source)) None = Some (record { key = key; source = Some source; passes = false })
choice_of (Some (key, source)) (Some next) = Some (lower_choice key source next)

-- an entry is written for a choice: an entry decides, or a row that is a put
abbrev pub choice_puts : Option Source → Bool
choice_puts None = true
choice_puts (Some source) = is_put source.kind

-- The bytes of the entry for a choice: those that are there already if an entry decides, else the key and the value in the slot of
-- the row that decides.
abbrev pub ReadsRow : Shape → List ℕ → List ℕ → List ℕ → Option Source → List ℕ → List ℕ → Type 0
ReadsRow shape image regions key None old new = new ≡ old
ReadsRow shape image regions key (Some source) old new =
    is_put source.kind ≡ true → entry_row new ≡ record { kind = kind_byte Put; key = key; value = (slot_row shape (get_or regions source.store 0) image source.slot).value }

-- a choice is the lowest key with a waiting row, or the next entry's; its key is greater than the last decided one
pub record IsOffered (waiting : List (Key × Source)) (last : Option Key) (choice : Choice) : Type 0 where
  pub source : (source : Source) → choice.source ≡ Some source → source_at waiting choice.key.0 ≡ Some source
  pub none : choice.source ≡ None → choice.passes ≡ true
  pub least : (key : List ℕ) (its : Source) → source_at waiting key ≡ Some its → slice_cmp nat_cmp key choice.key.0 ≢ Less
  pub above : is_above last choice.key.0 ≡ true
