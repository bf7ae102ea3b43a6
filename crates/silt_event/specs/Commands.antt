-- Maps from keys to values, and the commands that change them.
use Rattle.std.specs.Prelude.{◌≡◌, ℕ, List, [], ◌∷◌, ◌++◌, Option, Some, None}
use Rattle.std.specs.Ordering.{nat_cmp}
use Rattle.std.specs.Cmp.Lexicographic.{slice_cmp}
use Rattle.std.specs.FinMap.{FinMap, insert, remove, code}
use Rattle.std.specs.Coded.{Coded, coded_ℕ, coded_list}

-- a command that changes the map
pub data Command : Type 0 where
  put : List ℕ → List ℕ → Command
  delete : List ℕ → Command

-- the command that gives a key this value, or takes its value away
abbrev pub setting : List ℕ → Option (List ℕ) → Command
setting key (Some value) = put key value
setting key None = delete key

-- a finite map from the bytes of keys to the bytes of values
abbrev pub Map : Type 0
Map = FinMap (slice_cmp nat_cmp) (List ℕ)

-- the map after one command
abbrev pub changed : Map → Command → Map
changed map (put key value) = insert map key value
changed map (delete key) = remove map key

-- the map after these commands, in order
abbrev pub map_after : Map → List Command → Map
map_after map [] = map
map_after map (command ∷ commands) = map_after (changed map command) commands

-- these commands are a prefix of all commands
pub record Begins (some all : List Command) : Type 0 where
  pub rest : List Command
  pub is : some ++ rest ≡ all

-- this command joins the end of the waiting ones, and the base stays
pub record WaitsBehind (command : Command) (old_base new_base : Map) (old_waiting new_waiting : List Command) : Type 0 where
  pub waiting : new_waiting ≡ old_waiting ++ command ∷ []
  pub base : new_base ≡ old_base

-- the waiting commands went into the base, and this command alone waits
pub record WaitsAlone (command : Command) (old_base new_base : Map) (old_waiting new_waiting : List Command) : Type 0 where
  pub waiting : new_waiting ≡ command ∷ []
  pub base : new_base ≡ map_after old_base old_waiting

-- how a proof distinguishes two maps
abbrev pub map_code : Coded Map
map_code = code (coded_list coded_ℕ) (coded_list coded_ℕ)
