-- A hasher in memory, and bytes of it that are hashed elsewhere.
use Rattle.std.specs.Prelude.{ℕ, ◌%◌, List, take, Option}
use Rattle.silt_hasher.specs.Taking.{Taken}
use Rattle.silt_hasher.specs.declared.state.Sha1State.{Sha1State}

-- the room for bytes that wait to be hashed
abbrev pub waiting_room : ℕ
waiting_room = 65536

-- what a state has taken in: of the block only the bytes that are taken in count
abbrev pub taken_of : Sha1State → Taken
taken_of state = record { hash = state.hash; left = take (state.total % 64) state.block; total = state.total }

-- bytes that are hashed elsewhere: what was taken in before them, the bytes, and what is taken in with them once they are hashed
pub record Lending : Type 0 where
  pub before : Taken
  pub bytes : List ℕ
  pub after : Option Taken
