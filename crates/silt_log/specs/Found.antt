-- The result of a look-up.
use Rattle.std.specs.Prelude.{ℕ, if◌then◌else◌, Option, Some, None}
use Rattle.std.specs.Option.{option_and_then}
use Rattle.silt_frame.specs.Frame.{is_put}
use Rattle.silt_log.specs.declared.found.Found.{Found}

-- the place of a row that was found, if it is a put
abbrev pub put_place : Option Found → Option ℕ
put_place found = option_and_then (λ (row : Found). if is_put row.kind then Some row.place else None) found
