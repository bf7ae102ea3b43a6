-- When a life of a disk in memory crashes, and what its pending places then hold.
use Rattle.std.specs.Prelude.{ℕ, ◌-◌, ◌%◌, ◌==◌, Bool, false, if◌then◌else◌, Option, Some, None, List, [], ◌∷◌}
use Rattle.silt_device.specs.declared.life.Fill.{Fill}
use Rattle.silt_device.specs.declared.life.Fill.TheVariants.{Old, New, Zero, Ones, Mix}
use Rattle.silt_device.specs.declared.life.Life.{Life}
use Rattle.silt_device.specs.declared.life.Stop.{Stop}

-- the byte after the crash, from the fill, the place, and the bytes shown and settled there
abbrev pub filled : Fill → ℕ → ℕ → ℕ → ℕ
filled Old place shown settled = settled
filled New place shown settled = shown
filled Zero place shown settled = 0
filled Ones place shown settled = 255
filled Mix place shown settled = if place % 2 == 0 then shown else settled

-- a life with this stop, at its beginning: the K-th call fails, and with 0 no call fails
abbrev pub life_of : Stop → Life
life_of stop = record { fill = stop.fill; calls_left = if stop.k == 0 then None else Some stop.k }

-- a life without a crash: a stop at its end leaves the settled bytes
abbrev pub endless : Life
endless = record { fill = Old; calls_left = None }

-- one call less is left, if a stop is set
abbrev pub less : Option ℕ → Option ℕ
less None = None
less (Some left) = Some (left - 1)

-- whether a stop is set and no call is left
abbrev pub is_none_left : Option ℕ → Bool
is_none_left None = false
is_none_left (Some left) = left == 0

-- a life after one more write or sync
abbrev pub life_after_call : Life → Life
life_after_call life = record life { calls_left = less life.calls_left }

-- whether the crash has come: every call fails
abbrev pub is_stopped : Life → Bool
is_stopped life = is_none_left life.calls_left

-- the present life, and the stops of later ones
pub record Plan : Type 0 where
  pub life : Life
  pub to_come : List Stop

-- the next life: with the first of these stops, and without a crash if there is none
abbrev pub next_life : List Stop → Plan
next_life [] = record { life = endless; to_come = [] }
next_life (stop ∷ rest) = record { life = life_of stop; to_come = rest }

-- the plan after one more write or sync
abbrev pub plan_after_call : Plan → Plan
plan_after_call plan = record plan { life = life_after_call plan.life }
