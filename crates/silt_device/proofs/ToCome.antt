-- The stops of later lives.
use Rattle.silt_device.proofs.Common.{◌≡◌, ℕ, ◌+◌, List, ◌∷◌, Some, None, drop, ◌∙◌, ap, arith, drop_more, drop_all, next_life, life_of, endless}
use Rattle.std.specs.List.{slice_get}
use Rattle.std.proofs.lemmas.Option.{slice_get_within, slice_get_cases, get_or_from_slice_get, none-some}
use Rattle.silt_device.specs.declared.life.Stop.{Stop}

-- if there is a next stop, the next life has it
pub next_stop : (stops : List Stop) (next : ℕ) (stop : Stop) → slice_get stops next ≡ Some stop → next_life (drop next stops) ≡ record { life = life_of stop; to_come = drop (next + 1) stops }
next_stop stops next stop there =
    ap next_life (drop_more stops next stop (slice_get_within stops next stop there) ∙ ap (λ (s : Stop). s ∷ drop (next + 1) stops) (get_or_from_slice_get stops next stop stop there))

-- if there is none, the next life has no crash
pub no_stop : (stops : List Stop) (next : ℕ) → slice_get stops next ≡ None → next_life (drop next stops) ≡ record { life = endless; to_come = drop next stops }
no_stop stops next none = search (arith, slice_get_cases, none-some, drop_all)
