use Rattle.silt_resp.proofs.Common.{◌≡◌, ◌-◌, drop, length, All, HasValueOf, puts_named}
use Rattle.silt_resp.proofs.Named.{puts_with}
use Rattle.silt_resp.proofs.arguments.puts_named.Given as goal

-- all puts are those so far and those of the rest
abbrev pub invariant-loop-at : goal.invariant-loop-at
invariant-loop-at l =
    record {
      puts : puts_named l.settings.value_len l.args ≡ puts_with l.settings.value_len l.puts.items (drop l.at l.args);
      fits : All (HasValueOf l.settings.value_len) l.puts.items;
    }

abbrev pub decreases-loop-at : goal.decreases-loop-at
decreases-loop-at l = length l.args - l.at
