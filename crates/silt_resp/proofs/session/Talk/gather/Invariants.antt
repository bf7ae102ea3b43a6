use Rattle.silt_resp.proofs.Common.{◌≡◌, ◌≤◌, ◌-◌, None, length, take, GathersAsked, HoldsClient, Client, client_after}
use Rattle.silt_resp.specs.Batches.{HasLengths}
use Rattle.silt_resp.proofs.session.Talk.gather.Given as goal

abbrev pub invariant-loop-count : goal.invariant-loop-count
invariant-loop-count l =
    record {
      within : l.count ≤ length l.bytes;
      ready : HasLengths l.settings.value_len l.batch;
      unended : l.batch.tail ≡ None;
      told : (client : Client) → HoldsClient l.initial.self client → record {
        holds : HoldsClient l.self (client_after l.settings client (take l.count l.bytes));
        all : GathersAsked l.settings client (take l.count l.bytes) l.initial.batch l.batch;
      };
    }

abbrev pub decreases-loop-count : goal.decreases-loop-count
decreases-loop-count l = length l.bytes - l.count
