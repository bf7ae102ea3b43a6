use Rattle.silt_store_set.proofs.Common.{◌≡◌, take, LeavesOnly, Map, LivesHistory, IsSafe, StartsFrom}
use Rattle.silt_store_set.proofs.Livings.{LivesTo}
use Rattle.silt_store_set.proofs.life.lives.Given as goal

-- the lives so far are done and are a history, and the device represents its last map
abbrev pub invariant-loop-events : goal.invariant-loop-events
invariant-loop-events g l = record {
  honest : (g.D.Disk.content l.disk).honest ≡ (g.D.Disk.content l.fn.disk).honest;
  ran : LivesTo g.D.Disk l.value_len (take l.events-index l.lives) l.replies.items l.fn.disk l.disk;
  so_far : (map : Map) → StartsFrom l.value_len map (g.D.Disk.content l.fn.disk) → (to : Map)
      × LivesHistory map (take l.events-index l.lives) l.replies.items to × LeavesOnly (g.D.Disk.content l.disk) (IsSafe l.value_len to);
}
