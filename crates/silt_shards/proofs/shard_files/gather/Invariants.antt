use Rattle.silt_shards.proofs.Common.{◌≡◌, ◌≤◌, ◌+◌, List, length, vec_len, AllZip, vec_capacity, into_iter_items, IsAttemptOn, AreOfOneShape}
use Rattle.silt_shards.proofs.Attempts.{Gathers}
use Rattle.silt_shards.proofs.shard_files.gather.Given as goal

-- the attempts so far gave these stores, all of one geometry
abbrev pub invariant-loop-attempt : goal.invariant-loop-attempt
invariant-loop-attempt g l =
    record {
      can : (goal.iterator-loop-attempt g).can_next l.attempt-iterator;
      finite : (goal.iterator-loop-attempt g).is_finite l.attempt-iterator;
      room : vec_len l.cores + length (into_iter_items l.attempt-iterator) ≤ vec_capacity l.cores;
      count : vec_len l.cores + length (into_iter_items l.attempt-iterator) ≡ length (into_iter_items l.initial.attempt-iterator);
      gathered : (disks : List g.row.D.Denot) → AllZip (IsAttemptOn g.D.Disk) disks (into_iter_items l.initial.attempt-iterator)
          → Gathers g.D.Disk disks l.cores.items (into_iter_items l.attempt-iterator);
      shape : AreOfOneShape l.cores.items;
    }
