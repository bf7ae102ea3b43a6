use Rattle.silt_shards.proofs.Common.{◌≡◌, ◌≤◌, ◌+◌, ◌++◌, List, length, vec_len, AllZip, vec_capacity, into_iter_items, IsAttemptOn}
use Rattle.silt_shards.proofs.shard_files.all_due.Given as goal

-- there is an attempt on each disk so far
abbrev pub invariant-loop-disk : goal.invariant-loop-disk
invariant-loop-disk g l =
    record {
      can : (goal.iterator-loop-disk g).can_next l.disk-iterator;
      finite : (goal.iterator-loop-disk g).is_finite l.disk-iterator;
      room : vec_len l.attempts + length (into_iter_items l.disk-iterator) ≤ vec_capacity l.attempts;
      due : (done : List g.row.D.Denot) × (done ++ into_iter_items l.disk-iterator ≡ into_iter_items l.initial.disk-iterator)
          × AllZip (IsAttemptOn g.D.Disk) done l.attempts.items;
    }
