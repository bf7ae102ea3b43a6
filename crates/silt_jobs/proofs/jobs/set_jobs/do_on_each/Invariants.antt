use Rattle.silt_jobs.proofs.Common.{◌≡◌, ◌≤◌, ◌+◌, drop, length, vec_len, vec_capacity, into_iter_items, HasFailed, DoesFirst, worst_status}
use Rattle.silt_jobs.proofs.jobs.set_jobs.do_on_each.Given as goal

-- the job was done on the disks so far, and the others are left
abbrev pub invariant-loop-disk : goal.invariant-loop-disk
invariant-loop-disk g l =
    record {
      can : (goal.iterator-loop-disk g).can_next l.disk-iterator;
      finite : (goal.iterator-loop-disk g).is_finite l.disk-iterator;
      room : vec_len l.parts + length (into_iter_items l.disk-iterator) ≤ vec_capacity l.parts;
      count : vec_len l.parts + length (into_iter_items l.disk-iterator) ≡ length (into_iter_items l.initial.disk-iterator);
      rest : drop (vec_len l.parts) (into_iter_items l.initial.disk-iterator) ≡ into_iter_items l.disk-iterator;
      does : DoesFirst g.D.Disk (HasFailed g.D.Watched.kept_read g.D.Watched.last_failure) l.job (into_iter_items l.initial.disk-iterator) (vec_len l.parts) l.parts.items
          (g.W.Write.contents l.initial.writer) (g.W.Write.contents l.writer);
      worst : l.worst ≡ worst_status 0 l.parts.items;
    }
