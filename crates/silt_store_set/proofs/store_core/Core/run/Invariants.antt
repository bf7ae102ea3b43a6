use Rattle.silt_store_set.proofs.Common.{◌≡◌, ◌≤◌, length, take, SameDisk, Runs, vec_len, vec_capacity}
use Rattle.silt_store_set.proofs.store_core.Core.run.Given as goal

-- the events so far were done, and each has its reply
abbrev pub invariant-loop-event : goal.invariant-loop-event
invariant-loop-event g l = record {
  runs : Runs g.D.Disk l.fn.self (take l.event-index l.events) l.replies.items l.self;
  same_disk : SameDisk (g.D.Disk.content l.fn.self.disk) (g.D.Disk.content l.self.disk);
  same_shape : l.self.shape ≡ l.fn.self.shape;
  count : vec_len l.replies ≡ l.event-index;
  room : length l.events ≤ vec_capacity l.replies;
}
