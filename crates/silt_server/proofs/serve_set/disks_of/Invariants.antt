use Rattle.silt_server.proofs.Names.{◌≡◌, ◌≤◌, ◌+◌, ◌++◌, List, length, All, vec_capacity, vec_len, into_iter_items, Shape, LeavesBegun, AllZip, AnchoredState, DeskState, IsLedFrom}
use Rattle.silt_server.proofs.serve_set.disks_of.Given as goal

-- the disks so far are given back, each led to by calls, and there is room for the others
abbrev pub invariant-loop-desk : goal.invariant-loop-desk
invariant-loop-desk g l = record {
  can : (goal.iterator-loop-desk g).can_next l.desk-iterator;
  finite : (goal.iterator-loop-desk g).is_finite l.desk-iterator;
  closed : vec_len l.disks + length (into_iter_items l.desk-iterator) ≡ length (into_iter_items l.initial.desk-iterator);
  room : length (into_iter_items l.initial.desk-iterator) ≤ vec_capacity l.disks;
  led : (done : List (DeskState g.row.D.Denot (AnchoredState g.row.T.Denot))) × (done ++ into_iter_items l.desk-iterator ≡ into_iter_items l.initial.desk-iterator)
      × AllZip (λ desk disk. IsLedFrom g.D.Disk g.N.Anchor.first g.T.Trace.counts desk.core desk.trace disk) done l.disks.items;
  left : All (λ disk. (shape : Shape) × LeavesBegun (g.D.Disk.content disk) shape) l.disks.items;
}
