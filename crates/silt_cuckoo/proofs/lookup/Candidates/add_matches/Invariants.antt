-- The matches of the slots so far.
use Rattle.silt_cuckoo.proofs.Common.{◌≡◌, ◌+◌, ◌-◌, ◌*◌, ◌≤◌, ◌++◌, length, range_with_len, filter_map, unpacked_all, match_at}
use Rattle.silt_cuckoo.proofs.lookup.Candidates.add_matches.Given as goal

abbrev pub invariant-loop-slot : goal.invariant-loop-slot
invariant-loop-slot l = record {
  starts : l.start ≡ 4 * l.bucket;
  added : l.self ≡ l.initial.self ++ filter_map (match_at (unpacked_all l.slots) l.tag) (range_with_len l.start (l.slot - l.start));
  at_most : length l.self + l.start ≤ length l.initial.self + l.slot;
}
