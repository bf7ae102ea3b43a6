-- The places so far are held, and no others.
use Rattle.std.proofs.Common.{◌≡◌}
use Rattle.silt_cuckoo.specs.Slots.{PlacesBelow, bucket_count}
use Rattle.silt_index_tests.proofs.cuckoo.fill.Given as goal

abbrev pub invariant-loop-place : goal.invariant-loop-place
invariant-loop-place l = record {
  count : bucket_count l.table ≡ bucket_count l.initial.table;
  below : PlacesBelow l.table l.place;
}
