use Rattle.std.proofs.Common.{◌≡◌, length}
use Rattle.std.specs.List.{All}
use Rattle.silt.specs.Streams.{null_device}
use Rattle.silt.proofs.standard_streams.fill_descriptors.Given as goal

-- each file was opened, and there are as many as tries
abbrev pub invariant-loop : goal.invariant-loop
invariant-loop g l = record {
  opened : All (g.R.FileSystem.opened l.system null_device) l.files.items;
  len : length l.files.items ≡ l.counter;
}
