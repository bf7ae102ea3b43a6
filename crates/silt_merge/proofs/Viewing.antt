-- A merge as its record.
use Rattle.silt_merge.proofs.Common.{MergeState}
use Rattle.silt_merge.specs.declared.merge.Merge.TheInside.{Inside}

-- what a merge is seen as
abbrev pub state_of : Inside → MergeState
state_of a = record {
  shape = a.target.geometry;
  region = a.target.number;
  stores = a.stores;
  store = a.store;
  slot = a.slot;
  waiting = a.waiting.entries;
  passed = a.passed;
  written = a.written;
  index = a.index;
  decided = a.decided;
  last = a.last;
  slots = a.slots.parts;
  ahead = a.ahead.parts;
  input = a.input;
  hasher = a.hasher;
  damaged = a.damaged;
}
