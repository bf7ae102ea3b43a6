use Rattle.std.proofs.Common.{◌≡◌, ◌≤◌, length, take}
use Rattle.std.specs.Io.KnownBytes.{Consumes}
use Rattle.httparse.specs.Grammar.{HasNoRequest}
use Rattle.silt_metrics.proofs.exchange.read_wanted.Given as goal

-- the first bytes were read, and have no head yet
abbrev pub invariant-loop : goal.invariant-loop
invariant-loop g l = record {
  fits : l.len ≤ 8192;
  room : length l.head ≡ 8192;
  read : Consumes (g.R.Read.remaining l.initial.reader) (g.R.Read.remaining l.reader) (take l.len l.head);
  begun : HasNoRequest (take l.len l.head);
}
