use Rattle.silt_jobs.proofs.Common.{ℕ, List, [], HoldsBytes, rest_after, TakesBytes, Fits, Consumes}
use Rattle.silt_jobs.proofs.jobs.script_lines.Reading.take_all.Given as goal

abbrev pub invariant-loop : goal.invariant-loop
invariant-loop g l = record {
  so_far : (read : List ℕ) × Consumes (g.R.Read.remaining l.initial.reader) (g.R.Read.remaining l.reader) read
      × HoldsBytes l.pending (rest_after [] read) × TakesBytes l.value_len [] l.initial.self read l.self;
  fits : Fits l.value_len l.initial.self → Fits l.value_len l.self;
}
