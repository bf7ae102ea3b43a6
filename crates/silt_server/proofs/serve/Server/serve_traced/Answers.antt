use Rattle.silt_server.proofs.Names.{◌∙◌, ap, sym, never_done}
use Rattle.silt_server.proofs.serve.Server.serve_traced.Goals as goal

pub returns-in-Some : goal.returns-in-Some
returns-in-Some g c =
    let desk = c.serve_desk-desk.result.0 in
    record {
      traced = record {
        last = desk.core;
        state = desk.trace;
        is = sym c.close-in-Ok.ensures.disk;
        agreed = c.trace-known-in-Ok.ensures.agrees.0;
        past = rw (c.requires.trace.0 desk.trace.shard) at c.trace-known-in-Ok.ensures.agrees.1;
        printed = c.serve_desk-desk.ensures.served;
      };
      printed = c.serve_desk-desk.ensures.printed;
      left = (_, c.close-in-Ok.ensures.left);
    }

pub returns-in_default-clause-traced : goal.returns-in_default-clause-traced
returns-in_default-clause-traced g c =
    let desk = c.in-Ok.desk in
    record {
      last = desk.core;
      state = desk.trace;
      is = sym c.close.ensures.disk;
      agreed = c.trace-known.ensures.agrees.0;
      past = rw (c.requires.trace.0 desk.trace.shard) at c.trace-known.ensures.agrees.1;
      printed = never_done _ c.refuse-status.result c.refuse-status.ensures;
    }

pub returns-in-Err-clause-traced : goal.returns-in-Err-clause-traced
returns-in-Err-clause-traced g c =
    let state = c.new-trace.result in
    record {
      last = c.args.core;
      state = state;
      is = sym (c.close-in-Err.ensures.disk ∙ ap (λ core. core.disk) c.in-Err.ensures.err.0);
      agreed = c.new-trace.ensures.agrees;
      past = rw (c.requires.trace.0 state.shard) at c.new-trace.ensures.past;
      printed = never_done _ c.refuse-status-in-Err.result c.refuse-status-in-Err.ensures;
    }
