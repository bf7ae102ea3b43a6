use Rattle.silt_engine.proofs.Common.{rules, arith}
use Rattle.silt_engine.proofs.Swaps.{named_more, replaced_whole, replaces}
use Rattle.silt_engine.proofs.engine.Engine.replace_oldest.Goals as goal

pub returns-clause-whole : goal.returns-clause-whole
returns-clause-whole c =
    let may = rw (← c.self.view_is) at c.requires in
    replaced_whole _ _ may _ _ c.take.ensures.value c.in-Some.is _ _ _ c.pop.ensures.items c.in-Some-pop.is _ _ c.into_store.ensures.store
    c.into_store.ensures.digest c.into_store.ensures.held _ c.in-Ok.ensures.items _ c.take.ensures.after _ _ _ _ c.puts.ensures.value c.puts-2.ensures.value
    c.saturating_sub-dropped.ensures c.saturating_sub-self-inside.ensures

pub invariant_of-self : goal.invariant_of-self
invariant_of-self c = record {
  whole = returns-clause-whole c;
  enough = omega (arith, c.self.invariant.enough, c.pop.ensures.capacity);
  enough_hashes = omega (arith, c.self.invariant.enough_hashes, c.in-Ok.ensures.capacity);
}

pub returns-clause-replaced : goal.returns-clause-replaced
returns-clause-replaced c =
    let may = rw (← c.self.view_is) at c.requires in
    rw (← c.self.view_is) (replaces _ c.args.manifest may _ _ c.take.ensures.value c.in-Some.is _ _ _ c.pop.ensures.items c.in-Some-pop.is _ c.into_store.result.digest
    c.into_store.ensures.store c.into_store.ensures.digest c.into_store.ensures.held _ c.in-Ok.ensures.items _ c.take.ensures.after _ _ _ _ c.puts.ensures.value
    c.puts-2.ensures.value c.saturating_sub-dropped.ensures c.saturating_sub-self-inside.ensures)

pub unreachable-requires-in_default-insert : goal.unreachable-requires-in_default-insert
unreachable-requires-in_default-insert c =
    let may = rw (← c.self.view_is) at c.requires in
    let more = named_more _ _ may _ _ c.take.ensures.value c.in-Some.is _ _ c.into_store.ensures.store c.into_store.ensures.held in
    search (rules, more)
