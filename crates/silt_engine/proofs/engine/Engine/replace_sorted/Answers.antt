use Rattle.silt_engine.proofs.Common.{◌-◌, ℕ, drop, refl, ap, sym, ◌∙◌, subst, arith, EngineState, MayStandFor, ◌≡◌, IfSome, IndexedState, sorted_replaced}
use Rattle.silt_engine.proofs.Swaps.{from_on, replaced, sorted_whole, is_sealed, store_is}
use Rattle.silt_engine.proofs.Exits.{state_of}
use Rattle.silt_engine.proofs.engine.Engine.replace_sorted.Goals as goal

pub into_store-sorted-requires : goal.into_store-sorted-requires
into_store-sorted-requires c =
    let may = rw (← c.self.view_is) at c.requires.2 in
    is_sealed _ _ _ may _ _ c.take.ensures.value c.in-Some.is

pub invariant_of-self : goal.invariant_of-self
invariant_of-self c =
    let may0 = subst (λ (v : EngineState). MayStandFor v c.args.manifest c.requires.0) (sym c.self.view_is) c.requires.2 in
    let made = c.into_store-sorted.ensures in
    let is = store_is (state_of c.self.inside) c.args.manifest c.requires.0 c.into_store-sorted.result may0 c.in-Some.merge
    c.take.result c.args.digest.0 c.take.ensures.value c.in-Some.is c.requires.1 made.store made.index made.digest in
    let may = subst (MayStandFor (state_of c.self.inside) c.args.manifest) is may0 in
    let whole = sorted_whole (state_of c.self.inside) c.args.manifest c.into_store-sorted.result may c.in-Some.merge c.take.result
    c.take.ensures.value c.in-Some.is c.stores.result (c.len.result - c.stores.result) c.stores.ensures.value
    (ap (λ (n : ℕ). n - c.stores.result) (c.len.ensures ∙ c.self.inside.hashes.ok.0)) _ c.truncate.new.self.items
    (from_on (c.len.result - c.stores.result) c.deref.result.now ∙ ap (drop (c.len.result - c.stores.result)) c.deref.ensures.value) c.truncate.ensures.items
    c.take.new.self c.take.ensures.after c.len-2.result c.len-3.result c.without_puts.result c.saturating_sub-left.result
    (c.self.inside.charge - c.saturating_sub-left.result) c.saturating_sub.result (c.self.inside.charge - c.saturating_sub.result)
    c.len-2.ensures.value c.len-3.ensures.value c.without_puts.ensures c.saturating_sub-left.ensures refl c.saturating_sub.ensures refl in
    record { whole = whole; enough = c.self.invariant.enough; enough_hashes = omega (arith, c.self.invariant.enough_hashes, c.truncate.ensures.capacity) }

pub returns-clause-whole : goal.returns-clause-whole
returns-clause-whole c =
    let may0 = subst (λ (v : EngineState). MayStandFor v c.args.manifest c.requires.0) (sym c.self.view_is) c.requires.2 in
    let made = c.into_store-sorted.ensures in
    let is = store_is (state_of c.self.inside) c.args.manifest c.requires.0 c.into_store-sorted.result may0 c.in-Some.merge
    c.take.result c.args.digest.0 c.take.ensures.value c.in-Some.is c.requires.1 made.store made.index made.digest in
    let may = subst (MayStandFor (state_of c.self.inside) c.args.manifest) is may0 in
    sorted_whole (state_of c.self.inside) c.args.manifest c.into_store-sorted.result may c.in-Some.merge c.take.result c.take.ensures.value
    c.in-Some.is c.stores.result (c.len.result - c.stores.result) c.stores.ensures.value
    (ap (λ (n : ℕ). n - c.stores.result) (c.len.ensures ∙ c.self.inside.hashes.ok.0)) _ c.truncate.new.self.items
    (from_on (c.len.result - c.stores.result) c.deref.result.now ∙ ap (drop (c.len.result - c.stores.result)) c.deref.ensures.value) c.truncate.ensures.items
    c.take.new.self c.take.ensures.after c.len-2.result c.len-3.result c.without_puts.result c.saturating_sub-left.result
    (c.self.inside.charge - c.saturating_sub-left.result) c.saturating_sub.result (c.self.inside.charge - c.saturating_sub.result)
    c.len-2.ensures.value c.len-3.ensures.value c.without_puts.ensures c.saturating_sub-left.ensures refl c.saturating_sub.ensures refl

pub returns-clause-replaced : goal.returns-clause-replaced
returns-clause-replaced c =
    let made = c.into_store-sorted.ensures in
    let sorted = c.into_store-sorted.result in
    let now : EngineState = record (state_of c.self.inside) {
      manifest = c.args.manifest;
      hashes = c.truncate.new.self.items;
      sorted = sorted.sorted;
      index = sorted.index;
      digest = sorted.digest;
      merging = c.take.new.self;
      charge = c.self.inside.charge - c.saturating_sub.result;
    } in
    rw (← c.self.view_is) (λ store digest may0.
    let is = store_is (state_of c.self.inside) c.args.manifest store c.into_store-sorted.result may0 c.in-Some.merge c.take.result
    c.args.digest.0 c.take.ensures.value c.in-Some.is digest made.store made.index made.digest in
    let may = subst (MayStandFor (state_of c.self.inside) c.args.manifest) is may0 in
    subst (λ (t : IndexedState). IfSome (state_of c.self.inside).merging (λ merge. now ≡ sorted_replaced (state_of c.self.inside) c.args.manifest merge.stores t)) (sym is)
    (replaced (state_of c.self.inside) c.args.manifest c.into_store-sorted.result may c.in-Some.merge c.take.result c.take.ensures.value
    c.in-Some.is c.stores.result (c.len.result - c.stores.result) c.stores.ensures.value
    (ap (λ (n : ℕ). n - c.stores.result) (c.len.ensures ∙ c.self.inside.hashes.ok.0)) _ c.truncate.new.self.items
    (from_on (c.len.result - c.stores.result) c.deref.result.now ∙ ap (drop (c.len.result - c.stores.result)) c.deref.ensures.value) c.truncate.ensures.items
    c.take.new.self c.take.ensures.after c.len-2.result c.len-3.result c.without_puts.result c.saturating_sub-left.result
    (c.self.inside.charge - c.saturating_sub-left.result) c.saturating_sub.result (c.self.inside.charge - c.saturating_sub.result)
    c.len-2.ensures.value c.len-3.ensures.value c.without_puts.ensures c.saturating_sub-left.ensures refl c.saturating_sub.ensures refl))
