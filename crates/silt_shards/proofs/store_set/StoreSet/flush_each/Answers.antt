use Rattle.silt_shards.proofs.Common.{◌≡◌, [], ◌∷◌, ◌++◌, take, get_or, sym, ◌∙◌, ap, subst, arith, length-set, Flush, FlushesEach, IsSet, value_len_of}
use Rattle.silt_shards.proofs.Alike.{len_stays, set_stays}
use Rattle.silt_shards.proofs.Lists.{all_set, changed_next, rest_next, written_back}
use Rattle.silt_shards.proofs.Projections.{flush_more}
use Rattle.silt_shards.proofs.store_set.StoreSet.flush_each.Goals as goal

pub invariant_of-self : goal.invariant_of-self
invariant_of-self g c =
    let len = g.A.Answerer.value_len in
    let is = c.deref_mut-shard-items.ensures.value in
    let back = written_back _ c.loop-shard.shard-items _ _ c.loop-shard.invariant.same_length is (sym c.deref_mut-shard-items.ensures.len) in
    subst (IsSet len) (sym back) (set_stays len _ _ (subst (IsSet len) (sym is) c.self.invariant) c.loop-shard.invariant.same_length c.loop-shard.invariant.alike)

pub loop-shard-preserved : goal.loop-shard-preserved
loop-shard-preserved g c =
    let before = c.loop-shard.invariant in
    let old = c.deref_mut-shard-items.result.now in
    let now = c.loop-shard.shard-items in
    let i = c.loop-shard.shard-index in
    let item = c.shard-item.result in
    let new = c.answer.new.self in
    let V = value_len_of g.A.Answerer.value_len old in
    record {
      flushed = (
        before.flushed.0 ++ c.answer.result ∷ [],
        changed_next (λ us vs. FlushesEach g.A.Answerer.answers us (before.flushed.0 ++ c.answer.result ∷ []) vs) old now i item
            new (omega (arith, c.loop-shard-test.true, before.same_length)) before.same_length before.rest
            (λ is. flush_more g.A.Answerer.answers (take i old) before.flushed.0 (take i now) (get_or old i item) new c.answer.result before.flushed.1
            (subst (λ x. g.A.Answerer.answers x new Flush c.answer.result) is c.answer.ensures.answers)),
        c.join-joined.ensures before.flushed.0 before.flushed.2,
      );
      rest = rest_next old now i new before.rest;
      same_length = length-set now i new ∙ before.same_length;
      alike = all_set (λ shard. g.A.Answerer.value_len shard ≡ V) now i new before.alike
          (c.answer.ensures.stays ∙ before.alike i item (omega (arith, c.loop-shard-test.true)));
    }

pub returns-clause-stays : goal.returns-clause-stays
returns-clause-stays g c =
    let len = g.A.Answerer.value_len in
    let is = c.deref_mut-shard-items.ensures.value in
    let back = written_back _ c.loop-shard.shard-items _ _ c.loop-shard.invariant.same_length is (sym c.deref_mut-shard-items.ensures.len) in
    ap (value_len_of len) back ∙ len_stays len _ _ c.loop-shard.invariant.same_length c.loop-shard.invariant.alike ∙ ap (value_len_of len) (is ∙ c.self.view_is)
