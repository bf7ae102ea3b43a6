use Rattle.silt_manifest.proofs.Common.{ℕ, ◌+◌, ◌*◌, ◌∙◌, arith, take_more_set, length-set, map-range_with_len_more, number_at, get_or-set_other}
use Rattle.silt_manifest.proofs.ids.Ids.read.Goals as goal

pub loop-k-preserved : goal.loop-k-preserved
loop-k-preserved c =
    let f : ℕ → ℕ = λ k. number_at 4 (c.args.at + 4 + 4 * k) c.args.slot.now in
    let more = map-range_with_len_more f 0 c.loop-k.k c.loop-k.k (omega arith) in
    let set = take_more_set c.loop-k.numbers c.loop-k.k c.read_u32.result (omega arith) in
    record {
      so_far = cc;
      room = length-set c.loop-k.numbers c.loop-k.k c.read_u32.result ∙ c.loop-k.invariant.room;
      zeros = λ j past. get_or-set_other c.loop-k.numbers c.loop-k.k j c.read_u32.result 0 (λ same. absurd (omega arith)) ∙ c.loop-k.invariant.zeros j (omega arith);
    }

pub invariant_of-result : goal.invariant_of-result
invariant_of-result c = record {
  most = omega arith;
  room = c.loop-k.invariant.room;
  zeros = λ k past. c.loop-k.invariant.zeros k (omega arith);
}
