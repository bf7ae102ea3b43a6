use Rattle.silt_manifest.proofs.Common.{ℕ, ◌+◌, ◌*◌, ◌++◌, [], ◌∷◌, sym, ap, ◌∙◌, map, arith, range_with_len, take_more_set, length-set, map-range_with_len_more, Digest, digest_at}
use Rattle.silt_manifest.proofs.DigestBytes.{digests_read}
use Rattle.silt_manifest.proofs.digests.Digests.of_slot.Goals as goal

pub loop-k-preserved : goal.loop-k-preserved
loop-k-preserved c =
    let f : ℕ → Digest = λ k. digest_at (121 + 20 * k) c.args.slot.now in
    record {
      so_far =
          take_more_set c.loop-k.hashed c.loop-k.k c.digest_at.result (omega arith) ∙ ap (λ front. front ++ c.digest_at.result ∷ []) c.loop-k.invariant.so_far
          ∙ ap (λ (d : Digest). map f (range_with_len 0 c.loop-k.k) ++ d ∷ []) c.digest_at.ensures ∙ sym (map-range_with_len_more f 0 c.loop-k.k c.loop-k.k (omega arith));
      room = length-set c.loop-k.hashed c.loop-k.k c.digest_at.result ∙ c.loop-k.invariant.room;
    }

pub returns : goal.returns
returns c = digests_read c.args.slot.now c.loop-k.k c.loop-k.hashed c.digest_at-sorted.result (omega arith) c.loop-k.invariant.so_far c.loop-k.invariant.room c.digest_at-sorted.ensures
