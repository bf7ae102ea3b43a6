use Rattle.silt_backup.proofs.Common.{◌≡◌, ◌<◌, [], Some, length, slice_get, slice_index_or, ap, subst, sym, ◌∙◌, inl, inr, arith, rules, cases_order, get_or_read, HashState}
use Rattle.std.proofs.lemmas.Option.{get_or_from_slice_get, slice_get_within}
use Rattle.silt_backup.proofs.comparing.has_digests.Goals as goal

pub loop-place-preserved : goal.loop-place-preserved
loop-place-preserved c =
    λ place store below is.
    let same : c.digest-in-loop-place.result.now.0 ≡ (slice_index_or c.args.digests.now.hashed c.loop-place.place (record { 0 = [] })).0 = search rules in
    let here : c.index.result.now.digest ≡ (slice_index_or c.args.digests.now.hashed c.loop-place.place (record { 0 = [] })).0 = sym c.digest-in-loop-place.ensures ∙ same in
    elim (cases_order place c.loop-place.place) [
      | inl now ↦
          let items = c.args.held.now.hashes.items in
          let inside : c.loop-place.place < length items = omega (arith, c.loop-place-test.true, c.len-place-end.ensures) in
          let it : c.index.result.now ≡ store =
          get_or_read items c.loop-place.place c.index.result.now inside c.index.ensures store
          ∙ get_or_from_slice_get items c.loop-place.place store store (subst (λ n. slice_get items n ≡ Some store) now is) in
          ap (λ n. (slice_index_or c.args.digests.now.hashed n (record { 0 = [] })).0) now ∙ sym here ∙ ap (λ (s : HashState). s.digest) it
      | inr (inl before) ↦ c.loop-place.invariant place store before is
      | inr (inr behind) ↦ absurd (omega (arith, below, behind))
    ]

pub returns : goal.returns
returns c =
    λ yes. record {
      hashed = λ place store is.
          c.loop-place.invariant place store (omega (arith, slice_get_within c.args.held.now.hashes.items place store is, c.len-place-end.ensures, c.loop-place-test.false)) is;
      sorted = search rules;
    }
