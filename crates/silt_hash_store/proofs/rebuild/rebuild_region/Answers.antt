use Rattle.silt_hash_store.proofs.Common.{◌≡◌, ◌*◌, ℕ, IsTrue, None, replicate, refl, sym, ap, subst, ◌∙◌, arith, err_from_is_err_and, sha1, Shape, rows_bytes, rows_before, IsFirstUnsound}
use Rattle.silt_hash_store.proofs.Common.{IsGrown, IsRebuiltHash, Rebuilt}
use Rattle.silt_hash_store.proofs.Chunks.{refused_all}
use Rattle.silt_hash_store.proofs.Growing.{all_grown, grown_digested, none_grown}
use Rattle.silt_hash_store.proofs.rebuild.rebuild_region.Goals as goal

pub returns-in_err-digest-clause-err : goal.returns-in_err-digest-clause-err
returns-in_err-digest-clause-err g c =
    let content = g.D.Disk.content c.args.disk.now in
    let refused = err_from_is_err_and c.from_residual.result c.from_residual.ensures.1 in
    rw (refused.1, refused.2) (refused_all _ (IsTrue content.honest) _ (IsFirstUnsound content c.args.region.geometry c.args.region.number) c.in_err-digest.field-0.0
    (λ honest. none_grown _ content.shown (c.in-Ok.ensures ∙ ap (λ (n : ℕ). replicate n None) c.slot_count-count.ensures.count) refl refl) c.in_err-digest.ensures.err)

pub returns-clause-rebuilt : goal.returns-clause-rebuilt
returns-clause-rebuilt g c = λ honest.
    let content = g.D.Disk.content c.args.disk.now in
    let rebuilt = c.add_all.new.self in
    let digest = c.in_ok-digest.digest.0 in
    let same : rebuilt.store.shape ≡ c.args.region.geometry = c.add_all.ensures.region.0 in
    let number : rebuilt.store.region ≡ c.args.region.number = c.add_all.ensures.region.1 in
    let all : c.slot_count-count.result ≡ 4 * rebuilt.store.shape.buckets = omega (arith, c.slot_count-count.ensures.count, ap (λ (s : Shape). s.buckets) same) in
    let grown = c.in_ok-digest.ensures.ok honest (none_grown _ content.shown (c.in-Ok.ensures ∙ ap (λ (n : ℕ). replicate n None) c.slot_count-count.ensures.count) refl refl) in
    let digested = c.in_ok-digest.ensures.digest honest
    ∙ ap (λ (n : ℕ). sha1 (rows_bytes (rows_before c.args.region.geometry c.args.region.number content.shown n))) all
    ∙ ap (λ (s : Shape). sha1 (rows_bytes (rows_before s c.args.region.number content.shown (4 * rebuilt.store.shape.buckets)))) (sym same)
    ∙ ap (λ (n : ℕ). sha1 (rows_bytes (rows_before rebuilt.store.shape n content.shown (4 * rebuilt.store.shape.buckets)))) (sym number) in
    let whole = all_grown content (record rebuilt { store = record rebuilt.store { digest = digest } }) honest
    (grown_digested rebuilt digest content.shown (4 * rebuilt.store.shape.buckets) (subst (λ (n : ℕ). IsGrown rebuilt content.shown n) all grown)) digested in
    subst (λ (r : Rebuilt). IsRebuiltHash content (record r { store = record r.store { digest = digest } })) (sym c.rebuilt.view_is) whole
