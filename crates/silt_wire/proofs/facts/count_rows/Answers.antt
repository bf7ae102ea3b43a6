use Rattle.silt_wire.proofs.Common.{◌≡◌, Bor, List, ap, map, rules, ◌∙◌, ℕ, zip, count_names}
use Rattle.std.specs.Iterator.Adapters.{zip_first, zip_second}
use Rattle.std.specs.Slice.Iter.{iter_rest}
use Rattle.std.proofs.lemmas.Iterator.{YieldsList-from_slice, YieldsList-from_zip}
use Rattle.std.proofs.lemmas.Iterator.Consumers.{YieldsList-end}
use Rattle.silt_wire.proofs.Counted.{rows-zip}
use Rattle.silt_wire.proofs.facts.count_rows.Goals as goal

pub returns : goal.returns
returns c =
    let pairs = c.into_iter-name-iterator.result in
    let counted = c.args.counts.now.numbers in
    let gives : pairs ≡ c.zip-name-items.result = search rules in
    let second : zip_second c.zip-name-items.result ≡ c.iter-2.result = search rules in
    let texts = iter_rest c.iter.result in
    let names = YieldsList-from_slice {s = zip_first pairs} texts (ap (λ z. iter_rest (zip_first z)) gives ∙ ap iter_rest c.zip-name-items.ensures.first) in
    let numbers = YieldsList-from_slice {s = zip_second pairs} counted (ap (λ z. iter_rest (zip_second z)) gives ∙ ap iter_rest second ∙ c.iter-2.ensures.rest) in
    let end = YieldsList-end (YieldsList-from_zip names numbers) c.loop-name.yielded c.loop-name.name-iterator c.loop-name.yielded_by c.next.result c.next.new.self c.in-None.is c.next.ensures.steps in
    let named : map (λ (name : Bor (List ℕ)). name.now) texts ≡ count_names = ap (λ (ns : List (Bor (List ℕ))). map (λ name. name.now) ns) c.iter.ensures.rest in
    ap (λ (rows : List (Bor (List ℕ) × ℕ)). map (λ row. (row.0.now, row.1)) rows) (c.loop-name.invariant ∙ end.0) ∙ rows-zip texts counted
    ∙ ap (λ ns. zip ns counted) named
