use Rattle.silt_engine.proofs.Common.{subst, ◌∙◌, refl, List, ℕ, Some, key_cmp, stored_row, Put}
use Rattle.std.specs.BTreeMap as tree
use Rattle.silt_engine.proofs.Folds.{does_put}
use Rattle.silt_engine.proofs.entries.put_value.Goals as goal

pub returns : goal.returns
returns c =
    let value = c.new.ensures ∙ c.in_ok-value.ensures.items_if_clones_equal (λ x y e. e) in
    does_put (stored_row Put c.args.key c.args.value.now) c.args.key c.args.entries.now c.insert.new.self refl refl
    (subst (λ (v : List ℕ). tree.Updates key_cmp c.args.entries.now c.insert.new.self c.args.key (Some v)) value c.in_ok-_older.ensures.updates)
