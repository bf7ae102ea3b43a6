use Rattle.silt_engine.proofs.Common.{rules, ◌≡◌, [], refl, Ok, arith, ⊤, sorted_replaced, most_both}
use Rattle.silt_engine.proofs.engine.Engine.end_merge.Given as given
use Rattle.silt_engine.proofs.Chains.{honest_after, same_trans}
use Rattle.silt_engine.proofs.Exits.{on_error, both_went, same_disk, then_broke_off, went_off, went_so}
use Rattle.silt_engine.proofs.MergeTurns.{ends_merged, has_merged_entries, may_stand_for, merged_advances, merged_may_become_current}
use Rattle.silt_engine.proofs.engine.Engine.end_merge.Goals.{After-replace_sorted}
use Rattle.silt_engine.proofs.engine.Engine.end_merge.Goals as goal

-- the stores with what the merge made, in the words of the merge that ends
is_replaced : (g : given.Over) (c : After-replace_sorted g)
    → c.replace_sorted.new.self ≡ sorted_replaced c.args.self.now c.in_ok-manifest.manifest c.requires.ends.2.merge.stores c.requires.ends.0
is_replaced g c =
    let settled = c.in_ok-settle_work.ensures in
    let may = may_stand_for _ _ _ _ _ settled.works.advances.stands settled.rests c.requires.ends.2 _ c.change_manifest.ensures.wrote.size _ c.in_ok-manifest.ensures.ok in
    rw c.requires.ends.2.was at (c.replace_sorted.ensures.replaced c.requires.ends.0 c.requires.ends.1 may)

pub change_manifest-requires-clause-next : goal.change_manifest-requires-clause-next
change_manifest-requires-clause-next g c κs within = merged_may_become_current _ _ _ _ _ c.in_ok-settle_work.ensures.works.advances.stands c.in_ok-settle_work.ensures.rests c.requires.ends.2

pub returns-in_err-manifest-clause-err : goal.returns-in_err-manifest-clause-err
returns-in_err-manifest-clause-err g c =
    on_error _ _ _ c.from_residual-in_err-manifest.ensures.1
    (then_broke_off g.D.Disk _ _ _ _ _ _ _ _ c.in_ok-settle_work.ensures.works (same_disk c.change_manifest.ensures.wrote) c.in_err-manifest.ensures.wrote.failures)

pub replace_sorted-requires : goal.replace_sorted-requires
replace_sorted-requires g c =
    let settled = c.in_ok-settle_work.ensures in (
      c.requires.ends.0,
      c.requires.ends.1,
      may_stand_for _ _ _ _ _ settled.works.advances.stands settled.rests c.requires.ends.2 _ c.change_manifest.ensures.wrote.size _ c.in_ok-manifest.ensures.ok,
    )

pub returns-in_err-manifest-clause-works : goal.returns-in_err-manifest-clause-works
returns-in_err-manifest-clause-works g c =
    went_off g.D.Disk _ _ _ _ _ _ c.from_residual-in_err-manifest.ensures.1 (same_trans _ _ _ c.settle_work.ensures.works.same (same_disk
    c.change_manifest.ensures.wrote)) refl (most_both _ c.in_ok-settle_work.ensures.works.made c.in_err-manifest.ensures.wrote.made (omega arith) (omega arith))

pub returns : goal.returns
returns g c =
    let is = is_replaced g (goal.at.returns g c).After-replace_sorted in
    let settled = c.in_ok-settle_work.ensures in
    let stands = settled.works.advances.stands in
    let wrote = c.change_manifest.ensures.wrote in
    let now = c.in_ok-manifest.ensures in
    let two = merged_advances _ _ _ _ _ stands settled.rests c.requires.ends.2 _ wrote.size _ now.ok _ is in
    let rest = went_so {E = ⊤} g.D.Disk [] c.settle_work.new.disk c.change_manifest.new.disk c.args.self.now c.replace_sorted.new.self
    (Ok c.in_ok-manifest.manifest) (same_disk wrote) stands now.wrote.failures two now.wrote.made in
    record {
      works = both_went g.D.Disk [] [] _ _ _ _ _ _ _ _ _ settled.works rest (omega arith) (omega arith);
      ends = ends_merged _ _ _ _ _ stands settled.rests c.requires.ends.2 _ wrote.size _ now.ok _ is;
      entries = λ honest. has_merged_entries _ _ _ _ _ stands settled.rests c.requires.ends.2 _ wrote.size _ now.ok _ _ is c.requires.stands honest
          (honest_after _ _ c.settle_work.ensures.works.same honest) (settled.stores honest);
      err = search rules;
    }
