use Rattle.silt_engine.proofs.Common.{rules, [], refl, Option, Ok, subst, arith, IfSome, ⊤, ConversionState, ReplacesOldest, most_both}
use Rattle.silt_engine.proofs.engine.Engine.end_conversion.Given as given
use Rattle.silt_engine.proofs.Chains.{honest_after, same_trans}
use Rattle.silt_engine.proofs.Exits.{on_error, both_went, same_disk, then_broke_off, went_off, went_so}
use Rattle.silt_engine.proofs.ConvertTurns.{converted_advances, converted_finishes, converted_may_become_current, has_converted_rows, may_replace}
use Rattle.silt_engine.proofs.engine.Engine.end_conversion.Goals.{After-replace_oldest}
use Rattle.silt_engine.proofs.engine.Engine.end_conversion.Goals as goal

-- the stores with what the conversion made, in the words of the conversion that ends
is_replaced : (g : given.Over) (c : After-replace_oldest g) → ReplacesOldest c.args.self.now c.in_ok-manifest.manifest c.replace_oldest.new.self c.requires.ends.conversion
is_replaced g c = subst (λ (o : Option ConversionState). IfSome o (ReplacesOldest c.args.self.now c.in_ok-manifest.manifest c.replace_oldest.new.self))
    c.requires.ends.was c.replace_oldest.ensures.replaced

pub change_manifest-requires-clause-next : goal.change_manifest-requires-clause-next
change_manifest-requires-clause-next g c κs within = converted_may_become_current _ _ _ _ c.in_ok-settle_work.ensures.works.advances.stands c.in_ok-settle_work.ensures.rests c.requires.ends

pub returns-in_err-manifest-clause-err : goal.returns-in_err-manifest-clause-err
returns-in_err-manifest-clause-err g c =
    on_error _ _ _ c.from_residual-in_err-manifest.ensures.1
    (then_broke_off g.D.Disk _ _ _ _ _ _ _ _ c.in_ok-settle_work.ensures.works (same_disk c.change_manifest.ensures.wrote) c.in_err-manifest.ensures.wrote.failures)

pub replace_oldest-requires : goal.replace_oldest-requires
replace_oldest-requires g c =
    let settled = c.in_ok-settle_work.ensures in
    may_replace _ _ _ _ settled.works.advances.stands settled.rests c.requires.ends _ c.change_manifest.ensures.wrote.size _ c.in_ok-manifest.ensures.ok

pub returns-in_err-manifest-clause-works : goal.returns-in_err-manifest-clause-works
returns-in_err-manifest-clause-works g c =
    went_off g.D.Disk _ _ _ _ _ _ c.from_residual-in_err-manifest.ensures.1 (same_trans _ _ _ c.settle_work.ensures.works.same (same_disk
    c.change_manifest.ensures.wrote)) refl (most_both _ c.in_ok-settle_work.ensures.works.made c.in_err-manifest.ensures.wrote.made (omega arith) (omega arith))

pub returns : goal.returns
returns g c =
    let is = is_replaced g (goal.at.returns g c).After-replace_oldest in
    let settled = c.in_ok-settle_work.ensures in
    let stands = settled.works.advances.stands in
    let wrote = c.change_manifest.ensures.wrote in
    let now = c.in_ok-manifest.ensures in
    let whole = c.replace_oldest.ensures.whole in
    let two = converted_advances _ _ _ _ stands settled.rests c.requires.ends _ wrote.size _ now.ok is.digest is.digested _ whole is.is in
    let rest = went_so {E = ⊤} g.D.Disk [] c.settle_work.new.disk c.change_manifest.new.disk c.args.self.now c.replace_oldest.new.self
    (Ok c.in_ok-manifest.manifest) (same_disk wrote) stands now.wrote.failures two now.wrote.made in
    record {
      works = both_went g.D.Disk [] [] _ _ _ _ _ _ _ _ _ settled.works rest (omega arith) (omega arith);
      finishes = converted_finishes _ _ _ _ stands settled.rests c.requires.ends _ wrote.size _ now.ok _ is.digested _ is.is;
      rows = λ honest. has_converted_rows _ _ _ _ stands settled.rests c.requires.ends _ wrote.size _ now.ok _ is.digested _ _ whole is.is c.requires.stands honest
          (honest_after _ _ c.settle_work.ensures.works.same honest) (settled.stores honest);
      err = search rules;
    }
