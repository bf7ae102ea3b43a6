use Rattle.silt_cuckoo.proofs.Common.{ap, ◌∙◌, unpacked_all, has_candidates}
use Rattle.silt_cuckoo.proofs.Tagged.{candidates_of_both}
use Rattle.silt_cuckoo.proofs.cuckoo.Table.has_candidates.Goals as goal

pub returns : goal.returns
returns c =
    candidates_of_both (unpacked_all c.as_slice-slots.result.now) c.args.first c.args.second _ _ c.has_match.ensures c.has_match-2.ensures
    ∙ ap (λ s. has_candidates (unpacked_all s) c.args.first c.args.second) c.as_slice-slots.ensures.value ∙ ap (λ s. has_candidates s c.args.first c.args.second) c.self.view_is
