use Rattle.silt_log_store.proofs.Common.{◌∙◌, arith, rules}
use Rattle.silt_log_store.proofs.Growth.{index_below, slot_is, slot_stands}
use Rattle.silt_log_store.proofs.index.KeyIndex.slot_of.Goals as goal

pub first_slot-requires : goal.first_slot-requires
first_slot-requires c =
    rw (c.as_slice-2.ensures, c.as_slice.ensures.value) (λ k d low. index_below c.args.self.now c.requires.table c.requires.index _ _ (c.candidates-candidates.ensures.standing k d low))

pub returns : goal.returns
returns c =
    let key = c.args.key.now.0 in
    let slot = slot_is c.args.self.now key _ _ _ _ c.first_slot.result c.requires.table c.requires.index c.requires.first
    c.requires.second (c.as_slice-2.ensures ∙ c.candidates-candidates.ensures.in_order) c.as_slice.ensures.value c.first_slot.ensures in
    search (rules, arith, slot_stands, index_below)
