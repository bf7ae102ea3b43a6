use Rattle.silt_resp.proofs.Common.{◌≡◌, drop, list_any, is_section}
use Rattle.silt_resp.proofs.info.has_section.Given as goal

abbrev pub invariant-loop-index : goal.invariant-loop-index
invariant-loop-index l = list_any (is_section l.name) l.args ≡ list_any (is_section l.name) (drop l.index l.args)
