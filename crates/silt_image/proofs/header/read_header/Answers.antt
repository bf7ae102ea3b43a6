use Rattle.silt_image.proofs.Common.{IsTrue, sym, ◌∙◌, arith, rules}
use Rattle.silt_image.proofs.HeaderExits.{another_length}
use Rattle.silt_image.proofs.header.read_header.Goals as goal

pub returns-then-len-size-clause-finding : goal.returns-then-len-size-clause-finding
returns-then-len-size-clause-finding c =
    let is : IsTrue c.is_formatted.result = search rules in
    another_length c.args.len c.size.result c.args.header.now c.in-Ok.geometry (omega arith) (sym c.is_formatted.ensures ∙ is) c.in-Ok.ensures c.size.ensures.value c.if-len-size.true
