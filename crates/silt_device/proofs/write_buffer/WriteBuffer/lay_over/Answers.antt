use Rattle.silt_device.proofs.Common.{rules, ◌≡◌, ◌+◌, ◌<◌, length, sym, subst, LaidOver}
use Rattle.silt_device.proofs.Waiting.{laid_there}
use Rattle.silt_device.proofs.write_buffer.WriteBuffer.lay_over.Goals as goal

pub returns-then-start-end : goal.returns-then-start-end
returns-then-start-end c =
    let g = c.args.self.now in
    let start = c.max-start.result in
    let end = c.min-end.result in
    let first : (g.at < start → start ≡ c.args.at) = λ later. search rules in
    let last : (end < g.at + length g.bytes → end ≡ c.args.at + length c.args.out.now) = λ earlier. search rules in
    subst (λ l. LaidOver g c.args.at c.args.out.now l) (sym c.put.ensures)
    (laid_there g c.args.at start end c.args.out.now _ (search rules) (search rules) (search rules) (search rules) (search rules) first last (search rules))
