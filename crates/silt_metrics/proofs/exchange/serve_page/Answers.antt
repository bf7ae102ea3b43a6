use Rattle.std.proofs.Common.{[], inr, refl}
use Rattle.silt_metrics.specs.Responses.{response_text}
use Rattle.silt_metrics.proofs.Reading.{nothing_written}
use Rattle.silt_metrics.proofs.exchange.serve_page.Goals as goal

pub returns-in_default-response : goal.returns-in_default-response
returns-in_default-response g c =
    let read = c.in-Some.ensures in (
      read.0,
      read.1,
      (c.in-Some.wanted, [], inr refl, (response_text c.in-Some.wanted c.args.facts.now c.args.counts.now, refl), nothing_written (g.W.Write.contents c.args.writer.now)),
    )
