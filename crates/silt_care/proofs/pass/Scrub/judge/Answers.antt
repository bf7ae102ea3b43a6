use Rattle.std.proofs.Common.{◌≡◌, ◌≢◌, Some, refl, rules}
use Rattle.sha1.specs.Sha1.{sha1}
use Rattle.silt_care.specs.Extents.{extent_of}
use Rattle.silt_care.specs.Orders.{ShowsExtent}
use Rattle.silt_care.proofs.Looking.{unread_of}
use Rattle.silt_care.proofs.pass.Scrub.judge.Goals as goal
use Rattle.silt_care.proofs.pass.Scrub.judge.Goals.{in-Ok-2, in-Err-Unread}

pub returns-clause-verdict : goal.returns-clause-verdict
returns-clause-verdict g c =
    let first : extent_of c.args.geometry.now c.named.result c.args.part ≡ Some c.in-Some.extent = search rules in
    let again : extent_of c.args.geometry.now c.named-2.result c.args.part ≡ Some c.in-Some.extent = search rules in
    let begun : ShowsExtent g.L.Looks c.args.geometry.now c.args.part c.in-Some.extent c.args.looks.now c.named.new.self = (c.named.result, c.named.ensures, first) in
    let last : ShowsExtent g.L.Looks c.args.geometry.now c.args.part c.in-Some.extent c.digest.new.looks c.named-2.new.self = (c.named-2.result, c.named-2.ensures, again) in
    elim c.match-digest.branch [
      | in-Ok-2 w ↦
          let h = w.in-Ok-2.ensures.ok in
          let other : sha1 h.0 ≢ c.in-Some.extent.digest.0 = search rules in
          rw w.verdict-is (c.in-Some.extent, h.0, c.named.new.self, c.digest.new.looks, begun, h.1, other, refl, last)
      | in-Err-Unread w ↦
          let some =
          unread_of g.L.Looks g.F.Finds c.args.finds.now c.in-Some.extent c.named.new.self c.digest.new.looks c.digest.result w.in-Err-Unread.field-0 c.digest.ensures.err
          w.in-Err-Unread.is w.in-Err-Unread.field-0-is in
          rw w.verdict-is (c.in-Some.extent, c.named.new.self, c.digest.new.looks, begun, some, last)
    ]
