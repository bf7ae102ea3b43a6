use Rattle.silt_manifest.proofs.Common.{rules, Shows, Rests, IsCurrentIn, IsCurrent, GaveAny}
use Rattle.silt_manifest.specs.Faults.{IsNotRead}
use Rattle.silt_disk.proofs.Images.{rests_leaves}
use Rattle.silt_manifest.proofs.ReadExits.{first_refused, second_refused, none_refused, slots_are_current, where_some, where_none}
use Rattle.silt_manifest.proofs.manifest.read_current.Goals as goal

pub returns-in_err-first-clause-refused : goal.returns-in_err-first-clause-refused
returns-in_err-first-clause-refused g c =
    let content = g.D.Disk.content c.args.disk.now in
    let fact = first_refused content c.args.geometry c.args.version (GaveAny g.D.Disk.gave c.args.disk.now) c.in_err-first.field-0.0 c.requires.version c.in_err-first.ensures.refused in
    search (rules, fact)

pub returns-in_err-second-clause-refused : goal.returns-in_err-second-clause-refused
returns-in_err-second-clause-refused g c =
    let content = g.D.Disk.content c.args.disk.now in
    let fact = second_refused content c.args.geometry c.args.version (GaveAny g.D.Disk.gave c.args.disk.now) c.in_ok-first.first
    c.in_err-second.field-0.0 c.requires.version c.in_ok-first.ensures.held c.in_err-second.ensures.refused in
    search (rules, fact)

pub returns-clause-shown : goal.returns-clause-shown
returns-clause-shown g c =
    let content = g.D.Disk.content c.args.disk.now in
    rw c.ok_or.ensures.value (where_some c.of_slots.result _ (λ m. Shows content (IsCurrentIn m)) (λ m is. slots_are_current content c.args.geometry c.args.version c.in_ok-first.first
    c.in_ok-second.second c.of_slots.result m c.requires.version c.in_ok-first.ensures.held c.in_ok-second.ensures.held c.of_slots.ensures is))

pub returns-clause-current : goal.returns-clause-current
returns-clause-current g c =
    let content = g.D.Disk.content c.args.disk.now in
    rw c.ok_or.ensures.value (where_some c.of_slots.result _ (λ m. Rests content → IsCurrent m content) (λ m is rests. rests_leaves rests (slots_are_current content c.args.geometry c.args.version
    c.in_ok-first.first c.in_ok-second.second c.of_slots.result m c.requires.version c.in_ok-first.ensures.held c.in_ok-second.ensures.held c.of_slots.ensures is)))

pub returns-clause-refused : goal.returns-clause-refused
returns-clause-refused g c =
    let content = g.D.Disk.content c.args.disk.now in
    rw c.ok_or.ensures.value (where_none c.of_slots.result _ (IsNotRead content c.args.geometry (GaveAny g.D.Disk.gave c.args.disk.now)) (λ is. none_refused content c.args.geometry c.args.version
    c.in_ok-first.first c.in_ok-second.second c.of_slots.result c.requires.version c.in_ok-first.ensures.held c.in_ok-second.ensures.held c.of_slots.ensures is))
