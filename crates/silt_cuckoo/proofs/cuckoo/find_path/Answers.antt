-- The lowest free slot of the first bucket, else of the second, else a walk.
use Rattle.silt_cuckoo.proofs.Common.{refl, sym, ◌∙◌, unpacked_all}
use Rattle.silt_cuckoo.proofs.Paths.{plan_first, plan_second, plan_walk}
use Rattle.silt_cuckoo.proofs.cuckoo.find_path.Goals as goal

pub returns-in-Some : goal.returns-in-Some
returns-in-Some c = rw (plan_first (unpacked_all c.args.slots.now) c.args.first c.args.second c.in-Some.free (sym c.lowest_free.ensures ∙ c.in-Some.is), c.push.ensures, c.new-path.ensures) refl

pub returns-in-Some-lowest_free : goal.returns-in-Some-lowest_free
returns-in-Some-lowest_free c =
    rw (
      plan_second (unpacked_all c.args.slots.now) c.args.first c.args.second c.in-Some-lowest_free.free (sym c.lowest_free.ensures ∙ c.in_default.is)
          (sym c.lowest_free-2.ensures ∙ c.in-Some-lowest_free.is),
      c.push-in-Some-lowest_free.ensures,
      c.new-path.ensures,
    ) refl

pub returns : goal.returns
returns c =
    rw (plan_walk (unpacked_all c.args.slots.now) c.args.first c.args.second (sym c.lowest_free.ensures ∙ c.in_default.is)
    (sym c.lowest_free-2.ensures ∙ c.in_default-lowest_free.is)) (rw c.new-path.ensures at c.walk.ensures)
