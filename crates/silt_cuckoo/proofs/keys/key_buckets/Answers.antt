use Rattle.silt_cuckoo.proofs.Common.{◌≡◌, ◌%◌, sym, ap, ◌∙◌, arith, count_ones, eqb-true}
use Rattle.silt_cuckoo.proofs.Masks.{masked}
use Rattle.silt_cuckoo.proofs.keys.key_buckets.Goals as goal

pub returns-then-is_power_of_two-clause-first : goal.returns-then-is_power_of_two-clause-first
returns-then-is_power_of_two-clause-first c =
    let one : count_ones c.args.buckets ≡ 1 = eqb-true (count_ones c.args.buckets) 1 (sym c.if-is_power_of_two.ensures) in
    masked c.read_u16-first.result c.args.buckets c.requires.some (omega (arith, c.ranges.buckets)) one ∙ ap (λ n. n % c.args.buckets) c.read_u16-first.ensures

pub returns-then-is_power_of_two-clause-second : goal.returns-then-is_power_of_two-clause-second
returns-then-is_power_of_two-clause-second c =
    let one : count_ones c.args.buckets ≡ 1 = eqb-true (count_ones c.args.buckets) 1 (sym c.if-is_power_of_two.ensures) in
    masked c.read_u16-second.result c.args.buckets c.requires.some (omega (arith, c.ranges.buckets)) one ∙ ap (λ n. n % c.args.buckets) c.read_u16-second.ensures
