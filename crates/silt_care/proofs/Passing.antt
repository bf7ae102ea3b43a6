-- What a pass has counted so far fits its numbers.
use Rattle.std.proofs.Common.{◌≡◌, ◌+◌, ◌*◌, ◌^◌, ◌≤◌, ◌∙◌, ℕ, Bool, ap, arith, false, subst, sym, true}
use Rattle.silt_care.specs.Extents.{part_at}
use Rattle.silt_care.specs.Scrubs.{Hears, IsVerdict, Passes, begins, finding_of, goes_on, nothing, verdict_len, with_verdict}
use Rattle.silt_care.specs.declared.finds.Finds.{Ghosts as FindsOf}
use Rattle.silt_care.specs.declared.extent.Part.{Part}
use Rattle.silt_care.specs.declared.pass.Scrubbed.{Scrubbed}
use Rattle.silt_care.specs.declared.pass.Verdict.{Verdict}
use Rattle.silt_care.specs.declared.pass.Verdict.TheVariants.{Unnamed, Sound, Damaged, Unread, Moved, Ended}
use Rattle.silt_disk.specs.Layout.{Shape}
use Rattle.silt_view.specs.declared.view.View.{Ghosts as ViewOf}

-- no count is above the number of parts, and a part has at most 2^39 bytes
pub record AreFew (parts : ℕ) (so_far : Scrubbed) : Type 0 where
  pub stores : so_far.stores ≤ parts
  pub bytes : so_far.bytes ≤ parts * 2 ^ 39
  pub skipped : so_far.skipped ≤ parts
  pub findings : so_far.findings ≤ parts

pub none_yet : AreFew 0 nothing
none_yet = record { stores = omega arith; bytes = omega arith; skipped = omega arith; findings = omega arith }

pub few_more : (parts : ℕ) (so_far : Scrubbed) (part : Part) (verdict : Verdict) → AreFew parts so_far → verdict_len verdict ≤ 2 ^ 39 → AreFew (parts + 1) (with_verdict so_far part verdict)
few_more parts so_far part Unnamed few most =
    record { stores = omega (arith, few.stores); bytes = omega (arith, few.bytes, most); skipped = omega (arith, few.skipped); findings = omega (arith, few.findings) }
few_more parts so_far part verdict few most =
    record { stores = omega (arith, few.stores); bytes = omega (arith, few.bytes, most); skipped = omega (arith, few.skipped); findings = omega (arith, few.findings) }

-- a pass that has begun
pub passes_none : {V G F : Type 0} (view : ViewOf V G) (finds : FindsOf F) (seen : V) (shape : Shape) (first : F) (so_far : Scrubbed) → so_far ≡ nothing
    → Passes view finds seen shape first 0 so_far first
passes_none view finds seen shape first so_far is = rw is begins

-- one part more
pub passes_more : {V G F : Type 0} (view : ViewOf V G) (finds : FindsOf F) (seen : V) (shape : Shape) (first now after : F) (place : ℕ) (so_far whole : Scrubbed) (part : Part) (verdict : Verdict)
    → part ≡ part_at shape place → Passes view finds seen shape first place so_far now → IsVerdict view finds seen shape now part verdict
    → Hears finds now (finding_of part verdict) after → whole ≡ with_verdict so_far part verdict → Passes view finds seen shape first (place + 1) whole after
passes_more view finds seen shape first now after place so_far whole part verdict part_is passes judged heard is =
    rw (is, part_is) (goes_on verdict passes (rw part_is at judged) (rw part_is at heard))

pub never_both : (test : Bool) → test ≡ true → test ≡ false → ⊥
never_both test is not = cc
