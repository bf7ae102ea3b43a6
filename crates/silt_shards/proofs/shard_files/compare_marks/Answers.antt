use Rattle.silt_shards.proofs.Common.{◌≡◌, ℕ, List, Some, length, get_or, refl, arith, slice_get, slice_get_read, Ghosts, CausedAt, IsRefusedUnopened, IsShardCount, SetCause}
use Rattle.silt_shards.proofs.Openings.{count_least, no_other, says_all, says_more, says_none}
use Rattle.silt_shards.proofs.shard_files.compare_marks.Goals as goal

-- the first disk is there
first_there : {D : Type 0} (disks : List D) (disk : D) → IsShardCount (length disks) → disk ≡ get_or disks 0 disk → slice_get disks 0 ≡ Some disk
first_there disks disk count is = slice_get_read disks (length disks) 0 disk refl (omega (arith, count_least (length disks) count)) is

-- a disk of this number is refused as it is
unopened : {D F : Type 0} (facts : Ghosts D F) (disks : List D) (shard : ℕ) (first disk : D) (cause : SetCause F) → slice_get disks 0 ≡ Some first
    → slice_get disks shard ≡ Some disk → CausedAt facts (length disks) shard first disk disk cause → IsRefusedUnopened facts disks shard cause
unopened facts disks shard first disk cause at_first at_shard caused = record {
  disk = disk;
  at_shard = at_shard;
  refused = record { first = first; disk = disk; at_first = at_first; at_shard = at_shard; caused = caused; images = no_other (facts.content disk) };
}

pub returns-in-Err-clause-cause : goal.returns-in-Err-clause-cause
returns-in-Err-clause-cause g c =
    let there = first_there c.args.disks.now _ c.requires c.index-disks-0.is in
    unopened g.D.Disk c.args.disks.now 0 _ _ _ there there (c.in-Err.ensures.cause c.index-disks-0.result)

pub loop-shard-init : goal.loop-shard-init
loop-shard-init g c =
    let mark = c.in-Ok.ensures.mark in
    let there = first_there c.args.disks.now _ c.requires c.index-disks-0.is in
    says_more g.D.Disk _ _ 0 _ c.in-Ok.mark (says_none g.D.Disk c.args.disks.now c.in-Ok.mark.set) there mark.0 mark.1 refl mark.2

pub returns-then-not-are_of_one_set-clause-cause : goal.returns-then-not-are_of_one_set-clause-cause
returns-then-not-are_of_one_set-clause-cause g c =
    let there = slice_get_read c.args.disks.now _ _ c.index-disks-shard.result refl (omega (arith, c.loop-shard-test.true)) c.index-disks-shard.is in
    unopened g.D.Disk c.args.disks.now _ _ _ _ (first_there c.args.disks.now _ c.requires c.index-disks-0.is) there (
      c.in-Ok-due_mark.mark,
      c.in-Ok.mark,
      c.in-Ok-due_mark.ensures.mark.2,
      c.in-Ok.ensures.mark.2,
      λ same. absurd (let shown = c.are_of_one_set.ensures.1 same in let hidden = c.if-not-are_of_one_set.true in cc),
    )

pub returns-in-Err-due_mark-clause-cause : goal.returns-in-Err-due_mark-clause-cause
returns-in-Err-due_mark-clause-cause g c =
    let there = slice_get_read c.args.disks.now _ _ c.index-disks-shard.result refl (omega (arith, c.loop-shard-test.true)) c.index-disks-shard.is in
    unopened g.D.Disk c.args.disks.now _ _ _ _ (first_there c.args.disks.now _ c.requires c.index-disks-0.is) there (c.in-Err-due_mark.ensures.cause c.index-disks-0.result)

pub loop-shard-preserved : goal.loop-shard-preserved
loop-shard-preserved g c =
    let there = slice_get_read c.args.disks.now _ _ c.index-disks-shard.result refl (omega (arith, c.loop-shard-test.true)) c.index-disks-shard.is in
    let mark = c.in-Ok-due_mark.ensures.mark in
    let named = c.are_of_one_set.ensures.0 c.if-not-are_of_one_set.false in
    says_more g.D.Disk _ _ _ _ c.in-Ok-due_mark.mark c.loop-shard.invariant there mark.0 mark.1 named mark.2

pub returns-clause-shards : goal.returns-clause-shards
returns-clause-shards g c = says_all g.D.Disk c.args.disks.now c.in-Ok.mark.set c.loop-shard.shard c.loop-shard.invariant c.loop-shard-test.false
