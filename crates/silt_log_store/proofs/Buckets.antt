-- The bucket counts of a geometry are those of a table.
use Rattle.silt_log_store.proofs.Common.{◌≡◌, ℕ, Bool, true, false, ◌||◌, IsTrue, eqb, refl, sym, subst, lit≤, eqb-true, is_bucket_count, IsBucketCount}

-- one of the counts
one : (count n : ℕ) → IsBucketCount count → eqb n count ≡ true → IsBucketCount n
one count n is test = subst IsBucketCount (sym (eqb-true n count test)) is

-- an earlier one, or this one
more : (earlier : Bool) (count n : ℕ) → IsBucketCount count → (earlier ≡ true → IsBucketCount n) → (earlier || eqb n count) ≡ true → IsBucketCount n
more true count n is rest test = rest refl
more false count n is rest test = one count n is test

-- the counts of a geometry
pub bucket_count_is : (n : ℕ) → IsTrue (is_bucket_count n) → IsBucketCount n
unfolding lib.Count.ones
bucket_count_is n =
    more _ 32768 n (record { least = lit≤ tt; most = lit≤ tt; power = refl }) (more _ 16384 n (record { least = lit≤ tt; most = lit≤ tt; power = refl }) (more _
    8192 n (record { least = lit≤ tt; most = lit≤ tt; power = refl }) (more _ 4096 n (record { least = lit≤ tt; most = lit≤ tt; power = refl }) (more _ 2048 n
    (record { least = lit≤ tt; most = lit≤ tt; power = refl }) (more _ 1024 n (record { least = lit≤ tt; most = lit≤ tt; power = refl }) (more _ 512 n
    (record { least = lit≤ tt; most = lit≤ tt; power = refl }) (more _ 256 n (record { least = lit≤ tt; most = lit≤ tt; power = refl }) (more _ 128 n
    (record { least = lit≤ tt; most = lit≤ tt; power = refl }) (more _ 64 n (record { least = lit≤ tt; most = lit≤ tt; power = refl }) (more _ 32 n
    (record { least = lit≤ tt; most = lit≤ tt; power = refl }) (more _ 16 n (record { least = lit≤ tt; most = lit≤ tt; power = refl }) (more _ 8 n
    (record { least = lit≤ tt; most = lit≤ tt; power = refl }) (more _ 4 n (record { least = lit≤ tt; most = lit≤ tt; power = refl }) (one 2 n
    (record { least = lit≤ tt; most = lit≤ tt; power = refl })))))))))))))))
