-- What lies under the lock of an inbox, as contracts see it.
use Rattle.std.specs.Prelude.{◌≡◌, ◌+◌, ◌%◌, ◌^◌, ℕ, Bool, true, false, List, length}
use Rattle.silt_inbox.specs.Books.{JobTotals, has_books}
use Rattle.silt_inbox.specs.declared.job_queue.NotPutReason.{NotPutReason}
use Rattle.silt_inbox.specs.declared.job_queue.NotPutReason.TheVariants.{Closed, NoMemory}

pub record JobQueueState (J : Type 0) : Type 0 where
  -- the waiting jobs, in the order in which they were put
  pub jobs : List J
  pub closed : Bool

-- why a job is not put: the inbox is closed, or else it is out of memory
abbrev pub IsReason : Bool → NotPutReason → Type 0
IsReason closed Closed = closed ≡ true
IsReason closed NoMemory = closed ≡ false

-- The books are right: all places, of which there are so many, put the jobs that were taken and those that wait. These are the two totals
-- as they are kept, modulo 2^64.
pub record IsBooked {J : Type 0} (feeders count : ℕ) (jobs : List J) (puts takes : ℕ) (books : JobTotals) : Type 0 where
  pub has : has_books feeders ≡ true
  pub all : count ≡ feeders
  pub left : books.put ≡ books.taken + length jobs
  pub put : puts ≡ books.put % 2 ^ 64
  pub taken : takes ≡ books.taken % 2 ^ 64
