-- Lemmas on lists to which more is appended.
use Rattle.silt_trie.proofs.Common.{◌≡◌, List, [], ◌++◌, sym, Grows, append-nil, append_assoc}

-- nothing was appended
pub grows_none : {X : Type 0} (old : List X) → Grows old old
grows_none old = ([], sym (append-nil old))

-- more was appended, and then this
pub grows_more : {X : Type 0} (old mid more new : List X) → Grows old mid → new ≡ mid ++ more → Grows old new
grows_more old mid more new grows is = (grows.0 ++ more, rw (is, grows.1) (append_assoc old grows.0 more))

-- more was appended twice
pub grows_twice : {X : Type 0} (old mid new : List X) → Grows old mid → Grows mid new → Grows old new
grows_twice old mid new first second = grows_more old mid second.0 new first second.1
