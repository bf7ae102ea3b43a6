use Rattle.silt_session.proofs.Common.{◌≡◌, List, length, take, drop, PlainReply, joined, DrawsHeads}
use Rattle.silt_session.proofs.set.draw_heads.Given as goal

-- the lists so far have lost their first replies, which are joined, and the others are as they were
abbrev pub invariant-loop-replies : goal.invariant-loop-replies
invariant-loop-replies l = record {
  done : (heads : List PlainReply) × DrawsHeads (take l.replies-index l.initial.replies-items) heads (take l.replies-index l.replies-items) (λ list. list.items) × (l.joined ≡ joined heads);
  rest : drop l.replies-index l.replies-items ≡ drop l.replies-index l.initial.replies-items;
  same_length : length l.replies-items ≡ length l.initial.replies-items;
}
