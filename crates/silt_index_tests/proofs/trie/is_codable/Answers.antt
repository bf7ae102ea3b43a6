use Rattle.std.proofs.Common.{◌≡◌, ◌+◌, ◌-◌, [], sym, ◌∙◌, arith, inl, inr}
use Rattle.std.proofs.lemmas.Bool.{cases_lt, false≢true}
use Rattle.silt_trie.proofs.Codes.{at_follows, follows_at}
use Rattle.silt_index_tests.proofs.trie.is_codable.Goals as goal

pub returns-then-not-follows : goal.returns-then-not-follows
returns-then-not-follows c = (
  λ e. absurd (false≢true e),
  λ codable.
      let next = at_follows c.args.depth c.loop-i.i c.args.keys.now (record { 0 = [] }) (omega arith) (omega arith) codable in
      sym c.if-not-follows.true ∙ c.follows.ensures.1 next,
)

pub loop-i-preserved : goal.loop-i-preserved
loop-i-preserved c = λ j h.
    let here = follows_at c.args.depth c.loop-i.i c.args.keys.now (record { 0 = [] }) (omega arith) (omega arith) (c.follows.ensures.0 c.if-not-follows.false) in
    elim (cases_lt (j + 1) c.loop-i.i) [
      | inl before ↦ c.loop-i.invariant j before
      | inr last ↦ let e : c.loop-i.i - 1 ≡ j = omega arith in rw e at here
    ]
