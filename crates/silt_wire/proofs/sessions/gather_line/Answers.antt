use Rattle.silt_wire.proofs.Common.{◌++◌, List, ℕ, ap, subst, sym, ◌∙◌, requests, HoldsBytes, asks, not-false, not-true}
use Rattle.silt_wire.proofs.Streams.{piece-line, piece-open, piece-over}
use Rattle.silt_wire.proofs.sessions.gather_line.Goals as goal

pub returns-clause-holds : goal.returns-clause-holds
returns-clause-holds c = λ p h.
    subst (λ (rest : List ℕ). HoldsBytes c.clear.new.self rest)
    (sym (piece-over p c.args.bytes.now c.in_ok-taken.taken c.take.new.self (not-false _ c.if-not-taken.false) (c.in_ok-taken.ensures.takes p h))) c.clear.ensures

pub returns-clause-all : goal.returns-clause-all
returns-clause-all c = λ p h.
    let line = piece-line p c.args.bytes.now c.in_ok-taken.taken c.take.new.self (not-false _ c.if-not-taken.false) (c.in_ok-taken.ensures.takes p h) in
    ap (λ lines. requests c.args.batch.now ++ asks c.args.value_len lines) line.2 ∙ c.in_ok-tail.ensures.all line.0 line.1

pub returns-then-not-taken-clause-holds : goal.returns-then-not-taken-clause-holds
returns-then-not-taken-clause-holds c = λ p h. (piece-open p c.args.bytes.now c.in_ok-taken.taken c.take.new.self (not-true _ c.if-not-taken.true) (c.in_ok-taken.ensures.takes p h)).0

pub returns-then-not-taken-clause-all : goal.returns-then-not-taken-clause-all
returns-then-not-taken-clause-all c = λ p h.
    ap (λ lines. requests c.args.batch.now ++ asks c.args.value_len lines)
    (piece-open p c.args.bytes.now c.in_ok-taken.taken c.take.new.self (not-true _ c.if-not-taken.true) (c.in_ok-taken.ensures.takes p h)).1
