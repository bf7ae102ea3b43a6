use Rattle.silt_shards.proofs.Common.{ℕ, [], ◌∷◌, ◌++◌, sym, ◌∙◌, ap, PlainReply, Acknowledged, joined}
use Rattle.silt_shards.proofs.Joins.{acknowledges_not, joined_adds, joined_refuses, joined_stays}
use Rattle.silt_shards.proofs.store_set.join.Goals as goal

pub returns-in_default : goal.returns-in_default
returns-in_default c = λ parts is. joined_stays parts c.args.so_far c.args.part (acknowledges_not c.args.so_far c.in_default.not-Acknowledged) is

pub returns-in-Acknowledged-part : goal.returns-in-Acknowledged-part
returns-in-Acknowledged-part c = λ parts is.
    ap (λ (n : ℕ). Acknowledged n) c.saturating_add.ensures
    ∙ joined_adds parts c.in-Acknowledged.sum c.in-Acknowledged-part.count (sym c.in-Acknowledged.is ∙ is)
    ∙ ap (λ (part : PlainReply). joined (parts ++ part ∷ [])) (sym c.in-Acknowledged-part.is)

pub returns-in_default-part : goal.returns-in_default-part
returns-in_default-part c = λ parts is.
    joined_refuses parts c.in-Acknowledged.sum c.args.part (acknowledges_not c.args.part c.in_default-part.not-Acknowledged) (sym c.in-Acknowledged.is ∙ is)
