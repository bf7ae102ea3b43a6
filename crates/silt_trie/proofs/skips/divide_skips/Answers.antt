use Rattle.silt_trie.proofs.Common.{refl}
use Rattle.silt_trie.proofs.SkipsOf.{divided_none, divided_some}
use Rattle.silt_trie.proofs.skips.divide_skips.Goals as goal

pub returns-in_default : goal.returns-in_default
returns-in_default c = λ m keys d is. divided_none m keys d _ c.in_default.ensures.cases is

pub returns : goal.returns
returns c = λ m keys d is. divided_some m keys d _ _ _ _ _ _ c.in-Some.ensures.cases.0 refl c.split_at.ensures.front c.split_at.ensures.back is
