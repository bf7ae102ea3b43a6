use Rattle.silt_trie.proofs.Common.{sym}
use Rattle.silt_trie.proofs.SkipsOf.{skips_none}
use Rattle.silt_trie.proofs.key_place.locate_in.Goals as goal

pub returns-clause-place : goal.returns-clause-place
returns-clause-place c = λ keys i rest codable count is stands. c.locate_from.ensures.place 0 keys i rest codable count is (sym (skips_none keys c.args.depth)) stands
