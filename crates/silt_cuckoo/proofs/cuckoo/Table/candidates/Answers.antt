-- The candidates are those of the rule.
use Rattle.silt_cuckoo.proofs.Common.{◌≡◌, refl, ap, ◌∙◌, IsTable, unpacked_all, candidates_of}
use Rattle.silt_cuckoo.proofs.Matching.{candidates_exact, candidates_once, candidates_standing}
use Rattle.silt_cuckoo.proofs.cuckoo.Table.candidates.Goals as goal

pub returns : goal.returns
returns c =
    let is : c.of.result ≡ candidates_of c.args.self.now c.args.first c.args.second =
    c.of.ensures ∙ ap (λ s. candidates_of (unpacked_all s) c.args.first c.args.second) c.as_slice.ensures.value ∙ ap (λ s. candidates_of s c.args.first c.args.second) c.self.view_is in
    let table : IsTable c.args.self.now = rw c.self.view_is at c.self.invariant in
    rw is (record {
      in_order = refl;
      exactly = λ place. candidates_exact c.args.self.now c.args.first c.args.second place table.places_apart;
      standing = candidates_standing c.args.self.now c.args.first c.args.second;
      each_once = candidates_once c.args.self.now c.args.first c.args.second table.places_apart;
    })
