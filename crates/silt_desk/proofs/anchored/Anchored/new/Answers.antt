use Rattle.silt_desk.proofs.Common.{◌∙◌, ap, subst, sym, seen, leads_none}
use Rattle.std.proofs.Common.{[]}
use Rattle.silt_desk.specs.Anchors.{LeadsFrom}
use Rattle.silt_desk.proofs.anchored.Anchored.new.Goals as goal

pub returns-clause-past : goal.returns-clause-past
returns-clause-past g c =
    let store = seen g.D.Disk c.args.core.now in
    record {
      calls = [];
      leads = subst (λ named. LeadsFrom named [] store) (sym (ap g.N.Anchor.first c.shard.ensures ∙ c.requires.first))
          (leads_none store c.standing-known.ensures.has_map c.standing-known.ensures.few c.standing-known.ensures.begun);
      counted = c.requires.trace.1;
      logged = c.requires.log.1;
    }
