use Rattle.silt_session.proofs.Common.{refl}
use Rattle.silt_session.proofs.Clients.{given_one}
use Rattle.silt_session.proofs.client.AskByAsking.ask.Goals as goal

pub returns-clause-reply : goal.returns-clause-reply
returns-clause-reply g c =
    given_one (λ told. told.now) c.one-given.result c.args.self.now.told _ (λ told given. g.F.Fn.post c.args.self.now.one.now (c.args.event, (told, tt)) given) _ refl c.one-given.ensures
