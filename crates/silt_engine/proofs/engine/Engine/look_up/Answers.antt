use Rattle.silt_engine.proofs.Common.{Ok, ap}
use Rattle.silt_engine.proofs.Walks.{found_delete, found_put, gets_none, gets_value}
use Rattle.silt_engine.proofs.engine.Engine.look_up.Goals as goal

pub returns-in-Some-clause-found : goal.returns-in-Some-clause-found
returns-in-Some-clause-found g c = λ stands is honest. found_put _ _ _ _ _ _ _ (c.in_ok-holder.ensures.found stands honest) c.in-Some.is (c.in_ok-holder.ensures.value honest) (cc)

pub returns-in-Some-clause-none : goal.returns-in-Some-clause-none
returns-in-Some-clause-none g c = λ stands is honest. found_delete _ _ _ _ _ _ (c.in_ok-holder.ensures.found stands honest) c.in-Some.is (cc)

pub returns-in_ok-get-in-None-clause-found : goal.returns-in_ok-get-in-None-clause-found
returns-in_ok-get-in-None-clause-found g c = λ stands is honest. gets_value _ _ _ c.self.view_is _ _ c.in_ok-holder.ensures.found c.in-None.is stands honest _
    (λ h nothing indexed. c.in_ok-get-in-None.ensures.found h nothing indexed (ap Ok is))

pub returns-in_ok-get-in-None-clause-none : goal.returns-in_ok-get-in-None-clause-none
returns-in_ok-get-in-None-clause-none g c = λ stands is honest. gets_none _ _ _ c.self.view_is _ _ c.in_ok-holder.ensures.found c.in-None.is stands honest (λ h
    nothing indexed. c.in_ok-get-in-None.ensures.none h nothing indexed (ap Ok is))
