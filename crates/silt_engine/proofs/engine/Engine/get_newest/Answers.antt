use Rattle.silt_engine.proofs.Walks.{active_value, newest_active, newest_frozen, newest_hashed, newest_nowhere, none_of}
use Rattle.silt_engine.proofs.Waits.{active_waits, nothing_waits}
use Rattle.silt_engine.proofs.engine.Engine.get_newest.Goals as goal

pub returns-in-Some-clause-found : goal.returns-in-Some-clause-found
returns-in-Some-clause-found g c = rw (← c.self.view_is) (λ stands honest. newest_active _ _ _ _ _ stands honest c.in_ok-found.ensures.last c.in-Some.is)

pub returns-in-Some-clause-value : goal.returns-in-Some-clause-value
returns-in-Some-clause-value g c = λ honest.
    active_value (g.D.Disk.content c.args.disk.now) _ c.args.self.now c.self.view_is _ c.in-Some.found _ c.in-Some.is (c.in_ok-found.ensures.value honest)

pub returns-in-Some-2-clause-found : goal.returns-in-Some-2-clause-found
returns-in-Some-2-clause-found g c = λ stands honest. newest_frozen _ _ _ c.self.view_is _ _ c.in_ok-found.ensures.last (none_of _ c.in_default.not-Some) _
    c.in_ok-index.ensures.found stands honest _ _ c.in_ok-index.ensures.there c.in-Some-2.is

pub returns-in_default-3-clause-found : goal.returns-in_default-3-clause-found
returns-in_default-3-clause-found g c = λ stands honest. newest_nowhere _ _ _ c.self.view_is _ _ c.in_ok-found.ensures.last (none_of _ c.in_default.not-Some) _
    c.in_ok-index.ensures.found stands honest (none_of _ c.in_default-2.not-Some) _ c.in_ok-number.ensures.found (none_of _ c.in_default-3.not-Some)

pub returns-clause-found : goal.returns-clause-found
returns-clause-found g c = λ stands honest. newest_hashed _ _ _ c.self.view_is _ _ c.in_ok-found.ensures.last (none_of _ c.in_default.not-Some) _
    c.in_ok-index.ensures.found stands honest (none_of _ c.in_default-2.not-Some) _ c.in_ok-number.ensures.found _ _ c.in_ok-number.ensures.there c.in-Some-3.is

pub returns-in-Some-clause-waits : goal.returns-in-Some-clause-waits
returns-in-Some-clause-waits g c = λ stands honest. active_waits _ _ _ c.self.view_is _ _ c.in_ok-found.ensures.last stands honest _ c.in-Some.is

pub returns-in-Some-2-clause-waits : goal.returns-in-Some-2-clause-waits
returns-in-Some-2-clause-waits g c = λ stands honest. nothing_waits _ _ _ c.self.view_is _ _ c.in_ok-found.ensures.last stands honest (none_of _ c.in_default.not-Some)

pub returns-in_default-3-clause-waits : goal.returns-in_default-3-clause-waits
returns-in_default-3-clause-waits g c = λ stands honest. nothing_waits _ _ _ c.self.view_is _ _ c.in_ok-found.ensures.last stands honest (none_of _ c.in_default.not-Some)

pub returns-clause-waits : goal.returns-clause-waits
returns-clause-waits g c = λ stands honest. nothing_waits _ _ _ c.self.view_is _ _ c.in_ok-found.ensures.last stands honest (none_of _ c.in_default.not-Some)
