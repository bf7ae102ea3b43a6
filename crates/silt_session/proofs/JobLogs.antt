-- The tasks of the jobs that come back.
use Rattle.silt_session.proofs.Common.{◌≡◌, List, sym, ◌∙◌, IfOk, Option, Some, IfSome, Result, Ok, Err, result_ok, same_Some, TaskState, requests_of, Request}

-- the tasks that come back ask for what was handed over
pub awaited_come : {V E : Type 0} (items : V → List TaskState) (asked : Option (List Request)) (requests : List Request) (found : Option V) (given : Result V E)
    → asked ≡ Some requests → found ≡ result_ok given → IfSome found (λ tasks. asked ≡ Some (requests_of (items tasks))) → IfOk given (λ tasks. requests_of (items tasks) ≡ requests)
awaited_come items asked requests found (Ok tasks) is same came = same_Some (requests_of (items tasks)) requests (sym (rw same at came) ∙ is)
awaited_come items asked requests found (Err e) is same came = tt
