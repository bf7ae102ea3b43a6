-- The log of all jobs, and their tickets.
use Rattle.std.specs.Prelude.{ℕ, List, Option}
use Rattle.silt_session.specs.Requests.{TaskState}
use Rattle.silt_session.specs.declared.job.Request.{Request}

-- what contracts see of a ticket: its number, and what the log's job of this number asked
pub record TicketState : Type 0 where
  pub number : ℕ
  pub asked : Option (List Request)

-- what contracts see of the tasks of a job: the tasks in order, and the job's ticket
pub record TasksState : Type 0 where
  pub items : List TaskState
  pub ticket : TicketState
