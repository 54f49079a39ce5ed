-- A hub as contracts see it.
use Rattle.std.specs.Prelude.{ℕ}
use Rattle.graph_core.specs.declared.job.Job.{Job}
use Rattle.grape_event.specs.JournalList.{JournalList}
use Rattle.token_cut.specs.Parts.{SnapshotParts}

-- the job, how many counters the program has for an owned vertex, the state from which the run starts, and the journal; with job and start it determines the state (state_of)
pub record HubValues : Type 0 where
  pub job : Job
  pub counters : ℕ
  pub start : SnapshotParts
  pub journal : JournalList
