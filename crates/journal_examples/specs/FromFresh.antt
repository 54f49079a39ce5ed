-- Journals of a job from its beginning.
use Rattle.std.specs.Prelude.{ℕ, Bool, List, ◌∷◌, slice_set}
use Rattle.graph_core.specs.declared.job.Job.{Job}
use Rattle.grape_event.specs.declared.event.Event.{Event}
use Rattle.token_cut.specs.Parts.{SnapshotParts}
use Rattle.base_machine.specs.Machine.{Standing, worker_at, system_of, fresh_snapshot}
use Rattle.legal_journal.specs.Legal.{State, start_state, is_admitted, are_admitted, IsLegal, state_at_end}

-- where everybody is Fresh
abbrev pub beginning : Job → SnapshotParts
beginning job = fresh_snapshot (system_of job)

-- each event is admitted after those before it
abbrev pub admits : Job → List Event → Bool
admits job journal = are_admitted (system_of job) (start_state (beginning job)) journal

abbrev pub IsLegalRun : Job → List Event → Type 0
IsLegalRun job journal = IsLegal (system_of job) (beginning job) journal

-- the state after a journal
abbrev pub state_after_run : Job → List Event → State
state_after_run job journal = state_at_end (system_of job) (beginning job) journal

-- each event is admitted after those before it, where the run begins elsewhere
abbrev pub admits_from : Job → SnapshotParts → List Event → Bool
admits_from job start journal = are_admitted (system_of job) (start_state start) journal

-- ---- states that no journal leads to, in which a condition fails alone that otherwise fails beside another

-- the event is admitted in a state
abbrev pub admits_in : Job → State → Event → Bool
admits_in job s e = is_admitted (system_of job) s e

-- the journal has one more event, which has done nothing
abbrev pub written : Event → State → State
written e s = record s { past = e ∷ s.past }

-- worker i stands otherwise
abbrev pub standing_so : ℕ → Standing → State → State
standing_so i standing s = record s { workers = slice_set s.workers i (record (worker_at s.workers i) { standing = standing }) }
