-- What a run that has ended tells of its hub.
use Rattle.std.specs.Prelude.{◌≡◌, List}
use Rattle.graph_core.specs.declared.job.Job.{Job}
use Rattle.grape_event.specs.declared.event.Event.TheVariants.{End, Stop}
use Rattle.recovery.specs.declared.kept_at.KeptAt.{KeptAt}
use Rattle.hub_engine.specs.HubValues.{HubValues}
use Rattle.coordinator.specs.Runs.{EndsBy, cuts_of}
use Rattle.coordinator.specs.Keeping.{cuts_in}
use Rattle.coordinator.specs.declared.ran.Ran.{Ran}
use Rattle.coordinator.specs.declared.ran.Ran.TheVariants.{Done, Stopped, NoMemory}
use Rattle.coordinator.specs.declared.story.Story.{Story}

-- the story tells what the hub has sealed, and this as kept
pub record IsStoryAt (job : Job) (h : HubValues) (kept : List KeptAt) (story : Story) : Type 0 where
  pub cuts : cuts_of job story ≡ cuts_in h
  pub kept_here : story.kept.items ≡ kept

-- a hub's journal ended so, and its story is told
abbrev pub EndedAs : Job → HubValues → List KeptAt → Ran → Type 0
EndedAs job h kept (Done locals story) = EndsBy End h.journal.events × IsStoryAt job h kept story
EndedAs job h kept (Stopped cause story) = EndsBy (Stop cause) h.journal.events × IsStoryAt job h kept story
EndedAs job h kept NoMemory = ⊥
