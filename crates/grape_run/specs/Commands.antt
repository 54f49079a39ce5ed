-- What a command did: the job that it was asked for, the run of it, its answer, and what a crash leaves of the state file.
use Rattle.std.specs.Prelude.{◌≡◌, ◌≢◌, ◌⊎◌, ℕ, ◌<◌, ◌≤◌, List, [], length, Bool, IsTrue, Option, Some, None, IfSome, IsSomeAnd, ⊤}
use Rattle.grape_port.specs.Ports.{Appends, AppendsFront}
use Rattle.graph_core.specs.declared.job.Job.{Job}
use Rattle.graph_core.specs.Graphs.{IsJob}
use Rattle.graph_core.specs.Generated.{generated_graph}
use Rattle.graph_core.specs.declared.query.Query.TheVariants as query
use Rattle.graph_core.specs.declared.settings.Cut.TheVariants as cut
use Rattle.graph_core.specs.declared.settings.Policy.TheVariants as policy
use Rattle.answer_text.specs.AnswerText.{IsAnswerText}
use Rattle.answer_text.specs.Summary.{IsSummaryText}
use Rattle.grape_event.specs.declared.event.Event.{Event}
use Rattle.grape_event.specs.declared.event.Event.TheVariants.{End, Stop}
use Rattle.grape_event.specs.declared.event.StopCause.TheVariants.{Disk, Memory}
use Rattle.token_cut.specs.Parts.{SnapshotParts}
use Rattle.base_machine.specs.Machine.{system_of, fresh_snapshot}
use Rattle.grape_disk.specs.Images.{AtRest}
use Rattle.snapshot_store.specs.State.{file_state}
use Rattle.snapshot_store.specs.State.FileState.{other, damaged}
use Rattle.recovery.specs.Crashes.{CrashesLeave}
use Rattle.recovery.specs.Entries.{StartsFrom}
use Rattle.coordinator.specs.declared.story.Story.{Story}
use Rattle.coordinator.specs.Shapes.{shape_of}
use Rattle.coordinator.specs.Runs.{IsStoryOf, EndsBy, EndsQuiet, cuts_of}
use Rattle.grape_run.specs.declared.status.Status.{Status}
use Rattle.grape_run.specs.declared.status.Status.TheVariants as status
use Rattle.command_words.specs.declared.words.Mode.{Mode}
use Rattle.command_words.specs.declared.words.Mode.TheVariants as mode
use Rattle.grape_run.specs.declared.beginning.Beginning.{Beginning}
use Rattle.grape_run.specs.declared.beginning.Beginning.TheVariants.{Fresh, Resumed}
use Rattle.grape_run.specs.Resuming.{IsFitStart, IsResumable}
use Rattle.grape_run.specs.Runs.{IsInputOf, IsDigestOf}

-- ---- what was asked for

-- the job of `demo`: the distances from vertex 0 of the graph that is drawn from a number, with these settings
abbrev pub demo_job : ℕ → ℕ → Job
demo_job vertices number = record {
  graph = generated_graph vertices number;
  query = query.Dist 0;
  settings = record { fragments = 8; lanes = 2; cut = cut.Hash; policy = policy.Aap 4 2; snapshot = 0 };
}

abbrev pub IsDemoJob : Job → Type 0
IsDemoJob job = (vertices number : ℕ) × (job ≡ demo_job vertices number)

-- the words ask for a demo
abbrev pub IsDemo : Mode → Type 0
IsDemo (mode.Demo vertices number) = ⊤
IsDemo _ = ⊥

-- the job is that of a demo, or else the one that the source's text is, where the source tells it
abbrev pub IsJobAt : Mode → Option (List ℕ) → Job → Type 0
IsJobAt mode.Run told job = IsInputOf told job
IsJobAt mode.Resume told job = IsInputOf told job
IsJobAt (mode.Demo vertices number) told job = job ≡ demo_job vertices number

-- the digest is that of the source's text, where the source tells it; a demo has no text
abbrev pub IsDigestAt : Mode → Option (List ℕ) → List ℕ → Type 0
IsDigestAt mode.Run told digest = IsDigestOf told digest
IsDigestAt mode.Resume told digest = IsDigestOf told digest
IsDigestAt (mode.Demo vertices number) told digest = ⊤

-- a job within the limits and a digest, which are those that the command has
pub record IsAskedFor (m : Mode) (told : Option (List ℕ)) (job : Job) (digest : List ℕ) : Type 0 where
  pub within : IsJob job
  pub is_job : IsJobAt m told job
  pub is_digest : IsDigestAt m told digest

-- how the run of a command begins: at the fresh snapshot, or from the state file
abbrev pub beginning_of : Mode → Beginning
beginning_of mode.Run = Fresh
beginning_of mode.Resume = Resumed
beginning_of (mode.Demo vertices number) = Fresh

-- the words of a command with an input whose run begins so
abbrev pub mode_by : Beginning → Mode
mode_by Fresh = mode.Run
mode_by Resumed = mode.Resume

-- ---- where a run starts

-- A run starts at the fresh snapshot, and a resumed one at that which the file opens as, or at the fresh one where it opens as nothing. Where the disk doesn't tell the file, that is so of some bytes.
abbrev pub StartsBy : Beginning → Job → List ℕ → Option (List ℕ) → SnapshotParts → Type 0
StartsBy Fresh job digest content start = start ≡ fresh_snapshot (system_of job)
StartsBy Resumed job digest (Some file) start = StartsFrom (shape_of job) digest file start
StartsBy Resumed job digest None start = (bytes : List ℕ) × StartsFrom (shape_of job) digest bytes start

-- The state file refuses nothing: at a run that keeps snapshots it is empty. That at a resumption it is neither another input's nor damaged, its start says.
abbrev pub IsFreeFor : Beginning → Job → Option (List ℕ) → Type 0
IsFreeFor Fresh job content = 1 ≤ job.settings.snapshot → (file : List ℕ) → content ≡ Some file → file ≡ []
IsFreeFor Resumed job content = ⊤

-- What a status says of the state file that it refuses. At a run that keeps snapshots it is there, with that length; at a resumption it is another input's, by the digest that it keeps, or damaged at that place.
abbrev pub RefusesFor : Beginning → Job → List ℕ → Option (List ℕ) → Status → Type 0
RefusesFor b job digest content (status.StateThere size) = (b ≡ Fresh) × (1 ≤ job.settings.snapshot) × (0 < size) × ((file : List ℕ) → content ≡ Some file → size ≡ length file)
RefusesFor b job digest content (status.OtherJob kept here) =
    (b ≡ Resumed) × (here ≡ digest) × (kept ≢ here) × ((file : List ℕ) → content ≡ Some file → file_state (shape_of job) digest file ≡ other kept)
RefusesFor b job digest content (status.BadState place) = (b ≡ Resumed) × ((file : List ℕ) → content ≡ Some file → file_state (shape_of job) digest file ≡ damaged place)
RefusesFor b job digest content _ = ⊤

-- ---- its story

-- The story is of a run of the job from where the command starts it: its journal is legal, and each of its Kepts has its entry in what was kept.
pub record IsStoryFor (b : Beginning) (job : Job) (digest : List ℕ) (content : Option (List ℕ)) (story : Story) : Type 0 where
  pub starts : StartsBy b job digest content story.start
  pub free : IsFreeFor b job content
  pub is_story : IsStoryOf job story.start story

-- The run ended by a probe: the last event of its journal is End, and nobody runs then and nothing waits.
pub record EndsByProbe (job : Job) (story : Story) : Type 0 where
  pub ended : EndsBy End story.journal.events
  pub quiet : EndsQuiet job story

-- the journal ended by End, or was stopped by want of memory
abbrev pub EndsOrRunsOut : List Event → Type 0
EndsOrRunsOut events = EndsBy End events ⊎ EndsBy (Stop Memory) events

-- Where the answer was written, or its writing failed, the story is there, and it ended by a probe. After a fault of the disk there may be one, which the disk stopped, and after want of memory one whose journal ended by End or was stopped by that. Else there is none.
abbrev pub TellsStory : Beginning → Job → List ℕ → Option (List ℕ) → Status → Option Story → Type 0
TellsStory b job digest content status.Done story = IsSomeAnd story (λ s. IsStoryFor b job digest content s × EndsByProbe job s)
TellsStory b job digest content status.WriteFault story = IsSomeAnd story (λ s. IsStoryFor b job digest content s × EndsByProbe job s)
TellsStory b job digest content status.DiskFault story = IfSome story (λ s. IsStoryFor b job digest content s × EndsBy (Stop Disk) s.journal.events)
TellsStory b job digest content status.NoMemory story = IfSome story (λ s. IsStoryFor b job digest content s × EndsOrRunsOut s.journal.events)
TellsStory b job digest content _ story = story ≡ None

-- ---- its answer

-- The text is the job's answer, or at a demo its line of totals. After a resumption it is so where its start is fit; that of a run from the beginning is.
abbrev pub IsTextFor : Mode → Job → Option Story → List ℕ → Type 0
IsTextFor mode.Run job story text = IsAnswerText job text
IsTextFor mode.Resume job story text = IfSome story (λ s. IsFitStart job s.start → IsAnswerText job text)
IsTextFor (mode.Demo vertices number) job story text = IsSummaryText job text

-- the whole text, a front of it, or nothing
abbrev pub WritesFor : Mode → Job → Status → Option Story → Option (List ℕ) → Option (List ℕ) → Type 0
WritesFor m job status.Done story before after = (text : List ℕ) × IsTextFor m job story text × Appends before text after
WritesFor m job status.WriteFault story before after = (text : List ℕ) × IsTextFor m job story text × AppendsFront before text after
WritesFor m job s story before after = after ≡ before

-- ---- its status

-- a status of a command that ended before it had read a job
abbrev pub EndsEarly : Status → Type 0
EndsEarly status.BadWords = ⊤
EndsEarly (status.BadInput line why) = ⊤
EndsEarly status.ReadFault = ⊤
EndsEarly status.NoMemory = ⊤
EndsEarly _ = ⊥

-- a status of a command that had read a job
abbrev pub HasRead : Status → Type 0
HasRead status.BadWords = ⊥
HasRead (status.BadInput line why) = ⊥
HasRead status.ReadFault = ⊥
HasRead _ = ⊤

-- ---- what a crash leaves

module _ {D : Type 0} (images : D → ℕ → List ℕ → Type 0) (moment : D → ℕ) where
  -- By the snapshots that the story's run sealed, and those that it kept: since the beginning the file opens as then or as one of the first, and since one was kept as that or a later one. Without a story there are none.
  abbrev pub LeavesFor : Job → List ℕ → Option Story → List ℕ → D → D → Type 0
  LeavesFor job digest None file old new = CrashesLeave images moment (shape_of job) digest [] [] file old new
  LeavesFor job digest (Some story) file old new = CrashesLeave images moment (shape_of job) digest (cuts_of job story) story.kept.items file old new

module _ {D : Type 0} (content : D → Option (List ℕ)) (images : D → ℕ → List ℕ → Type 0) (moment : D → ℕ) (honest : D → Bool) where
  -- What was done with the disk, where it is honest and nothing is pending when the command begins.
  pub record KeepsState (b : Beginning) (job : Job) (digest : List ℕ) (story : Option Story) (old new : D) : Type 0 where
    -- a run without snapshots makes no call of the disk
    pub unused : b ≡ Fresh → job.settings.snapshot ≡ 0 → new ≡ old
    -- what a crash leaves at any moment of the call, and after it
    pub leaves : IsTrue (honest old) → (file : List ℕ) → AtRest content images moment old file → LeavesFor images moment job digest story file old new
    -- a file that may be resumed stays one, whatever a crash leaves
    pub resumable : IsTrue (honest old) → (file : List ℕ) → AtRest content images moment old file → IsResumable job digest file → (c : List ℕ) → images new (moment old) c → IsResumable job digest c

  -- ---- a command

  -- What a command did of its job: what it says of the state file that it refuses, its story, what was written between these two moments, and what was done with the disk.
  pub record HasDone (m : Mode) (b : Beginning) (job : Job) (digest : List ℕ) (s : Status) (story : Option Story) (before after : Option (List ℕ)) (old new : D) : Type 0 where
    pub refused : RefusesFor b job digest (content old) s
    pub tells : TellsStory b job digest (content old) s story
    pub written : WritesFor m job s story before after
    pub state : KeepsState b job digest story old new

  -- No job was read, and then nothing was written, no call of the disk was made and there is no story; or one was read or made, and all that was done is of that job and that digest.
  abbrev pub Does : Option Mode → Status → Option Story → Option (List ℕ) → Option (List ℕ) → Option (List ℕ) → D → D → Type 0
  Does asked s story told before after old new =
      (EndsEarly s × (story ≡ None) × (after ≡ before) × (new ≡ old))
      ⊎ (HasRead s × ((m : Mode) × (asked ≡ Some m) × ((job : Job) × (digest : List ℕ) × IsAskedFor m told job digest × HasDone m (beginning_of m) job digest s story before after old new)))
