-- What a run has read and written when it answers a status.
use Rattle.std.specs.Prelude.{◌≡◌, ℕ, ◌⊎◌, List, [], ◌++◌, Option, Some, None, IfSome, Result, Ok, Err, ⊤}
use Rattle.sha2.specs.Sha256.{sha256}
use Rattle.grape_port.specs.Ports.{Rose, Appends, AppendsFront}
use Rattle.graph_core.specs.declared.job.Job.{Job}
use Rattle.graph_text.specs.Input.{BadLine, bad, input_of, shown_of}
use Rattle.graph_text.specs.declared.fault.TextFault.TheVariants as text_faults
use Rattle.command_words.specs.declared.words.Mode.{Mode}
use Rattle.command_words.specs.declared.words.Mode.TheVariants as mode
use Rattle.grape_run.specs.declared.input.JobText.{JobText}
use Rattle.grape_run.specs.declared.input.InputFault.{InputFault}
use Rattle.grape_run.specs.declared.input.InputFault.TheVariants as faults
use Rattle.grape_run.specs.declared.status.Status.{Status}
use Rattle.grape_run.specs.declared.status.Status.TheVariants as status

-- nothing is left, and the text that was read is that of a job
abbrev pub IsJobText : List ℕ → List ℕ → Type 0
IsJobText read rest = (job : Job) × (rest ≡ []) × (input_of read ≡ Ok job)

-- what a status says of the text that was read, and of what was left
abbrev pub FitsRead : Status → List ℕ → List ℕ → Type 0
FitsRead status.Done read rest = IsJobText read rest
FitsRead status.BadWords read rest = read ≡ []
FitsRead (status.BadInput line why) read rest = (shown_of read ≡ Some (bad line why)) ⊎ ((rest ≡ []) × (input_of read ≡ Err (bad line why)))
FitsRead status.ReadFault read rest = shown_of read ≡ None
FitsRead status.WriteFault read rest = IsJobText read rest
FitsRead status.DiskFault read rest = IsJobText read rest
FitsRead (status.StateThere size) read rest = IsJobText read rest
FitsRead (status.OtherJob kept here) read rest = IsJobText read rest
FitsRead (status.BadState place) read rest = IsJobText read rest
FitsRead status.NoMemory read rest = ⊤

-- a source was read, up to some place, by a run with this status
abbrev pub ReadsSource : Status → Option (List ℕ) → Option (List ℕ) → Type 0
ReadsSource s None after = after ≡ None
ReadsSource s (Some before) after = (read rest : List ℕ) × (before ≡ read ++ rest) × (after ≡ Some rest) × FitsRead s read rest

-- what a command did of its source: a demo read nothing, and else it was read up to some place
abbrev pub ReadsAt : Mode → Status → Option (List ℕ) → Option (List ℕ) → Type 0
ReadsAt mode.Run s before after = ReadsSource s before after
ReadsAt mode.Resume s before after = ReadsSource s before after
ReadsAt (mode.Demo vertices number) s before after = after ≡ before

abbrev pub ReadsFor : Option Mode → Status → Option (List ℕ) → Option (List ℕ) → Type 0
ReadsFor None s before after = ReadsSource s before after
ReadsFor (Some m) s before after = ReadsAt m s before after

-- the job is the one that the source's text is, where the source tells it
abbrev pub IsInputOf : Option (List ℕ) → Job → Type 0
IsInputOf None job = ⊤
IsInputOf (Some text) job = input_of text ≡ Ok job

-- the digest of an input, by which its state file is known
unfoldable pub digest_of : List ℕ → List ℕ
digest_of text = sha256 text

-- the digest is that of the source's text, where the source tells it
abbrev pub IsDigestOf : Option (List ℕ) → List ℕ → Type 0
IsDigestOf None digest = ⊤
IsDigestOf (Some text) digest = digest ≡ digest_of text

-- the state file was refused
abbrev pub RefusesState : Status → Type 0
RefusesState (status.StateThere size) = ⊤
RefusesState (status.OtherJob kept here) = ⊤
RefusesState (status.BadState place) = ⊤
RefusesState _ = ⊥

-- the run was done, and its answer written or its writing failed
abbrev pub HasAnswered : Status → Type 0
HasAnswered status.Done = ⊤
HasAnswered status.WriteFault = ⊤
HasAnswered s = ⊥

-- a run answers neither of the statuses after which something is written
abbrev pub IsSilent : Status → Type 0
IsSilent status.Done = ⊥
IsSilent status.WriteFault = ⊥
IsSilent s = ⊤

-- An input is answered, another text is refused by its first bad line, and a state file is refused where it may be, unless memory ran out.
abbrev pub EndsAs : Status → Result Job BadLine → Type 0
EndsAs s (Ok job) = (s ≡ status.Done) ⊎ ((s ≡ status.NoMemory) ⊎ RefusesState s)
EndsAs s (Err first) = (s ≡ status.BadInput first.line first.why) ⊎ (s ≡ status.NoMemory)

-- how a demo ends
abbrev pub EndsDemo : Status → Type 0
EndsDemo status.Done = ⊤
EndsDemo status.WriteFault = ⊤
EndsDemo status.DiskFault = ⊤
EndsDemo status.NoMemory = ⊤
EndsDemo _ = ⊥

-- the same of a command whose source tells this text; a demo has no input, and is answered unless memory ran out
abbrev pub EndsAt : Mode → Status → Option (List ℕ) → Type 0
EndsAt mode.Run s told = IfSome told (λ text. EndsAs s (input_of text))
EndsAt mode.Resume s told = IfSome told (λ text. EndsAs s (input_of text))
EndsAt (mode.Demo vertices number) s told = (s ≡ status.Done) ⊎ (s ≡ status.NoMemory)

-- the status of a run whose input was not read as a job
abbrev pub status_of : InputFault → Status
status_of (faults.Text (text_faults.Bad line why)) = status.BadInput line why
status_of (faults.Text text_faults.NoMemory) = status.NoMemory
status_of faults.Failed = status.ReadFault

-- the whole text was added, or, where the count of faults rose, a front of it
abbrev pub AppendsUnlessFault : Option (List ℕ) → List ℕ → Option (List ℕ) → ℕ → ℕ → Type 0
AppendsUnlessFault before text after faults_before faults_after =
    Appends before text after ⊎ (Rose faults_before faults_after × AppendsFront before text after)

-- what reading an input gave, where the source told its text: all of it is that job's, and the digest is its own, or the fault's status says what was read
abbrev pub FitsText : Result JobText InputFault → List ℕ → List ℕ → Type 0
FitsText (Ok input) read rest = (rest ≡ []) × (input_of read ≡ Ok input.job) × (input.digest ≡ digest_of read)
FitsText (Err fault) read rest = FitsRead (status_of fault) read rest

abbrev pub ReadsInput : Option (List ℕ) → Option (List ℕ) → Result JobText InputFault → Type 0
ReadsInput None after result = after ≡ None
ReadsInput (Some before) after result = (read rest : List ℕ) × (before ≡ read ++ rest) × (after ≡ Some rest) × FitsText result read rest
