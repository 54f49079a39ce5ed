-- The line that a run writes where it isn't done.
use Rattle.std.specs.Prelude.{ℕ, ◌+◌, ◌/◌, ◌%◌, List, [], ◌∷◌, ◌++◌, codes, decimal, nat_lt, if◌then◌else◌}
use Rattle.line_statements.specs.declared.why.Why.{Why}
use Rattle.line_statements.specs.declared.why.Why.TheVariants as causes
use Rattle.grape_run.specs.declared.status.Status.{Status}
use Rattle.grape_run.specs.declared.status.Status.TheVariants as status

-- why a line is bad, as a word
abbrev pub why_text : Why → List ℕ
why_text causes.Word = codes "word"
why_text causes.Number = codes "number"
why_text causes.Count = codes "count"
why_text causes.Range = codes "range"
why_text causes.Twice = codes "twice"
why_text causes.TooMany = codes "too-many"
why_text causes.NoQuery = codes "no-query"
why_text causes.NoSource = codes "no-source"
why_text causes.NoPattern = codes "no-pattern"
why_text causes.TooLong = codes "too-long"

abbrev pub bad_line_text : ℕ → Why → List ℕ
bad_line_text line why = codes "grape: input line " ++ decimal line ++ codes ": " ++ why_text why ++ codes "\n"

-- a number below 16 as a digit
abbrev pub hex_digit : ℕ → ℕ
hex_digit n = if nat_lt n 10 then 48 + n else 87 + n

-- each byte as two digits
abbrev pub hex : List ℕ → List ℕ
hex [] = []
hex (byte ∷ bytes) = hex_digit (byte / 16) ∷ hex_digit (byte % 16) ∷ hex bytes

abbrev pub state_there_text : ℕ → List ℕ
state_there_text size = codes "grape: state file has " ++ decimal size ++ codes " bytes\n"

abbrev pub other_job_text : List ℕ → List ℕ → List ℕ
other_job_text kept here = codes "grape: state of another job: " ++ hex kept ++ codes " not " ++ hex here ++ codes "\n"

abbrev pub bad_state_text : ℕ → List ℕ
bad_state_text place = codes "grape: state damaged at " ++ decimal place ++ codes "\n"

-- the line of a status, with its line feed; a run that is done writes none
abbrev pub note_text : Status → List ℕ
note_text status.Done = []
note_text status.BadWords = codes "grape: usage: run, resume, or demo VERTICES NUMBER\n"
note_text (status.BadInput line why) = bad_line_text line why
note_text status.ReadFault = codes "grape: read fault\n"
note_text status.WriteFault = codes "grape: write fault\n"
note_text status.DiskFault = codes "grape: disk fault\n"
note_text (status.StateThere size) = state_there_text size
note_text (status.OtherJob kept here) = other_job_text kept here
note_text (status.BadState place) = bad_state_text place
note_text status.NoMemory = codes "grape: out of memory\n"

-- the exit number of a status
abbrev pub code_of : Status → ℕ
code_of status.Done = 0
code_of status.BadWords = 2
code_of (status.BadInput line why) = 3
code_of status.ReadFault = 4
code_of status.WriteFault = 5
code_of status.DiskFault = 6
code_of (status.StateThere size) = 7
code_of (status.OtherJob kept here) = 8
code_of (status.BadState place) = 9
code_of status.NoMemory = 10
