-- A run whose ports don't fail answers its input.
use Rattle.std.proofs.Common.{◌≡◌, ◌⊎◌, ℕ, inl, inr, List, [], ◌++◌, Option, Some, None, Result, Ok, Err, IfSome, refl, sym, ◌∙◌, ap, subst}
use Rattle.std.proofs.lemmas.List.{append-nil}
use Rattle.graph_core.specs.declared.job.Job.{Job}
use Rattle.graph_text.specs.Input.{BadLine, bad, input_of, shown_of}
use Rattle.grape_run.specs.Commands.{IsDemo, HasRead}
use Rattle.grape_run.specs.declared.input.JobText.{JobText}
use Rattle.grape_run.specs.declared.status.Status.{Status}
use Rattle.grape_run.specs.declared.status.Status.TheVariants as status
use Rattle.command_words.specs.declared.words.Mode.{Mode}
use Rattle.command_words.specs.declared.words.Mode.TheVariants as mode
use Rattle.grape_run.specs.Runs.{IsJobText, FitsRead, ReadsSource, ReadsAt, ReadsFor, ReadsInput, RefusesState, EndsAs, EndsDemo, EndsAt}

-- the bad line that a front shows is the first one
abbrev pub ShownIsFirst : Type 0
ShownIsFirst = (front rest : List ℕ) (first : BadLine) → shown_of front ≡ Some first → input_of (front ++ rest) ≡ Err first

whole : (text read rest : List ℕ) → text ≡ read ++ rest → rest ≡ [] → text ≡ read
whole text read rest e z = e ∙ ap (λ r. read ++ r) z ∙ append-nil read

known : (s : Status) (text : List ℕ) (r : Result Job BadLine) → input_of text ≡ r → EndsAs s r → EndsAs s (input_of text)
known s text r e h = subst (EndsAs s) (sym e) h

no_memory : (r : Result Job BadLine) → EndsAs status.NoMemory r
no_memory (Ok job) = inr (inl refl)
no_memory (Err first) = inr refl

-- where the state file was refused, the text is that of a job
refused : (s : Status) (text read rest : List ℕ) → text ≡ read ++ rest → IsJobText read rest → RefusesState s → EndsAs s (input_of text)
refused s text read rest same is refuses = known s text (Ok is.0) (ap input_of (whole text read rest same is.1) ∙ is.2) (inr (inr refuses))

ends_as : (s : Status) (text : List ℕ) (after : Option (List ℕ)) → ShownIsFirst → (s ≡ status.BadWords → ⊥) → (s ≡ status.ReadFault → ⊥) → (s ≡ status.WriteFault → ⊥) → (s ≡ status.DiskFault → ⊥) → ReadsSource s (Some text) after →
    EndsAs s (input_of text)
ends_as status.Done text after first no_words no_read no_write no_disk h = known status.Done text (Ok h.4.0) (ap input_of (whole text h.0 h.1 h.2 h.4.1) ∙ h.4.2) (inl refl)
ends_as status.BadWords text after first no_words no_read no_write no_disk h = absurd (no_words refl)
ends_as (status.BadInput line why) text after first no_words no_read no_write no_disk h = elim h.4 [
  | inl shown ↦ known (status.BadInput line why) text (Err (bad line why)) (ap input_of h.2 ∙ first h.0 h.1 (bad line why) shown) (inl refl)
  | inr at_end ↦ known (status.BadInput line why) text (Err (bad line why)) (ap input_of (whole text h.0 h.1 h.2 at_end.0) ∙ at_end.1) (inl refl)
]
ends_as status.ReadFault text after first no_words no_read no_write no_disk h = absurd (no_read refl)
ends_as status.WriteFault text after first no_words no_read no_write no_disk h = absurd (no_write refl)
ends_as status.DiskFault text after first no_words no_read no_write no_disk h = absurd (no_disk refl)
ends_as (status.StateThere size) text after first no_words no_read no_write no_disk h = refused (status.StateThere size) text h.0 h.1 h.2 h.4 tt
ends_as (status.OtherJob kept here) text after first no_words no_read no_write no_disk h = refused (status.OtherJob kept here) text h.0 h.1 h.2 h.4 tt
ends_as (status.BadState place) text after first no_words no_read no_write no_disk h = refused (status.BadState place) text h.0 h.1 h.2 h.4 tt
ends_as status.NoMemory text after first no_words no_read no_write no_disk h = no_memory (input_of text)

pub ends : (s : Status) (told after : Option (List ℕ)) → ShownIsFirst → (s ≡ status.BadWords → ⊥) → (s ≡ status.ReadFault → ⊥) → (s ≡ status.WriteFault → ⊥) → (s ≡ status.DiskFault → ⊥) → ReadsSource s told after →
    IfSome told (λ text. EndsAs s (input_of text))
ends s None after first no_words no_read no_write no_disk h = tt
ends s (Some text) after first no_words no_read no_write no_disk h = ends_as s text after first no_words no_read no_write no_disk h

-- ---- where a job was read

fits_read : (s : Status) (read rest : List ℕ) → HasRead s → IsJobText read rest → FitsRead s read rest
fits_read status.Done read rest h is = is
fits_read status.BadWords read rest h is = absurd h
fits_read (status.BadInput line why) read rest h is = absurd h
fits_read status.ReadFault read rest h is = absurd h
fits_read status.WriteFault read rest h is = is
fits_read status.DiskFault read rest h is = is
fits_read (status.StateThere size) read rest h is = is
fits_read (status.OtherJob kept here) read rest h is = is
fits_read (status.BadState place) read rest h is = is
fits_read status.NoMemory read rest h is = tt

pub reads_source : (s : Status) (told after : Option (List ℕ)) (text : JobText) → HasRead s → ReadsInput told after (Ok text) → ReadsSource s told after
reads_source s None after text h r = r
reads_source s (Some told) after text h r = (r.0, r.1, r.2, r.3, fits_read s r.0 r.1 h (text.job, r.4.0, r.4.1))

-- a demo that failed at no port and no disk
pub demo_ends : (s : Status) → EndsDemo s → (s ≡ status.WriteFault → ⊥) → (s ≡ status.DiskFault → ⊥) → (s ≡ status.Done) ⊎ (s ≡ status.NoMemory)
demo_ends status.Done h no_write no_disk = inl refl
demo_ends status.BadWords h no_write no_disk = absurd h
demo_ends (status.BadInput line why) h no_write no_disk = absurd h
demo_ends status.ReadFault h no_write no_disk = absurd h
demo_ends status.WriteFault h no_write no_disk = absurd (no_write refl)
demo_ends status.DiskFault h no_write no_disk = absurd (no_disk refl)
demo_ends (status.StateThere size) h no_write no_disk = absurd h
demo_ends (status.OtherJob kept here) h no_write no_disk = absurd h
demo_ends (status.BadState place) h no_write no_disk = absurd h
demo_ends status.NoMemory h no_write no_disk = inr refl

-- a command ends as its words say, where no port and no disk failed
pub ends_at : (m : Mode) (s : Status) (told after : Option (List ℕ)) → ShownIsFirst → (s ≡ status.BadWords → ⊥) → (s ≡ status.ReadFault → ⊥) → (s ≡ status.WriteFault → ⊥) → (s ≡ status.DiskFault → ⊥) → ReadsAt m s told after →
    (IsDemo m → EndsDemo s) → EndsAt m s told
ends_at mode.Run s told after first no_words no_read no_write no_disk h demo = ends s told after first no_words no_read no_write no_disk h
ends_at mode.Resume s told after first no_words no_read no_write no_disk h demo = ends s told after first no_words no_read no_write no_disk h
ends_at (mode.Demo vertices number) s told after first no_words no_read no_write no_disk h demo = demo_ends s (demo tt) no_write no_disk

pub ends_by : (o : Option Mode) (s : Status) (told after : Option (List ℕ)) → ShownIsFirst → (s ≡ status.BadWords → o ≡ None) → (s ≡ status.ReadFault → ⊥) → (s ≡ status.WriteFault → ⊥) → (s ≡ status.DiskFault → ⊥) → ReadsFor o s told after →
    IfSome o (λ m. IsDemo m → EndsDemo s) → IfSome o (λ m. EndsAt m s told)
ends_by None s told after first no_words no_read no_write no_disk h demo = tt
ends_by (Some m) s told after first no_words no_read no_write no_disk h demo = ends_at m s told after first (λ e. absurd (cc (no_words e))) no_read no_write no_disk h demo
