-- What a run that was entered and has ended tells of its command.
use Rattle.std.proofs.Common.{◌≡◌, inl, inr, refl, sym, ◌∙◌, subst, arith, ℕ, List, [], reverse, true, Bool, IsTrue, Option, Some, None, Ok}
use Rattle.std.proofs.lemmas.Option.{same_Some}
use Rattle.graph_core.specs.declared.job.Job.{Job}
use Rattle.graph_core.specs.Graphs.{IsJob}
use Rattle.graph_core.specs.Parts.{FragmentLists}
use Rattle.grape_event.specs.declared.event.Event.TheVariants.{End, Stop}
use Rattle.token_cut.specs.Parts.{SnapshotParts}
use Rattle.base_machine.specs.Machine.{system_of}
use Rattle.base_machine.specs.Fitness.{IsInForm}
use Rattle.legal_journal.specs.Past.{has_ended}
use Rattle.legal_journal.specs.Legal.{IsLegal}
use Rattle.grape_disk.specs.Images.{AtRest}
use Rattle.snapshot_store.specs.State.{IsKept}
use Rattle.snapshot_store.specs.Stores.{StoreValue}
use Rattle.recovery.specs.declared.kept_at.KeptAt.{KeptAt}
use Rattle.recovery.specs.Crashes.{Survives, EntryOrCut, ClaimGrows, ClaimsJoin, ClaimTells}
use Rattle.recovery.specs.Entries.{HasStore}
use Rattle.grape_hub.proofs.Kepts.{cuts_may_be_resumed}
use Rattle.coordinator.specs.Shapes.{shape_of}
use Rattle.coordinator.specs.Runs.{IsStoryOf, HasRun, HasUsed, KeepsNothing, RunSurvives, KeepsBy, cuts_of}
use Rattle.coordinator.specs.declared.ran.Ran.{Ran}
use Rattle.coordinator.specs.declared.ran.Ran.TheVariants as ran
use Rattle.coordinator.specs.declared.story.Story.{Story}
use Rattle.grape_run.specs.Resuming.{IsFitStart, IsResumable}
use Rattle.grape_run.specs.Commands.{StartsBy, IsFreeFor, LeavesFor, KeepsState}
use Rattle.grape_run.specs.Entering.{HasEntered, story_of, HasEnded, IsStoryIf, HasTried}
use Rattle.grape_run.specs.declared.beginning.Beginning.{Beginning}
use Rattle.grape_run.specs.declared.beginning.Beginning.TheVariants.{Fresh, Resumed}
use Rattle.grape_run.proofs.Entered.{zero_or_more}
use Rattle.grape_run.proofs.Resuming.{files_stay_resumable, fresh_is_fit, resumed_starts_are_fit, has_ended_by, cuts_are_fit}

-- ---- its story

abbrev story_ran : Job → SnapshotParts → Option Story → Type 0
story_ran job start None = Unit {0}
story_ran job start (Some story) = IsStoryOf job start story

abbrev ended_if : Option Story → Type 0
ended_if None = Unit {0}
ended_if (Some story) = has_ended (reverse story.journal.events) ≡ true

abbrev form_if : Job → Option Story → Type 0
form_if job None = Unit {0}
form_if job (Some story) = IsInForm (system_of job) story.start

-- what HasRun says of the story, and of the end
ran_story : (job : Job) (fragments : List FragmentLists) (start : SnapshotParts) (r : Ran) → HasRun job fragments start r → story_ran job start (story_of r)
ran_story job fragments start (ran.Done locals story) h = h.0
ran_story job fragments start (ran.Stopped cause story) h = h.0
ran_story job fragments start ran.NoMemory h = tt

story_is : (b : Beginning) (job : Job) (digest : List ℕ) (content : Option (List ℕ)) (start : SnapshotParts) (story : Option Story) → StartsBy b job digest content start → IsFreeFor b job content → story_ran job start story →
    IsStoryIf b job digest content story
story_is b job digest content start None starts free is = tt
story_is b job digest content start (Some story) starts free is =
    record {
      starts = subst (λ (s : SnapshotParts). StartsBy b job digest content s) (sym is.starts) starts;
      free = free;
      is_story = record { starts = refl; legal = subst (λ (s : SnapshotParts). IsLegal (system_of job) s story.journal.events) (sym is.starts) is.legal; noted = is.noted };
    }

form_is : (job : Job) (start : SnapshotParts) (story : Option Story) → IsInForm (system_of job) start → story_ran job start story → form_if job story
form_is job start None form is = tt
form_is job start (Some story) form is = subst (IsInForm (system_of job)) (sym is.starts) form

has_ended_so : (job : Job) (fragments : List FragmentLists) (start : SnapshotParts) (r : Ran) → HasRun job fragments start r → HasEnded job fragments r
has_ended_so job fragments start (ran.Done locals story) h = (h.1, h.2)
has_ended_so job fragments start (ran.Stopped cause story) h = h.1
has_ended_so job fragments start ran.NoMemory h = tt

ended_is : (job : Job) (fragments : List FragmentLists) (r : Ran) → HasEnded job fragments r → ended_if (story_of r)
ended_is job fragments (ran.Done locals story) h = has_ended_by End story.journal.events refl h.0
ended_is job fragments (ran.Stopped cause story) h = has_ended_by (Stop cause) story.journal.events refl h
ended_is job fragments ran.NoMemory h = tt

abbrev is_none : Option (List ℕ) → Type 0
is_none None = Unit {0}
is_none (Some file) = ⊥

none_some : (file : List ℕ) → None ≡ Some file → ⊥
none_some file e = subst is_none e tt

-- from a file that may be resumed the command starts fit
start_fit : (b : Beginning) (job : Job) (digest file : List ℕ) (content : Option (List ℕ)) (start : SnapshotParts) → IsJob job → content ≡ Some file → StartsBy b job digest content start → IsResumable job digest file → IsFitStart job start
start_fit Fresh job digest file content start is_job told starts was = fresh_is_fit job start is_job starts
start_fit Resumed job digest file None start is_job told starts was = absurd (none_some file told)
start_fit Resumed job digest file (Some f) start is_job told starts was =
    resumed_starts_are_fit job digest f start is_job (subst (IsResumable job digest) (sym (same_Some f file told)) was) starts

module _ {D : Type 0} (content : D → Option (List ℕ)) (images : D → ℕ → List ℕ → Type 0) (moment : D → ℕ) (honest : D → Bool) where
  -- what was sealed and kept of a story, if there is one
  abbrev SurvivesFor : Job → List ℕ → Option Story → List ℕ → D → D → Type 0
  SurvivesFor job digest None file old new = Survives images moment (shape_of job) digest [] [] file old new
  SurvivesFor job digest (Some story) file old new = Survives images moment (shape_of job) digest (cuts_of job story) story.kept.items file old new

  ran_survives : (job : Job) (digest : List ℕ) (r : Ran) (file : List ℕ) (old new : D) → RunSurvives content images moment job digest r file old new → SurvivesFor job digest (story_of r) file old new
  ran_survives job digest (ran.Done locals story) file old new s = s
  ran_survives job digest (ran.Stopped cause story) file old new s = s
  ran_survives job digest ran.NoMemory file old new s = s

  -- a run that was asked for no snapshots
  unasked_survives : ClaimGrows content images moment → (job : Job) (digest file : List ℕ) (r : Ran) (old new : D) → KeepsNothing r → Survives images moment (shape_of job) digest [] [] file old new → SurvivesFor job digest (story_of r) file old new
  unasked_survives grows job digest file (ran.Done locals story) old new none s =
      subst (λ (kept : List KeptAt). Survives images moment (shape_of job) digest (cuts_of job story) kept file old new) (sym none) (grows (shape_of job) digest file [] (cuts_of job story) [] old new s)
  unasked_survives grows job digest file (ran.Stopped cause story) old new none s =
      subst (λ (kept : List KeptAt). Survives images moment (shape_of job) digest (cuts_of job story) kept file old new) (sym none) (grows (shape_of job) digest file [] (cuts_of job story) [] old new s)
  unasked_survives grows job digest file ran.NoMemory old new none s = s

  -- the run goes on from what the entry left
  joined : ClaimsJoin content images moment → (job : Job) (digest file stands : List ℕ) (story : Option Story) (old mid new : D) → Survives images moment (shape_of job) digest [] [] file old mid →
      EntryOrCut (shape_of job) digest [] file stands → SurvivesFor job digest story stands mid new → SurvivesFor job digest story file old new
  joined join job digest file stands None old mid new first was second = join (shape_of job) digest file stands [] [] old mid new first was second
  joined join job digest file stands (Some story) old mid new first was second = join (shape_of job) digest file stands (cuts_of job story) story.kept.items old mid new first was second

  stored : (job : Job) (digest : List ℕ) (epoch : ℕ) (s : Option StoreValue) (r : Ran) (file : List ℕ) (old new : D) → HasStore digest epoch s → KeepsBy content images moment job s r old new →
      AtRest content images moment old file → IsKept (shape_of job) digest epoch file → RunSurvives content images moment job digest r file old new
  stored job digest epoch None r file old new has keeps rest kept = absurd has
  stored job digest epoch (Some s) r file old new has keeps rest kept =
      subst (λ (d : List ℕ). RunSurvives content images moment job d r file old new) has.0
      (keeps file rest (subst (λ (n : ℕ). IsKept (shape_of job) s.digest n file) (sym has.1) (subst (λ (d : List ℕ). IsKept (shape_of job) d epoch file) (sym has.0) kept)))

  tells_for : ClaimTells content images moment → (job : Job) (digest file : List ℕ) (story : Option Story) (old new : D) → AtRest content images moment old file → SurvivesFor job digest story file old new →
      LeavesFor images moment job digest story file old new
  tells_for tells job digest file None old new rest s = tells (shape_of job) digest file [] [] old new rest s
  tells_for tells job digest file (Some story) old new rest s = tells (shape_of job) digest file (cuts_of job story) story.kept.items old new rest s

  stays : (b : Beginning) (job : Job) (digest file : List ℕ) (story : Option Story) (old new : D) → IsJob job → IsStoryIf b job digest (content old) story → form_if job story → ended_if story →
      AtRest content images moment old file → LeavesFor images moment job digest story file old new → IsResumable job digest file → (c : List ℕ) → images new (moment old) c → IsResumable job digest c
  stays b job digest file None old new is_job is form ended rest leaves was c image =
      files_stay_resumable job digest file c [] (λ s among. absurd (omega (arith, among.1))) was (leaves.at_any_moment c image)
  stays b job digest file (Some story) old new is_job is form ended rest leaves was c image =
      files_stay_resumable job digest file c (cuts_of job story)
      (cuts_are_fit cuts_may_be_resumed job story is_job form is.is_story ended (start_fit b job digest file (content old) story.start is_job rest.told is.starts was))
      was (leaves.at_any_moment c image)

  pub keeps_state : ClaimTells content images moment → (b : Beginning) (job : Job) (digest : List ℕ) (story : Option Story) (old new : D) → IsJob job → IsStoryIf b job digest (content old) story → form_if job story → ended_if story →
      (b ≡ Fresh → job.settings.snapshot ≡ 0 → new ≡ old) → (IsTrue (honest old) → (file : List ℕ) → AtRest content images moment old file → SurvivesFor job digest story file old new) →
      KeepsState content images moment honest b job digest story old new
  keeps_state tells b job digest story old new is_job is form ended unused survives =
      record {
        unused = unused;
        leaves = λ h file rest. tells_for tells job digest file story old new rest (survives h file rest);
        resumable = λ h file rest. stays b job digest file story old new is_job is form ended rest (tells_for tells job digest file story old new rest (survives h file rest));
      }

  -- where nobody ran
  pub refused_state : ClaimTells content images moment → (b : Beginning) (job : Job) (digest : List ℕ) (old new : D) → IsJob job → (b ≡ Fresh → job.settings.snapshot ≡ 0 → new ≡ old) →
      (IsTrue (honest old) → (file : List ℕ) → AtRest content images moment old file → Survives images moment (shape_of job) digest [] [] file old new) → KeepsState content images moment honest b job digest None old new
  refused_state tells b job digest old new is_job unused crash = keeps_state tells b job digest None old new is_job tt tt tt unused crash

  pub has_tried : ClaimGrows content images moment → ClaimsJoin content images moment → ClaimTells content images moment → (b : Beginning) (job : Job) (digest : List ℕ) (fragments : List FragmentLists) (start : SnapshotParts) (s : Option StoreValue)
      (r : Ran) (old mid new : D) → IsJob job → HasEntered content images moment honest b job digest start s old mid →
      (IsTrue (honest old) → (file : List ℕ) → AtRest content images moment old file → Survives images moment (shape_of job) digest [] [] file old mid) → (b ≡ Fresh → job.settings.snapshot ≡ 0 → mid ≡ old) → honest mid ≡ honest old →
      HasRun job fragments start r → HasUsed moment honest job mid new → (job.settings.snapshot ≡ 0 → KeepsNothing r) → (IsTrue (honest mid) → KeepsBy content images moment job s r mid new) →
      HasTried content images moment honest b job digest fragments (Ok r) old new
  has_tried grows join tells b job digest fragments start s r old mid new is_job entered crash unused same_honest has_run used unkept keeps =
      let ran_is = ran_story job fragments start r has_run in
      let is = story_is b job digest (content old) start (story_of r) entered.starts entered.free ran_is in
      let ended = has_ended_so job fragments start r has_run in
      let survives : IsTrue (honest old) → (file : List ℕ) → AtRest content images moment old file → SurvivesFor job digest (story_of r) file old new = λ h file rest. elim (zero_or_more job.settings.snapshot) [
        | inl z ↦ unasked_survives grows job digest file r old new (unkept z)
            (subst (λ (d : D). Survives images moment (shape_of job) digest [] [] file old d) (sym (used.unused z)) (crash h file rest))
        | inr k ↦ let ready = entered.ready k h file rest in
            joined join job digest file ready.stands (story_of r) old mid new ready.survives ready.opens
            (ran_survives job digest r ready.stands mid new
            (stored job digest start.epoch s r ready.stands mid new (entered.has_store k) (keeps (subst (λ (b : Bool). IsTrue b) (sym same_honest) h)) ready.at_rest ready.whole))
      ] in (
        is,
        ended,
        keeps_state tells b job digest (story_of r) old new is_job is (form_is job start (story_of r) entered.form ran_is) (ended_is job fragments r ended) (λ run z. used.unused z ∙ unused run z) survives,
      )
