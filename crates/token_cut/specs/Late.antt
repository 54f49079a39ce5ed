-- What late values come to.
use Rattle.std.specs.Prelude.{◌≡◌, ℕ, ◌+◌, ◌<◌, ◌==◌, ◌&&◌, List, [], ◌∷◌, ◌++◌, map, filter, length, slice_index}
use Rattle.value_order.specs.declared.order.Order.{Order}
use Rattle.value_order.specs.Order.{meet_all}
use Rattle.token_cut.specs.Parts.{PartValues, part_at}
use Rattle.token_cut.specs.CutValues.{CutValues}
use Rattle.token_cut.specs.Recording.{after_late}

-- a value without a tag that comes for a mirror of a worker after its mark
pub record LateValue : Type 0 where
  pub worker : ℕ
  pub mirror : ℕ
  pub value : ℕ

-- after these late values in their order
abbrev pub after_all_late : List LateValue → CutValues → CutValues
after_all_late [] c = c
after_all_late (l ∷ late) c = after_all_late late (after_late l.worker l.mirror l.value c)

-- those for mirror m of worker k
abbrev pub late_values : ℕ → ℕ → List LateValue → List ℕ
late_values k m late = map (λ l. l.value) (filter (λ l. (l.worker == k) && (l.mirror == m)) late)

-- each mail value met with all values that came for its mirror; the first is that of mirror m
abbrev pub mail_lowered : Order → ℕ → (ℕ → List ℕ) → List ℕ → List ℕ
mail_lowered o m came [] = []
mail_lowered o m came (x ∷ mail) = meet_all o x (came m) ∷ mail_lowered o (m + 1) came mail

abbrev pub part_lowered : Order → (ℕ → List ℕ) → PartValues → PartValues
part_lowered o came part = record { phase = part.phase; values = part.values; mail = mail_lowered o 0 came part.mail }

-- the parts after values came for the mirrors of the workers; the first part is that of worker k
abbrev pub parts_lowered : Order → ℕ → (ℕ → ℕ → List ℕ) → List PartValues → List PartValues
parts_lowered o k came [] = []
parts_lowered o k came (part ∷ parts) = part_lowered o (came k) part ∷ parts_lowered o (k + 1) came parts

abbrev pub lowered_by : (ℕ → ℕ → List ℕ) → CutValues → CutValues
lowered_by came c =
    record { order = c.order; epoch = c.epoch; recording = c.recording; marked = c.marked; parts = parts_lowered c.order 0 came c.parts }

pub record LateValuesAreMet : Type 0 where
  -- late values lower each mail value by those for its mirror, and change nothing else
  pub all : (late : List LateValue) (c : CutValues) → after_all_late late c ≡ lowered_by (λ k m. late_values k m late) c
  -- worker by worker, and mirror by mirror
  pub workers : (o : Order) (came : ℕ → ℕ → List ℕ) (parts : List PartValues) (k : ℕ) → k < length parts →
      part_at k (parts_lowered o 0 came parts) ≡ part_lowered o (came k) (part_at k parts)
  pub mirrors : (o : Order) (came : ℕ → List ℕ) (mail : List ℕ) (m : ℕ) → m < length mail →
      slice_index (mail_lowered o 0 came mail) m ≡ meet_all o (slice_index mail m) (came m)
  -- no values change nothing
  pub none : (c : CutValues) → lowered_by (λ k m. []) c ≡ c
  -- values that come after others
  pub joined : (earlier later : ℕ → ℕ → List ℕ) (c : CutValues) →
      lowered_by later (lowered_by earlier c) ≡ lowered_by (λ k m. earlier k m ++ later k m) c
