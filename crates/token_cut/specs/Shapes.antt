-- The shape of a job's snapshots as contracts see it: the order of its values, and for each worker the start values of its own vertices and of its mirrors.
use Rattle.std.specs.Prelude.{◌≡◌, ℕ, ◌+◌, ◌≤◌, List, [], ◌∷◌, ◌++◌, map, replicate, length}
use Rattle.std.specs.List.{AllByRecursion}
use Rattle.value_order.specs.declared.order.Order.{Order}
use Rattle.value_order.specs.declared.TheConstants.{NOTHING}
use Rattle.token_cut.specs.declared.phase.Phase.TheVariants.{Fresh}
use Rattle.token_cut.specs.Parts.{PartValues, SnapshotParts}

pub record PartStarts : Type 0 where
  pub owned : List ℕ
  pub mirrors : List ℕ

pub record Starts : Type 0 where
  pub order : Order
  pub parts : List PartStarts

-- as many vertices and mirrors as a worker may have
pub record IsPartShape (part : PartStarts) : Type 0 where
  pub few_owned : length part.owned ≤ 1000000
  pub few_mirrors : length part.mirrors ≤ 1000000

-- as many parts as there may be workers, and each is one
pub record IsShape (shape : Starts) : Type 0 where
  pub few : length shape.parts ≤ 64
  pub parts : AllByRecursion IsPartShape shape.parts

-- the parts have a value for each place, and a mail value for each mirror
abbrev pub HaveShape : List PartStarts → List PartValues → Type 0
HaveShape [] [] = Unit {0}
HaveShape (starts ∷ shape) (part ∷ parts) =
    (length part.values ≡ length starts.owned + length starts.mirrors) × (length part.mail ≡ length starts.mirrors) × HaveShape shape parts
HaveShape shape parts = ⊥

-- how many values and how much mail a part has
abbrev pub size_of : PartValues → ℕ × ℕ
size_of part = (length part.values, length part.mail)

abbrev pub sizes_of : List PartValues → List (ℕ × ℕ)
sizes_of parts = map size_of parts

-- the same of the parts that have a shape
abbrev pub sizes_in : List PartStarts → List (ℕ × ℕ)
sizes_in shape = map (λ starts. (length starts.owned + length starts.mirrors, length starts.mirrors)) shape

-- the start values, and no mail
abbrev pub fresh_part : PartStarts → PartValues
fresh_part starts = record { phase = Fresh; values = starts.owned ++ starts.mirrors; mail = replicate (length starts.mirrors) NOTHING }

-- the beginning of a run
abbrev pub fresh_snapshot : Starts → SnapshotParts
fresh_snapshot shape = record { epoch = 0; parts = map fresh_part shape.parts }
