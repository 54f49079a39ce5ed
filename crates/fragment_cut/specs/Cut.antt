-- Each equation of a job stands in exactly one of its fragments.
use Rattle.std.specs.Prelude.{◌≡◌, ℕ, ◌<◌, List, [], ◌++◌, map, length, slice_index, slice_index_or, IsPermutation}
use Rattle.graph_core.specs.declared.job.Job.{Job}
use Rattle.graph_core.specs.declared.fragment.Reading.{Reading}
use Rattle.graph_core.specs.Graphs.{count_of}
use Rattle.graph_core.specs.Parts.{FragmentLists}
use Rattle.graph_core.specs.Queries.{Read, reads_of}
use Rattle.graph_core.specs.Fragments.{StandsAt}

-- stands for a fragment past the last
abbrev pub no_fragment : FragmentLists
no_fragment = record { number = 0; owned = []; mirrors = []; readings = []; readers = []; routes = [] }

abbrev pub fragment_at : List FragmentLists → ℕ → FragmentLists
fragment_at fragments i = slice_index_or fragments i no_fragment

-- fragment i owns vertex v, at place p
abbrev pub OwnsAt : List FragmentLists → ℕ → ℕ → ℕ → Type 0
OwnsAt fragments i p v = (i < length fragments) × StandsAt (fragment_at fragments i).owned p v

-- what a reading of a fragment reads: the vertex at its place, along an edge of its weight
abbrev pub read_at : FragmentLists → Reading → Read
read_at f r = record { vertex = slice_index (f.owned ++ f.mirrors) r.place; weight = r.weight }

pub record EachEquationOnce (job : Job) (fragments : List FragmentLists) : Type 0 where
  -- each vertex is owned, and at one place only
  pub owned : (v : ℕ) → v < count_of job.graph → (i : ℕ) × (p : ℕ) × OwnsAt fragments i p v
  pub owned_once : (i p j q v : ℕ) → OwnsAt fragments i p v → OwnsAt fragments j q v → (i ≡ j) × (p ≡ q)
  -- its readings there are what its equation reads, each as often
  pub reads : (i p v : ℕ) → OwnsAt fragments i p v
      → IsPermutation (reads_of job.graph job.query v) (map (read_at (fragment_at fragments i)) (slice_index_or (fragment_at fragments i).readings p []))
