-- A fragment without its routes.
use Rattle.std.specs.Prelude.{ℕ, List, map}
use Rattle.graph_core.specs.declared.job.Job.{Job}
use Rattle.graph_core.specs.declared.fragment.Reading.{Reading}
use Rattle.graph_core.specs.declared.fragment.Route.{Route}
use Rattle.graph_core.specs.Parts.{FragmentLists}
use Rattle.graph_core.specs.Fragments.{owned_of, mirrors_of, places_of, readings_of, readers_of}

pub record HalfLists : Type 0 where
  pub owned : List ℕ
  pub mirrors : List ℕ
  pub readings : List (List Reading)
  pub readers : List (List Reading)

abbrev pub half_of : Job → ℕ → HalfLists
half_of job i =
    record {
      owned = owned_of job i;
      mirrors = mirrors_of job i;
      readings = map (readings_of job i) (owned_of job i);
      readers = map (readers_of job i) (places_of job i);
    }

-- with a number and routes, a fragment
abbrev pub whole : HalfLists → ℕ → List (List Route) → FragmentLists
whole half number routes =
    record {
      number = number;
      owned = half.owned;
      mirrors = half.mirrors;
      readings = half.readings;
      readers = half.readers;
      routes = routes;
    }
