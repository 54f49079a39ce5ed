-- A fragment as contracts see it.
use Rattle.std.specs.Prelude.{◌≡◌, ℕ, ◌+◌, ◌<◌, List, length, All}
use Rattle.graph_core.specs.declared.fragment.Reading.{Reading}
use Rattle.graph_core.specs.declared.fragment.Route.{Route}

pub record FragmentLists : Type 0 where
  pub number : ℕ
  pub owned : List ℕ
  pub mirrors : List ℕ
  pub readings : List (List Reading)
  pub readers : List (List Reading)
  pub routes : List (List Route)

-- how many places a fragment has: its owned vertices, and then its mirrors
abbrev pub place_count : FragmentLists → ℕ
place_count f = length f.owned + length f.mirrors

-- What holds of each fragment: a row of readings and a row of routes for each owned place, and a row of readers for each
-- place. A reading names a place, and a reader an owned place.
pub record IsFragment (f : FragmentLists) : Type 0 where
  pub readings_len : length f.readings ≡ length f.owned
  pub readers_len : length f.readers ≡ place_count f
  pub routes_len : length f.routes ≡ length f.owned
  pub readings : All (λ row. All (λ reading. reading.place < place_count f) row) f.readings
  pub readers : All (λ row. All (λ reading. reading.place < length f.owned) row) f.readers
