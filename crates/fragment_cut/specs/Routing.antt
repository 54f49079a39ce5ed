-- The mirrors of each vertex, and the routes that lead to them.
use Rattle.std.specs.Prelude.{ℕ, List, [], map, length, slice_index, slice_index_or}
use Rattle.graph_core.specs.declared.job.Job.{Job}
use Rattle.graph_core.specs.declared.fragment.Reading.{Reading}
use Rattle.graph_core.specs.declared.fragment.Route.{Route}
use Rattle.graph_core.specs.Graphs.{count_of}
use Rattle.graph_core.specs.Fragments.{numbers_below, mirrors_of, routes_of}

-- mirror m, as a reading of its vertex
abbrev pub mirror_reading : List ℕ → ℕ → Reading
mirror_reading mirrors m = record { place = slice_index mirrors m; weight = m }

abbrev pub mirror_row : List ℕ → List Reading
mirror_row mirrors = map (mirror_reading mirrors) (numbers_below (length mirrors))

-- the mirrors of each fragment
abbrev pub mirror_rows : Job → List (List Reading)
mirror_rows job = map (λ k. mirror_row (mirrors_of job k)) (numbers_below job.settings.fragments)

-- a reading whose place is a fragment and whose weight the number of a mirror there
abbrev pub route_of : Reading → Route
route_of r = record { fragment = r.place; mirror = r.weight }

abbrev pub reading_to : Route → Reading
reading_to route = record { place = route.fragment; weight = route.mirror }

-- the routes of each vertex, as readings
abbrev pub routes_table : Job → List (List Reading)
routes_table job = map (λ v. map reading_to (routes_of job v)) (numbers_below (count_of job.graph))

-- the routes of one vertex
abbrev pub routes_in : List (List Reading) → ℕ → List Route
routes_in rows v = map route_of (slice_index_or rows v [])
