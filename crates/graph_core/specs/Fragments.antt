-- Fragments: which fragment owns a vertex, and what a fragment keeps.
use Rattle.std.specs.Prelude.{◌≡◌, ℕ, ◌*◌, ◌/◌, ◌%◌, ◌^◌, ◌<◌, Bool, if◌then◌else◌, ◌==◌, ◌&&◌, ◌||◌, not, nat_lt, ◌↔◌, List, [], ◌∷◌, ◌++◌, map, filter, flat_map, length, slice_index, slice_index_or, position, option_to_list, Contains}
use Rattle.std.specs.List.{list_any, range_with_len}
use Rattle.graph_core.specs.declared.settings.Cut.{Cut}
use Rattle.graph_core.specs.declared.settings.Cut.TheVariants.{Range, Hash}
use Rattle.graph_core.specs.declared.job.Job.{Job}
use Rattle.graph_core.specs.declared.fragment.Reading.{Reading}
use Rattle.graph_core.specs.declared.fragment.Route.{Route}
use Rattle.graph_core.specs.Graphs.{count_of, number_at, IsJob}
use Rattle.graph_core.specs.Parts.{FragmentLists}
use Rattle.graph_core.specs.Equations.{Equations}
use Rattle.graph_core.specs.Queries.{reads_of, equations_of}

-- of f fragments over n vertices, that of the vertex with this number and index
abbrev pub owner_of : Cut → ℕ → ℕ → ℕ → ℕ → ℕ
owner_of Range f number index n = (index * f) / n
owner_of Hash f number index n = (((number * 2654435769) % 2 ^ 32) * f) / 2 ^ 32

abbrev pub owner : Job → ℕ → ℕ
owner job v = owner_of job.settings.cut job.settings.fragments (number_at job.graph v) v (count_of job.graph)

-- 0 up to n
abbrev pub numbers_below : ℕ → List ℕ
numbers_below n = range_with_len 0 n

-- the vertices that fragment i owns, by rising index
abbrev pub owned_of : Job → ℕ → List ℕ
owned_of job i = filter (λ v. owner job v == i) (numbers_below (count_of job.graph))

-- whether a vertex of fragment i reads v
abbrev pub is_read_in : Job → ℕ → ℕ → Bool
is_read_in job i v = list_any (λ w. list_any (λ r. r.vertex == v) (reads_of job.graph job.query w)) (owned_of job i)

-- the vertices that fragment i reads and does not own, by rising index
abbrev pub mirrors_of : Job → ℕ → List ℕ
mirrors_of job i = filter (λ v. not (owner job v == i) && is_read_in job i v) (numbers_below (count_of job.graph))

-- the vertices of fragment i by place: the owned ones, and then the mirrors
abbrev pub places_of : Job → ℕ → List ℕ
places_of job i = owned_of job i ++ mirrors_of job i

-- the mirror of v in fragment k, where there is one
abbrev pub route_to : Job → ℕ → ℕ → List Route
route_to job v k = map (λ m. record { fragment = k; mirror = m }) (option_to_list (position (λ u. u == v) (mirrors_of job k)))

-- the mirrors of v, by rising fragment
abbrev pub routes_of : Job → ℕ → List Route
routes_of job v = flat_map (route_to job v) (numbers_below job.settings.fragments)

-- What the machine needs of a fragment: the vertices of its owned places and of its mirrors, and the routes of each owned place.
pub record Piece : Type 0 where
  pub owned : List ℕ
  pub mirrors : List ℕ
  pub routes : List (List Route)

abbrev pub piece_of : Job → ℕ → Piece
piece_of job i = record { owned = owned_of job i; mirrors = mirrors_of job i; routes = map (routes_of job) (owned_of job i) }

abbrev pub pieces_of : Job → List Piece
pieces_of job = map (piece_of job) (numbers_below job.settings.fragments)

-- stands for a fragment past the last
abbrev pub no_piece : Piece
no_piece = record { owned = []; mirrors = []; routes = [] }

abbrev pub piece_at : List Piece → ℕ → Piece
piece_at pieces i = slice_index_or pieces i no_piece

-- the vertices of a piece by place
abbrev pub places : Piece → List ℕ
places piece = piece.owned ++ piece.mirrors

-- v stands at place p of a list of vertices
abbrev pub StandsAt : List ℕ → ℕ → ℕ → Type 0
StandsAt vs p v = (p < length vs) × (slice_index vs p ≡ v)

-- vertex v is owned by fragment i, at place p
abbrev pub IsOwnedAt : List Piece → ℕ → ℕ → ℕ → Type 0
IsOwnedAt pieces i p v = (i < length pieces) × StandsAt (piece_at pieces i).owned p v

-- The laws of a cut of a system of equations into pieces.
pub record AreCutOf (e : Equations) (pieces : List Piece) : Type 0 where
  -- each vertex is owned, and at one place only
  pub owned : (v : ℕ) → v < e.count → (i : ℕ) × (p : ℕ) × IsOwnedAt pieces i p v
  pub owned_once : (i p j q v : ℕ) → IsOwnedAt pieces i p v → IsOwnedAt pieces j q v → (i ≡ j) × (p ≡ q)
  -- the places of a piece are vertices, and differ
  pub in_range : (i p : ℕ) → i < length pieces → p < length (places (piece_at pieces i)) → slice_index (places (piece_at pieces i)) p < e.count
  pub apart : (i p q v : ℕ) → StandsAt (places (piece_at pieces i)) p v → StandsAt (places (piece_at pieces i)) q v → p ≡ q
  -- a piece has a place for each vertex that one of its owned vertices reads
  pub reads : (i p v u : ℕ) → IsOwnedAt pieces i p v → Contains (e.reads v) u → (q : ℕ) × StandsAt (places (piece_at pieces i)) q u
  -- the routes of an owned vertex lead to its mirrors, once to each
  pub routes_len : (i : ℕ) → i < length pieces → length (piece_at pieces i).routes ≡ length (piece_at pieces i).owned
  pub routes : (i p v k m : ℕ) → IsOwnedAt pieces i p v →
      Contains (slice_index_or (piece_at pieces i).routes p []) (record { fragment = k; mirror = m }) ↔ ((k < length pieces) × StandsAt (piece_at pieces k).mirrors m v)
  pub routes_once : (i p a b : ℕ) (d : Route) → a < length (slice_index_or (piece_at pieces i).routes p []) → b < length (slice_index_or (piece_at pieces i).routes p []) →
      slice_index_or (slice_index_or (piece_at pieces i).routes p []) a d ≡ slice_index_or (slice_index_or (piece_at pieces i).routes p []) b d → a ≡ b

-- The fragments of a job are a proper cut of its equations.
abbrev pub FragmentsCut : Type 0
FragmentsCut = (job : Job) → IsJob job → AreCutOf (equations_of job) (pieces_of job)

-- ---- readings and readers, which programs use

-- readings stand in order of place, and of weight at one place
abbrev pub comes_before : Reading → Reading → Bool
comes_before a b = nat_lt a.place b.place || (a.place == b.place && nat_lt a.weight b.weight)

abbrev pub insert_reading : Reading → List Reading → List Reading
insert_reading a [] = a ∷ []
insert_reading a (b ∷ bs) = if comes_before b a then b ∷ insert_reading a bs else a ∷ b ∷ bs

abbrev pub sorted_readings : List Reading → List Reading
sorted_readings [] = []
sorted_readings (a ∷ bs) = insert_reading a (sorted_readings bs)

-- the place of a vertex in fragment i
abbrev pub place_of : Job → ℕ → ℕ → List ℕ
place_of job i v = option_to_list (position (λ u. u == v) (places_of job i))

-- what the owned vertex v of fragment i reads, by place
abbrev pub readings_of : Job → ℕ → ℕ → List Reading
readings_of job i v = sorted_readings (flat_map (λ r. map (λ p. record { place = p; weight = r.weight }) (place_of job i r.vertex)) (reads_of job.graph job.query v))

-- the readings of the vertex u by the owned vertices of fragment i
abbrev pub readers_of : Job → ℕ → ℕ → List Reading
readers_of job i u =
    sorted_readings (flat_map (λ w. flat_map (λ r. if r.vertex == u then map (λ p. record { place = p; weight = r.weight }) (place_of job i w) else []) (reads_of job.graph job.query w)) (owned_of job i))

-- fragment i of the job
abbrev pub fragment_of : Job → ℕ → FragmentLists
fragment_of job i =
    record {
      number = i;
      owned = owned_of job i;
      mirrors = mirrors_of job i;
      readings = map (readings_of job i) (owned_of job i);
      readers = map (readers_of job i) (places_of job i);
      routes = map (routes_of job) (owned_of job i);
    }

abbrev pub fragments_of : Job → List FragmentLists
fragments_of job = map (fragment_of job) (numbers_below job.settings.fragments)
