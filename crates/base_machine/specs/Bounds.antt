-- How many Takes a run has at most.
use Rattle.std.specs.Prelude.{ℕ, ◌+◌, ◌*◌, List, [], ◌∷◌, length, sum_by}
use Rattle.value_order.specs.Order.{height_of}
use Rattle.graph_core.specs.declared.fragment.Route.{Route}
use Rattle.graph_core.specs.Equations.{Equations}
use Rattle.base_machine.specs.Machine.{System}

-- over owned vertices, how often the start value can become lower, times the number of routes
abbrev pub heights_by_routes : Equations → List ℕ → List (List Route) → ℕ
heights_by_routes e [] routes = 0
heights_by_routes e (v ∷ vs) [] = 0
heights_by_routes e (v ∷ vs) (r ∷ routes) = height_of e.order (e.start v) * length r + heights_by_routes e vs routes

-- two for each fragment, and the heights over all vertices
abbrev pub bound_of : System → ℕ
bound_of sys = 2 * length sys.pieces + sum_by (λ piece. heights_by_routes sys.equations piece.owned piece.routes) sys.pieces
