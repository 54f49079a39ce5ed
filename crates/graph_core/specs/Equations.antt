-- Systems of equations between the values of vertices, and their greatest solution.
use Rattle.std.specs.Prelude.{◌≡◌, ℕ, ◌<◌, List, Contains}
use Rattle.value_order.specs.declared.order.Order.{Order}
use Rattle.value_order.specs.Order.{Below}
use Rattle.value_order.specs.declared.TheConstants.{NOTHING}

-- A value for each vertex, by its index. What it gives other numbers doesn't matter.
abbrev pub Assignment : Type 0
Assignment = ℕ → ℕ

-- The equations x(v) = phi v x of the vertices 0 up to count, and the assignment from which the values fall.
pub record Equations : Type 0 where
  pub order : Order
  pub count : ℕ
  pub start : Assignment
  pub reads : ℕ → List ℕ
  pub phi : ℕ → Assignment → ℕ

-- A vertex reads vertices. Its equation is monotone in what it reads, and so depends on nothing else. The start lies
-- above its own equations, and every start is a value.
pub record AreLawful (e : Equations) : Type 0 where
  pub in_range : (v u : ℕ) → v < e.count → Contains (e.reads v) u → u < e.count
  pub monotone : (v : ℕ) (x y : Assignment) → v < e.count → ((u : ℕ) → Contains (e.reads v) u → Below e.order (x u) (y u)) → Below e.order (e.phi v x) (e.phi v y)
  pub start_above : (v : ℕ) → v < e.count → Below e.order (e.phi v e.start) (e.start v)
  pub start_is_value : (v : ℕ) → v < e.count → Below e.order (e.start v) NOTHING

-- x lies below y at each vertex
abbrev pub LiesBelow : Equations → Assignment → Assignment → Type 0
LiesBelow e x y = (v : ℕ) → v < e.count → Below e.order (x v) (y v)

-- x lies below its own equations
abbrev pub IsPostFixpoint : Equations → Assignment → Type 0
IsPostFixpoint e x = LiesBelow e x (λ v. e.phi v x)

-- x solves the equations, lies below the start, and lies above every post-fixpoint below the start
pub record IsGreatest (e : Equations) (x : Assignment) : Type 0 where
  pub below_start : LiesBelow e x e.start
  pub solves : (v : ℕ) → v < e.count → x v ≡ e.phi v x
  pub greatest : (y : Assignment) → LiesBelow e y e.start → IsPostFixpoint e y → LiesBelow e y x
