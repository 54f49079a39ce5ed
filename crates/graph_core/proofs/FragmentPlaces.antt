-- Where the vertices of a fragment stand, and what they read.
use Rattle.std.proofs.Common.{◌≡◌, ℕ, ◌<◌, cond, ◌==◌, [], ◌∷◌, length, slice_index, Contains, ◌∙◌, sym, ap, subst, arith, Some, None, eq-eqb}
use Rattle.std.specs.Prelude.{nat_lt, option_to_list}
use Rattle.std.specs.List.{position_or_len}
use Rattle.std.proofs.lemmas.Bool.{ne_eqb, lt-ltb}
use Rattle.std.proofs.lemmas.List.FromFn.{length-map-range_with_len, get_or-map-range_with_len}
use Rattle.std.proofs.lemmas.List.Sums.{position_or_len_is}
use Rattle.graph_core.specs.declared.job.Job.{Job}
use Rattle.graph_core.specs.Graphs.{count_of, IsJob}
use Rattle.graph_core.specs.Queries.{Read, reads_of}
use Rattle.graph_core.specs.Fragments.{owned_of, mirrors_of, places_of, place_of, StandsAt, Piece, no_piece, piece_at, piece_of, pieces_of, places}
use Rattle.graph_core.proofs.Lists.{contains_map}
use Rattle.graph_core.proofs.Cutting as Cutting

module _ (job : Job) (is : IsJob job) (i : ℕ) (small : i < job.settings.fragments) where
  pieces-len : length (pieces_of job) ≡ job.settings.fragments
  pieces-len = length-map-range_with_len (piece_of job) 0 job.settings.fragments

  inside : i < length (pieces_of job)
  inside = omega (arith, pieces-len, small)

  at : piece_at (pieces_of job) i ≡ piece_of job i
  at = get_or-map-range_with_len (piece_of job) 0 job.settings.fragments i i no_piece small (omega arith)

  pub places_once : (p q v : ℕ) → StandsAt (places_of job i) p v → StandsAt (places_of job i) q v → p ≡ q
  places_once p q v h k =
      (Cutting.fragments_cut job is).apart i p q v (subst (λ (x : Piece). StandsAt (places x) p v) (sym at) h) (subst (λ (x : Piece). StandsAt (places x) q v) (sym at) k)

  pub places_inside : (p v : ℕ) → StandsAt (places_of job i) p v → v < count_of job.graph
  places_inside p v h =
      let r = (Cutting.fragments_cut job is).in_range i p inside (subst (λ (x : Piece). p < length (places x)) (sym at) h.0) in
      let e = h.1 in
      let f = ap (λ (x : Piece). slice_index (places x) p) at in
      omega (arith, r, e, f)

  pub read_stands : (p v : ℕ) (r : Read) → StandsAt (owned_of job i) p v → Contains (reads_of job.graph job.query v) r → (q : ℕ) × StandsAt (places_of job i) q r.vertex
  read_stands p v r h c =
      let w = (Cutting.fragments_cut job is).reads i p v r.vertex (inside, subst (λ (x : Piece). StandsAt x.owned p v) (sym at) h) (contains_map (λ (x : Read). x.vertex) (reads_of job.graph job.query v) r c) in
      (w.0, subst (λ (x : Piece). StandsAt (places x) w.0 r.vertex) at w.1)

  pub place_is : (p v : ℕ) → StandsAt (places_of job i) p v → place_of job i v ≡ p ∷ []
  place_is p v h =
      let vs = places_of job i in
      let first : position_or_len (λ u. u == v) vs ≡ p = position_or_len_is (λ u. u == v) vs p 0 (omega (arith, h.0))
      (λ k l. ne_eqb (slice_index vs k) v (λ e. let same = places_once k p v (omega (arith, l, h.0), e) h in omega (arith, same, l)))
      (λ l. eq-eqb (slice_index vs p) v h.1) in
      ap (λ q. option_to_list (cond (nat_lt q (length vs)) (Some q) None)) first ∙ ap (λ b. option_to_list (cond b (Some p) None)) (lt-ltb p (length vs) h.0)

  pub owned_placed : (p v : ℕ) → StandsAt (owned_of job i) p v → StandsAt (places_of job i) p v
  owned_placed p v h = Cutting.stands_left (owned_of job i) (mirrors_of job i) p v h
