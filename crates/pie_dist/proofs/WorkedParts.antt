-- The fragments of the worked rows are ready to be evaluated.
use Rattle.std.proofs.Common.{◌≡◌, ℕ, ◌<◌, ◌^◌, List, [], ◌∷◌, length, refl, sym, ◌∙◌, ap, subst, arith}
use Rattle.std.proofs.lemmas.List.Elements.{All-from_recursion}
use Rattle.graph_core.specs.declared.edge.Edge.{Edge}
use Rattle.graph_core.specs.declared.TheConstants.{FAR}
use Rattle.graph_core.specs.Parts.{FragmentLists}
use Rattle.graph_core.specs.Queries.{equations_of}
use Rattle.graph_core.specs.Fragments.{fragment_of}
use Rattle.pie_core.specs.Locals.{LocalValues}
use Rattle.pie_core.specs.LocalCalls.{new_local, loaded}
use Rattle.pie_core.specs.Solutions.{IsReadyFor}
use Rattle.pie_dist.specs.DistJobs.{IsDistJob}
use Rattle.pie_dist.specs.Worked.{one_range, two_ranges}

pub row_is_for : IsDistJob two_ranges
row_is_for =
    let words : ℕ × ℕ → Type 0 = λ vertex. (vertex.0 < 2 ^ 32) × (vertex.1 < 2 ^ 32) in
    let ends : Edge → Type 0 = λ e. (e.from < 3) × (e.to < 3) in
    let weight : Edge → Type 0 = λ e. e.weight < 2 ^ 32 in (
      record {
        graph = record {
          rising = (omega arith, (omega arith, tt));
          words = All-from_recursion words two_ranges.graph.vertices ((omega arith, omega arith), ((omega arith, omega arith), ((omega arith, omega arith), tt)));
          ends = All-from_recursion ends two_ranges.graph.edges ((omega arith, omega arith), ((omega arith, omega arith), tt));
          weights = All-from_recursion weight two_ranges.graph.edges (omega arith, (omega arith, tt));
          sorted = refl;
          few_vertices = omega arith;
          few_edges = omega arith;
        };
        query = omega arith;
        settings = record { fragments = (omega arith, omega arith); lanes = (omega arith, omega arith); policy = tt; snapshot = omega arith };
      },
      tt,
    )

far_ready : IsReadyFor (equations_of two_ranges) two_ranges (fragment_of two_ranges 1) (loaded (new_local 1 1 0) (FAR ∷ FAR ∷ [])) 0
far_ready = record { number = omega arith; is_part = refl; below_start = (omega arith, (omega arith, tt)); owned = refl; room = refl }

pub second_ready : (part : FragmentLists) (made local : LocalValues) (counters : ℕ) → part ≡ fragment_of two_ranges 1 → counters ≡ 0 → made ≡ new_local (length part.owned) (length part.mirrors) counters → local ≡ loaded made (FAR ∷ FAR ∷ [])
    → IsReadyFor (equations_of two_ranges) two_ranges part local 0
second_ready part made local counters is_part none is_made is_local =
    let made_is : made ≡ new_local 1 1 0 = is_made ∙ ap (λ (p : FragmentLists). new_local (length p.owned) (length p.mirrors) counters) is_part ∙ ap (λ n. new_local 1 1 n) none in
    let local_is : local ≡ loaded (new_local 1 1 0) (FAR ∷ FAR ∷ []) = is_local ∙ ap (λ m. loaded m (FAR ∷ FAR ∷ [])) made_is in
    subst (λ (p : FragmentLists). IsReadyFor (equations_of two_ranges) two_ranges p local 0) (sym is_part)
    (subst (λ (l : LocalValues). IsReadyFor (equations_of two_ranges) two_ranges (fragment_of two_ranges 1) l 0) (sym local_is) far_ready)

-- ---- and the one fragment of another job

pub one_is_for : IsDistJob one_range
one_is_for =
    let words : ℕ × ℕ → Type 0 = λ vertex. (vertex.0 < 2 ^ 32) × (vertex.1 < 2 ^ 32) in
    let ends : Edge → Type 0 = λ e. (e.from < 5) × (e.to < 5) in
    let weight : Edge → Type 0 = λ e. e.weight < 2 ^ 32 in (
      record {
        graph = record {
          rising = (omega arith, (omega arith, (omega arith, (omega arith, tt))));
          words = All-from_recursion words one_range.graph.vertices ((omega arith, omega arith), ((omega arith, omega arith), ((omega arith, omega arith), ((omega arith, omega arith), ((omega arith, omega arith), tt)))));
          ends = All-from_recursion ends one_range.graph.edges ((omega arith, omega arith), ((omega arith, omega arith), ((omega arith, omega arith), ((omega arith, omega arith), ((omega arith, omega arith), ((omega arith, omega arith), tt))))));
          weights = All-from_recursion weight one_range.graph.edges (omega arith, (omega arith, (omega arith, (omega arith, (omega arith, (omega arith, tt))))));
          sorted = refl;
          few_vertices = omega arith;
          few_edges = omega arith;
        };
        query = omega arith;
        settings = record { fragments = (omega arith, omega arith); lanes = (omega arith, omega arith); policy = tt; snapshot = omega arith };
      },
      tt,
    )

abbrev pub one_starts : List ℕ
one_starts = 0 ∷ FAR ∷ FAR ∷ FAR ∷ FAR ∷ []

starts_ready : IsReadyFor (equations_of one_range) one_range (fragment_of one_range 0) (loaded (new_local 5 0 0) one_starts) 0
starts_ready = record { number = omega arith; is_part = refl; below_start = (omega arith, (omega arith, (omega arith, (omega arith, (omega arith, tt))))); owned = refl; room = refl }

pub whole_ready : (part : FragmentLists) (made local : LocalValues) (counters : ℕ) → part ≡ fragment_of one_range 0 → counters ≡ 0 → made ≡ new_local (length part.owned) (length part.mirrors) counters → local ≡ loaded made one_starts
    → IsReadyFor (equations_of one_range) one_range part local 0
whole_ready part made local counters is_part none is_made is_local =
    let made_is : made ≡ new_local 5 0 0 = is_made ∙ ap (λ (p : FragmentLists). new_local (length p.owned) (length p.mirrors) counters) is_part ∙ ap (λ n. new_local 5 0 n) none in
    let local_is : local ≡ loaded (new_local 5 0 0) one_starts = is_local ∙ ap (λ m. loaded m one_starts) made_is in
    subst (λ (p : FragmentLists). IsReadyFor (equations_of one_range) one_range p local 0) (sym is_part)
    (subst (λ (l : LocalValues). IsReadyFor (equations_of one_range) one_range (fragment_of one_range 0) l 0) (sym local_is) starts_ready)
