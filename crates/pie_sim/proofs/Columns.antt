-- Counters fall column by column.
use Rattle.std.proofs.Common.{◌≡◌, ◌≢◌, ℕ, ◌+◌, ◌*◌, ◌-◌, ◌<◌, ◌≤◌, inl, inr, true, false, cond, ◌==◌, refl, sym, ◌∙◌, ap, subst, arith, List, [], ◌∷◌, length, take, slice_index, slice_index_or, Contains}
use Rattle.std.specs.Prelude.{slice_set}
use Rattle.std.proofs.lemmas.Bool.{cases_eq, eq-eqb, ne_eqb}
use Rattle.std.proofs.lemmas.List.Sums.{count_by_more_yes, count_by_more_no, sum_by-take-le}
use Rattle.std.proofs.lemmas.List.{take_more}
use Rattle.std.proofs.lemmas.List.Elements.{Contains-append_cases}
use Rattle.graph_core.specs.declared.fragment.Reading.{Reading}
use Rattle.graph_core.specs.Queries.{has_bit}
use Rattle.graph_core.proofs.Lists.{contains_cases, contains_none}
use Rattle.pie_core.specs.PlaceSets.{waits}
use Rattle.pie_core.specs.Locals.{LocalValues}
use Rattle.pie_sim.specs.Counting.{times_placed, counter_at, OnlyCountersFell, ColumnFell, ColumnsFell}
use Rattle.pie_sim.proofs.Counts.{set_same, set_place, set_column}

pub only-more : (a b c : LocalValues) → OnlyCountersFell a b → OnlyCountersFell b c → OnlyCountersFell a c
only-more a b c h k = record {
  rest = k.rest ∙ ap (λ (l : LocalValues). let x : LocalValues = record l { counters = c.counters; waiting = c.waiting } in x) h.rest;
  room = k.room ∙ h.room;
  known = k.known ∙ h.known;
  on = λ q w. k.on q (h.on q w);
}

-- ---- one column, reader by reader

-- one reader more
module _ (row : List Reading) (k : ℕ) (first : Reading) (inside : k < length row) (width column : ℕ) (a b : LocalValues) (so_far : ColumnFell (take k row) width column a b) (small : column < width) where
  abbrev r : Reading
  r = slice_index_or row k first

  abbrev index : ℕ
  index = r.place * width + column

  -- where the reader stands again, its counter isn't 0
  pub still-counted : (counted : times_placed row r.place ≤ counter_at width a.counters r.place column) → 1 ≤ counter_at width b.counters r.place column
  still-counted counted =
      let more = count_by_more_yes (λ (x : Reading). x.place == r.place) row k first inside (eq-eqb r.place r.place refl) in
      let most = sum_by-take-le (λ (x : Reading). cond (x.place == r.place) 1 0) row (k + 1) in
      let fell = so_far.fell r.place in
      omega (arith, more, most, fell, counted)

  module _ (c : LocalValues) (room : index < length b.counters) (counted : 1 ≤ slice_index b.counters index) (only : OnlyCountersFell b c) (counters : c.counters ≡ slice_set b.counters index (slice_index b.counters index - 1))
      (zero : slice_index c.counters index ≡ 0 → waits c.waiting r.place ≡ true) where
    at_reader : counter_at width c.counters r.place column ≡ counter_at width b.counters r.place column - 1
    at_reader = ap (λ cs. counter_at width cs r.place column) counters ∙ set_same width b.counters r.place column (slice_index b.counters index - 1) room

    elsewhere : (p : ℕ) → p ≢ r.place → counter_at width c.counters p column ≡ counter_at width b.counters p column
    elsewhere p d = ap (λ cs. counter_at width cs p column) counters ∙ set_place width b.counters r.place column (slice_index b.counters index - 1) p column small small d

    pub column-more : ColumnFell (take (k + 1) row) width column a c
    column-more = record {
      only = only-more a b c so_far.only only;
      fell = λ p. elim (cases_eq p r.place) [
        | inl e ↦
            let more = count_by_more_yes (λ (x : Reading). x.place == p) row k first inside (eq-eqb r.place p (sym e)) in
            let now = ap (λ q. counter_at width c.counters q column) e ∙ at_reader in
            let before = ap (λ q. counter_at width b.counters q column) e in
            let fell = so_far.fell p in
            omega (arith, more, now, before, fell, counted)
        | inr d ↦
            let more = count_by_more_no (λ (x : Reading). x.place == p) row k first inside (ne_eqb r.place p (λ e. d (sym e))) in
            let now = elsewhere p d in
            let fell = so_far.fell p in
            omega (arith, more, now, fell)
      ];
      others = λ p d l other. ap (λ cs. counter_at width cs p d) counters ∙ set_column width b.counters r.place column (slice_index b.counters index - 1) p d l small other ∙ so_far.others p d l other;
      zero = λ x there none. elim (cases_eq x.place r.place) [
        | inl e ↦ subst (λ q. waits c.waiting q ≡ true) (sym e) (zero (sym (ap (λ q. counter_at width c.counters q column) e) ∙ none))
        | inr d ↦ only.on x.place (so_far.zero x (earlier x there d) (sym (elsewhere x.place d) ∙ none))
      ];
    }
      where
        earlier : (x : Reading) → Contains (take (k + 1) row) x → x.place ≢ r.place → Contains (take k row) x
        earlier x there d = elim (Contains-append_cases (take k row) (r ∷ []) x (subst (λ rs. Contains rs x) (take_more row k first inside) there)) [
          | inl before ↦ before
          | inr last ↦ elim (contains_cases r [] x last) [
            | inl e ↦ absurd (d (sym (ap (λ (y : Reading). y.place) e)))
            | inr none ↦ contains_none x none
          ]
        ]

-- ---- column by column

module _ (nodes : List ℕ) (row : List Reading) (fallen end : ℕ) (a b : LocalValues) (so_far : ColumnsFell nodes row fallen end a b) (inside : end < length nodes) where
  -- a column whose node lost no bit
  pub columns-passed : has_bit fallen (slice_index nodes end) ≡ false → ColumnsFell nodes row fallen (end + 1) a b
  columns-passed none = record {
    only = so_far.only;
    fell = λ p c l t. so_far.fell p c (earlier c l t) t;
    others = λ p c l e. elim e [
      | inl later ↦ so_far.others p c l (inl (omega (arith, later)))
      | inr same ↦ so_far.others p c l (inr same)
    ];
    zero = λ r c there l t. so_far.zero r c there (earlier c l t) t;
  }
    where
      earlier : (c : ℕ) → c < end + 1 → has_bit fallen (slice_index nodes c) ≡ true → c < end
      earlier c l t = elim (cases_eq c end) [
        | inl e ↦ absurd (let x : false ≡ true = sym none ∙ sym (ap (λ i. has_bit fallen (slice_index nodes i)) e) ∙ t in cc)
        | inr d ↦ omega (arith, l, d)
      ]

  -- and one whose node lost its bit
  module _ (c : LocalValues) (lost : has_bit fallen (slice_index nodes end) ≡ true) (step : ColumnFell row (length nodes) end b c) where
    unmoved : (p d : ℕ) → d < length nodes → d ≢ end → counter_at (length nodes) c.counters p d ≡ counter_at (length nodes) b.counters p d
    unmoved p d l other = step.others p d l other

    pub columns-more : ColumnsFell nodes row fallen (end + 1) a c
    columns-more = record {
      only = only-more a b c so_far.only step.only;
      fell = λ p d l t. elim (cases_eq d end) [
        | inl e ↦
            let now = ap (λ i. counter_at (length nodes) c.counters p i) e in
            let fell = step.fell p in
            let before = so_far.others p end inside (inl (omega arith)) in
            let start = ap (λ i. counter_at (length nodes) a.counters p i) e in
            omega (arith, now, fell, before, start)
        | inr other ↦
            let now = unmoved p d (omega (arith, l, inside)) other in
            let fell = so_far.fell p d (omega (arith, l, other)) t in
            omega (arith, now, fell)
      ];
      others = λ p d l e. elim (cases_eq d end) [
        | inl same ↦ elim e [
          | inl later ↦ absurd (omega (arith, later, same))
          | inr none ↦ absurd (let x : false ≡ true = sym none ∙ ap (λ i. has_bit fallen (slice_index nodes i)) same ∙ lost in cc)
        ]
        | inr other ↦ unmoved p d l other ∙ so_far.others p d l (elim e [ inl later ↦ inl (omega (arith, later)) | inr none ↦ inr none ])
      ];
      zero = λ r d there l t none. elim (cases_eq d end) [
        | inl e ↦ step.zero r there (sym (ap (λ i. counter_at (length nodes) c.counters r.place i) e) ∙ none)
        | inr other ↦ step.only.on r.place (so_far.zero r d there (omega (arith, l, other)) t (sym (unmoved r.place d (omega (arith, l, inside)) other) ∙ none))
      ];
    }
