-- Values that are lowered by what their places read.
use Rattle.std.proofs.Common.{◌≡◌, ◌≢◌, ℕ, ◌+◌, ◌<◌, ◌≤◌, ◌⊎◌, inl, inr, Bool, true, false, ◌||◌, refl, sym, ◌∙◌, ap, subst, arith, List, [], length, slice_index, slice_index_or, Contains, sum}
use Rattle.std.specs.Prelude.{min}
use Rattle.std.proofs.lemmas.Bool.{cases_eq, cases_lt}
use Rattle.std.proofs.lemmas.List.{get_or-set_same, get_or-set_other, length-set, length-append, get_or_default}
use Rattle.std.proofs.lemmas.List.Sums.{sum_by-set}
use Rattle.graph_core.specs.declared.fragment.Reading.{Reading}
use Rattle.graph_core.specs.declared.job.Job.{Job}
use Rattle.graph_core.specs.Graphs.{IsJob}
use Rattle.graph_core.specs.Parts.{FragmentLists, place_count}
use Rattle.graph_core.specs.Queries.{equations_of}
use Rattle.graph_core.specs.Fragments.{owned_of, mirrors_of, places_of, fragment_of}
use Rattle.pie_core.specs.Locals.{LocalValues, FitsPart}
use Rattle.pie_core.specs.LocalCalls.{with_value}
use Rattle.pie_core.specs.Solutions.{IsReadyFor}
use Rattle.pie_core.proofs.Bridge.{in_readers_row, from_readers_row, in_readings_row, from_readings_row}
use Rattle.pie_dist.specs.DistJobs.{IsDistJob}
use Rattle.pie_lowering.specs.LeastEquations.{whole_weight}
use Rattle.pie_lowering.specs.Lowering.{LieBelow, HoldsAllReaders, HasFallen}
use Rattle.pie_dist.specs.ByReadings.{RowsMatch, IsLeastAt, HoldsReadings, HasLoweredPlace, HasPassed}
use Rattle.pie_lowering.proofs.Steps.{fallen-refl, fallen-trans}

-- ---- the least of a row

-- the same as far as index n of a row
pub record LeastSoFar (row : List Reading) (xs : List ℕ) (p least n : ℕ) : Type 0 where
  pub own : least ≤ slice_index xs p
  pub readings : (k : ℕ) (d : Reading) → k < n → least ≤ slice_index xs (slice_index_or row k d).place + (slice_index_or row k d).weight
  pub attained : (least ≡ slice_index xs p) ⊎ ((r : Reading) × Contains row r × (least ≡ slice_index xs r.place + r.weight))

pub least-first : (row : List Reading) (xs : List ℕ) (p : ℕ) → LeastSoFar row xs p (slice_index xs p) 0
least-first row xs p = record { own = omega arith; readings = λ k d l. absurd (omega (arith, l)); attained = inl refl }

pub least-more : (row : List Reading) (xs : List ℕ) (p least n offer : ℕ) (r : Reading) → n < length row → slice_index_or row n r ≡ r → Contains row r → offer ≡ slice_index xs r.place + r.weight → LeastSoFar row xs p least n → LeastSoFar row xs p (min least offer) (n + 1)
least-more row xs p least n offer r inside is c e h = record {
  own = omega (arith, h.own);
  readings = λ k d l. elim (cases_eq k n) [
    | inl same ↦
        let P : Reading → Type 0 = λ x. min least offer ≤ slice_index xs x.place + x.weight in
        let Q : ℕ → Type 0 = λ j. P (slice_index_or row j d) in
        subst Q (sym same) (subst P (sym is ∙ get_or_default row n r d inside) (omega (arith, e)))
    | inr other ↦ omega (arith, h.readings k d (omega (arith, l, other)))
  ];
  attained = elim (cases_lt offer least) [
    | inl l ↦ inr (r, c, omega (arith, l, e))
    | inr l ↦ elim h.attained [
      | inl own ↦ inl (omega (arith, l, own))
      | inr w ↦ inr (w.0, w.1, omega (arith, l, w.2))
    ]
  ];
}

pub least-all : (part : FragmentLists) (row : List Reading) (xs : List ℕ) (p least n : ℕ) → slice_index_or part.readings p [] ≡ row → n ≡ length row → LeastSoFar row xs p least n → IsLeastAt part xs p least
least-all part row xs p least n same all h = record {
  own = h.own;
  readings = λ r c.
      let d : Contains row r = subst (λ x. Contains x r) same c in
      let P : Reading → Type 0 = λ x. least ≤ slice_index xs x.place + x.weight in
      let l = d.1 in
      subst P d.2 (h.readings d.0 r (omega (arith, l, all)));
  attained = elim h.attained [
    | inl own ↦ inl own
    | inr w ↦ inr (w.0, subst (λ x. Contains x w.0) (sym same) w.1, w.2)
  ];
}

-- ---- one place

pub place-stays : (part : FragmentLists) (old : LocalValues) (p least : ℕ) → IsLeastAt part old.values p least → slice_index old.values p ≤ least → HasLoweredPlace part old old p false
place-stays part old p least h l = record {
  fallen = fallen-refl whole_weight part old;
  less = λ e. absurd (let x : false ≡ true = e in cc);
  stays = λ e. refl;
  held = λ e r c. omega (arith, l, h.readings r c);
}

pub place-falls : (part : FragmentLists) (old : LocalValues) (p least : ℕ) → FitsPart part old → RowsMatch part → p < length part.owned → IsLeastAt part old.values p least → least < slice_index old.values p → HasLoweredPlace part old (with_value old p least) p true
place-falls part old p least fits rows p_owned h l = record {
  fallen = record {
    places = length-set old.values p least;
    before = refl;
    counters = refl;
    below = λ v. elim (cases_eq v p) [
      | inl e ↦ omega (arith, ap (slice_index (with_value old p least).values) e, at_p, l, ap (slice_index old.values) e)
      | inr d ↦ omega (arith, elsewhere v d)
    ];
    mirrors = λ v far. elsewhere v (λ e. absurd (omega (arith, far, p_owned, e)));
    above = λ ys r low v. elim (cases_eq v p) [
      | inl e ↦ omega (arith, ap (slice_index (with_value old p least).values) e, at_p, ap (slice_index ys) e, under ys r low)
      | inr d ↦ omega (arith, elsewhere v d, low v)
    ];
  };
  less = λ e. let s = sum_by-set (λ n. n) old.values p least 0 p_in in omega (arith, s, l);
  stays = λ e. absurd (let x : true ≡ false = e in cc);
  held = λ e. absurd (let x : true ≡ false = e in cc);
}
  where
    p_in : p < length old.values
    p_in = let n = fits.places in omega (arith, n, p_owned)

    at_p : slice_index (with_value old p least).values p ≡ least
    at_p = get_or-set_same old.values p least 0 p_in

    elsewhere : (v : ℕ) → v ≢ p → slice_index (with_value old p least).values v ≡ slice_index old.values v
    elsewhere v d = get_or-set_other old.values p v least 0 d

    under : (ys : List ℕ) → HoldsAllReaders whole_weight part ys → LieBelow ys old.values → slice_index ys p ≤ least
    under ys r low = elim h.attained [
      | inl own ↦ omega (arith, low p, own)
      | inr w ↦
          let at = w.2 in
          let held = r w.0.place (rows.place p w.0 p_owned w.1) (record { place = p; weight = w.0.weight }) (rows.reader p w.0 p_owned w.1) in
          omega (arith, held, low w.0.place, at)
    ]

-- ---- a pass over the owned places

-- so far: a value fell, or nothing changed and the places so far are held by their readings
pub record PassedSoFar (part : FragmentLists) (start now : LocalValues) (fell : Bool) (n : ℕ) : Type 0 where
  pub fallen : HasFallen whole_weight part start now
  pub less : fell ≡ true → sum now.values < sum start.values
  pub stays : fell ≡ false → now ≡ start
  pub held : fell ≡ false → (p : ℕ) → p < n → HoldsReadings part now.values p

pub pass-first : (part : FragmentLists) (start : LocalValues) → PassedSoFar part start start false 0
pass-first part start = record {
  fallen = fallen-refl whole_weight part start;
  less = λ e. absurd (let x : false ≡ true = e in cc);
  stays = λ e. refl;
  held = λ e p l. absurd (omega (arith, l));
}

pub pass-more : (part : FragmentLists) (start old new : LocalValues) (fell now : Bool) (n : ℕ) → PassedSoFar part start old fell n → HasLoweredPlace part old new n now → PassedSoFar part start new (fell || now) (n + 1)
pass-more part start old new true now n h k = record {
  fallen = fallen-trans whole_weight part start old new h.fallen k.fallen;
  less = λ e. not_more now (h.less refl) k;
  stays = λ e. absurd (let x : true ≡ false = e in cc);
  held = λ e. absurd (let x : true ≡ false = e in cc);
}
  where
    not_more : (b : Bool) → sum old.values < sum start.values → HasLoweredPlace part old new n b → sum new.values < sum start.values
    not_more true l k = omega (arith, l, k.less refl)
    not_more false l k = omega (arith, l, ap (λ (x : LocalValues). sum x.values) (k.stays refl))
pass-more part start old new false true n h k = record {
  fallen = fallen-trans whole_weight part start old new h.fallen k.fallen;
  less = λ e. omega (arith, k.less refl, ap (λ (x : LocalValues). sum x.values) (h.stays refl));
  stays = λ e. absurd (let x : true ≡ false = e in cc);
  held = λ e. absurd (let x : true ≡ false = e in cc);
}
pass-more part start old new false false n h k = record {
  fallen = fallen-trans whole_weight part start old new h.fallen k.fallen;
  less = λ e. absurd (let x : false ≡ true = e in cc);
  stays = λ e. k.stays refl ∙ h.stays refl;
  held = λ e p l. elim (cases_eq p n) [
    | inl same ↦ subst (λ u. HoldsReadings part new.values u) (sym same) (k.held refl)
    | inr other ↦ subst (λ (x : LocalValues). HoldsReadings part x.values p) (sym (k.stays refl)) (h.held refl p (omega (arith, l, other)))
  ];
}

-- places that are held by their readings are relaxed
pub pass-all : (part : FragmentLists) (start now : LocalValues) (fell : Bool) (n : ℕ) → RowsMatch part → n ≡ length part.owned → PassedSoFar part start now fell n → HasPassed part start now fell
pass-all part start now fell n rows all h = record {
  fallen = h.fallen;
  less = h.less;
  relaxed = λ e q l r c.
      let inside = rows.owned q r l c in
      h.held e r.place (omega (arith, inside, all)) (record { place = q; weight = r.weight }) (rows.reading q r l c);
}

-- ---- the rows of a fragment of a job

module _ (job : Job) (is_job : IsJob job) (i : ℕ) (in_job : i < job.settings.fragments) where
  abbrev whole : FragmentLists
  whole = fragment_of job i

  places-length : length (places_of job i) ≡ place_count whole
  places-length = length-append (owned_of job i) (mirrors_of job i)

  pub fragment-rows : RowsMatch whole
  fragment-rows = record {
    place = λ p r l c.
        let k = (from_readings_row job i is_job in_job p r l c).at.0 in
        omega (arith, k, places-length);
    reader = λ p r l c. in_readers_row job i is_job in_job p r.place r.weight (from_readings_row job i is_job in_job p r l c);
    owned = λ q r l c. (from_readers_row job i is_job in_job q r (omega (arith, l, places-length)) c).stands.0;
    reading = λ q r l c. in_readings_row job i is_job in_job r.place q r.weight (from_readers_row job i is_job in_job q r (omega (arith, l, places-length)) c);
  }

pub ready-rows : (job : Job) → IsDistJob job → (part : FragmentLists) (local : LocalValues) (n : ℕ) → IsReadyFor (equations_of job) job part local n → RowsMatch part
ready-rows job is_for part local n ready = subst (λ p. RowsMatch p) (sym ready.is_part) (fragment-rows job is_for.0 part.number ready.number)
