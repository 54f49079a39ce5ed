-- A tree of the nearest.
use Rattle.std.proofs.Common.{◌≡◌, refl, sym, ◌∙◌, ap, subst, ℕ, zero, suc, ◌+◌, ◌-◌, ◌*◌, ◌/◌, ◌%◌, ◌<◌, ◌≤◌, ◌≢◌, ◌⊎◌, inl, inr, min, Bool, true, false, ◌==◌, nat_lt, if◌then◌else◌, arith, List, [], ◌∷◌, length, map, replicate, get_or, set, slice_index, slice_index_or, slice_set, Option, Some, None, length-set, get_or-set_same, get_or-set_other}
use Rattle.std.proofs.Math.Nat.{eq-or-lt_of_le}
use Rattle.std.proofs.lemmas.Bool.{cases_lt, ltb-true, ltb-false, eq-eqb, eqb-true}
use Rattle.std.proofs.lemmas.Option.{none-some, same_Some}
use Rattle.std.proofs.lemmas.List.{get_or_past, length-map, same_lists, get_or-map, get_or-replicate, length-replicate}
use Rattle.std.proofs.lemmas.List.FromFn.{get_or-range_with_len, length-range_with_len}
use Rattle.graph_core.specs.Fragments.{numbers_below}
use Rattle.pie_dist.specs.NearHeaps.{lesser_key, lowered, IsNearest, IsPopped, node, key_of, nearer, IsRight, IsHeap, key_at, heap_of, halved, Above, HasLeaf, IsRefreshed}

-- ---- numbers

same_or_not : (i j : ℕ) → (i ≡ j) ⊎ (i ≢ j)
same_or_not zero zero = inl refl
same_or_not zero (suc j) = inr (λ e. absurd (omega arith))
same_or_not (suc i) zero = inr (λ e. absurd (omega arith))
same_or_not (suc i) (suc j) = elim (same_or_not i j) [ inl e ↦ inl (ap suc e) | inr ne ↦ inr (λ e. ne (omega arith)) ]

differ : (a b : ℕ) → a ≢ b → (a == b) ≡ false
differ a b h = grind arith

half_zero : (t : ℕ) → halved t 0 ≡ 0
half_zero zero = refl
half_zero (suc t) = half_zero t

none_above : (j i : ℕ) → i ≤ 1 → Above j i → j ≡ 0
none_above j i h (t, e) = let half : i / 2 ≡ 0 = omega arith in e ∙ ap (halved t) half ∙ half_zero t

above_parent : (j i : ℕ) → j ≡ i / 2 → Above j i
above_parent j i e = (0, e)

above_further : (j i : ℕ) → Above j (i / 2) → Above j i
above_further j i (t, e) = (suc t, e)

above_cases : (j i : ℕ) → Above j i → (j ≡ i / 2) ⊎ Above j (i / 2)
above_cases j i (zero, e) = inl e
above_cases j i (suc t, e) = inr (t, e)

halved_top : (t i : ℕ) → halved t i / 2 ≡ halved t (i / 2)
halved_top zero i = refl
halved_top (suc t) i = halved_top t (i / 2)

above_top : (j i : ℕ) → Above j i → Above (j / 2) i
above_top j i (t, e) = (suc t, ap (λ n. n / 2) e ∙ halved_top (suc t) i)

-- ---- the nearer

-- by the keys of both
abbrev nearer_by : ℕ → ℕ → ℕ → ℕ → ℕ
nearer_by a b ka kb = if a == 0 then b else (if b == 0 then a else (if nat_lt kb ka then b else (if nat_lt ka kb then a else min a b)))

nearer_same : (n : ℕ) (rows new : List ℕ) (a b : ℕ) → key_of n new a ≡ key_of n rows a → key_of n new b ≡ key_of n rows b → nearer n new a b ≡ nearer n rows a b
nearer_same n rows new a b first second = ap (λ k. nearer_by a b k (key_of n new b)) first ∙ ap (λ k. nearer_by a b (key_of n rows a) k) second

-- one of the two
one_of : (s t u v : Bool) (a b : ℕ) → ((if s then b else (if t then a else (if u then b else (if v then a else min a b)))) ≡ a) ⊎ ((if s then b else (if t then a else (if u then b else (if v then a else min a b)))) ≡ b)
one_of true t u v a b = inr refl
one_of false true u v a b = inl refl
one_of false false true v a b = inr refl
one_of false false false true a b = inl refl
one_of false false false false a b = elim (cases_lt a b) [ inl lt ↦ inl (omega arith) | inr ge ↦ inr (omega arith) ]

nearer_one : (n : ℕ) (rows : List ℕ) (a b : ℕ) → (nearer n rows a b ≡ a) ⊎ (nearer n rows a b ≡ b)
nearer_one n rows a b = one_of (a == 0) (b == 0) (nat_lt (key_of n rows b) (key_of n rows a)) (nat_lt (key_of n rows a) (key_of n rows b)) a b

nearer_small : (n : ℕ) (rows : List ℕ) (a b : ℕ) → a ≤ n → b ≤ n → nearer n rows a b ≤ n
nearer_small n rows a b h k = elim (nearer_one n rows a b) [ inl e ↦ omega (arith, e) | inr e ↦ omega (arith, e) ]

-- ---- a node is written

right_there : (n : ℕ) (rows new : List ℕ) (j : ℕ) → IsRight n rows j → slice_index new j ≡ slice_index rows j → slice_index new (2 * j) ≡ slice_index rows (2 * j) → slice_index new (2 * j + 1) ≡ slice_index rows (2 * j + 1)
    → ((a : ℕ) → key_of n new a ≡ key_of n rows a) → IsRight n new j
right_there n rows new j right at left next keys =
    at ∙ right ∙ sym (ap (λ x. nearer n new x (slice_index new (2 * j + 1))) left ∙ ap (λ x. nearer n new (slice_index rows (2 * j)) x) next
    ∙ nearer_same n rows new (slice_index rows (2 * j)) (slice_index rows (2 * j + 1)) (keys (slice_index rows (2 * j))) (keys (slice_index rows (2 * j + 1))))

right_here : (n : ℕ) (rows new : List ℕ) (m j name : ℕ) → j ≡ m → slice_index new m ≡ name → name ≡ nearer n rows (slice_index rows (2 * m)) (slice_index rows (2 * m + 1))
    → slice_index new (2 * m) ≡ slice_index rows (2 * m) → slice_index new (2 * m + 1) ≡ slice_index rows (2 * m + 1) → ((a : ℕ) → key_of n new a ≡ key_of n rows a) → IsRight n new j
right_here n rows new m j name e at is left next keys =
    subst (λ x. IsRight n new x) (sym e) (at ∙ is ∙ sym (ap (λ x. nearer n new x (slice_index new (2 * m + 1))) left ∙ ap (λ x. nearer n new (slice_index rows (2 * m)) x) next
    ∙ nearer_same n rows new (slice_index rows (2 * m)) (slice_index rows (2 * m + 1)) (keys (slice_index rows (2 * m))) (keys (slice_index rows (2 * m + 1)))))

-- one step of a refresh: the node above is written from the two below it
pub written : (n i : ℕ) (rows start : List ℕ) (name : ℕ) → 1 < i → HasLeaf n i rows → ((j : ℕ) → n ≤ j → slice_index rows j ≡ slice_index start j)
    → name ≡ nearer n rows (slice_index rows (2 * (i / 2))) (slice_index rows (2 * (i / 2) + 1))
    → HasLeaf n (i / 2) (slice_set rows (i / 2) name) × ((j : ℕ) → n ≤ j → slice_index (slice_set rows (i / 2) name) j ≡ slice_index start j)
written n i rows start name big leaf kept is =
    let m = i / 2 in
    let new = slice_set rows m name in
    let low : m < n = omega (arith, leaf.within) in
    let some : 1 ≤ m = omega arith in
    let inside : m < length rows = omega (arith, leaf.long) in
    let other : (j : ℕ) → j ≢ m → slice_index new j ≡ slice_index rows j = λ j ne. get_or-set_other rows m j name 0 ne in
    let same : slice_index new m ≡ name = get_or-set_same rows m name 0 inside in
    let keys : (a : ℕ) → key_of n new a ≡ key_of n rows a = λ a. other (2 * n + (a - 1)) (omega arith) in
    let tiny : name ≤ n = subst (λ x. x ≤ n) (sym is) (nearer_small n rows (slice_index rows (2 * m)) (slice_index rows (2 * m + 1)) (leaf.small (2 * m) (omega (arith, leaf.within))) (leaf.small (2 * m + 1) (omega (arith, leaf.within)))) in (
      record {
        long = omega (arith, leaf.long, length-set rows m name);
        small = λ j h. elim (same_or_not j m) [
          | inl e ↦ let at : slice_index new j ≡ name = ap (slice_index new) e ∙ same in omega arith
          | inr ne ↦ let at = other j ne in let old = leaf.small j h in omega (arith, at, old)
        ];
        leaves = λ p h.
            let at : slice_index new (n + p) ≡ slice_index rows (n + p) = other (n + p) (omega arith) in
            elim (leaf.leaves p h) [ inl none ↦ inl (at ∙ none) | inr is_in ↦ inr (at ∙ is_in) ];
        right = λ j one h. elim (same_or_not j m) [
          | inl e ↦ inl (right_here n rows new m j name e same is (other (2 * m) (omega arith)) (other (2 * m + 1) (omega arith)) keys)
          | inr ne ↦ elim (same_or_not j (m / 2)) [
            | inl up ↦ inr (above_parent j m up)
            | inr apart ↦ elim (leaf.right j one h) [
              | inl right ↦ inl (right_there n rows new j right (other j ne) (other (2 * j) (omega arith)) (other (2 * j + 1) (omega arith)) keys)
              | inr above ↦ elim (above_cases j i above) [ inl e ↦ absurd (ne e) | inr further ↦ inr further ]
            ]
          ]
        ];
        within = omega arith;
      },
      λ j h. other j (omega arith) ∙ kept j h,
    )

pub is_whole : (n i : ℕ) (rows : List ℕ) → i ≤ 1 → HasLeaf n i rows → IsHeap n rows
is_whole n i rows low leaf = record {
  long = leaf.long;
  small = leaf.small;
  leaves = leaf.leaves;
  right = λ j one h. elim (leaf.right j one h) [ inl right ↦ right | inr above ↦ let none = none_above j i low above in absurd (omega arith) ];
}

-- ---- what the rows hold

pub heap_is : (n : ℕ) (rows : List ℕ) (keys : List (Option ℕ)) → length keys ≡ n → ((p : ℕ) (d : Option ℕ) → p < n → key_at n rows p ≡ get_or keys p d) → heap_of n rows ≡ keys
heap_is n rows keys long each =
    let f = key_at n rows in
    let many : length (map f (numbers_below n)) ≡ n = length-map (numbers_below n) f ∙ length-range_with_len 0 n in
    same_lists (map f (numbers_below n)) keys (many ∙ sym long) (λ k d h.
    let low : k < n = omega arith in
    let in_row : k < length (numbers_below n) = omega (arith, length-range_with_len 0 n) in
    let at : 0 + k ≡ k = omega arith in
    get_or-map f (numbers_below n) k 0 d in_row ∙ ap f (get_or-range_with_len 0 n k 0 low ∙ at) ∙ each k d low)

pub heap_at : (n : ℕ) (rows : List ℕ) (p : ℕ) (d : Option ℕ) → p < n → get_or (heap_of n rows) p d ≡ key_at n rows p
heap_at n rows p d h =
    let f = key_at n rows in
    let in_row : p < length (numbers_below n) = omega (arith, length-range_with_len 0 n) in
    let at : 0 + p ≡ p = omega arith in
    get_or-map f (numbers_below n) p 0 d in_row ∙ ap f (get_or-range_with_len 0 n p 0 h ∙ at)

pub length-heap : (n : ℕ) (rows : List ℕ) → length (heap_of n rows) ≡ n
length-heap n rows = length-map (numbers_below n) (key_at n rows) ∙ length-range_with_len 0 n

if_none : (name key : ℕ) → name ≡ 0 → (if name == 0 then None else Some key) ≡ None
if_none zero key h = refl
if_none (suc name) key h = absurd (omega arith)

if_some : (name key : ℕ) → name ≢ 0 → (if name == 0 then None else Some key) ≡ Some key
if_some zero key h = absurd (h refl)
if_some (suc name) key h = ap (λ t. if t then None else Some key) (differ (suc name) 0 h)

pub key_none : (n : ℕ) (rows : List ℕ) (p : ℕ) → node rows (n + p) ≡ 0 → key_at n rows p ≡ None
key_none n rows p h = if_none (node rows (n + p)) (slice_index rows (2 * n + p)) h

pub key_some : (n : ℕ) (rows : List ℕ) (p : ℕ) → node rows (n + p) ≢ 0 → key_at n rows p ≡ Some (slice_index rows (2 * n + p))
key_some n rows p h = if_some (node rows (n + p)) (slice_index rows (2 * n + p)) h

key_same : (n : ℕ) (rows new : List ℕ) (p : ℕ) → node new (n + p) ≡ node rows (n + p) → slice_index new (2 * n + p) ≡ slice_index rows (2 * n + p) → key_at n new p ≡ key_at n rows p
key_same n rows new p name key =
    ap (λ x. if x == 0 then None else Some (slice_index new (2 * n + p))) name ∙ ap (λ x. if node rows (n + p) == 0 then None else Some x) key

pub cleared : (n : ℕ) (rows : List ℕ) → ((j : ℕ) → j < 2 * n → slice_index rows j ≡ 0) → heap_of n rows ≡ replicate n None
cleared n rows zeros = heap_is n rows (replicate n None) (length-replicate n None) (λ p d h. key_none n rows p (zeros (n + p) (omega arith)) ∙ sym (get_or-replicate n p None d h))

-- ---- a key is lowered

abbrev pub lowered_rows : ℕ → ℕ → ℕ → List ℕ → List ℕ
lowered_rows n place least rows = slice_set (slice_set rows (2 * n + place) least) (n + place) (place + 1)

in_lowered : (n place least : ℕ) (rows : List ℕ) (j : ℕ) → j ≢ n + place → j ≢ 2 * n + place → slice_index (lowered_rows n place least rows) j ≡ slice_index rows j
in_lowered n place least rows j leaf key =
    get_or-set_other (slice_set rows (2 * n + place) least) (n + place) j (place + 1) 0 leaf ∙ get_or-set_other rows (2 * n + place) j least 0 key

leaf_lowered : (n place least : ℕ) (rows : List ℕ) → place < n → 3 * n + 1 ≤ length rows → slice_index (lowered_rows n place least rows) (n + place) ≡ place + 1
leaf_lowered n place least rows h long = get_or-set_same (slice_set rows (2 * n + place) least) (n + place) (place + 1) 0 (omega (arith, length-set rows (2 * n + place) least))

key_lowered : (n place least : ℕ) (rows : List ℕ) → place < n → 3 * n + 1 ≤ length rows → slice_index (lowered_rows n place least rows) (2 * n + place) ≡ least
key_lowered n place least rows h long =
    let apart : 2 * n + place ≢ n + place = omega arith in
    get_or-set_other (slice_set rows (2 * n + place) least) (n + place) (2 * n + place) (place + 1) 0 apart ∙ get_or-set_same rows (2 * n + place) least 0 (omega arith)

pub lower_heap : (n place key least : ℕ) (rows new : List ℕ) → IsHeap n rows → place < n → least ≡ lesser_key (key_at n rows place) key
    → ((j : ℕ) → n ≤ j → slice_index new j ≡ slice_index (lowered_rows n place least rows) j) → heap_of n new ≡ lowered (heap_of n rows) place key
lower_heap n place key least rows new heap h is kept =
    let set_key = Some (lesser_key (slice_index_or (heap_of n rows) place None) key) in
    let keys = slice_set (heap_of n rows) place set_key in
    let many : length keys ≡ n = length-set (heap_of n rows) place set_key ∙ length-heap n rows in
    heap_is n new keys many (λ p d low. elim (same_or_not p place) [
      | inl e ↦
          let name : node new (n + place) ≡ place + 1 = kept (n + place) (omega arith) ∙ leaf_lowered n place least rows h heap.long in
          let value : slice_index new (2 * n + place) ≡ least = kept (2 * n + place) (omega arith) ∙ key_lowered n place least rows h heap.long in
          let in_heap : node new (n + place) ≢ 0 = omega arith in
          ap (key_at n new) e ∙ key_some n new place in_heap ∙ ap Some (value ∙ is ∙ ap (λ o. lesser_key o key) (sym (heap_at n rows place None h)))
          ∙ sym (get_or-set_same (heap_of n rows) place set_key d (omega (arith, length-heap n rows))) ∙ ap (λ x. get_or keys x d) (sym e)
      | inr ne ↦
          key_same n rows new p
          (kept (n + p) (omega arith) ∙ in_lowered n place least rows (n + p) (omega arith) (omega arith))
          (kept (2 * n + p) (omega arith) ∙ in_lowered n place least rows (2 * n + p) (omega arith) (omega arith))
          ∙ sym (heap_at n rows p d low) ∙ sym (get_or-set_other (heap_of n rows) place p set_key d ne)
    ])

-- ---- names stand below

abbrev Names : ℕ → List ℕ → ℕ → Type 0
Names n rows j = (node rows j ≡ 0) ⊎ ((q : ℕ) × (node rows j ≡ q + 1) × (q < n) × (node rows (n + q) ≡ q + 1) × ((j ≡ n + q) ⊎ Above j (n + q)))

-- what a node names stands below it
below_up : (n : ℕ) (rows : List ℕ) (j c : ℕ) → node rows j ≡ node rows c → j ≡ c / 2 → Names n rows c → Names n rows j
below_up n rows j c same up (inl none) = inl (same ∙ none)
below_up n rows j c same up (inr (q, is, low, is_in, inl here)) = inr (q, same ∙ is, low, is_in, inr (above_parent j (n + q) (up ∙ ap (λ x. x / 2) here)))
below_up n rows j c same up (inr (q, is, low, is_in, inr above)) = inr (q, same ∙ is, low, is_in, inr (subst (λ x. Above x (n + q)) (sym up) (above_top c (n + q) above)))

names : (n : ℕ) (rows : List ℕ) → IsHeap n rows → (fuel j : ℕ) → 2 * n ≤ j + fuel → 1 ≤ j → j < 2 * n → Names n rows j
names n rows heap zero j much one low = absurd (omega arith)
names n rows heap (suc fuel) j much one low = elim (cases_lt j n) [
  | inl inner ↦ elim (nearer_one n rows (node rows (2 * j)) (node rows (2 * j + 1))) [
    | inl e ↦ below_up n rows j (2 * j) (heap.right j one inner ∙ e) (omega arith) (names n rows heap fuel (2 * j) (omega arith) (omega arith) (omega arith))
    | inr e ↦ below_up n rows j (2 * j + 1) (heap.right j one inner ∙ e) (omega arith) (names n rows heap fuel (2 * j + 1) (omega arith) (omega arith) (omega arith))
  ]
  | inr leaf ↦
      let q = j - n in
      let at : n + q ≡ j = omega arith in
      elim (heap.leaves q (omega arith)) [
        | inl none ↦ inl (ap (node rows) (sym at) ∙ none)
        | inr is ↦ inr (q, ap (node rows) (sym at) ∙ is, omega arith, is, inl (sym at))
      ]
]

-- a child that names a place stands above its leaf, or is it
named_above : (n : ℕ) (rows : List ℕ) (j c place : ℕ) → IsHeap n rows → 1 ≤ j → j < n → j ≡ c / 2 → 1 ≤ c → c < 2 * n → node rows c ≡ place + 1 → Above j (n + place)
named_above n rows j c place heap one inner up some low is = go (names n rows heap (2 * n) c (omega arith) some low)
  where
    go : Names n rows c → Above j (n + place)
    go (inl none) = absurd (omega arith)
    go (inr (q, named, q_low, is_in, inl here)) = let same : q ≡ place = omega arith in subst (λ x. Above j (n + x)) same (above_parent j (n + q) (up ∙ ap (λ x. x / 2) here))
    go (inr (q, named, q_low, is_in, inr above)) = let same : q ≡ place = omega arith in subst (λ x. Above j (n + x)) same (subst (λ x. Above x (n + q)) (sym up) (above_top c (n + q) above))

nearer_none : (n : ℕ) (rows : List ℕ) (a b : ℕ) → a ≡ 0 → nearer n rows a b ≡ b
nearer_none n rows zero b h = refl
nearer_none n rows (suc a) b h = absurd (omega arith)

nearer_other : (n : ℕ) (rows : List ℕ) (a b : ℕ) → a ≢ 0 → b ≡ 0 → nearer n rows a b ≡ a
nearer_other n rows zero b h k = absurd (h refl)
nearer_other n rows (suc a) zero h k = ap (λ t. if t then 0 else suc a) (differ (suc a) 0 h)
nearer_other n rows (suc a) (suc b) h k = absurd (omega arith)

nearer_kept : (n : ℕ) (rows new : List ℕ) (a b : ℕ) → (a ≢ 0 → key_of n new a ≡ key_of n rows a) → (b ≢ 0 → key_of n new b ≡ key_of n rows b) → nearer n new a b ≡ nearer n rows a b
nearer_kept n rows new a b first second = elim (same_or_not a 0) [
  | inl none ↦ nearer_none n new a b none ∙ sym (nearer_none n rows a b none)
  | inr some ↦ elim (same_or_not b 0) [
    | inl none ↦ nearer_other n new a b some none ∙ sym (nearer_other n rows a b some none)
    | inr other ↦ nearer_same n rows new a b (first some) (second other)
  ]
]

pub lower_leaf : (n place least : ℕ) (rows : List ℕ) → IsHeap n rows → place < n → HasLeaf n (n + place) (lowered_rows n place least rows)
lower_leaf n place least rows heap h =
    let new = lowered_rows n place least rows in
    let leaf_is = leaf_lowered n place least rows h heap.long in
    record {
      long = omega (arith, heap.long, length-set (slice_set rows (2 * n + place) least) (n + place) (place + 1), length-set rows (2 * n + place) least);
      small = λ j low. elim (same_or_not j (n + place)) [
        | inl e ↦ let at : slice_index new j ≡ place + 1 = ap (slice_index new) e ∙ leaf_is in omega arith
        | inr ne ↦ let at = in_lowered n place least rows j ne (omega arith) in let old = heap.small j low in omega (arith, at, old)
      ];
      leaves = λ p low. elim (same_or_not p place) [
        | inl e ↦ inr (ap (λ x. slice_index new (n + x)) e ∙ leaf_is ∙ ap (λ x. x + 1) (sym e))
        | inr ne ↦
            let at = in_lowered n place least rows (n + p) (omega arith) (omega arith) in
            elim (heap.leaves p low) [ inl none ↦ inl (at ∙ none) | inr is ↦ inr (at ∙ is) ]
      ];
      right = λ j one inner. elim (same_or_not j ((n + place) / 2)) [
        | inl up ↦ inr (above_parent j (n + place) up)
        | inr apart ↦ elim (same_or_not (node rows (2 * j)) (place + 1)) [
          | inl is ↦ inr (named_above n rows j (2 * j) place heap one inner (omega arith) (omega arith) (omega arith) is)
          | inr left ↦ elim (same_or_not (node rows (2 * j + 1)) (place + 1)) [
            | inl is ↦ inr (named_above n rows j (2 * j + 1) place heap one inner (omega arith) (omega arith) (omega arith) is)
            | inr next ↦
                let a = node rows (2 * j) in
                let b = node rows (2 * j + 1) in
                let first : a ≢ 0 → key_of n new a ≡ key_of n rows a = λ some. in_lowered n place least rows (2 * n + (a - 1)) (omega arith) (omega arith) in
                let second : b ≢ 0 → key_of n new b ≡ key_of n rows b = λ some. in_lowered n place least rows (2 * n + (b - 1)) (omega arith) (omega arith) in
                inl (in_lowered n place least rows j (omega arith) (omega arith) ∙ heap.right j one inner
                ∙ sym (ap (λ x. nearer n new x (slice_index new (2 * j + 1))) (in_lowered n place least rows (2 * j) (omega arith) (omega arith))
                ∙ ap (λ x. nearer n new a x) (in_lowered n place least rows (2 * j + 1) (omega arith) (omega arith))
                ∙ nearer_kept n rows new a b first second))
          ]
        ]
      ];
      within = omega arith;
    }

-- ---- the nearest comes off

pub pop_leaf : (n place : ℕ) (rows : List ℕ) → IsHeap n rows → place < n → HasLeaf n (n + place) (slice_set rows (n + place) 0)
pop_leaf n place rows heap h =
    let new = slice_set rows (n + place) 0 in
    let other : (j : ℕ) → j ≢ n + place → slice_index new j ≡ slice_index rows j = λ j ne. get_or-set_other rows (n + place) j 0 0 ne in
    let here : slice_index new (n + place) ≡ 0 = get_or-set_same rows (n + place) 0 0 (omega (arith, heap.long)) in
    record {
      long = omega (arith, heap.long, length-set rows (n + place) 0);
      small = λ j low. elim (same_or_not j (n + place)) [
        | inl e ↦ let at : slice_index new j ≡ 0 = ap (slice_index new) e ∙ here in omega arith
        | inr ne ↦ let at = other j ne in let old = heap.small j low in omega (arith, at, old)
      ];
      leaves = λ p low. elim (same_or_not p place) [
        | inl e ↦ inl (ap (λ x. slice_index new (n + x)) e ∙ here)
        | inr ne ↦ let at = other (n + p) (omega arith) in elim (heap.leaves p low) [ inl none ↦ inl (at ∙ none) | inr is ↦ inr (at ∙ is) ]
      ];
      right = λ j one inner. elim (same_or_not j ((n + place) / 2)) [
        | inl up ↦ inr (above_parent j (n + place) up)
        | inr apart ↦ inl (right_there n rows new j (heap.right j one inner) (other j (omega arith)) (other (2 * j) (omega arith)) (other (2 * j + 1) (omega arith)) (λ a. other (2 * n + (a - 1)) (omega arith)))
      ];
      within = omega arith;
    }

pub pop_heap : (n place : ℕ) (rows new : List ℕ) → IsHeap n rows → place < n → ((j : ℕ) → n ≤ j → slice_index new j ≡ slice_index (slice_set rows (n + place) 0) j) → heap_of n new ≡ slice_set (heap_of n rows) place None
pop_heap n place rows new heap h kept =
    let keys = slice_set (heap_of n rows) place None in
    let other : (j : ℕ) → j ≢ n + place → slice_index (slice_set rows (n + place) 0) j ≡ slice_index rows j = λ j ne. get_or-set_other rows (n + place) j 0 0 ne in
    let here : slice_index (slice_set rows (n + place) 0) (n + place) ≡ 0 = get_or-set_same rows (n + place) 0 0 (omega (arith, heap.long)) in
    heap_is n new keys (length-set (heap_of n rows) place None ∙ length-heap n rows) (λ p d low. elim (same_or_not p place) [
      | inl e ↦
          ap (key_at n new) e ∙ key_none n new place (kept (n + place) (omega arith) ∙ here)
          ∙ sym (get_or-set_same (heap_of n rows) place None d (omega (arith, length-heap n rows))) ∙ ap (λ x. get_or keys x d) (sym e)
      | inr ne ↦
          key_same n rows new p (kept (n + p) (omega arith) ∙ other (n + p) (omega arith)) (kept (2 * n + p) (omega arith) ∙ other (2 * n + p) (omega arith))
          ∙ sym (heap_at n rows p d low) ∙ sym (get_or-set_other (heap_of n rows) place p None d ne)
    ])

-- a is a name, and as near as b
record IsAsNear (n : ℕ) (rows : List ℕ) (a b : ℕ) : Type 0 where
  named : a ≢ 0
  near : (key_of n rows a < key_of n rows b) ⊎ ((key_of n rows a ≡ key_of n rows b) × (a ≤ b))

near_itself : (n : ℕ) (rows : List ℕ) (a : ℕ) → a ≢ 0 → IsAsNear n rows a a
near_itself n rows a h = record { named = h; near = inr (refl, omega arith) }

nearer_still : (n : ℕ) (rows : List ℕ) (a b c : ℕ) → IsAsNear n rows a b → IsAsNear n rows b c → IsAsNear n rows a c
nearer_still n rows a b c f g = record {
  named = f.named;
  near = elim f.near [
    | inl less ↦ elim g.near [ inl more ↦ inl (omega arith) | inr (same, le) ↦ inl (omega arith) ]
    | inr (same, le) ↦ elim g.near [ inl more ↦ inl (omega arith) | inr (equal, more) ↦ inr (same ∙ equal, omega arith) ]
  ];
}

-- the nearer of two is as near as both
nearer_is : (n : ℕ) (rows : List ℕ) (a b : ℕ) (u v : Bool) → nat_lt (key_of n rows b) (key_of n rows a) ≡ u → nat_lt (key_of n rows a) (key_of n rows b) ≡ v → a ≢ 0 → b ≢ 0
    → IsAsNear n rows (if u then b else (if v then a else min a b)) a × IsAsNear n rows (if u then b else (if v then a else min a b)) b
nearer_is n rows a b true v less more some other = let lt : key_of n rows b < key_of n rows a = ltb-true (key_of n rows b) (key_of n rows a) less in (record { named = other; near = inl lt }, near_itself n rows b other)
nearer_is n rows a b false true less more some other = let lt : key_of n rows a < key_of n rows b = ltb-true (key_of n rows a) (key_of n rows b) more in (near_itself n rows a some, record { named = some; near = inl lt })
nearer_is n rows a b false false less more some other =
    let le : key_of n rows a ≤ key_of n rows b = ltb-false (key_of n rows b) (key_of n rows a) less in
    let ge : key_of n rows b ≤ key_of n rows a = ltb-false (key_of n rows a) (key_of n rows b) more in
    let same : key_of n rows a ≡ key_of n rows b = omega arith in
    elim (cases_lt a b) [
      | inl lt ↦
          let is : a ≡ min a b = omega arith in
          subst (λ x. IsAsNear n rows x a × IsAsNear n rows x b) is (near_itself n rows a some, record { named = some; near = inr (same, omega arith) })
      | inr at_least ↦
          let is : b ≡ min a b = omega arith in
          subst (λ x. IsAsNear n rows x a × IsAsNear n rows x b) is (record { named = other; near = inr (sym same, omega arith) }, near_itself n rows b other)
    ]

nearer_two : (n : ℕ) (rows : List ℕ) (a b : ℕ) → a ≢ 0 → b ≢ 0 → nearer n rows a b ≡ (if nat_lt (key_of n rows b) (key_of n rows a) then b else (if nat_lt (key_of n rows a) (key_of n rows b) then a else min a b))
nearer_two n rows a b some other =
    let rest = if nat_lt (key_of n rows b) (key_of n rows a) then b else (if nat_lt (key_of n rows a) (key_of n rows b) then a else min a b) in
    ap (λ t. if t then b else (if b == 0 then a else rest)) (differ a 0 some) ∙ ap (λ t. if t then a else rest) (differ b 0 other)

nearer_left : (n : ℕ) (rows : List ℕ) (a b : ℕ) → a ≢ 0 → IsAsNear n rows (nearer n rows a b) a
nearer_left n rows a b some = elim (same_or_not b 0) [
  | inl none ↦ subst (λ x. IsAsNear n rows x a) (sym (nearer_other n rows a b some none)) (near_itself n rows a some)
  | inr other ↦ subst (λ x. IsAsNear n rows x a) (sym (nearer_two n rows a b some other)) ((nearer_is n rows a b _ _ refl refl some other).0)
]

nearer_right : (n : ℕ) (rows : List ℕ) (a b : ℕ) → b ≢ 0 → IsAsNear n rows (nearer n rows a b) b
nearer_right n rows a b other = elim (same_or_not a 0) [
  | inl none ↦ subst (λ x. IsAsNear n rows x b) (sym (nearer_none n rows a b none)) (near_itself n rows b other)
  | inr some ↦ subst (λ x. IsAsNear n rows x b) (sym (nearer_two n rows a b some other)) ((nearer_is n rows a b _ _ refl refl some other).1)
]

-- the node above is as near
parent_near : (n : ℕ) (rows : List ℕ) (j : ℕ) → IsHeap n rows → 2 ≤ j → j < 2 * n → node rows j ≢ 0 → IsAsNear n rows (node rows (j / 2)) (node rows j)
parent_near n rows j heap two low some =
    let m = j / 2 in
    let right = heap.right m (omega arith) (omega arith) in
    elim (same_or_not j (2 * m)) [
      | inl e ↦
          let at : node rows j ≡ node rows (2 * m) = ap (node rows) e in
          subst (λ x. IsAsNear n rows (node rows m) x) (sym at) (subst (λ x. IsAsNear n rows x (node rows (2 * m))) (sym right) (nearer_left n rows (node rows (2 * m)) (node rows (2 * m + 1)) (λ none. some (at ∙ none))))
      | inr ne ↦
          let e : j ≡ 2 * m + 1 = omega arith in
          let at : node rows j ≡ node rows (2 * m + 1) = ap (node rows) e in
          subst (λ x. IsAsNear n rows (node rows m) x) (sym at) (subst (λ x. IsAsNear n rows x (node rows (2 * m + 1))) (sym right) (nearer_right n rows (node rows (2 * m)) (node rows (2 * m + 1)) (λ none. some (at ∙ none))))
    ]

root_near : (n : ℕ) (rows : List ℕ) → IsHeap n rows → (fuel j : ℕ) → j ≤ fuel → 1 ≤ j → j < 2 * n → node rows j ≢ 0 → IsAsNear n rows (node rows 1) (node rows j)
root_near n rows heap zero j few one low some = absurd (omega arith)
root_near n rows heap (suc fuel) j few one low some = elim (same_or_not j 1) [
  | inl e ↦ let at : node rows j ≡ node rows 1 = ap (node rows) e in subst (λ x. IsAsNear n rows (node rows 1) x) (sym at) (near_itself n rows (node rows 1) (λ none. some (at ∙ none)))
  | inr ne ↦
      let up = parent_near n rows j heap (omega arith) low some in
      nearer_still n rows (node rows 1) (node rows (j / 2)) (node rows j) (root_near n rows heap fuel (j / 2) (omega arith) (omega arith) (omega arith) up.named) up
]

past_heap : (n : ℕ) (rows : List ℕ) (p : ℕ) → n ≤ p → slice_index_or (heap_of n rows) p None ≡ None
past_heap n rows p h = get_or_past (heap_of n rows) p None (omega (arith, length-heap n rows))

-- where the root names nothing, nothing is in
pub none_in : (n : ℕ) (rows : List ℕ) → IsHeap n rows → (n ≡ 0) ⊎ (node rows 1 ≡ 0) → (p : ℕ) → slice_index_or (heap_of n rows) p None ≡ None
none_in n rows heap none p = elim (cases_lt p n) [
  | inr past ↦ past_heap n rows p past
  | inl low ↦ heap_at n rows p None low ∙ elim (heap.leaves p low) [
    | inl free ↦ key_none n rows p free
    | inr is ↦ elim none [
      | inl empty ↦ absurd (omega arith)
      | inr root ↦
          let near = root_near n rows heap (n + p) (n + p) (omega arith) (omega arith) (omega arith) (λ e. absurd (omega arith)) in
          absurd (near.named root)
    ]
  ]
]

-- the root's place is in, below the number of places, and it is the nearest
pub root_place : (n : ℕ) (rows : List ℕ) → IsHeap n rows → n ≢ 0 → node rows 1 ≢ 0 → (node rows 1 - 1 < n) × (node rows (n + (node rows 1 - 1)) ≢ 0)
root_place n rows heap some root = elim (names n rows heap (2 * n) 1 (omega arith) (omega arith) (omega arith)) [
  | inl none ↦ absurd (root none)
  | inr (q, named, low, is_in, below) ↦
      let same : q ≡ node rows 1 - 1 = omega arith in
      (omega arith, λ none. let at : node rows (n + q) ≡ node rows (n + (node rows 1 - 1)) = ap (λ x. node rows (n + x)) same in absurd (omega arith))
]

pub root_nearest : (n : ℕ) (rows : List ℕ) → IsHeap n rows → n ≢ 0 → node rows 1 ≢ 0 → IsNearest (heap_of n rows) (node rows 1 - 1) (slice_index rows (2 * n + (node rows 1 - 1)))
root_nearest n rows heap some root =
    let at = root_place n rows heap some root in
    let place = node rows 1 - 1 in
    record {
      is_in = heap_at n rows place None at.0 ∙ key_some n rows place at.1;
      least = λ p k is. elim (cases_lt p n) [
        | inr past ↦ absurd (none-some k (sym (past_heap n rows p past) ∙ is))
        | inl low ↦ elim (heap.leaves p low) [
          | inl free ↦ absurd (none-some k (sym (heap_at n rows p None low ∙ key_none n rows p free) ∙ is))
          | inr named ↦
              let has : node rows (n + p) ≢ 0 = λ e. absurd (omega arith) in
              let key : slice_index rows (2 * n + p) ≡ k = same_Some _ k (sym (heap_at n rows p None low ∙ key_some n rows p has) ∙ is) in
              let near = root_near n rows heap (n + p) (n + p) (omega arith) (omega arith) (omega arith) has in
              let its : key_of n rows (node rows (n + p)) ≡ slice_index rows (2 * n + p) = ap (λ x. slice_index rows (2 * n + x)) (omega arith) in
              elim near.near [ inl less ↦ inl (omega arith) | inr (same, le) ↦ inr (same ∙ its ∙ key, omega arith) ]
        ]
      ];
    }
