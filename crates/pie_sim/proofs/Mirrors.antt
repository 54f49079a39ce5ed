-- Mirrors are lowered by a hand.
use Rattle.std.proofs.Common.{◌≡◌, ◌≢◌, ℕ, zero, suc, ◌+◌, ◌-◌, ◌<◌, ◌⊎◌, inl, inr, sym, ◌∙◌, refl, ap, subst, arith, List, [], ◌∷◌, ◌++◌, length, take, drop, slice_index, Contains, bit_and}
use Rattle.std.specs.Prelude.{slice_set}
use Rattle.std.proofs.lemmas.Bool.{cases_eq, cases_lt}
use Rattle.std.proofs.lemmas.Grind.{same_number_lists}
use Rattle.std.proofs.lemmas.List.{get_or-set_same, get_or-set_other, length-set, take_more}
use Rattle.std.proofs.lemmas.List.Elements.{Contains-append_left, Contains-append_right, Contains-append_cases}
use Rattle.value_order.specs.declared.TheConstants.{NOTHING}
use Rattle.value_order.specs.Order.{Below}
use Rattle.value_order.proofs.Orders.{meet-below_right}
use Rattle.graph_core.proofs.Lists.{contains_here, contains_later, contains_none, contains_cases}
use Rattle.message_buffer.specs.Hands.{AreMirrorsOf}
use Rattle.value_order.specs.declared.order.Order.TheVariants.{Mask}
use Rattle.graph_core.specs.Parts.{FragmentLists}
use Rattle.pie_core.specs.Locals.{LocalValues, FitsPart}
use Rattle.pie_core.specs.Solutions.{met, mirrors_lowered}

-- ---- what stands at a place

lowered-at_owned : (n : ℕ) (xs hand : List ℕ) (q : ℕ) → q < n → slice_index (take n xs ++ met Mask (drop n xs) hand) q ≡ slice_index xs q
lowered-at_owned zero xs hand q h = absurd (omega (arith, h))
lowered-at_owned (suc n) [] hand q h = refl
lowered-at_owned (suc n) (x ∷ xs) hand zero h = refl
lowered-at_owned (suc n) (x ∷ xs) hand (suc q) h = lowered-at_owned n xs hand q (omega (arith, h))

met-at : (xs hand : List ℕ) (m : ℕ) → m < length hand → m < length xs → slice_index (met Mask xs hand) m ≡ bit_and (slice_index xs m) (slice_index hand m)
met-at [] hand m h l = absurd (omega (arith, l))
met-at (x ∷ xs) [] m h l = absurd (omega (arith, h))
met-at (x ∷ xs) (a ∷ hand) zero h l = refl
met-at (x ∷ xs) (a ∷ hand) (suc m) h l = met-at xs hand m (omega (arith, h)) (omega (arith, l))

lowered-at_mirror : (n : ℕ) (xs hand : List ℕ) (m : ℕ) → m < length hand → n + m < length xs → slice_index (take n xs ++ met Mask (drop n xs) hand) (n + m) ≡ bit_and (slice_index xs (n + m)) (slice_index hand m)
lowered-at_mirror zero xs hand m h l =
    let e : 0 + m ≡ m = omega arith in
    ap (slice_index (met Mask xs hand)) e ∙ met-at xs hand m h (omega (arith, l)) ∙ ap (λ i. bit_and (slice_index xs i) (slice_index hand m)) (sym e)
lowered-at_mirror (suc n) [] hand m h l = absurd (omega (arith, l))
lowered-at_mirror (suc n) (x ∷ xs) hand m h l =
    let e : suc n + m ≡ suc (n + m) = omega arith in
    ap (slice_index (x ∷ (take n xs ++ met Mask (drop n xs) hand))) e ∙ lowered-at_mirror n xs hand m h (omega (arith, l)) ∙ ap (λ i. bit_and (slice_index (x ∷ xs) i) (slice_index hand m)) (sym e)

met-length : (xs hand : List ℕ) → length (met Mask xs hand) ≡ length xs
met-length [] hand = refl
met-length (x ∷ xs) [] = refl
met-length (x ∷ xs) (a ∷ hand) = ap suc (met-length xs hand)

pub lowered-length : (n : ℕ) (xs hand : List ℕ) → length (take n xs ++ met Mask (drop n xs) hand) ≡ length xs
lowered-length zero xs hand = met-length xs hand
lowered-length (suc n) [] hand = refl
lowered-length (suc n) (x ∷ xs) hand = ap suc (lowered-length n xs hand)

pub lowered-fits : (part : FragmentLists) (start now : LocalValues) (hand : List ℕ) → now.values ≡ mirrors_lowered Mask part.owned start.values hand → now.before ≡ start.before → FitsPart part start → FitsPart part now
lowered-fits part start now hand values before fits = record {
  few = fits.few;
  places = ap length values ∙ lowered-length (length part.owned) start.values hand ∙ fits.places;
  owned = ap length before ∙ fits.owned;
}

-- ---- mirror by mirror, as a list has them

in_or_not : (xs : List ℕ) (m : ℕ) → Contains xs m ⊎ (Contains xs m → ⊥)
in_or_not [] m = inr (λ c. contains_none m c)
in_or_not (x ∷ xs) m = elim (cases_eq x m) [
  | inl e ↦ inl (subst (λ k. Contains (x ∷ xs) k) e (contains_here x xs))
  | inr d ↦ elim (in_or_not xs m) [
    | inl c ↦ inl (contains_later x xs m c)
    | inr absent ↦ inr (λ c. elim (contains_cases x xs m c) [ inl e ↦ absurd (d e) | inr later ↦ absent later ])
  ]
]

-- The mirrors of a list are lowered by the hand, and all other places are as they were.
pub record AreMet (n : ℕ) (hand start now mirrors : List ℕ) : Type 0 where
  pub places : length now ≡ length start
  pub kept : (q : ℕ) → q < n → slice_index now q ≡ slice_index start q
  pub met : (m : ℕ) → Contains mirrors m → slice_index now (n + m) ≡ bit_and (slice_index start (n + m)) (slice_index hand m)
  pub left : (m : ℕ) → (Contains mirrors m → ⊥) → slice_index now (n + m) ≡ slice_index start (n + m)

pub met-none : (n : ℕ) (hand start : List ℕ) → AreMet n hand start start []
met-none n hand start = record { places = refl; kept = λ q l. refl; met = λ m c. contains_none m c; left = λ m absent. refl }

module _ (n : ℕ) (hand start now mirrors : List ℕ) (k : ℕ) (inside : k < length mirrors) (so_far : AreMet n hand start now (take k mirrors)) where
  abbrev mirror : ℕ
  mirror = slice_index mirrors k

  abbrev value : ℕ
  value = bit_and (slice_index now (n + mirror)) (slice_index hand mirror)

  -- once or again, the mirror is met with the hand's value
  value_is : value ≡ bit_and (slice_index start (n + mirror)) (slice_index hand mirror)
  value_is = elim (in_or_not (take k mirrors) mirror) [
    | inl c ↦
        let s = slice_index start (n + mirror) in
        let h = slice_index hand mirror in
        ap (λ x. bit_and x h) (so_far.met mirror c) ∙ meet-below_right Mask s h
    | inr absent ↦ ap (λ x. bit_and x (slice_index hand mirror)) (so_far.left mirror absent)
  ]

  more : take (k + 1) mirrors ≡ take k mirrors ++ mirror ∷ []
  more = take_more mirrors k 0 inside

  pub met-more : n + mirror < length start → AreMet n hand start (slice_set now (n + mirror) value) (take (k + 1) mirrors)
  met-more placed = record {
    places = length-set now (n + mirror) value ∙ so_far.places;
    kept = λ q l. get_or-set_other now (n + mirror) q value 0 (λ e. absurd (omega (arith, l, e))) ∙ so_far.kept q l;
    met = λ m c. elim (cases_eq m mirror) [
      | inl e ↦
          ap (λ i. slice_index (slice_set now (n + mirror) value) (n + i)) e
          ∙ get_or-set_same now (n + mirror) value 0 (omega (arith, placed, so_far.places))
          ∙ value_is
          ∙ sym (ap (λ i. bit_and (slice_index start (n + i)) (slice_index hand i)) e)
      | inr d ↦
          get_or-set_other now (n + mirror) (n + m) value 0 (λ e. absurd (omega (arith, d, e)))
          ∙ so_far.met m (elim (Contains-append_cases (take k mirrors) (mirror ∷ []) m (subst (λ ms. Contains ms m) more c)) [
            | inl before ↦ before
            | inr last ↦ elim (contains_cases mirror [] m last) [ inl e ↦ absurd (d (sym e)) | inr none ↦ contains_none m none ]
          ])
    ];
    left = λ m absent.
        let other : m ≢ mirror = λ e. absent (subst (λ ms. Contains ms m) (sym more) (Contains-append_right (take k mirrors) (mirror ∷ []) m (subst (λ i. Contains (mirror ∷ []) i) (sym e) (contains_here mirror [])))) in
        get_or-set_other now (n + mirror) (n + m) value 0 (λ e. absurd (omega (arith, other, e)))
        ∙ so_far.left m (λ c. absent (subst (λ ms. Contains ms m) (sym more) (Contains-append_left (take k mirrors) (mirror ∷ []) m c)));
  }

-- after all mirrors that have a value
pub met-all : (n : ℕ) (hand start now mirrors : List ℕ) → length start ≡ n + length hand → ((q : ℕ) → Below Mask (slice_index start q) NOTHING) → AreMirrorsOf hand mirrors → AreMet n hand start now mirrors →
    now ≡ take n start ++ met Mask (drop n start) hand
met-all n hand start now mirrors places values are all =
    same_number_lists now (take n start ++ met Mask (drop n start) hand) (omega (arith, all.places, lowered-length n start hand)) (λ q l. elim (cases_lt q n) [
      | inl low ↦ all.kept q low ∙ sym (lowered-at_owned n start hand q low)
      | inr high ↦
          let m = q - n in
          let e : q ≡ n + m = omega (arith, high) in
          let inside : m < length hand = omega (arith, l, all.places, places, e) in
          let placed : n + m < length start = omega (arith, inside, places) in
          ap (slice_index now) e ∙ at_mirror m inside ∙ sym (ap (slice_index (take n start ++ met Mask (drop n start) hand)) e ∙ lowered-at_mirror n start hand m inside placed)
    ])
  where
    at_mirror : (m : ℕ) → m < length hand → slice_index now (n + m) ≡ bit_and (slice_index start (n + m)) (slice_index hand m)
    at_mirror m inside = elim (in_or_not mirrors m) [
      | inl c ↦ all.met m c
      | inr absent ↦ elim (cases_eq (slice_index hand m) NOTHING) [
        | inl none ↦ all.left m absent ∙ sym (ap (bit_and (slice_index start (n + m))) none ∙ values (n + m))
        | inr some ↦ absurd (absent (are.all m inside some))
      ]
    ]

pub met-fits : (part : FragmentLists) (start now : LocalValues) → length now.values ≡ length start.values → now.before ≡ start.before → FitsPart part start → FitsPart part now
met-fits part start now values before fits = record { few = fits.few; places = values ∙ fits.places; owned = ap length before ∙ fits.owned }
