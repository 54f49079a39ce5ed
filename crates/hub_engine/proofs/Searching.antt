-- Searches among desks, numbers in a row and kinds.
use Rattle.std.proofs.Common.{◌≡◌, ℕ, zero, suc, ◌+◌, ◌-◌, ◌<◌, ◌≤◌, ◌⊎◌, inl, inr, Bool, true, false, min, if◌then◌else◌, refl, sym, ◌∙◌, ap, arith, List, [], ◌∷◌, ◌++◌, length, drop, Option, Some, None, slice_get, slice_index_or}
use Rattle.std.specs.List.{range_with_len}
use Rattle.std.proofs.lemmas.Bool.{cases_lt, false≢true}
use Rattle.std.proofs.lemmas.Option.{none-some, same_Some, slice_get-get_or, slice_get_past, slice_get_within}
use Rattle.token_cut.specs.CutValues.{CutValues}
use Rattle.stop_probe.specs.ProbeValues.{ProbeValues}
use Rattle.hub_engine.specs.declared.desk.Desk.{Desk}
use Rattle.hub_engine.specs.declared.kind.Kind.{Kind}
use Rattle.hub_engine.specs.declared.sight.Sight.{Sight}
use Rattle.hub_engine.specs.Desks.{is_busy_at}
use Rattle.hub_engine.specs.Kinds.{IsLeastRound, lesser, admits, holds_at, first_where, first_desk, found_or, first_of_kinds}

-- ---- the test of a desk

pub holds_in : (test : ℕ → Desk → Bool) (desks : List Desk) (i : ℕ) (d : Desk) → slice_get desks i ≡ Some d → holds_at test desks i ≡ test i d
holds_in test desks i d h = ap (λ (o : Option Desk). elim o as (λ _. Bool) [ None ↦ false | Some x ↦ test i x ]) h

pub holds_here : (test : ℕ → Desk → Bool) (desks : List Desk) (i : ℕ) (d : Desk) → i < length desks → holds_at test desks i ≡ test i (slice_index_or desks i d)
holds_here test desks i d l = holds_in test desks i (slice_index_or desks i d) (slice_get-get_or desks i d l)

pub holds_past : (test : ℕ → Desk → Bool) (desks : List Desk) (i : ℕ) → length desks ≤ i → holds_at test desks i ≡ false
holds_past test desks i l = ap (λ (o : Option Desk). elim o as (λ _. Bool) [ None ↦ false | Some x ↦ test i x ]) (slice_get_past desks i l)

-- a desk stands there, or all desks come before
pub desk_there : (desks : List Desk) (i : ℕ) → ((d : Desk) × (slice_get desks i ≡ Some d)) ⊎ (length desks ≤ i)
desk_there [] i = inr (omega arith)
desk_there (d ∷ desks) zero = inl (d, refl)
desk_there (d ∷ desks) (suc i) = elim (desk_there desks i) [ inl k ↦ inl k | inr l ↦ inr (omega (arith, l)) ]

-- ---- the least round of the first desks

pub record IsLeastBefore (desks : List Desk) (n : ℕ) (least : Option ℕ) : Type 0 where
  pub below : (i : ℕ) (d : Desk) → i < n → slice_get desks i ≡ Some d → is_busy_at d ≡ true → (r : ℕ) × (least ≡ Some r) × (r ≤ d.round)
  pub there : (r : ℕ) → least ≡ Some r → (i : ℕ) × (d : Desk) × (slice_get desks i ≡ Some d) × (is_busy_at d ≡ true) × (d.round ≡ r)

pub least_of_none : (desks : List Desk) → IsLeastBefore desks 0 None
least_of_none desks = record { below = λ i d l h b. absurd (omega (arith, l)); there = λ r h. absurd (none-some r h) }

pub least_of_all : (desks : List Desk) (n : ℕ) (least : Option ℕ) → length desks ≤ n → IsLeastBefore desks n least → IsLeastRound desks least
least_of_all desks n least all k = record { below = λ i d h b. let l = slice_get_within desks i d h in k.below i d (omega (arith, all, l)) h b; there = k.there }

is_last : (n i : ℕ) → i < n + 1 → (i < n) ⊎ (i ≡ n)
is_last n i l = elim (cases_lt i n) [ inl lt ↦ inl lt | inr ge ↦ inr (omega (arith, ge, l)) ]

same_desk : (desks : List Desk) (i n : ℕ) (d e : Desk) → i ≡ n → slice_get desks i ≡ Some d → slice_get desks n ≡ Some e → d ≡ e
same_desk desks i n d e q h k = same_Some d e (sym h ∙ (ap (slice_get desks) q ∙ k))

pub least_stays : (desks : List Desk) (n : ℕ) (least : Option ℕ) (e : Desk) → slice_get desks n ≡ Some e → is_busy_at e ≡ false → IsLeastBefore desks n least → IsLeastBefore desks (n + 1) least
least_stays desks n least e here idle k =
    record {
      below = λ i d l h b. elim (is_last n i l) [
        | inl lt ↦ k.below i d lt h b
        | inr q ↦ absurd (false≢true (sym idle ∙ (ap is_busy_at (sym (same_desk desks i n d e q h here)) ∙ b)))
      ];
      there = k.there;
    }

pub least_falls : (desks : List Desk) (n : ℕ) (least : Option ℕ) (e : Desk) → slice_get desks n ≡ Some e → is_busy_at e ≡ true → IsLeastBefore desks n least → IsLeastBefore desks (n + 1) (lesser least e.round)
least_falls desks n None e here busy k =
    record {
      below = λ i d l h b. elim (is_last n i l) [
        | inl lt ↦ let f = k.below i d lt h b in absurd (none-some f.0 f.1)
        | inr q ↦ let s = ap (λ (x : Desk). x.round) (same_desk desks i n d e q h here) in (e.round, refl, omega (arith, s))
      ];
      there = λ r h. (n, e, here, busy, same_Some e.round r h);
    }
least_falls desks n (Some least) e here busy k =
    record {
      below = λ i d l h b. elim (is_last n i l) [
        | inl lt ↦ let f = k.below i d lt h b in let s = same_Some least f.0 f.1 in let m = f.2 in (min least e.round, refl, omega (arith, s, m))
        | inr q ↦ let s = ap (λ (x : Desk). x.round) (same_desk desks i n d e q h here) in (min least e.round, refl, omega (arith, s))
      ];
      there = λ r h. elim (cases_lt e.round least) [
        | inl lt ↦ let s = same_Some (min least e.round) r h in (n, e, here, busy, omega (arith, s, lt))
        | inr ge ↦ let s = same_Some (min least e.round) r h in let f = k.there least refl in let q = f.4 in (f.0, f.1, f.2, f.3, omega (arith, s, ge, q))
      ];
    }

-- ---- numbers in a row

-- of no numbers there is no first
pub none_left : (test : ℕ → Bool) (a b : ℕ) → b ≤ a → first_where test (range_with_len a (b - a)) ≡ None
none_left test a b l = let e : b - a ≡ 0 = omega (arith, l) in ap (λ n. first_where test (range_with_len a n)) e

next_number : (test : ℕ → Bool) (a b : ℕ) → a < b → first_where test (range_with_len a (b - a)) ≡ (if test a then Some a else first_where test (range_with_len (a + 1) (b - (a + 1))))
next_number test a b l = let e : b - a ≡ suc (b - (a + 1)) = omega (arith, l) in ap (λ n. first_where test (range_with_len a n)) e

pub found_here : (test : ℕ → Bool) (a b : ℕ) → a < b → test a ≡ true → first_where test (range_with_len a (b - a)) ≡ Some a
found_here test a b l h = next_number test a b l ∙ ap (λ t. if t then Some a else first_where test (range_with_len (a + 1) (b - (a + 1)))) h

pub not_here : (test : ℕ → Bool) (a b : ℕ) → a < b → test a ≡ false → first_where test (range_with_len a (b - a)) ≡ first_where test (range_with_len (a + 1) (b - (a + 1)))
not_here test a b l h = next_number test a b l ∙ ap (λ t. if t then Some a else first_where test (range_with_len (a + 1) (b - (a + 1)))) h

-- the first of two lists joined
pub joined_some : (test : ℕ → Bool) (is js : List ℕ) (i : ℕ) → first_where test is ≡ Some i → first_where test (is ++ js) ≡ Some i
joined_some test [] js i h = absurd (cc h)
joined_some test (x ∷ is) js i h = go (test x) (joined_some test is js i) h
  where
    go : (t : Bool) → (first_where test is ≡ Some i → first_where test (is ++ js) ≡ Some i) → (if t then Some x else first_where test is) ≡ Some i →
        (if t then Some x else first_where test (is ++ js)) ≡ Some i
    go true again h = h
    go false again h = again h

pub joined_none : (test : ℕ → Bool) (is js : List ℕ) → first_where test is ≡ None → first_where test (is ++ js) ≡ first_where test js
joined_none test [] js h = refl
joined_none test (x ∷ is) js h = go (test x) (joined_none test is js) h
  where
    go : (t : Bool) → (first_where test is ≡ None → first_where test (is ++ js) ≡ first_where test js) → (if t then Some x else first_where test is) ≡ None →
        (if t then Some x else first_where test (is ++ js)) ≡ first_where test js
    go true again h = absurd (cc h)
    go false again h = again h

-- ---- kinds in their order

module _ (sight : Sight) (probe : ProbeValues) (cut : CutValues) (desks : List Desk) (turn : ℕ) where
  pub kind_found : (ks : List Kind) (n i : ℕ) (k : Kind) → n < length ks → first_desk (admits (slice_index_or ks n k) sight probe cut) desks turn ≡ Some i →
      first_of_kinds sight probe cut desks turn (drop n ks) ≡ Some (slice_index_or ks n k, i)
  kind_found [] n i k l h = absurd (omega (arith, l))
  kind_found (x ∷ ks) zero i k l h = ap (λ o. found_or x o (first_of_kinds sight probe cut desks turn ks)) h
  kind_found (x ∷ ks) (suc n) i k l h = kind_found ks n i k (omega (arith, l)) h

  pub kind_missing : (ks : List Kind) (n : ℕ) (k : Kind) → n < length ks → first_desk (admits (slice_index_or ks n k) sight probe cut) desks turn ≡ None →
      first_of_kinds sight probe cut desks turn (drop n ks) ≡ first_of_kinds sight probe cut desks turn (drop (n + 1) ks)
  kind_missing [] n k l h = absurd (omega (arith, l))
  kind_missing (x ∷ ks) zero k l h = ap (λ o. found_or x o (first_of_kinds sight probe cut desks turn ks)) h
  kind_missing (x ∷ ks) (suc n) k l h =
      let e : suc (n + 1) ≡ suc n + 1 = omega arith in
      kind_missing ks n k (omega (arith, l)) h ∙ ap (λ m. first_of_kinds sight probe cut desks turn (drop m (x ∷ ks))) e

  pub no_kind_left : (ks : List Kind) (n : ℕ) → length ks ≤ n → first_of_kinds sight probe cut desks turn (drop n ks) ≡ None
  no_kind_left [] zero l = refl
  no_kind_left [] (suc n) l = refl
  no_kind_left (x ∷ ks) zero l = absurd (omega (arith, l))
  no_kind_left (x ∷ ks) (suc n) l = no_kind_left ks n (omega (arith, l))
