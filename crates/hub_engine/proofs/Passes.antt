-- One pass over the desks finds the first kind of all, with the first desk that admits it.
use Rattle.std.proofs.Common.{◌≡◌, ℕ, zero, suc, ◌+◌, ◌-◌, ◌<◌, ◌≤◌, Bool, true, false, not, ◌&&◌, ◌||◌, nat_lt, if◌then◌else◌, refl, sym, ◌∙◌, ap, arith, List, [], ◌∷◌, ◌++◌, length, take, Option, Some, None, slice_get, slice_index_or}
use Rattle.std.specs.List.{range_with_len}
use Rattle.std.specs.Option.{is_some}
use Rattle.std.proofs.Math.Bool.{and-true, and-false}
use Rattle.std.proofs.lemmas.Bool.{ltb-true, ltb-false}
use Rattle.std.proofs.lemmas.Option.{none-some, same_Some, slice_get-get_or}
use Rattle.graph_core.specs.Fragments.{numbers_below}
use Rattle.token_cut.specs.CutValues.{CutValues}
use Rattle.stop_probe.specs.ProbeValues.{ProbeValues}
use Rattle.stop_probe.specs.Probe.{may_flag, may_answer, took_since_ask}
use Rattle.hub_engine.specs.declared.desk.Desk.{Desk}
use Rattle.hub_engine.specs.declared.desk.Seat.{Seat}
use Rattle.hub_engine.specs.declared.desk.Seat.TheVariants.{Here, Out}
use Rattle.hub_engine.specs.declared.kind.Kind.{Kind}
use Rattle.hub_engine.specs.declared.kind.Kind.TheVariants as kind
use Rattle.hub_engine.specs.declared.sight.Sight.{Sight}
use Rattle.hub_engine.specs.Desks.{is_out, is_fresh_at, rests_at, has_mail}
use Rattle.hub_engine.specs.Kinds.{admits, holds_at, first_where, round_of, found_or, first_of_kinds, kinds, is_near_enough, is_over, is_unmarked, first_kind, kind_with_mail, kind_without_mail, kind_of_fresh, rank, kind_at, better, best_of}

-- ---- one desk

-- a worker that is here rests, or is fresh
rests_in : (s : Seat) → (elim s as (λ _. Bool) [ Here fresh local hand ↦ false | Out lane place ↦ true ]) ≡ false
    → (elim s as (λ _. Bool) [ Here fresh local hand ↦ not fresh | Out lane place ↦ false ]) ≡ not (elim s as (λ _. Bool) [ Here fresh local hand ↦ fresh | Out lane place ↦ false ])
rests_in (Here fresh local hand) h = refl
rests_in (Out lane place) h = cc

pub rests_here : (d : Desk) (fresh : Bool) → is_out d ≡ false → is_fresh_at d ≡ fresh → rests_at d ≡ not fresh
rests_here d fresh here is = rests_in d.seat here ∙ ap not is

-- the choice of a desk by its signs, in the order of kinds
abbrev choose : (unmarked out fresh rests mail over near due tagged delay answer took flag : Bool) → Option Kind
choose u o f r m v n e t d a k g =
    if u && not o then Some kind.Mark
    else (if (f || ((r && m) && v)) && n && not e && not (u && t) then Some kind.Take
    else (if (r && m) && not d then Some kind.Stretch
    else (if a && (r && not m) && not k then Some kind.Ack
    else (if a && r && (m || k) then Some kind.Nack
    else (if g && (r && not m) then Some kind.Flag
    else (if d && not v then Some kind.Hold else None))))))

fresh_choice : (u o f r m v n e t d a k g : Bool) → u ≡ false → f ≡ true → r ≡ false
    → (if n && not e then Some kind.Take else (if d && not v then Some kind.Hold else None)) ≡ choose u o f r m v n e t d a k g
fresh_choice false o true false m v n e t d a k g p q s = simp (and-true, and-false)
fresh_choice true o f r m v n e t d a k g p q s = cc
fresh_choice false o false r m v n e t d a k g p q s = cc
fresh_choice false o true true m v n e t d a k g p q s = cc

mail_choice : (u o f r m v n e t d a k g : Bool) → u ≡ false → f ≡ false → r ≡ true → m ≡ true
    → (if v && (n && not e) then Some kind.Take else (if not d then Some kind.Stretch else (if a then Some kind.Nack else (if d && not v then Some kind.Hold else None)))) ≡ choose u o f r m v n e t d a k g
mail_choice false o false true true true n e t d a k g p q s w = simp (and-true, and-false)
mail_choice false o false true true false n e t d a k g p q s w = simp (and-true, and-false)
mail_choice true o f r m v n e t d a k g p q s w = cc
mail_choice false o true r m v n e t d a k g p q s w = cc
mail_choice false o false false m v n e t d a k g p q s w = cc
mail_choice false o false true false v n e t d a k g p q s w = cc

calm_choice : (u o f r m v n e t d a k g : Bool) → u ≡ false → f ≡ false → r ≡ true → m ≡ false
    → (if a then (if k then Some kind.Nack else Some kind.Ack) else (if g then Some kind.Flag else (if d && not v then Some kind.Hold else None))) ≡ choose u o f r m v n e t d a k g
calm_choice false o false true false v n e t d true true g p q s w = refl
calm_choice false o false true false v n e t d true false g p q s w = refl
calm_choice false o false true false v n e t d false k g p q s w = simp and-true
calm_choice true o f r m v n e t d a k g p q s w = cc
calm_choice false o true r m v n e t d a k g p q s w = cc
calm_choice false o false false m v n e t d a k g p q s w = cc
calm_choice false o false true true v n e t d a k g p q s w = cc

module _ (sight : Sight) (probe : ProbeValues) (cut : CutValues) (i : ℕ) (d : Desk) where
  pub fresh_kind : is_out d ≡ false → is_unmarked i cut ≡ false → is_fresh_at d ≡ true → kind_of_fresh sight d ≡ first_kind sight probe cut i d kinds
  fresh_kind here marked fresh =
      fresh_choice (is_unmarked i cut) (is_out d) (is_fresh_at d) (rests_at d) (has_mail d) (is_over sight d) (is_near_enough sight.policy sight.least d.round) sight.due (nat_lt 0 d.buffer.tagged_batches) (is_some d.delay)
      (may_answer i probe) (took_since_ask i probe) (may_flag i probe) marked fresh (rests_here d true here fresh)

  pub mail_kind : is_out d ≡ false → is_unmarked i cut ≡ false → is_fresh_at d ≡ false → has_mail d ≡ true → kind_with_mail sight probe i d ≡ first_kind sight probe cut i d kinds
  mail_kind here marked fresh mail =
      mail_choice (is_unmarked i cut) (is_out d) (is_fresh_at d) (rests_at d) (has_mail d) (is_over sight d) (is_near_enough sight.policy sight.least d.round) sight.due (nat_lt 0 d.buffer.tagged_batches) (is_some d.delay)
      (may_answer i probe) (took_since_ask i probe) (may_flag i probe) marked fresh (rests_here d false here fresh) mail

  pub calm_kind : is_out d ≡ false → is_unmarked i cut ≡ false → is_fresh_at d ≡ false → has_mail d ≡ false → kind_without_mail sight probe i d ≡ first_kind sight probe cut i d kinds
  calm_kind here marked fresh mail =
      calm_choice (is_unmarked i cut) (is_out d) (is_fresh_at d) (rests_at d) (has_mail d) (is_over sight d) (is_near_enough sight.policy sight.least d.round) sight.due (nat_lt 0 d.buffer.tagged_batches) (is_some d.delay)
      (may_answer i probe) (took_since_ask i probe) (may_flag i probe) marked fresh (rests_here d false here fresh) mail

-- ---- the desks of a row of numbers

pub kind_there : (sight : Sight) (probe : ProbeValues) (cut : CutValues) (desks : List Desk) (i : ℕ) (d : Desk) → i < length desks → kind_at sight probe cut desks i ≡ first_kind sight probe cut i (slice_index_or desks i d) kinds
kind_there sight probe cut desks i d h = ap (λ (o : Option Desk). elim o as (λ _. Option Kind) [ None ↦ None | Some x ↦ first_kind sight probe cut i x kinds ]) (slice_get-get_or desks i d h)

pub no_desk_more : (f : ℕ → Option Kind) (a b : ℕ) (best : Option (Kind × ℕ)) → b ≤ a → best_of f (range_with_len a (b - a)) best ≡ best
no_desk_more f a b best h = let e : b - a ≡ 0 = omega arith in ap (λ n. best_of f (range_with_len a n) best) e

pub desk_more : (f : ℕ → Option Kind) (a b : ℕ) (best : Option (Kind × ℕ)) → a < b → best_of f (range_with_len a (b - a)) best ≡ best_of f (range_with_len (a + 1) (b - (a + 1))) (better best (f a) a)
desk_more f a b best h = let e : b - a ≡ suc (b - (a + 1)) = omega arith in ap (λ n. best_of f (range_with_len a n) best) e

pub best_of-append : (f : ℕ → Option Kind) (is js : List ℕ) (best : Option (Kind × ℕ)) → best_of f (is ++ js) best ≡ best_of f js (best_of f is best)
best_of-append f [] js best = refl
best_of-append f (i ∷ is) js best = best_of-append f is js (better best (f i) i)

-- ---- kinds first, or desks first

abbrev or_else : Option (Kind × ℕ) → Option (Kind × ℕ) → Option (Kind × ℕ)
or_else None later = later
or_else (Some x) later = Some x

found_or_else : (k : Kind) (o : Option ℕ) (a b : Option (Kind × ℕ)) → found_or k o (or_else a b) ≡ or_else (found_or k o a) b
found_or_else k None a b = refl
found_or_else k (Some i) a b = refl

else_some : (a b : Option (Kind × ℕ)) (x : Kind × ℕ) → or_else (or_else a (Some x)) b ≡ or_else a (Some x)
else_some None b x = refl
else_some (Some y) b x = refl

module _ (test : Kind → ℕ → Bool) where
  -- the first of these kinds with the first number that passes its test
  abbrev search_kinds : List Kind → List ℕ → Option (Kind × ℕ)
  search_kinds [] is = None
  search_kinds (k ∷ ks) is = found_or k (first_where (test k) is) (search_kinds ks is)

  -- the first of these kinds whose test the number passes, and its place among them
  abbrev lead : List Kind → ℕ → Option Kind
  lead [] i = None
  lead (k ∷ ks) i = if test k i then Some k else lead ks i

  abbrev lead_place : List Kind → ℕ → ℕ
  lead_place [] i = 0
  lead_place (k ∷ ks) i = if test k i then 0 else suc (lead_place ks i)

  search_none : (ks : List Kind) → search_kinds ks [] ≡ None
  search_none [] = refl
  search_none (k ∷ ks) = search_none ks

  -- a number more that passes one of the first n tests
  search_found : (ks : List Kind) (n i : ℕ) (is : List ℕ) (q : Kind) → lead ks i ≡ Some q → lead_place ks i < n
      → search_kinds (take n ks) (i ∷ is) ≡ or_else (search_kinds (take (lead_place ks i) ks) is) (Some (q, i))
  search_found [] n i is q led h = absurd (none-some q led)
  search_found (k ∷ ks) zero i is q led h = absurd (omega arith)
  search_found (k ∷ ks) (suc n) i is q led h = go (test k i) (search_found ks n i is q) led h
    where
      go : (t : Bool) → (lead ks i ≡ Some q → lead_place ks i < n → search_kinds (take n ks) (i ∷ is) ≡ or_else (search_kinds (take (lead_place ks i) ks) is) (Some (q, i))) → (if t then Some k else lead ks i) ≡ Some q → (if t then 0 else suc (lead_place ks i)) < suc n
          → found_or k (if t then Some i else first_where (test k) is) (search_kinds (take n ks) (i ∷ is)) ≡ or_else (search_kinds (take (if t then 0 else suc (lead_place ks i)) (k ∷ ks)) is) (Some (q, i))
      go true again led h = ap (λ x. Some (x, i)) (same_Some k q led)
      go false again led h =
          ap (found_or k (first_where (test k) is)) (again led (omega arith))
          ∙ found_or_else k (first_where (test k) is) (search_kinds (take (lead_place ks i) ks) is) (Some (q, i))

  -- and one that passes none of them
  search_missed : (ks : List Kind) (n i : ℕ) (is : List ℕ) → n ≤ lead_place ks i → search_kinds (take n ks) (i ∷ is) ≡ search_kinds (take n ks) is
  search_missed [] zero i is h = refl
  search_missed [] (suc n) i is h = refl
  search_missed (k ∷ ks) zero i is h = refl
  search_missed (k ∷ ks) (suc n) i is h = go (test k i) (search_missed ks n i is) h
    where
      go : (t : Bool) → (n ≤ lead_place ks i → search_kinds (take n ks) (i ∷ is) ≡ search_kinds (take n ks) is) → suc n ≤ (if t then 0 else suc (lead_place ks i))
          → found_or k (if t then Some i else first_where (test k) is) (search_kinds (take n ks) (i ∷ is)) ≡ found_or k (first_where (test k) is) (search_kinds (take n ks) is)
      go true again h = absurd (omega arith)
      go false again h = ap (found_or k (first_where (test k) is)) (again (omega arith))

  -- among all kinds a kind stands at its rank
  by_rank : (b0 b1 b2 b3 b4 b5 b6 : Bool) (q : Kind)
      → (if b0 then Some kind.Mark else (if b1 then Some kind.Take else (if b2 then Some kind.Stretch else (if b3 then Some kind.Ack else (if b4 then Some kind.Nack else (if b5 then Some kind.Flag else (if b6 then Some kind.Hold else None))))))) ≡ Some q
      → (if b0 then 0 else suc (if b1 then 0 else suc (if b2 then 0 else suc (if b3 then 0 else suc (if b4 then 0 else suc (if b5 then 0 else suc (if b6 then 0 else suc 0))))))) ≡ rank q
  by_rank true b1 b2 b3 b4 b5 b6 q h = ap rank (same_Some kind.Mark q h)
  by_rank false true b2 b3 b4 b5 b6 q h = ap rank (same_Some kind.Take q h)
  by_rank false false true b3 b4 b5 b6 q h = ap rank (same_Some kind.Stretch q h)
  by_rank false false false true b4 b5 b6 q h = ap rank (same_Some kind.Ack q h)
  by_rank false false false false true b5 b6 q h = ap rank (same_Some kind.Nack q h)
  by_rank false false false false false true b6 q h = ap rank (same_Some kind.Flag q h)
  by_rank false false false false false false true q h = ap rank (same_Some kind.Hold q h)
  by_rank false false false false false false false q h = absurd (none-some q h)

  by_none : (b0 b1 b2 b3 b4 b5 b6 : Bool)
      → (if b0 then Some kind.Mark else (if b1 then Some kind.Take else (if b2 then Some kind.Stretch else (if b3 then Some kind.Ack else (if b4 then Some kind.Nack else (if b5 then Some kind.Flag else (if b6 then Some kind.Hold else None))))))) ≡ None
      → (if b0 then 0 else suc (if b1 then 0 else suc (if b2 then 0 else suc (if b3 then 0 else suc (if b4 then 0 else suc (if b5 then 0 else suc (if b6 then 0 else suc 0))))))) ≡ 7
  by_none true b1 b2 b3 b4 b5 b6 h = absurd (none-some kind.Mark (sym h))
  by_none false true b2 b3 b4 b5 b6 h = absurd (none-some kind.Take (sym h))
  by_none false false true b3 b4 b5 b6 h = absurd (none-some kind.Stretch (sym h))
  by_none false false false true b4 b5 b6 h = absurd (none-some kind.Ack (sym h))
  by_none false false false false true b5 b6 h = absurd (none-some kind.Nack (sym h))
  by_none false false false false false true b6 h = absurd (none-some kind.Flag (sym h))
  by_none false false false false false false true h = absurd (none-some kind.Hold (sym h))
  by_none false false false false false false false h = refl

  ranked : (i : ℕ) (q : Kind) → lead kinds i ≡ Some q → lead_place kinds i ≡ rank q
  ranked i q led = by_rank (test kind.Mark i) (test kind.Take i) (test kind.Stretch i) (test kind.Ack i) (test kind.Nack i) (test kind.Flag i) (test kind.Hold i) q led

  unranked : (i : ℕ) → lead kinds i ≡ None → lead_place kinds i ≡ 7
  unranked i led = by_none (test kind.Mark i) (test kind.Take i) (test kind.Stretch i) (test kind.Ack i) (test kind.Nack i) (test kind.Flag i) (test kind.Hold i) led

  -- so many kinds are better than what was found
  abbrev open_kinds : Option (Kind × ℕ) → ℕ
  open_kinds None = 7
  open_kinds (Some (k, j)) = rank k

  few_kinds : (best : Option (Kind × ℕ)) → open_kinds best ≤ 7
  few_kinds None = omega arith
  few_kinds (Some (k, j)) = rank_few k
    where
      rank_few : (k : Kind) → rank k ≤ 7
      rank_few kind.Mark = omega arith
      rank_few kind.Take = omega arith
      rank_few kind.Stretch = omega arith
      rank_few kind.Ack = omega arith
      rank_few kind.Nack = omega arith
      rank_few kind.Flag = omega arith
      rank_few kind.Hold = omega arith

  new_best : (best : Option (Kind × ℕ)) (i : ℕ) (is : List ℕ) (q : Kind) → lead kinds i ≡ Some q → rank q < open_kinds best
      → or_else (search_kinds (take (open_kinds best) kinds) (i ∷ is)) best ≡ or_else (search_kinds (take (rank q) kinds) is) (Some (q, i))
  new_best best i is q led h =
      let at = ranked i q led in
      ap (λ o. or_else o best) (search_found kinds (open_kinds best) i is q led (omega arith))
      ∙ else_some (search_kinds (take (lead_place kinds i) kinds) is) best (q, i)
      ∙ ap (λ n. or_else (search_kinds (take n kinds) is) (Some (q, i))) at

  old_best : (best : Option (Kind × ℕ)) (i : ℕ) (is : List ℕ) → open_kinds best ≤ lead_place kinds i
      → or_else (search_kinds (take (open_kinds best) kinds) (i ∷ is)) best ≡ or_else (search_kinds (take (open_kinds best) kinds) is) best
  old_best best i is h = ap (λ o. or_else o best) (search_missed kinds (open_kinds best) i is h)

  one_desk : (best : Option (Kind × ℕ)) (i : ℕ) (is : List ℕ) (led : Option Kind) → lead kinds i ≡ led
      → or_else (search_kinds (take (open_kinds best) kinds) (i ∷ is)) best ≡ or_else (search_kinds (take (open_kinds (better best led i)) kinds) is) (better best led i)
  one_desk best i is None is_led = old_best best i is (omega (arith, few_kinds best, unranked i is_led))
  one_desk None i is (Some q) is_led = new_best None i is q is_led (few_rank q)
    where
      few_rank : (k : Kind) → rank k < 7
      few_rank kind.Mark = omega arith
      few_rank kind.Take = omega arith
      few_rank kind.Stretch = omega arith
      few_rank kind.Ack = omega arith
      few_rank kind.Nack = omega arith
      few_rank kind.Flag = omega arith
      few_rank kind.Hold = omega arith
  one_desk (Some (k, j)) i is (Some q) is_led = go (nat_lt (rank q) (rank k)) refl
    where
      go : (t : Bool) → nat_lt (rank q) (rank k) ≡ t
          → or_else (search_kinds (take (rank k) kinds) (i ∷ is)) (Some (k, j)) ≡ or_else (search_kinds (take (open_kinds (if t then Some (q, i) else Some (k, j))) kinds) is) (if t then Some (q, i) else Some (k, j))
      go true h = new_best (Some (k, j)) i is q is_led (ltb-true (rank q) (rank k) h)
      go false h = let more : rank k ≤ rank q = ltb-false (rank q) (rank k) h in old_best (Some (k, j)) i is (omega (arith, ranked i q is_led))

  passes : (is : List ℕ) (best : Option (Kind × ℕ)) → or_else (search_kinds (take (open_kinds best) kinds) is) best ≡ best_of (lead kinds) is best
  passes [] best = ap (λ o. or_else o best) (search_none (take (open_kinds best) kinds))
  passes (i ∷ is) best = one_desk best i is (lead kinds i) refl ∙ passes is (better best (lead kinds i) i)

-- ---- the desks

else_none : (a : Option (Kind × ℕ)) → or_else a None ≡ a
else_none None = refl
else_none (Some x) = refl

best_of-same : (f g : ℕ → Option Kind) → ((i : ℕ) → f i ≡ g i) → (is : List ℕ) (best : Option (Kind × ℕ)) → best_of f is best ≡ best_of g is best
best_of-same f g same [] best = refl
best_of-same f g same (i ∷ is) best = best_of-same f g same is (better best (f i) i) ∙ ap (λ k. best_of g is (better best k i)) (same i)

module _ (sight : Sight) (probe : ProbeValues) (cut : CutValues) (desks : List Desk) where
  abbrev desk_tests : Kind → ℕ → Bool
  desk_tests k = holds_at (admits k sight probe cut) desks

  leads_in : (i : ℕ) (o : Option Desk)
      → (elim o as (λ _. Option Kind) [ None ↦ None | Some d ↦ first_kind sight probe cut i d kinds ])
      ≡ lead (λ k i. elim o as (λ _. Bool) [ None ↦ false | Some d ↦ admits k sight probe cut i d ]) kinds i
  leads_in i None = refl
  leads_in i (Some d) = refl

  leads : (i : ℕ) → lead desk_tests kinds i ≡ kind_at sight probe cut desks i
  leads i = sym (leads_in i (slice_get desks i))

  pub one_pass : (turn : ℕ) → first_of_kinds sight probe cut desks turn kinds ≡ best_of (kind_at sight probe cut desks) (round_of (length desks) turn) None
  one_pass turn =
      let round = round_of (length desks) turn in
      sym (else_none (search_kinds desk_tests kinds round)) ∙ passes desk_tests round None ∙ best_of-same (lead desk_tests kinds) (kind_at sight probe cut desks) leads round None

  -- from the one in turn on, and then from the first
  pub two_rows : (turn : ℕ) → first_of_kinds sight probe cut desks turn kinds
      ≡ best_of (kind_at sight probe cut desks) (numbers_below turn) (best_of (kind_at sight probe cut desks) (range_with_len turn (length desks - turn)) None)
  two_rows turn = one_pass turn ∙ best_of-append (kind_at sight probe cut desks) (range_with_len turn (length desks - turn)) (numbers_below turn) None
