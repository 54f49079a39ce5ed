-- The list of the mirrors with a value, call by call.
use Rattle.std.proofs.Common.{◌≡◌, ◌≢◌, ℕ, zero, suc, ◌+◌, ◌^◌, ◌<◌, ◌≤◌, ◌⊎◌, inl, inr, ◌↔◌, Bool, true, false, ◌==◌, ◌&&◌, if◌then◌else◌, IsTrue, List, [], ◌∷◌, ◌++◌, length, replicate, slice_index, slice_set, All, Contains, ap, sym, subst, ◌∙◌, refl, arith, rules}
use native.Mathlib.Decide.{ℕ_discrete}
use Rattle.std.proofs.lemmas.List.{length-set, length-append, length-replicate, get_or-replicate, get_or-set_same, get_or-set_other, get_or_default}
use Rattle.std.proofs.lemmas.List.Elements.{All-push, Contains-push, Contains-append_left}
use Rattle.std.proofs.lemmas.List.Folds.{list_any_none}
use Rattle.std.proofs.lemmas.Map.Keys.{IsDistinct-push, IsDistinct-from_apart}
use Rattle.std.proofs.lemmas.Cmp.{nat_eq_equiv}
use Rattle.std.proofs.lemmas.Grind.{same_number_lists}
use Rattle.std.proofs.lemmas.Bool.{eqb-true, eqb-false, eq-eqb, ne_eqb}
use Rattle.value_order.specs.declared.order.Order.{Order}
use Rattle.value_order.specs.declared.TheConstants.{NOTHING}
use Rattle.value_order.specs.Order.{meet_of}
use Rattle.message_buffer.specs.Hands.{AreMirrorsOf}
use Rattle.message_buffer.specs.Buffers.{meets_of, count_values}
use Rattle.message_buffer.specs.Listed.{count_valued, AreListedFrom, IsListed, enlisted}
use Rattle.message_buffer.proofs.Meeting.{meet-fits, meet-le_l, meet-le_r}
use Rattle.message_buffer.proofs.Places.{meets_of-length, meets_of-at}

-- ---- how many mirrors have a value

abbrev one_if_not : Bool → ℕ
one_if_not b = if b then 0 else 1

none_or_one : (r : Bool) → one_if_not r ≤ 1
none_or_one true = omega arith
none_or_one false = omega arith

none_at : (r : Bool) → r ≡ true → one_if_not r ≡ 0
none_at r e = ap one_if_not e

valued-le : (xs : List ℕ) → count_valued xs ≤ length xs
valued-le [] = omega arith
valued-le (x ∷ xs) = let rest = valued-le xs in let head = none_or_one (x == NOTHING) in omega (arith, rest, head)

valued-below : (xs : List ℕ) (m : ℕ) → m < length xs → slice_index xs m ≡ NOTHING → count_valued xs < length xs
valued-below [] m h e = absurd (omega (arith, h))
valued-below (x ∷ xs) zero h e = let rest = valued-le xs in let head = none_at (x == NOTHING) (eq-eqb x NOTHING e) in omega (arith, rest, head)
valued-below (x ∷ xs) (suc m) h e = let rest = valued-below xs m (omega (arith, h)) e in let head = none_or_one (x == NOTHING) in omega (arith, rest, head)

valued_here : (r s : Bool) (c : ℕ) → r ≡ false → (if r then 0 else 1) + c ≡ (if s then (if s then 0 else 1) + c + 1 else (if s then 0 else 1) + c)
valued_here true s c e = absurd (cc)
valued_here false true c e = omega arith
valued_here false false c e = refl

valued_later : (s : Bool) (a c d : ℕ) → d ≡ (if s then c + 1 else c) → a + d ≡ (if s then a + c + 1 else a + c)
valued_later true a c d e = omega (arith, e)
valued_later false a c d e = omega (arith, e)

valued-set : (xs : List ℕ) (m v : ℕ) → m < length xs → v < NOTHING → count_valued (slice_set xs m v) ≡ (if slice_index xs m == NOTHING then count_valued xs + 1 else count_valued xs)
valued-set [] m v h b = absurd (omega (arith, h))
valued-set (x ∷ xs) zero v h b = valued_here (v == NOTHING) (x == NOTHING) (count_valued xs) (ne_eqb v NOTHING (λ e. omega (arith, b, e)))
valued-set (x ∷ xs) (suc m) v h b = valued_later (slice_index xs m == NOTHING) (if x == NOTHING then 0 else 1) (count_valued xs) (count_valued (slice_set xs m v)) (valued-set xs m v (omega (arith, h)) b)

valued-none : (n : ℕ) → count_valued (replicate n NOTHING) ≡ 0
valued-none zero = refl
valued-none (suc n) = omega (arith, valued-none n)

-- a value in the meet of both classes is one in either
both_valued : (o : Order) (a b : ℕ) (r s t : Bool) → (a == NOTHING) ≡ r → (b == NOTHING) ≡ s → (meet_of o a b == NOTHING) ≡ t → a < 2 ^ 64 → b < 2 ^ 64 → one_if_not t ≡ one_if_not (r && s)
both_valued o a b true true true e f g h k = refl
both_valued o a b true true false e f g h k =
    absurd (eqb-false (meet_of o a b) NOTHING g (ap (meet_of o a) (eqb-true b NOTHING f) ∙ meet-fits o a h ∙ eqb-true a NOTHING e))
both_valued o a b true false true e f g h k =
    absurd (eqb-false b NOTHING f (let le = meet-le_r o a b in let is = eqb-true (meet_of o a b) NOTHING g in omega (arith, le, is, k)))
both_valued o a b true false false e f g h k = refl
both_valued o a b false s true e f g h k =
    absurd (eqb-false a NOTHING e (let le = meet-le_l o a b in let is = eqb-true (meet_of o a b) NOTHING g in omega (arith, le, is, h)))
both_valued o a b false true false e f g h k = refl
both_valued o a b false false false e f g h k = refl

pub valued-both : (o : Order) (xs ys : List ℕ) → length ys ≡ length xs → All (λ v. v < 2 ^ 64) xs → All (λ v. v < 2 ^ 64) ys → count_valued (meets_of o xs ys) ≡ count_values xs ys
valued-both o [] ys e h k = refl
valued-both o (x ∷ xs) [] e h k = absurd (omega (arith, e))
valued-both o (x ∷ xs) (y ∷ ys) e h k =
    let head = both_valued o x y (x == NOTHING) (y == NOTHING) (meet_of o x y == NOTHING) refl refl refl (h 0 0 (omega arith)) (k 0 0 (omega arith)) in
    let rest = valued-both o xs ys (omega (arith, e)) (λ i d l. h (suc i) d (omega (arith, l))) (λ i d l. k (suc i) d (omega (arith, l))) in
    λ t. head t + rest t

-- ---- the list

pub listed-none : (n room : ℕ) → n ≤ room → IsListed (replicate n NOTHING) [] room
listed-none n room h = record {
  these = record {
    all = λ m l v. absurd (v (get_or-replicate n m NOTHING 0 (let e = length-replicate n NOTHING in omega (arith, l, e))));
    only = λ k d l. absurd (omega (arith, l));
    valued = λ k d l. absurd (omega (arith, l));
    once = IsDistinct-from_apart _ [] (λ i j d a b. absurd (omega (arith, b)));
  };
  count = sym (valued-none n);
  fits = let e = length-replicate n NOTHING in omega (arith, h, e);
}

pub listed-made : (n room : ℕ) (values mirrors : List ℕ) → values ≡ replicate n NOTHING → mirrors ≡ [] → n ≤ room → IsListed values mirrors room
listed-made n room values mirrors e f h = subst (λ xs. IsListed xs mirrors room) (sym e) (subst (λ ms. IsListed (replicate n NOTHING) ms room) (sym f) (listed-none n room h))

pub listed-room : (values mirrors : List ℕ) (room m : ℕ) → IsListed values mirrors room → m < length values → slice_index values m ≡ NOTHING → length mirrors < room
listed-room values mirrors room m l h e = let below = valued-below values m h e in omega (arith, below, l.count, l.fits)

pub listed-few : (values mirrors : List ℕ) (room : ℕ) → IsListed values mirrors room → length mirrors ≤ length values
listed-few values mirrors room l = let le = valued-le values in omega (arith, le, l.count)

pub listed-from : (values mirrors : List ℕ) → AreMirrorsOf values mirrors → AreListedFrom values mirrors 0
listed-from values mirrors a m h = elim (ℕ_discrete (slice_index values m) NOTHING) [
  | yes e ↦ inl e
  | no n ↦ let c = a.all m h n in inr (c.0, omega arith, c.1, get_or_default mirrors c.0 0 m c.1 ∙ c.2)
]

-- a value of the other class is one of both
pub listed-others : (o : Order) (values others mirrors : List ℕ) → length others ≡ length values → All (λ v. v < 2 ^ 64) others → AreMirrorsOf (meets_of o values others) mirrors → AreListedFrom others mirrors 0
listed-others o values others mirrors e f a m h =
    go (listed-from (meets_of o values others) mirrors a m (let n = meets_of-length o (length values) values others refl e in omega (arith, h, n, e)))
  where
    go : (slice_index (meets_of o values others) m ≡ NOTHING) ⊎ ((k : ℕ) × (0 ≤ k) × (k < length mirrors) × (slice_index mirrors k ≡ m)) → (slice_index others m ≡ NOTHING) ⊎ ((k : ℕ) × (0 ≤ k) × (k < length mirrors) × (slice_index mirrors k ≡ m))
    go (inr k) = inr k
    go (inl z) =
        let at = meets_of-at o values others m (omega (arith, h, e)) h in
        let le = meet-le_r o (slice_index values m) (slice_index others m) in
        let lt : slice_index others m < 2 ^ 64 = f m 0 h in
        inl (omega (arith, z, at, le, lt))

pub inside-others : (o : Order) (values others mirrors now : List ℕ) (i : ℕ) → length others ≡ length values → AreMirrorsOf (meets_of o values others) mirrors → i < length mirrors → length now ≡ length values → slice_index mirrors i < length now
inside-others o values others mirrors now i e a l s = let n = meets_of-length o (length values) values others refl e in let p = a.only i 0 l in omega (arith, p, n, s)

-- one value is lowered
lowered_is : (values : List ℕ) (m w : ℕ) → m < length values → w < NOTHING → (q : ℕ) → (slice_index (slice_set values m w) q ≢ NOTHING) ⊎ ((q ≢ m) × (slice_index (slice_set values m w) q ≡ slice_index values q))
lowered_is values m w h b q = elim (ℕ_discrete q m) [
  | yes e ↦ inl (λ n. let same = get_or-set_same values m w 0 h in let moved = ap (slice_index (slice_set values m w)) e in omega (arith, n, same, moved, b))
  | no n ↦ inr (n, get_or-set_other values m q w 0 n)
]

valued_still : (values : List ℕ) (m w : ℕ) → m < length values → w < NOTHING → (q : ℕ) → slice_index values q ≢ NOTHING → slice_index (slice_set values m w) q ≢ NOTHING
valued_still values m w h b q n = go (lowered_is values m w h b q)
  where
    go : (slice_index (slice_set values m w) q ≢ NOTHING) ⊎ ((q ≢ m) × (slice_index (slice_set values m w) q ≡ slice_index values q)) → slice_index (slice_set values m w) q ≢ NOTHING
    go (inl k) = k
    go (inr e) = λ s. n (sym e.1 ∙ s)

listed_push : (values mirrors : List ℕ) (m w : ℕ) → AreMirrorsOf values mirrors → m < length values → w < NOTHING → slice_index values m ≡ NOTHING → AreMirrorsOf (slice_set values m w) (mirrors ++ m ∷ [])
listed_push values mirrors m w a h b e =
    let n = length-set values m w in
    let new : slice_index (slice_set values m w) m ≢ NOTHING = λ s. let same = get_or-set_same values m w 0 h in omega (arith, s, same, b) in
    record {
      all = λ q l s. elim (ℕ_discrete q m) [
        | yes p ↦ subst (Contains (mirrors ++ m ∷ [])) (sym p) (Contains-push mirrors m)
        | no p ↦ Contains-append_left mirrors (m ∷ []) q (a.all q (omega (arith, l, n)) (λ z. s (get_or-set_other values m q w 0 p ∙ z)))
      ];
      only = All-push (λ q. q < length (slice_set values m w)) mirrors m (λ k d l. let p = a.only k d l in omega (arith, p, n)) (omega (arith, h, n));
      valued = All-push (λ q. slice_index (slice_set values m w) q ≢ NOTHING) mirrors m (λ k d l. valued_still values m w h b _ (a.valued k d l)) new;
      once = IsDistinct-push nat_eq_equiv mirrors m a.once (list_any_none _ mirrors (λ k d l. ne_eqb m _ (λ s. a.valued k d l (ap (slice_index values) (sym s) ∙ e))));
    }

listed_same : (values mirrors : List ℕ) (m w : ℕ) → AreMirrorsOf values mirrors → m < length values → w < NOTHING → slice_index values m ≢ NOTHING → AreMirrorsOf (slice_set values m w) mirrors
listed_same values mirrors m w a h b e =
    let n = length-set values m w in
    record {
      all = λ q l s. elim (ℕ_discrete q m) [
        | yes p ↦ subst (Contains mirrors) (sym p) (a.all m h e)
        | no p ↦ a.all q (omega (arith, l, n)) (λ z. s (get_or-set_other values m q w 0 p ∙ z))
      ];
      only = λ k d l. let p = a.only k d l in omega (arith, p, n);
      valued = λ k d l. valued_still values m w h b _ (a.valued k d l);
      once = a.once;
    }

lowered_list : (values mirrors : List ℕ) (room m w : ℕ) (r : Bool) → (slice_index values m == NOTHING) ≡ r → IsListed values mirrors room → m < length values → w < NOTHING →
    count_valued (slice_set values m w) ≡ (if r then count_valued values + 1 else count_valued values) → IsListed (slice_set values m w) (if r then mirrors ++ m ∷ [] else mirrors) room
lowered_list values mirrors room m w true e l h b c = record {
  these = listed_push values mirrors m w l.these h b (eqb-true (slice_index values m) NOTHING e);
  count = let n = length-append mirrors (m ∷ []) in omega (arith, n, c, l.count);
  fits = let n = length-set values m w in omega (arith, n, l.fits);
}
lowered_list values mirrors room m w false e l h b c = record {
  these = listed_same values mirrors m w l.these h b (eqb-false (slice_index values m) NOTHING e);
  count = omega (arith, c, l.count);
  fits = let n = length-set values m w in omega (arith, n, l.fits);
}

pub listed-lower : (o : Order) (values mirrors : List ℕ) (room m v : ℕ) → IsListed values mirrors room → m < length values → v < NOTHING →
    IsListed (slice_set values m (meet_of o (slice_index values m) v)) (enlisted mirrors m (slice_index values m)) room
listed-lower o values mirrors room m v l h b =
    let w = meet_of o (slice_index values m) v in
    let low : w < NOTHING = let le = meet-le_r o (slice_index values m) v in omega (arith, le, b) in
    lowered_list values mirrors room m w (slice_index values m == NOTHING) refl l h low (valued-set values m w h low)

pub listed-lowered : (o : Order) (values mirrors : List ℕ) (room m v before w : ℕ) (ms : List ℕ) (cap : ℕ) → IsListed values mirrors room → m < length values → v < NOTHING →
    before ≡ slice_index values m → w ≡ meet_of o before v → ms ≡ enlisted mirrors m before → cap ≡ room → IsListed (slice_set values m w) ms cap
listed-lowered o values mirrors room m v before w ms cap l h b e f p q =
    subst (λ n. IsListed (slice_set values m w) ms n) (sym q)
    (subst (λ xs. IsListed (slice_set values m w) xs room) (sym (p ∙ ap (enlisted mirrors m) e))
    (subst (λ u. IsListed (slice_set values m u) (enlisted mirrors m (slice_index values m)) room) (sym (f ∙ ap (λ x. meet_of o x v) e)) (listed-lower o values mirrors room m v l h b)))

pub listed-empty : (values mirrors : List ℕ) → AreMirrorsOf values mirrors → IsTrue (length mirrors == 0) ↔ All (λ v. v ≡ NOTHING) values
listed-empty values [] a = (λ t. none, λ h. search rules)
  where
    none : All (λ v. v ≡ NOTHING) values
    none k d l = elim (ℕ_discrete (slice_index values k) NOTHING) [
      | yes e ↦ get_or_default values k d 0 l ∙ e
      | no n ↦ absurd (let c = (a.all k l n).1 in omega (arith, c))
    ]
listed-empty values (x ∷ mirrors) a = (λ t. absurd (search rules), λ h. absurd (a.valued 0 0 (omega arith) (h x 0 (a.only 0 0 (omega arith)))))

-- ---- loops over the list

pub cleared-more : (values mirrors : List ℕ) (i m : ℕ) → AreListedFrom values mirrors i → m ≡ slice_index mirrors i → m < length values → AreListedFrom (slice_set values m NOTHING) mirrors (i + 1)
cleared-more values mirrors i m a e h q l = elim (ℕ_discrete q m) [
  | yes p ↦ inl (ap (slice_index (slice_set values m NOTHING)) p ∙ get_or-set_same values m NOTHING 0 h)
  | no p ↦ go p (a q (let n = length-set values m NOTHING in omega (arith, l, n)))
]
  where
    go : q ≢ m → (slice_index values q ≡ NOTHING) ⊎ ((k : ℕ) × (i ≤ k) × (k < length mirrors) × (slice_index mirrors k ≡ q)) → (slice_index (slice_set values m NOTHING) q ≡ NOTHING) ⊎ ((k : ℕ) × (i + 1 ≤ k) × (k < length mirrors) × (slice_index mirrors k ≡ q))
    go p (inl z) = inl (get_or-set_other values m q NOTHING 0 p ∙ z)
    go p (inr k) = elim (ℕ_discrete k.0 i) [
      | yes s ↦ absurd (p (sym k.3 ∙ ap (slice_index mirrors) s ∙ sym e))
      | no s ↦ inr (k.0, (let le = k.1 in omega (arith, le, s)), k.2, k.3)
    ]

pub cleared-all : (values mirrors : List ℕ) (i : ℕ) → AreListedFrom values mirrors i → length mirrors ≤ i → values ≡ replicate (length values) NOTHING
cleared-all values mirrors i a h =
    same_number_lists values (replicate (length values) NOTHING) (sym (length-replicate (length values) NOTHING)) (λ m l. go m l (a m l))
  where
    go : (m : ℕ) → m < length values → (slice_index values m ≡ NOTHING) ⊎ ((k : ℕ) × (i ≤ k) × (k < length mirrors) × (slice_index mirrors k ≡ m)) → slice_index values m ≡ slice_index (replicate (length values) NOTHING) m
    go m l (inl e) = e ∙ sym (get_or-replicate (length values) m NOTHING 0 l)
    go m l (inr k) = absurd (let le = k.1 in let lt = k.2 in omega (arith, le, lt, h))

-- the meets with what is left in the others
pub merged-more : (o : Order) (values others : List ℕ) (m : ℕ) → m < length values → m < length others → slice_index values m < 2 ^ 64 → (q : ℕ) → meet_of o (slice_index (slice_set values m (meet_of o (slice_index values m) (slice_index others m))) q) (slice_index (slice_set others m NOTHING) q) ≡ meet_of o (slice_index values q) (slice_index others q)
merged-more o values others m h k f q =
    let w = meet_of o (slice_index values m) (slice_index others m) in
    elim (ℕ_discrete q m) [
      | yes p ↦
          (λ t. meet_of o (slice_index (slice_set values m w) (p t)) (slice_index (slice_set others m NOTHING) (p t)))
          ∙ (λ t. meet_of o (get_or-set_same values m w 0 h t) (get_or-set_same others m NOTHING 0 k t))
          ∙ meet-fits o w (let le = meet-le_l o (slice_index values m) (slice_index others m) in omega (arith, le, f))
          ∙ (λ t. meet_of o (slice_index values (sym p t)) (slice_index others (sym p t)))
      | no p ↦ λ t. meet_of o (get_or-set_other values m q w 0 p t) (get_or-set_other others m q NOTHING 0 p t)
    ]

-- a loop that is through has met all values
pub merged-all : (o : Order) (values others values_old others_old : List ℕ) → All (λ v. v < 2 ^ 64) values → length values ≡ length values_old → length others_old ≡ length values_old → others ≡ replicate (length values_old) NOTHING →
    ((q : ℕ) → meet_of o (slice_index values q) (slice_index others q) ≡ meet_of o (slice_index values_old q) (slice_index others_old q)) → values ≡ meets_of o values_old others_old
merged-all o values others values_old others_old f e n z met =
    same_number_lists values (meets_of o values_old others_old) (e ∙ sym (meets_of-length o (length values_old) values_old others_old refl n)) (λ q l.
    let lt : q < length values_old = omega (arith, l, e) in
    let fit : slice_index values q < 2 ^ 64 = f q 0 l in
    let left : slice_index others q ≡ NOTHING = ap (λ x. slice_index x q) z ∙ get_or-replicate (length values_old) q NOTHING 0 lt in
    sym (meet-fits o (slice_index values q) fit) ∙ ap (meet_of o (slice_index values q)) (sym left) ∙ met q ∙ sym (meets_of-at o values_old others_old q lt (omega (arith, lt, n))))
