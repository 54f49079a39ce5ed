-- What late values come to, value by value and together.
use Rattle.std.proofs.Common.{◌≡◌, ◌≢◌, ℕ, zero, suc, ◌+◌, ◌<◌, ◌≤◌, Bool, false, ◌&&◌, ◌==◌, cond, map, filter, refl, sym, ◌∙◌, ap, subst, arith, List, [], ◌∷◌, ◌++◌, length, get_or, set}
use Rattle.std.proofs.lemmas.Bool.{ne_eqb, eq-eqb, and_from, and_left, and_right}
use Rattle.value_order.specs.declared.order.Order.{Order}
use Rattle.value_order.specs.Order.{meet_of, meet_all}
use Rattle.token_cut.specs.Parts.{PartValues, no_part, part_at}
use Rattle.token_cut.specs.CutValues.{CutValues}
use Rattle.token_cut.specs.Recording.{after_late, with_value}
use Rattle.token_cut.specs.Late.{LateValue, after_all_late, late_values, mail_lowered, part_lowered, parts_lowered, lowered_by, LateValuesAreMet}

-- ---- one part

mail_same : (o : Order) (b : ℕ) (f g : ℕ → List ℕ) (mail : List ℕ) → ((q : ℕ) → b ≤ q → f q ≡ g q) → mail_lowered o b f mail ≡ mail_lowered o b g mail
mail_same o b f g [] h = refl
mail_same o b f g (x ∷ mail) h =
    let here = h b (omega arith) in
    let rest = mail_same o (b + 1) f g mail (λ q l. h q (omega (arith, l))) in
    λ i. meet_all o x (here i) ∷ rest i

-- one value more for the mirror at place i, which comes first
mail_more : (o : Order) (b i v : ℕ) (f g : ℕ → List ℕ) (mail : List ℕ) → g (b + i) ≡ v ∷ f (b + i) → ((q : ℕ) → q ≢ b + i → g q ≡ f q) →
    mail_lowered o b f (set mail i (meet_of o (get_or mail i 0) v)) ≡ mail_lowered o b g mail
mail_more o b i v f g [] here there = refl
mail_more o b zero v f g (x ∷ mail) here there =
    let e : b + 0 ≡ b = omega arith in
    let mine : g b ≡ v ∷ f b = subst (λ q. g q ≡ v ∷ f q) e here in
    let rest = mail_same o (b + 1) f g mail (λ q l. sym (there q (λ same. omega (arith, same, l)))) in
    λ j. meet_all o x (sym mine j) ∷ rest j
mail_more o b (suc i) v f g (x ∷ mail) here there =
    let e : b + suc i ≡ (b + 1) + i = omega arith in
    let mine = there b (λ same. omega (arith, same)) in
    let rest = mail_more o (b + 1) i v f g mail (subst (λ q. g q ≡ v ∷ f q) e here) (λ q ne. there q (λ same. ne (same ∙ e))) in
    λ j. meet_all o x (sym mine j) ∷ rest j

pub part_more : (o : Order) (m v : ℕ) (f g : ℕ → List ℕ) (part : PartValues) → g m ≡ v ∷ f m → ((q : ℕ) → q ≢ m → g q ≡ f q) →
    part_lowered o f (with_value o m v part) ≡ part_lowered o g part
part_more o m v f g part here there =
    let e : m ≡ 0 + m = omega arith in
    let mail = mail_more o 0 m v f g part.mail (subst (λ q. g q ≡ v ∷ f q) e here) (λ q ne. there q (λ same. ne (same ∙ e))) in
    ap (λ (l : List ℕ). record { phase = part.phase; values = part.values; mail = l }) mail

-- ---- all parts

parts_same : (o : Order) (a : ℕ) (f g : ℕ → ℕ → List ℕ) (parts : List PartValues) → ((j q : ℕ) → a ≤ j → f j q ≡ g j q) → parts_lowered o a f parts ≡ parts_lowered o a g parts
parts_same o a f g [] h = refl
parts_same o a f g (part ∷ parts) h =
    let rest = parts_same o (a + 1) f g parts (λ j q l. h j q (omega (arith, l))) in
    let low : a ≤ a = omega arith in
    λ i. part_lowered o (λ q. h a q low i) part ∷ rest i

parts_more : (o : Order) (a i m v : ℕ) (f g : ℕ → ℕ → List ℕ) (parts : List PartValues) → g (a + i) m ≡ v ∷ f (a + i) m → ((j q : ℕ) → j ≢ a + i → g j q ≡ f j q) → ((q : ℕ) → q ≢ m → g (a + i) q ≡ f (a + i) q) →
    parts_lowered o a f (set parts i (with_value o m v (get_or parts i no_part))) ≡ parts_lowered o a g parts
parts_more o a i m v f g [] here others mirrors = refl
parts_more o a zero m v f g (part ∷ parts) here others mirrors =
    let e : a + 0 ≡ a = omega arith in
    let mine = part_more o m v (f a) (g a) part (subst (λ j. g j m ≡ v ∷ f j m) e here) (subst (λ j. (q : ℕ) → q ≢ m → g j q ≡ f j q) e mirrors) in
    let rest = parts_same o (a + 1) f g parts (λ j q l. sym (others j q (λ same. omega (arith, same, l)))) in
    λ k. mine k ∷ rest k
parts_more o a (suc i) m v f g (part ∷ parts) here others mirrors =
    let e : a + suc i ≡ (a + 1) + i = omega arith in
    let rest = parts_more o (a + 1) i m v f g parts (subst (λ j. g j m ≡ v ∷ f j m) e here) (λ j q ne. others j q (λ same. ne (same ∙ e))) (subst (λ j. (q : ℕ) → q ≢ m → g j q ≡ f j q) e mirrors) in
    let apart : a ≢ a + suc i = λ same. omega (arith, same) in
    λ k. part_lowered o (λ q. sym (others a q apart) k) part ∷ rest k

-- ---- none, and values after others

mail_none : (o : Order) (b : ℕ) (mail : List ℕ) → mail_lowered o b (λ m. []) mail ≡ mail
mail_none o b [] = refl
mail_none o b (x ∷ mail) = ap (λ l. x ∷ l) (mail_none o (b + 1) mail)

with_mail : (part : PartValues) (xs ys : List ℕ) → xs ≡ ys →
    (let a : PartValues = record { phase = part.phase; values = part.values; mail = xs } in
    let b : PartValues = record { phase = part.phase; values = part.values; mail = ys } in
    a ≡ b)
with_mail part xs ys e = ap (λ (l : List ℕ). record { phase = part.phase; values = part.values; mail = l }) e

pub part_none : (o : Order) (part : PartValues) → part_lowered o (λ m. []) part ≡ part
part_none o part = with_mail part (mail_lowered o 0 (λ m. []) part.mail) part.mail (mail_none o 0 part.mail)

parts_none : (o : Order) (a : ℕ) (parts : List PartValues) → parts_lowered o a (λ k m. []) parts ≡ parts
parts_none o a [] = refl
parts_none o a (part ∷ parts) =
    let here = part_none o part in
    let rest = parts_none o (a + 1) parts in
    λ i. here i ∷ rest i

meet_all-append : (o : Order) (x : ℕ) (xs ys : List ℕ) → meet_all o (meet_all o x xs) ys ≡ meet_all o x (xs ++ ys)
meet_all-append o x [] ys = refl
meet_all-append o x (y ∷ xs) ys = meet_all-append o (meet_of o x y) xs ys

mail_joined : (o : Order) (b : ℕ) (f g : ℕ → List ℕ) (mail : List ℕ) → mail_lowered o b g (mail_lowered o b f mail) ≡ mail_lowered o b (λ m. f m ++ g m) mail
mail_joined o b f g [] = refl
mail_joined o b f g (x ∷ mail) =
    let here = meet_all-append o x (f b) (g b) in
    let rest = mail_joined o (b + 1) f g mail in
    λ i. here i ∷ rest i

parts_joined : (o : Order) (a : ℕ) (f g : ℕ → ℕ → List ℕ) (parts : List PartValues) → parts_lowered o a g (parts_lowered o a f parts) ≡ parts_lowered o a (λ k m. f k m ++ g k m) parts
parts_joined o a f g [] = refl
parts_joined o a f g (part ∷ parts) =
    let mail = mail_joined o 0 (f a) (g a) part.mail in
    let here = with_mail part (mail_lowered o 0 (g a) (mail_lowered o 0 (f a) part.mail)) (mail_lowered o 0 (λ m. f a m ++ g a m) part.mail) mail in
    let rest = parts_joined o (a + 1) f g parts in
    λ i. here i ∷ rest i

-- ---- the words of a list of late values

abbrev is_for : ℕ → ℕ → LateValue → Bool
is_for k m l = (l.worker == k) && (l.mirror == m)

-- a late value is one more for its mirror
pub late_here : (l : LateValue) (late : List LateValue) → late_values l.worker l.mirror (l ∷ late) ≡ l.value ∷ late_values l.worker l.mirror late
late_here l late =
    let e = and_from (l.worker == l.worker) (l.mirror == l.mirror) (eq-eqb l.worker l.worker refl) (eq-eqb l.mirror l.mirror refl) in
    let fs = filter (is_for l.worker l.mirror) late in
    ap (λ b. map (λ (x : LateValue). x.value) (cond b (l ∷ fs) fs)) e

-- and none for another
late_other : (l : LateValue) (late : List LateValue) (k m : ℕ) → is_for k m l ≡ false → late_values k m (l ∷ late) ≡ late_values k m late
late_other l late k m e = let fs = filter (is_for k m) late in ap (λ b. map (λ (x : LateValue). x.value) (cond b (l ∷ fs) fs)) e

pub late_elsewhere : (l : LateValue) (late : List LateValue) (k m : ℕ) → (l.worker == k) ≡ false → late_values k m (l ∷ late) ≡ late_values k m late
late_elsewhere l late k m e = late_other l late k m (and_left (l.worker == k) (l.mirror == m) e)

pub late_beside : (l : LateValue) (late : List LateValue) (k m : ℕ) → m ≢ l.mirror → late_values k m (l ∷ late) ≡ late_values k m late
late_beside l late k m ne = late_other l late k m (and_right (l.worker == k) (l.mirror == m) (ne_eqb l.mirror m (λ same. ne (sym same))))

-- ---- the law

with_parts : (c : CutValues) (xs ys : List PartValues) → xs ≡ ys →
    (let a : CutValues = record { order = c.order; epoch = c.epoch; recording = c.recording; marked = c.marked; parts = xs } in
    let b : CutValues = record { order = c.order; epoch = c.epoch; recording = c.recording; marked = c.marked; parts = ys } in
    a ≡ b)
with_parts c xs ys e = ap (λ (parts : List PartValues). record { order = c.order; epoch = c.epoch; recording = c.recording; marked = c.marked; parts = parts }) e

one_late : (c : CutValues) (l : LateValue) (late : List LateValue) →
    parts_lowered c.order 0 (λ k m. late_values k m late) (after_late l.worker l.mirror l.value c).parts ≡ parts_lowered c.order 0 (λ k m. late_values k m (l ∷ late)) c.parts
one_late c l late =
    let f = λ (k m : ℕ). late_values k m late in
    let g = λ (k m : ℕ). late_values k m (l ∷ late) in
    let e : l.worker ≡ 0 + l.worker = omega arith in
    parts_more c.order 0 l.worker l.mirror l.value f g c.parts
    (subst (λ j. g j l.mirror ≡ l.value ∷ f j l.mirror) e (late_here l late))
    (λ j q ne. late_elsewhere l late j q (ne_eqb l.worker j (λ same. ne (sym same ∙ e))))
    (λ q ne. late_beside l late (0 + l.worker) q ne)

all_met : (late : List LateValue) (c : CutValues) → after_all_late late c ≡ lowered_by (λ k m. late_values k m late) c
all_met [] c = with_parts c c.parts (parts_lowered c.order 0 (λ k m. []) c.parts) (sym (parts_none c.order 0 c.parts))
all_met (l ∷ late) c =
    all_met late (after_late l.worker l.mirror l.value c)
    ∙ with_parts c (parts_lowered c.order 0 (λ k m. late_values k m late) (after_late l.worker l.mirror l.value c).parts) (parts_lowered c.order 0 (λ k m. late_values k m (l ∷ late)) c.parts) (one_late c l late)

mirror_is : (o : Order) (b : ℕ) (came : ℕ → List ℕ) (mail : List ℕ) (m : ℕ) → m < length mail → get_or (mail_lowered o b came mail) m 0 ≡ meet_all o (get_or mail m 0) (came (b + m))
mirror_is o b came [] m h = absurd (omega (arith, h))
mirror_is o b came (x ∷ mail) zero h = let e : b ≡ b + 0 = omega arith in ap (λ q. meet_all o x (came q)) e
mirror_is o b came (x ∷ mail) (suc m) h =
    let e : (b + 1) + m ≡ b + suc m = omega arith in
    mirror_is o (b + 1) came mail m (omega (arith, h)) ∙ ap (λ q. meet_all o (get_or mail m 0) (came q)) e

worker_is : (o : Order) (a : ℕ) (came : ℕ → ℕ → List ℕ) (parts : List PartValues) (k : ℕ) → k < length parts → part_at k (parts_lowered o a came parts) ≡ part_lowered o (came (a + k)) (part_at k parts)
worker_is o a came [] k h = absurd (omega (arith, h))
worker_is o a came (part ∷ parts) zero h = let e : a ≡ a + 0 = omega arith in ap (λ j. part_lowered o (came j) part) e
worker_is o a came (part ∷ parts) (suc k) h =
    let e : (a + 1) + k ≡ a + suc k = omega arith in
    worker_is o (a + 1) came parts k (omega (arith, h)) ∙ ap (λ j. part_lowered o (came j) (part_at k parts)) e

pub late_values_are_met : LateValuesAreMet
late_values_are_met = record {
  all = all_met;
  workers = λ o came parts k h. let e : 0 + k ≡ k = omega arith in worker_is o 0 came parts k h ∙ ap (λ j. part_lowered o (came j) (part_at k parts)) e;
  mirrors = λ o came mail m h. let e : 0 + m ≡ m = omega arith in mirror_is o 0 came mail m h ∙ ap (λ q. meet_all o (get_or mail m 0) (came q)) e;
  none = λ c. with_parts c (parts_lowered c.order 0 (λ k m. []) c.parts) c.parts (parts_none c.order 0 c.parts);
  joined = λ earlier later c. with_parts c (parts_lowered c.order 0 later (parts_lowered c.order 0 earlier c.parts)) (parts_lowered c.order 0 (λ k m. earlier k m ++ later k m) c.parts) (parts_joined c.order 0 earlier later c.parts);
}
