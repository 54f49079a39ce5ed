-- Lemmas on repeats.
use Rattle.std.proofs.Common.{◌≡◌, refl, sym, ap, ◌∙◌, subst, ℕ, zero, suc, ◌+◌, ◌-◌, ◌*◌, ◌<◌, ◌≤◌, ◌≢◌, Bool, true, false, cond, List, [], ◌∷◌, ◌++◌, length, take, drop, replicate, get_or, slice_get, slice_index, ◌==◌, arith, append_assoc, length-append, add_assoc, inl, inr}
use Rattle.std.specs.Prelude.{◌⊎◌, ◌↔◌, reverse, IsNone, Option, Some, None}
use Rattle.std.proofs.lemmas.List.{length-replicate, replicate_more, take-append-le, take-append-drop, append-nil, reverse-append}
use Rattle.std.proofs.lemmas.Option.{same_Some}
use Rattle.std.proofs.lemmas.Bool.{eq-eqb}
use Rattle.std.proofs.Math.Dec.{eqb→eq}
use Rattle.std.proofs.Math.Nat.{eq-or-lt_of_le}
use Rattle.std.proofs.Math.ListN.{get_or-append}
use Rattle.std.proofs.Math.Seq.{take-append_seam, get_or-append_seam}
use Rattle.std.specs.Prelude.{T, if◌then◌else◌}
use Rattle.grape_event.specs.declared.event.Event.{Event}
use Rattle.grape_event.specs.declared.event.Event.TheVariants as event
use Rattle.grape_event.specs.declared.packed.Packed.{Packed}
use Rattle.grape_event.specs.declared.packed.Packed.TheVariants as packed
use Rattle.grape_event.specs.declared.repeat.Repeat.{Repeat}
use Rattle.grape_event.specs.Events.{is_last}
use Rattle.grape_event.specs.Journals.{has_ended}
use Rattle.grape_event.specs.Packing.{unpacked, wide_at, event_of, times, total, expand, IsFound, IsOneMore, Rise, AreRepeats, IsLast}

-- ---- how many

lt_or_le : (i n : ℕ) → (i < n) ⊎ (n ≤ i)
lt_or_le zero zero = inr (omega arith)
lt_or_le zero (suc n) = inl (omega arith)
lt_or_le (suc i) zero = inr (omega arith)
lt_or_le (suc i) (suc n) = elim (lt_or_le i n) [ inl lt ↦ inl (omega arith) | inr le ↦ inr (omega arith) ]

lt_or_eq : (i n : ℕ) → i < n + 1 → (i < n) ⊎ (i ≡ n)
lt_or_eq i n h = let le : i ≤ n = omega arith in elim (eq-or-lt_of_le le) [ inl same ↦ inr same | inr lt ↦ inl lt ]

pub length-expand : (ps : List ℕ) (es : List Event) (place : ℕ) (repeats : List Repeat) → length (expand ps es place repeats) ≡ total repeats
length-expand ps es place [] = refl
length-expand ps es place (r ∷ rs) = omega (arith, length-append (replicate (times r) (event_of ps es place r)) (expand ps es (place + times r) rs), length-replicate (times r) (event_of ps es place r), length-expand ps es (place + times r) rs)

pub total-append : (repeats more : List Repeat) → total (repeats ++ more) ≡ total repeats + total more
total-append [] more = omega arith
total-append (r ∷ rs) more = omega (arith, total-append rs more)

pub expand-append : (ps : List ℕ) (es : List Event) (place : ℕ) (repeats more : List Repeat) → expand ps es place (repeats ++ more) ≡ expand ps es place repeats ++ expand ps es (place + total repeats) more
expand-append ps es place [] more = ap (λ n. expand ps es n more) (omega arith)
expand-append ps es place (r ∷ rs) more =
    let far : expand ps es ((place + times r) + total rs) more ≡ expand ps es (place + (times r + total rs)) more = ap (λ n. expand ps es n more) (add_assoc place (times r) (total rs)) in
    ap (λ xs. replicate (times r) (event_of ps es place r) ++ xs) (expand-append ps es (place + times r) rs more ∙ ap (λ xs. expand ps es (place + times r) rs ++ xs) far)
    ∙ sym (append_assoc (replicate (times r) (event_of ps es place r)) (expand ps es (place + times r) rs) (expand ps es (place + (times r + total rs)) more))

-- ---- a search

-- what stands in a repeat, and what stands behind it
in_repeat : (n : ℕ) (e : Event) (xs : List Event) (i : ℕ) → i < n → slice_get (replicate n e ++ xs) i ≡ Some e
in_repeat zero e xs i h = absurd (omega arith)
in_repeat (suc n) e xs zero h = refl
in_repeat (suc n) e xs (suc i) h = in_repeat n e xs i (omega arith)

pub behind : (before xs : List Event) (i : ℕ) → length before ≤ i → slice_get (before ++ xs) i ≡ slice_get xs (i - length before)
behind [] xs i h = ap (λ n. slice_get xs n) (omega arith)
behind (b ∷ bs) xs zero h = absurd (omega arith)
behind (b ∷ bs) xs (suc i) h =
    let same : i - length bs ≡ suc i - suc (length bs) = omega arith in
    behind bs xs i (omega arith) ∙ ap (λ n. slice_get xs n) same

pub found_here : (repeat : Repeat) (repeats : List Repeat) (left : ℕ) → left ≤ repeat.more → IsFound (repeat ∷ repeats) left (Some (repeat, left))
found_here repeat repeats left h = (
  omega arith,
  λ ps es place.
      let there : slice_get (expand ps es place (repeat ∷ repeats)) left ≡ Some (event_of ps es place repeat) = in_repeat (times repeat) (event_of ps es place repeat) (expand ps es (place + times repeat) repeats) left (omega arith) in
      let same : place ≡ place + (left - left) = omega arith in
      there ∙ ap (λ n. Some (event_of ps es n repeat)) same,
)

pub found_later : (repeat : Repeat) (repeats : List Repeat) (left : ℕ) → repeat.more < left → (found : Option (Repeat × ℕ)) → IsFound repeats (left - (repeat.more + 1)) found → IsFound (repeat ∷ repeats) left found
found_later repeat repeats left h None is = omega arith
found_later repeat repeats left h (Some (other, rest)) is = (
  omega (arith, is.0),
  λ ps es place.
      let before = replicate (times repeat) (event_of ps es place repeat) in
      let long : length before ≡ times repeat = length-replicate (times repeat) (event_of ps es place repeat) in
      let past : slice_get (before ++ expand ps es (place + times repeat) repeats) left ≡ slice_get (expand ps es (place + times repeat) repeats) (left - length before) = behind before (expand ps es (place + times repeat) repeats) left (omega arith) in
      let at : slice_get (expand ps es (place + times repeat) repeats) (left - length before) ≡ slice_get (expand ps es (place + times repeat) repeats) (left - (repeat.more + 1)) = ap (λ n. slice_get (expand ps es (place + times repeat) repeats) (left - n)) long in
      let same : (place + times repeat) + ((left - (repeat.more + 1)) - rest) ≡ place + (left - rest) = omega (arith, is.0) in
      past ∙ at ∙ is.1 ps es (place + times repeat) ∙ ap (λ n. Some (event_of ps es n other)) same,
)

-- ---- wide events

wide_cond : (b : Bool) (x y : Event) → b ≡ true → cond b x y ≡ x
wide_cond true x y h = refl
wide_cond false x y h = cc

other_cond : (b : Bool) (x y : Event) → b ≡ false → cond b x y ≡ y
other_cond true x y h = cc
other_cond false x y h = refl

-- no wide event is kept for the place
pub wide_at-none : (ps : List ℕ) (es : List Event) (place : ℕ) → ((i : ℕ) → i < length ps → slice_index ps i ≢ place) → wide_at ps es place ≡ event.End
wide_at-none [] es place h = refl
wide_at-none (p ∷ ps) [] place h = refl
wide_at-none (p ∷ ps) (e ∷ es) place h =
    other_cond (p == place) e (wide_at ps es place) (let ne : p ≢ place = h 0 (omega arith) in grind arith)
    ∙ wide_at-none ps es place (λ i lt. h (suc i) (omega arith))

pub wide_at-some : (ps : List ℕ) (es : List Event) (i : ℕ) → length ps ≡ length es → Rise ps → i < length ps → slice_get es i ≡ Some (wide_at ps es (slice_index ps i))
wide_at-some [] es i long rise h = absurd (omega arith)
wide_at-some (p ∷ ps) [] i long rise h = absurd (omega arith)
wide_at-some (p ∷ ps) (e ∷ es) zero long rise h = ap Some (sym (wide_cond (p == p) e (wide_at ps es p) (grind arith)))
wide_at-some (p ∷ ps) (e ∷ es) (suc i) long rise h =
    let q = slice_index ps i in
    let lower : p < q = rise 0 (suc i) (omega arith) (omega arith) in
    let other : p == q ≡ false = grind arith in
    wide_at-some ps es i (omega arith) (λ a b lt in_b. rise (suc a) (suc b) (omega arith) (omega arith)) (omega arith)
    ∙ ap Some (sym (other_cond (p == q) e (wide_at ps es q) other))

-- one wide event more, for a later place
pub wide_at-kept : (ps : List ℕ) (es : List Event) (q : ℕ) (e : Event) (place : ℕ) → length ps ≡ length es → place ≢ q → wide_at (ps ++ q ∷ []) (es ++ e ∷ []) place ≡ wide_at ps es place
wide_at-kept [] [] q e place long h = other_cond (q == place) e event.End (let ne : q ≢ place = λ same. h (sym same) in grind arith)
wide_at-kept [] (x ∷ es) q e place long h = absurd (omega arith)
wide_at-kept (p ∷ ps) [] q e place long h = absurd (omega arith)
wide_at-kept (p ∷ ps) (x ∷ es) q e place long h = ap (λ y. cond (p == place) x y) (wide_at-kept ps es q e place (omega arith) h)

pub wide_at-new : (ps : List ℕ) (es : List Event) (q : ℕ) (e : Event) → length ps ≡ length es → ((i : ℕ) → i < length ps → slice_index ps i < q) → wide_at (ps ++ q ∷ []) (es ++ e ∷ []) q ≡ e
wide_at-new [] [] q e long h = wide_cond (q == q) e event.End (grind arith)
wide_at-new [] (x ∷ es) q e long h = absurd (omega arith)
wide_at-new (p ∷ ps) [] q e long h = absurd (omega arith)
wide_at-new (p ∷ ps) (x ∷ es) q e long h =
    let lower : p < q = h 0 (omega arith) in
    let other : p == q ≡ false = grind arith in
    other_cond (p == q) x (wide_at (ps ++ q ∷ []) (es ++ e ∷ []) q) other ∙ wide_at-new ps es q e (omega arith) (λ i lt. h (suc i) (omega arith))

pub expand-kept : (ps : List ℕ) (es : List Event) (q : ℕ) (e : Event) (place : ℕ) (repeats : List Repeat) → length ps ≡ length es → place + total repeats ≤ q → expand (ps ++ q ∷ []) (es ++ e ∷ []) place repeats ≡ expand ps es place repeats
expand-kept ps es q e place [] long h = refl
expand-kept ps es q e place (r ∷ rs) long h =
    let same : wide_at (ps ++ q ∷ []) (es ++ e ∷ []) place ≡ wide_at ps es place = wide_at-kept ps es q e place long (omega arith) in
    let first : replicate (times r) (event_of (ps ++ q ∷ []) (es ++ e ∷ []) place r) ≡ replicate (times r) (event_of ps es place r) = ap (λ w. replicate (times r) (unpacked w r.event)) same in
    let rest : expand (ps ++ q ∷ []) (es ++ e ∷ []) (place + times r) rs ≡ expand ps es (place + times r) rs = expand-kept ps es q e (place + times r) rs long (omega arith) in
    ap (λ xs. xs ++ expand (ps ++ q ∷ []) (es ++ e ∷ []) (place + times r) rs) first ∙ ap (λ xs. replicate (times r) (event_of ps es place r) ++ xs) rest

-- a packed event is wide, or stands for itself
wide_or_not : (p : Packed) → (p ≡ packed.Wide) ⊎ ((p ≢ packed.Wide) × ((a b : Event) → unpacked a p ≡ unpacked b p))
wide_or_not packed.Wide = inl refl
wide_or_not (packed.Take i k) = inr ((λ h. cc), λ a b. refl)
wide_or_not (packed.Give i) = inr ((λ h. cc), λ a b. refl)
wide_or_not (packed.Stretch i n) = inr ((λ h. cc), λ a b. refl)
wide_or_not (packed.Hold i) = inr ((λ h. cc), λ a b. refl)
wide_or_not (packed.Flag i) = inr ((λ h. cc), λ a b. refl)
wide_or_not packed.Ask = inr ((λ h. cc), λ a b. refl)
wide_or_not (packed.Ack i) = inr ((λ h. cc), λ a b. refl)
wide_or_not (packed.Nack i) = inr ((λ h. cc), λ a b. refl)
wide_or_not (packed.Begin n) = inr ((λ h. cc), λ a b. refl)
wide_or_not (packed.Mark i) = inr ((λ h. cc), λ a b. refl)
wide_or_not (packed.Seal n) = inr ((λ h. cc), λ a b. refl)
wide_or_not (packed.Kept n) = inr ((λ h. cc), λ a b. refl)
wide_or_not packed.End = inr ((λ h. cc), λ a b. refl)
wide_or_not packed.DiskStop = inr ((λ h. cc), λ a b. refl)
wide_or_not packed.MemoryStop = inr ((λ h. cc), λ a b. refl)

-- ---- the last event

last_pushed : (xs : List Event) (e : Event) → slice_get (xs ++ e ∷ []) (length (xs ++ e ∷ []) - 1) ≡ Some e
last_pushed xs e =
    let at : length (xs ++ e ∷ []) - 1 ≡ length xs = omega (arith, length-append xs (e ∷ [])) in
    let none : length xs - length xs ≡ 0 = omega arith in
    ap (λ n. slice_get (xs ++ e ∷ []) n) at ∙ behind xs (e ∷ []) (length xs) (omega arith) ∙ ap (λ n. slice_get (e ∷ []) n) none

-- a list is empty, or has a last event
fronted : (xs : List Event) → (xs ≡ []) ⊎ ((front : List Event) × (e : Event) × (xs ≡ front ++ e ∷ []))
fronted [] = inl refl
fronted (x ∷ xs) = elim (fronted xs) [
  | inl none ↦ inr ([], x, ap (λ ys. x ∷ ys) none)
  | inr (front, e, is) ↦ inr (x ∷ front, e, ap (λ ys. x ∷ ys) is)
]

pub none_ended : (events : List Event) → IsLast None events → has_ended (reverse events) ≡ false
none_ended events last = elim (fronted events) [
  | inl none ↦ ap (λ xs. has_ended (reverse xs)) none
  | inr (front, e, is) ↦
      let there : slice_get events (length events - 1) ≡ Some e = subst (λ xs. slice_get xs (length xs - 1) ≡ Some e) (sym is) (last_pushed front e) in
      cc
]

pub some_ended : (events : List Event) (event : Event) → IsLast (Some event) events → is_last event ≡ has_ended (reverse events)
some_ended events event last = elim (fronted events) [
  | inl none ↦
      let there : slice_get events (length events - 1) ≡ None = ap (λ xs. slice_get xs (length xs - 1)) none in
      cc
  | inr (front, e, is) ↦
      let there : slice_get events (length events - 1) ≡ Some e = subst (λ xs. slice_get xs (length xs - 1) ≡ Some e) (sym is) (last_pushed front e) in
      let same : event ≡ e = same_Some event e (last ∙ there) in
      let turned : reverse events ≡ e ∷ reverse front = ap reverse is ∙ reverse-append front (e ∷ []) in
      ap is_last same ∙ sym (ap has_ended turned)
]

pub no_last : (last : Option Event) (events : List Event) → IsLast last events → IsNone last ↔ (events ≡ [])
no_last None events last = elim (fronted events) [
  | inl none ↦ ((λ h. none), λ h. refl)
  | inr (front, e, is) ↦
      let there : slice_get events (length events - 1) ≡ Some e = subst (λ xs. slice_get xs (length xs - 1) ≡ Some e) (sym is) (last_pushed front e) in
      let no : ⊥ = cc in
      absurd no
]
no_last (Some event) events last = (
  (λ h. let no : ⊥ = cc in absurd no),
  λ none.
      let there : slice_get events (length events - 1) ≡ None = ap (λ xs. slice_get xs (length xs - 1)) none in
      let no : ⊥ = cc in
      absurd no,
)

-- ---- one event more

-- what a push makes of the repeats
pub record Pushed (repeats new_repeats : List Repeat) (starts new_starts places new_places : List ℕ) (wides new_wides : List Event) (count : ℕ) (event : Event) : Type 0 where
  pub events : expand new_places new_wides 0 new_repeats ≡ expand places wides 0 repeats ++ event ∷ []
  pub are_repeats : AreRepeats new_repeats new_starts new_places new_wides (count + 1)

pub last_of_push : (events new : List Event) (event : Event) → new ≡ events ++ event ∷ [] → IsLast (Some event) new
last_of_push events new event is = sym (subst (λ xs. slice_get xs (length xs - 1) ≡ Some event) (sym is) (last_pushed events event))

repeat_longer : (xs : List Event) (n : ℕ) (e : Event) → (xs ++ (replicate (n + 1 + 1) e ++ [])) ≡ (xs ++ (replicate (n + 1) e ++ [])) ++ e ∷ []
repeat_longer xs n e =
    let one : replicate (n + 1 + 1) e ≡ replicate (n + 1) e ++ e ∷ [] = sym (replicate_more (n + 1) e) in
    ap (λ ys. xs ++ ys) (append-nil (replicate (n + 1 + 1) e) ∙ one)
    ∙ sym (append_assoc xs (replicate (n + 1) e) (e ∷ []))
    ∙ ap (λ ys. (xs ++ ys) ++ e ∷ []) (sym (append-nil (replicate (n + 1) e)))

repeat_last : (xs : List Event) (n : ℕ) (e : Event) → slice_get (xs ++ (replicate (n + 1) e ++ [])) (length (xs ++ (replicate (n + 1) e ++ [])) - 1) ≡ Some e
repeat_last xs n e =
    let is : xs ++ (replicate (n + 1) e ++ []) ≡ (xs ++ replicate n e) ++ e ∷ [] =
    ap (λ ys. xs ++ ys) (append-nil (replicate (n + 1) e) ∙ sym (replicate_more n e)) ∙ sym (append_assoc xs (replicate n e) (e ∷ [])) in
    subst (λ ys. slice_get ys (length ys - 1) ≡ Some e) (sym is) (last_pushed (xs ++ replicate n e) e)

taken_front : (front : List Repeat) (r q : Repeat) (b : ℕ) → 64 * b < length front + 1 → total (take (64 * b) (front ++ r ∷ [])) ≡ total (take (64 * b) (front ++ q ∷ []))
taken_front front r q b h = ap total (take-append-le (64 * b) front (r ∷ []) (omega arith) ∙ sym (take-append-le (64 * b) front (q ∷ []) (omega arith)))

longer_repeats : (front : List Repeat) (r : Repeat) (starts ps : List ℕ) (es : List Event) (count : ℕ) → AreRepeats (front ++ r ∷ []) starts ps es count
    → AreRepeats (front ++ record { event = r.event; more = r.more + 1 } ∷ []) starts ps es (count + 1)
longer_repeats front r starts ps es count fits =
    let q : Repeat = record { event = r.event; more = r.more + 1 } in
    let was : total (front ++ r ∷ []) ≡ total front + (times r + 0) = total-append front (r ∷ []) in
    let is : total (front ++ q ∷ []) ≡ total front + (times q + 0) = total-append front (q ∷ []) in
    let len : length (front ++ r ∷ []) ≡ length front + 1 = length-append front (r ∷ []) in
    let len_q : length (front ++ q ∷ []) ≡ length front + 1 = length-append front (q ∷ []) in
    record {
      counted = omega (arith, fits.counted, was, is);
      started = λ b h. fits.started b h ∙ taken_front front r q b (omega (arith, fits.needed, len));
      covered = omega (arith, fits.covered, len, len_q);
      needed = omega (arith, fits.needed, len, len_q);
      paired = fits.paired;
      rise = fits.rise;
      below = λ i h. omega (arith, fits.below i h);
    }

longer_events : (front : List Repeat) (r : Repeat) (ps : List ℕ) (es : List Event) →
    let q : Repeat = record { event = r.event; more = r.more + 1 } in
    expand ps es 0 (front ++ q ∷ []) ≡ expand ps es 0 (front ++ r ∷ []) ++ event_of ps es (0 + total front) r ∷ []
longer_events front r ps es =
    let q : Repeat = record { event = r.event; more = r.more + 1 } in
    expand-append ps es 0 front (q ∷ []) ∙ repeat_longer (expand ps es 0 front) r.more (event_of ps es (0 + total front) r)
    ∙ ap (λ xs. xs ++ event_of ps es (0 + total front) r ∷ []) (sym (expand-append ps es 0 front (r ∷ [])))

longer_last : (front : List Repeat) (r : Repeat) (ps : List ℕ) (es : List Event) → slice_get (expand ps es 0 (front ++ r ∷ [])) (length (expand ps es 0 (front ++ r ∷ [])) - 1) ≡ Some (event_of ps es (0 + total front) r)
longer_last front r ps es =
    subst (λ xs. slice_get xs (length xs - 1) ≡ Some (event_of ps es (0 + total front) r)) (sym (expand-append ps es 0 front (r ∷ []))) (repeat_last (expand ps es 0 front) r.more (event_of ps es (0 + total front) r))

pub lengthened : (repeats new_repeats : List Repeat) (starts ps : List ℕ) (es : List Event) (count : ℕ) (last : Option Event) (event : Event)
    → AreRepeats repeats starts ps es count → IsLast last (expand ps es 0 repeats) → last ≡ Some event → IsOneMore repeats new_repeats
    → Pushed repeats new_repeats starts starts ps ps es es count event
lengthened repeats new_repeats starts ps es count last event fits is_last_event is more =
    let front = more.front in
    let r = more.last in
    let q : Repeat = record { event = r.event; more = r.more + 1 } in
    let e = event_of ps es (0 + total front) r in
    let ends : slice_get (expand ps es 0 repeats) (length (expand ps es 0 repeats) - 1) ≡ Some e =
    subst (λ rs. slice_get (expand ps es 0 rs) (length (expand ps es 0 rs) - 1) ≡ Some e) (sym more.was) (longer_last front r ps es) in
    let same : e ≡ event = same_Some e event (sym ends ∙ sym is_last_event ∙ is) in
    record {
      events = ap (λ rs. expand ps es 0 rs) more.is ∙ longer_events front r ps es ∙ ap (λ rs. expand ps es 0 rs ++ e ∷ []) (sym more.was) ∙ ap (λ x. expand ps es 0 repeats ++ x ∷ []) same;
      are_repeats =
          subst (λ rs. AreRepeats rs starts ps es (count + 1)) (sym more.is)
          (longer_repeats front r starts ps es count (subst (λ rs. AreRepeats rs starts ps es count) more.was fits));
    }

-- ---- a repeat more

-- what a push keeps of a wide event
pub record KeepsWide (p : Packed) (places new_places : List ℕ) (wides new_wides : List Event) (place : ℕ) (event : Event) : Type 0 where
  pub wide : p ≡ packed.Wide → (new_places ≡ places ++ place ∷ []) × (new_wides ≡ wides ++ event ∷ [])
  pub other : p ≢ packed.Wide → (new_places ≡ places) × (new_wides ≡ wides)

-- the places and the wide events after a push
record Beside (ps qs : List ℕ) (es fs : List Event) (count : ℕ) (p : Packed) (event : Event) (repeats : List Repeat) : Type 0 where
  earlier : expand qs fs 0 repeats ≡ expand ps es 0 repeats
  last : unpacked (wide_at qs fs (0 + total repeats)) p ≡ event
  paired : length qs ≡ length fs
  rise : Rise qs
  below : (i : ℕ) → i < length qs → slice_index qs i < count + 1

below_pushed : (ps : List ℕ) (count i : ℕ) → ((i : ℕ) → i < length ps → slice_index ps i < count) → i < length (ps ++ count ∷ []) → slice_index (ps ++ count ∷ []) i < count + 1
below_pushed ps count i below h =
    let long : length (ps ++ count ∷ []) ≡ length ps + 1 = length-append ps (count ∷ []) in
    elim (lt_or_eq i (length ps) (omega arith)) [
      | inl lt ↦ let same : slice_index (ps ++ count ∷ []) i ≡ slice_index ps i = get_or-append ps (count ∷ []) 0 i lt in omega (arith, below i lt)
      | inr eq ↦
          let same : slice_index (ps ++ count ∷ []) (length ps) ≡ count = get_or-append_seam ps count [] 0 in
          let at : slice_index (ps ++ count ∷ []) i ≡ slice_index (ps ++ count ∷ []) (length ps) = ap (λ n. slice_index (ps ++ count ∷ []) n) eq in
          omega arith
    ]

rise_pushed : (ps : List ℕ) (count : ℕ) → Rise ps → ((i : ℕ) → i < length ps → slice_index ps i < count) → Rise (ps ++ count ∷ [])
rise_pushed ps count rise below i j lt h =
    let long : length (ps ++ count ∷ []) ≡ length ps + 1 = length-append ps (count ∷ []) in
    let first : slice_index (ps ++ count ∷ []) i ≡ slice_index ps i = get_or-append ps (count ∷ []) 0 i (omega arith) in
    elim (lt_or_eq j (length ps) (omega arith)) [
      | inl in_ps ↦ let same : slice_index (ps ++ count ∷ []) j ≡ slice_index ps j = get_or-append ps (count ∷ []) 0 j in_ps in omega (arith, rise i j lt in_ps)
      | inr eq ↦
          let same : slice_index (ps ++ count ∷ []) (length ps) ≡ count = get_or-append_seam ps count [] 0 in
          let at : slice_index (ps ++ count ∷ []) j ≡ slice_index (ps ++ count ∷ []) (length ps) = ap (λ n. slice_index (ps ++ count ∷ []) n) eq in
          omega (arith, below i (omega arith))
    ]

beside : (repeats : List Repeat) (starts ps qs : List ℕ) (es fs : List Event) (count : ℕ) (p : Packed) (event : Event)
    → AreRepeats repeats starts ps es count → unpacked event p ≡ event → KeepsWide p ps qs es fs count event → Beside ps qs es fs count p event repeats
beside repeats starts ps qs es fs count p event fits means keeps = elim (wide_or_not p) [
  | inl is_wide ↦
      let here : count ≡ 0 + total repeats = omega (arith, fits.counted) in
      let new : wide_at (ps ++ count ∷ []) (es ++ event ∷ []) (0 + total repeats) ≡ event =
      subst (λ n. wide_at (ps ++ count ∷ []) (es ++ event ∷ []) n ≡ event) here (wide_at-new ps es count event fits.paired fits.below) in
      let made : Beside ps (ps ++ count ∷ []) es (es ++ event ∷ []) count p event repeats = record {
        earlier = expand-kept ps es count event 0 repeats fits.paired (omega (arith, fits.counted));
        last = ap (λ w. unpacked w p) new ∙ means;
        paired = omega (arith, fits.paired, length-append ps (count ∷ []), length-append es (event ∷ []));
        rise = rise_pushed ps count fits.rise fits.below;
        below = λ i h. below_pushed ps count i fits.below h;
      } in
      let kept = keeps.wide is_wide in
      subst (λ xs. Beside ps xs es fs count p event repeats) (sym kept.0) (subst (λ ys. Beside ps (ps ++ count ∷ []) es ys count p event repeats) (sym kept.1) made)
  | inr other ↦
      let made : Beside ps ps es es count p event repeats = record {
        earlier = refl;
        last = other.1 (wide_at ps es (0 + total repeats)) event ∙ means;
        paired = fits.paired;
        rise = fits.rise;
        below = λ i h. omega (arith, fits.below i h);
      } in
      let kept = keeps.other other.0 in
      subst (λ xs. Beside ps xs es fs count p event repeats) (sym kept.0) (subst (λ ys. Beside ps ps es ys count p event repeats) (sym kept.1) made)
]

-- the starts after a repeat more
record Starts (repeats : List Repeat) (r : Repeat) (new : List ℕ) : Type 0 where
  started : (b : ℕ) → b < length new → slice_index new b ≡ total (take (64 * b) (repeats ++ r ∷ []))
  covered : length repeats + 1 ≤ 64 * length new
  needed : 64 * length new < length repeats + 1 + 64

same_take : (repeats : List Repeat) (r : Repeat) (b : ℕ) → 64 * b ≤ length repeats → total (take (64 * b) (repeats ++ r ∷ [])) ≡ total (take (64 * b) repeats)
same_take repeats r b h = ap total (take-append-le (64 * b) repeats (r ∷ []) h)

starts_by : (b : Bool) (repeats : List Repeat) (r : Repeat) (starts ps : List ℕ) (es : List Event) (count : ℕ) → AreRepeats repeats starts ps es count
    → (length repeats == 64 * length starts) ≡ b → Starts repeats r (if b then starts ++ count ∷ [] else starts)
starts_by false repeats r starts ps es count fits test =
    let ne : length repeats ≢ 64 * length starts = λ e. let yes : (length repeats == 64 * length starts) ≡ true = eq-eqb (length repeats) (64 * length starts) e in cc in
    record {
      started = λ b h. fits.started b h ∙ sym (same_take repeats r b (omega (arith, fits.needed)));
      covered = omega (arith, fits.covered, ne);
      needed = omega (arith, fits.needed);
    }
starts_by true repeats r starts ps es count fits test =
    let full : length repeats ≡ 64 * length starts = eqb→eq (length repeats) (64 * length starts) (subst T (sym test) tt) in
    let long : length (starts ++ count ∷ []) ≡ length starts + 1 = length-append starts (count ∷ []) in
    record {
      started = λ b h. elim (lt_or_eq b (length starts) (omega arith)) [
        | inl lt ↦ get_or-append starts (count ∷ []) 0 b lt ∙ fits.started b lt ∙ sym (same_take repeats r b (omega (arith, fits.needed)))
        | inr eq ↦
            let all : total (take (64 * length starts) (repeats ++ r ∷ [])) ≡ total repeats = ap (λ n. total (take n (repeats ++ r ∷ []))) (sym full) ∙ ap total (take-append_seam repeats (r ∷ [])) in
            ap (λ n. slice_index (starts ++ count ∷ []) n) eq ∙ get_or-append_seam starts count [] 0 ∙ fits.counted ∙ sym all ∙ ap (λ n. total (take (64 * n) (repeats ++ r ∷ []))) (sym eq)
      ];
      covered = omega (arith, long, full);
      needed = omega (arith, long, full);
    }

pub begun : (repeats new_repeats : List Repeat) (starts new_starts ps qs : List ℕ) (es fs : List Event) (count : ℕ) (p : Packed) (event : Event)
    → AreRepeats repeats starts ps es count → unpacked event p ≡ event → KeepsWide p ps qs es fs count event
    → new_repeats ≡ repeats ++ record { event = p; more = 0 } ∷ []
    → new_starts ≡ (if length repeats == 64 * length starts then starts ++ count ∷ [] else starts)
    → Pushed repeats new_repeats starts new_starts ps qs es fs count event
begun repeats new_repeats starts new_starts ps qs es fs count p event fits means keeps is_repeats is_starts =
    let r : Repeat = record { event = p; more = 0 } in
    let side = beside repeats starts ps qs es fs count p event fits means keeps in
    let front : Starts repeats r new_starts = subst (λ xs. Starts repeats r xs) (sym is_starts) (starts_by (length repeats == 64 * length starts) repeats r starts ps es count fits refl) in
    let one : expand qs fs 0 (repeats ++ r ∷ []) ≡ expand ps es 0 repeats ++ event ∷ [] =
    expand-append qs fs 0 repeats (r ∷ []) ∙ ap (λ xs. xs ++ unpacked (wide_at qs fs (0 + total repeats)) p ∷ []) side.earlier ∙ ap (λ e. expand ps es 0 repeats ++ e ∷ []) side.last in
    let long : length (repeats ++ r ∷ []) ≡ length repeats + 1 = length-append repeats (r ∷ []) in
    record {
      events = ap (λ rs. expand qs fs 0 rs) is_repeats ∙ one;
      are_repeats = subst (λ rs. AreRepeats rs new_starts qs fs (count + 1)) (sym is_repeats) (record {
        counted = omega (arith, fits.counted, total-append repeats (r ∷ []));
        started = front.started;
        covered = omega (arith, front.covered, long);
        needed = omega (arith, front.needed, long);
        paired = side.paired;
        rise = side.rise;
        below = side.below;
      });
    }

-- ---- a read

-- what stands at a place, from the front of a block
in_block : (repeats : List Repeat) (starts ps : List ℕ) (es : List Event) (count b place : ℕ) → AreRepeats repeats starts ps es count → b < length starts → slice_index starts b ≤ place
    → slice_get (expand ps es 0 repeats) place ≡ slice_get (expand ps es (slice_index starts b) (drop (64 * b) repeats)) (place - slice_index starts b)
in_block repeats starts ps es count b place fits in_starts at =
    let front = take (64 * b) repeats in
    let back = drop (64 * b) repeats in
    let start : slice_index starts b ≡ total front = fits.started b in_starts in
    let len : length (expand ps es 0 front) ≡ total front = length-expand ps es 0 front in
    let whole : expand ps es 0 repeats ≡ expand ps es 0 front ++ expand ps es (0 + total front) back =
    ap (λ rs. expand ps es 0 rs) (sym (take-append-drop (64 * b) repeats)) ∙ expand-append ps es 0 front back in
    let same : 0 + total front ≡ slice_index starts b = omega arith in
    let left : place - length (expand ps es 0 front) ≡ place - slice_index starts b = omega arith in
    ap (λ xs. slice_get xs place) whole ∙ behind (expand ps es 0 front) (expand ps es (0 + total front) back) place (omega arith)
    ∙ ap (λ n. slice_get (expand ps es n back) (place - length (expand ps es 0 front))) same
    ∙ ap (λ n. slice_get (expand ps es (slice_index starts b) back) n) left

-- the read answers the event at the place
pub found_at : (repeats : List Repeat) (starts ps : List ℕ) (es : List Event) (count b place : ℕ) (repeat : Repeat) (rest : ℕ)
    → AreRepeats repeats starts ps es count → b < length starts → slice_index starts b ≤ place → IsFound (drop (64 * b) repeats) (place - slice_index starts b) (Some (repeat, rest))
    → slice_get (expand ps es 0 repeats) place ≡ Some (event_of ps es (place - rest) repeat)
found_at repeats starts ps es count b place repeat rest fits in_starts at found =
    let same : slice_index starts b + ((place - slice_index starts b) - rest) ≡ place - rest = omega (arith, found.0) in
    in_block repeats starts ps es count b place fits in_starts at ∙ found.1 ps es (slice_index starts b) ∙ ap (λ n. Some (event_of ps es n repeat)) same

-- a read of a place below the count finds a repeat
pub none_at : (repeats : List Repeat) (starts ps : List ℕ) (es : List Event) (count b place : ℕ)
    → AreRepeats repeats starts ps es count → b < length starts → slice_index starts b ≤ place → IsFound (drop (64 * b) repeats) (place - slice_index starts b) None → count ≤ place
none_at repeats starts ps es count b place fits in_starts at none =
    let parts : total repeats ≡ total (take (64 * b) repeats) + total (drop (64 * b) repeats) = ap total (sym (take-append-drop (64 * b) repeats)) ∙ total-append (take (64 * b) repeats) (drop (64 * b) repeats) in
    omega (arith, fits.counted, fits.started b in_starts)

pub not_falling : (ps : List ℕ) → Rise ps → (i j : ℕ) → i ≤ j → j < length ps → get_or ps i 0 ≤ get_or ps j 0
not_falling ps rise i j le h = elim (lt_or_eq i j (omega arith)) [
  | inl lt ↦ omega (arith, rise i j lt h)
  | inr eq ↦ let same : get_or ps i 0 ≡ get_or ps j 0 = ap (λ n. get_or ps n 0) eq in omega arith
]

-- what is below a number, or above it, differs from it
pub differs : (ps : List ℕ) (place i k : ℕ) → ((k : ℕ) → k < i → get_or ps k 0 < place) → ((k : ℕ) → i ≤ k → k < length ps → place < get_or ps k 0) → k < length ps → slice_index ps k ≢ place
differs ps place i k lower upper h = elim (lt_or_le k i) [
  | inl lt ↦ let less : get_or ps k 0 < place = lower k lt in omega arith
  | inr le ↦ let more : place < get_or ps k 0 = upper k le h in omega arith
]
