-- What marks and late values leave of a recording that was begun.
use Rattle.std.proofs.Common.{◌≡◌, ◌≢◌, ℕ, suc, ◌+◌, ◌<◌, ◌⊎◌, inl, inr, Bool, true, false, ◌==◌, cond, refl, sym, ◌∙◌, ap, subst, arith, List, [], ◌∷◌, length, map, get_or}
use Rattle.std.specs.List.{list_all, range_with_len}
use Rattle.std.proofs.lemmas.Bool.{eqb-true, ne_eqb, eq-eqb, false≢true, cases_Bool, and_parts, and_from}
use Rattle.std.proofs.lemmas.List.{get_or-set_same, get_or-set_other, length-set, length-replicate, get_or-replicate}
use Rattle.std.proofs.lemmas.List.Folds.{list_all_at}
use Rattle.std.proofs.lemmas.List.FromFn.{fill_by_all}
use Rattle.value_order.specs.declared.order.Order.{Order}
use Rattle.token_cut.specs.Parts.{PartValues, no_part, part_at}
use Rattle.token_cut.specs.CutValues.{CutValues}
use Rattle.token_cut.specs.Recording.{is_marked, is_complete, after_begin, after_mark, after_late, with_value, sealed_of}
use Rattle.token_cut.specs.Late.{LateValue, late_values, part_lowered}
use Rattle.token_cut.specs.Steps.{Step, Marks, Comes, after_step, after_steps, AreAllowed, times_marked, part_marked, late_in, part_recorded, snapshot_recorded, SealsAreExact}
use Rattle.token_cut.proofs.Lowering.{part_more, part_none, late_here, late_elsewhere, late_beside}

-- ---- what every step leaves

record IsKept (c d : CutValues) : Type 0 where
  order : d.order ≡ c.order
  epoch : d.epoch ≡ c.epoch
  recording : d.recording ≡ c.recording
  marks : length d.marked ≡ length c.marked
  parts : length d.parts ≡ length c.parts

step_keeps : (step : Step) (c : CutValues) → IsKept c (after_step step c)
step_keeps (Marks k part) c = record {
  order = refl;
  epoch = refl;
  recording = refl;
  marks = length-set c.marked k true;
  parts = length-set c.parts k part;
}
step_keeps (Comes l) c = record {
  order = refl;
  epoch = refl;
  recording = refl;
  marks = refl;
  parts = length-set c.parts l.worker (with_value c.order l.mirror l.value (part_at l.worker c.parts));
}

steps_keep : (steps : List Step) (c : CutValues) → IsKept c (after_steps steps c)
steps_keep [] c = record { order = refl; epoch = refl; recording = refl; marks = refl; parts = refl }
steps_keep (step ∷ steps) c =
    let one = step_keeps step c in
    let more = steps_keep steps (after_step step c) in
    record {
      order = more.order ∙ one.order;
      epoch = more.epoch ∙ one.epoch;
      recording = more.recording ∙ one.recording;
      marks = more.marks ∙ one.marks;
      parts = more.parts ∙ one.parts;
    }

even_after : (step : Step) (c : CutValues) → length c.marked ≡ length c.parts → length (after_step step c).marked ≡ length (after_step step c).parts
even_after step c e = let kept = step_keeps step c in kept.marks ∙ (e ∙ sym kept.parts)

-- a marked worker and one that is not are two
apart : (c : CutValues) (j k : ℕ) → is_marked j c ≡ false → is_marked k c ≡ true → k ≢ j
apart c j k u m same = false≢true (sym u ∙ (ap (λ q. is_marked q c) (sym same) ∙ m))

-- ---- a worker that is marked

late_at : (o : Order) (l : LateValue) (late : List LateValue) (part : PartValues) →
    part_lowered o (λ m. late_values l.worker m late) (with_value o l.mirror l.value part) ≡ part_lowered o (λ m. late_values l.worker m (l ∷ late)) part
late_at o l late part =
    part_more o l.mirror l.value (λ m. late_values l.worker m late) (λ m. late_values l.worker m (l ∷ late)) part (late_here l late) (λ q ne. late_beside l late l.worker q ne)

late_away : (o : Order) (l : LateValue) (late : List LateValue) (k : ℕ) (part : PartValues) → (l.worker == k) ≡ false →
    part_lowered o (λ m. late_values k m late) part ≡ part_lowered o (λ m. late_values k m (l ∷ late)) part
late_away o l late k part e = λ i. part_lowered o (λ m. sym (late_elsewhere l late k m e) i) part

abbrev lowered_in : Order → List Step → ℕ → PartValues → PartValues
lowered_in o steps k part = part_lowered o (λ m. late_values k m (late_in steps)) part

-- one late value, before those of the steps
late_first : (steps : List Step) (c : CutValues) (l : LateValue) (k : ℕ) (part : PartValues) → l.worker < length c.parts →
    part ≡ lowered_in c.order steps k (part_at k (after_late l.worker l.mirror l.value c).parts) → part ≡ lowered_in c.order (Comes l ∷ steps) k (part_at k c.parts)
late_first steps c l k part h e = go (l.worker == k) refl
  where
    go : (b : Bool) → (l.worker == k) ≡ b → part ≡ lowered_in c.order (Comes l ∷ steps) k (part_at k c.parts)
    go true t =
        let same = eqb-true l.worker k t in
        let R : ℕ → Type 0 = λ q. lowered_in c.order steps q (part_at q (after_late l.worker l.mirror l.value c).parts) ≡ lowered_in c.order (Comes l ∷ steps) q (part_at q c.parts) in
        let was = part_at l.worker c.parts in
        e
        ∙ subst R same
        (ap (lowered_in c.order steps l.worker) (get_or-set_same c.parts l.worker (with_value c.order l.mirror l.value was) no_part h) ∙ late_at c.order l (late_in steps) was)
    go false t =
        e
        ∙ (ap (lowered_in c.order steps k) (get_or-set_other c.parts l.worker k (with_value c.order l.mirror l.value (part_at l.worker c.parts)) no_part (λ same. false≢true (sym t ∙ eq-eqb l.worker k (sym same))))
        ∙ late_away c.order l (late_in steps) k (part_at k c.parts) t)

part_of_marked : (steps : List Step) (c : CutValues) (k : ℕ) → AreAllowed steps c → is_marked k c ≡ true →
    part_at k (after_steps steps c).parts ≡ lowered_in c.order steps k (part_at k c.parts)
part_of_marked [] c k h m = sym (part_none c.order (part_at k c.parts))
part_of_marked (Marks j part ∷ steps) c k h m =
    let ne = apart c j k h.0.2 m in
    part_of_marked steps (after_mark j part c) k h.1 (get_or-set_other c.marked j k true false ne ∙ m)
    ∙ ap (lowered_in c.order steps k) (get_or-set_other c.parts j k part no_part ne)
part_of_marked (Comes l ∷ steps) c k h m =
    late_first steps c l k (part_at k (after_steps steps (after_late l.worker l.mirror l.value c)).parts) h.0.0 (part_of_marked steps (after_late l.worker l.mirror l.value c) k h.1 m)

-- ---- a worker that is not marked yet

marked_now : (c : CutValues) (j : ℕ) (part : PartValues) → length c.marked ≡ length c.parts → j < length c.parts → is_marked j (after_mark j part c) ≡ true
marked_now c j part e h = get_or-set_same c.marked j true false (omega (arith, e, h))

-- one mark, before the steps
mark_first : (steps : List Step) (c : CutValues) (j : ℕ) (part : PartValues) (k : ℕ) → length c.marked ≡ length c.parts → j < length c.parts → AreAllowed steps (after_mark j part c) →
    (k ≢ j → part_at k (after_steps steps (after_mark j part c)).parts ≡ part_recorded c.order steps k) →
    part_at k (after_steps steps (after_mark j part c)).parts ≡ part_recorded c.order (Marks j part ∷ steps) k
mark_first steps c j part k e h allowed other = go (j == k) refl
  where
    go : (b : Bool) → (j == k) ≡ b → part_at k (after_steps steps (after_mark j part c)).parts ≡ part_recorded c.order (Marks j part ∷ steps) k
    go true t =
        let same = eqb-true j k t in
        let R : ℕ → Type 0 = λ q. part_at q (after_steps steps (after_mark j part c)).parts ≡ lowered_in c.order steps q part in
        subst R same (part_of_marked steps (after_mark j part c) j allowed (marked_now c j part e h) ∙ ap (lowered_in c.order steps j) (get_or-set_same c.parts j part no_part h))
        ∙ ap (λ b. lowered_in c.order steps k (cond b part (part_marked k steps))) (sym t)
    go false t =
        other (λ same. false≢true (sym t ∙ eq-eqb j k (sym same))) ∙ ap (λ b. lowered_in c.order steps k (cond b part (part_marked k steps))) (sym t)

part_of_unmarked : (steps : List Step) (c : CutValues) (k : ℕ) → length c.marked ≡ length c.parts → AreAllowed steps c → is_marked k c ≡ false → is_marked k (after_steps steps c) ≡ true →
    part_at k (after_steps steps c).parts ≡ part_recorded c.order steps k
part_of_unmarked [] c k e h u m = absurd (false≢true (sym u ∙ m))
part_of_unmarked (Marks j part ∷ steps) c k e h u m =
    mark_first steps c j part k e h.0.0 h.1
    (λ ne. part_of_unmarked steps (after_mark j part c) k (even_after (Marks j part) c e) h.1 (get_or-set_other c.marked j k true false ne ∙ u) m)
part_of_unmarked (Comes l ∷ steps) c k e h u m =
    part_of_unmarked steps (after_late l.worker l.mirror l.value c) k (even_after (Comes l) c e) h.1 u m
    ∙ late_away c.order l (late_in steps) k (part_marked k steps) (ne_eqb l.worker k (apart c k l.worker u h.0.2))

-- ---- how often a worker is marked

abbrev one_if : Bool → ℕ
one_if b = cond b 1 0

-- one mark, before others
count_first : (c : CutValues) (j : ℕ) (part : PartValues) (k times end : ℕ) → length c.marked ≡ length c.parts → j < length c.parts → is_marked j c ≡ false →
    one_if (is_marked k (after_mark j part c)) + times ≡ end → one_if (is_marked k c) + (cond (j == k) 1 0 + times) ≡ end
count_first c j part k times end e h u more = go (j == k) refl
  where
    go : (b : Bool) → (j == k) ≡ b → one_if (is_marked k c) + (cond (j == k) 1 0 + times) ≡ end
    go true t =
        let same = eqb-true j k t in
        let before = ap one_if (ap (λ q. is_marked q c) (sym same) ∙ u) in
        let now = ap one_if (ap (λ q. is_marked q (after_mark j part c)) (sym same) ∙ marked_now c j part e h) in
        let mine = ap one_if t in
        omega (arith, before, now, more, mine)
    go false t =
        let now = ap one_if (get_or-set_other c.marked j k true false (λ same. false≢true (sym t ∙ eq-eqb j k (sym same)))) in
        let mine = ap one_if t in
        omega (arith, now, more, mine)

marks_counted : (steps : List Step) (c : CutValues) (k : ℕ) → length c.marked ≡ length c.parts → AreAllowed steps c →
    one_if (is_marked k c) + times_marked k steps ≡ one_if (is_marked k (after_steps steps c))
marks_counted [] c k e h = omega arith
marks_counted (Marks j part ∷ steps) c k e h =
    count_first c j part k (times_marked k steps) (one_if (is_marked k (after_steps steps (after_mark j part c)))) e h.0.0 h.0.2
    (marks_counted steps (after_mark j part c) k (even_after (Marks j part) c e) h.1)
marks_counted (Comes l ∷ steps) c k e h = marks_counted steps (after_late l.worker l.mirror l.value c) k (even_after (Comes l) c e) h.1

-- ---- all marks

each_of : (bits : List Bool) (k : ℕ) → list_all (λ bit. bit) bits ≡ true → k < length bits → get_or bits k false ≡ true
each_of bits k all h = go (cases_Bool (get_or bits k false))
  where
    go : ((get_or bits k false ≡ true) ⊎ (get_or bits k false ≡ false)) → get_or bits k false ≡ true
    go (inl t) = t
    go (inr f) = absurd (false≢true (sym (list_all_at (λ bit. bit) bits k false h f) ∙ all))

all_from : (bits : List Bool) → ((k : ℕ) → k < length bits → get_or bits k false ≡ true) → list_all (λ bit. bit) bits ≡ true
all_from [] h = refl
all_from (bit ∷ bits) h = and_from bit (list_all (λ b. b) bits) (h 0 (omega arith)) (all_from bits (λ k l. h (suc k) (omega (arith, l))))

-- ---- the law

marked_from_one : (b : Bool) (n : ℕ) → n ≡ one_if b → n ≡ 1 → b ≡ true
marked_from_one true n e h = refl
marked_from_one false n e h = absurd (omega (arith, e, h))

abbrev end_of : ℕ → CutValues → List Step → CutValues
end_of epoch c steps = after_steps steps (after_begin epoch c)

even_begun : (epoch : ℕ) (c : CutValues) → length (after_begin epoch c).marked ≡ length (after_begin epoch c).parts
even_begun epoch c = length-replicate (length c.parts) false

unmarked_begun : (epoch : ℕ) (c : CutValues) (k : ℕ) → k < length c.parts → is_marked k (after_begin epoch c) ≡ false
unmarked_begun epoch c k l = get_or-replicate (length c.parts) k false false l

marks_at_end : (epoch : ℕ) (c : CutValues) (steps : List Step) → length (end_of epoch c steps).marked ≡ length c.parts
marks_at_end epoch c steps = (steps_keep steps (after_begin epoch c)).marks ∙ even_begun epoch c

times_counted : (epoch : ℕ) (c : CutValues) (steps : List Step) (k : ℕ) → AreAllowed steps (after_begin epoch c) → k < length c.parts → times_marked k steps ≡ one_if (is_marked k (end_of epoch c steps))
times_counted epoch c steps k h l =
    let none = ap one_if (unmarked_begun epoch c k l) in
    let all = marks_counted steps (after_begin epoch c) k (even_begun epoch c) h in
    omega (arith, none, all)

marked_at_end : (epoch : ℕ) (c : CutValues) (steps : List Step) (k : ℕ) → is_complete (end_of epoch c steps) ≡ true → k < length c.parts → is_marked k (end_of epoch c steps) ≡ true
marked_at_end epoch c steps k t l =
    let d = end_of epoch c steps in
    each_of d.marked k (and_parts d.recording (list_all (λ bit. bit) d.marked) t).1 (omega (arith, l, marks_at_end epoch c steps))

complete_at_end : (epoch : ℕ) (c : CutValues) (steps : List Step) → AreAllowed steps (after_begin epoch c) → ((k : ℕ) → k < length c.parts → times_marked k steps ≡ 1) → is_complete (end_of epoch c steps) ≡ true
complete_at_end epoch c steps h once =
    let d = end_of epoch c steps in
    and_from d.recording (list_all (λ bit. bit) d.marked) (steps_keep steps (after_begin epoch c)).recording
    (all_from d.marked (λ k l.
    let l' : k < length c.parts = omega (arith, l, marks_at_end epoch c steps) in
    marked_from_one (is_marked k d) (times_marked k steps) (times_counted epoch c steps k h l') (once k l')))

parts_at_end : (epoch : ℕ) (c : CutValues) (steps : List Step) → AreAllowed steps (after_begin epoch c) → is_complete (end_of epoch c steps) ≡ true →
    (end_of epoch c steps).parts ≡ map (part_recorded c.order steps) (range_with_len 0 (length c.parts))
parts_at_end epoch c steps h t =
    fill_by_all (part_recorded c.order steps) (end_of epoch c steps).parts (length c.parts) no_part (steps_keep steps (after_begin epoch c)).parts
    (λ k l. part_of_unmarked steps (after_begin epoch c) k (even_begun epoch c) h (unmarked_begun epoch c k l) (marked_at_end epoch c steps k t l))

sealed_at_end : (epoch : ℕ) (c : CutValues) (steps : List Step) → AreAllowed steps (after_begin epoch c) → is_complete (end_of epoch c steps) ≡ true →
    sealed_of (end_of epoch c steps) ≡ snapshot_recorded c.order epoch (length c.parts) steps
sealed_at_end epoch c steps h t =
    let number = (steps_keep steps (after_begin epoch c)).epoch in
    let parts = parts_at_end epoch c steps h t in
    λ i. record { epoch = number i; parts = parts i }

pub seals_are_exact : SealsAreExact
seals_are_exact epoch c steps h = record {
  complete = (λ t k l. times_counted epoch c steps k h l ∙ ap one_if (marked_at_end epoch c steps k t l), complete_at_end epoch c steps h);
  sealed = sealed_at_end epoch c steps h;
}
