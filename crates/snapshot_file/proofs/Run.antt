-- The loop that reads the parts of a body, one after another.
use Rattle.std.proofs.Common.{◌≡◌, ℕ, zero, suc, ◌+◌, ◌<◌, ◌≤◌, List, [], ◌∷◌, ◌++◌, set, get_or, take, drop, length, replicate, sum, Ok, refl, sym, ap, ◌∙◌, subst, arith, append_assoc, length-append}
use Rattle.std.specs.List.{flat_map}
use Rattle.std.proofs.lemmas.List.{length-replicate, take-append-drop, drop_more, take_more, take_more_set, drop-set-lt, drop-drop, drop_all, take_all, append-nil, flat_map_more, length-drop, set_split}
use Rattle.std.proofs.lemmas.List.Concat.{flat_map-append}
use Rattle.std.proofs.lemmas.List.Sums.{sum_by-append}
use Rattle.value_order.specs.declared.order.Order.{Order}
use Rattle.token_cut.specs.Parts.{PartValues}
use Rattle.token_cut.specs.Shapes.{PartStarts, HaveShape}
use Rattle.snapshot_file.specs.Fields.{FillsUpTo, part_numbers, part_fields, part_fields_in, parts_fields_in, part_widths}
use Rattle.snapshot_file.specs.Lengths.{part_length, parts_length}
use Rattle.snapshot_file.specs.Reading.{part_decoded, parts_decoded, read_as, read_then}
use Rattle.snapshot_file.proofs.Filling.{fills_front, fills_behind, sum_eights, length_in}
use Rattle.snapshot_file.proofs.Steps.{read_more}

-- ---- the parts have the shape

pub record HasPart (starts : PartStarts) (part : PartValues) : Type 0 where
  pub values : length part.values ≡ length starts.owned + length starts.mirrors
  pub mail : length part.mail ≡ length starts.mirrors

pub have_length : (shape : List PartStarts) (parts : List PartValues) → HaveShape shape parts → length parts ≡ length shape
have_length [] [] have = refl
have_length [] (part ∷ parts) have = absurd have
have_length (starts ∷ shape) [] have = absurd have
have_length (starts ∷ shape) (part ∷ parts) have = let e = have_length shape parts have.2 in omega (arith, e)

pub have_at : (shape : List PartStarts) (parts : List PartValues) (i : ℕ) (starts : PartStarts) (part : PartValues) → HaveShape shape parts → i < length shape → starts ≡ get_or shape i starts → part ≡ get_or parts i part → HasPart starts part
have_at [] parts i s p have low s_is p_is = absurd (omega arith)
have_at (starts ∷ shape) [] i s p have low s_is p_is = absurd have
have_at (starts ∷ shape) (part ∷ parts) zero s p have low s_is p_is =
    subst (λ (x : PartStarts). HasPart x p) (sym s_is) (subst (HasPart starts) (sym p_is) (record { values = have.0; mail = have.1 }))
have_at (starts ∷ shape) (part ∷ parts) (suc i) s p have low s_is p_is = have_at shape parts i s p have.2 (omega arith) s_is p_is

pub have_set : (shape : List PartStarts) (parts : List PartValues) (i : ℕ) (starts : PartStarts) (part : PartValues) → HaveShape shape parts → i < length shape → starts ≡ get_or shape i starts → HasPart starts part → HaveShape shape (set parts i part)
have_set [] parts i s p have low s_is has = absurd (omega arith)
have_set (starts ∷ shape) [] i s p have low s_is has = absurd have
have_set (starts ∷ shape) (part ∷ parts) zero s p have low s_is has =
    let here : HasPart starts p = subst (λ (x : PartStarts). HasPart x p) s_is has in (here.values, here.mail, have.2)
have_set (starts ∷ shape) (part ∷ parts) (suc i) s p have low s_is has = (have.0, have.1, have_set shape parts i s p have.2 (omega arith) s_is has)

-- ---- widths

pub sum_widths : (starts : PartStarts) → sum (part_widths starts) ≡ part_length starts
sum_widths starts = omega (arith, sum_by-append (λ (n : ℕ). n) (1 ∷ []) (replicate (part_numbers starts) 8), sum_eights (part_numbers starts))

pub long_fields : (starts : PartStarts) (part : PartValues) → HasPart starts part → length (part_fields part) ≡ length (part_widths starts)
long_fields starts part has = omega (arith, length-append part.values part.mail, length-replicate {A = ℕ} (part_numbers starts) 8, has.values, has.mail)

one_more : {X : Type 0} (f : X → List ℕ) (xs : List X) (x : X) → flat_map f (xs ++ x ∷ []) ≡ flat_map f xs ++ f x
one_more f xs x = sym (flat_map_more f [] xs x)

split_at : {X : Type 0} (f : X → List ℕ) (xs : List X) (i : ℕ) (x : X) → i < length xs → x ≡ get_or xs i x → flat_map f xs ≡ flat_map f (take i xs) ++ (f x ++ flat_map f (drop (i + 1) xs))
split_at {X = X} f xs i x low is =
    ap (flat_map f) (sym (take-append-drop i xs))
    ∙ flat_map-append f (take i xs) (drop i xs)
    ∙ ap (λ (l : List X). flat_map f (take i xs) ++ flat_map f l) (drop_more xs i x low)
    ∙ ap (λ (y : X). flat_map f (take i xs) ++ (f y ++ flat_map f (drop (i + 1) xs))) (sym is)

-- ---- what stands once the first i parts are read

pub record PartsRead (order : Order) (shape : List PartStarts) (at : ℕ) (bytes : List ℕ) (old : List PartValues) (i place : ℕ) (rest : List ℕ) (now : List PartValues) : Type 0 where
  pub reads : parts_decoded order shape at bytes ≡ read_as (λ qs. take i now ++ qs) (parts_decoded order (drop i shape) place rest)
  pub standing : parts_fields_in shape bytes ≡ flat_map part_fields (take i now) ++ parts_fields_in (drop i shape) rest
  pub reach : at + sum (flat_map part_widths (take i shape)) ≡ place
  pub width : length (flat_map part_fields (take i now)) ≡ length (flat_map part_widths (take i shape))
  pub old_width : length (flat_map part_fields (take i old)) ≡ length (flat_map part_widths (take i shape))
  pub kept : drop i now ≡ drop i old
  pub have : HaveShape shape now
  pub room : parts_length (drop i shape) ≤ length rest
  pub left : place + parts_length (drop i shape) ≡ at + parts_length shape

module _ (order : Order) (shape : List PartStarts) (at : ℕ) (bytes : List ℕ) (old : List PartValues) (i place : ℕ) (rest : List ℕ) (now : List PartValues) (known : PartsRead order shape at bytes old i place rest now)
    (starts : PartStarts) (low : i < length shape) (starts_is : starts ≡ get_or shape i starts) (was : PartValues) (was_is : was ≡ get_or now i was) where
  behind : drop i shape ≡ starts ∷ drop (i + 1) shape
  behind = drop_more shape i starts low ∙ ap (λ (s : PartStarts). s ∷ drop (i + 1) shape) (sym starts_is)

  now_long : length now ≡ length shape
  now_long = have_length shape now known.have

  old_long : length old ≡ length shape
  old_long = let e = ap length known.kept in omega (arith, e, length-drop i now, length-drop i old, now_long, low)

  was_old : drop i old ≡ was ∷ drop (i + 1) now
  was_old = sym known.kept ∙ drop_more now i was (omega (arith, now_long)) ∙ ap (λ (p : PartValues). p ∷ drop (i + 1) now) (sym was_is)

  kept_more : drop (i + 1) now ≡ drop (i + 1) old
  kept_more = sym (drop-drop 1 i now) ∙ ap (drop 1) known.kept ∙ drop-drop 1 i old

  pub has : HasPart starts was
  has = have_at shape now i starts was known.have low starts_is was_is

  room_here : part_length starts + parts_length (drop (i + 1) shape) ≤ length rest
  room_here = subst (λ (l : List PartStarts). parts_length l ≤ length rest) behind known.room

  left_here : place + (part_length starts + parts_length (drop (i + 1) shape)) ≡ at + parts_length shape
  left_here = ap (λ (l : List PartStarts). place + parts_length l) (sym behind) ∙ known.left

  next_reads : parts_decoded order (drop i shape) place rest
      ≡ read_then (λ part. read_as (λ (qs : List PartValues). part ∷ qs) (parts_decoded order (drop (i + 1) shape) (place + part_length starts) (drop (part_length starts) rest))) (part_decoded order starts place rest)
  next_reads = ap (λ (l : List PartStarts). parts_decoded order l place rest) behind

  standing_here : parts_fields_in shape bytes ≡ flat_map part_fields (take i now) ++ (part_fields_in starts rest ++ parts_fields_in (drop (i + 1) shape) (drop (part_length starts) rest))
  standing_here = known.standing ∙ ap (λ (l : List PartStarts). flat_map part_fields (take i now) ++ parts_fields_in l rest) behind

  old_here : flat_map part_fields old ≡ flat_map part_fields (take i old) ++ (part_fields was ++ flat_map part_fields (drop (i + 1) now))
  old_here =
      ap (flat_map part_fields) (sym (take-append-drop i old)) ∙ flat_map-append part_fields (take i old) (drop i old)
      ∙ ap (λ (l : List PartValues). flat_map part_fields (take i old) ++ flat_map part_fields l) was_old

  now_here : (part : PartValues) → flat_map part_fields (set now i part) ≡ flat_map part_fields (take i now) ++ (part_fields part ++ flat_map part_fields (drop (i + 1) now))
  now_here part =
      let one : suc i ≡ i + 1 = omega arith in
      ap (flat_map part_fields) (set_split now i part (omega (arith, now_long)))
      ∙ flat_map-append part_fields (take i now) (part ∷ drop (suc i) now)
      ∙ ap (λ (n : ℕ). flat_map part_fields (take i now) ++ (part_fields part ++ flat_map part_fields (drop n now))) one

  pub part_fills : (part : PartValues) (wrong : ℕ) → length (part_fields_in starts rest) ≡ length (part_widths starts) → FillsUpTo (part_widths starts) (part_fields_in starts rest) (part_fields was) (part_fields part) place wrong
      → FillsUpTo (flat_map part_widths shape) (parts_fields_in shape bytes) (flat_map part_fields old) (flat_map part_fields (set now i part)) at wrong
  part_fills part wrong long fills =
      let front = fills_front (part_widths starts) (flat_map part_widths (drop (i + 1) shape)) (part_fields_in starts rest) (parts_fields_in (drop (i + 1) shape) (drop (part_length starts) rest))
      (part_fields was) (flat_map part_fields (drop (i + 1) now)) (part_fields part) place wrong long (long_fields starts was has) fills in
      let all = fills_behind (flat_map part_widths (take i shape)) (part_widths starts ++ flat_map part_widths (drop (i + 1) shape))
      (flat_map part_fields (take i now)) (part_fields_in starts rest ++ parts_fields_in (drop (i + 1) shape) (drop (part_length starts) rest))
      (flat_map part_fields (take i old)) (part_fields was ++ flat_map part_fields (drop (i + 1) now)) (part_fields part ++ flat_map part_fields (drop (i + 1) now)) at place wrong known.width known.old_width known.reach front in
      subst (λ (ws : List ℕ). FillsUpTo ws (parts_fields_in shape bytes) (flat_map part_fields old) (flat_map part_fields (set now i part)) at wrong) (sym (split_at part_widths shape i starts low starts_is))
      (subst (λ (ss : List ℕ). FillsUpTo (flat_map part_widths (take i shape) ++ (part_widths starts ++ flat_map part_widths (drop (i + 1) shape))) ss (flat_map part_fields old) (flat_map part_fields (set now i part)) at wrong) (sym standing_here)
      (subst (λ (os : List ℕ). FillsUpTo (flat_map part_widths (take i shape) ++ (part_widths starts ++ flat_map part_widths (drop (i + 1) shape))) (flat_map part_fields (take i now) ++ (part_fields_in starts rest ++ parts_fields_in (drop (i + 1) shape) (drop (part_length starts) rest))) os (flat_map part_fields (set now i part)) at wrong) (sym old_here)
      (subst (λ (ns : List ℕ). FillsUpTo (flat_map part_widths (take i shape) ++ (part_widths starts ++ flat_map part_widths (drop (i + 1) shape))) (flat_map part_fields (take i now) ++ (part_fields_in starts rest ++ parts_fields_in (drop (i + 1) shape) (drop (part_length starts) rest))) (flat_map part_fields (take i old) ++ (part_fields was ++ flat_map part_fields (drop (i + 1) now))) ns at wrong) (sym (now_here part)) all)))

  pub one_read : (part : PartValues) (next : ℕ) (after : List ℕ) → next ≡ place + part_length starts → after ≡ drop (part_length starts) rest
      → part_decoded order starts place rest ≡ Ok part → part_fields part ≡ part_fields_in starts rest → HasPart starts part
      → PartsRead order shape at bytes old (i + 1) next after (set now i part)
  one_read part next after next_is after_is is fields_are part_has =
      let taken : take (i + 1) (set now i part) ≡ take i now ++ part ∷ [] = take_more_set now i part (omega (arith, now_long)) in
      let shape_taken : take (i + 1) shape ≡ take i shape ++ starts ∷ [] = take_more shape i starts low ∙ ap (λ (s : PartStarts). take i shape ++ s ∷ []) (sym starts_is) in
      let old_taken : take (i + 1) old ≡ take i old ++ get_or old i was ∷ [] = take_more old i was (omega (arith, old_long)) in
      let old_at : get_or old i was ≡ was = head_is (drop i old) (drop (i + 1) now) (get_or old i was) (drop (i + 1) old) (drop_more old i was (omega (arith, old_long))) was_old in
      record {
        reads =
            known.reads
            ∙ ap (read_as (λ (qs : List PartValues). take i now ++ qs))
            (next_reads ∙ ap (read_then (λ p. read_as (λ (qs : List PartValues). p ∷ qs) (parts_decoded order (drop (i + 1) shape) (place + part_length starts) (drop (part_length starts) rest)))) is)
            ∙ read_more (take i now) (take (i + 1) (set now i part)) part (parts_decoded order (drop (i + 1) shape) (place + part_length starts) (drop (part_length starts) rest)) taken
            ∙ ap (λ (n : ℕ). read_as (λ (qs : List PartValues). take (i + 1) (set now i part) ++ qs) (parts_decoded order (drop (i + 1) shape) n (drop (part_length starts) rest))) (sym next_is)
            ∙ ap (λ (l : List ℕ). read_as (λ (qs : List PartValues). take (i + 1) (set now i part) ++ qs) (parts_decoded order (drop (i + 1) shape) next l)) (sym after_is);
        standing =
            standing_here
            ∙ ap (λ (l : List ℕ). flat_map part_fields (take i now) ++ (l ++ parts_fields_in (drop (i + 1) shape) (drop (part_length starts) rest))) (sym fields_are)
            ∙ sym (append_assoc (flat_map part_fields (take i now)) (part_fields part) (parts_fields_in (drop (i + 1) shape) (drop (part_length starts) rest)))
            ∙ ap (λ (l : List ℕ). l ++ parts_fields_in (drop (i + 1) shape) (drop (part_length starts) rest)) (sym (one_more part_fields (take i now) part) ∙ ap (flat_map part_fields) (sym taken))
            ∙ ap (λ (l : List ℕ). flat_map part_fields (take (i + 1) (set now i part)) ++ parts_fields_in (drop (i + 1) shape) l) (sym after_is);
        reach =
            let more = ap (flat_map part_widths) shape_taken ∙ one_more part_widths (take i shape) starts in
            ap (λ (l : List ℕ). at + sum l) more ∙ omega (arith, sum_by-append (λ (n : ℕ). n) (flat_map part_widths (take i shape)) (part_widths starts), sum_widths starts, known.reach, next_is);
        width =
            ap (λ (l : List PartValues). length (flat_map part_fields l)) taken ∙ ap length (one_more part_fields (take i now) part)
            ∙ longer (flat_map part_fields (take i now)) (part_fields part) (flat_map part_widths (take i shape)) (part_widths starts) known.width (long_fields starts part part_has)
            ∙ sym (ap length (one_more part_widths (take i shape) starts)) ∙ sym (ap (λ (l : List PartStarts). length (flat_map part_widths l)) shape_taken);
        old_width =
            ap (λ (l : List PartValues). length (flat_map part_fields l)) old_taken ∙ ap length (one_more part_fields (take i old) (get_or old i was))
            ∙ longer (flat_map part_fields (take i old)) (part_fields (get_or old i was)) (flat_map part_widths (take i shape)) (part_widths starts) known.old_width (ap (λ (p : PartValues). length (part_fields p)) old_at ∙ long_fields starts was has)
            ∙ sym (ap length (one_more part_widths (take i shape) starts)) ∙ sym (ap (λ (l : List PartStarts). length (flat_map part_widths l)) shape_taken);
        kept = drop-set-lt (i + 1) now i part (omega arith) ∙ kept_more;
        have = have_set shape now i starts part known.have low starts_is part_has;
        room = omega (arith, room_here, ap length after_is, length-drop (part_length starts) rest);
        left = omega (arith, left_here, next_is);
      }
    where
      head_is : (l ys : List PartValues) (y : PartValues) (zs : List PartValues) → l ≡ y ∷ zs → l ≡ was ∷ ys → y ≡ was
      head_is l ys y zs a b = cc

      longer : (xs ys us vs : List ℕ) → length xs ≡ length us → length ys ≡ length vs → length (xs ++ ys) ≡ length (us ++ vs)
      longer xs ys us vs a b = omega (arith, length-append xs ys, length-append us vs)

-- all of them are read
module _ (order : Order) (shape : List PartStarts) (at : ℕ) (bytes : List ℕ) (old : List PartValues) (i place : ℕ) (rest : List ℕ) (now : List PartValues) (known : PartsRead order shape at bytes old i place rest now) (high : length shape ≤ i) where
  none : drop i shape ≡ []
  none = drop_all i shape high

  whole : take i now ≡ now
  whole = take_all i now (omega (arith, have_length shape now known.have))

  pub all_read : parts_decoded order shape at bytes ≡ Ok now
  all_read =
      known.reads ∙ ap (λ (l : List PartStarts). read_as (λ (qs : List PartValues). take i now ++ qs) (parts_decoded order l place rest)) none
      ∙ ap Ok (append-nil (take i now) ∙ whole)

pub long_standing : (starts : PartStarts) (bytes : List ℕ) → length (part_fields_in starts bytes) ≡ length (part_widths starts)
long_standing starts bytes = omega (arith, length_in (part_numbers starts) (drop 1 bytes), length-replicate {A = ℕ} (part_numbers starts) 8)
