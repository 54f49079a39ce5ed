-- Parts that are written one after another.
use Rattle.std.proofs.Common.{◌≡◌, ℕ, ◌+◌, ◌<◌, sym, ◌∙◌, ap, arith, List, [], ◌∷◌, ◌++◌, length, get_or, set, take, drop}
use Rattle.std.proofs.lemmas.List.{length-map, get_or_read, length-take-le, drop_more, take_more, set_at, append_assoc}
use Rattle.token_cut.specs.Parts.{PartValues, no_part}
use Rattle.token_cut.specs.Shapes.{size_of, sizes_of}
use Rattle.token_cut.proofs.Sizing.{size_at, set_size}

-- as many parts
pub as_many : (xs ys : List PartValues) → sizes_of xs ≡ sizes_of ys → length xs ≡ length ys
as_many xs ys e = sym (length-map xs size_of) ∙ (ap length e ∙ length-map ys size_of)

-- the parts at one place have one size
pub alike_at : (xs ys : List PartValues) (k : ℕ) (x y : PartValues) → sizes_of xs ≡ sizes_of ys → k < length ys → x ≡ get_or xs k x → y ≡ get_or ys k y → size_of x ≡ size_of y
alike_at xs ys k x y e h is_x is_y =
    let h' : k < length xs = omega (arith, h, as_many xs ys e) in
    ap size_of (get_or_read xs k x h' is_x no_part) ∙ sym (size_at xs k)
    ∙ (ap (λ l. get_or l k (size_of no_part)) e ∙ (size_at ys k ∙ ap size_of (sym (get_or_read ys k y h is_y no_part))))

-- one part more is written
written_more : (xs ys to : List PartValues) (k : ℕ) (x copy : PartValues) → to ≡ take k xs ++ drop k ys → k < length xs → k < length ys → x ≡ get_or xs k x → copy ≡ x →
    set to k copy ≡ take (k + 1) xs ++ drop (k + 1) ys
written_more xs ys to k x copy w h h' is_x same =
    let front = length-take-le k xs (omega (arith, h)) in
    ap (λ l. set l k copy) (w ∙ ap (λ l. take k xs ++ l) (drop_more ys k no_part h'))
    ∙ (set_at (take k xs) (get_or ys k no_part) (drop (k + 1) ys) copy k front
    ∙ (ap (λ c. take k xs ++ c ∷ drop (k + 1) ys) (same ∙ get_or_read xs k x h is_x no_part)
    ∙ (sym (append_assoc (take k xs) (get_or xs k no_part ∷ []) (drop (k + 1) ys)) ∙ ap (λ l. l ++ drop (k + 1) ys) (sym (take_more xs k no_part h)))))

pub record AreWritten (parts from to : List PartValues) (k : ℕ) : Type 0 where
  pub sizes : sizes_of to ≡ sizes_of parts
  pub written : to ≡ take k parts ++ drop k from

pub one_written : (parts from to : List PartValues) (k : ℕ) (part old copy : PartValues) → sizes_of from ≡ sizes_of parts → AreWritten parts from to k → k < length parts →
    part ≡ get_or parts k part → old ≡ get_or to k old → copy ≡ part → AreWritten parts from (set to k copy) (k + 1)
one_written parts from to k part old copy e w h is_part is_old same =
    let size = ap size_of same ∙ (sym (alike_at to parts k old part w.sizes h is_old is_part) ∙ ap size_of (get_or_read to k old (omega (arith, h, as_many to parts w.sizes)) is_old no_part)) in
    record {
      sizes = set_size to k copy size ∙ w.sizes;
      written = written_more parts from to k part copy w.written h (omega (arith, h, as_many from parts e)) is_part same;
    }
