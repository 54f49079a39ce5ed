-- The digits of a list of bytes.
use Rattle.std.proofs.Common.{◌≡◌, ℕ, zero, suc, ◌+◌, ◌*◌, ◌/◌, ◌%◌, ◌<◌, refl, ◌∙◌, ap, arith, List, [], ◌∷◌, length, get_or, set, get_or-set_other, get_or-set_same, length-set, below_more}
use Rattle.grape_run.specs.Notes.{hex_digit, hex}

pub length-hex : (bytes : List ℕ) → length (hex bytes) ≡ 2 * length bytes
length-hex [] = refl
length-hex (b ∷ bytes) = let e = length-hex bytes in omega (arith, e)

pub hex_high : (bytes : List ℕ) (i : ℕ) → i < length bytes → get_or (hex bytes) (2 * i) 0 ≡ hex_digit (get_or bytes i 0 / 16)
hex_high [] i l = absurd (omega (arith, l))
hex_high (b ∷ bytes) zero l = refl
hex_high (b ∷ bytes) (suc i) l =
    let e : 2 * suc i ≡ suc (suc (2 * i)) = omega arith in
    ap (λ (k : ℕ). get_or (hex (b ∷ bytes)) k 0) e ∙ hex_high bytes i (omega (arith, l))

pub hex_low : (bytes : List ℕ) (i : ℕ) → i < length bytes → get_or (hex bytes) (2 * i + 1) 0 ≡ hex_digit (get_or bytes i 0 % 16)
hex_low [] i l = absurd (omega (arith, l))
hex_low (b ∷ bytes) zero l = refl
hex_low (b ∷ bytes) (suc i) l =
    let e : 2 * suc i + 1 ≡ suc (suc (2 * i + 1)) = omega arith in
    ap (λ (k : ℕ). get_or (hex (b ∷ bytes)) k 0) e ∙ hex_low bytes i (omega (arith, l))

-- two more digits
pub two_more : (digits whole : List ℕ) (p a b : ℕ) → 2 * p + 1 < length digits → a ≡ get_or whole (2 * p) 0 → b ≡ get_or whole (2 * p + 1) 0 →
    ((k : ℕ) → k < 2 * p → get_or digits k 0 ≡ get_or whole k 0) → (k : ℕ) → k < 2 * (p + 1) → get_or (set (set digits (2 * p) a) (2 * p + 1) b) k 0 ≡ get_or whole k 0
two_more digits whole p a b l is_a is_b below k h =
    let first : (j : ℕ) → j < 2 * p → get_or (set (set digits (2 * p) a) (2 * p + 1) b) j 0 ≡ get_or whole j 0 = λ j lt.
    get_or-set_other (set digits (2 * p) a) (2 * p + 1) j b 0 (λ e. omega (arith, e, lt)) ∙ (get_or-set_other digits (2 * p) j a 0 (λ e. omega (arith, e, lt)) ∙ below j lt) in
    let second : get_or (set (set digits (2 * p) a) (2 * p + 1) b) (2 * p) 0 ≡ get_or whole (2 * p) 0 =
    get_or-set_other (set digits (2 * p) a) (2 * p + 1) (2 * p) b 0 (λ e. omega (arith, e)) ∙ (get_or-set_same digits (2 * p) a 0 (omega (arith, l)) ∙ is_a) in
    let third : get_or (set (set digits (2 * p) a) (2 * p + 1) b) (2 * p + 1) 0 ≡ get_or whole (2 * p + 1) 0 =
    get_or-set_same (set digits (2 * p) a) (2 * p + 1) b 0 (omega (arith, l, length-set digits (2 * p) a)) ∙ is_b in
    below_more (λ (j : ℕ). get_or (set (set digits (2 * p) a) (2 * p + 1) b) j 0 ≡ get_or whole j 0) (2 * p + 1)
    (below_more (λ (j : ℕ). get_or (set (set digits (2 * p) a) (2 * p + 1) b) j 0 ≡ get_or whole j 0) (2 * p) first second) third k (omega (arith, h))
