-- Lists that are met place by place.
use Rattle.std.proofs.Common.{◌≡◌, ℕ, zero, suc, ◌<◌, List, [], ◌∷◌, length, replicate, All, ◌^◌, slice_index, slice_set, ap, sym, refl, arith}
use Rattle.value_order.specs.declared.order.Order.{Order}
use Rattle.value_order.specs.declared.TheConstants.{NOTHING}
use Rattle.value_order.specs.Order.{meet_of}
use Rattle.message_buffer.specs.Buffers.{meets_of}
use Rattle.message_buffer.proofs.Meeting.{meet-assoc, meet-turn, meet-nothing, meet-fits}

-- lists of the same length
pub meets_of-length : (o : Order) (n : ℕ) (xs ys : List ℕ) → length xs ≡ n → length ys ≡ n → length (meets_of o xs ys) ≡ n
meets_of-length o n [] ys h k = h
meets_of-length o n (x ∷ xs) [] h k = absurd (omega (arith, h, k))
meets_of-length o zero (x ∷ xs) (y ∷ ys) h k = absurd (omega (arith, h))
meets_of-length o (suc n) (x ∷ xs) (y ∷ ys) h k = ap suc (meets_of-length o n xs ys (omega (arith, h)) (omega (arith, k)))

pub meets_of-at : (o : Order) (xs ys : List ℕ) (m : ℕ) → m < length xs → m < length ys → slice_index (meets_of o xs ys) m ≡ meet_of o (slice_index xs m) (slice_index ys m)
meets_of-at o [] ys m h k = absurd (omega (arith, h))
meets_of-at o (x ∷ xs) [] m h k = absurd (omega (arith, k))
meets_of-at o (x ∷ xs) (y ∷ ys) zero h k = refl
meets_of-at o (x ∷ xs) (y ∷ ys) (suc m) h k = meets_of-at o xs ys m (omega (arith, h)) (omega (arith, k))

-- a list is read where it has a place
pub meets_of-set_left : (o : Order) (xs ys : List ℕ) (m v : ℕ) → m < length xs → length ys ≡ length xs → meets_of o (slice_set xs m (meet_of o (slice_index xs m) v)) ys ≡ slice_set (meets_of o xs ys) m (meet_of o (slice_index (meets_of o xs ys) m) v)
meets_of-set_left o [] ys m v h e = absurd (omega (arith, h))
meets_of-set_left o (x ∷ xs) [] m v h e = absurd (omega (arith, e))
meets_of-set_left o (x ∷ xs) (y ∷ ys) zero v h e = ap (λ a. a ∷ meets_of o xs ys) (meet-turn o x v y)
meets_of-set_left o (x ∷ xs) (y ∷ ys) (suc m) v h e = ap (λ l. meet_of o x y ∷ l) (meets_of-set_left o xs ys m v (omega (arith, h)) (omega (arith, e)))

pub meets_of-set_right : (o : Order) (xs ys : List ℕ) (m v : ℕ) → m < length xs → length ys ≡ length xs → meets_of o xs (slice_set ys m (meet_of o (slice_index ys m) v)) ≡ slice_set (meets_of o xs ys) m (meet_of o (slice_index (meets_of o xs ys) m) v)
meets_of-set_right o [] ys m v h e = absurd (omega (arith, h))
meets_of-set_right o (x ∷ xs) [] m v h e = absurd (omega (arith, e))
meets_of-set_right o (x ∷ xs) (y ∷ ys) zero v h e = ap (λ a. a ∷ meets_of o xs ys) (sym (meet-assoc o x y v))
meets_of-set_right o (x ∷ xs) (y ∷ ys) (suc m) v h e = ap (λ l. meet_of o x y ∷ l) (meets_of-set_right o xs ys m v (omega (arith, h)) (omega (arith, e)))

-- no value in either class
pub meets_of-none : (o : Order) (n : ℕ) → meets_of o (replicate n NOTHING) (replicate n NOTHING) ≡ replicate n NOTHING
meets_of-none o zero = refl
meets_of-none o (suc n) = λ t. meet-nothing o t ∷ meets_of-none o n t

-- no value in the other class
pub meets_of-calm : (o : Order) (xs : List ℕ) → All (λ v. v < 2 ^ 64) xs → meets_of o xs (replicate (length xs) NOTHING) ≡ xs
meets_of-calm o [] h = refl
meets_of-calm o (x ∷ xs) h = λ t. meet-fits o x (h 0 0 (omega arith)) t ∷ meets_of-calm o xs (λ k d l. h (suc k) d (omega (arith, l))) t
