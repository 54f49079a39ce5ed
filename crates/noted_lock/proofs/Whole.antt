-- Lists that have all seats of a lock.
use Rattle.std.proofs.Common.{◌≡◌, ℕ, zero, suc, ◌<◌, List, [], ◌∷◌, ◌++◌, length, get_or, refl, sym, ap, ◌∙◌, subst, arith, length-append, Contains}
use Rattle.atomic_table.specs.Seated.{TableId}
use Rattle.noted_lock.specs.declared.seat.LockSeat.{LockSeat}
use Rattle.noted_lock.specs.Sights.{seat_number, AreSeats}

other_default : {A : Type 0} (r : List A) (k : ℕ) (d e : A) → k < length r → get_or r k d ≡ get_or r k e
other_default [] k d e l = absurd (omega arith)
other_default (x ∷ xs) zero d e l = refl
other_default (x ∷ xs) (suc k) d e l = other_default xs k d e (omega arith)

-- the seats that a lock was made with have all numbers
pub all_there : (z : TableId) (n : ℕ) (note : List ℕ) (seats : List LockSeat) → AreSeats z n note seats → (k : ℕ) → k < n → (s : LockSeat) × Contains seats s × (seat_number s ≡ k)
all_there z n note [] are k l = absurd (let e : 0 ≡ n = are.0 in omega arith)
all_there z n note (x ∷ xs) are k l = let s : LockSeat = get_or (x ∷ xs) k x in let small : k < length (x ∷ xs) = (let e = are.0 in omega arith) in
    (s, (k, small, other_default (x ∷ xs) k s x small), (are.1 k x l).2)

none_left : (r : List LockSeat) (a b : LockSeat) → length ((r ++ a ∷ []) ++ b ∷ []) ≡ 2 → r ≡ []
none_left [] a b e = refl
none_left (x ∷ xs) a b e = absurd (omega (arith, length-append (x ∷ xs) (a ∷ []), length-append ((x ∷ xs) ++ a ∷ []) (b ∷ [])))

-- two seats are put back where two were taken out
pub two_back : (items r1 r0 back1 back2 : List LockSeat) (a b x y : LockSeat) → length items ≡ 2 → items ≡ r1 ++ b ∷ [] → r1 ≡ r0 ++ a ∷ [] → back1 ≡ r0 ++ x ∷ [] → back2 ≡ back1 ++ y ∷ [] → back2 ≡ x ∷ y ∷ []
two_back items r1 r0 back1 back2 a b x y two e1 e0 f1 f2 =
    let all : items ≡ (r0 ++ a ∷ []) ++ b ∷ [] = e1 ∙ ap (λ (l : List LockSeat). l ++ b ∷ []) e0 in
    let none : r0 ≡ [] = none_left r0 a b (ap (λ (l : List LockSeat). length l) (sym all) ∙ two) in
    f2 ∙ (ap (λ (l : List LockSeat). l ++ y ∷ []) f1 ∙ ap (λ (l : List LockSeat). (l ++ x ∷ []) ++ y ∷ []) none)

pub two_there : (items : List LockSeat) (x y : LockSeat) (n : ℕ) → items ≡ x ∷ y ∷ [] → n ≡ 2 → seat_number x ≡ 1 → seat_number y ≡ 0 → (k : ℕ) → k < n → (s : LockSeat) × Contains items s × (seat_number s ≡ k)
two_there items x y n e two p q zero l = (y, (1, subst (λ (z : List LockSeat). 1 < length z) (sym e) (omega arith), ap (λ (z : List LockSeat). get_or z 1 y) e), q)
two_there items x y n e two p q (suc zero) l = (x, (0, subst (λ (z : List LockSeat). 0 < length z) (sym e) (omega arith), ap (λ (z : List LockSeat). get_or z 0 x) e), p)
two_there items x y n e two p q (suc (suc k)) l = absurd (omega arith)
