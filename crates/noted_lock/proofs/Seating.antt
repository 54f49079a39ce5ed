-- What a seat at the table is, by what its token says, and lists of seats.
use Rattle.std.proofs.Common.{◌≡◌, ℕ, zero, suc, ◌+◌, ◌<◌, List, [], ◌∷◌, ◌++◌, map, length, get_or, Option, Some, refl, sym, ap, ◌∙◌, subst, arith, length-append, All, Contains}
use mathlib.Core.Option.{some}
use lib.ListN.{get_elem?}
use Rattle.atomic_table.specs.Table.{Me, Joins, opening, Final, Seen}
use Rattle.atomic_table.specs.Seated.{TableId}
use Rattle.atomic_table.proofs.Lists.{at_index, at_map}
use Rattle.noted_lock.specs.declared.view.Claim.{Claim}
use Rattle.noted_lock.specs.declared.view.View.{View}
use Rattle.noted_lock.specs.declared.seat.LockSeat.{LockSeat}
use Rattle.noted_lock.specs.Rule.{notes_of, note_in, claim, outside, maker, keeper, spent, Kept}
use Rattle.noted_lock.specs.Plays.{both}
use Rattle.noted_lock.specs.Seats.{first_view, claim_of, IsOutside}
use Rattle.noted_lock.specs.Sights.{seat_lock, seat_number, seat_note, seat_claim, IsSeat, AreFrom, AreSeats}
use Rattle.noted_lock.proofs.Places.{note_in-notes_of}
use Rattle.noted_lock.proofs.Keeps.{joins_seat, opens, closes}

pub seated : {T : Type 0} (views : List View) (me : Me (Option T) View) → IsOutside views → views ≡ me.0 ∷ [] → me.1 ≡ []
    → me ≡ (outside (first_view views).seats (claim_of (first_view views)), [])
seated views me out is bare = λ i. ((ap first_view (sym is) ∙ ap first_view out) i, bare i)

pub is_outside : {T : Type 0} (me : Me (Option T) View) (n : ℕ) (c : Claim) → me ≡ (outside n c, []) → me ≡ (outside me.0.seats (claim_of me.0), [])
is_outside {T} me n c e = let F : Me (Option T) View → Me (Option T) View = λ m. (outside m.0.seats (claim_of m.0), []) in e ∙ sym (ap F e)

pub is_keeper : {T : Type 0} (me : Me (Option T) View) (n : ℕ) (cs : List Claim) → me ≡ (keeper n cs, []) → me ≡ (keeper me.0.seats me.0.claims, [])
is_keeper {T} me n cs e = let F : Me (Option T) View → Me (Option T) View = λ m. (keeper m.0.seats m.0.claims, []) in e ∙ sym (ap F e)

pub is_maker : {T : Type 0} (me : Me (Option T) View) (n : ℕ) (ground : List ℕ) → 0 < n → me ≡ (maker n (claim 0 ground) 1 (notes_of (λ _. ground) n), [])
    → me ≡ (maker n (claim 0 (note_in me.0.notes 0)) 1 me.0.notes, [])
is_maker {T} me n ground some_seat e = let F : Me (Option T) View → Me (Option T) View = λ m. (maker n (claim 0 (note_in m.0.notes 0)) 1 m.0.notes, []) in
    let G : List ℕ → Me (Option T) View = λ note. (maker n (claim 0 note) 1 (notes_of (λ _. ground) n), []) in
    e ∙ (ap G (sym (note_in-notes_of (λ _. ground) n 0 some_seat)) ∙ sym (ap F e))

pub is_ground : {T : Type 0} (me : Me (Option T) View) (n : ℕ) (ground : List ℕ) (k : ℕ) → k < n → me ≡ (maker n (claim 0 ground) 1 (notes_of (λ _. ground) n), []) → note_in me.0.notes k ≡ ground
is_ground {T} me n ground k l e = let F : Me (Option T) View → List ℕ = λ m. note_in m.0.notes k in ap F e ∙ note_in-notes_of (λ _. ground) n k l

map_snoc : (f : LockSeat → Claim) (r : List LockSeat) (x : LockSeat) (v : List Claim) → map f (r ++ x ∷ []) ++ v ≡ map f r ++ (f x ∷ v)
map_snoc f [] x v = refl
map_snoc f (y ∷ ys) x v = ap (λ (l : List Claim). f y ∷ l) (map_snoc f ys x v)

pub popped : (f : LockSeat → Claim) (seats r : List LockSeat) (x : LockSeat) (v w total : List Claim) → seats ≡ r ++ x ∷ [] → w ≡ f x ∷ [] → map f seats ++ v ≡ total → map f r ++ (w ++ v) ≡ total
popped f seats r x v w total e e' h = ap (λ (l : List Claim). map f r ++ (l ++ v)) e' ∙ (sym (map_snoc f r x v) ∙ (ap (λ (l : List LockSeat). map f l ++ v) (sym e) ∙ h))

module _ {A : Type 0} where
  pub or_left : (r m : List A) (k : ℕ) (d : A) → k < length r → get_or (r ++ m) k d ≡ get_or r k d
  or_left [] m k d l = absurd (omega arith)
  or_left (x ∷ xs) m zero d l = refl
  or_left (x ∷ xs) m (suc k) d l = or_left xs m k d (omega arith)

  pub at_or : (r : List A) (k : ℕ) (d : A) → k < length r → get_elem? r k ≡ some (get_or r k d)
  at_or [] k d l = absurd (omega arith)
  at_or (x ∷ xs) zero d l = refl
  at_or (x ∷ xs) (suc k) d l = at_or xs k d (omega arith)

  pub longer : (m : List A) (v : List A) → 0 < length v → 0 < length (m ++ v)
  longer [] v h = h
  longer (x ∷ xs) v h = omega arith

module _ {T : Type 0} (tell : T → ℕ → List ℕ) (seats : ℕ) where
  pub joins_claims : (n : ℕ) (firsts : List Claim) → 0 < length firsts → (m : ℕ) (others : List Claim) (id other : ℕ) (v w : View) → v ≡ keeper n firsts → w ≡ keeper m others
      → Joins (Kept tell seats) id v other w (both v w) spent
  joins_claims n [] h m others id other v w e e' = absurd (omega arith)
  joins_claims n (a ∷ firsts) h m others id other v w e e' = joins_seat tell seats 0 n a firsts m others id other v w e e'

  pub opens_with : (x y : T) (xs : List (Option T)) → xs ≡ Some x ∷ [] → y ≡ x → 0 < seats → ((k : ℕ) → k < seats → tell x k ≡ tell x 0)
      → Kept tell seats (opening (1 ∷ []) xs (maker seats (claim 0 (tell y 0)) 1 (notes_of (λ _. tell y 0) seats)))
  opens_with x y xs e e' some_seat same =
      subst (λ (z : List (Option T) × T). Kept tell seats (opening (1 ∷ []) z.0 (maker seats (claim 0 (tell z.1 0)) 1 (notes_of (λ _. tell z.1 0) seats)))) (λ i. (sym e i, sym e' i)) (opens tell seats 0 x (tell x 0) some_seat same)

  pub closes_with : (items : List LockSeat) (id : ℕ) (me : Me (Option T) View) (ws : List ℕ) (xs : List (Option T)) → Final (Seen (Kept tell seats) id me.0) ws xs
      → me ≡ (keeper me.0.seats (map seat_claim items), [])
      → ((k : ℕ) → k < seats → (s : LockSeat) × Contains items s × (seat_number s ≡ k))
      → (x : T) × (get_elem? xs 0 ≡ some (Some x)) × All (λ s. tell x (seat_number s) ≡ seat_note s) items
  closes_with items id me ws xs end e all =
      let h = closes tell seats 0 me.0.seats (map seat_claim items) id ws xs (subst (λ (v : View). Final (Seen (Kept tell seats) id v) ws xs) (ap (λ (m : Me (Option T) View). m.0) e) end)
      (λ k l. let a = all k l in let p = a.1 in (p.0, (seat_claim a.0, at_map seat_claim items p.0 a.0 (at_index items p.0 a.0 p.1 (sym p.2)), a.2))) in
      (h.0, h.1, λ k d l. h.2 k (seat_claim (get_or items k d)) (at_map seat_claim items k (get_or items k d) (at_or items k d l)))

-- all seats, where the others come behind the first
pub first_and_others : (z : TableId) (n : ℕ) (note : List ℕ) (first : LockSeat) (others : List LockSeat) → IsSeat z n 0 note first → length others + 1 ≡ n → AreFrom z n note 1 others → AreSeats z n note (first ∷ others)
first_and_others z n note first others is long rest = (omega arith, go)
  where
    go : (k : ℕ) (d : LockSeat) → k < n → IsSeat z n k note (get_or (first ∷ others) k d)
    go zero d l = is
    go (suc k) d l = subst (λ (j : ℕ). IsSeat z n j note (get_or others k d)) (omega arith) (rest k d (omega arith))

pub lock_left : (z : TableId) (seats r : List LockSeat) (x : LockSeat) → seats ≡ r ++ x ∷ [] → All (λ s. seat_lock s ≡ z) seats → All (λ s. seat_lock s ≡ z) r
lock_left z seats r x e all k d l = let all' : All (λ s. seat_lock s ≡ z) (r ++ x ∷ []) = subst (λ (ss : List LockSeat). All (λ s. seat_lock s ≡ z) ss) e all in
    ap seat_lock (sym (or_left r (x ∷ []) k d l)) ∙ all' k d (omega (arith, length-append r (x ∷ [])))

pub is_seat : (z : TableId) (n k : ℕ) (note : List ℕ) (s : LockSeat) → s.badge.table_id ≡ z → s.badge.views ≡ outside n (claim k note) ∷ [] → IsSeat z n k note s
is_seat z n k note s e v = (e, ap (λ (vs : List View). (first_view vs).seats) v, ap (λ (vs : List View). (claim_of (first_view vs)).number) v, ap (λ (vs : List View). (claim_of (first_view vs)).note) v)

pub all_seats : (z : TableId) (n : ℕ) (note g : List ℕ) (first : LockSeat) (others items : List LockSeat) → items ≡ first ∷ others → first.badge.table_id ≡ z → first.badge.views ≡ outside n (claim 0 g) ∷ [] → length others + 1 ≡ n
    → AreFrom z n g 1 others → g ≡ note → AreSeats z n note items
all_seats z n note g first others items e id v long rest same =
    subst (λ (x : List LockSeat × List ℕ). AreSeats z n x.1 x.0) (λ i. (sym e i, same i)) (first_and_others z n g first others (is_seat z n 0 g first id v) long rest)
