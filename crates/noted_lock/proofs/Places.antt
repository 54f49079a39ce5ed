-- Lists read by `get_elem?`, functions changed at one number, and the list of the notes.
use Rattle.std.proofs.Common.{◌≡◌, ◌≢◌, ℕ, zero, suc, ◌<◌, ◌⊎◌, Bool, cond, eqb, List, [], ◌∷◌, ◌++◌, length, set, sym, refl, ap, ◌∙◌, inl, inr, ⊎_elim, arith, eq-eqb, ne_eqb}
use mathlib.Core.Option.{some, some-injective, some-ne-none}
use lib.ListN.{get_elem?}
use Rattle.noted_lock.specs.declared.view.Claim.{Claim}
use Rattle.noted_lock.specs.Rule.{notes_of, note_in}

module _ {A : Type 0} where
  abbrev pub put : (ℕ → A) → ℕ → A → ℕ → A
  put f q x j = cond (eqb j q) x (f j)

  pub put_here : (f : ℕ → A) (q : ℕ) (x : A) → put f q x q ≡ x
  put_here f q x = ap (λ (b : Bool). cond b x (f q)) (eq-eqb q q refl)

  pub put_else : (f : ℕ → A) (q : ℕ) (x : A) (j : ℕ) → j ≢ q → put f q x j ≡ f j
  put_else f q x j ne = ap (λ (b : Bool). cond b x (f j)) (ne_eqb j q ne)

  pub set_at : (l : List A) (i : ℕ) (a b : A) → get_elem? l i ≡ some a → get_elem? (set l i b) i ≡ some b
  set_at [] i a b e = absurd (some-ne-none a (sym e))
  set_at (x ∷ xs) zero a b e = refl
  set_at (x ∷ xs) (suc i) a b e = set_at xs i a b e

  pub snoc_at : (l : List A) (a b : A) (j : ℕ) → get_elem? (l ++ a ∷ []) j ≡ some b → (get_elem? l j ≡ some b) ⊎ ((j ≡ length l) × (a ≡ b))
  snoc_at [] a b zero e = inr (refl, some-injective a b e)
  snoc_at [] a b (suc j) e = absurd (some-ne-none b (sym e))
  snoc_at (x ∷ xs) a b zero e = inl e
  snoc_at (x ∷ xs) a b (suc j) e = ⊎_elim (λ h. inl h) (λ h. inr (ap suc h.0, h.1)) (snoc_at xs a b j e)

  pub in_append : (l m : List A) (a : A) (j : ℕ) → get_elem? (l ++ m) j ≡ some a → ((i : ℕ) × (get_elem? l i ≡ some a)) ⊎ ((i : ℕ) × (get_elem? m i ≡ some a))
  in_append [] m a j e = inr (j, e)
  in_append (x ∷ xs) m a zero e = inl (0, e)
  in_append (x ∷ xs) m a (suc j) e = ⊎_elim (λ h. inl (suc h.0, h.1)) (λ h. inr h) (in_append xs m a j e)

  pub only : (a b : A) (i : ℕ) → get_elem? (a ∷ []) i ≡ some b → (i ≡ 0) × (a ≡ b)
  only a b zero e = (refl, some-injective a b e)
  only a b (suc i) e = absurd (some-ne-none b (sym e))

  pub one_of : (l : List A) (i : ℕ) (a b : A) → get_elem? l i ≡ some a → get_elem? l i ≡ some b → a ≡ b
  one_of l i a b e f = some-injective a b (sym e ∙ f)

-- no two claims have one number
abbrev pub Once : List Claim → Type 0
Once claims = (i l : ℕ) (c d : Claim) → get_elem? claims i ≡ some c → get_elem? claims l ≡ some d → c.number ≡ d.number → i ≡ l

pub alone : (a : Claim) → Once (a ∷ [])
alone a i l c d p q e = (only a c i p).0 ∙ sym (only a d l q).0

pub once_in_both : (others mine : List Claim) → Once others → Once mine
    → ((i l : ℕ) (c d : Claim) → get_elem? others i ≡ some c → get_elem? mine l ≡ some d → c.number ≢ d.number) → Once (others ++ mine)
once_in_both [] mine u v apart i l c d p q e = v i l c d p q e
once_in_both (x ∷ xs) mine u v apart zero zero c d p q e = refl
once_in_both (x ∷ xs) mine u v apart zero (suc l) c d p q e = ⊎_elim
    (λ (h : (k : ℕ) × (get_elem? xs k ≡ some d)). let same : 0 ≡ suc h.0 = u 0 (suc h.0) c d p h.1 e in absurd (omega arith))
    (λ (h : (k : ℕ) × (get_elem? mine k ≡ some d)). absurd (apart 0 h.0 c d p h.1 e)) (in_append xs mine d l q)
once_in_both (x ∷ xs) mine u v apart (suc i) zero c d p q e = ⊎_elim
    (λ (h : (k : ℕ) × (get_elem? xs k ≡ some c)). let same : 0 ≡ suc h.0 = u 0 (suc h.0) d c q h.1 (sym e) in absurd (omega arith))
    (λ (h : (k : ℕ) × (get_elem? mine k ≡ some c)). absurd (apart 0 h.0 d c q h.1 (sym e))) (in_append xs mine c i p)
once_in_both (x ∷ xs) mine u v apart (suc i) (suc l) c d p q e = ap suc (once_in_both xs mine
    (λ i' l' a b s t f. let h : suc i' ≡ suc l' = u (suc i') (suc l') a b s t f in omega arith) v
    (λ i' l' a b s t. apart (suc i') l' a b s t) i l c d p q e)

pub length-notes_of : (f : ℕ → List ℕ) (n : ℕ) → length (notes_of f n) ≡ n
length-notes_of f zero = refl
length-notes_of f (suc n) = ap suc (length-notes_of (λ k. f (suc k)) n)

pub note_in-notes_of : (f : ℕ → List ℕ) (n k : ℕ) → k < n → note_in (notes_of f n) k ≡ f k
note_in-notes_of f zero k l = absurd (omega arith)
note_in-notes_of f (suc n) zero l = refl
note_in-notes_of f (suc n) (suc k) l = note_in-notes_of (λ j. f (suc j)) n k (omega arith)
