-- The steps of a put come to one write, and end within the file's length.
use Rattle.std.proofs.Common.{◌≡◌, ◌⊎◌, inl, inr, ⊎_elim, ℕ, suc, ◌+◌, ◌-◌, ◌%◌, ◌<◌, ◌≤◌, max, List, [], ◌∷◌, length, slice_index, get_or, sym, ◌∙◌, ap, arith}
use Rattle.std.proofs.lemmas.Bool.{cases_eq}
use Rattle.std.proofs.lemmas.Bool.Decides.{leb_tells}
use Rattle.std.proofs.lemmas.List.{ext_get_or, get_or_past}
use Rattle.grape_disk.specs.Images.{written}
use Rattle.grape_disk.specs.Placed.{below, gap, inside, above}
use Rattle.token_cut.specs.Parts.{SnapshotParts}
use Rattle.token_cut.specs.Shapes.{Starts}
use Rattle.snapshot_file.specs.Bodies.{body_bytes}
use Rattle.snapshot_file.specs.Lengths.{body_length, file_length}
use Rattle.snapshot_store.specs.State.{OPEN, slot_place, kept_file}
use Rattle.snapshot_store.specs.Steps.{closed}
use Rattle.snapshot_store.proofs.Gates.{closed_shut, closed_open}
use Rattle.snapshot_store.proofs.Pieces.{length_written}
use Rattle.snapshot_store.proofs.Put.{slot_within}

before_written : (at : ℕ) (bytes file : List ℕ) (i : ℕ) → i < at → slice_index (written at bytes file) i ≡ slice_index file i
before_written at bytes file i low =
    ⊎_elim (λ past. gap 0 at bytes file i 0 past.1 low ∙ sym (get_or_past file i 0 past.1)) (λ within. below 0 at bytes file i 0 within.1 low) (leb_tells (length file) i)

module _ (at : ℕ) (file : List ℕ) where
  closed_before : (i : ℕ) → i < at → slice_index (closed at file) i ≡ slice_index file i
  closed_before i low =
      ⊎_elim (λ is. ap (λ (f : List ℕ). slice_index f i) (closed_open at file is) ∙ before_written at (0 ∷ []) file i low)
      (λ shut. ap (λ (f : List ℕ). slice_index f i) (closed_shut at file shut)) (cases_eq (slice_index file at) OPEN)

  closed_behind : (i : ℕ) → at + 1 ≤ i → slice_index (closed at file) i ≡ slice_index file i
  closed_behind i high =
      ⊎_elim (λ is. ap (λ (f : List ℕ). slice_index f i) (closed_open at file is) ∙ above 0 at (0 ∷ []) file i 0 (omega (arith, high)))
      (λ shut. ap (λ (f : List ℕ). slice_index f i) (closed_shut at file shut)) (cases_eq (slice_index file at) OPEN)

  closed_long : (length (closed at file) ≡ length file) ⊎ (length (closed at file) ≡ max (length file) (at + 1))
  closed_long =
      ⊎_elim (λ is. inr (ap length (closed_open at file is) ∙ length_written at (0 ∷ []) file)) (λ shut. inl (ap length (closed_shut at file shut))) (cases_eq (slice_index file at) OPEN)

  module _ (body : List ℕ) where
    abbrev pub steps : List ℕ
    steps = written at (OPEN ∷ []) (written (at + 1) body (closed at file))

    abbrev pub once : List ℕ
    once = written at (OPEN ∷ body) file

    length_steps : length steps ≡ length once
    length_steps =
        ⊎_elim (λ is. omega (arith, is, length_written at (OPEN ∷ []) (written (at + 1) body (closed at file)), length_written (at + 1) body (closed at file), length_written at (OPEN ∷ body) file))
        (λ is. omega (arith, is, length_written at (OPEN ∷ []) (written (at + 1) body (closed at file)), length_written (at + 1) body (closed at file), length_written at (OPEN ∷ body) file)) closed_long

    on_left : (i : ℕ) → i < at → slice_index steps i ≡ slice_index once i
    on_left i low =
        before_written at (OPEN ∷ []) (written (at + 1) body (closed at file)) i low
        ∙ before_written (at + 1) body (closed at file) i (omega (arith, low))
        ∙ closed_before i low
        ∙ sym (before_written at (OPEN ∷ body) file i low)

    on_gate : (i : ℕ) → at ≤ i → i < at + 1 → slice_index steps i ≡ slice_index once i
    on_gate i high low =
        let here : i - at ≡ 0 = omega (arith, high, low) in
        inside 0 at (OPEN ∷ []) (written (at + 1) body (closed at file)) i 0 high (omega (arith, low))
        ∙ ap (λ (j : ℕ). get_or (OPEN ∷ []) j 0) here
        ∙ sym (ap (λ (j : ℕ). get_or (OPEN ∷ body) j 0) here)
        ∙ sym (inside 0 at (OPEN ∷ body) file i 0 high (omega (arith, low)))

    in_body : (i : ℕ) → at + 1 ≤ i → i < at + 1 + length body → slice_index steps i ≡ slice_index once i
    in_body i high low =
        let next : i - at ≡ suc (i - (at + 1)) = omega (arith, high) in
        above 0 at (OPEN ∷ []) (written (at + 1) body (closed at file)) i 0 (omega (arith, high))
        ∙ inside 0 (at + 1) body (closed at file) i 0 high low
        ∙ sym (ap (λ (j : ℕ). get_or (OPEN ∷ body) j 0) next)
        ∙ sym (inside 0 at (OPEN ∷ body) file i 0 (omega (arith, high)) (omega (arith, low)))

    on_right : (i : ℕ) → at + 1 + length body ≤ i → slice_index steps i ≡ slice_index once i
    on_right i high =
        above 0 at (OPEN ∷ []) (written (at + 1) body (closed at file)) i 0 (omega (arith, high))
        ∙ above 0 (at + 1) body (closed at file) i 0 high
        ∙ closed_behind i (omega (arith, high))
        ∙ sym (above 0 at (OPEN ∷ body) file i 0 (omega (arith, high)))

    pub steps_once : steps ≡ once
    steps_once = ext_get_or 0 steps once length_steps (λ i _.
        ⊎_elim (λ right. on_right i right.1)
        (λ r. ⊎_elim (λ high. in_body i high.1 r.1)
        (λ near. ⊎_elim (λ high. on_gate i high.1 near.1) (λ left. on_left i left.1) (leb_tells at i))
        (leb_tells (at + 1) i))
        (leb_tells (at + 1 + length body) i))

pub kept_once : (shape : Starts) (snapshot : SnapshotParts) (file : List ℕ) (at : ℕ) (bytes : List ℕ) → at ≡ slot_place shape (snapshot.epoch % 2) → bytes ≡ body_bytes snapshot
    → written at (OPEN ∷ []) (written (at + 1) bytes (closed at file)) ≡ kept_file shape snapshot file
kept_once shape snapshot file at bytes at_is bytes_is =
    steps_once at file bytes ∙ ap (λ (b : List ℕ). written at (OPEN ∷ b) file) bytes_is ∙ ap (λ (a : ℕ). written a (OPEN ∷ body_bytes snapshot) file) at_is

-- where the gate of the slot stands, and where its body ends
pub record EndsWithin (at size most : ℕ) : Type 0 where
  pub gate : at + 1 ≤ most
  pub body : at + 1 + size ≤ most

pub ends_within : (shape : Starts) (epoch at size most : ℕ) → at ≡ slot_place shape (epoch % 2) → size ≡ body_length shape → file_length shape ≤ most → EndsWithin at size most
ends_within shape epoch at size most at_is long enough =
    let end = slot_within shape (epoch % 2) (omega arith) in
    record { gate = omega (arith, at_is, end, enough); body = omega (arith, at_is, long, end, enough) }
