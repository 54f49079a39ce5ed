-- The three steps of a put, on the bytes of the file: the gate is closed, the body is written, the gate is opened.
use Rattle.std.proofs.Common.{◌≡◌, ◌≢◌, ◌⊎◌, inl, inr, ⊎_elim, ℕ, zero, suc, ◌+◌, ◌*◌, ◌%◌, ◌<◌, ◌≤◌, false, List, [], ◌∷◌, take, length, slice_index, ◌==◌, Ok, refl, sym, ◌∙◌, ap, subst, arith}
use Rattle.std.proofs.lemmas.Bool.{cases_eq}
use Rattle.std.proofs.lemmas.Bool.Decides.{nat_tests}
use Rattle.grape_disk.specs.Images.{piece, written, Torn}
use Rattle.token_cut.specs.Parts.{SnapshotParts}
use Rattle.token_cut.specs.Shapes.{Starts}
use Rattle.snapshot_file.specs.Bodies.{body_bytes}
use Rattle.snapshot_file.specs.Lengths.{body_length, slot_length, file_length}
use Rattle.snapshot_file.specs.Reading.{decoded}
use Rattle.snapshot_store.specs.State.{OPEN, is_open, slot_place, slot, file_state, IsKept, KeepsOrTakes, Takes}
use Rattle.snapshot_store.specs.State.FileState.{last}
use Rattle.snapshot_store.specs.Steps.{closed, ClosesGate}
use Rattle.snapshot_store.proofs.Pieces.{torn_piece, piece_cons, piece_index, written_torn, written_piece, length_written}
use Rattle.snapshot_store.proofs.Gates.{closed_shut, closed_open}
use Rattle.snapshot_store.proofs.TwoSlots.{header_long, Beside, beside_self, beside_torn, same_state, new_state}

pub slot_within : (shape : Starts) (k : ℕ) → k < 2 → slot_place shape k + slot_length shape ≤ file_length shape
slot_within shape zero low = omega arith
slot_within shape (suc zero) low = omega arith
slot_within shape (suc (suc k)) low = absurd (omega arith)

pub not_open : (b : ℕ) → b ≢ OPEN → (b == OPEN) ≡ false
not_open b other = grind (arith, nat_tests)

same_length : (at : ℕ) (bytes file : List ℕ) → at + length bytes ≤ length file → length (written at bytes file) ≡ length file
same_length at bytes file within = omega (arith, length_written at bytes file)

-- a byte that was written
pub byte_written : (at b : ℕ) (file : List ℕ) → slice_index (written at (b ∷ []) file) at ≡ b
byte_written at b file =
    ap (λ (i : ℕ). slice_index (written at (b ∷ []) file) i) (omega arith)
    ∙ sym (piece_index at 1 (written at (b ∷ []) file) 0 (omega arith))
    ∙ ap (λ (l : List ℕ). slice_index l 0) (written_piece at (b ∷ []) file)

module _ (shape : Starts) (digest : List ℕ) (k n : ℕ) (f : List ℕ) (low : k < 2) (next : (n + 1) % 2 ≡ k) (kept : IsKept shape digest n f) where
  at : ℕ
  at = slot_place shape k

  size : file_length shape ≤ length f
  size = header_long shape digest (take 64 f) (length f) kept.whole

  pub place_within : slot_place shape k + slot_length shape ≤ length f
  place_within = omega (arith, slot_within shape k low, size)

  gate_and_body : (c : List ℕ) → length f ≤ length c → slot shape k c ≡ slice_index c (slot_place shape k) ∷ piece (slot_place shape k + 1) (body_length shape) c
  gate_and_body c long = piece_cons (slot_place shape k) (body_length shape) c (omega (arith, place_within))

  gate_shut : (c : List ℕ) → length f ≤ length c → slice_index c (slot_place shape k) ≢ OPEN → is_open (slot shape k c) ≡ false
  gate_shut c long shut = ap is_open (gate_and_body c long) ∙ not_open (slice_index c (slot_place shape k)) shut

  beside : (from m : ℕ) (g c : List ℕ) → Beside shape k f g → Torn from m g c → slot_place shape k ≤ from → from + m ≤ slot_place shape k + slot_length shape → Beside shape k f c
  beside from m g c so_far torn start end = beside_torn shape k from m f g c low size so_far torn start end

  -- while the gate is closed
  closing : (c : List ℕ) → ClosesGate (slot_place shape k) f c → (file_state shape digest c ≡ file_state shape digest f) × IsKept shape digest n c
  closing c (was, torn) =
      let near = beside (slot_place shape k) 1 f c (beside_self shape k f) torn (omega arith) (omega arith) in
      same_state shape digest k n f c low next kept near
      (⊎_elim (λ is. inr (gate_and_body c near.long ∙ ap (λ (b : ℕ). b ∷ piece (slot_place shape k + 1) (body_length shape) c) (is ∙ sym was)
      ∙ ap (λ (l : List ℕ). slice_index f (slot_place shape k) ∷ l) (torn_piece (slot_place shape k) 1 f c (slot_place shape k + 1) (body_length shape) torn (omega (arith, place_within)) (inr (omega arith)))
      ∙ sym (gate_and_body f (omega arith))))
      (λ shut. inl (gate_shut c near.long shut)) (cases_eq (slice_index c (slot_place shape k)) OPEN))

  abbrev pub IsShut : List ℕ → Type 0
  IsShut g = (length g ≡ length f) × Beside shape k f g × (slice_index g (slot_place shape k) ≢ OPEN)

  pub is_shut : IsShut (closed (slot_place shape k) f)
  is_shut =
      ⊎_elim (λ is. subst IsShut (sym (closed_open (slot_place shape k) f is)) (
        same_length (slot_place shape k) (0 ∷ []) f (omega (arith, place_within)),
        beside (slot_place shape k) 1 f _ (beside_self shape k f) (written_torn (slot_place shape k) (0 ∷ []) f) (omega arith) (omega arith),
        λ e. not_gate (sym (byte_written (slot_place shape k) 0 f) ∙ e),
      ))
      (λ shut. subst IsShut (sym (closed_shut (slot_place shape k) f shut)) (refl, beside_self shape k f, shut))
      (cases_eq (slice_index f (slot_place shape k)) OPEN)
    where
      not_gate : 0 ≡ OPEN → ⊥
      not_gate e = omega arith

  -- while the body is written behind the closed gate
  behind_gate : (m : ℕ) (g c : List ℕ) → IsShut g → m ≡ body_length shape → Torn (slot_place shape k + 1) m g c → (file_state shape digest c ≡ file_state shape digest f) × IsKept shape digest n c
  behind_gate m g c shut long torn =
      let near = beside (slot_place shape k + 1) m g c shut.1 torn (omega arith) (omega arith) in
      let gate = torn.before (slot_place shape k) (omega (arith, shut.0, place_within)) (omega arith) in
      same_state shape digest k n f c low next kept near (inl (gate_shut c near.long (λ e. shut.2 (sym gate ∙ e))))

  module _ (body : List ℕ) (snapshot : SnapshotParts) (long : length body ≡ body_length shape) (reads : decoded shape k (slot_place shape k + 1) body ≡ Ok snapshot) (epoch : snapshot.epoch ≡ n + 1) where
    -- the body stands, whatever the gate
    abbrev pub HasBody : List ℕ → Type 0
    HasBody h = (length h ≡ length f) × Beside shape k f h × (piece (slot_place shape k + 1) (body_length shape) h ≡ body)

    pub has_body : (g : List ℕ) → IsShut g → HasBody (written (slot_place shape k + 1) body g)
    has_body g shut =
        let within : slot_place shape k + 1 + length body ≤ length g = omega (arith, shut.0, place_within, long) in (
          same_length (slot_place shape k + 1) body g within ∙ shut.0,
          beside (slot_place shape k + 1) (length body) g _ shut.1 (written_torn (slot_place shape k + 1) body g) (omega arith) (omega (arith, long)),
          ap (λ (m : ℕ). piece (slot_place shape k + 1) m (written (slot_place shape k + 1) body g)) (sym long) ∙ written_piece (slot_place shape k + 1) body g,
        )

    with_gate : (h c : List ℕ) → HasBody h → Torn (slot_place shape k) 1 h c → slot shape k c ≡ slice_index c (slot_place shape k) ∷ body
    with_gate h c has torn =
        gate_and_body c (omega (arith, torn.no_shorter, has.0))
        ∙ ap (λ (l : List ℕ). slice_index c (slot_place shape k) ∷ l)
        (torn_piece (slot_place shape k) 1 h c (slot_place shape k + 1) (body_length shape) torn (omega (arith, has.0, place_within)) (inr (omega arith)) ∙ has.2)

    opened_now : (h c : List ℕ) → HasBody h → Torn (slot_place shape k) 1 h c → slice_index c (slot_place shape k) ≡ OPEN → (file_state shape digest c ≡ last snapshot) × IsKept shape digest (n + 1) c
    opened_now h c has torn is =
        let near = beside (slot_place shape k) 1 h c has.1 torn (omega arith) (omega arith) in
        new_state shape digest k n f c body snapshot low next kept near (with_gate h c has torn ∙ ap (λ (b : ℕ). b ∷ body) is) reads epoch

    -- while the gate is opened
    opening : (h c : List ℕ) → HasBody h → Torn (slot_place shape k) 1 h c → (file_state shape digest c ≡ file_state shape digest f) ⊎ (file_state shape digest c ≡ last snapshot)
    opening h c has torn =
        let near = beside (slot_place shape k) 1 h c has.1 torn (omega arith) (omega arith) in
        ⊎_elim (λ is. inr (opened_now h c has torn is).0)
        (λ shut. inl (same_state shape digest k n f c low next kept near (inl (gate_shut c near.long shut))).0) (cases_eq (slice_index c (slot_place shape k)) OPEN)

    -- ---- what each step of a put leaves

    pub closing_leaves : (c : List ℕ) → ClosesGate (slot_place shape k) f c → KeepsOrTakes shape digest snapshot f c
    closing_leaves c closes = record { state = inl (closing c closes).0; size = omega (arith, closes.1.no_longer, place_within) }

    pub body_leaves : (c : List ℕ) → Torn (slot_place shape k + 1) (body_length shape) (closed (slot_place shape k) f) c → KeepsOrTakes shape digest snapshot f c
    body_leaves c torn = record {
      state = inl (behind_gate (body_length shape) (closed (slot_place shape k) f) c is_shut refl torn).0;
      size = omega (arith, torn.no_longer, place_within, is_shut.0);
    }

    abbrev pub staged : List ℕ
    staged = written (slot_place shape k + 1) body (closed (slot_place shape k) f)

    pub opening_leaves : (c : List ℕ) → Torn (slot_place shape k) 1 staged c → KeepsOrTakes shape digest snapshot f c
    opening_leaves c torn =
        let has = has_body (closed (slot_place shape k) f) is_shut in
        record { state = opening staged c has torn; size = omega (arith, torn.no_longer, place_within, has.0) }

    pub put_takes : Takes shape digest snapshot (written (slot_place shape k) (OPEN ∷ []) staged)
    put_takes =
        let has = has_body (closed (slot_place shape k) f) is_shut in
        let both = opened_now staged (written (slot_place shape k) (OPEN ∷ []) staged) has (written_torn (slot_place shape k) (OPEN ∷ []) staged) (byte_written (slot_place shape k) OPEN staged) in
        record { state = both.0; kept = subst (λ m. IsKept shape digest m (written (slot_place shape k) (OPEN ∷ []) staged)) (sym epoch) both.1 }

-- what the steps of a put leave, and what it ends with
pub record PutSteps (shape : Starts) (digest : List ℕ) (snapshot : SnapshotParts) (f : List ℕ) (at : ℕ) (bytes : List ℕ) : Type 0 where
  pub closing : (c : List ℕ) → ClosesGate at f c → KeepsOrTakes shape digest snapshot f c
  pub behind : (c : List ℕ) → Torn (at + 1) (body_length shape) (closed at f) c → KeepsOrTakes shape digest snapshot f c
  pub opening : (c : List ℕ) → Torn at 1 (written (at + 1) bytes (closed at f)) c → KeepsOrTakes shape digest snapshot f c
  pub done : Takes shape digest snapshot (written at (OPEN ∷ []) (written (at + 1) bytes (closed at f)))

pub put_steps : (shape : Starts) (digest : List ℕ) (snapshot : SnapshotParts) (n : ℕ) (f : List ℕ) (at : ℕ) (bytes : List ℕ)
    → snapshot.epoch ≡ n + 1 → at ≡ slot_place shape (snapshot.epoch % 2) → bytes ≡ body_bytes snapshot → length (body_bytes snapshot) ≡ body_length shape
    → decoded shape (snapshot.epoch % 2) (slot_place shape (snapshot.epoch % 2) + 1) (body_bytes snapshot) ≡ Ok snapshot → IsKept shape digest n f
    → PutSteps shape digest snapshot f at bytes
put_steps shape digest snapshot n f at bytes epoch at_is bytes_is long reads kept =
    let k = snapshot.epoch % 2 in
    let low : snapshot.epoch % 2 < 2 = omega arith in
    let next : (n + 1) % 2 ≡ snapshot.epoch % 2 = ap (λ (m : ℕ). m % 2) (sym epoch) in
    let body = body_bytes snapshot in
    let here : PutSteps shape digest snapshot f (slot_place shape k) body =
    record {
      closing = closing_leaves shape digest k n f low next kept body snapshot long reads epoch;
      behind = body_leaves shape digest k n f low next kept body snapshot long reads epoch;
      opening = opening_leaves shape digest k n f low next kept body snapshot long reads epoch;
      done = put_takes shape digest k n f low next kept body snapshot long reads epoch;
    } in
    subst (λ (a : ℕ). PutSteps shape digest snapshot f a bytes) (sym at_is) (subst (λ (b : List ℕ). PutSteps shape digest snapshot f (slot_place shape k) b) (sym bytes_is) here)

pub gate_place : (shape : Starts) (e epoch size : ℕ) → e ≡ epoch → size ≡ slot_length shape → 64 + e % 2 * size ≡ slot_place shape (epoch % 2)
gate_place shape e epoch size is long = ap (λ (m : ℕ). 64 + m % 2 * size) is ∙ ap (λ (l : ℕ). 64 + epoch % 2 * l) long
