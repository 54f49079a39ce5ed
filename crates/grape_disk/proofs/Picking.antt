-- Each pick is an image.
use Rattle.std.proofs.Common.{◌≡◌, ℕ, ◌+◌, ◌%◌, ◌==◌, ◌≤◌, Bool, true, false, if◌then◌else◌, List, length, slice_index, Result, Ok, Err, IfOk, refl, arith, sym, ◌∙◌, ap, subst}
use Rattle.std.proofs.lemmas.List.FromFn.{length-map-range_with_len, get_or-map-range_with_len}
use Rattle.grape_disk.specs.Platters.{PlatterState, IsImage}
use Rattle.grape_disk.specs.Picks.{mixed_byte, mixed_length, picked}
use Rattle.grape_disk.specs.Whole.{IsWhole}
use Rattle.grape_disk.specs.Laws.{whole_image}
use Rattle.grape_disk.specs.declared.pick.Pick.{Pick}
use Rattle.grape_disk.specs.declared.pick.Pick.TheVariants.{Synced, Read, Mixed}

between : (b : Bool) (read stable : ℕ) → stable ≤ read → (stable ≤ (if b then read else stable)) × ((if b then read else stable) ≤ read)
between true read stable le = (le, omega arith)
between false read stable le = (omega arith, le)

mixed_image : (n : ℕ) (p : PlatterState) → IsWhole p → IsImage p (picked (Mixed n) p)
mixed_image n p whole =
    let size = length-map-range_with_len (mixed_byte n p.pending p.stable) 0 (mixed_length n p)
    in let within = between (n % 2 == 0) (length p.read) (length p.stable) whole.no_shorter
    in record {
      no_shorter = omega (arith, size, within.0);
      no_longer = omega (arith, size, within.1);
      elsewhere = λ i low down.
          get_or-map-range_with_len (mixed_byte n p.pending p.stable) 0 (mixed_length n p) i i 0 (omega (arith, low, size)) (omega arith)
          ∙ ap (λ (b : Bool). if b then (n + i) % 256 else slice_index p.stable i) down;
    }

pub picked_image : (pick : Pick) (p : PlatterState) → IsWhole p → IsImage p (picked pick p)
picked_image Synced p whole = record { no_shorter = omega arith; no_longer = whole.no_shorter; elsewhere = λ i low down. refl }
picked_image Read p whole = whole_image p whole
picked_image (Mixed n) p whole = mixed_image n p whole

-- what holds of a value holds of an answer that is it
pub answers : {T E : Type 0} (items : T → List ℕ) (P : List ℕ → Type 0) (x : List ℕ) (result : Result T E) → P x → IfOk result (λ t. items t ≡ x) → IfOk result (λ t. P (items t))
answers items P x (Ok t) p is = subst P (sym is) p
answers items P x (Err e) p is = is
