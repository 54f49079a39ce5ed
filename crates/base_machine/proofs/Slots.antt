-- What a state file may hold in a slot, and what a run may begin with, are one form.
use Rattle.std.proofs.Common.{◌≡◌, ℕ, ◌<◌, ◌^◌, ◌⊎◌, inl, inr, suc, sym, ◌∙◌, subst, arith, List, [], ◌∷◌, ◌++◌, map, length, slice_index}
use Rattle.std.specs.List.{AllZip, AllByRecursion}
use Rattle.std.proofs.lemmas.List.{map-append}
use Rattle.std.proofs.lemmas.Nat.{and_le_r}
use Rattle.value_order.specs.declared.order.Order.{Order}
use Rattle.value_order.specs.declared.order.Order.TheVariants.{Least, Mask}
use Rattle.value_order.specs.declared.TheConstants.{NOTHING}
use Rattle.value_order.specs.Order.{Below}
use Rattle.value_order.proofs.Orders.{Below-trans}
use Rattle.graph_core.specs.Fragments.{Piece, piece_at, places}
use Rattle.pie_core.specs.Solutions.{starts_of}
use Rattle.token_cut.specs.Parts.{PartValues}
use Rattle.token_cut.specs.Form.{IsPartInSlotForm}
use Rattle.base_machine.specs.Machine.{System}
use Rattle.base_machine.specs.Shapes.{piece_starts}
use Rattle.base_machine.specs.Fitness.{IsPartInForm}
use Rattle.base_machine.specs.Theorems.{IsSound, SlotsHoldStarts}
use Rattle.base_machine.proofs.Posts.{all_append, all_right}

-- ---- what lies below a start value has 64 bits

has_64_bits : (o : Order) (x : ℕ) → Below o x NOTHING → x < 2 ^ 64
has_64_bits Least x h = omega (arith, h)
has_64_bits Mask x h = omega (arith, h, and_le_r x NOTHING)

value_has_64_bits : (o : Order) (x top : ℕ) → Below o top NOTHING → Below o x top → x < 2 ^ 64
value_has_64_bits o x top small below = has_64_bits o x (Below-trans o x top NOTHING below small)

mail_has_64_bits : (o : Order) (x top : ℕ) → Below o top NOTHING → (x ≡ NOTHING) ⊎ Below o x top → x < 2 ^ 64
mail_has_64_bits o x top small (inl none) = omega (arith, none)
mail_has_64_bits o x top small (inr below) = value_has_64_bits o x top small below

module _ (sys : System) (sound : IsSound sys) where
  abbrev AreInside : List ℕ → Type 0
  AreInside = AllByRecursion (λ v. v < sys.equations.count)

  all_inside : (vs : List ℕ) → ((p : ℕ) → p < length vs → slice_index vs p < sys.equations.count) → AreInside vs
  all_inside [] h = tt
  all_inside (v ∷ vs) h = (h 0 (omega arith), all_inside vs (λ p l. h (suc p) (omega (arith, l))))

  -- numbers that the start values of vertices bound, one by one
  have_64_bits : (R : ℕ → ℕ → Type 0) → ((x top : ℕ) → Below sys.equations.order top NOTHING → R x top → x < 2 ^ 64) → (vs xs : List ℕ) → AreInside vs → AllZip R xs (starts_of sys.equations vs) → AllByRecursion (λ x. x < 2 ^ 64) xs
  have_64_bits R bounded [] [] inside h = tt
  have_64_bits R bounded [] (x ∷ xs) inside h = absurd h
  have_64_bits R bounded (v ∷ vs) [] inside h = absurd h
  have_64_bits R bounded (v ∷ vs) (x ∷ xs) inside h =
      (bounded x (sys.equations.start v) (sound.lawful.start_is_value v inside.0) h.0, have_64_bits R bounded vs xs inside.1 h.1)

  -- ---- one part

  all_starts : (piece : Piece) → starts_of sys.equations (places piece) ≡ starts_of sys.equations piece.owned ++ starts_of sys.equations piece.mirrors
  all_starts piece = map-append sys.equations.start piece.owned piece.mirrors

  part_begins : (piece : Piece) (part : PartValues) → IsPartInSlotForm sys.equations.order (piece_starts sys.equations piece) part → IsPartInForm sys piece part
  part_begins piece part h = record {
    values = subst (AllZip (Below sys.equations.order) part.values) (sym (all_starts piece)) h.values;
    fresh = λ phase. h.fresh phase ∙ sym (all_starts piece);
    mail = h.mail;
  }

  part_stands : (piece : Piece) (part : PartValues) → AreInside (places piece) → IsPartInForm sys piece part → IsPartInSlotForm sys.equations.order (piece_starts sys.equations piece) part
  part_stands piece part inside h =
      let o = sys.equations.order in
      record {
        values = subst (AllZip (Below o) part.values) (all_starts piece) h.values;
        fresh = λ phase. h.fresh phase ∙ all_starts piece;
        mail = h.mail;
        numbers =
            all_append (λ x. x < 2 ^ 64) part.values part.mail
            (have_64_bits _ (value_has_64_bits o) (places piece) part.values inside h.values)
            (have_64_bits _ (mail_has_64_bits o) piece.mirrors part.mail (all_right _ piece.owned piece.mirrors inside) h.mail);
      }

  -- ---- all parts

  parts_begin : (pieces : List Piece) (parts : List PartValues) → AllZip (IsPartInSlotForm sys.equations.order) (map (piece_starts sys.equations) pieces) parts → AllZip (IsPartInForm sys) pieces parts
  parts_begin [] [] h = tt
  parts_begin [] (part ∷ parts) h = absurd h
  parts_begin (piece ∷ pieces) [] h = absurd h
  parts_begin (piece ∷ pieces) (part ∷ parts) h = (part_begins piece part h.0, parts_begin pieces parts h.1)

  parts_stand : (pieces : List Piece) (parts : List PartValues) → ((i : ℕ) → i < length pieces → AreInside (places (piece_at pieces i))) → AllZip (IsPartInForm sys) pieces parts → AllZip (IsPartInSlotForm sys.equations.order) (map (piece_starts sys.equations) pieces) parts
  parts_stand [] [] inside h = tt
  parts_stand [] (part ∷ parts) inside h = absurd h
  parts_stand (piece ∷ pieces) [] inside h = absurd h
  parts_stand (piece ∷ pieces) (part ∷ parts) inside h = (part_stands piece part (inside 0 (omega arith)) h.0, parts_stand pieces parts (λ i l. inside (suc i) (omega (arith, l))) h.1)

pub slots_hold_starts : SlotsHoldStarts
slots_hold_starts sys sound slot s = (
  λ h. (h.epoch, record { epoch = h.epoch.to; parts = parts_begin sys sound sys.pieces s.parts h.parts }),
  λ h. record { epoch = h.0; parts = parts_stand sys sound sys.pieces s.parts (λ i l. all_inside sys sound (places (piece_at sys.pieces i)) (λ p k. sound.cut.in_range i p l k)) h.1.parts },
)
