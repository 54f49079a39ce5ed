-- A snapshot is in the form exactly where its numbers pass the tests.
use Rattle.std.proofs.Common.{◌≡◌, ◌⊎◌, inl, inr, ⊎_elim, ℕ, ◌%◌, ◌^◌, ◌<◌, ◌≤◌, Bool, true, false, ◌||◌, ◌==◌, IsTrue, List, [], ◌∷◌, ◌++◌, map, refl, sym, ap, ◌∙◌, subst, arith}
use Rattle.std.specs.List.{AllZip, AllByRecursion}
use Rattle.std.specs.Int.Bits.{and_self}
use Rattle.std.proofs.lemmas.Bool.Decides.{nat_tests}
use Rattle.value_order.specs.Order.{Below}
use Rattle.value_order.specs.declared.TheConstants.{NOTHING}
use Rattle.value_order.specs.declared.order.Order.{Order}
use Rattle.value_order.specs.declared.order.Order.TheVariants.{Least, Mask}
use Rattle.token_cut.specs.declared.phase.Phase.{Phase}
use Rattle.token_cut.specs.declared.phase.Phase.TheVariants.{Fresh, Rest}
use Rattle.token_cut.specs.Form.{IsEpoch, IsPartInSlotForm, IsInSlotForm}
use Rattle.token_cut.specs.Parts.{PartValues, SnapshotParts}
use Rattle.token_cut.specs.Shapes.{PartStarts, Starts}
use Rattle.snapshot_file.specs.Tests.{is_epoch, is_below, is_value, is_mail, value_tests, mail_tests}

-- one number a test, each of eight bytes
abbrev pub Pass : List (ℕ → Bool) → List ℕ → Type 0
Pass [] [] = Unit {0}
Pass (test ∷ tests) (n ∷ ns) = IsTrue (test n) × (n < 2 ^ 64) × Pass tests ns
Pass tests ns = ⊥

pub record PartPasses (order : Order) (starts : PartStarts) (part : PartValues) : Type 0 where
  pub values : Pass (value_tests order part.phase starts) part.values
  pub mail : Pass (mail_tests order starts) part.mail

abbrev pub PartsPass : Order → List PartStarts → List PartValues → Type 0
PartsPass order [] [] = Unit {0}
PartsPass order (starts ∷ shape) (part ∷ parts) = PartPasses order starts part × PartsPass order shape parts
PartsPass order shape parts = ⊥

pub record Passes (shape : Starts) (slot : ℕ) (snapshot : SnapshotParts) : Type 0 where
  pub epoch : IsTrue (is_epoch slot snapshot.epoch)
  pub parts : PartsPass shape.order shape.parts snapshot.parts

-- ---- one number

below_from : (order : Order) (start n : ℕ) → is_below order start n ≡ true → Below order n start
below_from Least start n is = grind (arith, nat_tests)
below_from Mask start n is = grind (arith, nat_tests)

below_to : (order : Order) (start n : ℕ) → Below order n start → is_below order start n ≡ true
below_to Least start n is = grind (arith, nat_tests)
below_to Mask start n is = grind (arith, nat_tests)

mail_from : (order : Order) (start n : ℕ) → is_mail order start n ≡ true → (n ≡ NOTHING) ⊎ Below order n start
mail_from order start n is = ⊎_elim (λ one. inl (nothing n one)) (λ other. inr (below_from order start n other)) (split (n == NOTHING) (is_below order start n) is)
  where
    nothing : (n : ℕ) → (n == NOTHING) ≡ true → n ≡ NOTHING
    nothing n is = grind (arith, nat_tests)

    split : (a b : Bool) → (a || b) ≡ true → (a ≡ true) ⊎ (b ≡ true)
    split true b is = inl refl
    split false b is = inr is

mail_to : (order : Order) (start n : ℕ) → (n ≡ NOTHING) ⊎ Below order n start → is_mail order start n ≡ true
mail_to order start n (inl is) = ap (λ (m : ℕ). is_mail order start m) is
mail_to order start n (inr is) = or_true (n == NOTHING) (is_below order start n) (below_to order start n is)
  where
    or_true : (a b : Bool) → b ≡ true → (a || b) ≡ true
    or_true true b is = refl
    or_true false b is = is

epoch_from : (slot n : ℕ) → is_epoch slot n ≡ true → IsEpoch slot n
epoch_from slot n is = record { from = grind (arith, nat_tests); to = grind (arith, nat_tests); parity = grind (arith, nat_tests) }

epoch_to : (slot n : ℕ) → IsEpoch slot n → is_epoch slot n ≡ true
epoch_to slot n is = tested slot n is.from is.to is.parity
  where
    tested : (slot n : ℕ) → 1 ≤ n → n < 2 ^ 62 → n % 2 ≡ slot → is_epoch slot n ≡ true
    tested slot n from to parity = grind (arith, nat_tests)

-- ---- lists of them

abbrev AllFit : List ℕ → Type 0
AllFit ns = AllByRecursion (λ (n : ℕ). n < 2 ^ 64) ns

all_fit : (tests : List (ℕ → Bool)) (ns : List ℕ) → Pass tests ns → AllFit ns
all_fit [] [] p = tt
all_fit [] (n ∷ ns) p = absurd p
all_fit (test ∷ tests) [] p = absurd p
all_fit (test ∷ tests) (n ∷ ns) p = (p.1, all_fit tests ns p.2)

fit_both : (ns ms : List ℕ) → AllFit ns → AllFit ms → AllFit (ns ++ ms)
fit_both [] ms a b = b
fit_both (n ∷ ns) ms a b = (a.0, fit_both ns ms a.1 b)

fit_front : (ns ms : List ℕ) → AllFit (ns ++ ms) → AllFit ns
fit_front [] ms a = tt
fit_front (n ∷ ns) ms a = (a.0, fit_front ns ms a.1)

fit_behind : (ns ms : List ℕ) → AllFit (ns ++ ms) → AllFit ms
fit_behind [] ms a = a
fit_behind (n ∷ ns) ms a = fit_behind ns ms a.1

pass_from : (f : ℕ → ℕ → Bool) (R : ℕ → ℕ → Type 0) → ((start n : ℕ) → f start n ≡ true → R n start) → (starts ns : List ℕ) → Pass (map f starts) ns → AllZip R ns starts
pass_from f R from [] [] p = tt
pass_from f R from [] (n ∷ ns) p = absurd p
pass_from f R from (start ∷ starts) [] p = absurd p
pass_from f R from (start ∷ starts) (n ∷ ns) p = (from start n p.0, pass_from f R from starts ns p.2)

pass_to : (f : ℕ → ℕ → Bool) (R : ℕ → ℕ → Type 0) → ((start n : ℕ) → R n start → f start n ≡ true) → (starts ns : List ℕ) → AllZip R ns starts → AllFit ns → Pass (map f starts) ns
pass_to f R to [] [] all fit = tt
pass_to f R to [] (n ∷ ns) all fit = absurd all
pass_to f R to (start ∷ starts) [] all fit = absurd all
pass_to f R to (start ∷ starts) (n ∷ ns) all fit = (to start n all.0, fit.0, pass_to f R to starts ns all.1 fit.1)

equal_from : (start n : ℕ) → (n == start) ≡ true → n ≡ start
equal_from start n is = grind (arith, nat_tests)

equal_to : (start n : ℕ) → n ≡ start → (n == start) ≡ true
equal_to start n is = grind (arith, nat_tests)

same_from : (ns starts : List ℕ) → AllZip (λ (n start : ℕ). n ≡ start) ns starts → ns ≡ starts
same_from [] [] all = refl
same_from [] (start ∷ starts) all = absurd all
same_from (n ∷ ns) [] all = absurd all
same_from (n ∷ ns) (start ∷ starts) all = ap (λ (m : ℕ). m ∷ ns) all.0 ∙ ap (λ (l : List ℕ). start ∷ l) (same_from ns starts all.1)

same_to : (ns starts : List ℕ) → ns ≡ starts → AllZip (λ (n start : ℕ). n ≡ start) ns starts
same_to ns starts is = subst (λ (l : List ℕ). AllZip (λ (n start : ℕ). n ≡ start) l starts) (sym is) (itself starts)
  where
    itself : (starts : List ℕ) → AllZip (λ (n start : ℕ). n ≡ start) starts starts
    itself [] = tt
    itself (start ∷ starts) = (refl, itself starts)

start_below : (order : Order) (start n : ℕ) → n ≡ start → Below order n start
start_below order start n is = subst (λ (m : ℕ). Below order m start) (sym is) (itself order start)
  where
    itself : (order : Order) (start : ℕ) → Below order start start
    itself Least start = omega arith
    itself Mask start = and_self start

all_below : (order : Order) (ns starts : List ℕ) → AllZip (λ (n start : ℕ). n ≡ start) ns starts → AllZip (Below order) ns starts
all_below order [] [] all = tt
all_below order [] (start ∷ starts) all = absurd all
all_below order (n ∷ ns) [] all = absurd all
all_below order (n ∷ ns) (start ∷ starts) all = (start_below order start n all.0, all_below order ns starts all.1)

-- ---- a part

pub part_from : (order : Order) (starts : PartStarts) (part : PartValues) → PartPasses order starts part → IsPartInSlotForm order starts part
part_from order starts part passes = record {
  values = values_of part.phase passes.values;
  fresh = λ is. same_of part.phase is passes.values;
  mail = pass_from (is_mail order) (λ x top. (x ≡ NOTHING) ⊎ Below order x top) (mail_from order) starts.mirrors part.mail passes.mail;
  numbers = fit_both part.values part.mail (all_fit (value_tests order part.phase starts) part.values passes.values) (all_fit (mail_tests order starts) part.mail passes.mail);
}
  where
    values_of : (phase : Phase) → Pass (value_tests order phase starts) part.values → AllZip (Below order) part.values (starts.owned ++ starts.mirrors)
    values_of Fresh p = all_below order part.values (starts.owned ++ starts.mirrors) (pass_from (is_value order Fresh) (λ (n start : ℕ). n ≡ start) equal_from (starts.owned ++ starts.mirrors) part.values p)
    values_of Rest p = pass_from (is_value order Rest) (Below order) (below_from order) (starts.owned ++ starts.mirrors) part.values p

    same_of : (phase : Phase) → phase ≡ Fresh → Pass (value_tests order phase starts) part.values → part.values ≡ starts.owned ++ starts.mirrors
    same_of Fresh is p = same_from part.values (starts.owned ++ starts.mirrors) (pass_from (is_value order Fresh) (λ (n start : ℕ). n ≡ start) equal_from (starts.owned ++ starts.mirrors) part.values p)
    same_of Rest is p = cc

pub part_to : (order : Order) (starts : PartStarts) (part : PartValues) → IsPartInSlotForm order starts part → PartPasses order starts part
part_to order starts part form = record {
  values = values_of part.phase form.fresh;
  mail = pass_to (is_mail order) (λ x top. (x ≡ NOTHING) ⊎ Below order x top) (mail_to order) starts.mirrors part.mail form.mail (fit_behind part.values part.mail form.numbers);
}
  where
    values_of : (phase : Phase) → (phase ≡ Fresh → part.values ≡ starts.owned ++ starts.mirrors) → Pass (value_tests order phase starts) part.values
    values_of Fresh fresh = pass_to (is_value order Fresh) (λ (n start : ℕ). n ≡ start) equal_to (starts.owned ++ starts.mirrors) part.values (same_to part.values (starts.owned ++ starts.mirrors) (fresh refl)) (fit_front part.values part.mail form.numbers)
    values_of Rest fresh = pass_to (is_value order Rest) (Below order) (below_to order) (starts.owned ++ starts.mirrors) part.values form.values (fit_front part.values part.mail form.numbers)

-- ---- a snapshot

parts_from : (order : Order) (shape : List PartStarts) (parts : List PartValues) → PartsPass order shape parts → AllZip (IsPartInSlotForm order) shape parts
parts_from order [] [] p = tt
parts_from order [] (part ∷ parts) p = absurd p
parts_from order (starts ∷ shape) [] p = absurd p
parts_from order (starts ∷ shape) (part ∷ parts) p = (part_from order starts part p.0, parts_from order shape parts p.1)

parts_to : (order : Order) (shape : List PartStarts) (parts : List PartValues) → AllZip (IsPartInSlotForm order) shape parts → PartsPass order shape parts
parts_to order [] [] p = tt
parts_to order [] (part ∷ parts) p = absurd p
parts_to order (starts ∷ shape) [] p = absurd p
parts_to order (starts ∷ shape) (part ∷ parts) p = (part_to order starts part p.0, parts_to order shape parts p.1)

pub form_from : (shape : Starts) (slot : ℕ) (snapshot : SnapshotParts) → Passes shape slot snapshot → IsInSlotForm shape slot snapshot
form_from shape slot snapshot p = record { epoch = epoch_from slot snapshot.epoch p.epoch; parts = parts_from shape.order shape.parts snapshot.parts p.parts }

pub form_to : (shape : Starts) (slot : ℕ) (snapshot : SnapshotParts) → IsInSlotForm shape slot snapshot → Passes shape slot snapshot
form_to shape slot snapshot form = record { epoch = epoch_to slot snapshot.epoch form.epoch; parts = parts_to shape.order shape.parts snapshot.parts form.parts }
