-- Whether a tagged batch waits shows in how many do.
use Rattle.std.proofs.Common.{◌≡◌, ℕ, Bool, true, false, ◌||◌, nat_lt, if◌then◌else◌, refl, sym, ◌∙◌, ap, arith, List, [], ◌∷◌, ◌++◌, length, filter, flat_map, slice_index_or}
use Rattle.std.specs.List.{list_any}
use Rattle.std.proofs.lemmas.Bool.{lt-ltb}
use Rattle.graph_core.specs.Fragments.{numbers_below}
use Rattle.message_buffer.specs.Posted.{same_class}
use Rattle.base_machine.specs.Machine.{Batch, worker_at}
use Rattle.legal_journal.specs.Past.{is_tagged}
use Rattle.legal_journal.specs.Legal.{State, worker_count, tagged_batch_waits}
use Rattle.hub_engine.specs.Desks.{waiting_in_class}

some_in_either : (xs ys : List Batch) → nat_lt 0 (length (xs ++ ys)) ≡ (nat_lt 0 (length xs) || nat_lt 0 (length ys))
some_in_either [] ys = refl
some_in_either (x ∷ xs) ys = lt-ltb 0 (length (x ∷ xs ++ ys)) (omega arith) ∙ sym (ap (λ b. b || nat_lt 0 (length ys)) (lt-ltb 0 (length (x ∷ xs)) (omega arith)))

some_passes : (test : Batch → Bool) (bs : List Batch) → nat_lt 0 (length (filter test bs)) ≡ list_any test bs
some_passes test [] = refl
some_passes test (b ∷ bs) = go (test b) (some_passes test bs)
  where
    go : (t : Bool) → nat_lt 0 (length (filter test bs)) ≡ list_any test bs → nat_lt 0 (length (if t then b ∷ filter test bs else filter test bs)) ≡ (t || list_any test bs)
    go true again = lt-ltb 0 (length (b ∷ filter test bs)) (omega arith)
    go false again = again

some_of_all : (test : ℕ → Batch → Bool) (mail : ℕ → List Batch) (js : List ℕ) → nat_lt 0 (length (flat_map (λ j. filter (λ b. same_class true (test j b)) (mail j)) js)) ≡ list_any (λ j. list_any (test j) (mail j)) js
some_of_all test mail [] = refl
some_of_all test mail (j ∷ js) =
    some_in_either (filter (test j) (mail j)) (flat_map (λ k. filter (test k) (mail k)) js)
    ∙ (ap (λ b. b || nat_lt 0 (length (flat_map (λ k. filter (test k) (mail k)) js))) (some_passes (test j) (mail j)) ∙ ap (λ b. list_any (test j) (mail j) || b) (some_of_all test mail js))

pub tagged_are : (s : State) (i : ℕ) → nat_lt 0 (length (waiting_in_class true s i)) ≡ tagged_batch_waits s i
tagged_are s i = some_of_all (λ j b. is_tagged j b.number s.past) (λ j. slice_index_or (worker_at s.workers i).mail j []) (numbers_below (worker_count s))
