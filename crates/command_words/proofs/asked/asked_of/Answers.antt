use Rattle.std.proofs.Common.{◌≡◌, ◌∙◌, ap, ap₂, arith, map, string_bytes, ℕ, ◌-◌, ◌≤◌, length, List, [], ◌∷◌, drop, take, take_all, slice_index_or}
use Rattle.command_words.specs.Grammar.{mode_of}
use Rattle.command_words.proofs.asked.asked_of.Goals as goal

-- a list is its first item with the rest behind it
parted : {X : Type 0} (text : X → List ℕ) (xs : List X) (x : X) (first : List ℕ) → 1 ≤ length xs → x ≡ slice_index_or xs 0 x → first ≡ text x
    → first ∷ map text (take (length xs - 1) (drop 1 xs)) ≡ map text xs
parted text [] x first some is same = absurd (omega arith)
parted text (y ∷ ys) x first some is same = ap₂ (λ t ts. t ∷ map text ts) (same ∙ ap text is) (take_all (length (y ∷ ys) - 1) ys (omega arith))

pub returns-in-len1-up : goal.returns-in-len1-up
returns-in-len1-up c =
    c.asked_by.ensures
    ∙ ap mode_of (parted string_bytes c.args.words.now c.mode-item.result c.as_str.result.now c.in-len1-up.len_at_least c.mode-item.is c.as_str.ensures.value)
