-- The bits of the nodes with a label, node by node.
use Rattle.std.proofs.Common.{◌≡◌, ℕ, ◌+◌, ◌*◌, ◌%◌, ◌^◌, ◌<◌, refl, sym, ◌∙◌, Bool, true, false, ◌&&◌, ◌||◌, ◌==◌, List, take, length, get_or}
use Rattle.std.specs.List.{list_any}
use Rattle.std.specs.Int.RustNames.{bit_or}
use Rattle.std.proofs.lemmas.Bool.{and_from, and_left, and_right, or_right, eq-eqb, ne_eqb}
use Rattle.std.proofs.lemmas.List.Folds.{list_any_more}
use Rattle.graph_core.specs.declared.pattern.PatternNode.{PatternNode}
use Rattle.graph_core.specs.Queries.{mask_of}
use Rattle.graph_core.proofs.Masks.{mask-set, mask-same}

abbrev pub has_label : ℕ → ℕ → PatternNode → Bool
has_label label k node = (node.number == k) && (node.label == label)

or_none : (b c : Bool) → c ≡ false → (b || c) ≡ b
or_none true c e = refl
or_none false c e = e

module _ (nodes : List PatternNode) (i label : ℕ) (other : PatternNode) (h : i < length nodes) where
  abbrev node : PatternNode
  node = get_or nodes i other

  abbrev taken : ℕ → ℕ → Bool
  taken n k = list_any (has_label label k) (take n nodes)

  not_more : (k : ℕ) → has_label label k node ≡ false → taken (i + 1) k ≡ taken i k
  not_more k e = list_any_more (has_label label k) nodes i other h ∙ or_none (taken i k) (has_label label k node) e

  pub node_taken : node.number < 64 → node.label ≡ label → bit_or (mask_of (taken i)) (1 * 2 ^ node.number % 2 ^ 64) ≡ mask_of (taken (i + 1))
  node_taken l e =
      mask-set (taken i) (taken (i + 1)) node.number l
      (list_any_more (has_label label node.number) nodes i other h
      ∙ or_right (taken i node.number) (has_label label node.number node) (and_from (node.number == node.number) (node.label == label) (eq-eqb node.number node.number refl) (eq-eqb node.label label e)))
      (λ k d. not_more k (and_left (node.number == k) (node.label == label) (ne_eqb node.number k (λ e. d (sym e)))))

  pub node_passed : (node.label ≡ label → ⊥) → mask_of (taken i) ≡ mask_of (taken (i + 1))
  node_passed d = mask-same (taken i) (taken (i + 1)) (λ k. not_more k (and_right (node.number == k) (node.label == label) (ne_eqb node.label label d)))
