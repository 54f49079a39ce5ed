-- The targets of links, link by link.
use Rattle.std.proofs.Common.{◌≡◌, ◌≢◌, ℕ, ◌+◌, ◌*◌, ◌%◌, ◌^◌, ◌<◌, inl, inr, Bool, true, false, ◌&&◌, ◌||◌, ◌==◌, refl, sym, ◌∙◌, ap, arith, List, [], take, length, get_or, slice_index, replicate}
use Rattle.std.specs.Prelude.{slice_set}
use Rattle.std.specs.List.{list_any}
use Rattle.std.specs.Int.RustNames.{bit_or}
use Rattle.std.proofs.lemmas.Bool.{cases_eq, and_from, and_left, and_right, or_right, eq-eqb, ne_eqb}
use Rattle.std.proofs.lemmas.List.{get_or-set_same, get_or-set_other, length-set, get_or-replicate, length-replicate}
use Rattle.std.proofs.lemmas.List.Folds.{list_any_more}
use Rattle.graph_core.specs.declared.pattern.PatternLink.{PatternLink}
use Rattle.graph_core.proofs.Masks.{mask-set, mask-same, mask-none}
use Rattle.pie_sim.specs.SimJobs.{targets_from, AreTargets}

abbrev pub leads : ℕ → ℕ → PatternLink → Bool
leads k m link = (link.from == k) && (link.to == m)

pub targets-none : AreTargets (replicate 64 0) []
targets-none = none_of 64 refl
  where
    none_of : (n : ℕ) → n ≡ 64 → AreTargets (replicate n 0) []
    none_of n e = record { nodes = length-replicate n 0 ∙ e; each = λ k h. get_or-replicate n k 0 0 (omega (arith, h, e)) ∙ sym mask-none }

or_none : (b c : Bool) → c ≡ false → (b || c) ≡ b
or_none true c e = refl
or_none false c e = e

module _ (links : List PatternLink) (i : ℕ) (other : PatternLink) (h : i < length links) where
  abbrev link : PatternLink
  link = get_or links i other

  abbrev taken : ℕ → ℕ → ℕ → Bool
  taken n k m = list_any (leads k m) (take n links)

  not_more : (k m : ℕ) → leads k m link ≡ false → taken (i + 1) k m ≡ taken i k m
  not_more k m e = list_any_more (leads k m) links i other h ∙ or_none (taken i k m) (leads k m link) e

  link_taken : link.to < 64 → bit_or (targets_from (take i links) link.from) (1 * 2 ^ link.to % 2 ^ 64) ≡ targets_from (take (i + 1) links) link.from
  link_taken l =
      mask-set (taken i link.from) (taken (i + 1) link.from) link.to l
      (list_any_more (leads link.from link.to) links i other h
      ∙ or_right (taken i link.from link.to) (leads link.from link.to link) (and_from (link.from == link.from) (link.to == link.to) (eq-eqb link.from link.from refl) (eq-eqb link.to link.to refl)))
      (λ m d. not_more link.from m (and_right (link.from == link.from) (link.to == m) (ne_eqb link.to m (λ e. d (sym e)))))

  link_passed : (k : ℕ) → k ≢ link.from → targets_from (take i links) k ≡ targets_from (take (i + 1) links) k
  link_passed k d = mask-same (taken i k) (taken (i + 1) k) (λ m. not_more k m (and_left (link.from == k) (link.to == m) (ne_eqb link.from k (λ e. d (sym e)))))

  pub targets-more : (targets after : List ℕ) → link.from < 64 → link.to < 64 → after ≡ slice_set targets link.from (bit_or (slice_index targets link.from) (1 * 2 ^ link.to % 2 ^ 64))
      → AreTargets targets (take i links) → AreTargets after (take (i + 1) links)
  targets-more targets after from to e t =
      let value = bit_or (slice_index targets link.from) (1 * 2 ^ link.to % 2 ^ 64) in
      record {
        nodes = ap length e ∙ length-set targets link.from value ∙ t.nodes;
        each = λ k l. ap (λ xs. slice_index xs k) e ∙ elim (cases_eq k link.from) [
          | inl same ↦
              ap (slice_index (slice_set targets link.from value)) same
              ∙ get_or-set_same targets link.from value 0 (omega (arith, from, t.nodes))
              ∙ ap (λ n. bit_or n (1 * 2 ^ link.to % 2 ^ 64)) (t.each link.from from)
              ∙ link_taken to
              ∙ sym (ap (targets_from (take (i + 1) links)) same)
          | inr d ↦ get_or-set_other targets link.from k value 0 d ∙ t.each k l ∙ link_passed k d
        ];
      }
