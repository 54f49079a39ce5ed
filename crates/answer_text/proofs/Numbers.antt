-- Numbers joined by commas, one more behind the others, and the bits of a mask.
use Rattle.std.proofs.Common.{◌≡◌, ℕ, zero, suc, ◌+◌, ◌*◌, ◌≤◌, Bool, true, false, if◌then◌else◌, List, [], ◌∷◌, ◌++◌, length, map, filter, codes, decimal, refl, sym, ap, subst, ◌∙◌, arith, append_assoc, append-nil, add-one, zero-add}
use Rattle.std.specs.List.{range_with_len, join_with_byte}
use Rattle.std.proofs.lemmas.List.{map-append}
use Rattle.std.proofs.lemmas.List.Elements.{filter-append}
use Rattle.graph_core.specs.Queries.{has_bit}
use Rattle.answer_text.specs.AnswerText.{numbers_text, bits_of}

-- numbers with a comma between each and the next, and nothing for none
abbrev pub joined : List ℕ → List ℕ
joined ns = join_with_byte 44 (map decimal ns)

-- whether a list has no element
abbrev pub is_nil : List ℕ → Bool
is_nil [] = true
is_nil (n ∷ ns) = false

join_with_byte-push : (p : List ℕ) (ps : List (List ℕ)) (q : List ℕ) → join_with_byte 44 ((p ∷ ps) ++ q ∷ []) ≡ join_with_byte 44 (p ∷ ps) ++ 44 ∷ q
join_with_byte-push p [] q = refl
join_with_byte-push p (r ∷ ps) q =
    ap (λ (t : List ℕ). p ++ (44 ∷ t)) (join_with_byte-push r ps q) ∙ sym (append_assoc p (44 ∷ join_with_byte 44 (r ∷ ps)) (44 ∷ q))

joined-push : (ns : List ℕ) (n : ℕ) → joined (ns ++ n ∷ []) ≡ joined ns ++ (if is_nil ns then [] else codes ",") ++ decimal n
joined-push [] n = refl
joined-push (m ∷ ns) n =
    ap (λ (ts : List (List ℕ)). join_with_byte 44 ts) (map-append decimal (m ∷ ns) (n ∷ [])) ∙ join_with_byte-push (decimal m) (map decimal ns) (decimal n) ∙ sym (append_assoc (joined (m ∷ ns)) (44 ∷ []) (decimal n))

is_nil-push : (ns : List ℕ) (n : ℕ) → is_nil (ns ++ n ∷ []) ≡ false
is_nil-push [] n = refl
is_nil-push (m ∷ ns) n = refl

joined-none : (ns : List ℕ) → is_nil ns ≡ true → joined ns ≡ []
joined-none [] e = refl
joined-none (n ∷ ns) e = cc

numbers_text-none : (ns : List ℕ) → is_nil ns ≡ true → numbers_text ns ≡ codes "-"
numbers_text-none [] e = refl
numbers_text-none (n ∷ ns) e = cc

numbers_text-some : (ns : List ℕ) → is_nil ns ≡ false → numbers_text ns ≡ joined ns
numbers_text-some [] e = cc
numbers_text-some (n ∷ ns) e = refl

range_with_len-push : (a n : ℕ) → range_with_len a (suc n) ≡ range_with_len a n ++ (a + n) ∷ []
range_with_len-push a zero = let e : a ≡ a + 0 = omega arith in ap (λ (b : ℕ). b ∷ []) e
range_with_len-push a (suc n) =
    let e : (a + 1) + n ≡ a + suc n = omega arith
    in ap (λ (t : List ℕ). a ∷ t) (range_with_len-push (a + 1) n ∙ ap (λ (b : ℕ). range_with_len (a + 1) n ++ b ∷ []) e)

-- the bits of a mask below some bit
abbrev pub bits_below : ℕ → ℕ → List ℕ
bits_below mask bit = filter (has_bit mask) (range_with_len 0 bit)

bits_below-more : (mask bit : ℕ) → bits_below mask (bit + 1) ≡ bits_below mask bit ++ (if has_bit mask bit then bit ∷ [] else [])
bits_below-more mask bit =
    rw add-one (ap (λ (t : List ℕ). filter (has_bit mask) t) (range_with_len-push 0 bit) ∙ filter-append (has_bit mask) (range_with_len 0 bit) ((0 + bit) ∷ []) ∙ ap (λ (b : ℕ). bits_below mask bit ++ (if has_bit mask b then b ∷ [] else [])) (zero-add bit))

-- the bits below `bit` were pushed behind what waited before
pub record Pushed (before now : List ℕ) (mask bit : ℕ) (none : Bool) : Type 0 where
  pub text : now ≡ before ++ joined (bits_below mask bit)
  pub empty : none ≡ is_nil (bits_below mask bit)
  pub short : length now ≤ length before + 3 * bit

pub pushed_next : (before now next : List ℕ) (mask bit : ℕ) (none : Bool) → Pushed before now mask bit none → has_bit mask bit ≡ true
    → next ≡ now ++ (if none then [] else codes ",") ++ decimal bit → length next ≤ length now + 3 → Pushed before next mask (bit + 1) false
pushed_next before now next mask bit none pushed here added short =
    let ns = bits_below mask bit
    in let more : bits_below mask (bit + 1) ≡ ns ++ bit ∷ [] = bits_below-more mask bit ∙ ap (λ (b : Bool). ns ++ (if b then bit ∷ [] else [])) here
    in record {
      text = added ∙ ap (λ (t : List ℕ). t ++ (if none then [] else codes ",") ++ decimal bit) pushed.text
          ∙ ap (λ (b : Bool). (before ++ joined ns) ++ (if b then [] else codes ",") ++ decimal bit) pushed.empty
          ∙ ap (λ (t : List ℕ). t ++ decimal bit) (append_assoc before (joined ns) (if is_nil ns then [] else codes ","))
          ∙ append_assoc before (joined ns ++ (if is_nil ns then [] else codes ",")) (decimal bit)
          ∙ ap (λ (t : List ℕ). before ++ t) (sym (joined-push ns bit) ∙ ap (λ (ms : List ℕ). joined ms) (sym more));
      empty = sym (is_nil-push ns bit) ∙ ap is_nil (sym more);
      short = omega (arith, short, pushed.short);
    }

pub pushed_same : (before now : List ℕ) (mask bit : ℕ) (none : Bool) → Pushed before now mask bit none → has_bit mask bit ≡ false → Pushed before now mask (bit + 1) none
pushed_same before now mask bit none pushed absent =
    let ns = bits_below mask bit
    in let more : bits_below mask (bit + 1) ≡ ns = bits_below-more mask bit ∙ ap (λ (b : Bool). ns ++ (if b then bit ∷ [] else [])) absent ∙ append-nil ns
    in record {
      text = pushed.text ∙ ap (λ (ms : List ℕ). before ++ joined ms) (sym more);
      empty = pushed.empty ∙ ap is_nil (sym more);
      short = omega (arith, pushed.short);
    }

-- the same, at an equal bit and test
pub pushed_at : (before now : List ℕ) (mask bit : ℕ) (none test : Bool) → Pushed before now mask bit none → bit ≡ 64 → none ≡ test → Pushed before now mask 64 test
pushed_at before now mask bit none test pushed last same =
    subst (λ (b : Bool). Pushed before now mask 64 b) same (subst (λ (k : ℕ). Pushed before now mask k none) last pushed)

pushed-none : (before now : List ℕ) (mask bit : ℕ) → Pushed before now mask bit true → now ++ codes "-" ≡ before ++ numbers_text (bits_below mask bit)
pushed-none before now mask bit pushed =
    let ns = bits_below mask bit
    in ap (λ (t : List ℕ). t ++ codes "-") (pushed.text ∙ ap (λ (t : List ℕ). before ++ t) (joined-none ns (sym pushed.empty)) ∙ append-nil before)
    ∙ ap (λ (t : List ℕ). before ++ t) (sym (numbers_text-none ns (sym pushed.empty)))

pushed-some : (before now : List ℕ) (mask bit : ℕ) → Pushed before now mask bit false → now ≡ before ++ numbers_text (bits_below mask bit)
pushed-some before now mask bit pushed =
    pushed.text ∙ ap (λ (t : List ℕ). before ++ t) (sym (numbers_text-some (bits_below mask bit) (sym pushed.empty)))

pub all_pushed-none : (before now : List ℕ) (mask : ℕ) → Pushed before now mask 64 true → now ++ codes "-" ≡ before ++ numbers_text (bits_of mask)
unfolding bits_of
all_pushed-none before now mask pushed = pushed-none before now mask 64 pushed

pub all_pushed-some : (before now : List ℕ) (mask : ℕ) → Pushed before now mask 64 false → now ≡ before ++ numbers_text (bits_of mask)
unfolding bits_of
all_pushed-some before now mask pushed = pushed-some before now mask 64 pushed
