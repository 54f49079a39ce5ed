-- The rule that is kept says what the rule in words says.
use Rattle.std.proofs.Common.{◌≡◌, ℕ, ◌<◌, List, Option, sym, ◌∙◌, subst, arith}
use mathlib.Core.Option.{some, some-injective}
use lib.ListN.{get_elem?}
use Rattle.atomic_table.specs.Table.{State}
use Rattle.noted_lock.specs.declared.view.View.{View}
use Rattle.noted_lock.specs.Rule.{Kept}
use Rattle.noted_lock.specs.Words.{InWords}
use Rattle.noted_lock.proofs.Keeps.{moved}

pub says : {T : Type 0} (tell : T → ℕ → List ℕ) (seats : ℕ) (s : State (Option T) View) → Kept tell seats s → InWords tell seats s
says tell seats s r = record {
  word = r.bit;
  one_inside = λ j k v w a b i i'. sym ((r.each_view j v a).turn i).1 ∙ ((r.each_view k w b).turn i').1;
  inside_taken = λ j v a i. ((r.each_view j v a).turn i).0;
  taken_inside = λ e. (r.holder, r.taken e);
  numbers_differ = λ j k v w i l c d a b e.
      let one : j ≡ k = moved r.owner c.number d.number j k ((r.each_view j v a.0).each_claim i c a.1).1 (sym e) ((r.each_view k w b.0).each_claim l d b.1).1 in
      let same : w ≡ v = some-injective w v (sym b.0 ∙ subst (λ (z : ℕ). get_elem? s.views z ≡ some v) one a.0) in
      (one, (r.each_view j v a.0).each_once i l c d a.1 (subst (λ (z : View). get_elem? z.claims l ≡ some d) same b.1) e);
  numbers_below = λ j v i c a. let t = (r.each_view j v a.0).each_claim i c a.1 in ((let l = t.0 in let le = r.room in let g : c.number < seats = omega arith in g), t.3);
  at_rest = λ e. let h = r.free e in (h.0, h.1, λ j v i c a. let t = (r.each_view j v a.0).each_claim i c a.1 in r.shelf h.0 h.1 c.number (let l = t.0 in let le = r.room in omega arith) ∙ t.2);
  list_notes = λ j k v w i c a inn b. let t = (r.each_view k w b.0).each_claim i c b.1 in ((r.each_view j v a).turn inn).3 c.number (let l = t.0 in let le = r.room in omega arith) ∙ t.2;
  list_value = λ j v x a inn home k l. r.shelf x home k l ∙ sym (((r.each_view j v a).turn inn).3 k l);
  making = λ j v a some_made. let m = (r.each_view j v a).making some_made in (m.0, (let e = m.1 in let le = r.room in omega arith), m.3, λ k w i c b. let t = (r.each_view k w b.0).each_claim i c b.1 in let e = m.1 in let l = t.0 in omega arith);
}
