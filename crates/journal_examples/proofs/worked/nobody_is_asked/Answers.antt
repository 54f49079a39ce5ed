-- A job without vertices and fragments has lawful equations, and no pieces are a proper cut of them.
use Rattle.std.proofs.Common.{arith}
use Rattle.journal_examples.proofs.worked.nobody_is_asked.Goals as goal

pub returns-clause-sound : goal.returns-clause-sound
returns-clause-sound c =
    record {
      lawful = record {
        in_range = λ v u h k. absurd (omega (arith, h));
        monotone = λ v x y h k. absurd (omega (arith, h));
        start_above = λ v h. absurd (omega (arith, h));
        start_is_value = λ v h. absurd (omega (arith, h));
      };
      cut = record {
        owned = λ v h. absurd (omega (arith, h));
        owned_once = λ i p j q v h k. absurd (let l = h.0 in omega (arith, l));
        in_range = λ i p h k. absurd (omega (arith, h));
        apart = λ i p q v h k. absurd (let l = h.0 in omega (arith, l));
        reads = λ i p v u h k. absurd (let l = h.0 in omega (arith, l));
        routes_len = λ i h. absurd (omega (arith, h));
        routes = λ i p v k m h. absurd (let l = h.0 in omega (arith, l));
        routes_once = λ i p a b d h k e. absurd (omega (arith, h));
      };
    }
