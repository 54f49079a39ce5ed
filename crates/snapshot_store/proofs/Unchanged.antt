-- Calls that write nothing, one after another.
use Rattle.std.proofs.Common.{ℕ, Bool, List, Option, refl, ◌∙◌, arith}
use Rattle.snapshot_store.specs.Reads.{Unwritten}

module _ {D : Type 0} (content : D → Option (List ℕ)) (images : D → ℕ → List ℕ → Type 0) (moment : D → ℕ) (honest : D → Bool) where
  pub unwritten_none : (disk : D) → Unwritten content images moment honest disk disk
  unwritten_none disk = record {
    reads = refl;
    crash = λ is. (record { reads = refl; now = λ c image. image; all = λ c image. image }, record { since = λ t c le image. image; past = λ t c le image. image });
    later = omega arith;
    as_honest = refl;
  }

  module _ (old mid new : D) where
    pub unwritten_then : Unwritten content images moment honest old mid → Unwritten content images moment honest mid new → Unwritten content images moment honest old new
    unwritten_then first second = record {
      reads = second.reads ∙ first.reads;
      crash = λ is.
          let one = first.crash is in
          let two = second.crash (first.as_honest ∙ is) in (
            record { reads = two.0.reads ∙ one.0.reads; now = λ c image. one.0.now c (two.0.now c image); all = λ c image. two.0.all c (one.0.all c image) },
            record {
              since = λ t c le image. one.1.since t c le (two.1.since t c (omega (arith, le, first.later)) image);
              past = λ t c le image. two.1.past t c (omega (arith, le, first.later)) (one.1.past t c le image);
            },
          );
      later = omega (arith, first.later, second.later);
      as_honest = second.as_honest ∙ first.as_honest;
    }
