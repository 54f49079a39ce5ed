-- The laws that the images of a disk in memory keep.
use Rattle.std.proofs.Common.{◌≡◌, inl, inr, ℕ, ◌≤◌, true, IsTrue, List, [], ◌∷◌, Some, arith, subst}
use Rattle.grape_disk.specs.Platters.{Did, PlatterState, platter, IsImage, WasImage, ImageSince}
use Rattle.grape_disk.specs.Whole.{IsWhole, platter_whole}

pub whole_image : (p : PlatterState) → IsWhole p → IsImage p p.read
whole_image p whole = record {
  no_shorter = whole.no_shorter;
  no_longer = omega arith;
  elsewhere = λ i low down. (whole.stable i down).1;
}

pub reads_an_image : (start : List ℕ) (t : ℕ) (done : List (ℕ × Did)) (file : List ℕ) → IsTrue true → Some (platter start done).read ≡ Some file → ImageSince start t done file
reads_an_image start t done file honest is = inl (subst (λ f. IsImage (platter start done) f) (let e : (platter start done).read ≡ file = cc in e) (whole_image (platter start done) (platter_whole start done)))

was_earlier : (start : List ℕ) (done : List (ℕ × Did)) (earlier later : ℕ) (c : List ℕ) → earlier ≤ later → WasImage start later done c → WasImage start earlier done c
was_earlier start [] earlier later c le was = elim was [ ]
was_earlier start (call ∷ done) earlier later c le (inl now) = inl (omega (arith, le, now.0), now.1)
was_earlier start (call ∷ done) earlier later c le (inr was) = inr (was_earlier start done earlier later c le was)

pub since_earlier : (start : List ℕ) (done : List (ℕ × Did)) (earlier later : ℕ) (c : List ℕ) → earlier ≤ later → ImageSince start later done c → ImageSince start earlier done c
since_earlier start done earlier later c le (inl now) = inl now
since_earlier start done earlier later c le (inr was) = inr (was_earlier start done earlier later c le was)
