-- How the images since a moment grow over the calls of a disk.
use Rattle.std.proofs.Common.{inl, inr, ⊎_elim, ℕ, ◌≤◌, List, length, Option, arith}
use Rattle.grape_disk.specs.Images.{Quiet, Writes, Leaves, Torn}
use Rattle.snapshot_store.specs.Lengths.{StaysWithin}

module _ {D : Type 0} (content : D → Option (List ℕ)) (images : D → ℕ → List ℕ → Type 0) (moment : D → ℕ) where
  -- a call that writes nothing
  pub leaves_quiet : (old new : D) (P : List ℕ → Type 0) → moment old ≤ moment new → Quiet images moment old new → Leaves images moment old new P
  leaves_quiet old new P later quiet = record { later = later; each = λ t c le image. inl (quiet.since t c le image) }

  -- one step after another
  pub leaves_then : (old mid new : D) (P Q R : List ℕ → Type 0) → Leaves images moment old mid P → Leaves images moment mid new Q → ((c : List ℕ) → P c → R c) → ((c : List ℕ) → Q c → R c)
      → Leaves images moment old new R
  leaves_then old mid new P Q R first second from_p from_q = record {
    later = omega (arith, first.later, second.later);
    each = λ t c le image. ⊎_elim (λ before. ⊎_elim (λ b. inl b) (λ p. inr (from_p c p)) (first.each t c le before)) (λ q. inr (from_q c q)) (second.each t c (omega (arith, le, first.later)) image);
  }

  pub leaves_only : (old new : D) (P R : List ℕ → Type 0) → Leaves images moment old new P → ((c : List ℕ) → P c → R c) → Leaves images moment old new R
  leaves_only old new P R leaves from = record {
    later = leaves.later;
    each = λ t c le image. ⊎_elim (λ b. inl b) (λ p. inr (from c p)) (leaves.each t c le image);
  }

  -- writes one after another, where each keeps what holds of every image
  pub leaves_within : (mid new : D) (Q : List ℕ → Type 0) (at n : ℕ) → moment mid ≤ moment new → Writes images moment at n mid new
      → ((d c : List ℕ) → Q d → Torn at n d c → Q c) → ((c : List ℕ) → images mid (moment mid) c → Q c)
      → Leaves images moment mid new Q × ((c : List ℕ) → images new (moment new) c → Q c)
  leaves_within mid new Q at n later writes keeps all = (
    record { later = later; each = λ t c le image. ⊎_elim (λ before. inl before) (λ torn. inr (keeps torn.0 c (all torn.0 torn.1) torn.2)) (writes.since t c le image) },
    λ c image. let torn = writes.now c image in keeps torn.0 c (all torn.0 torn.1) torn.2,
  )

-- by the law that the moments since a later one are among those since an earlier one
module _ {D : Type 0} (images : D → ℕ → List ℕ → Type 0) (moment : D → ℕ) (since : (disk : D) (earlier later : ℕ) (c : List ℕ) → earlier ≤ later → images disk later c → images disk earlier c) where
  -- a crash at this moment leaves no more than so many bytes
  abbrev pub AreWithin : ℕ → D → Type 0
  AreWithin most disk = (c : List ℕ) → images disk (moment disk) c → length c ≤ most

  pub within_after : (old new : D) (most : ℕ) → AreWithin most old → Leaves images moment old new (λ c. length c ≤ most) → AreWithin most new
  within_after old new most all leaves c image =
      ⊎_elim (λ before. all c before) (λ low. low) (leaves.each (moment old) c (omega arith) (since new (moment old) (moment new) c leaves.later image))

  -- one step after another
  pub within_then : (old mid new : D) (most : ℕ) → StaysWithin images moment most old mid → StaysWithin images moment most mid new → StaysWithin images moment most old new
  within_then old mid new most first second all =
      let leaves = first all in
      let more = second (within_after old mid most all leaves) in
      record {
        later = omega (arith, leaves.later, more.later);
        each = λ t c le image. ⊎_elim (λ before. leaves.each t c le before) (λ low. inr low) (more.each t c (omega (arith, le, leaves.later)) image);
      }

  -- a call that writes nothing
  pub within_quiet : (old new : D) (most : ℕ) → moment old ≤ moment new → Quiet images moment old new → StaysWithin images moment most old new
  within_quiet old new most later quiet all = record { later = later; each = λ t c le image. inl (quiet.since t c le image) }
