-- A file that agrees with what was read, put together.
use Rattle.std.proofs.Common.{◌≡◌, inl, inr, ⊎_elim, ℕ, ◌+◌, ◌≤◌, List, [], ◌∷◌, length, replicate, Option, Some, None, ◌∙◌, arith}
use Rattle.std.proofs.lemmas.List.{length-replicate}
use Rattle.grape_disk.specs.Images.{piece, written}
use Rattle.snapshot_store.specs.Reads.{Read, Agree, AreApart, IsOnce, Tells}
use Rattle.snapshot_store.proofs.Pieces.{torn_piece, written_torn, written_piece, length_written}

-- ---- the places of what was read

pub once_within : (from to low high : ℕ) (reads : List Read) → low ≤ from → to ≤ high → IsOnce from to reads → IsOnce low high reads
once_within from to low high [] below above once = tt
once_within from to low high (read ∷ reads) below above once =
    (omega (arith, below, once.0), omega (arith, above, once.1), once.2, once_within from to low high reads below above once.3)

-- what was read behind a place is apart from what stands before it
pub apart_behind : (at end from to : ℕ) (reads : List Read) → end ≤ from → IsOnce from to reads → AreApart at end reads
apart_behind at end from to [] behind once = tt
apart_behind at end from to (read ∷ reads) behind once = (inl (omega (arith, behind, once.0)), apart_behind at end from to reads behind once.3)

apart_before : (at end from to : ℕ) (reads : List Read) → to ≤ at → IsOnce from to reads → AreApart at end reads
apart_before at end from to [] before once = tt
apart_before at end from to (read ∷ reads) before once = (inr (omega (arith, before, once.1)), apart_before at end from to reads before once.3)

-- ---- the file

abbrev assembled : ℕ → List Read → List ℕ
assembled size [] = replicate size 0
assembled size (read ∷ reads) = written read.0 read.1 (assembled size reads)

length_assembled : (from size : ℕ) (reads : List Read) → IsOnce from size reads → length (assembled size reads) ≡ size
length_assembled from size [] once = length-replicate size 0
length_assembled from size (read ∷ reads) once =
    omega (arith, length_written read.0 read.1 (assembled size reads), length_assembled from size reads once.3, once.1)

-- bytes that are written elsewhere leave what was read
still_agree : (at : ℕ) (bytes file : List ℕ) (from to : ℕ) (reads : List Read) → to ≤ length file → IsOnce from to reads → AreApart at (at + length bytes) reads → Agree reads file → Agree reads (written at bytes file)
still_agree at bytes file from to [] long once apart agree = tt
still_agree at bytes file from to (read ∷ reads) long once apart agree = (
  torn_piece at (length bytes) file (written at bytes file) read.0 (length read.1) (written_torn at bytes file) (omega (arith, long, once.1)) (⊎_elim (λ behind. inr behind) (λ before. inl before) apart.0) ∙ agree.0,
  still_agree at bytes file from to reads long once.3 apart.1 agree.1,
)

assembled_agrees : (from size : ℕ) (reads : List Read) → IsOnce from size reads → Agree reads (assembled size reads)
assembled_agrees from size [] once = tt
assembled_agrees from size (read ∷ reads) once = (
  written_piece read.0 read.1 (assembled size reads),
  still_agree read.0 read.1 (assembled size reads) from size reads (omega (arith, length_assembled from size reads once.3)) once.3 once.2 (assembled_agrees from size reads once.3),
)

-- ---- what the reads tell

module _ (told : Option (List ℕ)) (from to : ℕ) (P : List ℕ → Type 0) (tells : Tells told from to P) where
  pub told_so : (file : List ℕ) → told ≡ Some file → to ≤ length file → P file
  told_so file is long = tells.enough file long (tells.given file is)

  pub some_file : (file : List ℕ) × (length file ≡ to) × P file
  some_file =
      let size = length_assembled from to tells.reads tells.once in
      (assembled to tells.reads, size, tells.enough (assembled to tells.reads) (omega (arith, size)) (assembled_agrees from to tells.reads tells.once))

  pub tells_within : (low high : ℕ) (Q : List ℕ → Type 0) → low ≤ from → to ≤ high → ((file : List ℕ) → high ≤ length file → P file → Q file) → Tells told low high Q
  tells_within low high Q below above so = record {
    reads = tells.reads;
    given = tells.given;
    once = once_within from to low high tells.reads below above tells.once;
    enough = λ file long agree. so file long (tells.enough file (omega (arith, above, long)) agree);
  }

  -- with what was read before
  pub tells_more : (at high : ℕ) (bytes : List ℕ) (Q : List ℕ → Type 0) → at + length bytes ≤ from → at + length bytes ≤ high → to ≤ high → ((file : List ℕ) → told ≡ Some file → piece at (length bytes) file ≡ bytes)
      → ((file : List ℕ) → high ≤ length file → piece at (length bytes) file ≡ bytes → P file → Q file) → Tells told at high Q
  tells_more at high bytes Q below low above read so = record {
    reads = (at, bytes) ∷ tells.reads;
    given = λ file is. (read file is, tells.given file is);
    once = (omega arith, low, apart_behind at (at + length bytes) from to tells.reads below tells.once, once_within from to at high tells.reads (omega (arith, below)) above tells.once);
    enough = λ file long agree. so file long agree.0 (tells.enough file (omega (arith, above, long)) agree.1);
  }

  -- with what was read behind it
  pub tells_behind : (at high : ℕ) (bytes : List ℕ) (Q : List ℕ → Type 0) → from ≤ at → to ≤ at → at + length bytes ≤ high → ((file : List ℕ) → told ≡ Some file → piece at (length bytes) file ≡ bytes)
      → ((file : List ℕ) → high ≤ length file → piece at (length bytes) file ≡ bytes → P file → Q file) → Tells told from high Q
  tells_behind at high bytes Q start below above read so = record {
    reads = (at, bytes) ∷ tells.reads;
    given = λ file is. (read file is, tells.given file is);
    once = (start, above, apart_before at (at + length bytes) from to tells.reads below tells.once, once_within from to from high tells.reads (omega arith) (omega (arith, below, above)) tells.once);
    enough = λ file long agree. so file long agree.0 (tells.enough file (omega (arith, below, above, long)) agree.1);
  }

  pub untold : Tells None from to P
  untold = record { reads = tells.reads; given = λ file is. absurd (cc); once = tells.once; enough = tells.enough }

-- nothing has to be read for what holds of every file
pub tells_anyway : (told : Option (List ℕ)) (from to : ℕ) (P : List ℕ → Type 0) → ((file : List ℕ) → to ≤ length file → P file) → Tells told from to P
tells_anyway told from to P so = record { reads = []; given = λ file is. tt; once = tt; enough = λ file long agree. so file long }

-- one read
pub tells_one : (told : Option (List ℕ)) (at to : ℕ) (bytes : List ℕ) (P : List ℕ → Type 0) → at + length bytes ≤ to → ((file : List ℕ) → told ≡ Some file → piece at (length bytes) file ≡ bytes)
    → ((file : List ℕ) → to ≤ length file → piece at (length bytes) file ≡ bytes → P file) → Tells told at to P
tells_one told at to bytes P low read so = record { reads = (at, bytes) ∷ []; given = λ file is. (read file is, tt); once = (omega arith, low, tt, tt); enough = λ file long agree. so file long agree.0 }
