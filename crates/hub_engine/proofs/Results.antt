-- What stands at an Ok and at an Err.
use Rattle.std.proofs.Common.{◌≡◌, true, false, sym, Result, Ok, Err}
use Rattle.std.specs.Result.{is_err, OnOk, OnErr}
use Rattle.std.proofs.lemmas.Bool.{false≢true}

pub at_ok : {T E P : Type 0} → (r : Result T E) → is_err r ≡ false → OnOk r P → P
at_ok (Ok x) h p = p
at_ok (Err e) h p = absurd (false≢true (sym h))

pub at_err : {T E P : Type 0} → (r : Result T E) → is_err r ≡ true → OnErr r P → P
at_err (Ok x) h p = absurd (false≢true h)
at_err (Err e) h p = p
