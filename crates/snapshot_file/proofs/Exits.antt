-- The error that a `?` hands on.
use Rattle.std.proofs.Common.{◌≡◌, Result, Ok, Err, IfErr, OnOk, OnErr, sym, subst}
use Rattle.std.specs.Result.{IsErrAnd}

pub if_err : {T E : Type 0} (r : Result T E) (P : E → Type 0) (e : E) → IsErrAnd r (λ x. x ≡ e) → P e → IfErr r P
if_err (Ok x) P e is p = absurd is
if_err (Err x) P e is p = subst P (sym is) p

pub on_err : {T E : Type 0} (r : Result T E) (P : E → Type 0) (Q : E → Type 0) → ((e : E) → P e → Q e) → IfErr r P → IfErr r Q
on_err (Ok x) P Q more p = tt
on_err (Err e) P Q more p = more e p

pub on_ok : {T E : Type 0} (r : Result T E) (P Q : Type 0) → (P → Q) → OnOk r P → OnOk r Q
on_ok (Ok x) P Q more p = more p
on_ok (Err e) P Q more p = tt

pub on_err_any : {T E : Type 0} (r : Result T E) (P : E → Type 0) (Q : Type 0) → ((e : E) → P e → Q) → IfErr r P → OnErr r Q
on_err_any (Ok x) P Q more p = tt
on_err_any (Err e) P Q more p = more e p
