-- A text that is written part by part.
use Rattle.std.proofs.Common.{ℕ, List, ◌++◌, Option, Result, Ok, Err, OnOk, OnErr, sym, ◌∙◌, ap, append_assoc}
use Rattle.grape_port.specs.Ports.{Appends, AppendsFront}
use Rattle.grape_port.proofs.Writes.{appends_both}

pub on_err : {T E : Type 0} {P : Type 0} (r : Result T E) → P → OnErr r P
on_err (Ok x) p = tt
on_err (Err e) p = p

-- a front of a part, behind what was written whole
pub front_behind : (before middle after : Option (List ℕ)) (part next : List ℕ) → Appends before part middle → AppendsFront middle next after → AppendsFront before (part ++ next) after
front_behind before middle after part next whole front = (
  part ++ front.0,
  front.1,
  ap (λ xs. part ++ xs) front.2 ∙ sym (append_assoc part front.0 front.1),
  appends_both before middle after part front.0 whole front.3,
)

-- a front of a text is a front of a longer one
pub front_longer : (before after : Option (List ℕ)) (text more : List ℕ) → AppendsFront before text after → AppendsFront before (text ++ more) after
front_longer before after text more front = (front.0, front.1 ++ more, ap (λ xs. xs ++ more) front.2 ∙ append_assoc front.0 front.1 more, front.3)

pub ok_behind : {E : Type 0} (r : Result (Unit {0}) E) (before middle after : Option (List ℕ)) (part next : List ℕ) → Appends before part middle → OnOk r (Appends middle next after) → OnOk r (Appends before (part ++ next) after)
ok_behind (Ok x) before middle after part next whole h = appends_both before middle after part next whole h
ok_behind (Err e) before middle after part next whole h = tt

pub err_behind : {E : Type 0} (r : Result (Unit {0}) E) (before middle after : Option (List ℕ)) (part next : List ℕ) → Appends before part middle → OnErr r (AppendsFront middle next after) → OnErr r (AppendsFront before (part ++ next) after)
err_behind (Ok x) before middle after part next whole h = tt
err_behind (Err e) before middle after part next whole h = front_behind before middle after part next whole h
