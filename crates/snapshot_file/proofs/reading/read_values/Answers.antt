use Rattle.std.proofs.Common.{◌≡◌, ◌+◌, ◌*◌, ◌++◌, ℕ, Bool, List, length, map, drop, Ok, ap, sym, refl, ◌∙◌, arith}
use Rattle.snapshot_file.specs.declared.damaged.Damaged.{Damaged}
use Rattle.snapshot_file.specs.Fields.{numbers_in}
use Rattle.snapshot_file.specs.Reading.{numbers}
use Rattle.snapshot_file.specs.Rules.{allows_of}
use Rattle.snapshot_file.proofs.Exits.{if_err, on_err, on_ok}
use Rattle.snapshot_file.proofs.Steps.{values_read, own_wrong, copies_wrong, fills_own, fills_copies, both_in}
use Rattle.snapshot_file.proofs.reading.read_values.Goals as goal

pub returns-in_err-read_numbers-clause-damaged : goal.returns-in_err-read_numbers-clause-damaged
returns-in_err-read_numbers-clause-damaged c =
    let f = allows_of c.args.rule c.args.order in
    let owned = c.deref.ensures.value ∙ ap (λ s. s.owned) c.starts.view_is in
    let wrong = ap (λ (xs : List ℕ). numbers (map f xs) c.args.at c.args.bytes.now) (sym owned) ∙ c.in_err-read_numbers.ensures.damaged in
    if_err _ _ _ c.from_residual.ensures.1 (own_wrong f c.args.starts.now.owned c.args.starts.now.mirrors c.args.at _ c.args.bytes.now _ refl refl _ wrong)

pub returns-in_err-read_numbers-clause-filled : goal.returns-in_err-read_numbers-clause-filled
returns-in_err-read_numbers-clause-filled c =
    if_err _ _ _ c.from_residual.ensures.1 (fills_own c.args.bytes.now c.args.into.now _ _ _ c.args.at _ c.split_at_mut-own.ensures.value c.in_err-read_numbers.ensures.filled)

-- what is known once the own values are read
module _ (c : goal.After-slice_known-4-1) where
  abbrev f : ℕ → ℕ → Bool
  f = allows_of c.args.rule c.args.order

  owned_is : c.deref.result.now ≡ c.args.starts.now.owned
  owned_is = c.deref.ensures.value ∙ ap (λ s. s.owned) c.starts.view_is

  mirrors_is : c.deref-2.result.now ≡ c.args.starts.now.mirrors
  mirrors_is = c.deref-2.ensures.value ∙ ap (λ s. s.mirrors) c.starts.view_is

  place_is : c.args.at + 8 * c.len-owned.result ≡ c.args.at + 8 * length c.args.starts.now.owned
  place_is = omega (arith, ap (λ s. length s.owned) c.starts.view_is, c.starts.inside.owned.ok, c.len-owned.ensures)

  behind_is : c.split_at.result.1.now ≡ drop (8 * length c.args.starts.now.owned) c.args.bytes.now
  behind_is = c.split_at.ensures.back ∙ ap (λ (n : ℕ). drop n c.args.bytes.now) (omega (arith, ap (λ s. length s.owned) c.starts.view_is, c.starts.inside.owned.ok, c.len-owned.ensures))

  own_read : numbers (map f c.args.starts.now.owned) c.args.at c.args.bytes.now ≡ Ok c.read_numbers.new.into
  own_read = ap (λ (xs : List ℕ). numbers (map f xs) c.args.at c.args.bytes.now) (sym owned_is) ∙ c.in_ok-read_numbers.ensures.ok

pub returns-clause-ok : goal.returns-clause-ok
returns-clause-ok c =
    on_ok _ _ _
    (λ (ok : numbers (map (f c) c.deref-2.result.now) (c.args.at + 8 * c.len-owned.result) c.split_at.result.1.now ≡ Ok c.read_numbers-2.new.into).
    values_read (f c) c.args.starts.now.owned c.args.starts.now.mirrors c.args.at _ c.args.bytes.now _ (place_is c) (behind_is c) _ _ (own_read c)
    (ap (λ (xs : List ℕ). numbers (map (f c) xs) (c.args.at + 8 * c.len-owned.result) c.split_at.result.1.now) (sym (mirrors_is c)) ∙ ok))
    c.read_numbers-2.ensures.ok

pub returns-clause-damaged : goal.returns-clause-damaged
returns-clause-damaged c =
    on_err _ _ _
    (λ (e : Damaged) wrong. copies_wrong (f c) c.args.starts.now.owned c.args.starts.now.mirrors c.args.at _ c.args.bytes.now _ (place_is c) (behind_is c) _ e.place (own_read c)
    (ap (λ (xs : List ℕ). numbers (map (f c) xs) (c.args.at + 8 * c.len-owned.result) c.split_at.result.1.now) (sym (mirrors_is c)) ∙ wrong))
    c.read_numbers-2.ensures.damaged

pub returns-clause-filled : goal.returns-clause-filled
returns-clause-filled c =
    on_err _ _ _
    (λ (e : Damaged) fills. fills_copies c.args.bytes.now c.split_at.result.1.now c.args.into.now _ _ _ _ c.args.at _ e.place c.split_at_mut-own.ensures.value
    (ap (λ (n : ℕ). c.args.at + 8 * n) (sym c.split_at_mut-own.ensures.front_len)) (c.split_at.ensures.back ∙ ap (λ (n : ℕ). drop (8 * n) c.args.bytes.now) (sym c.split_at_mut-own.ensures.front_len)) c.in_ok-read_numbers.ensures.read fills)
    c.read_numbers-2.ensures.filled

pub returns-clause-read : goal.returns-clause-read
returns-clause-read c =
    on_ok c.read_numbers-2.result (c.read_numbers-2.new.into ≡ numbers_in (length c.split_at_mut-own.result.1.now) c.split_at.result.1.now) (c.read_numbers.new.into ++ c.read_numbers-2.new.into ≡ numbers_in (length c.args.into.now) c.args.bytes.now)
    (λ read. both_in c.args.bytes.now c.split_at.result.1.now c.args.into.now c.split_at_mut-own.result.0.now c.split_at_mut-own.result.1.now _ _ c.split_at_mut-own.ensures.value
    (c.split_at.ensures.back ∙ ap (λ (n : ℕ). drop (8 * n) c.args.bytes.now) (sym c.split_at_mut-own.ensures.front_len)) c.in_ok-read_numbers.ensures.read read)
    c.read_numbers-2.ensures.read
