-- What each change of a probe makes of what contracts see.
use Rattle.std.proofs.Common.{◌≡◌, ℕ, ◌<◌, ◌≤◌, Bool, true, false, ◌&&◌, nat_lt, IsTrue, sym, ◌∙◌, ap, subst, List, take, set, replicate}
use Rattle.std.proofs.Math.Seq.{take-set-lt}
use Rattle.std.proofs.lemmas.List.{take-replicate}
use Rattle.std.proofs.lemmas.Bool.{and_parts, ltb-true}
use Rattle.stop_probe.specs.ProbeValues.{ProbeValues}
use Rattle.stop_probe.specs.Probe.{may_flag, may_answer, new_probe, after_flag, after_ask, after_ack, after_nack, after_take}

-- a probe by its fields
abbrev pub seen : ℕ → List Bool → Bool → Bool → List Bool → List Bool → ProbeValues
seen n f a k s t = record { workers = n; flags = take n f; asked = a; nacked = k; answered = take n s; took = take n t }

pub made : (n m : ℕ) → n ≤ m → seen n (replicate m false) false false (replicate m false) (replicate m false) ≡ new_probe n
made n m h = ap (λ bits. record { workers = n; flags = bits; asked = false; nacked = false; answered = bits; took = bits }) (take-replicate n m false h)

-- ---- who it is

in_range_of : (i n : ℕ) (p : ProbeValues) (b : Bool) → p.workers ≡ n → (nat_lt i p.workers && b) ≡ true → i < n
in_range_of i n p b e h = subst (λ m. i < m) e (ltb-true i p.workers (and_parts (nat_lt i p.workers) b h).0)

flags_in_range : (i n : ℕ) (p : ProbeValues) → p.workers ≡ n → IsTrue (may_flag i p) → i < n
flags_in_range i n p e h = in_range_of i n p _ e h

answers_in_range : (i n : ℕ) (p : ProbeValues) → p.workers ≡ n → IsTrue (may_answer i p) → i < n
answers_in_range i n p e h = in_range_of i n p _ e (and_parts _ _ h).0

-- ---- the changes

pub flagged : (i n : ℕ) (p : ProbeValues) (f : List Bool) (a k : Bool) (s t : List Bool) → seen n f a k s t ≡ p → IsTrue (may_flag i p) → seen n (set f i true) a k s t ≡ after_flag i p
flagged i n p f a k s t e h =
    ap (λ bits. record { workers = n; flags = bits; asked = a; nacked = k; answered = take n s; took = take n t }) (take-set-lt n f i true (flags_in_range i n p (ap (λ (q : ProbeValues). q.workers) (sym e)) h))
    ∙ ap (after_flag i) e

pub asked : (n m : ℕ) (p : ProbeValues) (f : List Bool) (a k : Bool) (s t : List Bool) → seen n f a k s t ≡ p → n ≤ m → seen n f true false (replicate m false) (replicate m false) ≡ after_ask p
asked n m p f a k s t e h =
    ap (λ bits. record { workers = n; flags = take n f; asked = true; nacked = false; answered = bits; took = bits }) (take-replicate n m false h) ∙ ap after_ask e

pub acked : (i n : ℕ) (p : ProbeValues) (f : List Bool) (a k : Bool) (s t : List Bool) → seen n f a k s t ≡ p → IsTrue (may_answer i p) → seen n f a k (set s i true) t ≡ after_ack i p
acked i n p f a k s t e h =
    ap (λ bits. record { workers = n; flags = take n f; asked = a; nacked = k; answered = bits; took = take n t }) (take-set-lt n s i true (answers_in_range i n p (ap (λ (q : ProbeValues). q.workers) (sym e)) h))
    ∙ ap (after_ack i) e

pub nacked : (i n : ℕ) (p : ProbeValues) (f : List Bool) (a k : Bool) (s t : List Bool) → seen n f a k s t ≡ p → IsTrue (may_answer i p) → seen n (set f i false) a true s t ≡ after_nack i p
nacked i n p f a k s t e h =
    ap (λ bits. record { workers = n; flags = bits; asked = a; nacked = true; answered = take n s; took = take n t }) (take-set-lt n f i false (answers_in_range i n p (ap (λ (q : ProbeValues). q.workers) (sym e)) h))
    ∙ ap (after_nack i) e

pub taken : (i n : ℕ) (p : ProbeValues) (f : List Bool) (a k : Bool) (s t : List Bool) → seen n f a k s t ≡ p → i < p.workers → seen n (set f i false) a k s (set t i true) ≡ after_take i p
taken i n p f a k s t e h =
    let l = subst (λ m. i < m) (ap (λ (q : ProbeValues). q.workers) (sym e)) h in
    ap (λ bits. record { workers = n; flags = bits; asked = a; nacked = k; answered = take n s; took = take n (set t i true) }) (take-set-lt n f i false l)
    ∙ ap (λ bits. record { workers = n; flags = set (take n f) i false; asked = a; nacked = k; answered = take n s; took = bits }) (take-set-lt n t i true l)
    ∙ ap (after_take i) e
