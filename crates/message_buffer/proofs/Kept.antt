-- What a buffer keeps, call by call.
use Rattle.std.proofs.Common.{◌≡◌, ℕ, ◌^◌, ◌<◌, ◌≤◌, Bool, true, false, List, [], ◌++◌, length, replicate, slice_index, slice_set, get_or, take, drop, All, ap, sym, subst, ◌∙◌, refl, arith}
use Rattle.std.proofs.lemmas.List.{length-set, length-replicate, get_or-replicate, get_or_default, append-nil, drop_all, take_all}
use Rattle.std.proofs.lemmas.List.Elements.{All-set}
use Rattle.value_order.specs.declared.order.Order.{Order}
use Rattle.value_order.specs.declared.TheConstants.{NOTHING}
use Rattle.value_order.specs.Order.{meet_of}
use Rattle.message_buffer.specs.Buffers.{meets_of}
use Rattle.message_buffer.specs.Listed.{IsCalm, IsListed, IsKept, enlisted}
use Rattle.message_buffer.proofs.Meeting.{meet-le_l}
use Rattle.message_buffer.proofs.Places.{meets_of-length, meets_of-at, meets_of-none, meets_of-calm, meets_of-set_left, meets_of-set_right}
use Rattle.message_buffer.proofs.Listing.{listed-none, listed-room, listed-lower}

pub all-fit : (xs : List ℕ) → ((i : ℕ) → get_or xs i 0 < 2 ^ 64) → All (λ v. v < 2 ^ 64) xs
all-fit xs f k d h = subst (λ v. v < 2 ^ 64) (get_or_default xs k 0 d h) (f k)

none-fit : (n : ℕ) → All (λ v. v < 2 ^ 64) (replicate n NOTHING)
none-fit n k d h = let e = get_or-replicate n k NOTHING d (let l = length-replicate n NOTHING in omega (arith, h, l)) in omega (arith, e)

-- a slice that was lent is written back
pub written-back : (len : ℕ) (xs ys : List ℕ) → length xs ≡ len → length ys ≡ len → take len (ys ++ drop (length ys) xs) ≡ ys
written-back len xs ys h k =
    ap (λ zs. take len (ys ++ zs)) (drop_all (length ys) xs (omega (arith, h, k))) ∙ ap (take len) (append-nil ys) ∙ take_all len ys (omega (arith, k))

pub kept-none : (o : Order) (n room : ℕ) → n < 2 ^ 32 → n ≤ room → IsKept o (replicate n NOTHING) (replicate n NOTHING) [] room false
kept-none o n room h k = record {
  same = refl;
  few = let e = length-replicate n NOTHING in omega (arith, e, h);
  plain_fits = none-fit n;
  tagged_fits = none-fit n;
  listed = subst (λ xs. IsListed xs [] room) (sym (meets_of-none o n)) (listed-none n room k);
  calm = ap (λ m. replicate m NOTHING) (sym (length-replicate n NOTHING));
}

pub kept-made : (o : Order) (n room : ℕ) (plain tagged mirrors : List ℕ) → plain ≡ replicate n NOTHING → tagged ≡ replicate n NOTHING → mirrors ≡ [] → n < 2 ^ 32 → n ≤ room → IsKept o plain tagged mirrors room false
kept-made o n room plain tagged mirrors e f g h k =
    subst (λ xs. IsKept o xs tagged mirrors room false) (sym e)
    (subst (λ ys. IsKept o (replicate n NOTHING) ys mirrors room false) (sym f) (subst (λ ms. IsKept o (replicate n NOTHING) (replicate n NOTHING) ms room false) (sym g) (kept-none o n room h k)))

-- a class without values, seen from the other one
pub calm_is : (xs ys : List ℕ) → IsCalm false ys → length ys ≡ length xs → ys ≡ replicate (length xs) NOTHING
calm_is xs ys c e = c ∙ ap (λ n. replicate n NOTHING) e

module _ (o : Order) (plain tagged mirrors : List ℕ) (room : ℕ) (has_tagged : Bool) (kept : IsKept o plain tagged mirrors room has_tagged) where
  pub kept-length : length (meets_of o plain tagged) ≡ length plain
  kept-length = meets_of-length o (length plain) plain tagged refl kept.same

  pub kept-at : (m : ℕ) → m < length plain → slice_index (meets_of o plain tagged) m ≡ meet_of o (slice_index plain m) (slice_index tagged m)
  kept-at m h = let s = kept.same in meets_of-at o plain tagged m h (omega (arith, h, s))

  pub kept-room : (m : ℕ) → m < length plain → meet_of o (slice_index plain m) (slice_index tagged m) ≡ NOTHING → length mirrors < room
  kept-room m h e = let n = kept-length in listed-room (meets_of o plain tagged) mirrors room m kept.listed (omega (arith, h, n)) (kept-at m h ∙ e)

  kept-listed : (m v before : ℕ) → m < length plain → v < NOTHING → before ≡ meet_of o (slice_index plain m) (slice_index tagged m) →
      IsListed (slice_set (meets_of o plain tagged) m (meet_of o (slice_index (meets_of o plain tagged) m) v)) (enlisted mirrors m before) room
  kept-listed m v before h k e =
      let n = kept-length in
      subst (λ b. IsListed (slice_set (meets_of o plain tagged) m (meet_of o (slice_index (meets_of o plain tagged) m) v)) (enlisted mirrors m b) room)
      (kept-at m h ∙ sym e) (listed-lower o (meets_of o plain tagged) mirrors room m v kept.listed (omega (arith, h, n)) k)

  tagged-kept : (m v w before : ℕ) → m < length plain → v < NOTHING → before ≡ meet_of o (slice_index plain m) (slice_index tagged m) → w ≡ meet_of o (slice_index tagged m) v → w < 2 ^ 64 →
      IsKept o plain (slice_set tagged m w) (enlisted mirrors m before) room true
  tagged-kept m v w before h k e f g = record {
    same = length-set tagged m w ∙ kept.same;
    few = kept.few;
    plain_fits = kept.plain_fits;
    tagged_fits = All-set (λ v. v < 2 ^ 64) tagged m w g kept.tagged_fits;
    listed = subst (λ xs. IsListed xs (enlisted mirrors m before) room)
        (sym (meets_of-set_right o plain tagged m v h kept.same) ∙ ap (λ u. meets_of o plain (slice_set tagged m u)) (sym f)) (kept-listed m v before h k e);
    calm = tt;
  }

  pub kept-tagged : (m v w before : ℕ) (ms : List ℕ) (cap : ℕ) → ms ≡ enlisted mirrors m before → cap ≡ room → m < length plain → v < NOTHING → before ≡ meet_of o (slice_index plain m) (slice_index tagged m) → w ≡ meet_of o (slice_index tagged m) v → w < 2 ^ 64 →
      IsKept o plain (slice_set tagged m w) ms cap true
  kept-tagged m v w before ms cap p q h k e f g = subst (λ n. IsKept o plain (slice_set tagged m w) ms n true) (sym q) (subst (λ xs. IsKept o plain (slice_set tagged m w) xs room true) (sym p) (tagged-kept m v w before h k e f g))

  plain-kept : (m v w before : ℕ) → m < length plain → v < NOTHING → before ≡ meet_of o (slice_index plain m) (slice_index tagged m) → w ≡ meet_of o (slice_index plain m) v → w < 2 ^ 64 →
      IsKept o (slice_set plain m w) tagged (enlisted mirrors m before) room has_tagged
  plain-kept m v w before h k e f g =
      let n = length-set plain m w in
      record {
        same = kept.same ∙ sym n;
        few = let s = kept.few in omega (arith, n, s);
        plain_fits = All-set (λ v. v < 2 ^ 64) plain m w g kept.plain_fits;
        tagged_fits = kept.tagged_fits;
        listed = subst (λ xs. IsListed xs (enlisted mirrors m before) room)
            (sym (meets_of-set_left o plain tagged m v h kept.same) ∙ ap (λ u. meets_of o (slice_set plain m u) tagged) (sym f)) (kept-listed m v before h k e);
        calm = kept.calm;
      }

  pub kept-plain : (m v w before : ℕ) (ms : List ℕ) (cap : ℕ) → ms ≡ enlisted mirrors m before → cap ≡ room → m < length plain → v < NOTHING → before ≡ meet_of o (slice_index plain m) (slice_index tagged m) → w ≡ meet_of o (slice_index plain m) v → w < 2 ^ 64 →
      IsKept o (slice_set plain m w) tagged ms cap has_tagged
  kept-plain m v w before ms cap p q h k e f g = subst (λ n. IsKept o (slice_set plain m w) tagged ms n has_tagged) (sym q) (subst (λ xs. IsKept o (slice_set plain m w) tagged xs room has_tagged) (sym p) (plain-kept m v w before h k e f g))

  folded-kept : IsKept o (meets_of o plain tagged) (replicate (length plain) NOTHING) mirrors room false
  folded-kept =
      let n = kept-length in
      let fits : All (λ v. v < 2 ^ 64) (meets_of o plain tagged) = (λ k d l.
      let inside : k < length plain = omega (arith, l, n) in
      let at = get_or_default (meets_of o plain tagged) k d 0 l ∙ kept-at k inside in
      let le = meet-le_l o (slice_index plain k) (slice_index tagged k) in
      let lt = kept.plain_fits k 0 inside in
      omega (arith, at, le, lt)) in
      record {
        same = length-replicate (length plain) NOTHING ∙ sym n;
        few = let s = kept.few in omega (arith, n, s);
        plain_fits = fits;
        tagged_fits = none-fit (length plain);
        listed = subst (λ xs. IsListed xs mirrors room) (sym (ap (λ m. meets_of o (meets_of o plain tagged) (replicate m NOTHING)) (sym n) ∙ meets_of-calm o (meets_of o plain tagged) fits)) kept.listed;
        calm = ap (λ m. replicate m NOTHING) (sym (length-replicate (length plain) NOTHING));
      }

  pub kept-folded : (xs ys : List ℕ) → xs ≡ meets_of o plain tagged → ys ≡ replicate (length plain) NOTHING → IsKept o xs ys mirrors room false
  kept-folded xs ys e f = subst (λ zs. IsKept o zs ys mirrors room false) (sym e) (subst (λ zs. IsKept o (meets_of o plain tagged) zs mirrors room false) (sym f) folded-kept)
