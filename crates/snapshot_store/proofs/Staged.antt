-- A body that is written piece by piece.
use Rattle.std.proofs.Common.{◌≡◌, ◌⊎◌, inl, inr, ⊎_elim, ℕ, suc, ◌+◌, ◌<◌, ◌≤◌, Bool, IsTrue, List, [], ◌∷◌, ◌++◌, length, take, drop, Option, Some, refl, sym, ◌∙◌, ap, subst, arith, length-take, length-drop, length-append}
use Rattle.std.specs.List.{AllZip}
use Rattle.std.proofs.lemmas.List.{ext_get_or, places, take_all}
use Rattle.grape_disk.specs.Images.{written, written_if, Torn, AtRest, Writes, Leaves}
use Rattle.token_cut.specs.Form.{IsPartInSlotForm, IsInSlotForm}
use Rattle.token_cut.specs.Parts.{PartValues, SnapshotParts}
use Rattle.token_cut.specs.Shapes.{PartStarts, Starts, HaveShape}
use Rattle.value_order.specs.declared.order.Order.{Order}
use Rattle.snapshot_store.specs.Lengths.{StaysWithin}
use Rattle.snapshot_store.proofs.Pieces.{length_written}
use Rattle.snapshot_store.proofs.Moments.{leaves_then, leaves_within, within_then}

-- ---- a snapshot in the form has the shape

zip_length : {X Y : Type 0} (R : X → Y → Type 0) (xs : List X) (ys : List Y) → AllZip R xs ys → length xs ≡ length ys
zip_length R [] [] zip = refl
zip_length R [] (y ∷ ys) zip = absurd zip
zip_length R (x ∷ xs) [] zip = absurd zip
zip_length R (x ∷ xs) (y ∷ ys) zip = ap suc (zip_length R xs ys zip.1)

parts_have : (order : Order) (shape : List PartStarts) (parts : List PartValues) → AllZip (IsPartInSlotForm order) shape parts → HaveShape shape parts
parts_have order [] [] zip = tt
parts_have order [] (part ∷ parts) zip = absurd zip
parts_have order (starts ∷ shape) [] zip = absurd zip
parts_have order (starts ∷ shape) (part ∷ parts) zip =
    (zip_length _ part.values (starts.owned ++ starts.mirrors) zip.0.values ∙ length-append starts.owned starts.mirrors, zip_length _ part.mail starts.mirrors zip.0.mail, parts_have order shape parts zip.1)

pub form_shape : (shape : Starts) (slot : ℕ) (snapshot : SnapshotParts) → IsInSlotForm shape slot snapshot → HaveShape shape.parts snapshot.parts
form_shape shape slot snapshot form = parts_have shape.order shape.parts snapshot.parts form.parts

-- ---- the bytes of the file

written_twice : (at : ℕ) (p q file : List ℕ) → written (at + length p) q (written at p file) ≡ written at (p ++ q) file
written_twice at p q file =
    ext_get_or 0 (written (at + length p) q (written at p file)) (written at (p ++ q) file)
    (omega (arith, length_written (at + length p) q (written at p file), length_written at p file, length_written at (p ++ q) file, length-append p q))
    (λ i low. grind (arith, places))

-- the file with the first bytes of a body, or the file itself
abbrev pub IsStaged : ℕ → List ℕ → ℕ → List ℕ → List ℕ → Type 0
IsStaged at body done file now = ((done ≡ 0) × (now ≡ file)) ⊎ (now ≡ written at (take done body) file)

take_then : (n m : ℕ) (body : List ℕ) → n + m ≤ length body → take n body ++ take m (drop n body) ≡ take (n + m) body
take_then n m body long =
    ext_get_or 0 (take n body ++ take m (drop n body)) (take (n + m) body)
    (omega (arith, length-append (take n body) (take m (drop n body)), length-take n body, length-take m (drop n body), length-drop n body, length-take (n + m) body))
    (λ i low. grind (arith, places))

staged_more : (at done count : ℕ) (body q file g : List ℕ) → q ≡ take count (drop done body) → done + count ≤ length body → IsStaged at body done file g → written (at + done) q g ≡ written at (take (done + count) body) file
staged_more at done count body q file g is long staged =
    let both : take done body ++ q ≡ take (done + count) body = ap (λ (l : List ℕ). take done body ++ l) is ∙ take_then done count body long in
    ⊎_elim
    (λ none.
    let nothing : take done body ≡ [] = ap (λ (n : ℕ). take n body) none.0 in
    let here : at + done ≡ at = omega (arith, none.0) in
    ap (λ (a : ℕ). written a q g) here ∙ ap (written at q) none.1 ∙ ap (λ (l : List ℕ). written at l file) (sym (ap (λ (l : List ℕ). l ++ q) nothing) ∙ both))
    (λ so_far.
    let short : done ≡ length (take done body) = omega (arith, length-take done body, long) in
    ap (written (at + done) q) so_far ∙ ap (λ (n : ℕ). written (at + n) q (written at (take done body) file)) short ∙ written_twice at (take done body) q file
    ∙ ap (λ (l : List ℕ). written at l file) both)
    staged

staged_all : (at : ℕ) (body file now : List ℕ) (done : ℕ) → 0 < length body → length body ≤ done → IsStaged at body done file now → now ≡ written at body file
staged_all at body file now done some all staged =
    ⊎_elim (λ none. absurd (omega (arith, none.0, some, all))) (λ so_far. so_far ∙ ap (λ (l : List ℕ). written at l file) whole) staged
  where
    whole : take done body ≡ body
    whole = take_all done body all

torn_itself : (at n : ℕ) (file c : List ℕ) → c ≡ file → Torn at n file c
torn_itself at n file c is = subst (Torn at n file) (sym is) (record { no_shorter = omega arith; no_longer = omega arith; before = λ i long low. refl; behind = λ i long high. refl })

-- a write within the range of one that is under way
torn_within : (at n from m : ℕ) (file d c : List ℕ) → at ≤ from → from + m ≤ at + n → Torn at n file d → Torn from m d c → Torn at n file c
torn_within at n from m file d c start end first second = record {
  no_shorter = omega (arith, first.no_shorter, second.no_shorter);
  no_longer = omega (arith, first.no_longer, second.no_longer, end);
  before = λ i long low. second.before i (omega (arith, long, first.no_shorter)) (omega (arith, low, start)) ∙ first.before i long low;
  behind = λ i long high. second.behind i (omega (arith, long, first.no_shorter)) (omega (arith, high, end)) ∙ first.behind i long high;
}

-- ---- the disk

module _ {D : Type 0} (content : D → Option (List ℕ)) (images : D → ℕ → List ℕ → Type 0) (moment faults : D → ℕ) (honest : D → Bool) where
  -- so many bytes of a body are written, and nothing is synced since
  pub record Stages (at : ℕ) (body : List ℕ) (old : D) (done : ℕ) (now : D) : Type 0 where
    pub told : (file : List ℕ) → content old ≡ Some file → (g : List ℕ) × (content now ≡ Some g) × IsStaged at body done file g
    pub crash : IsTrue (honest old) → (file : List ℕ) → AtRest content images moment old file
        → Leaves images moment old now (Torn at (length body) file) × ((c : List ℕ) → images now (moment now) c → Torn at (length body) file c)
    pub size : IsTrue (honest old) → (most : ℕ) → at + length body ≤ most → StaysWithin images moment most old now
    pub no_fault : faults now ≡ faults old
    pub later : moment old ≤ moment now
    pub same : honest now ≡ honest old
    pub low : done ≤ length body

  pub stages_none : (at : ℕ) (body : List ℕ) (old : D) → Stages at body old 0 old
  stages_none at body old = record {
    told = λ file is. (file, is, inl (refl, refl));
    crash = λ honest file rest. (record { later = omega arith; each = λ t c le image. inl image }, λ c image. torn_itself at (length body) file c (rest.only c image));
    size = λ honest most low all. record { later = omega arith; each = λ t c le image. inl image };
    no_fault = refl;
    later = omega arith;
    same = refl;
    low = omega arith;
  }

  module _ (at : ℕ) (body : List ℕ) (old : D) (done count : ℕ) (now new : D) (stages : Stages at body old done now) (long : done + count ≤ length body) (later : moment now ≤ moment new) (writes : IsTrue (honest now) → Writes images moment (at + done) count now new) where
    pub write_crash : IsTrue (honest old) → (file : List ℕ) → AtRest content images moment old file
        → Leaves images moment old new (Torn at (length body) file) × ((c : List ℕ) → images new (moment new) c → Torn at (length body) file c)
    write_crash is file rest =
        let so_far = stages.crash is file rest in
        let next = leaves_within content images moment now new (Torn at (length body) file) (at + done) count later (writes (stages.same ∙ is))
        (λ d c first second. torn_within at (length body) (at + done) count file d c (omega arith) (omega (arith, long)) first second) so_far.1 in
        (leaves_then content images moment old now new (Torn at (length body) file) (Torn at (length body) file) (Torn at (length body) file) so_far.0 next.0 (λ c q. q) (λ c q. q), next.1)

    pub write_size : ((disk : D) (earlier later : ℕ) (c : List ℕ) → earlier ≤ later → images disk later c → images disk earlier c) → IsTrue (honest old) → (most : ℕ) → at + length body ≤ most → StaysWithin images moment most old new
    write_size since is most low =
        within_then images moment since old now new most (stages.size is most low)
        (λ all. (leaves_within content images moment now new (λ c. length c ≤ most) (at + done) count later (writes (stages.same ∙ is))
        (λ d c short torn. omega (arith, short, torn.no_longer, long, low)) all).0)

  pub stages_more : (at : ℕ) (body q : List ℕ) (old : D) (done count : ℕ) (now new : D)
      → ((disk : D) (earlier later : ℕ) (c : List ℕ) → earlier ≤ later → images disk later c → images disk earlier c)
      → Stages at body old done now → q ≡ take count (drop done body) → length q ≡ count → done + count ≤ length body
      → moment now ≤ moment new → (IsTrue (honest now) → Writes images moment (at + done) (length q) now new)
      → content new ≡ written_if (at + done) q (content now) → faults new ≡ faults now → honest new ≡ honest now
      → Stages at body old (done + count) new
  stages_more at body q old done count now new since stages is many long later writes wrote fault same = record {
    told = λ file told.
        let so_far = stages.told file told in
        (written (at + done) q so_far.0, wrote ∙ ap (written_if (at + done) q) so_far.1, inr (staged_more at done count body q file so_far.0 is long so_far.2));
    crash = write_crash at body old done (length q) now new stages (omega (arith, many, long)) later writes;
    size = write_size at body old done (length q) now new stages (omega (arith, many, long)) later writes since;
    no_fault = fault ∙ stages.no_fault;
    later = omega (arith, later, stages.later);
    same = same ∙ stages.same;
    low = omega (arith, long);
  }

  pub stages_all : (at : ℕ) (body : List ℕ) (old : D) (done : ℕ) (now : D) → Stages at body old done now → 0 < length body → length body ≤ done → (file : List ℕ) → content old ≡ Some file → content now ≡ Some (written at body file)
  stages_all at body old done now stages some all file told =
      let so_far = stages.told file told in
      so_far.1 ∙ ap Some (staged_all at body file so_far.0 done some all so_far.2)
