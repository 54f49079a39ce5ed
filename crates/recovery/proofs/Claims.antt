-- How what is claimed of crashes adds up.
use Rattle.std.proofs.Common.{◌≡◌, ◌⊎◌, inl, inr, ⊎_elim, ℕ, ◌+◌, ◌<◌, ◌≤◌, max, List, [], ◌∷◌, ◌++◌, map, length, get_or, Option, Some, Result, Ok, Err, OnErr, refl, sym, ◌∙◌, ap, subst, arith}
use Rattle.std.specs.List.{All, Contains}
use Rattle.std.proofs.lemmas.List.{map-append, append_assoc, append-nil}
use Rattle.std.proofs.lemmas.List.Elements.{All-nil, All-push, All-head, All-tail, Contains-append_left, Contains-push}
use Rattle.grape_disk.specs.Images.{AtRest, Same, Quiet, Leaves}
use Rattle.token_cut.specs.Parts.{SnapshotParts}
use Rattle.token_cut.specs.Shapes.{Starts}
use Rattle.snapshot_file.specs.Lengths.{file_length}
use Rattle.snapshot_store.specs.State.{file_state, IsKept, KeepsOrTakes, Takes, StaysNothing}
use Rattle.snapshot_store.specs.State.FileState.{nothing, last}
use Rattle.recovery.specs.declared.kept_at.KeptAt.{KeptAt}
use Rattle.recovery.specs.Crashes.{epochs_of, kept_epochs, OpensFrom, EntryOrCut, RiseAfter, AreFirst, IsKeptSince, Survives, CrashesLeave, MayKeep, KeepsOne, MayHaveKept}

-- ---- answers

pub on_err_of : {T E : Type 0} (r : Result T E) (P : Type 0) → P → OnErr r P
on_err_of (Ok x) P p = tt
on_err_of (Err e) P p = p

-- an empty file opens as nothing
pub empty_is_nothing : (shape : Starts) (digest file : List ℕ) → length file ≡ 0 → file_state shape digest file ≡ nothing
empty_is_nothing shape digest [] h = refl
empty_is_nothing shape digest (x ∷ file) h = absurd (cc)

-- ---- more snapshots

opens_more : (shape : Starts) (digest : List ℕ) (epoch : ℕ) (cuts more : List SnapshotParts) (c : List ℕ) → OpensFrom shape digest epoch cuts c → OpensFrom shape digest epoch (cuts ++ more) c
opens_more shape digest epoch cuts more c o = (o.0, Contains-append_left cuts more o.0 o.1, o.2, o.3)

entry_more : (shape : Starts) (digest : List ℕ) (cuts more : List SnapshotParts) (file c : List ℕ) → EntryOrCut shape digest cuts file c → EntryOrCut shape digest (cuts ++ more) file c
entry_more shape digest cuts more file c e = record {
  state = ⊎_elim (λ same. inl same) (λ o. inr (opens_more shape digest 0 cuts more c o)) e.state;
  size = e.size;
}

first_more : (kept : List KeptAt) (cuts more : List SnapshotParts) → AreFirst kept cuts → AreFirst kept (cuts ++ more)
first_more kept cuts more first = (
  first.0 ++ epochs_of more,
  map-append (λ (s : SnapshotParts). s.epoch) cuts more ∙ ap (λ (es : List ℕ). es ++ epochs_of more) first.1 ∙ append_assoc (kept_epochs kept) first.0 (epochs_of more),
)

-- what opens as a file that itself opens as the entry
opens_entry : (shape : Starts) (digest : List ℕ) (stands : List ℕ) (cuts : List SnapshotParts) (c : List ℕ) → file_state shape digest c ≡ file_state shape digest stands → OpensFrom shape digest 0 [] stands → OpensFrom shape digest 0 cuts c
opens_entry shape digest stands cuts c same o = (o.0, Contains-append_left [] cuts o.0 o.1, o.2, same ∙ o.3)

entry_of : (shape : Starts) (digest : List ℕ) (file stands : List ℕ) (cuts : List SnapshotParts) (c : List ℕ) → EntryOrCut shape digest [] file stands → EntryOrCut shape digest cuts stands c → EntryOrCut shape digest cuts file c
entry_of shape digest file stands cuts c was is = record {
  state = ⊎_elim (λ same. ⊎_elim (λ entry. inl (same ∙ entry)) (λ o. inr (opens_entry shape digest stands cuts c same o)) was.state) (λ o. inr o) is.state;
  size = omega (arith, was.size, is.size);
}

pub entry_itself : (shape : Starts) (digest file : List ℕ) → EntryOrCut shape digest [] file file
entry_itself shape digest file = record { state = inl refl; size = omega arith }

-- ---- moments that rise

rise_earlier : (low lower : ℕ) (kept : List KeptAt) → lower ≤ low → RiseAfter low kept → RiseAfter lower kept
rise_earlier low lower [] le rise = tt
rise_earlier low lower (k ∷ kept) le rise = (omega (arith, le, rise.0), rise.1)

rise_push : (low : ℕ) (kept : List KeptAt) (k : KeptAt) → RiseAfter low kept → low < k.moment → All (λ (j : KeptAt). j.moment < k.moment) kept → RiseAfter low (kept ++ k ∷ [])
rise_push low [] k rise above all = (above, tt)
rise_push low (j ∷ kept) k rise above all =
    (rise.0, rise_push j.moment kept k rise.1 (All-head (λ (j : KeptAt). j.moment < k.moment) j kept all) (All-tail (λ (j : KeptAt). j.moment < k.moment) j kept all))

-- ---- a put

module _ (shape : Starts) (digest : List ℕ) (cuts : List SnapshotParts) (s : SnapshotParts) (file stands : List ℕ) where
  opens_it : (epoch : ℕ) (c : List ℕ) → epoch ≤ s.epoch → file_state shape digest c ≡ last s → OpensFrom shape digest epoch (cuts ++ s ∷ []) c
  opens_it epoch c le is = (s, Contains-push cuts s, le, is)

  -- what opens as the file that stood there
  opens_same : (epoch : ℕ) (c : List ℕ) → file_state shape digest c ≡ file_state shape digest stands → OpensFrom shape digest epoch cuts stands → OpensFrom shape digest epoch (cuts ++ s ∷ []) c
  opens_same epoch c same o = (o.0, Contains-append_left cuts (s ∷ []) o.0 o.1, o.2, same ∙ o.3)

  entry_put : (c : List ℕ) → EntryOrCut shape digest cuts file stands → KeepsOrTakes shape digest s stands c → EntryOrCut shape digest (cuts ++ s ∷ []) file c
  entry_put c was put = record {
    state = ⊎_elim
        (λ same. ⊎_elim (λ entry. inl (same ∙ entry)) (λ o. inr (opens_same 0 c same o)) was.state)
        (λ taken. inr (opens_it 0 c (omega arith) taken))
        put.state;
    size = omega (arith, was.size, put.size);
  }

  cut_put : (epoch kept : ℕ) (c : List ℕ) → kept ≤ epoch → epoch ≤ s.epoch → OpensFrom shape digest kept cuts stands → KeepsOrTakes shape digest s stands c → OpensFrom shape digest kept (cuts ++ s ∷ []) c
  cut_put epoch kept c le to o put = ⊎_elim (λ same. opens_same kept c same o) (λ taken. opens_it kept c (omega (arith, le, to)) taken) put.state

module _ {D : Type 0} (content : D → Option (List ℕ)) (images : D → ℕ → List ℕ → Type 0) (moment : D → ℕ) (shape : Starts) (digest : List ℕ) where
  pub begins : (file : List ℕ) (disk : D) → Survives images moment shape digest [] [] file disk disk
  begins file disk = record {
    leaves = record { later = omega arith; each = λ t c le image. inl image };
    each = All-nil (IsKeptSince images moment shape digest [] disk);
    rising = tt;
    in_order = ([], refl);
  }

  pub grows : (file : List ℕ) (cuts more : List SnapshotParts) (kept : List KeptAt) (began now : D)
      → Survives images moment shape digest cuts kept file began now → Survives images moment shape digest (cuts ++ more) kept file began now
  grows file cuts more kept began now s = record {
    leaves = record { later = s.leaves.later; each = λ t c le image. ⊎_elim (λ before. inl before) (λ e. inr (entry_more shape digest cuts more file c e)) (s.leaves.each t c le image) };
    each = λ i d low. let k = s.each i d low in record { passed = k.passed; since = λ c image. opens_more shape digest (get_or kept i d).epoch cuts more c (k.since c image) };
    rising = s.rising;
    in_order = first_more kept cuts more s.in_order;
  }

  pub joins : (file stands : List ℕ) (cuts : List SnapshotParts) (kept : List KeptAt) (began mid now : D)
      → Survives images moment shape digest [] [] file began mid → EntryOrCut shape digest [] file stands → Survives images moment shape digest cuts kept stands mid now
      → Survives images moment shape digest cuts kept file began now
  joins file stands cuts kept began mid now first was second = record {
    leaves = record {
      later = omega (arith, first.leaves.later, second.leaves.later);
      each = λ t c le image. ⊎_elim
          (λ before. ⊎_elim (λ b. inl b) (λ e. inr (entry_more shape digest [] cuts file c e)) (first.leaves.each t c le before))
          (λ e. inr (entry_of shape digest file stands cuts c was e))
          (second.leaves.each t c (omega (arith, le, first.leaves.later)) image);
    };
    each = second.each;
    rising = rise_earlier (moment mid) (moment began) kept first.leaves.later second.rising;
    in_order = second.in_order;
  }

  pub tells : (file : List ℕ) (cuts : List SnapshotParts) (kept : List KeptAt) (began now : D) → AtRest content images moment began file
      → Survives images moment shape digest cuts kept file began now → CrashesLeave images moment shape digest cuts kept file began now
  tells file cuts kept began now rest s = record {
    at_any_moment = λ c image. ⊎_elim
        (λ before. subst (λ f. EntryOrCut shape digest cuts file f) (sym (rest.only c before)) (record { state = inl refl; size = omega arith }))
        (λ e. e)
        (s.leaves.each (moment began) c (omega arith) image);
    each = s.each;
    rising = s.rising;
    in_order = s.in_order;
  }

  -- ---- a put

  pub put_survives : (cuts : List SnapshotParts) (kept : List KeptAt) (s : SnapshotParts) (file : List ℕ) (epoch : ℕ) (began old new : D)
      → s.epoch ≡ epoch + 1 → ((f : List ℕ) → AtRest content images moment old f → IsKept shape digest epoch f → Leaves images moment old new (KeepsOrTakes shape digest s f))
      → MayKeep content images moment shape digest cuts kept file epoch began old → Survives images moment shape digest (cuts ++ s ∷ []) kept file began new
  put_survives cuts kept s file epoch began old new next put m =
      let leaves = put m.stands m.at_rest m.whole in
      record {
        leaves = record {
          later = omega (arith, m.survives.leaves.later, leaves.later);
          each = λ t c le image. ⊎_elim
              (λ before. ⊎_elim (λ b. inl b) (λ e. inr (entry_more shape digest cuts (s ∷ []) file c e)) (m.survives.leaves.each t c le before))
              (λ p. inr (entry_put shape digest cuts s file m.stands c m.opens p))
              (leaves.each t c (omega (arith, le, m.survives.leaves.later)) image);
        };
        each = λ i d low.
            let was = m.survives.each i d low in let newest = m.newest i d low in
            record {
              passed = omega (arith, was.passed, leaves.later);
              since = λ c image. ⊎_elim
                  (λ before. opens_more shape digest (get_or kept i d).epoch cuts (s ∷ []) c (was.since c before))
                  (λ p. cut_put shape digest cuts s file m.stands epoch (get_or kept i d).epoch c newest.0 (omega (arith, next)) newest.1 p)
                  (leaves.each (get_or kept i d).moment c was.passed image);
            };
        rising = m.survives.rising;
        in_order = first_more kept cuts (s ∷ []) m.survives.in_order;
      }

  -- the snapshot that was put, with the moment after it
  abbrev kept_at : D → SnapshotParts → KeptAt
  kept_at new s = record { epoch = s.epoch; moment = moment new }

  new_size : (cuts : List SnapshotParts) (kept : List KeptAt) (s : SnapshotParts) (file n : List ℕ) (epoch : ℕ) (began old new : D)
      → (m : MayKeep content images moment shape digest cuts kept file epoch began old) → Leaves images moment old new (KeepsOrTakes shape digest s m.stands) → images new (moment old) n
      → length n ≤ max (length file) (file_length shape)
  new_size cuts kept s file n epoch began old new m leaves image = ⊎_elim
      (λ before. let same = ap length (m.at_rest.only n before) in omega (arith, m.opens.size, same))
      (λ p. omega (arith, m.opens.size, p.size))
      (leaves.each (moment old) n (omega arith) image)

  pub put_keeps : (cuts : List SnapshotParts) (kept : List KeptAt) (s : SnapshotParts) (file : List ℕ) (epoch : ℕ) (began old new : D)
      → ((f : List ℕ) → content new ≡ Some f → images new (moment new) f) → ((t : ℕ) (c : List ℕ) → t ≤ moment new → images new (moment new) c → images new t c)
      → s.epoch ≡ epoch + 1 → moment old < moment new
      → ((f : List ℕ) → AtRest content images moment old f → IsKept shape digest epoch f → Leaves images moment old new (KeepsOrTakes shape digest s f))
      → ((f : List ℕ) → AtRest content images moment old f → IsKept shape digest epoch f → (n : List ℕ) × AtRest content images moment new n × Takes shape digest s n)
      → MayKeep content images moment shape digest cuts kept file epoch began old
      → MayKeep content images moment shape digest (cuts ++ s ∷ []) (kept ++ record { epoch = s.epoch; moment = moment new } ∷ []) file s.epoch began new
  put_keeps cuts kept s file epoch began old new reads since next moved put takes m =
      let survives = put_survives cuts kept s file epoch began old new next put m in
      let took = takes m.stands m.at_rest m.whole in
      let same_epochs : epochs_of (cuts ++ s ∷ []) ≡ kept_epochs (kept ++ kept_at new s ∷ []) =
      map-append (λ (s : SnapshotParts). s.epoch) cuts (s ∷ []) ∙ ap (λ (es : List ℕ). es ++ s.epoch ∷ []) m.all ∙ sym (map-append (λ (k : KeptAt). k.epoch) kept (kept_at new s ∷ [])) in
      let image = since (moment old) took.0 (omega arith) (reads took.0 took.1.told) in
      record {
        survives = record {
          leaves = survives.leaves;
          each = All-push (IsKeptSince images moment shape digest (cuts ++ s ∷ []) new) kept (kept_at new s) survives.each
              (record { passed = omega arith; since = λ c image. opens_it shape digest cuts s file m.stands s.epoch c (omega arith) (ap (file_state shape digest) (took.1.only c image) ∙ took.2.state) });
          rising = rise_push (moment began) kept (kept_at new s) survives.rising (omega (arith, m.survives.leaves.later, moved)) (λ i d low. omega (arith, (m.survives.each i d low).passed, moved));
          in_order = ([], same_epochs ∙ sym (append-nil (kept_epochs (kept ++ kept_at new s ∷ []))));
        };
        all = same_epochs;
        stands = took.0;
        at_rest = took.1;
        whole = took.2.kept;
        opens = record {
          state = inr (opens_it shape digest cuts s file m.stands 0 took.0 (omega arith) took.2.state);
          size = new_size cuts kept s file took.0 epoch began old new m (put m.stands m.at_rest m.whole) image;
        };
        newest = All-push (λ (k : KeptAt). (k.epoch ≤ s.epoch) × OpensFrom shape digest k.epoch (cuts ++ s ∷ []) took.0) kept (kept_at new s)
            (λ i d low. let le : (get_or kept i d).epoch ≤ s.epoch = omega (arith, (m.newest i d low).0, next) in (le, opens_it shape digest cuts s file m.stands (get_or kept i d).epoch took.0 le took.2.state))
            (omega arith, opens_it shape digest cuts s file m.stands s.epoch took.0 (omega arith) took.2.state);
      }

  -- what was sealed is noted as it was, where nothing was kept
  pub not_put : (kept more : List KeptAt) (s : SnapshotParts) (epoch : ℕ) (old : D) → more ≡ kept → MayHaveKept content images moment shape digest s epoch kept more old old
  not_put kept more s epoch old same = λ cuts file began m.
      subst (λ (ks : List KeptAt). Survives images moment shape digest (cuts ++ s ∷ []) ks file began old) (sym same) (grows file cuts (s ∷ []) kept began old m.survives)

  pub failed_put : (kept more : List KeptAt) (s : SnapshotParts) (epoch : ℕ) (old new : D) → more ≡ kept → s.epoch ≡ epoch + 1
      → ((f : List ℕ) → AtRest content images moment old f → IsKept shape digest epoch f → Leaves images moment old new (KeepsOrTakes shape digest s f))
      → MayHaveKept content images moment shape digest s epoch kept more old new
  failed_put kept more s epoch old new same next put = λ cuts file began m.
      subst (λ (ks : List KeptAt). Survives images moment shape digest (cuts ++ s ∷ []) ks file began new) (sym same) (put_survives cuts kept s file epoch began old new next put m)

  pub noted_put : (kept more : List KeptAt) (s : SnapshotParts) (epoch : ℕ) (old new : D)
      → ((f : List ℕ) → content new ≡ Some f → images new (moment new) f) → ((t : ℕ) (c : List ℕ) → t ≤ moment new → images new (moment new) c → images new t c)
      → more ≡ kept ++ record { epoch = s.epoch; moment = moment new } ∷ [] → s.epoch ≡ epoch + 1 → moment old < moment new
      → ((f : List ℕ) → AtRest content images moment old f → IsKept shape digest epoch f → Leaves images moment old new (KeepsOrTakes shape digest s f))
      → ((f : List ℕ) → AtRest content images moment old f → IsKept shape digest epoch f → (n : List ℕ) × AtRest content images moment new n × Takes shape digest s n)
      → KeepsOne content images moment shape digest s epoch kept more old new
  noted_put kept more s epoch old new reads since same next moved put takes = λ cuts file began m.
      subst (λ (ks : List KeptAt). MayKeep content images moment shape digest (cuts ++ s ∷ []) ks file s.epoch began new) (sym same)
      (put_keeps cuts kept s file epoch began old new reads since next moved put takes m)

  -- ---- an entry

  pub quiet_survives : (file : List ℕ) (old new : D) (P : List ℕ → Type 0) → Leaves images moment old new P → ((c : List ℕ) → P c → EntryOrCut shape digest [] file c) → Survives images moment shape digest [] [] file old new
  quiet_survives file old new P leaves each = record {
    leaves = record { later = leaves.later; each = λ t c le image. ⊎_elim (λ before. inl before) (λ p. inr (each c p)) (leaves.each t c le image) };
    each = All-nil (IsKeptSince images moment shape digest [] new);
    rising = tt;
    in_order = ([], refl);
  }

  -- a call that writes nothing
  pub read_survives : (file : List ℕ) (old new : D) → moment old ≤ moment new → Quiet images moment old new → Survives images moment shape digest [] [] file old new
  read_survives file old new later quiet = record {
    leaves = record { later = later; each = λ t c le image. inl (quiet.since t c le image) };
    each = All-nil (IsKeptSince images moment shape digest [] new);
    rising = tt;
    in_order = ([], refl);
  }

  pub still_at_rest : (file : List ℕ) (old new : D) → AtRest content images moment old file → Same content images moment old new → AtRest content images moment new file
  still_at_rest file old new rest same = record { told = same.reads ∙ rest.told; only = λ c image. rest.only c (same.now c image) }

  -- nothing was kept yet
  pub may_begin : (file : List ℕ) (epoch : ℕ) (began now : D) → AtRest content images moment now file → IsKept shape digest epoch file → Survives images moment shape digest [] [] file began now
      → MayKeep content images moment shape digest [] [] file epoch began now
  may_begin file epoch began now rest kept survives = record {
    survives = survives;
    all = refl;
    stands = file;
    at_rest = rest;
    whole = kept;
    opens = record { state = inl refl; size = omega arith };
    newest = All-nil (λ (k : KeptAt). (k.epoch ≤ epoch) × OpensFrom shape digest k.epoch [] file);
  }

  nothing_stays : (file c : List ℕ) → file_state shape digest file ≡ nothing → StaysNothing shape digest file c → EntryOrCut shape digest [] file c
  nothing_stays file c is stays = record { state = inl (stays.state ∙ sym is); size = stays.size }

  pub created : (file : List ℕ) (old new : D) → file_state shape digest file ≡ nothing → Leaves images moment old new (StaysNothing shape digest file) → Survives images moment shape digest [] [] file old new
  created file old new is leaves = quiet_survives file old new (StaysNothing shape digest file) leaves (λ c stays. nothing_stays file c is stays)

  -- a store was made, after calls that wrote nothing
  pub may_begin_created : (file n : List ℕ) (began old new : D)
      → ((f : List ℕ) → content new ≡ Some f → images new (moment new) f) → ((t : ℕ) (c : List ℕ) → t ≤ moment new → images new (moment new) c → images new t c)
      → AtRest content images moment old file → Survives images moment shape digest [] [] file began old
      → file_state shape digest file ≡ nothing → Leaves images moment old new (StaysNothing shape digest file)
      → AtRest content images moment new n → file_state shape digest n ≡ nothing → IsKept shape digest 0 n
      → MayKeep content images moment shape digest [] [] file 0 began new
  may_begin_created file n began old new reads since rest first is leaves at_rest opens kept =
      let image = since (moment old) n (omega (arith, leaves.later)) (reads n at_rest.told) in
      let entry : EntryOrCut shape digest [] file file = record { state = inl refl; size = omega arith } in
      record {
        survives = joins file file [] [] began old new first entry (created file old new is leaves);
        all = refl;
        stands = n;
        at_rest = at_rest;
        whole = kept;
        opens = record {
          state = inl (opens ∙ sym is);
          size = ⊎_elim (λ before. let same = ap length (rest.only n before) in omega (arith, same)) (λ stays. stays.size) (leaves.each (moment old) n (omega arith) image);
        };
        newest = All-nil (λ (k : KeptAt). (k.epoch ≤ 0) × OpensFrom shape digest k.epoch [] n);
      }

  -- a call that writes nothing, by the bytes that it may leave
  pub opened_survives : (file : List ℕ) (old new : D) → Leaves images moment old new (λ _. ⊥) → Survives images moment shape digest [] [] file old new
  opened_survives file old new leaves = quiet_survives file old new (λ _. ⊥) leaves (λ c none. absurd none)

  -- what may be kept after two parts of an entry
  pub may_keep_over : (file : List ℕ) (epoch : ℕ) (began mid now : D)
      → Survives images moment shape digest [] [] file began mid → MayKeep content images moment shape digest [] [] file epoch mid now → MayKeep content images moment shape digest [] [] file epoch began now
  may_keep_over file epoch began mid now first m = record {
    survives = joins file file [] [] began mid now first (entry_itself shape digest file) m.survives;
    all = m.all;
    stands = m.stands;
    at_rest = m.at_rest;
    whole = m.whole;
    opens = m.opens;
    newest = m.newest;
  }
