-- What each call of a disk in memory does to the images since a moment.
use Rattle.std.proofs.Common.{◌≡◌, inl, inr, ⊎_elim, ℕ, ◌+◌, ◌-◌, ◌^◌, ◌<◌, ◌≤◌, Bool, true, false, ◌&&◌, nat_lt, nat_le, List, [], ◌∷◌, length, Some, Result, Ok, Err, OnOk, OnErr, refl, arith, sym, ◌∙◌, ap, subst}
use Rattle.std.proofs.lemmas.List.{get_or-replicate}
use Rattle.std.proofs.lemmas.Bool.Decides.{nat_tests}
use Rattle.std.proofs.lemmas.Grind.{same_number_lists}
use Rattle.grape_port.specs.Ports.{one_more}
use Rattle.grape_disk.specs.Images.{Torn, Quiet, Same, Writes, AtRest}
use Rattle.grape_disk.specs.Platters.{Did, wrote, synced, at_rest, after, platter, IsImage, WasImage, ImageSince}
use Rattle.grape_disk.specs.MemDisks.{MemDiskState, HistoryState, did, has_place_after, AreEarlier, content_of, images_of, calls_of, now}
use Rattle.grape_disk.specs.Whole.{platter_whole}
use Rattle.grape_disk.specs.Laws.{whole_image, reads_an_image, since_earlier}
use Rattle.grape_disk.proofs.Torn.{torn_from}

pub earlier_later : (calls later : ℕ) (done : List (ℕ × Did)) → calls ≤ later → AreEarlier calls done → AreEarlier later done
earlier_later calls later [] le earlier = tt
earlier_later calls later (call ∷ done) le earlier = (omega (arith, le, earlier.0), earlier_later calls later done le earlier.1)

-- there is no moment since the last
none_later : (start : List ℕ) (t : ℕ) (done : List (ℕ × Did)) (c : List ℕ) → AreEarlier t done → WasImage start t done c → ⊥
none_later start t [] c earlier was = was
none_later start t (call ∷ done) c earlier (inl at) = absurd (omega (arith, at.0, earlier.0))
none_later start t (call ∷ done) c earlier (inr was) = none_later start t done c earlier.1 was

-- with nothing pending there is one image
rest_image : (file c : List ℕ) → IsImage (at_rest file) c → c ≡ file
rest_image file c image =
    same_number_lists c file (omega (arith, image.no_shorter, image.no_longer))
    (λ k low. image.elsewhere k low (get_or-replicate (length file) k false true (omega (arith, low, image.no_longer))))

module _ (old new : MemDiskState) where
  -- a call that writes nothing
  pub same_call : AreEarlier old.calls old.file.done → new.file ≡ old.file → old.calls ≤ new.calls → Same content_of images_of calls_of old new
  same_call earlier is le = record {
    reads = ap (λ (f : HistoryState). Some (platter f.start f.done).read) is;
    now = λ c image. since_earlier old.file.start old.file.done old.calls new.calls c le (subst (λ (f : HistoryState). ImageSince f.start new.calls f.done c) is image);
    all = λ c image. subst (λ (f : HistoryState). ImageSince f.start new.calls f.done c) (sym is)
        (⊎_elim (λ here. inl here) (λ was. absurd (none_later old.file.start old.calls old.file.done c earlier was)) image);
  }

  pub quiet_call : new.file ≡ old.file → Quiet images_of calls_of old new
  quiet_call is = record {
    since = λ t c le image. subst (λ (f : HistoryState). ImageSince f.start t f.done c) is image;
    past = λ t c le image. subst (λ (f : HistoryState). ImageSince f.start t f.done c) (sym is) image;
  }

  -- a write
  module _ (at : ℕ) (bytes : List ℕ) (is : new.file ≡ did old.calls (wrote at bytes) old.file) where
    image_of : (t : ℕ) (c : List ℕ) → images_of new t c → ImageSince old.file.start t ((old.calls, wrote at bytes) ∷ old.file.done) c
    image_of t c image = subst (λ (f : HistoryState). ImageSince f.start t f.done c) is image

    torn_now : (c : List ℕ) → IsImage (after (wrote at bytes) (now old)) c → (d : List ℕ) × images_of old old.calls d × Torn at (length bytes) d c
    torn_now c image = let torn = torn_from (now old) at bytes c (platter_whole old.file.start old.file.done) image in (torn.0, inl torn.1, torn.2)

    pub write_call : AreEarlier new.calls old.file.done → new.calls ≡ old.calls + 1 → Writes images_of calls_of at (length bytes) old new
    write_call earlier next = record {
      now = λ c image. ⊎_elim
          (λ here. torn_now c here)
          (λ was. ⊎_elim
          (λ before. absurd (omega (arith, before.0, next)))
          (λ long. absurd (none_later old.file.start new.calls old.file.done c earlier long))
          was)
          (image_of new.calls c image);
      since = λ t c le image. ⊎_elim
          (λ here. inr (torn_now c here))
          (λ was. ⊎_elim (λ before. inl (inl before.1)) (λ long. inl (inr long)) was)
          (image_of t c image);
      past = λ t c le image. subst (λ (f : HistoryState). ImageSince f.start t f.done c) (sym is) (⊎_elim (λ here. inr (inl (le, here))) (λ was. inr (inr was)) image);
    }

  -- a sync
  module _ (is : new.file ≡ did old.calls synced old.file) where
    synced_of : (t : ℕ) (c : List ℕ) → images_of new t c → ImageSince old.file.start t ((old.calls, synced) ∷ old.file.done) c
    synced_of t c image = subst (λ (f : HistoryState). ImageSince f.start t f.done c) is image

    rested : (t : ℕ) (c : List ℕ) → IsImage (at_rest (now old).read) c → images_of old t c
    rested t c image = reads_an_image old.file.start t old.file.done c refl (ap (λ (f : List ℕ). Some f) (sym (rest_image (now old).read c image)))

    pub sync_call : AreEarlier new.calls old.file.done → new.calls ≡ old.calls + 1 → AtRest content_of images_of calls_of new (now old).read
    sync_call earlier next = record {
      told = ap (λ (f : HistoryState). Some (platter f.start f.done).read) is;
      only = λ c image. ⊎_elim
          (λ here. rest_image (now old).read c here)
          (λ was. ⊎_elim
          (λ before. absurd (omega (arith, before.0, next)))
          (λ long. absurd (none_later old.file.start new.calls old.file.done c earlier long))
          was)
          (synced_of new.calls c image);
    }

    pub sync_quiet : Quiet images_of calls_of old new
    sync_quiet = record {
      since = λ t c le image. ⊎_elim
          (λ here. rested t c here)
          (λ was. ⊎_elim (λ before. inl before.1) (λ long. inr long) was)
          (synced_of t c image);
      past = λ t c le image. subst (λ (f : HistoryState). ImageSince f.start t f.done c) (sym is) (⊎_elim (λ here. inr (inl (le, here))) (λ was. inr (inr was)) image);
    }

    pub sync_fewer : AreEarlier new.calls old.file.done → new.calls ≡ old.calls + 1 → (c : List ℕ) → images_of new new.calls c → images_of old old.calls c
    sync_fewer earlier next c image =
        let only = (sync_call earlier next).only c image in subst (λ f. images_of old old.calls f) (sym only) (inl (whole_image (now old) (platter_whole old.file.start old.file.done)))

-- ---- a write that was tried, and was done or not

pub earlier_tried : {T E : Type 0} (calls : ℕ) (result : Result T E) (call : Did) (old new : HistoryState) → OnOk result (new ≡ did calls call old) → OnErr result (new ≡ old)
    → calls < 2 ^ 64 - 1 → AreEarlier calls old.done → AreEarlier (one_more calls) new.done
earlier_tried calls (Ok x) call old new ok err few earlier =
    subst (λ (h : HistoryState). AreEarlier (one_more calls) h.done) (sym ok) (omega (arith, few), earlier_later calls (one_more calls) old.done (omega (arith, few)) earlier)
earlier_tried calls (Err e) call old new ok err few earlier =
    subst (λ (h : HistoryState). AreEarlier (one_more calls) h.done) (sym err) (earlier_later calls (one_more calls) old.done (omega (arith, few)) earlier)

-- a write that has a place has a number
pub numbered : (fits : Bool) (calls room end : ℕ) → fits ≡ has_place_after calls room end → fits ≡ true → calls < 2 ^ 64 - 1
numbered fits calls room end is there = below calls (nat_le end room) (sym is ∙ there)
  where
    below : (calls : ℕ) (room : Bool) → (nat_lt calls (2 ^ 64 - 1) && room) ≡ true → calls < 2 ^ 64 - 1
    below calls true there = grind (arith, nat_tests)
    below calls false there = grind (arith, nat_tests)

torn_same : (at n : ℕ) (c : List ℕ) → Torn at n c c
torn_same at n c = record { no_shorter = omega arith; no_longer = omega arith; before = λ i long low. refl; behind = λ i long high. refl }

pub write_tried : (old new : MemDiskState) (at : ℕ) (bytes : List ℕ) (done : Bool) → (done ≡ true → old.calls < 2 ^ 64 - 1) → (done ≡ true → new.file ≡ did old.calls (wrote at bytes) old.file)
    → (done ≡ false → new.file ≡ old.file) → new.calls ≡ one_more old.calls → old.calls ≤ new.calls → AreEarlier old.calls old.file.done → Writes images_of calls_of at (length bytes) old new
write_tried old new at bytes true few made same next le earlier =
    write_call old new at bytes (made refl) (earlier_later old.calls new.calls old.file.done le earlier) (omega (arith, few refl, next))
write_tried old new at bytes false few made same next le earlier =
    let kept = same_call old new earlier (same refl) le
    in let quiet = quiet_call old new (same refl)
    in record {
      now = λ c image. (c, kept.now c image, torn_same at (length bytes) c);
      since = λ t c before image. inl (quiet.since t c before image);
      past = quiet.past;
    }

-- the same at an equal disk before
pub writes_from : (was old new : MemDiskState) (at : ℕ) (bytes : List ℕ) (done : Bool) → was ≡ old → (done ≡ true → was.calls < 2 ^ 64 - 1)
    → (done ≡ true → new.file ≡ did was.calls (wrote at bytes) was.file) → (done ≡ false → new.file ≡ was.file) → new.calls ≡ one_more was.calls → was.calls ≤ new.calls
    → AreEarlier was.calls was.file.done → Writes images_of calls_of at (length bytes) old new
writes_from was old new at bytes done is few made same next le earlier =
    subst (λ (s : MemDiskState). Writes images_of calls_of at (length bytes) s new) is (write_tried was new at bytes done few made same next le earlier)

pub same_from : (was old new : MemDiskState) → was ≡ old → AreEarlier was.calls was.file.done → new.file ≡ was.file → was.calls ≤ new.calls → Same content_of images_of calls_of old new
same_from was old new is earlier file le = subst (λ (s : MemDiskState). Same content_of images_of calls_of s new) is (same_call was new earlier file le)
