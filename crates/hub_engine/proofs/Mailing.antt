-- Desks while posts are sent to them.
use Rattle.std.proofs.Common.{◌≡◌, ◌≢◌, ℕ, zero, suc, ◌+◌, ◌<◌, ◌≤◌, ◌⊎◌, inl, inr, Bool, true, false, not, ◌==◌, ◌&&◌, ◌||◌, cond, if◌then◌else◌, refl, sym, ◌∙◌, ap, subst, arith, add-one, List, [], ◌∷◌, ◌++◌, length, map, filter, take, append_assoc, length-set, slice_index, slice_index_or, slice_set, All, Some, slice_get, replicate}
use Rattle.std.proofs.lemmas.Bool.{cases_lt, cases_eq, eq-eqb, eqb-true, ne_eqb}
use Rattle.std.proofs.lemmas.Option.{slice_get-get_or, slice_get_within, get_or_from_slice_get}
use Rattle.std.proofs.lemmas.List.{append-nil, take_all, map-append, length-map, get_or-map, get_or-replicate}
use Rattle.std.proofs.lemmas.List.Elements.{filter-append, All-get_or}
use Rattle.std.proofs.Math.Seq.{take-suc}
use Rattle.value_order.specs.declared.order.Order.{Order}
use Rattle.value_order.specs.Order.{meet_of}
use Rattle.graph_core.specs.declared.fragment.Route.{Route}
use Rattle.message_buffer.specs.BufferValues.{BufferValues}
use Rattle.message_buffer.specs.Buffers.{with_batch, with_post}
use Rattle.token_cut.specs.Parts.{PartValues, part_at}
use Rattle.token_cut.specs.CutValues.{CutValues}
use Rattle.token_cut.specs.Recording.{after_late}
use Rattle.token_cut.specs.Late.{LateValue, late_values, mail_lowered, parts_lowered, lowered_by}
use Rattle.token_cut.proofs.Lowering.{late_values_are_met, late_elsewhere}
use Rattle.base_machine.specs.Machine.{Post, posts_to, values_for, is_empty}
use Rattle.hub_engine.specs.declared.desk.Desk.{Desk}
use Rattle.hub_engine.specs.declared.sender.Sender.{Sender}
use Rattle.hub_engine.specs.Desks.{with_arrival}
use Rattle.hub_engine.specs.Posting.{with_posts, with_more, with_batch_of, posted_from, posted, mirror_counts, LeadToDesks, CanReceive, AllCanReceive, with_mail, mailed_from, mailed, AreBegun, posts_along, CanBegin, is_late_at, late_posts, recorded_with, mails_in, HasMailOf}

-- ---- one desk

pub with_posts-append : (tagged : Bool) (xs ys : List Post) (b : BufferValues) → with_posts tagged ys (with_posts tagged xs b) ≡ with_posts tagged (xs ++ ys) b
with_posts-append tagged [] ys b = refl
with_posts-append tagged (p ∷ xs) ys b = with_posts-append tagged xs ys (with_post tagged p.mirror p.value b)

with_more-append : (tagged : Bool) (xs ys : List Post) (d : Desk) → with_more tagged ys (with_more tagged xs d) ≡ with_more tagged (xs ++ ys) d
with_more-append tagged xs ys d = ap (λ (b : BufferValues). record d { buffer = b }) (with_posts-append tagged xs ys d.buffer)

with_mail-more : (sender : Sender) (begun : Bool) (xs ys : List Post) (d : Desk) → with_mail sender (begun || not (is_empty xs)) ys (with_mail sender begun xs d) ≡ with_mail sender begun (xs ++ ys) d
with_mail-more sender true xs ys d = with_more-append sender.tagged xs ys d
with_mail-more sender false [] ys d = refl
with_mail-more sender false (p ∷ xs) ys d = with_more-append sender.tagged (p ∷ xs) ys (with_arrival sender d)

with_mail-none : (sender : Sender) (begun : Bool) (d : Desk) → with_mail sender begun [] d ≡ d
with_mail-none sender true d = refl
with_mail-none sender false d = refl

pub with_posts-length : (tagged : Bool) (xs : List Post) (b : BufferValues) → length (with_posts tagged xs b).plain ≡ length b.plain
with_posts-length tagged [] b = refl
with_posts-length true (p ∷ xs) b = with_posts-length true xs (with_post true p.mirror p.value b)
with_posts-length false (p ∷ xs) b = with_posts-length false xs (with_post false p.mirror p.value b) ∙ length-set b.plain p.mirror (meet_of b.order (slice_index b.plain p.mirror) p.value)

with_batch-length : (tagged : Bool) (b : BufferValues) → length (with_batch tagged b).plain ≡ length b.plain
with_batch-length true b = refl
with_batch-length false b = refl

with_mail-length : (sender : Sender) (begun : Bool) (xs : List Post) (d : Desk) → length (with_mail sender begun xs d).buffer.plain ≡ length d.buffer.plain
with_mail-length sender true xs d = with_posts-length sender.tagged xs d.buffer
with_mail-length sender false [] d = refl
with_mail-length sender false (p ∷ xs) d = with_posts-length sender.tagged (p ∷ xs) (with_arrival sender d).buffer ∙ with_batch-length sender.tagged d.buffer

-- ---- all desks

pub mailed_from-more : (sender : Sender) (k : ℕ) (before begun : List Bool) (xs ys : ℕ → List Post) (desks : List Desk) → AreBegun before xs begun → k + length desks ≤ 64 →
    mailed_from sender k begun ys (mailed_from sender k before xs desks) ≡ mailed_from sender k before (λ j. xs j ++ ys j) desks
mailed_from-more sender k before begun xs ys [] h l = refl
mailed_from-more sender k before begun xs ys (d ∷ desks) h l =
    ap (λ (e : Desk). e ∷ mailed_from sender (k + 1) begun ys (mailed_from sender (k + 1) before xs desks))
    (ap (λ t. with_mail sender t (ys k) (with_mail sender (slice_index_or before k false) (xs k) d)) (h k (omega (arith, l))) ∙ with_mail-more sender (slice_index_or before k false) (xs k) (ys k) d)
    ∙ ap (λ l. with_mail sender (slice_index_or before k false) (xs k ++ ys k) d ∷ l) (mailed_from-more sender (k + 1) before begun xs ys desks h (omega (arith, l)))

pub mailed_from-same : (sender : Sender) (k : ℕ) (begun : List Bool) (xs ys : ℕ → List Post) (desks : List Desk) → ((j : ℕ) → xs j ≡ ys j) → mailed_from sender k begun xs desks ≡ mailed_from sender k begun ys desks
mailed_from-same sender k begun xs ys [] h = refl
mailed_from-same sender k begun xs ys (d ∷ desks) h =
    ap (λ l. with_mail sender (slice_index_or begun k false) l d ∷ mailed_from sender (k + 1) begun xs desks) (h k)
    ∙ ap (λ l. with_mail sender (slice_index_or begun k false) (ys k) d ∷ l) (mailed_from-same sender (k + 1) begun xs ys desks h)

pub mailed_from-none : (sender : Sender) (k : ℕ) (begun : List Bool) (xs : ℕ → List Post) (desks : List Desk) → ((j : ℕ) → k ≤ j → xs j ≡ []) → mailed_from sender k begun xs desks ≡ desks
mailed_from-none sender k begun xs [] h = refl
mailed_from-none sender k begun xs (d ∷ desks) h =
    ap (λ (e : Desk). e ∷ mailed_from sender (k + 1) begun xs desks)
    (ap (λ l. with_mail sender (slice_index_or begun k false) l d) (h k (omega arith)) ∙ with_mail-none sender (slice_index_or begun k false) d)
    ∙ ap (λ l. d ∷ l) (mailed_from-none sender (k + 1) begun xs desks (λ j l. h j (omega (arith, l))))

pub mailed_from-counts : (sender : Sender) (k : ℕ) (begun : List Bool) (xs : ℕ → List Post) (desks : List Desk) → mirror_counts (mailed_from sender k begun xs desks) ≡ mirror_counts desks
mailed_from-counts sender k begun xs [] = refl
mailed_from-counts sender k begun xs (d ∷ desks) =
    ap (λ n. n ∷ mirror_counts (mailed_from sender (k + 1) begun xs desks)) (with_mail-length sender (slice_index_or begun k false) (xs k) d)
    ∙ ap (λ l. length d.buffer.plain ∷ l) (mailed_from-counts sender (k + 1) begun xs desks)

-- ---- for whom a batch was begun

is_empty-more : (b : Bool) (xs ys : List Post) → ((b || not (is_empty xs)) || not (is_empty ys)) ≡ (b || not (is_empty (xs ++ ys)))
is_empty-more true xs ys = refl
is_empty-more false [] ys = refl
is_empty-more false (x ∷ xs) ys = refl

begun_more : (a b c : List Bool) (xs ys : ℕ → List Post) → AreBegun a xs b → AreBegun b ys c → AreBegun a (λ j. xs j ++ ys j) c
begun_more a b c xs ys h g k l = g k l ∙ (ap (λ t. t || not (is_empty (ys k))) (h k l) ∙ is_empty-more (slice_index_or a k false) (xs k) (ys k))

begun_same : (a b : List Bool) (xs ys : ℕ → List Post) → ((j : ℕ) → xs j ≡ ys j) → AreBegun a xs b → AreBegun a ys b
begun_same a b xs ys e h k l = h k l ∙ ap (λ l. slice_index_or a k false || not (is_empty l)) (e k)

pub none_begun : (n : ℕ) → 64 ≤ n → AreBegun [] (λ k. []) (replicate n false)
none_begun n h k l = get_or-replicate n k false false (omega (arith, h, l))

-- ---- one post

abbrev alone : Route → ℕ → ℕ → List Post
alone route value k = posts_along k value (route ∷ [])

alone_here : (route : Route) (value : ℕ) → alone route value route.fragment ≡ record { mirror = route.mirror; value = value } ∷ []
alone_here route value = go (route.fragment == route.fragment) (eq-eqb route.fragment route.fragment refl)
  where
    go : (t : Bool) → t ≡ true → map {B = Post} (λ (r : Route). record { mirror = r.mirror; value = value }) (if t then route ∷ [] else []) ≡ record { mirror = route.mirror; value = value } ∷ []
    go true e = refl
    go false e = cc

alone_elsewhere : (route : Route) (value k : ℕ) → k ≢ route.fragment → alone route value k ≡ []
alone_elsewhere route value k h = go (route.fragment == k) refl
  where
    go : (t : Bool) → (route.fragment == k) ≡ t → map {B = Post} (λ (r : Route). record { mirror = r.mirror; value = value }) (if t then route ∷ [] else []) ≡ []
    go true e = absurd (h (sym (eqb-true route.fragment k e)))
    go false e = refl

one_from : (sender : Sender) (k p : ℕ) (begun : List Bool) (route : Route) (value : ℕ) (e : Desk) (desks : List Desk) → k + p ≡ route.fragment → p < length desks →
    slice_set desks p (with_mail sender (slice_index_or begun route.fragment false) (record { mirror = route.mirror; value = value } ∷ []) (slice_index_or desks p e)) ≡ mailed_from sender k begun (alone route value) desks
one_from sender k p begun route value e [] s h = absurd (omega (arith, h))
one_from sender k zero begun route value e (d ∷ desks) s h =
    let here : route.fragment ≡ k = omega (arith, s) in
    let rest = mailed_from-none sender (k + 1) begun (alone route value) desks (λ j l. alone_elsewhere route value j (omega (arith, l, here))) in
    ap (λ n. with_mail sender (slice_index_or begun n false) (record { mirror = route.mirror; value = value } ∷ []) d ∷ desks) here
    ∙ (ap (λ l. with_mail sender (slice_index_or begun k false) l d ∷ desks) (sym (alone_here route value) ∙ ap (alone route value) here)
    ∙ ap (λ l. with_mail sender (slice_index_or begun k false) (alone route value k) d ∷ l) (sym rest))
one_from sender k (suc p) begun route value e (d ∷ desks) s h =
    let there : k ≢ route.fragment = omega (arith, s) in
    ap (λ l. d ∷ l) (one_from sender (k + 1) p begun route value e desks (omega (arith, s)) (omega (arith, h)))
    ∙ ap (λ (x : Desk). x ∷ mailed_from sender (k + 1) begun (alone route value) desks)
    (sym (ap (λ l. with_mail sender (slice_index_or begun k false) l d) (alone_elsewhere route value k there) ∙ with_mail-none sender (slice_index_or begun k false) d))

-- A post leaves one desk with one more post, in a new batch where none was begun for it.
pub one_mailed : (sender : Sender) (begun : List Bool) (route : Route) (value : ℕ) (e : Desk) (desks : List Desk) (d : Desk) → route.fragment < length desks →
    d ≡ with_mail sender (slice_index_or begun route.fragment false) (record { mirror = route.mirror; value = value } ∷ []) (slice_index_or desks route.fragment e) →
    slice_set desks route.fragment d ≡ mailed sender begun (λ k. posts_along k value (route ∷ [])) desks
one_mailed sender begun route value e desks d h s = ap (slice_set desks route.fragment) s ∙ one_from sender 0 route.fragment begun route value e desks (omega arith) h

-- ---- what is late

pub values_for-append : (m : ℕ) (xs ys : List Post) → values_for m (xs ++ ys) ≡ values_for m xs ++ values_for m ys
values_for-append m xs ys =
    ap (λ l. map {B = ℕ} (λ (p : Post). p.value) l) (filter-append (λ (p : Post). p.mirror == m) xs ys)
    ∙ map-append (λ (p : Post). p.value) (filter (λ (p : Post). p.mirror == m) xs) (filter (λ (p : Post). p.mirror == m) ys)

-- whatever came, where it is the same
recorded_by : (f g : ℕ → ℕ → List ℕ) (cut : CutValues) → ((k m : ℕ) → f k m ≡ g k m) → lowered_by f cut ≡ lowered_by g cut
recorded_by f g cut h = λ i. lowered_by (λ k m. h k m i) cut

-- posts after others
pub recorded_more : (sender : Sender) (xs ys : ℕ → List Post) (cut : CutValues) → recorded_with sender ys (recorded_with sender xs cut) ≡ recorded_with sender (λ j. xs j ++ ys j) cut
recorded_more sender xs ys cut =
    late_values_are_met.joined (late_posts sender cut xs) (late_posts sender cut ys) cut
    ∙ recorded_by (λ k m. late_posts sender cut xs k m ++ late_posts sender cut ys k m) (late_posts sender cut (λ j. xs j ++ ys j)) cut (λ k m. go (is_late_at sender cut k) (xs k) (ys k) m)
  where
    go : (b : Bool) (ps qs : List Post) (m : ℕ) → (if b then values_for m ps else []) ++ (if b then values_for m qs else []) ≡ (if b then values_for m (ps ++ qs) else [])
    go true ps qs m = sym (values_for-append m ps qs)
    go false ps qs m = refl

pub recorded_same : (sender : Sender) (xs ys : ℕ → List Post) (cut : CutValues) → ((j : ℕ) → xs j ≡ ys j) → recorded_with sender xs cut ≡ recorded_with sender ys cut
recorded_same sender xs ys cut h =
    recorded_by (late_posts sender cut xs) (late_posts sender cut ys) cut (λ k m. ap (λ ps. if is_late_at sender cut k then values_for m ps else []) (h k))

none_late : (b : Bool) (ps : List ℕ) → ps ≡ [] → (if b then ps else []) ≡ []
none_late true ps h = h
none_late false ps h = refl

pub recorded_none : (sender : Sender) (xs : ℕ → List Post) (cut : CutValues) → ((j : ℕ) → xs j ≡ []) → recorded_with sender xs cut ≡ cut
recorded_none sender xs cut h =
    recorded_by (late_posts sender cut xs) (λ k m. []) cut (λ k m. none_late (is_late_at sender cut k) (values_for m (xs k)) (ap (values_for m) (h k)))
    ∙ late_values_are_met.none cut

-- late values leave how much mail there is
pub mail_length : (o : Order) (m : ℕ) (came : ℕ → List ℕ) (mail : List ℕ) → length (mail_lowered o m came mail) ≡ length mail
mail_length o m came [] = refl
mail_length o m came (x ∷ mail) = let e = mail_length o (m + 1) came mail in omega (arith, e)

mails_stay : (o : Order) (k : ℕ) (came : ℕ → ℕ → List ℕ) (parts : List PartValues) → mails_in (parts_lowered o k came parts) ≡ mails_in parts
mails_stay o k came [] = refl
mails_stay o k came (part ∷ parts) =
    let here = mail_length o 0 (came k) part.mail in
    let rest = mails_stay o (k + 1) came parts in
    λ i. here i ∷ rest i

pub recorded_mails : (sender : Sender) (xs : ℕ → List Post) (cut : CutValues) → mails_in (recorded_with sender xs cut).parts ≡ mails_in cut.parts
recorded_mails sender xs cut = mails_stay cut.order 0 (late_posts sender cut xs) cut.parts

-- one late post
pub late_is_recorded : (sender : Sender) (route : Route) (value : ℕ) (cut : CutValues) → is_late_at sender cut route.fragment ≡ true → after_late route.fragment route.mirror value cut ≡ recorded_with sender (alone route value) cut
late_is_recorded sender route value cut late =
    late_values_are_met.all (l ∷ []) cut
    ∙ recorded_by (λ k m. late_values k m (l ∷ [])) (late_posts sender cut (alone route value)) cut
    (λ k m. elim (cases_eq k route.fragment) [
      | inl e ↦
          let P : ℕ → Type 0 = λ n. late_values n m (l ∷ []) ≡ late_posts sender cut (alone route value) n m in
          subst P (sym e) (here m)
      | inr n ↦
          late_elsewhere l [] k m (ne_eqb route.fragment k (λ e. n (sym e)))
          ∙ sym (none_late (is_late_at sender cut k) (values_for m (alone route value k)) (ap (values_for m) (alone_elsewhere route value k n)))
    ])
  where
    l : LateValue
    l = record { worker = route.fragment; mirror = route.mirror; value = value }

    post : Post
    post = record { mirror = route.mirror; value = value }

    here : (m : ℕ) → late_values route.fragment m (l ∷ []) ≡ late_posts sender cut (alone route value) route.fragment m
    here m =
        ap (λ b. map {B = ℕ} (λ (x : LateValue). x.value) (cond (b && (route.mirror == m)) (l ∷ []) [])) (eq-eqb route.fragment route.fragment refl)
        ∙ (go (route.mirror == m)
        ∙ (ap (values_for m) (sym (alone_here route value)) ∙ ap (λ b. if b then values_for m (alone route value route.fragment) else []) (sym late)))
      where
        go : (c : Bool) → map {B = ℕ} (λ (x : LateValue). x.value) (cond c (l ∷ []) []) ≡ map {B = ℕ} (λ (p : Post). p.value) (cond c (post ∷ []) [])
        go true = refl
        go false = refl

-- a post that isn't late
pub nothing_recorded : (sender : Sender) (route : Route) (value : ℕ) (cut : CutValues) → is_late_at sender cut route.fragment ≡ false → cut ≡ recorded_with sender (alone route value) cut
nothing_recorded sender route value cut late =
    sym (recorded_by (late_posts sender cut (alone route value)) (λ k m. []) cut
    (λ k m. elim (cases_eq k route.fragment) [
      | inl e ↦
          let P : ℕ → Type 0 = λ n. late_posts sender cut (alone route value) n m ≡ [] in
          subst P (sym e) (ap (λ b. if b then values_for m (alone route value route.fragment) else []) late)
      | inr n ↦ none_late (is_late_at sender cut k) (values_for m (alone route value k)) (ap (values_for m) (alone_elsewhere route value k n))
    ])
    ∙ late_values_are_met.none cut)

-- ---- what the calls ask of the recording

pub part_is_there : (parts : List PartValues) (route : Route) → route.mirror < slice_index (mails_in parts) route.fragment → (route.fragment < length parts) × (route.mirror < length (part_at route.fragment parts).mail)
part_is_there parts route h = go parts route.fragment h
  where
    go : (parts : List PartValues) (k : ℕ) → route.mirror < slice_index (mails_in parts) k → (k < length parts) × (route.mirror < length (part_at k parts).mail)
    go [] k h = absurd (omega (arith, h))
    go (part ∷ parts) zero h = (omega arith, h)
    go (part ∷ parts) (suc k) h = let r = go parts k h in let a = r.0 in (omega (arith, a), r.1)

-- ---- what the calls ask of the desks

pub desk_is_there : (desks : List Desk) (route : Route) → route.mirror < slice_index (mirror_counts desks) route.fragment → route.fragment < length desks
desk_is_there desks route h =
    elim (below_cases route.fragment (length desks)) [
      | inl l ↦ l
      | inr g ↦ let z = past_end (mirror_counts desks) route.fragment (let m = length-map desks (λ (d : Desk). length d.buffer.plain) in omega (arith, m, g)) in absurd (omega (arith, z, h))
    ]
  where
    past_end : (xs : List ℕ) (i : ℕ) → length xs ≤ i → slice_index xs i ≡ 0
    past_end [] i h = refl
    past_end (x ∷ xs) zero h = absurd (omega (arith, h))
    past_end (x ∷ xs) (suc i) h = past_end xs i (omega (arith, h))

    below_cases : (a b : ℕ) → (a < b) ⊎ (b ≤ a)
    below_cases a b = cases_lt a b

pub mirrors_there : (desks : List Desk) (i : ℕ) (e : Desk) → i < length desks → slice_index (mirror_counts desks) i ≡ length (slice_index_or desks i e).buffer.plain
mirrors_there desks i e h = get_or-map {X = Desk} {Y = ℕ} (λ (d : Desk). length d.buffer.plain) desks i e 0 h

pub can_begin : (place : ℕ) (begun : List Bool) (desks : List Desk) (i : ℕ) (e : Desk) → CanBegin place begun desks → i < length desks → slice_index_or begun i false ≡ false → CanReceive place (slice_index_or desks i e)
can_begin place begun desks i e room h f = room i (slice_index_or desks i e) (slice_get-get_or desks i e h) f

-- ---- after some posts

-- the desks got these posts, and batches were begun for those that got some; what was late is recorded
pub record AreMailed (sender : Sender) (before : List Bool) (olds : List Desk) (first : CutValues) (posts : ℕ → List Post) (begun : List Bool) (desks : List Desk) (cut : CutValues) : Type 0 where
  pub mail : desks ≡ mailed sender before posts olds
  pub batches : AreBegun before posts begun
  pub late : cut ≡ recorded_with sender posts first

pub mailed_more : (sender : Sender) (before begun begun' : List Bool) (olds desks desks' : List Desk) (first cut cut' : CutValues) (xs ys zs : ℕ → List Post) → AreMailed sender before olds first xs begun desks cut → length olds ≤ 64 →
    desks' ≡ mailed sender begun ys desks → AreBegun begun ys begun' → cut' ≡ recorded_with sender ys cut → ((j : ℕ) → xs j ++ ys j ≡ zs j) → AreMailed sender before olds first zs begun' desks' cut'
mailed_more sender before begun begun' olds desks desks' first cut cut' xs ys zs m few d b r e =
    record {
      late = r ∙ (ap (recorded_with sender ys) m.late ∙ (recorded_more sender xs ys first ∙ recorded_same sender (λ j. xs j ++ ys j) zs first e));
      mail = d ∙ (ap (mailed sender begun ys) m.mail ∙ (mailed_from-more sender 0 before begun xs ys olds m.batches (omega (arith, few)) ∙ mailed_from-same sender 0 before (λ j. xs j ++ ys j) zs olds e));
      batches = begun_same before begun' (λ j. xs j ++ ys j) zs e (begun_more before begun begun' xs ys m.batches b);
    }

pub mailed_counts : (sender : Sender) (before begun : List Bool) (olds desks : List Desk) (first cut : CutValues) (xs : ℕ → List Post) → AreMailed sender before olds first xs begun desks cut → mirror_counts desks ≡ mirror_counts olds
mailed_counts sender before begun olds desks first cut xs m = ap mirror_counts m.mail ∙ mailed_from-counts sender 0 before xs olds

-- the recording has the mail of each desk still
pub mailed_mails : (sender : Sender) (before begun : List Bool) (olds desks : List Desk) (first cut : CutValues) (xs : ℕ → List Post) → AreMailed sender before olds first xs begun desks cut → HasMailOf olds first → HasMailOf desks cut
mailed_mails sender before begun olds desks first cut xs m has going =
    ap (λ (c : CutValues). mails_in c.parts) m.late
    ∙ (recorded_mails sender xs first ∙ (has (sym (ap (λ (c : CutValues). c.recording) m.late) ∙ going) ∙ sym (mailed_counts sender before begun olds desks first cut xs m)))

mailed_at : (sender : Sender) (k i : ℕ) (before : List Bool) (xs : ℕ → List Post) (olds : List Desk) (d : Desk) → slice_get (mailed_from sender k before xs olds) i ≡ Some d →
    (e : Desk) × (slice_get olds i ≡ Some e) × (d ≡ with_mail sender (slice_index_or before (k + i) false) (xs (k + i)) e)
mailed_at sender k i before xs [] d h = cc
mailed_at sender k zero before xs (e ∷ olds) d h =
    let here : k ≡ k + 0 = omega arith in
    let first : with_mail sender (slice_index_or before k false) (xs k) e ≡ d = cc in
    (e, refl, sym first ∙ ap (λ n. with_mail sender (slice_index_or before n false) (xs n) e) here)
mailed_at sender k (suc i) before xs (e ∷ olds) d h =
    let there : k + 1 + i ≡ k + suc i = omega arith in
    let rest = mailed_at sender (k + 1) i before xs olds d h in
    (rest.0, rest.1, rest.2 ∙ ap (λ n. with_mail sender (slice_index_or before n false) (xs n) rest.0) there)

not_begun : (sender : Sender) (b : Bool) (xs : List Post) (d : Desk) → (b || not (is_empty xs)) ≡ false → (b ≡ false) × (with_mail sender b xs d ≡ d)
not_begun sender true xs d h = cc
not_begun sender false [] d h = (refl, refl)
not_begun sender false (x ∷ xs) d h = cc

pub mailed_can_begin : (sender : Sender) (before begun : List Bool) (olds desks : List Desk) (first cut : CutValues) (xs : ℕ → List Post) → AreMailed sender before olds first xs begun desks cut → length olds ≤ 64 → CanBegin sender.place before olds → CanBegin sender.place begun desks
mailed_can_begin sender before begun olds desks first cut xs m few room k d there no_batch =
    let at = mailed_at sender 0 k before xs olds d (ap (λ l. slice_get l k) (sym m.mail) ∙ there) in
    let n : 0 + k ≡ k = omega arith in
    let same = at.2 ∙ ap (λ j. with_mail sender (slice_index_or before j false) (xs j) at.0) n in
    let within = slice_get_within olds k at.0 at.1 in
    let both = not_begun sender (slice_index_or before k false) (xs k) at.0 (sym (m.batches k (omega (arith, within, few))) ∙ no_batch) in
    subst (CanReceive sender.place) (sym (same ∙ both.1)) (room k at.0 at.1 both.0)

-- ---- along a row, and over the rows

pub along_more : (k value : ℕ) (row : List Route) (i : ℕ) (d : Route) → i < length row →
    posts_along k value (take i row) ++ posts_along k value (slice_index_or row i d ∷ []) ≡ posts_along k value (take (i + 1) row)
along_more k value row i d h =
    let r = slice_index_or row i d in
    let next : take (i + 1) row ≡ take i row ++ r ∷ [] = ap (λ n. take n row) (add-one i) ∙ take-suc row i d h in
    sym (ap (posts_along k value) next
    ∙ (ap (λ l. map {B = Post} (λ (t : Route). record { mirror = t.mirror; value = value }) l) (filter-append (λ (t : Route). t.fragment == k) (take i row) (r ∷ []))
    ∙ map-append (λ (t : Route). record { mirror = t.mirror; value = value }) (filter (λ (t : Route). t.fragment == k) (take i row)) (filter (λ (t : Route). t.fragment == k) (r ∷ []))))

pub none_mailed : (sender : Sender) (before : List Bool) (olds : List Desk) (first : CutValues) (xs : ℕ → List Post) → ((j : ℕ) → xs j ≡ []) → AreMailed sender before olds first xs before olds first
none_mailed sender before olds first xs h =
    record {
      late = sym (recorded_none sender xs first h);
      mail = sym (mailed_from-none sender 0 before xs olds (λ j l. h j));
      batches = λ k l. or_false (slice_index_or before k false) (xs k) (h k);
    }
  where
    or_false : (b : Bool) (ps : List Post) → ps ≡ [] → b ≡ (b || not (is_empty ps))
    or_false true ps e = refl
    or_false false [] e = refl
    or_false false (p ∷ ps) e = cc

pub leads_at : (desks olds : List Desk) (row : List Route) (i : ℕ) (d : Route) → All (λ r. r.mirror < slice_index (mirror_counts olds) r.fragment) row → i < length row → mirror_counts desks ≡ mirror_counts olds →
    (slice_index_or row i d).mirror < slice_index (mirror_counts desks) (slice_index_or row i d).fragment
leads_at desks olds row i d all h e =
    subst (λ (l : List ℕ). (slice_index_or row i d).mirror < slice_index l (slice_index_or row i d).fragment) (sym e) (All-get_or (λ r. r.mirror < slice_index (mirror_counts olds) r.fragment) row i d h all)

-- posts of one place more
pub rows_more : (k : ℕ) (old new : List ℕ) (routes : List (List Route)) (p : ℕ) → p < length routes → p < length old → p < length new →
    posts_to k old new (take p routes) ++ (if slice_index old p == slice_index new p then [] else posts_along k (slice_index new p) (slice_index_or routes p [])) ≡ posts_to k old new (take (suc p) routes)
rows_more k old new [] p h l m = absurd (omega (arith, h))
rows_more k [] new (r ∷ routes) p h l m = absurd (omega (arith, l))
rows_more k (a ∷ old) [] (r ∷ routes) p h l m = absurd (omega (arith, m))
rows_more k (a ∷ old) (b ∷ new) (r ∷ routes) zero h l m = first (if a == b then [] else posts_along k b r) (posts_to_none old new)
  where
    posts_to_none : (old new : List ℕ) → posts_to k old new [] ≡ []
    posts_to_none old new = refl

    first : (ps : List Post) → posts_to k old new [] ≡ [] → ps ≡ ps ++ posts_to k old new []
    first ps e = sym (append-nil ps)
rows_more k (a ∷ old) (b ∷ new) (r ∷ routes) (suc p) h l m =
    let here = if a == b then [] else posts_along k b r in
    append_assoc here (posts_to k old new (take p routes)) (if slice_index old p == slice_index new p then [] else posts_along k (slice_index new p) (slice_index_or routes p []))
    ∙ ap (λ l. here ++ l) (rows_more k old new routes p (omega (arith, h)) (omega (arith, l)) (omega (arith, m)))

pub changed_row : (k : ℕ) (old new : List ℕ) (routes : List (List Route)) (p : ℕ) → p < length routes → p < length old → p < length new → slice_index old p ≢ slice_index new p →
    posts_to k old new (take p routes) ++ posts_along k (slice_index new p) (slice_index_or routes p []) ≡ posts_to k old new (take (p + 1) routes)
changed_row k old new routes p h l m n =
    ap (λ t. posts_to k old new (take p routes) ++ (if t then [] else posts_along k (slice_index new p) (slice_index_or routes p []))) (sym (ne_eqb (slice_index old p) (slice_index new p) n))
    ∙ (rows_more k old new routes p h l m ∙ ap (λ n. posts_to k old new (take n routes)) (sym (add-one p)))

pub same_row : (k : ℕ) (old new : List ℕ) (routes : List (List Route)) (p : ℕ) → p < length routes → p < length old → p < length new → slice_index old p ≡ slice_index new p →
    posts_to k old new (take p routes) ++ [] ≡ posts_to k old new (take (p + 1) routes)
same_row k old new routes p h l m e =
    ap (λ t. posts_to k old new (take p routes) ++ (if t then [] else posts_along k (slice_index new p) (slice_index_or routes p []))) (sym (eq-eqb (slice_index old p) (slice_index new p) e))
    ∙ (rows_more k old new routes p h l m ∙ ap (λ n. posts_to k old new (take n routes)) (sym (add-one p)))

-- nothing was sent
pub mailed_same : (sender : Sender) (before begun : List Bool) (olds desks : List Desk) (first cut : CutValues) (xs zs : ℕ → List Post) → AreMailed sender before olds first xs begun desks cut → ((j : ℕ) → xs j ++ [] ≡ zs j) → AreMailed sender before olds first zs begun desks cut
mailed_same sender before begun olds desks first cut xs zs m e =
    let same : (j : ℕ) → xs j ≡ zs j = λ j. sym (append-nil (xs j)) ∙ e j in
    record { mail = m.mail ∙ mailed_from-same sender 0 before xs zs olds same; batches = begun_same before begun xs zs same m.batches; late = m.late ∙ recorded_same sender xs zs first same }

-- at the start no batch is begun, and at the end the posts of all places were sent
pub mail_begins : (sender : Sender) (olds : List Desk) (first : CutValues) (xs : ℕ → List Post) (begun : List Bool) → begun ≡ replicate 64 false → ((j : ℕ) → xs j ≡ []) → AreMailed sender [] olds first xs begun olds first
mail_begins sender olds first xs begun e h =
    record {
      late = sym (recorded_none sender xs first h);
      mail = sym (mailed_from-none sender 0 [] xs olds (λ j l. h j));
      batches = λ k l. ap (λ (b : List Bool). slice_index_or b k false) e ∙ (none_begun 64 (omega arith) k l ∙ ap (λ (ps : List Post). not (is_empty ps)) (sym (h k)));
    }

posted_is_mailed : (sender : Sender) (k : ℕ) (old new : List ℕ) (routes : List (List Route)) (desks : List Desk) → mailed_from sender k [] (λ j. posts_to j old new routes) desks ≡ posted_from sender k old new routes desks
posted_is_mailed sender k old new routes [] = refl
posted_is_mailed sender k old new routes (d ∷ desks) = ap (λ l. with_batch_of sender (posts_to k old new routes) d ∷ l) (posted_is_mailed sender (k + 1) old new routes desks)

-- all posts are late where they are
pub late_ends : (sender : Sender) (old new : List ℕ) (routes : List (List Route)) (n : ℕ) (olds desks : List Desk) (first cut : CutValues) (begun : List Bool) →
    AreMailed sender [] olds first (λ j. posts_to j old new (take n routes)) begun desks cut → length routes ≡ n → cut ≡ recorded_with sender (λ j. posts_to j old new routes) first
late_ends sender old new routes n olds desks first cut begun m e =
    m.late ∙ recorded_same sender (λ j. posts_to j old new (take n routes)) (λ j. posts_to j old new routes) first (λ j. ap (posts_to j old new) (take_all n routes (omega (arith, e))))

pub mail_ends : (sender : Sender) (old new : List ℕ) (routes : List (List Route)) (n : ℕ) (olds desks : List Desk) (first cut : CutValues) (begun : List Bool) →
    AreMailed sender [] olds first (λ j. posts_to j old new (take n routes)) begun desks cut → length routes ≡ n → desks ≡ posted sender old new routes olds
mail_ends sender old new routes n olds desks first cut begun m e =
    m.mail
    ∙ (mailed_from-same sender 0 [] (λ j. posts_to j old new (take n routes)) (λ j. posts_to j old new routes) olds (λ j. ap (posts_to j old new) (take_all n routes (omega (arith, e))))
    ∙ posted_is_mailed sender 0 old new routes olds)

pub can_receive : (place : ℕ) (desks : List Desk) → AllCanReceive place desks → CanBegin place [] desks
can_receive place desks room k d there f =
    subst (CanReceive place) (get_or_from_slice_get desks k d d there) (All-get_or (CanReceive place) desks k d (slice_get_within desks k d there) room)

pub row_leads : (routes : List (List Route)) (desks olds : List Desk) (p : ℕ) → LeadToDesks routes olds → p < length routes → mirror_counts desks ≡ mirror_counts olds →
    All (λ r. r.mirror < slice_index (mirror_counts desks) r.fragment) (slice_index_or routes p [])
row_leads routes desks olds p lead h e =
    subst (λ (l : List ℕ). All (λ (r : Route). r.mirror < slice_index l r.fragment) (slice_index_or routes p [])) (sym e)
    (All-get_or (λ row. All (λ (r : Route). r.mirror < slice_index (mirror_counts olds) r.fragment) row) routes p [] h lead)

pub row_mailed : (sender : Sender) (old new : List ℕ) (routes : List (List Route)) (p value : ℕ) (row : List Route) (olds desks desks' : List Desk) (first cut cut' : CutValues) (begun begun' : List Bool) →
    AreMailed sender [] olds first (λ j. posts_to j old new (take p routes)) begun desks cut → length olds ≤ 64 → p < length old → length routes ≡ length old → length old ≤ length new →
    value ≡ slice_index new p → row ≡ slice_index_or routes p [] → slice_index old p ≢ slice_index new p →
    desks' ≡ mailed sender begun (λ j. posts_along j value row) desks → AreBegun begun (λ j. posts_along j value row) begun' → cut' ≡ recorded_with sender (λ j. posts_along j value row) cut →
    AreMailed sender [] olds first (λ j. posts_to j old new (take (p + 1) routes)) begun' desks' cut'
row_mailed sender old new routes p value row olds desks desks' first cut cut' begun begun' m few l r n ev er d mail batches late =
    mailed_more sender [] begun begun' olds desks desks' first cut cut' _ (λ j. posts_along j value row) (λ j. posts_to j old new (take (p + 1) routes)) m few mail batches late
    (λ j.
    ap (λ v. posts_to j old new (take p routes) ++ posts_along j v row) ev
    ∙ (ap (λ q. posts_to j old new (take p routes) ++ posts_along j (slice_index new p) q) er
    ∙ changed_row j old new routes p (omega (arith, r, l)) l (omega (arith, l, n)) d))

pub row_left : (sender : Sender) (old new : List ℕ) (routes : List (List Route)) (p : ℕ) (olds desks desks' : List Desk) (first cut cut' : CutValues) (begun begun' : List Bool) →
    AreMailed sender [] olds first (λ j. posts_to j old new (take p routes)) begun desks cut → p < length old → length routes ≡ length old → length old ≤ length new →
    slice_index old p ≡ slice_index new p → desks' ≡ desks → begun' ≡ begun → cut' ≡ cut → AreMailed sender [] olds first (λ j. posts_to j old new (take (p + 1) routes)) begun' desks' cut'
row_left sender old new routes p olds desks desks' first cut cut' begun begun' m l r n e ed eb ec =
    let zs = λ (j : ℕ). posts_to j old new (take (p + 1) routes) in
    let same = mailed_same sender [] begun olds desks first cut _ zs m (λ j. same_row j old new routes p (omega (arith, r, l)) l (omega (arith, l, n)) e) in
    record {
      mail = ed ∙ same.mail;
      batches = λ k h. ap (λ (b : List Bool). slice_index_or b k false) eb ∙ same.batches k h;
      late = ec ∙ same.late;
    }
