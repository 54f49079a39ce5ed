-- What is recorded after a Give.
use Rattle.std.proofs.Common.{◌≡◌, ℕ, zero, suc, ◌+◌, ◌<◌, ◌≤◌, Bool, true, false, not, ◌==◌, ◌&&◌, nat_lt, cond, if◌then◌else◌, IsTrue, refl, sym, ◌∙◌, ap, subst, arith, List, [], ◌∷◌, length, map, slice_index_or}
use Rattle.std.proofs.lemmas.Bool.{eqb-true, false≢true, lt-ltb}
use Rattle.std.proofs.lemmas.List.FromFn.{get_or-map-range_with_len}
use Rattle.std.proofs.lemmas.List.Sums.{sum_by-cons}
use Rattle.value_order.specs.declared.order.Order.{Order}
use Rattle.value_order.specs.Order.{meet_all}
use Rattle.graph_core.specs.Fragments.{Piece, piece_at, places}
use Rattle.grape_event.specs.declared.event.Event.{Event}
use Rattle.grape_event.specs.declared.event.Event.TheVariants.{Take, Give, Stretch, Hold, Flag, Ask, Ack, Nack, Begin, Mark, Seal, Kept, End, Stop}
use Rattle.grape_event.specs.Events.{is_give_of}
use Rattle.token_cut.specs.Parts.{PartValues, part_at}
use Rattle.token_cut.specs.CutValues.{CutValues}
use Rattle.token_cut.specs.Recording.{is_marked}
use Rattle.token_cut.specs.Shapes.{sizes_of}
use Rattle.token_cut.specs.Late.{mail_lowered, part_lowered, parts_lowered}
use Rattle.token_cut.proofs.Lowering.{part_none}
use Rattle.base_machine.specs.Machine.{System, Post, worker_at, values_for, sent_to}
use Rattle.legal_journal.specs.Past.{gives_of, gives_before_mark, recording_is_open, is_tagged}
use Rattle.legal_journal.specs.Past.{is_marked as was_marked}
use Rattle.legal_journal.specs.Legal.{State, worker_count, state_after, no_part, mail_with, is_late, recorded_with_late}
use Rattle.hub_engine.specs.declared.sender.Sender.{Sender}
use Rattle.hub_engine.specs.Desks.{CutFits}
use Rattle.hub_engine.specs.Posting.{is_late_at, late_posts, recorded_with, mails_in}
use Rattle.hub_engine.proofs.Mailing.{mail_length}

-- ---- a batch's class

gives_more : (j : ℕ) (e : Event) (past : List Event) → gives_of j past ≤ gives_of j (e ∷ past)
gives_more j e past = let k = sum_by-cons (λ x. cond (is_give_of j x) 1 0) e past in omega (arith, k)

-- a Mark comes after no more Gives than there are
marks_between : (j : ℕ) (past : List Event) → gives_before_mark j past ≤ gives_of j past
marks_between j [] = omega arith
marks_between j (Mark i ∷ past) = go (j == i) (marks_between j past)
  where
    go : (b : Bool) → gives_before_mark j past ≤ gives_of j past → (if b then gives_of j past else gives_before_mark j past) ≤ gives_of j (Mark i ∷ past)
    go true h = gives_more j (Mark i) past
    go false h = let a = gives_more j (Mark i) past in omega (arith, a, h)
marks_between j (Take i k ∷ past) = let a = gives_more j (Take i k) past in let b = marks_between j past in omega (arith, a, b)
marks_between j (Give i ∷ past) = let a = gives_more j (Give i) past in let b = marks_between j past in omega (arith, a, b)
marks_between j (Stretch i t ∷ past) = let a = gives_more j (Stretch i t) past in let b = marks_between j past in omega (arith, a, b)
marks_between j (Hold i ∷ past) = let a = gives_more j (Hold i) past in let b = marks_between j past in omega (arith, a, b)
marks_between j (Flag i ∷ past) = let a = gives_more j (Flag i) past in let b = marks_between j past in omega (arith, a, b)
marks_between j (Ask ∷ past) = let a = gives_more j Ask past in let b = marks_between j past in omega (arith, a, b)
marks_between j (Ack i ∷ past) = let a = gives_more j (Ack i) past in let b = marks_between j past in omega (arith, a, b)
marks_between j (Nack i ∷ past) = let a = gives_more j (Nack i) past in let b = marks_between j past in omega (arith, a, b)
marks_between j (Begin e ∷ past) = let a = gives_more j (Begin e) past in let b = marks_between j past in omega (arith, a, b)
marks_between j (Seal e ∷ past) = let a = gives_more j (Seal e) past in let b = marks_between j past in omega (arith, a, b)
marks_between j (Kept e ∷ past) = let a = gives_more j (Kept e) past in let b = marks_between j past in omega (arith, a, b)
marks_between j (End ∷ past) = let a = gives_more j End past in let b = marks_between j past in omega (arith, a, b)
marks_between j (Stop c ∷ past) = let a = gives_more j (Stop c) past in let b = marks_between j past in omega (arith, a, b)

-- The batches of a Give are tagged exactly where a recording is open in which its worker is marked.
pub tag_is : (sys : System) (s : State) (cut : CutValues) (i number : ℕ) → CutFits sys s cut → i < worker_count s → gives_of i s.past < number → (cut.recording && is_marked i cut) ≡ is_tagged i number s.past
tag_is sys s cut i number fits h more =
    go cut.recording (is_marked i cut) refl refl
  where
    after : gives_before_mark i s.past < number
    after = let a = marks_between i s.past in omega (arith, a, more)

    both : (b : Bool) → b ≡ (b && nat_lt (gives_before_mark i s.past) number)
    both true = sym (lt-ltb (gives_before_mark i s.past) number after)
    both false = refl

    go : (r m : Bool) → cut.recording ≡ r → is_marked i cut ≡ m → (r && m) ≡ is_tagged i number s.past
    go false m on is = ap (λ b. b && was_marked i s.past && nat_lt (gives_before_mark i s.past) number) (sym on ∙ fits.recording)
    go true m on is =
        sym is
        ∙ (fits.marked on i h
        ∙ (both (was_marked i s.past) ∙ ap (λ b. b && was_marked i s.past && nat_lt (gives_before_mark i s.past) number) (sym on ∙ fits.recording)))

-- ---- lists of parts

mail_is : (o : Order) (m : ℕ) (posts : List Post) (xs : List ℕ) → mail_lowered o m (λ q. values_for q posts) xs ≡ mail_with o m posts xs
mail_is o m posts [] = refl
mail_is o m posts (x ∷ xs) = ap (λ l. meet_all o x (values_for m posts) ∷ l) (mail_is o (m + 1) posts xs)

sizes_stay : (o : Order) (k : ℕ) (came : ℕ → ℕ → List ℕ) (parts : List PartValues) → sizes_of (parts_lowered o k came parts) ≡ sizes_of parts
sizes_stay o k came [] = refl
sizes_stay o k came (part ∷ parts) =
    let here = mail_length o 0 (came k) part.mail in
    let rest = sizes_stay o (k + 1) came parts in
    λ i. (length part.values, here i) ∷ rest i

lowered_at : (o : Order) (a k : ℕ) (came : ℕ → ℕ → List ℕ) (parts : List PartValues) → part_at k (parts_lowered o a came parts) ≡ part_lowered o (came (a + k)) (part_at k parts)
lowered_at o a k came [] = refl
lowered_at o a zero came (part ∷ parts) = let z : a ≡ a + 0 = omega arith in ap (λ n. part_lowered o (came n) part) z
lowered_at o a (suc k) came (part ∷ parts) = let z : a + 1 + k ≡ a + suc k = omega arith in lowered_at o (a + 1) k came parts ∙ ap (λ n. part_lowered o (came n) (part_at k parts)) z

-- ---- after a Give

module _ (sys : System) (s : State) (cut : CutValues) (i : ℕ) (sender : Sender) (posts : ℕ → List Post) (fits : CutFits sys s cut) (inside : i < worker_count s) (tag : sender.tagged ≡ (cut.recording && is_marked i cut))
    (sends : (k : ℕ) → k < worker_count s → posts k ≡ sent_to sys (piece_at sys.pieces i) (worker_at s.workers i) k) (long : worker_count (state_after sys s (Give i)) ≡ worker_count s) where
  late_here : IsTrue cut.recording → (k : ℕ) → k < worker_count s → is_late_at sender cut k ≡ is_late s i k
  late_here on k h =
      ap (λ t. cut.recording && is_marked k cut && not t) tag
      ∙ (ap (λ r. r && is_marked k cut && not (r && is_marked i cut)) on
      ∙ (ap (λ m. m && not (is_marked i cut)) (fits.marked on k h)
      ∙ (ap (λ m. was_marked k s.past && not m) (fits.marked on i inside) ∙ ap (λ r. r && was_marked k s.past && not (was_marked i s.past)) (sym on ∙ fits.recording))))

  none_of_itself : (k : ℕ) → (k == i) ≡ true → is_late s i k ≡ false
  none_of_itself k e =
      let P : ℕ → Type 0 = λ q. is_late s q k ≡ false in
      subst P (eqb-true k i e) (go (recording_is_open s.past) (was_marked k s.past))
    where
      go : (r m : Bool) → (r && m && not m) ≡ false
      go true true = refl
      go true false = refl
      go false true = refl
      go false false = refl

  part_after : (k : ℕ) (part : PartValues) (ps : List Post) (same late : Bool) → (same ≡ true → late ≡ false) →
      part_lowered sys.equations.order (λ m. if late then values_for m ps else []) part ≡ (if not same && late then record part { mail = mail_with sys.equations.order 0 ps part.mail } else part)
  part_after k part ps true true h = absurd (false≢true (sym (h refl)))
  part_after k part ps true false h = part_none sys.equations.order part
  part_after k part ps false true h = ap (λ l. record part { mail = l }) (mail_is sys.equations.order 0 ps part.mail)
  part_after k part ps false false h = part_none sys.equations.order part

  recorded_part : IsTrue cut.recording → (k : ℕ) → k < worker_count s → IsTrue (was_marked k s.past) → part_at k (recorded_with sender posts cut).parts ≡ slice_index_or (state_after sys s (Give i)).recorded k no_part
  recorded_part on k h marked =
      let o = sys.equations.order in
      let part = slice_index_or s.recorded k no_part in
      let z : 0 + k ≡ k = omega arith in
      lowered_at cut.order 0 k (late_posts sender cut posts) cut.parts
      ∙ (ap (λ n. part_lowered cut.order (late_posts sender cut posts n) (part_at k cut.parts)) z
      ∙ (ap (λ (x : Order). part_lowered x (late_posts sender cut posts k) (part_at k cut.parts)) fits.order
      ∙ (ap (λ (p : PartValues). part_lowered o (late_posts sender cut posts k) p) (fits.parts on k h marked)
      ∙ (ap (λ b. part_lowered o (λ m. if b then values_for m (posts k) else []) part) (late_here on k h)
      ∙ (ap (λ ps. part_lowered o (λ m. if is_late s i k then values_for m ps else []) part) (sends k h)
      ∙ (part_after k part (sent_to sys (piece_at sys.pieces i) (worker_at s.workers i) k) (k == i) (is_late s i k) (none_of_itself k)
      ∙ sym (get_or-map-range_with_len (recorded_with_late sys s i) 0 (worker_count s) k k no_part h (omega arith))))))))

  pub recorded_fits : CutFits sys (state_after sys s (Give i)) (recorded_with sender posts cut)
  recorded_fits = record {
    order = fits.order;
    sizes = λ some. sizes_stay cut.order 0 (late_posts sender cut posts) cut.parts ∙ fits.sizes some;
    asked = fits.asked;
    recording = fits.recording;
    epoch = fits.epoch;
    marks = λ on. fits.marks on ∙ sym long;
    marked = λ on k h. fits.marked on k (omega (arith, h, long));
    parts = λ on k h marked. recorded_part on k (omega (arith, h, long)) marked;
  }

-- ---- how much mail the recording has

abbrev second : ℕ × ℕ → ℕ
second p = p.1

mails_by_size : (parts : List PartValues) → mails_in parts ≡ map second (sizes_of parts)
mails_by_size [] = refl
mails_by_size (part ∷ parts) = ap (λ l. length part.mail ∷ l) (mails_by_size parts)

mirrors_by_size : (pieces : List Piece) → map second (map (λ (piece : Piece). (length (places piece), length piece.mirrors)) pieces) ≡ map (λ (piece : Piece). length piece.mirrors) pieces
mirrors_by_size [] = refl
mirrors_by_size (piece ∷ pieces) = ap (λ l. length piece.mirrors ∷ l) (mirrors_by_size pieces)

pub mails_are : (sys : System) (s : State) (cut : CutValues) → CutFits sys s cut → IsTrue cut.recording → mails_in cut.parts ≡ map (λ (piece : Piece). length piece.mirrors) sys.pieces
mails_are sys s cut fits on = mails_by_size cut.parts ∙ (ap (map second) (fits.sizes (fits.asked on)) ∙ mirrors_by_size sys.pieces)
