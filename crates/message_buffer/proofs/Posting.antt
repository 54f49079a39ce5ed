-- What is posted and folded step by step.
use Rattle.std.proofs.Common.{◌≡◌, ℕ, ◌+◌, ◌<◌, Bool, true, false, not, ◌&&◌, if◌then◌else◌, ◌==◌, List, [], ◌∷◌, length, replicate, slice_index, slice_set, ap, sym, ◌∙◌, refl, arith}
use Rattle.std.proofs.lemmas.List.{length-set, length-replicate, get_or-replicate, get_or-set_same, get_or-set_other}
use Rattle.std.proofs.lemmas.Bool.{eqb-true, eqb-false}
use Rattle.value_order.specs.declared.order.Order.{Order}
use Rattle.value_order.specs.declared.TheConstants.{NOTHING}
use Rattle.value_order.specs.Order.{meet_of, meet_all}
use Rattle.message_buffer.specs.BufferValues.{BufferValues}
use Rattle.message_buffer.specs.Buffers.{new_buffer, with_batch, with_post, folded, all_waiting}
use Rattle.message_buffer.proofs.Meeting.{meet-assoc, meet-turn, meet-nothing, meet-neutral}
use Rattle.message_buffer.proofs.Places.{meets_of-length, meets_of-at}
use Rattle.message_buffer.proofs.Waiting.{both_met, both_counted, both_waiting}
use Rattle.message_buffer.specs.Posted.{Step, Begins, Posts, Folds, after_step, after_steps, same_class, has_fold, values_posted, batches_begun, all_values_posted, HasPosted}

-- ---- the order and the lengths

step-order : (b : BufferValues) (step : Step) → (after_step b step).order ≡ b.order
step-order b (Begins true) = refl
step-order b (Begins false) = refl
step-order b (Posts true mirror value) = refl
step-order b (Posts false mirror value) = refl
step-order b Folds = refl

steps-order : (b : BufferValues) (steps : List Step) → (after_steps b steps).order ≡ b.order
steps-order b [] = refl
steps-order b (step ∷ steps) = steps-order (after_step b step) steps ∙ step-order b step

-- a buffer for so many mirrors
record IsFor (mirrors : ℕ) (b : BufferValues) : Type 0 where
  plain : length b.plain ≡ mirrors
  tagged : length b.tagged ≡ mirrors

step-mirrors : (n : ℕ) (b : BufferValues) (step : Step) → IsFor n b → IsFor n (after_step b step)
step-mirrors n b (Begins true) f = record { plain = f.plain; tagged = f.tagged }
step-mirrors n b (Begins false) f = record { plain = f.plain; tagged = f.tagged }
step-mirrors n b (Posts true k value) f = record { plain = f.plain; tagged = length-set b.tagged k (meet_of b.order (slice_index b.tagged k) value) ∙ f.tagged }
step-mirrors n b (Posts false k value) f = record { plain = length-set b.plain k (meet_of b.order (slice_index b.plain k) value) ∙ f.plain; tagged = f.tagged }
step-mirrors n b Folds f = record { plain = meets_of-length b.order n b.plain b.tagged f.plain f.tagged; tagged = length-replicate (length b.plain) NOTHING ∙ f.plain }

steps-mirrors : (n : ℕ) (b : BufferValues) (steps : List Step) → IsFor n b → IsFor n (after_steps b steps)
steps-mirrors n b [] f = f
steps-mirrors n b (step ∷ steps) f = steps-mirrors n (after_step b step) steps (step-mirrors n b step f)

-- ---- the values

-- the value of a class at a mirror
abbrev pub value_at : Bool → ℕ → BufferValues → ℕ
value_at true m b = slice_index b.tagged m
value_at false m b = slice_index b.plain m

-- what a class has of an untagged and a tagged value, where a fold comes or none
abbrev pub left_of : Bool → Bool → Order → ℕ → ℕ → ℕ
left_of true false o plain tagged = tagged
left_of true true o plain tagged = NOTHING
left_of false false o plain tagged = plain
left_of false true o plain tagged = meet_of o plain tagged

-- what a class has at a mirror after later steps with a fold or without, before what they post
abbrev pub left_at : Bool → Bool → ℕ → BufferValues → ℕ
left_at c fold m b = left_of c fold b.order (slice_index b.plain m) (slice_index b.tagged m)

-- a mirror of the buffer, whose untagged value NOTHING doesn't lower
record IsMirror (m : ℕ) (b : BufferValues) : Type 0 where
  plain : m < length b.plain
  tagged : m < length b.tagged
  neutral : meet_of b.order (slice_index b.plain m) NOTHING ≡ slice_index b.plain m

-- a list in which one value is met with another one, read at a place
met_at : (o : Order) (xs : List ℕ) (k m value : ℕ) (r : Bool) → (k == m) ≡ r → m < length xs → slice_index (slice_set xs k (meet_of o (slice_index xs k) value)) m ≡ (if r then meet_of o (slice_index xs m) value else slice_index xs m)
met_at o xs k m value true e h =
    ap (λ p. slice_index (slice_set xs p (meet_of o (slice_index xs p) value)) m) (eqb-true k m e) ∙ get_or-set_same xs m (meet_of o (slice_index xs m) value) 0 h
met_at o xs k m value false e h = get_or-set_other xs k m (meet_of o (slice_index xs k) value) 0 (λ f. eqb-false k m e (sym f))

-- a post moves from the buffer to the later values
meet-posted : (o : Order) (f : ℕ → ℕ) (x y value : ℕ) (later : List ℕ) (r : Bool) → y ≡ (if r then meet_of o x value else x) → f (meet_of o x value) ≡ meet_of o (f x) value → meet_all o (f y) later ≡ meet_all o (f x) (if r then value ∷ later else later)
meet-posted o f x y value later true e h = ap (λ n. meet_all o n later) (ap f e ∙ h)
meet-posted o f x y value later false e h = ap (λ n. meet_all o (f n) later) e

post-value : (c tagged fold : Bool) (b : BufferValues) (k m value : ℕ) (later : List ℕ) → IsMirror m b → meet_all b.order (left_at c fold m (with_post tagged k value b)) later ≡ meet_all b.order (left_at c fold m b) (if same_class c (tagged && not fold) && (k == m) then value ∷ later else later)
post-value true true true b k m value later i = refl
post-value true true false b k m value later i =
    meet-posted b.order (λ x. x) (slice_index b.tagged m) (value_at true m (with_post true k value b)) value later (k == m) (met_at b.order b.tagged k m value (k == m) refl i.tagged) refl
post-value true false true b k m value later i = refl
post-value true false false b k m value later i = refl
post-value false true true b k m value later i =
    meet-posted b.order (meet_of b.order (slice_index b.plain m)) (slice_index b.tagged m) (value_at true m (with_post true k value b)) value later (k == m) (met_at b.order b.tagged k m value (k == m) refl i.tagged)
    (sym (meet-assoc b.order (slice_index b.plain m) (slice_index b.tagged m) value))
post-value false true false b k m value later i = refl
post-value false false true b k m value later i =
    meet-posted b.order (λ x. meet_of b.order x (slice_index b.tagged m)) (slice_index b.plain m) (value_at false m (with_post false k value b)) value later (k == m) (met_at b.order b.plain k m value (k == m) refl i.plain)
    (meet-turn b.order (slice_index b.plain m) value (slice_index b.tagged m))
post-value false false false b k m value later i =
    meet-posted b.order (λ x. x) (slice_index b.plain m) (value_at false m (with_post false k value b)) value later (k == m) (met_at b.order b.plain k m value (k == m) refl i.plain) refl

-- a fold leaves the meet of both classes untagged, and nothing tagged
fold-plain : (m : ℕ) (b : BufferValues) → IsMirror m b → value_at false m (folded b) ≡ meet_of b.order (slice_index b.plain m) (slice_index b.tagged m)
fold-plain m b i = meets_of-at b.order b.plain b.tagged m i.plain i.tagged

fold-tagged : (m : ℕ) (b : BufferValues) → IsMirror m b → value_at true m (folded b) ≡ NOTHING
fold-tagged m b i = get_or-replicate (length b.plain) m NOTHING 0 i.plain

fold-value : (c fold : Bool) (m : ℕ) (b : BufferValues) → IsMirror m b → left_at c fold m (folded b) ≡ left_at c true m b
fold-value true true m b i = refl
fold-value true false m b i = fold-tagged m b i
fold-value false true m b i =
    ap (meet_of b.order (value_at false m (folded b))) (fold-tagged m b i)
    ∙ ap (λ x. meet_of b.order x NOTHING) (fold-plain m b i)
    ∙ meet-neutral b.order (slice_index b.plain m) (slice_index b.tagged m) i.neutral
fold-value false false m b i = fold-plain m b i

-- what a step leaves at a mirror, with what later steps post
step-value : (c : Bool) (b : BufferValues) (step : Step) (steps : List Step) (m : ℕ) → IsMirror m b → meet_all b.order (left_at c (has_fold steps) m (after_step b step)) (values_posted c m steps) ≡ meet_all b.order (left_at c (has_fold (step ∷ steps)) m b) (values_posted c m (step ∷ steps))
step-value c b (Begins true) steps m i = refl
step-value c b (Begins false) steps m i = refl
step-value c b (Posts tagged k value) steps m i = post-value c tagged (has_fold steps) b k m value (values_posted c m steps) i
step-value c b Folds steps m i = ap (λ x. meet_all b.order x (values_posted c m steps)) (fold-value c (has_fold steps) m b i)

-- a value that is met with another one stays one that NOTHING doesn't lower
neutral-met : (o : Order) (x y value : ℕ) (r : Bool) → y ≡ (if r then meet_of o x value else x) → meet_of o x NOTHING ≡ x → meet_of o y NOTHING ≡ y
neutral-met o x y value true e n = ap (λ z. meet_of o z NOTHING) e ∙ meet-neutral o x value n ∙ sym e
neutral-met o x y value false e n = ap (λ z. meet_of o z NOTHING) e ∙ n ∙ sym e

step-neutral : (b : BufferValues) (step : Step) (m : ℕ) → IsMirror m b → meet_of b.order (value_at false m (after_step b step)) NOTHING ≡ value_at false m (after_step b step)
step-neutral b (Begins true) m i = i.neutral
step-neutral b (Begins false) m i = i.neutral
step-neutral b (Posts true k value) m i = i.neutral
step-neutral b (Posts false k value) m i =
    neutral-met b.order (slice_index b.plain m) (value_at false m (with_post false k value b)) value (k == m) (met_at b.order b.plain k m value (k == m) refl i.plain) i.neutral
step-neutral b Folds m i = neutral-met b.order (slice_index b.plain m) (value_at false m (folded b)) (slice_index b.tagged m) true (fold-plain m b i) i.neutral

-- a mirror of the buffer with so many
module _ (n m : ℕ) (below : m < n) where
  mirror : (b : BufferValues) → IsFor n b → meet_of b.order (slice_index b.plain m) NOTHING ≡ slice_index b.plain m → IsMirror m b
  mirror b f e = record { plain = omega (arith, below, f.plain); tagged = omega (arith, below, f.tagged); neutral = e }

  step-mirror : (b : BufferValues) (step : Step) → IsFor n b → IsMirror m b → IsMirror m (after_step b step)
  step-mirror b step f i =
      let next = after_step b step in
      mirror next (step-mirrors n b step f) (ap (λ o. meet_of o (slice_index next.plain m) NOTHING) (step-order b step) ∙ step-neutral b step m i)

  steps-value : (c : Bool) (b : BufferValues) (steps : List Step) → IsFor n b → IsMirror m b → value_at c m (after_steps b steps) ≡ meet_all b.order (left_at c (has_fold steps) m b) (values_posted c m steps)
  steps-value true b [] f i = refl
  steps-value false b [] f i = refl
  steps-value c b (step ∷ steps) f i =
      let next = after_step b step in
      steps-value c next steps (step-mirrors n b step f) (step-mirror b step f i)
      ∙ ap (λ o. meet_all o (left_at c (has_fold steps) m next) (values_posted c m steps)) (step-order b step)
      ∙ step-value c b step steps m i

-- ---- the batches

abbrev pub count_in : Bool → BufferValues → ℕ
count_in true b = b.tagged_batches
count_in false b = b.plain_batches

-- how many of the batches begun so far a class has after later steps with a fold or without
abbrev pub count_left : Bool → Bool → BufferValues → ℕ
count_left true false b = b.tagged_batches
count_left true true b = 0
count_left false false b = b.plain_batches
count_left false true b = b.plain_batches + b.tagged_batches

begin-count : (c tagged fold : Bool) (b : BufferValues) (n : ℕ) → count_left c fold (with_batch tagged b) + n ≡ count_left c fold b + ((if same_class c (tagged && not fold) then 1 else 0) + n)
begin-count true true true b n = omega arith
begin-count true true false b n = omega arith
begin-count true false true b n = omega arith
begin-count true false false b n = omega arith
begin-count false true true b n = omega arith
begin-count false true false b n = omega arith
begin-count false false true b n = omega arith
begin-count false false false b n = omega arith

fold-count : (c fold : Bool) (b : BufferValues) → count_left c fold (folded b) ≡ count_left c true b
fold-count true true b = refl
fold-count true false b = refl
fold-count false true b = omega arith
fold-count false false b = refl

post-count : (c fold tagged : Bool) (b : BufferValues) (k value : ℕ) → count_left c fold (with_post tagged k value b) ≡ count_left c fold b
post-count true true true b k value = refl
post-count true true false b k value = refl
post-count true false true b k value = refl
post-count true false false b k value = refl
post-count false true true b k value = refl
post-count false true false b k value = refl
post-count false false true b k value = refl
post-count false false false b k value = refl

step-count : (c : Bool) (b : BufferValues) (step : Step) (steps : List Step) → count_left c (has_fold steps) (after_step b step) + batches_begun c steps ≡ count_left c (has_fold (step ∷ steps)) b + batches_begun c (step ∷ steps)
step-count c b (Begins tagged) steps = begin-count c tagged (has_fold steps) b (batches_begun c steps)
step-count c b (Posts tagged k value) steps = ap (λ n. n + batches_begun c steps) (post-count c (has_fold steps) tagged b k value)
step-count c b Folds steps = ap (λ n. n + batches_begun c steps) (fold-count c (has_fold steps) b)

steps-count : (c : Bool) (b : BufferValues) (steps : List Step) → count_in c (after_steps b steps) ≡ count_left c (has_fold steps) b + batches_begun c steps
steps-count true b [] = omega arith
steps-count false b [] = omega arith
steps-count c b (step ∷ steps) = steps-count c (after_step b step) steps ∙ step-count c b step steps

-- ---- from an empty buffer

new-mirrors : (order : Order) (mirrors : ℕ) → IsFor mirrors (new_buffer order mirrors)
new-mirrors order mirrors = record { plain = length-replicate mirrors NOTHING; tagged = length-replicate mirrors NOTHING }

new-mirror : (order : Order) (mirrors m : ℕ) → m < mirrors → IsMirror m (new_buffer order mirrors)
new-mirror order mirrors m h =
    let e : slice_index (replicate mirrors NOTHING) m ≡ NOTHING = get_or-replicate mirrors m NOTHING 0 h in
    mirror mirrors m h (new_buffer order mirrors) (new-mirrors order mirrors) (ap (λ x. meet_of order x NOTHING) e ∙ meet-nothing order ∙ sym e)

new-left : (order : Order) (mirrors m : ℕ) → m < mirrors → (c fold : Bool) → left_at c fold m (new_buffer order mirrors) ≡ NOTHING
new-left order mirrors m h true true = refl
new-left order mirrors m h true false = get_or-replicate mirrors m NOTHING 0 h
new-left order mirrors m h false true =
    let e : slice_index (replicate mirrors NOTHING) m ≡ NOTHING = get_or-replicate mirrors m NOTHING 0 h in
    ap (λ x. meet_of order x x) e ∙ meet-nothing order
new-left order mirrors m h false false = get_or-replicate mirrors m NOTHING 0 h

new-count : (order : Order) (mirrors : ℕ) (c fold : Bool) → count_left c fold (new_buffer order mirrors) ≡ 0
new-count order mirrors true true = refl
new-count order mirrors true false = refl
new-count order mirrors false true = refl
new-count order mirrors false false = refl

value_is : (order : Order) (mirrors : ℕ) (steps : List Step) (c : Bool) (m : ℕ) → m < mirrors → value_at c m (after_steps (new_buffer order mirrors) steps) ≡ meet_all order NOTHING (values_posted c m steps)
value_is order mirrors steps c m h =
    steps-value mirrors m h c (new_buffer order mirrors) steps (new-mirrors order mirrors) (new-mirror order mirrors m h)
    ∙ ap (λ n. meet_all order n (values_posted c m steps)) (new-left order mirrors m h c (has_fold steps))

count_is : (order : Order) (mirrors : ℕ) (steps : List Step) (c : Bool) → count_in c (after_steps (new_buffer order mirrors) steps) ≡ batches_begun c steps
count_is order mirrors steps c = omega (arith, steps-count c (new_buffer order mirrors) steps, new-count order mirrors c (has_fold steps))

taken_is : (order : Order) (mirrors : ℕ) (steps : List Step) (b : BufferValues) → b.order ≡ order → IsFor mirrors b → ((m : ℕ) → m < mirrors → slice_index b.plain m ≡ meet_all order NOTHING (values_posted false m steps)) → ((m : ℕ) → m < mirrors → slice_index b.tagged m ≡ meet_all order NOTHING (values_posted true m steps)) →
    (m : ℕ) → m < mirrors → slice_index (all_waiting b) m ≡ meet_all order NOTHING (all_values_posted m steps)
taken_is order mirrors steps b o f plain tagged m h =
    meets_of-at b.order b.plain b.tagged m (omega (arith, h, f.plain)) (omega (arith, h, f.tagged))
    ∙ (λ t. meet_of (o t) (plain m h t) (tagged m h t))
    ∙ both_met order m steps NOTHING NOTHING
    ∙ ap (λ x. meet_all order x (all_values_posted m steps)) (meet-nothing order)

pub has_posted : (order : Order) (mirrors : ℕ) (steps : List Step) → HasPosted order mirrors steps (after_steps (new_buffer order mirrors) steps)
has_posted order mirrors steps =
    let b = after_steps (new_buffer order mirrors) steps in
    let f = steps-mirrors mirrors (new_buffer order mirrors) steps (new-mirrors order mirrors) in
    let o = steps-order (new_buffer order mirrors) steps in
    let plain = value_is order mirrors steps false in
    let tagged = value_is order mirrors steps true in
    record {
      order_is = o;
      plain_mirrors = f.plain;
      tagged_mirrors = f.tagged;
      plain = plain;
      tagged = tagged;
      plain_batches = count_is order mirrors steps false;
      tagged_batches = count_is order mirrors steps true;
      taken_mirrors = meets_of-length b.order mirrors b.plain b.tagged f.plain f.tagged;
      taken = taken_is order mirrors steps b o f plain tagged;
      batches = (λ t. count_is order mirrors steps false t + count_is order mirrors steps true t) ∙ both_counted steps;
      waiting = λ values. both_waiting order mirrors steps b.plain b.tagged values f.plain f.tagged plain tagged;
    }
