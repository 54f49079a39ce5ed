-- What a list of steps, batches begun, posts and folds, leaves of an empty buffer.
use Rattle.std.specs.Prelude.{ℕ, ◌≡◌, ◌<◌, ◌+◌, Bool, true, false, not, ◌==◌, ◌&&◌, ◌||◌, if◌then◌else◌, List, [], ◌∷◌, length, slice_index, count_by}
use Rattle.std.specs.List.{range_with_len}
use Rattle.value_order.specs.declared.order.Order.{Order}
use Rattle.value_order.specs.declared.TheConstants.{NOTHING}
use Rattle.value_order.specs.Order.{meet_all}
use Rattle.message_buffer.specs.BufferValues.{BufferValues}
use Rattle.message_buffer.specs.Buffers.{with_batch, with_post, folded, batches_in, all_waiting, waiting_in}

-- a batch of a class begins, a value for a mirror is posted to the last batch of a class, or the tagged batches become untagged
pub data Step : Type 0 where
  Begins : (tagged : Bool) → Step
  Posts : (tagged : Bool) (mirror value : ℕ) → Step
  Folds : Step

abbrev pub after_step : BufferValues → Step → BufferValues
after_step b (Begins tagged) = with_batch tagged b
after_step b (Posts tagged mirror value) = with_post tagged mirror value b
after_step b Folds = folded b

-- after the steps in their order
abbrev pub after_steps : BufferValues → List Step → BufferValues
after_steps b [] = b
after_steps b (step ∷ steps) = after_steps (after_step b step) steps

-- whether both are tagged, or none is
abbrev pub same_class : Bool → Bool → Bool
same_class true c = c
same_class false c = not c

-- whether a fold is among the steps
abbrev pub has_fold : List Step → Bool
has_fold [] = false
has_fold (Begins tagged ∷ steps) = has_fold steps
has_fold (Posts tagged mirror value ∷ steps) = has_fold steps
has_fold (Folds ∷ steps) = true

-- the class of a batch or a post after the steps that came later: tagged where it was tagged and no fold came
abbrev pub class_after : Bool → List Step → Bool
class_after tagged later = tagged && not (has_fold later)

-- the values posted to a mirror that are in a class after all steps, in their order
abbrev pub values_posted : Bool → ℕ → List Step → List ℕ
values_posted c m [] = []
values_posted c m (Begins tagged ∷ later) = values_posted c m later
values_posted c m (Posts tagged mirror value ∷ later) =
    if same_class c (class_after tagged later) && (mirror == m) then value ∷ values_posted c m later else values_posted c m later
values_posted c m (Folds ∷ later) = values_posted c m later

-- how many batches begun are in a class after all steps
abbrev pub batches_begun : Bool → List Step → ℕ
batches_begun c [] = 0
batches_begun c (Begins tagged ∷ later) = (if same_class c (class_after tagged later) then 1 else 0) + batches_begun c later
batches_begun c (Posts tagged mirror value ∷ later) = batches_begun c later
batches_begun c (Folds ∷ later) = batches_begun c later

-- all values posted to a mirror, of both classes, in their order
abbrev pub all_values_posted : ℕ → List Step → List ℕ
all_values_posted m [] = []
all_values_posted m (Begins tagged ∷ later) = all_values_posted m later
all_values_posted m (Posts tagged mirror value ∷ later) = if mirror == m then value ∷ all_values_posted m later else all_values_posted m later
all_values_posted m (Folds ∷ later) = all_values_posted m later

-- how many batches begun there are, of both classes
abbrev pub all_batches_begun : List Step → ℕ
all_batches_begun [] = 0
all_batches_begun (Begins tagged ∷ later) = 1 + all_batches_begun later
all_batches_begun (Posts tagged mirror value ∷ later) = all_batches_begun later
all_batches_begun (Folds ∷ later) = all_batches_begun later

-- a value was posted to mirror m
abbrev pub is_posted_to : List Step → ℕ → Bool
is_posted_to [] m = false
is_posted_to (Begins tagged ∷ later) m = is_posted_to later m
is_posted_to (Posts tagged mirror value ∷ later) m = mirror == m || is_posted_to later m
is_posted_to (Folds ∷ later) m = is_posted_to later m

-- each value posted is one, other than NOTHING
abbrev pub PostsAreValues : List Step → Type 0
PostsAreValues [] = Unit {0}
PostsAreValues (Begins tagged ∷ later) = PostsAreValues later
PostsAreValues (Posts tagged mirror value ∷ later) = (value < NOTHING) × PostsAreValues later
PostsAreValues (Folds ∷ later) = PostsAreValues later

-- What a buffer has for so many mirrors after steps from an empty one. Of each class: for each mirror the meet of the values posted to it, NOTHING where none was, and how many batches began; what was tagged before a fold is untagged. Of both: what a take gives, how many batches wait, and for how many mirrors a value does.
pub record HasPosted (order : Order) (mirrors : ℕ) (steps : List Step) (b : BufferValues) : Type 0 where
  pub order_is : b.order ≡ order
  pub plain_mirrors : length b.plain ≡ mirrors
  pub tagged_mirrors : length b.tagged ≡ mirrors
  pub plain : (m : ℕ) → m < mirrors → slice_index b.plain m ≡ meet_all order NOTHING (values_posted false m steps)
  pub tagged : (m : ℕ) → m < mirrors → slice_index b.tagged m ≡ meet_all order NOTHING (values_posted true m steps)
  pub plain_batches : b.plain_batches ≡ batches_begun false steps
  pub tagged_batches : b.tagged_batches ≡ batches_begun true steps
  pub taken_mirrors : length (all_waiting b) ≡ mirrors
  pub taken : (m : ℕ) → m < mirrors → slice_index (all_waiting b) m ≡ meet_all order NOTHING (all_values_posted m steps)
  pub batches : batches_in b ≡ all_batches_begun steps
  pub waiting : PostsAreValues steps → waiting_in b ≡ count_by (is_posted_to steps) (range_with_len 0 mirrors)
