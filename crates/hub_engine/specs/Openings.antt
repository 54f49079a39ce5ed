-- The tables of a hub at the beginning.
use Rattle.std.specs.Prelude.{◌≡◌, ℕ, ◌≤◌, map, Bool, true, false, if◌then◌else◌, List, [], ◌∷◌, None, length}
use Rattle.value_order.specs.declared.order.Order.{Order}
use Rattle.graph_core.specs.Graphs.{MAX_VERTICES}
use Rattle.graph_core.specs.Parts.{FragmentLists, place_count}
use Rattle.token_cut.specs.declared.phase.Phase.{Phase}
use Rattle.token_cut.specs.declared.phase.Phase.TheVariants.{Fresh, Rest}
use Rattle.token_cut.specs.Parts.{PartValues}
use Rattle.token_cut.specs.Shapes.{PartStarts, sizes_of}
use Rattle.token_cut.specs.CutValues.{CutValues}
use Rattle.message_buffer.specs.BufferValues.{BufferValues}
use Rattle.message_buffer.specs.Hands.{new_hand}
use Rattle.base_machine.specs.Machine.{is_empty, posts_from}
use Rattle.message_buffer.specs.Buffers.{new_buffer, with_batch}
use Rattle.pie_core.specs.LocalCalls.{new_local, loaded}
use Rattle.hub_engine.specs.declared.desk.Desk.{Desk}
use Rattle.hub_engine.specs.declared.desk.Seat.TheVariants.{Here}
use Rattle.hub_engine.specs.Posting.{with_posts}

-- a fragment has at most as many owned places, and as many mirrors, as a graph has vertices
pub record HasFewPlaces (part : FragmentLists) : Type 0 where
  pub owned : length part.owned ≤ MAX_VERTICES
  pub mirrors : length part.mirrors ≤ MAX_VERTICES

-- a part of a snapshot has the sizes of a fragment
pub record IsPartFor (part : FragmentLists) (from : PartValues) : Type 0 where
  pub few : HasFewPlaces part
  pub values : length from.values ≡ place_count part
  pub mail : length from.mail ≡ length part.mirrors

-- a shape has a start value for each place of a fragment
pub record HasPlacesOf (part : FragmentLists) (shape : PartStarts) : Type 0 where
  pub owned : length shape.owned ≡ length part.owned
  pub mirrors : length shape.mirrors ≡ length part.mirrors

abbrev pub is_fresh_phase : Phase → Bool
is_fresh_phase Fresh = true
is_fresh_phase Rest = false

-- The mail of a part as one untagged batch, where it has some.
abbrev pub with_start_mail : List ℕ → BufferValues → BufferValues
with_start_mail mail b = if is_empty (posts_from 0 mail) then b else with_posts false (posts_from 0 mail) (with_batch false b)

-- the desk of a worker that begins as a part of a snapshot has it
abbrev pub new_desk : Order → ℕ → FragmentLists → PartValues → Desk
new_desk order counters part from =
    record {
      seat = Here (is_fresh_phase from.phase) (loaded (new_local (length part.owned) (length part.mirrors) counters) from.values) (new_hand order (length part.mirrors));
      delay = None;
      round = 0;
      pulse = [];
      buffer = with_start_mail from.mail (new_buffer order (length part.mirrors));
      begun = false;
    }

-- the desks of the fragments, each as its part has it
abbrev pub new_desks : Order → ℕ → List FragmentLists → List PartValues → List Desk
new_desks order counters [] parts = []
new_desks order counters (f ∷ fragments) [] = []
new_desks order counters (f ∷ fragments) (p ∷ parts) = new_desk order counters f p ∷ new_desks order counters fragments parts

-- no recording is open, and where snapshots are asked for there is room for the sizes of the fragments
pub record IsEmptyCut (every : ℕ) (order : Order) (fragments : List FragmentLists) (cut : CutValues) : Type 0 where
  pub meets : cut.order ≡ order
  pub closed : cut.recording ≡ false
  pub sizes : 1 ≤ every → sizes_of cut.parts ≡ map (λ part. (place_count part, length part.mirrors)) fragments
