-- The notes of a hub: what each lane, and the coordinator, may rely on while others have the hub.
-- A note is a list of numbers. It begins with the ground, which is the same for all: the numbers of the job and of the start, and how many these are. After it comes what is a lane's own, or the coordinator's.
use Rattle.std.specs.Prelude.{◌≡◌, ℕ, ◌+◌, ◌≤◌, Bool, true, false, if◌then◌else◌, nat_lt, ◌==◌, List, [], ◌∷◌, ◌++◌, Option, Some, None, length, take, drop, flat_map, slice_index_or}
use Rattle.graph_core.specs.declared.edge.Edge.{Edge}
use Rattle.graph_core.specs.Digraph.{Digraph}
use Rattle.graph_core.specs.PatternGraph.{PatternGraph}
use Rattle.graph_core.specs.declared.query.Query.{Query}
use Rattle.graph_core.specs.declared.query.Query.TheVariants as query
use Rattle.graph_core.specs.declared.settings.Cut.{Cut}
use Rattle.graph_core.specs.declared.settings.Cut.TheVariants as cut
use Rattle.graph_core.specs.declared.settings.Policy.{Policy}
use Rattle.graph_core.specs.declared.settings.Policy.TheVariants as policy
use Rattle.graph_core.specs.declared.settings.Settings.{Settings}
use Rattle.graph_core.specs.declared.job.Job.{Job}
use Rattle.graph_core.specs.Fragments.{numbers_below}
use Rattle.grape_event.specs.declared.event.Event.{Event}
use Rattle.grape_event.specs.declared.event.Event.TheVariants.{Stop}
use Rattle.grape_event.specs.declared.event.StopCause.TheVariants.{Disk}
use Rattle.token_cut.specs.declared.phase.Phase.{Phase}
use Rattle.token_cut.specs.declared.phase.Phase.TheVariants as phase
use Rattle.token_cut.specs.Parts.{PartValues, SnapshotParts}
use Rattle.base_machine.specs.Machine.{worker_at, hand_of}
use Rattle.legal_journal.specs.Legal.{State, worker_count, is_out_with}
use Rattle.legal_journal.specs.Cuts.{sealed_snapshots}
use Rattle.hub_engine.specs.HubValues.{HubValues}
use Rattle.hub_engine.specs.States.{machine, state_of, take_place, sealed_epoch}
use Rattle.grape_hub.specs.declared.lane_record.LaneRecord.{LaneRecord}
use Rattle.grape_hub.specs.LanedHub.{LanedHub, lane_at}

-- ---- the ground

-- the numbers of each member of a list, after how many members there are
abbrev pub numbers_of_list : {A : Type 0} → (A → List ℕ) → List A → List ℕ
numbers_of_list numbers xs = length xs ∷ flat_map numbers xs

abbrev pub numbers_of_vertex : ℕ × ℕ → List ℕ
numbers_of_vertex v = v.0 ∷ v.1 ∷ []

abbrev pub numbers_of_edge : Edge → List ℕ
numbers_of_edge e = e.from ∷ e.to ∷ e.weight ∷ []

abbrev pub numbers_of_graph : Digraph → List ℕ
numbers_of_graph g = numbers_of_list numbers_of_vertex g.vertices ++ numbers_of_list numbers_of_edge g.edges

abbrev pub numbers_of_pattern : PatternGraph → List ℕ
numbers_of_pattern p = numbers_of_list (λ n. n.number ∷ n.label ∷ []) p.nodes ++ numbers_of_list (λ l. l.from ∷ l.to ∷ []) p.links

abbrev pub numbers_of_query : Query → List ℕ
numbers_of_query (query.Dist source) = 0 ∷ source ∷ []
numbers_of_query query.Label = 1 ∷ []
numbers_of_query (query.Reach source) = 2 ∷ source ∷ []
numbers_of_query (query.Sim pattern) = 3 ∷ numbers_of_pattern pattern

abbrev pub number_of_cut : Cut → ℕ
number_of_cut cut.Range = 0
number_of_cut cut.Hash = 1

abbrev pub numbers_of_policy : Policy → List ℕ
numbers_of_policy policy.Bsp = 0 ∷ []
numbers_of_policy policy.Ap = 1 ∷ []
numbers_of_policy (policy.Ssp c) = 2 ∷ c ∷ []
numbers_of_policy (policy.Aap c l) = 3 ∷ c ∷ l ∷ []

abbrev pub numbers_of_settings : Settings → List ℕ
numbers_of_settings s = s.fragments ∷ s.lanes ∷ number_of_cut s.cut ∷ s.snapshot ∷ numbers_of_policy s.policy

abbrev pub numbers_of_job : Job → List ℕ
numbers_of_job job = numbers_of_graph job.graph ++ (numbers_of_query job.query ++ numbers_of_settings job.settings)

abbrev pub number_of_phase : Phase → ℕ
number_of_phase phase.Fresh = 0
number_of_phase phase.Rest = 1

-- a list of numbers, after how many they are
abbrev pub listed : List ℕ → List ℕ
listed xs = length xs ∷ xs

abbrev pub numbers_of_part : PartValues → List ℕ
numbers_of_part p = number_of_phase p.phase ∷ (listed p.values ++ listed p.mail)

abbrev pub numbers_of_snapshot : SnapshotParts → List ℕ
numbers_of_snapshot s = s.epoch ∷ numbers_of_list numbers_of_part s.parts

-- the numbers of the job and of the start, after how many they are
abbrev pub ground_of : Job → SnapshotParts → List ℕ
ground_of job start = listed (numbers_of_job job ++ numbers_of_snapshot start)

-- ---- a lane's own

-- nothing before the first call of next
abbrev pub numbers_of_record : LaneRecord → List ℕ
numbers_of_record r = if nat_lt 0 r.calls then r.calls ∷ r.answer ∷ r.length ∷ [] else []

abbrev pub or_zero : Option ℕ → ℕ
or_zero None = 0
or_zero (Some n) = n

-- of the Work in which worker i is out: the worker, the place of its Take, and the values and the hand that were handed out
abbrev pub numbers_of_work : State → ℕ → List ℕ
numbers_of_work s i = i ∷ or_zero (take_place i s.past) ∷ (listed (worker_at s.workers i).values ++ listed (hand_of (worker_at s.workers i)))

-- of the Work that a lane has out, which is one at most
abbrev pub numbers_out : State → ℕ → List ℕ
numbers_out s k = flat_map (λ i. if is_out_with s k i then numbers_of_work s i else []) (numbers_below (worker_count s))

abbrev pub lane_part : LanedHub → ℕ → List ℕ
lane_part x k = numbers_of_record (lane_at x k) ++ (if (lane_at x k).out then numbers_out (state_of x.hub) k else [])

-- ---- the coordinator's own

-- the last event is a Stop for want of the disk; the journal stands newest first
abbrev pub is_stopped_by_disk : List Event → Bool
is_stopped_by_disk (Stop Disk ∷ past) = true
is_stopped_by_disk _ = false

abbrev pub zero_or_one : Bool → ℕ
zero_or_one false = 0
zero_or_one true = 1

-- The epoch that is sealed and not kept yet, or 0; 1 where the disk stopped the run, or 0; and the sealed snapshots in order. Nothing where nothing was sealed and the disk didn't stop the run.
abbrev pub numbers_of_cuts : Option ℕ → Bool → List SnapshotParts → List ℕ
numbers_of_cuts unkept stopped [] = if stopped then or_zero unkept ∷ 1 ∷ [] else []
numbers_of_cuts unkept stopped (s ∷ cuts) = or_zero unkept ∷ zero_or_one stopped ∷ flat_map numbers_of_snapshot (s ∷ cuts)

abbrev pub coordinator_part : HubValues → List ℕ
coordinator_part h = numbers_of_cuts (sealed_epoch (state_of h).past) (is_stopped_by_disk (state_of h).past) (sealed_snapshots (machine h) h.start h.journal.events)

-- ---- the notes

-- the coordinator's number is the count of the lanes
abbrev pub own_part : LanedHub → ℕ → List ℕ
own_part x k = if nat_lt k x.hub.job.settings.lanes then lane_part x k else if k == x.hub.job.settings.lanes then coordinator_part x.hub else []

abbrev pub note_of : LanedHub → ℕ → List ℕ
note_of x k = ground_of x.hub.job x.hub.start ++ own_part x k

-- the notes of all but this number are as they were
abbrev pub OthersStay : LanedHub → ℕ → LanedHub → Type 0
OthersStay old lane new = (k : ℕ) → (k ≡ lane → ⊥) → note_of new k ≡ note_of old k

-- ---- what a note says

abbrev pub first_number : List ℕ → ℕ
first_number note = slice_index_or note 0 0

-- the ground with which a note begins
abbrev pub ground_in : List ℕ → List ℕ
ground_in note = take (1 + first_number note) note

-- what stands after the ground
abbrev pub own_in : List ℕ → List ℕ
own_in note = drop (1 + first_number note) note

-- how often next was called for the lane
abbrev pub calls_in : List ℕ → ℕ
calls_in note = slice_index_or (own_in note) 0 0

-- the number of the last answer
abbrev pub answer_in : List ℕ → ℕ
answer_in note = slice_index_or (own_in note) 1 0

-- the journal's length at the last answer
abbrev pub length_in : List ℕ → ℕ
length_in note = slice_index_or (own_in note) 2 0

-- no Work stands in a lane's note
abbrev pub HasNoWork : List ℕ → Type 0
HasNoWork note = length (own_in note) ≤ 3
