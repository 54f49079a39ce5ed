-- Worked journals.
use Rattle.std.specs.Prelude.{ℕ, List, [], ◌∷◌}
use Rattle.value_order.specs.declared.TheConstants.{NOTHING}
use Rattle.graph_core.specs.declared.settings.Cut.TheVariants.{Range, Hash}
use Rattle.graph_core.specs.declared.settings.Policy.{Policy}
use Rattle.graph_core.specs.declared.settings.Policy.TheVariants.{Ap, Aap}
use Rattle.graph_core.specs.declared.query.Query.TheVariants.{Dist, Label}
use Rattle.graph_core.specs.declared.job.Job.{Job}
use Rattle.grape_event.specs.declared.event.Event.{Event}
use Rattle.grape_event.specs.declared.event.Event.TheVariants.{Take, Give, Stretch, Hold, Flag, Ask, Ack, Nack, Begin, Mark, Seal, Kept, End}
use Rattle.token_cut.specs.Parts.{SnapshotParts}
use Rattle.base_machine.specs.Machine.{Worker, Post, Standing, Rest}
use Rattle.token_cut.specs.declared.phase.Phase.TheVariants.{Fresh as FreshPhase, Rest as RestPhase}

-- distances from 1 over 1 -5-> 2 -1-> 3, in two ranges
abbrev pub two_ranges : Job
two_ranges =
    record {
      graph = record {
        vertices = (1, 0) ∷ (2, 0) ∷ (3, 0) ∷ [];
        edges = record { from = 0; to = 1; weight = 5 } ∷ record { from = 1; to = 2; weight = 1 } ∷ [];
      };
      query = Dist 1;
      settings = record { fragments = 2; lanes = 1; cut = Range; policy = Ap; snapshot = 0 };
    }

-- the second worker finds its mail only after a first probe was asked
abbrev pub before_first_answer : List Event
before_first_answer =
    Take 1 0 ∷ Give 1 ∷ Flag 1 ∷ Take 0 0 ∷ Give 0 ∷ Flag 0 ∷ Ask ∷ Ack 0 ∷ []

abbrev pub asked_twice : List Event
asked_twice =
    Take 1 0 ∷ Give 1 ∷ Flag 1 ∷ Take 0 0 ∷ Give 0 ∷ Flag 0 ∷ Ask ∷ Ack 0 ∷ Nack 1 ∷ Stretch 1 0 ∷ Take 1 0 ∷ Give 1 ∷ Flag 1 ∷ Ask ∷ Ack 0 ∷ Ack 1 ∷ End ∷ []

abbrev pub served_after_ask : List Event
served_after_ask =
    Take 1 0 ∷ Give 1 ∷ Flag 1 ∷ Take 0 0 ∷ Give 0 ∷ Flag 0 ∷ Ask ∷ Ack 0 ∷ Stretch 1 0 ∷ Take 1 0 ∷ Give 1 ∷ []

-- components of 1 - 2 - 3, 4 and 5 - 6 - 1, in three ranges, with a snapshot after two Takes
abbrev pub three_parts : Job
three_parts =
    record {
      graph = record {
        vertices = (1, 0) ∷ (2, 0) ∷ (3, 0) ∷ (4, 0) ∷ (5, 0) ∷ (6, 0) ∷ [];
        edges = record { from = 0; to = 1; weight = 1 } ∷ record { from = 1; to = 2; weight = 1 } ∷ record { from = 4; to = 5; weight = 1 } ∷ record { from = 5; to = 0; weight = 1 } ∷ [];
      };
      query = Label;
      settings = record { fragments = 3; lanes = 2; cut = Range; policy = Ap; snapshot = 2 };
    }

-- the late batch of worker 2 is in the snapshot, and the tagged one of worker 0 is not
abbrev pub late_and_tagged : List Event
late_and_tagged =
    Take 1 0 ∷ Give 1 ∷ Take 2 0 ∷ Begin 1 ∷ Mark 0 ∷ Take 0 1 ∷ Give 0 ∷ Give 2 ∷ Mark 1 ∷ Mark 2 ∷ Seal 1 ∷ []

abbrev pub late_and_tagged_snapshot : SnapshotParts
late_and_tagged_snapshot =
    record {
      epoch = 1;
      parts =
          record { phase = FreshPhase; values = 1 ∷ 2 ∷ 3 ∷ 6 ∷ []; mail = 2 ∷ 1 ∷ [] }
          ∷ record { phase = RestPhase; values = 2 ∷ 4 ∷ 2 ∷ []; mail = NOTHING ∷ [] }
          ∷ record { phase = RestPhase; values = 1 ∷ 1 ∷ 1 ∷ []; mail = NOTHING ∷ [] }
          ∷ [];
    }

-- worker 1 rests, and its only batch is the tagged one of worker 0; its delay is over
abbrev pub tagged_waits : List Event
tagged_waits = Take 1 0 ∷ Give 1 ∷ Take 2 0 ∷ Begin 1 ∷ Mark 0 ∷ Take 0 1 ∷ Give 0 ∷ Give 2 ∷ Stretch 1 0 ∷ []

-- the same graph without snapshots, under a policy
abbrev pub parts_under : Policy → Job
parts_under policy =
    record {
      graph = three_parts.graph;
      query = Label;
      settings = record { fragments = 3; lanes = 2; cut = Range; policy = policy; snapshot = 0 };
    }

-- worker 1 has mail and is one round ahead of worker 2, which is Fresh; its delay is over
abbrev pub gone_ahead : List Event
gone_ahead = Take 1 0 ∷ Give 1 ∷ Take 0 0 ∷ Give 0 ∷ Stretch 1 0 ∷ []

-- two batches wait for worker 0, which rests; they came at the places 3 and 5
abbrev pub gathered : List Event
gathered = Take 0 0 ∷ Give 0 ∷ Take 1 0 ∷ Give 1 ∷ Take 2 0 ∷ Give 2 ∷ []

-- mail comes for worker 1 while it runs
abbrev pub mailed_while_running : List Event
mailed_while_running = Take 1 0 ∷ Take 0 1 ∷ Give 0 ∷ []

-- worker 0 has answered, and then mail comes for it from worker 1, which took after the Ask
abbrev pub mailed_after_ack : List Event
mailed_after_ack =
    Take 2 0 ∷ Give 2 ∷ Flag 2 ∷ Take 1 0 ∷ Give 1 ∷ Flag 1 ∷ Take 0 0 ∷ Give 0 ∷ Flag 0 ∷ Ask ∷ Ack 0 ∷ Stretch 1 0 ∷ Take 1 0 ∷ Give 1 ∷ []

-- worker 0 rests without mail after one round when the batch of worker 1's second round comes, and one round more follows
abbrev pub caught_up : List Event
caught_up =
    Take 1 0 ∷ Give 1 ∷ Take 0 0 ∷ Give 0 ∷ Stretch 1 0 ∷ Take 1 0 ∷ Give 1 ∷ Stretch 0 0 ∷ Take 0 0 ∷ Give 0 ∷ Take 2 0 ∷ Give 2 ∷ []

-- the same, where mail of worker 2 waits for worker 0 already
abbrev pub left_behind : List Event
left_behind = Take 1 0 ∷ Give 1 ∷ Take 0 0 ∷ Give 0 ∷ Take 2 0 ∷ Give 2 ∷ Stretch 1 0 ∷ Take 1 0 ∷ Give 1 ∷ []

-- two workers in turn, and a probe
abbrev pub turn_by_turn : List Event
turn_by_turn = Take 0 0 ∷ Give 0 ∷ Take 1 0 ∷ Give 1 ∷ Flag 0 ∷ Flag 1 ∷ Ask ∷ Ack 0 ∷ Ack 1 ∷ End ∷ []

-- distances from 3, where vertex 2 is alone
abbrev pub backwards : Job
backwards =
    record {
      graph = record {
        vertices = (2, 0) ∷ (3, 0) ∷ (4, 0) ∷ [];
        edges = record { from = 1; to = 2; weight = 1 } ∷ record { from = 2; to = 0; weight = 1 } ∷ [];
      };
      query = Dist 3;
      settings = record { fragments = 2; lanes = 1; cut = Range; policy = Ap; snapshot = 0 };
    }

-- a Stretch of three turns, of which the flag of another worker is one
abbrev pub stretched : List Event
stretched = Take 0 0 ∷ Give 0 ∷ Take 1 0 ∷ Give 1 ∷ Stretch 0 3 ∷ Flag 1 ∷ Hold 0 ∷ Hold 0 ∷ []

-- one vertex, and a snapshot after each Take
abbrev pub alone : Job
alone =
    record {
      graph = record { vertices = (7, 0) ∷ []; edges = [] };
      query = Dist 7;
      settings = record { fragments = 1; lanes = 1; cut = Hash; policy = Aap 4 2; snapshot = 1 };
    }

abbrev pub kept_and_ended : List Event
kept_and_ended = Take 0 0 ∷ Give 0 ∷ Begin 1 ∷ Mark 0 ∷ Seal 1 ∷ Kept 1 ∷ Flag 0 ∷ Ask ∷ Ack 0 ∷ End ∷ []

-- it begins again from an epoch, or where its worker rests
abbrev pub alone_from : ℕ → SnapshotParts
alone_from epoch = record { epoch = epoch; parts = record { phase = FreshPhase; values = 0 ∷ []; mail = [] } ∷ [] }

abbrev pub alone_at_rest : SnapshotParts
alone_at_rest = record { epoch = 1; parts = record { phase = RestPhase; values = 0 ∷ []; mail = [] } ∷ [] }

-- the worker of vertices 3 and 2 at the end
abbrev pub three_and_two : Worker
three_and_two = record { standing = Rest; values = 6 ∷ 5 ∷ []; gives = 1; start_posts = []; mail = [] ∷ [] ∷ [] }

-- workers of each standing, and one that rests with mail
abbrev pub a_worker : Standing → List Post → Worker
a_worker standing posts = record { standing = standing; values = []; gives = 1; start_posts = posts; mail = [] }

abbrev pub some_mail : List Post
some_mail = record { mirror = 0; value = 1 } ∷ []

-- no fragment at all
abbrev pub no_fragments : Job
no_fragments =
    record {
      graph = record { vertices = []; edges = [] };
      query = Label;
      settings = record { fragments = 0; lanes = 1; cut = Range; policy = Ap; snapshot = 0 };
    }

abbrev pub asked_nobody : List Event
asked_nobody = Ask ∷ End ∷ []
