-- What a worked input is read as.
use Rattle.std.specs.Prelude.{ℕ, [], ◌∷◌}
use Rattle.graph_core.specs.declared.query.Query.TheVariants as query
use Rattle.graph_core.specs.declared.job.Job.{Job}
use Rattle.graph_core.specs.declared.settings.Cut.TheVariants as cut
use Rattle.graph_core.specs.declared.settings.Policy.{Policy}
use Rattle.graph_core.specs.declared.settings.Policy.TheVariants as policy
use Rattle.graph_core.specs.declared.settings.Settings.{Settings}
use Rattle.graph_core.specs.Rows.{edge_of}

-- the settings where no line gives one
abbrev pub unset : Settings
unset = record { fragments = 4; lanes = 2; cut = cut.Hash; policy = policy.Aap 4 2; snapshot = 0 }

-- distances on three vertices, with a detour that is shorter
abbrev pub detour_job : Job
detour_job =
    record {
      graph = record { vertices = (1, 0) ∷ (2, 0) ∷ (3, 0) ∷ []; edges = edge_of 0 1 5 ∷ edge_of 0 2 9 ∷ edge_of 1 2 1 ∷ [] };
      query = query.Dist 1;
      settings = unset;
    }

-- distances over an edge to and fro
abbrev pub to_and_fro : Job
to_and_fro =
    record {
      graph = record { vertices = (0, 0) ∷ (11342, 0) ∷ []; edges = edge_of 0 1 1 ∷ edge_of 1 0 1 ∷ [] };
      query = query.Dist 0;
      settings = unset;
    }

-- a vertex without an edge
abbrev pub alone_job : Job
alone_job = record { graph = record { vertices = (7, 0) ∷ []; edges = [] }; query = query.Dist 7; settings = unset }

-- vertices with labels, on two fragments by index
abbrev pub labelled_job : Job
labelled_job =
    record {
      graph = record { vertices = (2, 9) ∷ (3, 0) ∷ (5, 0) ∷ (8, 1) ∷ []; edges = edge_of 1 0 1 ∷ edge_of 2 3 4 ∷ [] };
      query = query.Dist 3;
      settings = record { fragments = 2; lanes = 2; cut = cut.Range; policy = policy.Aap 4 2; snapshot = 0 };
    }

-- labels on no vertices
abbrev pub empty_job : Job
empty_job = record { graph = record { vertices = []; edges = [] }; query = query.Label; settings = unset }

-- labels on no vertices, by so many lanes under a policy
abbrev pub empty_under : ℕ → Policy → Job
empty_under lanes p =
    record {
      graph = record { vertices = []; edges = [] };
      query = query.Label;
      settings = record { fragments = 4; lanes = lanes; cut = cut.Hash; policy = p; snapshot = 0 };
    }

-- labels on no vertices, with a snapshot after so many Takes
abbrev pub empty_with_snapshots : ℕ → Job
empty_with_snapshots period =
    record {
      graph = record { vertices = []; edges = [] };
      query = query.Label;
      settings = record { fragments = 4; lanes = 2; cut = cut.Hash; policy = policy.Aap 4 2; snapshot = period };
    }

-- the simulation of two nodes that link to each other
abbrev pub cycle_job : Job
cycle_job =
    record {
      graph = record { vertices = (1, 1) ∷ (2, 0) ∷ []; edges = edge_of 0 1 1 ∷ [] };
      query = query.Sim (record {
        nodes = record { number = 0; label = 1 } ∷ record { number = 1; label = 2 } ∷ [];
        links = record { from = 0; to = 1 } ∷ record { from = 1; to = 0 } ∷ [];
      });
      settings = unset;
    }

-- distances, beside lines of a pattern that nothing asks for
abbrev pub unused_job : Job
unused_job =
    record {
      graph = record { vertices = (1, 0) ∷ (2, 0) ∷ []; edges = edge_of 0 1 1 ∷ [] };
      query = query.Dist 1;
      settings = unset;
    }

-- what a vertex reaches in a list of edges from elsewhere
abbrev pub download_job : Job
download_job =
    record {
      graph = record { vertices = (0, 0) ∷ (11342, 0) ∷ (824020, 0) ∷ []; edges = edge_of 0 1 1 ∷ edge_of 0 2 1 ∷ edge_of 1 0 1 ∷ [] };
      query = query.Reach 0;
      settings = unset;
    }
