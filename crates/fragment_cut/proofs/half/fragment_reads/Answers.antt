use Rattle.std.proofs.Common.{◌≡◌, ◌<◌, ◌++◌, ℕ, List, length, subst, sym, ap, ◌∙◌, arith}
use Rattle.std.specs.Prelude.{All, IfOk}
use Rattle.graph_core.specs.declared.fragment.Reading.{Reading}
use Rattle.graph_core.specs.Graphs.{count_of}
use Rattle.graph_core.specs.Fragments.{owned_of, mirrors_of, places_of, StandsAt}
use Rattle.graph_core.proofs.FragmentPlaces.{places_once}
use Rattle.fragment_cut.specs.Filing.{reads_table, placed_rows}
use Rattle.fragment_cut.specs.Owners.{StandOnce}
use Rattle.fragment_cut.proofs.EdgeFiles.{all_at}
use Rattle.fragment_cut.proofs.HalfBuilt.{both_are, reads_placed}
use Rattle.fragment_cut.proofs.PlacedRows.{rows_placed}
use Rattle.fragment_cut.proofs.Placing.{few_owned, few_mirrors, all_owned_inside, all_places_inside}
use Rattle.fragment_cut.proofs.half.fragment_reads.Goals as goal

pub number_all-requires-clause-few : goal.number_all-requires-clause-few
number_all-requires-clause-few c =
    let job = c.args.job.now in
    omega (arith, ap length c.requires.owned, ap length c.requires.mirrors, few_owned job c.requires.job c.args.fragment c.requires.fragment, few_mirrors job c.requires.job c.args.fragment c.requires.fragment)

pub number_all-requires-clause-inside : goal.number_all-requires-clause-inside
number_all-requires-clause-inside c =
    let job = c.args.job.now in
    let i = c.args.fragment in
    all_at (λ (v : ℕ). v) (c.args.owned.now ++ c.args.mirrors.now) (places_of job i) (length c.args.places.now) (count_of job.graph)
    (both_are c.args.owned.now c.args.mirrors.now (owned_of job i) (mirrors_of job i) c.requires.owned c.requires.mirrors) c.requires.places (all_places_inside job c.requires.job i c.requires.fragment)

pub number_all-requires-clause-once : goal.number_all-requires-clause-once
number_all-requires-clause-once c =
    let job = c.args.job.now in
    let i = c.args.fragment in
    subst StandOnce (sym (both_are c.args.owned.now c.args.mirrors.now (owned_of job i) (mirrors_of job i) c.requires.owned c.requires.mirrors)) (places_once job c.requires.job i c.requires.fragment)

pub placed_rows-requires-clause-few : goal.placed_rows-requires-clause-few
placed_rows-requires-clause-few c = omega (arith, ap length c.requires.owned, few_owned c.args.job.now c.requires.job c.args.fragment c.requires.fragment)

pub placed_rows-requires-clause-inside : goal.placed_rows-requires-clause-inside
placed_rows-requires-clause-inside c =
    all_at (λ (v : ℕ). v) c.args.owned.now (owned_of c.args.job.now c.args.fragment) (length c.args.reads.now) (length (reads_table c.args.job.now.graph c.args.job.now.query))
    c.requires.owned (ap length c.requires.reads) (all_owned_inside c.args.job.now c.requires.job c.args.fragment c.requires.fragment)

pub placed_rows-requires-clause-read : goal.placed_rows-requires-clause-read
placed_rows-requires-clause-read c =
    let wide : length c.number_all.new.places ≡ count_of c.args.job.now.graph = omega (arith, c.number_all.ensures.len, c.requires.places) in
    subst (λ n. All (λ row. All (λ (r : Reading). r.place < n) row) c.args.reads.now) (sym wide)
    (subst (λ t. All (λ row. All (λ (r : Reading). r.place < count_of c.args.job.now.graph) row) t) (sym c.requires.reads) (reads_placed c.args.job.now.graph c.args.job.now.query c.requires.job.graph))

pub returns : goal.returns
returns c =
    let job = c.args.job.now in
    let i = c.args.fragment in
    let P = c.number_all.new.places in
    let right = λ (p v : ℕ) (h : StandsAt (places_of job i) p v). c.number_all.ensures.places p v (subst (λ (l : List ℕ). StandsAt l p v) (sym (both_are c.args.owned.now c.args.mirrors.now (owned_of job i) (mirrors_of job i) c.requires.owned c.requires.mirrors)) h) in
    subst (λ (t : List (List Reading)). IfOk c.placed_rows.result (λ made. made ≡ t))
    (ap (λ o. placed_rows o P c.args.reads.now) c.requires.owned ∙ ap (placed_rows (owned_of job i) P) c.requires.reads ∙ rows_placed job c.requires.job i c.requires.fragment P right) c.placed_rows.ensures
