use Rattle.std.proofs.Common.{◌<◌, ◌==◌, ℕ, List, length, slice_index_or, false, subst, sym, ap, ◌∙◌, arith}
use Rattle.std.specs.Prelude.{All}
use Rattle.std.specs.List.{list_any}
use Rattle.graph_core.specs.declared.fragment.Reading.{Reading}
use Rattle.graph_core.specs.Graphs.{count_of}
use Rattle.graph_core.specs.Fragments.{owned_of}
use Rattle.fragment_cut.specs.Filing.{Filed, reads_table, filed_rows}
use Rattle.fragment_cut.proofs.EdgeFiles.{all_at}
use Rattle.fragment_cut.proofs.HalfBuilt.{reads_placed}
use Rattle.fragment_cut.proofs.Placing.{all_owned_inside, read_where}
use Rattle.fragment_cut.proofs.half.mirrors_read.Goals as goal

pub marks_of-requires-clause-inside : goal.marks_of-requires-clause-inside
marks_of-requires-clause-inside c =
    all_at (λ (v : ℕ). v) c.args.owned.now (owned_of c.args.job.now c.args.fragment) (length c.args.reads.now) (length (reads_table c.args.job.now.graph c.args.job.now.query))
    c.requires.owned (ap length c.requires.reads) (all_owned_inside c.args.job.now c.requires.job c.args.fragment c.requires.fragment)

pub marks_of-requires-clause-read : goal.marks_of-requires-clause-read
marks_of-requires-clause-read c =
    subst (λ n. All (λ row. All (λ (r : Reading). r.place < n) row) c.args.reads.now) (sym c.count.ensures.count)
    (subst (λ t. All (λ row. All (λ (r : Reading). r.place < count_of c.args.job.now.graph) row) t) (sym c.requires.reads) (reads_placed c.args.job.now.graph c.args.job.now.query c.requires.job.graph))

pub mirrors_by-requires-clause-marks : goal.mirrors_by-requires-clause-marks
mirrors_by-requires-clause-marks c = λ v h.
    let test = c.in_ok-marks.ensures.marks v (omega (arith, h, c.count.ensures.count)) in
    let any : List Filed → _ = list_any (λ (e : Filed). e.place == v) in
    ap (λ l. slice_index_or l v false) c.deref.ensures.value ∙ test
    ∙ ap (λ o. any (filed_rows o c.args.reads.now (length o))) c.requires.owned
    ∙ ap (λ t. any (filed_rows (owned_of c.args.job.now c.args.fragment) t (length (owned_of c.args.job.now c.args.fragment)))) c.requires.reads
    ∙ read_where c.args.job.now c.requires.job c.args.fragment c.requires.fragment v
