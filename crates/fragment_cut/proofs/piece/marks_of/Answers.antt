use Rattle.std.proofs.Common.{◌≡◌, ◌==◌, ◌++◌, length, map, take, get_or, ap, refl, sym, ◌∙◌, append-nil, arith}
use Rattle.std.proofs.lemmas.List.{length-set, take_all}
use Rattle.std.specs.List.{list_any}
use Rattle.graph_core.specs.declared.fragment.Reading.{Reading}
use Rattle.fragment_cut.specs.Filing.{file_under, filed_rows}
use Rattle.fragment_cut.proofs.Marked.{part_more, marked_more, marked_at, in_row}
use Rattle.fragment_cut.proofs.Pieces.{filed_rows_more}
use Rattle.fragment_cut.proofs.piece.marks_of.Goals as goal

pub row-init : goal.row-init
row-init c = record {
  len = c.vertices.invariant.len;
  marks = marked_at c.vertices.marks.items c.args.count c.vertices.invariant.len _ c.vertices.invariant.marks _ (sym (append-nil (filed_rows c.args.vertices.now c.args.reads.now c.vertices.vertex-index)));
}

pub row-preserved : goal.row-preserved
row-preserved c =
    let d : Reading = record { place = 0; weight = 0 } in
    let row = c.row-readings.result.now in
    let k = c.row.reading-index in
    let n = c.vertices.vertex-index in
    let done = filed_rows c.args.vertices.now c.args.reads.now n in
    let low = in_row c.args.count c.args.reads.now (get_or c.args.vertices.now n 0) k d row c.requires.read (c.requires.inside n 0 c.vertices-test.true) c.row-readings.ensures c.row-test.true in
    record {
      len = length-set c.row.marks.items (get_or row k d).place _ ∙ c.row.invariant.len;
      marks = λ v h. marked_more c.row.marks.items c.args.count c.row.invariant.len (done ++ map (file_under n) (take k row)) c.row.invariant.marks (file_under n (get_or row k d)) low v h
          ∙ ap (list_any (λ entry. entry.place == v)) (sym (part_more (file_under n) done row k d c.row-test.true));
    }

pub vertices-preserved : goal.vertices-preserved
vertices-preserved c =
    let row = c.row-readings.result.now in
    let n = c.vertices.vertex-index in
    let done = filed_rows c.args.vertices.now c.args.reads.now n in
    record {
      len = c.row.invariant.len;
      marks = marked_at c.row.marks.items c.args.count c.row.invariant.len _ c.row.invariant.marks _
          (ap (λ l. done ++ map (file_under n) l) (take_all c.row.reading-index row c.row-test.false)
          ∙ filed_rows_more c.args.vertices.now c.args.reads.now n row done (done ++ map (file_under n) row) refl c.row-readings.ensures refl);
    }

pub returns-clause-marks : goal.returns-clause-marks
returns-clause-marks c =
    let end : c.vertices.vertex-index ≡ length c.args.vertices.now = omega (arith, c.vertices-test.false, c.vertices.auto.vertex-index-end) in
    marked_at c.vertices.marks.items c.args.count c.vertices.invariant.len _ c.vertices.invariant.marks _ (ap (filed_rows c.args.vertices.now c.args.reads.now) end)
