use Rattle.std.proofs.Common.{◌≡◌, ◌<◌, ◌==◌, ◌++◌, ℕ, false, length, map, take, get_or}
use Rattle.std.specs.List.{list_any}
use Rattle.fragment_cut.specs.Filing.{file_under, filed_rows}
use Rattle.fragment_cut.proofs.piece.marks_of.Given as goal

abbrev pub invariant-row : goal.invariant-row
invariant-row l = record {
  len : length l.marks.items ≡ l.count;
  marks : (v : ℕ) → v < l.count → get_or l.marks.items v false ≡ list_any (λ entry. entry.place == v) (filed_rows l.vertices l.reads l.vertex-index ++ map (file_under l.vertex-index) (take l.reading-index l.readings));
}

abbrev pub invariant-vertices : goal.invariant-vertices
invariant-vertices l = record {
  len : length l.marks.items ≡ l.count;
  marks : (v : ℕ) → v < l.count → get_or l.marks.items v false ≡ list_any (λ entry. entry.place == v) (filed_rows l.vertices l.reads l.vertex-index);
}
