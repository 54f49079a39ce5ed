use Rattle.std.proofs.Common.{List, subst, sym, ap}
use Rattle.token_cut.specs.Parts.{PartValues}
use Rattle.token_cut.specs.Shapes.{HaveShape}
use Rattle.snapshot_store.proofs.Read.{fresh_has}
use Rattle.snapshot_store.proofs.long_tests.kept_body.Goals as goal

pub decode-requires-clause-into : goal.decode-requires-clause-into
decode-requires-clause-into c = subst (λ (l : List PartValues). HaveShape c.args.shape.now.parts l) (sym (ap (λ s. s.parts) c.in_ok-snapshot.ensures)) (fresh_has c.args.shape.now.parts)
