use Rattle.std.proofs.Common.{◌≡◌, List, length, ap, subst, arith}
use Rattle.std.specs.Prelude.{IfOk}
use Rattle.std.proofs.lemmas.List.{length-map}
use Rattle.graph_core.specs.declared.fragment.Reading.{Reading}
use Rattle.graph_core.specs.Fragments.{owned_of, readings_of}
use Rattle.fragment_cut.proofs.HalfBuilt.{readings_inside, readers_made}
use Rattle.fragment_cut.proofs.Placing.{few_owned}
use Rattle.fragment_cut.proofs.half.fragment_readers.Goals as goal

pub turned_table-requires-clause-short : goal.turned_table-requires-clause-short
turned_table-requires-clause-short c =
    let job = c.args.job.now in
    omega (arith, ap length c.requires.readings, length-map (owned_of job c.args.fragment) (readings_of job c.args.fragment), few_owned job c.requires.job c.args.fragment c.requires.fragment)

pub turned_table-requires-clause-inside : goal.turned_table-requires-clause-inside
turned_table-requires-clause-inside c = readings_inside c.args.job.now c.requires.job c.args.fragment c.requires.fragment c.args.readings.now c.requires.readings c.args.places c.requires.places

pub returns : goal.returns
returns c =
    subst (λ (t : List (List Reading)). IfOk c.turned_table.result (λ made. made ≡ t))
    (readers_made c.args.job.now c.requires.job c.args.fragment c.requires.fragment c.args.readings.now c.requires.readings c.args.places c.requires.places) c.turned_table.ensures
