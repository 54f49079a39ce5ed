use Rattle.grape_hub.proofs.Programs.{confluent}
use Rattle.grape_hub.proofs.laws.every_program_is_confluent.Goals as goal

pub returns : goal.returns
returns g c job h is_for =
    confluent job (g.P.Pie.equations c.args.program.now job) h (g.met.P.Pie.lawful c.args.program.now job is_for) (g.met.P.Pie.of_query c.args.program.now job is_for)
