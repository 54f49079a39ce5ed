use Rattle.snapshot_file.proofs.Fed.{none_fed}
use Rattle.snapshot_file.proofs.body_reader.BodyReader.new.Goals as goal

pub returns-clause-nothing : goal.returns-clause-nothing
returns-clause-nothing c = λ shape into. none_fed shape c.args.base c.args.slot into
