use Rattle.std.proofs.Common.{refl}
use Rattle.snapshot_file.proofs.ReadBack.{reads_back}
use Rattle.snapshot_file.proofs.writing.encode.Goals as goal

pub returns-clause-reads_back : goal.returns-clause-reads_back
returns-clause-reads_back c = λ shape slot at in_form. reads_back shape slot at _ c.args.snapshot.now (record { bytes = refl; in_form = in_form })
