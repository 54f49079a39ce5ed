use Rattle.grape_hub.proofs.CutNotes
use Rattle.grape_hub.proofs.Grounds
use Rattle.grape_hub.proofs.NoteLaws
use Rattle.grape_hub.proofs.laws.notes_tell.Goals as goal

pub returns-clause-grounds : goal.returns-clause-grounds
returns-clause-grounds c = Grounds.grounds_tell

pub returns-clause-begin : goal.returns-clause-begin
returns-clause-begin c = NoteLaws.notes_begin

pub returns-clause-empty : goal.returns-clause-empty
returns-clause-empty c = NoteLaws.empty_is_free

pub returns-clause-records : goal.returns-clause-records
returns-clause-records c = NoteLaws.records_tell

pub returns-clause-works : goal.returns-clause-works
returns-clause-works c = NoteLaws.works_tell

pub returns-clause-cuts : goal.returns-clause-cuts
returns-clause-cuts c = CutNotes.cuts_tell
