use Rattle.message_buffer.specs.Listed.{AreListedFrom}
use Rattle.message_buffer.proofs.listed.clear.Given as goal

-- the values that are left are ahead in the list
abbrev pub invariant-clear : goal.invariant-clear
invariant-clear l = AreListedFrom l.values l.mirrors l.mirror-index
