use Rattle.message_buffer.proofs.Posting.{has_posted}
use Rattle.message_buffer.proofs.laws.buffer_has_what_was_posted.Goals as goal

pub returns : goal.returns
returns c = has_posted
