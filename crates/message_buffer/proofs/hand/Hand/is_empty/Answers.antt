use Rattle.message_buffer.proofs.Listing.{listed-empty}
use Rattle.message_buffer.proofs.hand.Hand.is_empty.Goals as goal

pub returns : goal.returns
returns c = rw (← c.self.view_is, c.is_empty.ensures, c.deref.ensures, c.self.inside.lists.value.mirrors.ok.0) (listed-empty c.self.inside.lists.value.values.items c.self.inside.lists.value.mirrors.items c.self.invariant.these)
