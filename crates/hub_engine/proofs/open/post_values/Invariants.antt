-- What is left to post leads to the whole.
use Rattle.std.proofs.Common.{◌≡◌, false, length, drop}
use Rattle.base_machine.specs.Machine.{posts_from}
use Rattle.hub_engine.specs.Posting.{with_posts}
use Rattle.hub_engine.proofs.open.post_values.Given as goal

abbrev pub invariant-mail : goal.invariant-mail
invariant-mail l = record {
  left : with_posts false (posts_from l.mirror (drop l.mirror l.mail)) l.buffer ≡ with_posts false (posts_from 0 l.mail) l.initial.buffer;
  mirrors : length l.buffer.plain ≡ length l.initial.buffer.plain;
}
