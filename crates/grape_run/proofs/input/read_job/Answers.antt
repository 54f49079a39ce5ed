use Rattle.std.proofs.Common.{rules, ◌++◌, take, refl, arith, length-append, ◌∙◌}
use Rattle.std.proofs.lemmas.List.{length-take}
use Rattle.grape_run.specs.Runs.{digest_of}
use Rattle.grape_run.proofs.Pieces.{takes_front-append, reads_bad, reads_whole, reads_failed, fits_bad}
use Rattle.grape_run.proofs.input.read_job.Goals as goal

pub returns-in-Err-feed-clause-read : goal.returns-in-Err-feed-clause-read
returns-in-Err-feed-clause-read g c =
    let so_far = c.loop-turn.invariant in
    reads_bad _ _ _ _ (takes_front-append _ _ _ _ _ so_far.taken c.in-Ok-read.ensures.moved) (c.in-Err-feed.ensures.answer so_far.text so_far.has_read)

pub returns-in_default-read-clause-read : goal.returns-in_default-read-clause-read
returns-in_default-read-clause-read g c =
    let so_far = c.loop-turn.invariant in reads_failed _ _ _ so_far.text so_far.taken (search rules) so_far.has_read.reads.none_shown

pub returns-in-Err-clause-read : goal.returns-in-Err-clause-read
returns-in-Err-clause-read g c =
    let so_far = c.loop-turn.invariant in
    reads_whole _ _ _ so_far.text _ _ so_far.taken (c.in-Ok-read.ensures.end (omega (arith, so_far.room)) c.if-count-eq0.true) c.in-Ok-read.ensures.moved
    (fits_bad so_far.text c.in-Err.fault (c.in-Err.ensures.answer so_far.text so_far.has_read))

pub returns-then-count-eq0-clause-read : goal.returns-then-count-eq0-clause-read
unfolding digest_of
returns-then-count-eq0-clause-read g c =
    let so_far = c.loop-turn.invariant in
    reads_whole _ _ _ so_far.text _ _ so_far.taken (c.in-Ok-read.ensures.end (omega (arith, so_far.room)) c.if-count-eq0.true) c.in-Ok-read.ensures.moved
    (refl, c.in-Ok-finish.ensures.answer so_far.text so_far.has_read, c.finalize-digest.ensures so_far.text so_far.hashed)

pub loop-turn-preserved : goal.loop-turn-preserved
loop-turn-preserved g c =
    let so_far = c.loop-turn.invariant in
    let next = take c.in-Ok-read.count c.read.new.to in
    record {
      text = so_far.text ++ next;
      hashed = c.update.ensures so_far.text so_far.hashed;
      has_read = c.in_default-feed.ensures.ok so_far.text so_far.has_read;
      taken = takes_front-append _ _ _ _ _ so_far.taken c.in-Ok-read.ensures.moved;
      turns = omega (
        arith,
        so_far.turns,
        length-append so_far.text next,
        length-take c.in-Ok-read.count c.read.new.to,
        c.in-Ok-read.ensures.count,
        c.read.auto.to,
        c.if-count-eq0.false,
      );
      few = c.in_default-feed.ensures.few so_far.text so_far.has_read;
      room = c.read.auto.to ∙ so_far.room;
      faults_stay = omega (arith, so_far.faults_stay, c.in-Ok-read.ensures.faults_stay);
    }
