use Rattle.std.proofs.Common.{◌≡◌, ◌∙◌, sym, ap, arith, ℕ, ◌*◌, set, get_or, drop}
use Rattle.snapshot_file.specs.Reading.{number}
use Rattle.snapshot_file.specs.Rules.{allows_of}
use Rattle.snapshot_file.proofs.Steps.{reads_more, filled_more, fills_at}
use Rattle.snapshot_file.proofs.reading.read_numbers.Goals as goal

pub returns-then-not-allows-clause-filled : goal.returns-then-not-allows-clause-filled
returns-then-not-allows-clause-filled c =
    fills_at c.loop-i.i _ c.args.bytes.now c.args.into.now c.loop-i.into c.args.at _ (omega arith) c.loop-i.invariant.filled (omega arith)

pub loop-i-preserved : goal.loop-i-preserved
loop-i-preserved c =
    let is : c.read_u64-number.result ≡ number (drop (8 * c.loop-i.i) c.args.bytes.now) = c.read_u64-number.ensures ∙ ap number c.split_at.ensures.back in
    let allowed = sym (c.allows.ensures ∙ ap (allows_of c.args.rule c.args.order (get_or c.args.starts.now c.loop-i.i 0)) is) ∙ c.if-not-allows.false in
    record {
      reads = reads_more (allows_of c.args.rule c.args.order) c.args.starts.now c.args.at c.args.bytes.now c.loop-i.i c.loop-i-test.true allowed c.loop-i.invariant.reads;
      filled = ap (λ (n : ℕ). set c.loop-i.into c.loop-i.i n) is
          ∙ filled_more c.loop-i.i c.args.bytes.now c.args.into.now c.loop-i.into (omega arith) c.loop-i.invariant.filled;
    }
