use Rattle.std.proofs.Common.{◌≡◌, ◌*◌, ◌/◌, suc, length, arith, sym, ◌∙◌}
use Rattle.std.proofs.lemmas.Grind.{get_or_default_zero}
use Rattle.text_lines.proofs.TableSteps.{lengthened, IsGiven, given_alike, given_apart}
use Rattle.text_lines.proofs.sparse_words.make_words.Goals as goal

is_given : (c : goal.After-middles-1) → IsGiven 8 c.args.middles.now.items c.args.words.now.items c.args.entry (c.len-blocks.result / 8) c.in-Ok.name c.resize.new.self.items
is_given c =
    let items = c.in_ok-resize.ensures.items
    in let before : length c.args.words.now.items ≡ c.len-blocks.result / 8 * 8 = omega (arith, c.requires.order.whole, c.len-blocks.ensures, c.args.words.now.ok)
    in let name : c.in-Ok.name ≡ suc (c.len-blocks.result / 8) = omega (arith, c.in-Ok.ensures)
    in let after : length c.resize.new.self.items ≡ c.in-Ok.name * 8 = omega (arith, c.in_ok-resize.ensures.len, c.resize.new.self.ok, name)
    in record {
      inside = c.requires.inside;
      free = sym (c.index.ensures ∙ get_or_default_zero c.args.middles.now.items c.args.entry c.index.result.now c.requires.inside) ∙ c.if-index-ne0.false;
      is_next = name;
      before = before;
      after = after;
      larger = omega (arith, before, after, name);
      says = lengthened c.args.words.now.items c.resize.new.self.items _ _ (omega (arith, before)) items;
      whole = omega (arith, after);
    }

pub returns-clause-alike : goal.returns-clause-alike
returns-clause-alike c = given_alike 8 c.args.middles.now.items c.args.words.now.items c.args.entry (c.len-blocks.result / 8) c.in-Ok.name c.resize.new.self.items (is_given c)

pub returns-clause-order : goal.returns-clause-order
returns-clause-order c = given_apart 8 c.args.middles.now.items c.args.words.now.items c.args.entry (c.len-blocks.result / 8) c.in-Ok.name c.resize.new.self.items (is_given c) c.requires.order
