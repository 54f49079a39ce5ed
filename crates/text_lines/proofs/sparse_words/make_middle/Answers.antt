use Rattle.std.proofs.Common.{◌≡◌, ◌*◌, ◌/◌, suc, length, arith, sym, ◌∙◌}
use Rattle.std.proofs.lemmas.Grind.{get_or_default_zero}
use Rattle.text_lines.proofs.TableSteps.{lengthened, IsGiven, given_alike, given_apart}
use Rattle.text_lines.proofs.sparse_words.make_middle.Goals as goal

is_given : (c : goal.After-tops-1) → IsGiven 512 c.args.tops.now.items c.args.middles.now.items c.args.top (c.len-blocks.result / 512) c.in-Ok.name c.resize.new.self.items
is_given c =
    let items = c.in_ok-resize.ensures.items
    in let before : length c.args.middles.now.items ≡ c.len-blocks.result / 512 * 512 = omega (arith, c.requires.order.whole, c.len-blocks.ensures, c.args.middles.now.ok)
    in let name : c.in-Ok.name ≡ suc (c.len-blocks.result / 512) = omega (arith, c.in-Ok.ensures)
    in let after : length c.resize.new.self.items ≡ c.in-Ok.name * 512 = omega (arith, c.in_ok-resize.ensures.len, c.resize.new.self.ok, name)
    in record {
      inside = c.requires.inside;
      free = sym (c.index.ensures ∙ get_or_default_zero c.args.tops.now.items c.args.top c.index.result.now c.requires.inside) ∙ c.if-index-ne0.false;
      is_next = name;
      before = before;
      after = after;
      larger = omega (arith, before, after, name);
      says = lengthened c.args.middles.now.items c.resize.new.self.items _ _ (omega (arith, before)) items;
      whole = omega (arith, after);
    }

pub returns-clause-alike : goal.returns-clause-alike
returns-clause-alike c = given_alike 512 c.args.tops.now.items c.args.middles.now.items c.args.top (c.len-blocks.result / 512) c.in-Ok.name c.resize.new.self.items (is_given c)

pub returns-clause-order : goal.returns-clause-order
returns-clause-order c = given_apart 512 c.args.tops.now.items c.args.middles.now.items c.args.top (c.len-blocks.result / 512) c.in-Ok.name c.resize.new.self.items (is_given c) c.requires.order

pub returns-clause-same : goal.returns-clause-same
returns-clause-same c = (is_given c).says
