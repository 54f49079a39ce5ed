use Rattle.std.proofs.Common.{Option, Some, sym, ap, ◌∙◌, subst}
use Rattle.command_words.specs.declared.words.Mode.{Mode}
use Rattle.grape_run.specs.Commands.{Does}
use Rattle.grape_run.proofs.run.run.Goals as goal

pub returns-in-Demo-clause-does : goal.returns-in-Demo-clause-does
returns-in-Demo-clause-does g c =
    let D = g.D.Disk in
    subst (λ (asked : Option Mode). Does D.content D.images D.moment D.honest asked c.run_demo.result.status c.run_demo.result.story (g.S.Source.left c.args.input.now) (g.O.Sink.written c.args.out.now) (g.O.Sink.written c.run_demo.new.out) c.args.disk.now c.run_demo.new.disk)
    (sym (c.in-Ok.ensures.asked ∙ ap (λ (m : Mode). Some m) c.in-Demo.is))
    (c.run_demo.ensures.does (g.S.Source.left c.args.input.now))
