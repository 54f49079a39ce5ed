use Rattle.std.proofs.Common.{rules, ap, ◌∙◌}
use Rattle.graph_core.specs.Queries.{equations_of}
use Rattle.pie_core.specs.Solutions.{starts_of}
use Rattle.lane_loop.proofs.Beginnings.{part_made}
use Rattle.lane_loop.proofs.tests.fresh_part.Goals as goal

pub returns : goal.returns
returns g c =
    let e = equations_of c.args.job.now in
    part_made c.args.job.now c.args.part.now c.extend_from_slice.new.self.items c.in_ok-mail.mail.items c.in_ok-values.values.items c.in_ok-mirrors.mirrors.items
    (c.in_ok-values.ensures ∙ ap (starts_of e) c.owned.ensures.owned) (c.in_ok-mirrors.ensures ∙ ap (starts_of e) c.mirrors.ensures.mirrors) (search rules) (search rules)
