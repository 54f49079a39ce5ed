use Rattle.grape_run.proofs.Tried.{has_tried, refused_state}
use Rattle.grape_run.proofs.running.run_from.Goals as goal

pub returns-clause-tried : goal.returns-clause-tried
returns-clause-tried g c =
    let D = g.D.Disk in
    let claims = c.claims_add_up.ensures in
    has_tried D.content D.images D.moment D.honest claims.grows claims.join claims.tells c.args.beginning c.args.job.now c.args.digest.now c.args.fragments.now c.in-Ok.entry.start c.in-Ok.entry.store c.ran_by-ran.result _ _ _ c.requires.job
    c.in-Ok.ensures.entry.enters c.in-Ok.ensures.entry.crash c.in-Ok.ensures.entry.unused c.in-Ok.ensures.honest c.ran_by-ran.ensures.run c.ran_by-ran.ensures.used c.ran_by-ran.ensures.unkept c.ran_by-ran.ensures.crash

pub returns-in-Err-clause-tried : goal.returns-in-Err-clause-tried
returns-in-Err-clause-tried g c =
    let D = g.D.Disk in
    let e = c.in-Err.ensures.entry in
    (e.enters.0, e.enters.1, refused_state D.content D.images D.moment D.honest c.claims_add_up.ensures.tells c.args.beginning c.args.job.now c.args.digest.now _ _ c.requires.job e.unused e.crash)
