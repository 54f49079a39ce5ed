use Rattle.std.proofs.Common.{◌≡◌, ◌<◌, ◌∙◌, ℕ, List, length, get_or, slice_index, sym, ap, subst, arith}
use Rattle.graph_core.specs.Graphs.{count_of, number_at}
use Rattle.graph_core.specs.Fragments.{StandsAt}
use Rattle.answer_text.specs.declared.answer.AnswerRow.{AnswerRow}
use Rattle.answer_text.specs.Assembled.{ids_of, value_in}
use Rattle.answer_text.proofs.RowValues as rows
use Rattle.answer_text.proofs.assembling.assemble.Goals as goal

pub bounds-locals-number : goal.bounds-locals-number
bounds-locals-number c = rows.local_here c.args.fragments.now c.args.locals.now c.requires.locals c.loop-number.number c.loop-number-test.true

pub set_values-requires-clause-inside : goal.set_values-requires-clause-inside
set_values-requires-clause-inside c =
    let owned = c.owned.ensures.owned in
    let long = rows.rows_long (number_at c.args.job.now.graph) (count_of c.args.job.now.graph) c.loop-number.rows.items c.loop-number.invariant.ids in
    λ p d l.
    let inside = rows.part_inside c.args.job.now c.requires.job c.args.fragments.now c.requires.fragments c.loop-number.number c.index-fragments-number.result c.loop-number-test.true c.index-fragments-number.is
    p d (subst (λ (vs : List ℕ). p < length vs) owned l) in
    omega (arith, inside, long, ap (λ (vs : List ℕ). get_or vs p d) owned, ap length c.deref_mut.ensures.value)

pub set_values-requires-clause-once : goal.set_values-requires-clause-once
set_values-requires-clause-once c =
    subst (λ (vs : List ℕ). (p q v : ℕ) → StandsAt vs p v → StandsAt vs q v → p ≡ q) (sym c.owned.ensures.owned)
    (rows.part_once c.args.job.now c.requires.job c.args.fragments.now c.requires.fragments c.loop-number.number c.index-fragments-number.result c.loop-number-test.true c.index-fragments-number.is)

pub set_values-requires-clause-values : goal.set_values-requires-clause-values
set_values-requires-clause-values c =
    let long = rows.local_long c.args.fragments.now c.args.locals.now c.requires.locals c.loop-number.number c.loop-number-test.true c.index-locals-number.result c.index-locals-number.is
    c.index-fragments-number.result c.index-fragments-number.is in
    omega (arith, long, ap length c.owned.ensures.owned, ap length c.values.ensures.values)

pub returns : goal.returns
returns c =
    record {
      kind = c.kind_of.ensures;
      values = value_in c.loop-number.rows.items;
      owners = λ i p v o. c.loop-number.invariant.owners i p v (omega (arith, o.0, rows.count_pieces c.args.job.now c.requires.job c.args.fragments.now c.requires.fragments, c.loop-number-test.false)) o;
      rows = rows.rows_are (number_at c.args.job.now.graph) (count_of c.args.job.now.graph) c.loop-number.rows.items c.loop-number.invariant.ids;
    }

pub loop-number-preserved : goal.loop-number-preserved
loop-number-preserved c =
    let owned = c.owned.ensures.owned in
    let after = c.set_values.new.rows in
    let local = rows.local_values c.args.fragments.now c.args.locals.now c.requires.locals c.loop-number.number c.loop-number-test.true c.index-locals-number.result c.index-locals-number.is in
    let written = rows.written_back c.loop-number.rows.len after c.loop-number.rows.items (omega (arith, c.set_values.auto.rows, c.deref_mut.ensures.len)) in
    let next =
    rows.owners_next c.args.job.now c.requires.job c.args.fragments.now c.requires.fragments c.loop-number.number c.index-fragments-number.result c.loop-number-test.true c.index-fragments-number.is
    c.loop-number.rows.items after c.args.locals.now c.loop-number.invariant.owners
    (λ p v s. c.set_values.ensures.set p v (subst (λ (vs : List ℕ). StandsAt vs p v) (sym owned) s) ∙ ap (λ (vs : List ℕ). slice_index vs p) (c.values.ensures.values ∙ sym local))
    (λ v none. c.set_values.ensures.others v (λ p s. none p (subst (λ (vs : List ℕ). StandsAt vs p v) owned s)) ∙ ap (λ (rs : List AnswerRow). value_in rs v) c.deref_mut.ensures.value) in
    record {
      ids = ap ids_of written ∙ c.set_values.ensures.ids ∙ ap ids_of c.deref_mut.ensures.value ∙ c.loop-number.invariant.ids;
      owners = λ i p v l o. ap (λ (rs : List AnswerRow). value_in rs v) written ∙ next i p v l o;
    }
