-- What a probe may be told.
use Rattle.std.proofs.Common.{◌≡◌, true, false, not, ◌&&◌, ◌||◌, IsTrue, sym, ◌∙◌, subst}
use Rattle.std.proofs.lemmas.Bool.{and_parts, not-true}
use Rattle.grape_event.specs.declared.event.Event.{Event}
use Rattle.grape_event.specs.declared.event.Event.TheVariants.{Take, Give, Stretch, Hold, Flag, Ask, Ack, Nack, Begin, Mark, Seal, Kept, End, Stop}
use Rattle.base_machine.specs.Machine.{System, worker_at, rests, batch_waits}
use Rattle.legal_journal.specs.Past.{has_ended}
use Rattle.legal_journal.specs.Legal.{State, rests_without_mail, row_admits, is_admitted}
use Rattle.stop_probe.specs.ProbeValues.{ProbeValues}
use Rattle.stop_probe.specs.Probe.{may_flag, may_ask, may_answer, took_since_ask}
use Rattle.stop_probe.specs.Journals.{probe_at}
use Rattle.stop_probe.proofs.Following.{meets_the_table}
use Rattle.hub_engine.specs.Calls.{IsNote}
use Rattle.hub_engine.specs.Hearing.{MayHear}

-- the probe may be told of an event that is admitted
pub heard : (sys : System) (s : State) (e : Event) (probe : ProbeValues) → probe ≡ probe_at s → IsNote e → is_admitted sys s e ≡ true → MayHear e probe
heard sys s (Take i k) probe p n a = absurd n
heard sys s (Give i) probe p n a = absurd n
heard sys s (Stretch i t) probe p n a = absurd n
heard sys s (Hold i) probe p n a = tt
heard sys s (Flag i) probe p n a =
    let row = (and_parts (not (has_ended s.past)) (row_admits sys s (Flag i)) a).1 in
    subst (λ (q : ProbeValues). IsTrue (may_flag i q)) (sym p) (and_parts (may_flag i (probe_at s)) (rests_without_mail s i) (sym ((meets_the_table sys s).flag i) ∙ row)).0
heard sys s Ask probe p n a =
    let row = (and_parts (not (has_ended s.past)) (row_admits sys s Ask) a).1 in
    subst (λ (q : ProbeValues). IsTrue (may_ask q)) (sym p) (sym (meets_the_table sys s).ask ∙ row)
heard sys s (Ack i) probe p n a =
    let row = (and_parts (not (has_ended s.past)) (row_admits sys s (Ack i)) a).1 in
    let k = and_parts (may_answer i (probe_at s) && rests_without_mail s i) (not (took_since_ask i (probe_at s))) (sym ((meets_the_table sys s).ack i) ∙ row) in
    subst (λ (q : ProbeValues). IsTrue (may_answer i q) × (took_since_ask i q ≡ false)) (sym p)
    ((and_parts (may_answer i (probe_at s)) (rests_without_mail s i) k.0).0, not-true (took_since_ask i (probe_at s)) k.1)
heard sys s (Nack i) probe p n a =
    let row = (and_parts (not (has_ended s.past)) (row_admits sys s (Nack i)) a).1 in
    let k = and_parts (may_answer i (probe_at s) && rests (worker_at s.workers i)) (batch_waits (worker_at s.workers i) || took_since_ask i (probe_at s)) (sym ((meets_the_table sys s).nack i) ∙ row) in
    subst (λ (q : ProbeValues). IsTrue (may_answer i q)) (sym p) (and_parts (may_answer i (probe_at s)) (rests (worker_at s.workers i)) k.0).0
heard sys s (Begin e) probe p n a = absurd n
heard sys s (Mark i) probe p n a = absurd n
heard sys s (Seal e) probe p n a = absurd n
heard sys s (Kept e) probe p n a = absurd n
heard sys s End probe p n a = tt
heard sys s (Stop c) probe p n a = absurd n
