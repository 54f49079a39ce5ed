use Rattle.std.proofs.Common.{◌↔◌, subst}
use Rattle.token_cut.specs.Shapes.{Starts}
use Rattle.token_cut.specs.Form as form
use Rattle.base_machine.specs.Machine.{system_of}
use Rattle.base_machine.specs.Fitness as fitness
use Rattle.coordinator.proofs.Forms.{shape_is}
use Rattle.coordinator.proofs.laws.forms_agree.Goals as goal

pub returns : goal.returns
returns c job is_job slot s =
    subst (λ (shape : Starts). form.IsInSlotForm shape slot s ↔ (form.IsEpoch slot s.epoch × fitness.IsInForm (system_of job) s)) (shape_is job)
    (c.slots_hold_starts.ensures (system_of job) (c.systems_are_sound.ensures job is_job) slot s)
