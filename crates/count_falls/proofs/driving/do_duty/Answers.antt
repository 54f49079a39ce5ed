use Rattle.std.proofs.Common.{◌∙◌, ap, List}
use Rattle.std.specs.Prelude.{slice_index_or}
use Rattle.grape_hub.specs.declared.lane_record.LaneRecord.{LaneRecord}
use Rattle.grape_hub.specs.LanedHub.{no_record}
use Rattle.count_falls.proofs.Alone.{duty_stays}
use Rattle.count_falls.proofs.driving.do_duty.Goals as goal

pub duty-requires-clause-kept : goal.duty-requires-clause-kept
duty-requires-clause-kept g c = (c.nothing_is_sealed.ensures c.args.hub.now.hub c.requires.hub.0 c.requires.unsealed).0

pub returns : goal.returns
returns g c = record {
  same = duty_stays c.args.hub.now.hub c.duty.new.self.hub c.duty.result c.duty.ensures.chosen;
  hub = c.duty.ensures.hub;
  free = ap (λ (rs : List LaneRecord). (slice_index_or rs 0 no_record).out) c.duty.ensures.lanes ∙ c.requires.free;
}
