use Rattle.std.proofs.Common.{ap}
use Rattle.refusals.specs.declared.Kind.TheVariants as kinds
use Rattle.layout.specs.Writing.{journey_body}
use Rattle.writing.proofs.Putting.{put_as}
use Rattle.encoding.proofs.Ranged.{head_can, line_can, stop_can, profile_can, journey_can, field_at}
use Rattle.encoding.proofs.passing.PassingRows.put_row.Goals as goal

pub put_field-requires-clause-can : goal.put_field-requires-clause-can
put_field-requires-clause-can g c = head_can _ c.args.self.now.passes c.args.row c.args.kind c.in-Head.is c.requires.within c.head.result c.head.ensures

pub put_field-requires-in-Line-clause-can : goal.put_field-requires-in-Line-clause-can
put_field-requires-in-Line-clause-can g c = line_can _ c.args.self.now.passes c.args.row c.args.kind c.in-Line.is c.requires.within c.line.result c.line.ensures

pub put_field-requires-in-Stop-clause-can : goal.put_field-requires-in-Stop-clause-can
put_field-requires-in-Stop-clause-can g c = stop_can _ c.args.self.now.passes c.args.row c.args.kind c.in-Stop.is c.requires.within c.stop.result c.stop.ensures

pub put_field-requires-in-Profile-clause-can : goal.put_field-requires-in-Profile-clause-can
put_field-requires-in-Profile-clause-can g c = profile_can _ c.args.self.now.passes c.args.row c.args.kind c.in-Profile.is c.requires.within c.profile.result c.profile.ensures

pub put_field-requires-in-Journey-clause-can : goal.put_field-requires-in-Journey-clause-can
put_field-requires-in-Journey-clause-can g c = journey_can _ c.args.self.now.passes c.args.row c.args.kind c.in-Journey.is c.requires.within c.journey.result c.journey.ensures

pub returns-in-Journey : goal.returns-in-Journey
returns-in-Journey g c = put_as (field_at _ c.args.row c.args.kind kinds.Journey c.in-Journey.is _ (ap journey_body c.journey.ensures)) c.put_field-in-Journey.ensures
