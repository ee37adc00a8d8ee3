use Rattle.encoding.proofs.Ranged.{head_can, line_can, stop_can, profile_can, journey_can}
use Rattle.encoding.proofs.passing.PassingRows.row_length.Goals as goal

pub size-requires : goal.size-requires
size-requires g c = head_can _ c.args.self.now.passes c.args.row c.args.kind c.in-Head.is c.requires c.head.result c.head.ensures

pub size-requires-in-Line : goal.size-requires-in-Line
size-requires-in-Line g c = line_can _ c.args.self.now.passes c.args.row c.args.kind c.in-Line.is c.requires c.line.result c.line.ensures

pub size-requires-in-Stop : goal.size-requires-in-Stop
size-requires-in-Stop g c = stop_can _ c.args.self.now.passes c.args.row c.args.kind c.in-Stop.is c.requires c.stop.result c.stop.ensures

pub size-requires-in-Profile : goal.size-requires-in-Profile
size-requires-in-Profile g c = profile_can _ c.args.self.now.passes c.args.row c.args.kind c.in-Profile.is c.requires c.profile.result c.profile.ensures

pub size-requires-in-Journey : goal.size-requires-in-Journey
size-requires-in-Journey g c = journey_can _ c.args.self.now.passes c.args.row c.args.kind c.in-Journey.is c.requires c.journey.result c.journey.ensures
