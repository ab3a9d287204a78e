use Rattle.nona_graph.proofs.Pairs.{meeting_found, meeting_passed}
use Rattle.nona_graph.proofs.meeting.push_meeting.Goals as goal

pub returns-in_ok-push : goal.returns-in_ok-push
returns-in_ok-push c =
    meeting_found c.args.shape.now c.args.arrays.now.items c.push.new.self.items c.args.spots.now c.args.at c.index-spots-at.result c.index-spots-at-2.result c.meets_some.result c.requires c.index-spots-at.is c.index-spots-at-2.is c.meets_some.ensures c.if-meets_some.true c.in_ok-push.ensures.items

pub returns-else-meets_some : goal.returns-else-meets_some
returns-else-meets_some c =
    meeting_passed c.args.shape.now c.args.arrays.now.items c.args.spots.now c.args.at c.index-spots-at-2.result c.meets_some.result c.requires c.index-spots-at-2.is c.meets_some.ensures c.if-meets_some.false
