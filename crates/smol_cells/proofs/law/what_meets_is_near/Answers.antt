use Rattle.smol_cells.specs.Meeting.{rect_at}
use Rattle.smol_cells.specs.Numbered.{boxes_of_place, boxes_of_rect}
use Rattle.smol_cells.specs.Placed.{nowhere, place_at}
use Rattle.smol_cells.proofs.NearLists.{meeting_of_met, met_near}
use Rattle.smol_cells.proofs.law.what_meets_is_near.Goals as goal

pub returns-clause-places : goal.returns-clause-places
returns-clause-places c = λ grid places cuboid index known met.
    met_near grid places (boxes_of_place grid) nowhere cuboid index known (meeting_of_met grid cuboid (place_at places index).0 (place_at places index).0 met)

pub returns-clause-rects : goal.returns-clause-rects
returns-clause-rects c = λ grid rects cuboid index known met.
    met_near grid rects (boxes_of_rect grid) _ cuboid index known (meeting_of_met grid cuboid (rect_at rects index).low (rect_at rects index).high met)
