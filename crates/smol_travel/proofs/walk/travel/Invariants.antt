use Rattle.std.proofs.Common.{length}
use Rattle.smol_geom.specs.Moments.{moments, moments_after}
use Rattle.smol_travel.specs.Meetings.{IsOnWay}
use Rattle.smol_travel.proofs.walk.travel.Given as goal

-- each round leaves fewer moments
abbrev pub invariant-loop-next : goal.invariant-loop-next
invariant-loop-next l = IsOnWay l.panels l.species (record { from = l.from; by = l.by; fold = l.fold }) l.present l.last

abbrev pub decreases-loop-next : goal.decreases-loop-next
decreases-loop-next l = length (moments_after l.last (moments l.from l.by))
