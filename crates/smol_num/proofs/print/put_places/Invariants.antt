use Rattle.std.proofs.Common.{◌≡◌, ◌+◌, ◌^◌, ◌<◌, ◌++◌, take}
use Rattle.smol_num.specs.Print.{places_text}
use Rattle.smol_num.proofs.print.put_places.Given as goal

abbrev pub invariant-loop-left : goal.invariant-loop-left
invariant-loop-left l =
    (take l.end l.out ++ places_text l.place l.left ≡ take l.fn.at l.fn.out ++ places_text l.fn.places l.fn.rest)
    × (l.unit ≡ 10 ^ l.place)
    × (l.left < 10 ^ l.place)
    × (l.end + l.place ≡ l.fn.at + l.fn.places)

abbrev pub decreases-loop-left : goal.decreases-loop-left
decreases-loop-left l = l.place
