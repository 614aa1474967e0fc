use Rattle.std.proofs.Common.{◌+◌, ◌*◌}
use Rattle.smol_pairs.proofs.parts.+halves.Given as goal

abbrev pub decreases-look_halved : goal.decreases-look_halved
decreases-look_halved g l = 3 * l.halvings

abbrev pub decreases-look_both : goal.decreases-look_both
decreases-look_both g l = 3 * l.halvings + 2

abbrev pub decreases-look_both-front : goal.decreases-look_both-front
decreases-look_both-front g l = 3 * l.halvings + 1

abbrev pub decreases-look_both-back : goal.decreases-look_both-back
decreases-look_both-back g l = 3 * l.halvings + 1
