use Rattle.std.proofs.Common.{◌+◌, ◌*◌}
use Rattle.smol_step.proofs.parts.+halves.Given as goal

abbrev pub decreases-diffuse_halved : goal.decreases-diffuse_halved
decreases-diffuse_halved g l = 3 * l.halvings

abbrev pub decreases-diffuse_both : goal.decreases-diffuse_both
decreases-diffuse_both g l = 3 * l.halvings + 2

abbrev pub decreases-diffuse_both-front : goal.decreases-diffuse_both-front
decreases-diffuse_both-front g l = 3 * l.halvings + 1

abbrev pub decreases-diffuse_both-back : goal.decreases-diffuse_both-back
decreases-diffuse_both-back g l = 3 * l.halvings + 1
