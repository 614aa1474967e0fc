use Rattle.std.proofs.Common.{◌≤◌, ◌<◌, ◌+◌, ◌*◌, ◌/◌, ap, subst}
use Rattle.smol_stats.proofs.ShellLemmas.{in_its_shell}
use Rattle.smol_stats.proofs.shells.Shells.of_square.Goals as goal

pub returns : goal.returns
returns c =
    let reach = c.args.self.now.reach in
    let n = c.args.self.now.n in
    let square = c.args.square in
    let root = c.isqrt-root.result in
    let near : square < reach * reach = subst (λ r. square < r * r) c.from-reach.ensures c.if-square-reach.false in
    let low : root * root ≤ square * (n * n) = subst (λ m. root * root ≤ square * (m * m)) c.from-n.ensures c.isqrt-root.ensures.square_le in
    let high : square * (n * n) < (root + 1) * (root + 1) = subst (λ m. square * (m * m) < (root + 1) * (root + 1)) c.from-n.ensures c.isqrt-root.ensures.next_square_gt in
    in_its_shell reach n square root (root / c.from-reach.result) c.args.self.now.positive c.args.self.now.some near low high (ap (λ r. root / r) c.from-reach.ensures)
