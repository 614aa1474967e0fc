use Rattle.smol_cells.proofs.grid.Grid.edges_in.Goals as goal

pub overflow_shr-result : goal.overflow_shr-result
overflow_shr-result c = (c.args.self.now.exact c.in-Some.shift c.in-Some.is).0
