use Rattle.std.proofs.Common.{inl}
use Rattle.smol_edge.proofs.mem_source.MemSourceSource.open.Goals as goal

-- the call was numbered
pub returns-then-is_numbered-clause-fails_only : goal.returns-then-is_numbered-clause-fails_only
returns-then-is_numbered-clause-fails_only c =
    rw (← c.self.view_is) (inl (c.begin-is_numbered.ensures.numbered.0 c.if-is_numbered.true))
