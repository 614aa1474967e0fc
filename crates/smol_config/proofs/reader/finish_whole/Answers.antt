use Rattle.std.proofs.Common.{ap, sym, ◌∙◌, Err}
use Rattle.smol_blocks.specs.Blocks.{opening_line}
use Rattle.smol_config.proofs.Reading.{refused_whole, whole_closed}
use Rattle.smol_config.proofs.reader.finish_whole.Goals as goal

pub returns-in-Ok-clause-accepted : goal.returns-in-Ok-clause-accepted
returns-in-Ok-clause-accepted c before h =
    whole_closed before (sym (ap opening_line h.blocks.closed)) ∙ c.in-Ok.ensures.accepted before h

pub returns-in-Err-clause-refused : goal.returns-in-Err-clause-refused
returns-in-Err-clause-refused c before h =
    rw c.told_at.ensures
    (refused_whole c.in-Err.refusal _ (λ kind is. whole_closed before (sym (ap opening_line h.blocks.closed)) ∙ c.in-Err.ensures.refused kind before (ap (λ why. Err why) is) h))
