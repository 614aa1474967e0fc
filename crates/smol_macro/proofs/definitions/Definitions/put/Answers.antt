use Rattle.std.proofs.Math.Path.{fun_ext}
use Rattle.smol_macro.proofs.Entries.{meaning_in-put}
use Rattle.smol_macro.proofs.definitions.Definitions.put.Goals as goal

pub returns-clause-put : goal.returns-clause-put
returns-clause-put c =
    fun_ext (λ other. meaning_in-put other c.args.name.now c.args.self.now.meanings.entries c.insert.new.self.entries c.in_ok-name.name c.args.meaning c.in_ok-insert.ensures.entries c.in_ok-name.ensures.items)
