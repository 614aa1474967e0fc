use Rattle.std.proofs.Common.{◌≡◌, Err, sym, subst}
use Rattle.smol_text.specs.Spans.{stated_lines}
use Rattle.smol_types.specs.declared.fault.Kind.TheVariants.{BadOrder}
use Rattle.smol_line.specs.declared.refusal.Refusal.TheVariants.{At}
use Rattle.smol_blocks.specs.declared.statement.Statement.TheVariants.{Block}
use Rattle.smol_config.specs.Reader.{statement_in}
use Rattle.smol_config.proofs.BlockRead.{compartment_reads, line_refused, surface_reads}
use Rattle.smol_config.proofs.Held.{unopened}
use Rattle.smol_config.proofs.tables.Tables.read_block.Goals as goal

pub returns-in-StartSurface-clause-reads : goal.returns-in-StartSurface-clause-reads
returns-in-StartSurface-clause-reads c =
    let statement = c.requires.statement in
    surface_reads c.args.self.now c.read_surface.new.self (stated_lines c.args.text.now) c.args.at c.args.line.now c.read_surface.result c.requires.is_next (sym (rw c.in-StartSurface.is at statement)) c.read_surface.ensures.kept (c.read_surface.ensures.reads c.args.line.now c.requires.line)

pub returns-in-StartCompartment-clause-reads : goal.returns-in-StartCompartment-clause-reads
returns-in-StartCompartment-clause-reads c =
    let statement = c.requires.statement in
    compartment_reads c.args.self.now c.read_compartment.new.self (stated_lines c.args.text.now) c.args.at c.args.line.now c.read_compartment.result c.requires.is_next (sym (rw c.in-StartCompartment.is at statement)) c.read_compartment.ensures.kept (c.read_compartment.ensures.reads c.args.line.now c.requires.line)

pub returns-in_default-clause-reads : goal.returns-in_default-clause-reads
returns-in_default-clause-reads c =
    rw c.number.ensures
    (line_refused (Block c.args.one) c.args.self.now c.args.self.now (stated_lines c.args.text.now) c.args.at c.args.line.now (At BadOrder) c.requires.is_next c.requires.statement
    (λ kind is before h.
    let same : BadOrder ≡ kind = cc in
    subst (λ why. statement_in (Block c.args.one) before c.args.line.now ≡ Err why) same
    (unopened c.args.one c.args.line.now c.args.self.now before c.in_default.not-StartSurface c.in_default.not-StartCompartment h)))
