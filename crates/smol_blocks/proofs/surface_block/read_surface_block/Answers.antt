use Rattle.std.proofs.Common.{◌≡◌, ◌+◌, [], ℕ, List, Some, Ok, Err, drop, sym, subst}
use Rattle.std.proofs.lemmas.Result.{err_from_is_err_and}
use Rattle.smol_text.specs.Reading.{Stated}
use Rattle.smol_text.specs.Spans.{stated_lines}
use Rattle.smol_line.specs.Fault.{TellsFault, fault_at}
use Rattle.smol_blocks.specs.BlockReads.{HoldsBlock}
use Rattle.smol_blocks.specs.BlockText.{block_from, in_surface_block, surface_block}
use Rattle.smol_blocks.specs.SurfaceTable.{Holds, known_of}
use Rattle.smol_blocks.proofs.SurfaceBlock.{surface_drafted, surface_faulty, surface_refused, surface_unplaced}
use Rattle.smol_blocks.proofs.surface_block.read_surface_block.Goals as goal

pub returns-in-Err-needs_dim-clause-reads : goal.returns-in-Err-needs_dim-clause-reads
returns-in-Err-needs_dim-clause-reads c line is =
    let rest = drop (c.args.at + 1) (stated_lines c.args.text.now) in
    let same : c.line-line.result ≡ line = cc (c.line-line.ensures.value, is) in
    rw (c.told_at.ensures, c.number.ensures)
    (subst (λ (l : Stated). surface_block c.args.axes.now c.args.species.now c.args.surfaces.now c.args.panels l (c.args.at + 1) rest ≡ Err (fault_at c.line-line.result.number c.in-Err-needs_dim.kind)) same
    (surface_unplaced c.args.axes.now c.args.species.now c.args.surfaces.now c.args.panels c.line-line.result (c.args.at + 1) rest c.in-Ok.name.now c.in-Err-needs_dim.kind c.in-Ok.ensures.rule (sym c.in-Err-needs_dim.ensures)))

pub returns-in-Err-clause-reads : goal.returns-in-Err-clause-reads
returns-in-Err-clause-reads c line is =
    let rest = drop (c.args.at + 1) (stated_lines c.args.text.now) in
    let same : c.line-line.result ≡ line = cc (c.line-line.ensures.value, is) in
    rw (c.told_at-in-Err.ensures, c.number-in-Err.ensures)
    (subst (λ (l : Stated). surface_block c.args.axes.now c.args.species.now c.args.surfaces.now c.args.panels l (c.args.at + 1) rest ≡ Err (fault_at c.line-line.result.number c.in-Err.kind)) same
    (surface_refused c.args.axes.now c.args.species.now c.args.surfaces.now c.args.panels c.line-line.result (c.args.at + 1) rest c.in-Err.kind c.in-Err.ensures.rule))

pub returns-in_err-table-in-Ok-clause-reads : goal.returns-in_err-table-in-Ok-clause-reads
returns-in_err-table-in-Ok-clause-reads c line is =
    let rest = drop (c.args.at + 1) (stated_lines c.args.text.now) in
    let same : c.line-line.result ≡ line = cc (c.line-line.ensures.value, is) in
    let p = err_from_is_err_and c.from_residual.result c.from_residual.ensures.1 in
    let tells = subst (λ (n : ℕ). TellsFault c.in_err-table-in-Ok.field-0.0 (block_from (in_surface_block (known_of c.in-Ok-needs_dim.dims c.args.species.now c.args.panels)) n [] (c.args.at + 1) rest)) c.number-in-Ok.ensures c.in_err-table-in-Ok.ensures.refused in
    rw (p.1, p.2)
    (subst (λ (l : Stated). TellsFault c.in_err-table-in-Ok.field-0.0 (surface_block c.args.axes.now c.args.species.now c.args.surfaces.now c.args.panels l (c.args.at + 1) rest)) same
    (surface_faulty c.args.axes.now c.args.species.now c.args.surfaces.now c.args.panels c.line-line.result (c.args.at + 1) rest c.in-Ok.name.now c.in-Ok-needs_dim.dims c.in_err-table-in-Ok.field-0.0 c.in-Ok.ensures.rule (sym c.in-Ok-needs_dim.ensures) tells))

pub returns-in-Ok-draft_of-clause-reads : goal.returns-in-Ok-draft_of-clause-reads
returns-in-Ok-draft_of-clause-reads c line is =
    let rest = drop (c.args.at + 1) (stated_lines c.args.text.now) in
    let same : c.line-line.result ≡ line = cc (c.line-line.ensures.value, is) in
    let read = subst (λ (n : ℕ). HoldsBlock Holds (block_from (in_surface_block (known_of c.in-Ok-needs_dim.dims c.args.species.now c.args.panels)) n [] (c.args.at + 1) rest) c.in_ok-table-in-Ok.table c.in_ok-table-in-Ok.next) c.number-in-Ok.ensures c.in_ok-table-in-Ok.ensures.accepted in
    subst (λ (l : Stated). surface_block c.args.axes.now c.args.species.now c.args.surfaces.now c.args.panels l (c.args.at + 1) rest ≡ Ok (c.in-Ok-draft_of.draft, c.in_ok-table-in-Ok.next)) same
    (surface_drafted c.args.axes.now c.args.species.now c.args.surfaces.now c.args.panels c.line-line.result (c.args.at + 1) rest c.in-Ok.name.now c.in-Ok-needs_dim.dims c.in_ok-table-in-Ok.next c.len.result c.in_ok-table-in-Ok.table c.in-Ok-draft_of.draft c.in-Ok.ensures.rule (sym c.in-Ok-needs_dim.ensures)
    read c.in_ok-table-in-Ok.ensures.ready c.len.ensures c.in-Ok-draft_of.ensures.name c.in-Ok-draft_of.ensures.surface c.in-Ok-draft_of.ensures.panels)
