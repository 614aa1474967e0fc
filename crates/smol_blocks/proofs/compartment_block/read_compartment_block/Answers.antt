use Rattle.std.proofs.Common.{◌≡◌, ◌+◌, [], ℕ, Ok, Err, drop, refl, subst}
use Rattle.std.proofs.lemmas.Result.{err_from_is_err_and}
use Rattle.smol_text.specs.Reading.{Stated}
use Rattle.smol_text.specs.Spans.{stated_lines}
use Rattle.smol_line.specs.Fault.{TellsFault, fault_at}
use Rattle.smol_blocks.specs.declared.drafts.CompartmentDraft.{CompartmentDraft}
use Rattle.smol_blocks.specs.BlockReads.{HoldsBlock, HoldsCompartment}
use Rattle.smol_blocks.specs.BlockText.{block_from, compartment_block, in_compartment_block}
use Rattle.smol_blocks.proofs.CompartmentBlock.{compartment_drafted, compartment_faulty, compartment_refused}
use Rattle.smol_blocks.proofs.compartment_block.read_compartment_block.Goals as goal

pub returns-in-Err-clause-reads : goal.returns-in-Err-clause-reads
returns-in-Err-clause-reads c line is =
    let rest = drop (c.args.at + 1) (stated_lines c.args.text.now) in
    let same : c.line-line.result ≡ line = cc (c.line-line.ensures.value, is) in
    rw (c.told_at.ensures, c.number-in-Err.ensures)
    (subst (λ (l : Stated). compartment_block c.args.axes.now c.args.surfaces.now c.args.compartments.now l (c.args.at + 1) rest ≡ Err (fault_at c.line-line.result.number c.in-Err.kind)) same
    (compartment_refused c.args.axes.now c.args.surfaces.now c.args.compartments.now c.line-line.result (c.args.at + 1) rest c.in-Err.kind c.in-Err.ensures.rule))

pub returns-in_err-compartment-in-Ok-clause-reads : goal.returns-in_err-compartment-in-Ok-clause-reads
returns-in_err-compartment-in-Ok-clause-reads c line is =
    let rest = drop (c.args.at + 1) (stated_lines c.args.text.now) in
    let same : c.line-line.result ≡ line = cc (c.line-line.ensures.value, is) in
    let p = err_from_is_err_and c.from_residual.result c.from_residual.ensures.1 in
    let tells = subst (λ (n : ℕ). TellsFault c.in_err-compartment-in-Ok.field-0.0 (block_from (in_compartment_block c.args.axes.now c.args.surfaces.now) n [] (c.args.at + 1) rest)) c.number.ensures c.in_err-compartment-in-Ok.ensures.refused in
    rw (p.1, p.2)
    (subst (λ (l : Stated). TellsFault c.in_err-compartment-in-Ok.field-0.0 (compartment_block c.args.axes.now c.args.surfaces.now c.args.compartments.now l (c.args.at + 1) rest)) same
    (compartment_faulty c.args.axes.now c.args.surfaces.now c.args.compartments.now c.line-line.result (c.args.at + 1) rest c.in-Ok.name.now c.in_err-compartment-in-Ok.field-0.0 c.in-Ok.ensures.rule tells))

pub returns-in-Ok-from_text-clause-reads : goal.returns-in-Ok-from_text-clause-reads
returns-in-Ok-from_text-clause-reads c line is =
    let rest = drop (c.args.at + 1) (stated_lines c.args.text.now) in
    let same : c.line-line.result ≡ line = cc (c.line-line.ensures.value, is) in
    let draft : CompartmentDraft = record { name = c.in-Ok-from_text.name; compartment = c.in_ok-compartment-in-Ok.compartment } in
    let read = subst (λ (n : ℕ). HoldsBlock HoldsCompartment (block_from (in_compartment_block c.args.axes.now c.args.surfaces.now) n [] (c.args.at + 1) rest) c.in_ok-compartment-in-Ok.compartment c.in_ok-compartment-in-Ok.next) c.number.ensures c.in_ok-compartment-in-Ok.ensures.accepted in
    subst (λ (l : Stated). compartment_block c.args.axes.now c.args.surfaces.now c.args.compartments.now l (c.args.at + 1) rest ≡ Ok (draft, c.in_ok-compartment-in-Ok.next)) same
    (compartment_drafted c.args.axes.now c.args.surfaces.now c.args.compartments.now c.line-line.result (c.args.at + 1) rest c.in-Ok.name.now c.in_ok-compartment-in-Ok.next c.in_ok-compartment-in-Ok.compartment draft c.in-Ok.ensures.rule
    read c.in-Ok-from_text.ensures refl)
