-- The block of a compartment, by how its parts are read.
use Rattle.std.proofs.Common.{◌≡◌, [], ℕ, List, Result, Ok, Err, refl, sym, ap, ◌∙◌, subst}
use Rattle.smol_text.specs.Reading.{Stated}
use Rattle.smol_types.specs.declared.compartment.Compartment.{Compartment}
use Rattle.smol_types.specs.declared.fault.ConfigFault.{ConfigFault}
use Rattle.smol_types.specs.declared.fault.ConfigFault.TheVariants as config_fault
use Rattle.smol_types.specs.declared.fault.Kind.{Kind}
use Rattle.smol_types.specs.Limits.{most_compartments}
use Rattle.smol_line.specs.declared.axes.Axes.{Axes}
use Rattle.smol_line.specs.Checks.{with_value}
use Rattle.smol_line.specs.Fault.{Fault, fault_at, TellsFault}
use Rattle.smol_blocks.specs.declared.drafts.CompartmentDraft.{CompartmentDraft}
use Rattle.smol_blocks.specs.BlockName.{block_name_in}
use Rattle.smol_blocks.specs.BlockReads.{HoldsBlock, HoldsCompartment}
use Rattle.smol_blocks.specs.BlockText.{block_from, compartment_block, compartment_draft, in_compartment_block}
use Rattle.smol_blocks.specs.Compartment.{CompartmentSaid}

module _ (axes : Axes) (surfaces compartments : List (List ℕ)) (line : Stated) (at : ℕ) (lines : List Stated) where
  -- a name that is refused
  pub compartment_refused : (kind : Kind) → block_name_in axes compartments most_compartments line ≡ Err kind → compartment_block axes surfaces compartments line at lines ≡ Err (fault_at line.number kind)
  unfolding compartment_block
  compartment_refused kind named = rw named refl

  -- else the lines of the block are read
  pub compartment_opened : (name : List ℕ) → block_name_in axes compartments most_compartments line ≡ Ok name
      → compartment_block axes surfaces compartments line at lines
      ≡ with_value (block_from (in_compartment_block axes surfaces) line.number [] at lines) (λ read. Ok (compartment_draft name read.0, read.1))
  unfolding compartment_block
  compartment_opened name named = rw named refl

  -- a fault in them
  pub compartment_faulty : (name : List ℕ) (fault : ConfigFault) → block_name_in axes compartments most_compartments line ≡ Ok name
      → TellsFault fault (block_from (in_compartment_block axes surfaces) line.number [] at lines) → TellsFault fault (compartment_block axes surfaces compartments line at lines)
  compartment_faulty name fault named tells =
      subst (TellsFault fault) (sym (compartment_opened name named)) (told fault (block_from (in_compartment_block axes surfaces) line.number [] at lines) tells)
    where
      told : (fault : ConfigFault) (read : Result (List CompartmentSaid × ℕ) Fault) → TellsFault fault read → TellsFault {T = CompartmentDraft × ℕ} fault (with_value read (λ read. Ok (compartment_draft name read.0, read.1)))
      told (config_fault.At number kind) read tells = ap (λ (r : Result (List CompartmentSaid × ℕ) Fault). with_value r (λ read. Ok (compartment_draft name read.0, read.1))) tells
      told config_fault.OutOfMemory read tells = tt

  -- the compartment of the lines
  pub compartment_drafted : (name : List ℕ) (next : ℕ) (compartment : Compartment) (draft : CompartmentDraft) → block_name_in axes compartments most_compartments line ≡ Ok name
      → HoldsBlock HoldsCompartment (block_from (in_compartment_block axes surfaces) line.number [] at lines) compartment next
      → draft.name ≡ name → draft.compartment ≡ compartment
      → compartment_block axes surfaces compartments line at lines ≡ Ok (draft, next)
  compartment_drafted name next compartment draft named read same made =
      let whole = made ∙ read.2 in
      let drafted : compartment_draft name read.0 ≡ draft = λ i. record { name = sym same i; compartment = sym whole i } in
      compartment_opened name named
      ∙ ap (λ (r : Result (List CompartmentSaid × ℕ) Fault). with_value r (λ read. Ok (compartment_draft name read.0, read.1))) read.1
      ∙ ap (λ (d : CompartmentDraft). Ok (d, next)) drafted
