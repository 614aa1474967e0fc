-- Reading on, line by line, and how it ends.
use Rattle.std.proofs.Common.{◌≡◌, List, [], ◌∷◌, Result, Ok, Err, IfOk, IfErr, ℕ, None, Some, length, ◌≤◌, refl, sym, subst, ap, ◌∙◌}
use Rattle.smol_text.specs.Reading.{Stated}
use Rattle.smol_types.specs.declared.draft.Draft.{Draft}
use Rattle.smol_types.specs.declared.fault.ConfigFault.{ConfigFault}
use Rattle.smol_types.specs.declared.fault.Kind.{Kind}
use Rattle.smol_types.specs.declared.fault.Kind.TheVariants.{OpenBlock}
use Rattle.smol_line.specs.declared.refusal.Refusal.{Refusal}
use Rattle.smol_line.specs.declared.refusal.Refusal.TheVariants.{At, OutOfMemory}
use Rattle.smol_line.specs.Axes.{AreAxes}
use Rattle.smol_line.specs.Checks.{with_value}
use Rattle.smol_line.specs.Fault.{Fault, fault_at, at_line, TellsFault}
use Rattle.smol_blocks.specs.Blocks.{block_of, opening_line}
use Rattle.smol_config.specs.Said.{Said}
use Rattle.smol_config.specs.Looked.{Looked}
use Rattle.smol_config.specs.Reader.{config_from, line_in, read_from}
use Rattle.smol_config.specs.declared.tables.Tables.{Tables}
use Rattle.smol_config.specs.SoFar.{IsSoFar, the_axes, the_outputs, the_species}
use Rattle.smol_config.specs.Tables.{AreReady, Holds}
use Rattle.smol_blocks.specs.Told.{told_at}
use Rattle.smol_config.specs.Whole.{behind_blocks, closed_in, whole_in}
use Rattle.smol_config.specs.Blocks.{blocks_said}

-- a line without a fault is read, and the reading goes on behind it
pub read_from-next : (before : List Said) (line : Stated) (lines : List Stated) (said : Said) → line_in before line ≡ Ok said → read_from before (line ∷ lines) ≡ read_from (said ∷ before) lines
read_from-next before line lines said fine = ap (λ (found : Result Said Kind). with_value (at_line line.number found) (λ said. read_from (said ∷ before) lines)) fine

-- a line with a fault ends it
pub read_from-refused : (before : List Said) (line : Stated) (lines : List Stated) (kind : Kind) → line_in before line ≡ Err kind → read_from before (line ∷ lines) ≡ Err (fault_at line.number kind)
read_from-refused before line lines kind failed = ap (λ (found : Result Said Kind). with_value (at_line line.number found) (λ said. read_from (said ∷ before) lines)) failed

-- a fault that is told of reading on is one of reading all
pub told_behind : (fault : ConfigFault) (all rest : List Stated) (before : List Said) → read_from [] all ≡ read_from before rest → TellsFault fault (with_value (read_from before rest) whole_in) → TellsFault fault (config_from all)
told_behind fault all rest before same tells = subst (λ (said : Result (List Said) Fault). TellsFault fault (with_value said whole_in)) (sym same) tells

-- behind the last line the whole is tested
pub config_from-whole : (all rest : List Stated) (before : List Said) → read_from [] all ≡ read_from before rest → rest ≡ [] → config_from all ≡ whole_in before
config_from-whole all rest before same ended = ap (λ (said : Result (List Said) Fault). with_value said whole_in) (same ∙ ap (read_from before) ended)

pub refused_whole : (refusal : Refusal) (outcome : Result Draft Fault) → ((kind : Kind) → refusal ≡ At kind → outcome ≡ Err (fault_at 0 kind)) → TellsFault (told_at 0 refusal) outcome
refused_whole (At kind) outcome failed = failed kind refl
refused_whole OutOfMemory outcome failed = tt

-- where no block is open the whole is that of closed blocks, and an open one is its fault
pub whole_closed : (before : List Said) → None ≡ opening_line (block_of (blocks_said before)) → whole_in before ≡ closed_in before
unfolding whole_in
whole_closed before none = ap (λ open_line. behind_blocks open_line (closed_in before)) (sym none)

pub whole_open : (before : List Said) (line : ℕ) → Some line ≡ opening_line (block_of (blocks_said before)) → whole_in before ≡ Err (fault_at line OpenBlock)
unfolding whole_in
whole_open before line some = ap (λ open_line. behind_blocks open_line (closed_in before)) (sym some)

-- tables that hold what lines without a fault say are ready for a line more
pub ready : (tables : Tables) (before : List Said) → Holds tables before → IsSoFar before → AreReady tables
ready tables before h sound = record {
  axes = subst (λ (known : Looked). AreAxes known.axes) (sym h.plain) (sound the_axes);
  species = subst (λ (known : Looked). length known.species ≤ 256) (sym h.plain) (sound the_species);
  reactions = h.kept;
  blocks = h.blocks_kept;
  outputs = subst (λ (known : Looked). length known.outputs ≤ 64) (sym h.plain) (sound the_outputs);
}

-- where the lines end, what comes of the tables is what all lines say
pub whole_accepted : (all : List Stated) (before : List Said) (tables : Tables) (result : Result Draft ConfigFault) → config_from all ≡ whole_in before → Holds tables before
    → IfOk result (λ config. (before : List Said) → Holds tables before → whole_in before ≡ Ok config) → IfOk result (λ config. config_from all ≡ Ok config)
whole_accepted all before tables (Ok config) same h accepted = same ∙ accepted before h
whole_accepted all before tables (Err fault) same h accepted = tt

pub whole_refused : (all : List Stated) (before : List Said) (tables : Tables) (result : Result Draft ConfigFault) → config_from all ≡ whole_in before → Holds tables before
    → IfErr result (λ fault. (before : List Said) → Holds tables before → TellsFault fault (whole_in before)) → IfErr result (λ fault. TellsFault fault (config_from all))
whole_refused all before tables (Ok config) same h refused = tt
whole_refused all before tables (Err fault) same h refused = subst (TellsFault fault) (sym same) (refused before h)
