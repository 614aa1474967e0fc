use Rattle.std.proofs.Common.{◌≡◌, ◌++◌, take, flat_map, filter}
use Rattle.smol_types.specs.declared.state.Mol.{Mol}
use Rattle.smol_meaning.specs.Commands.{is_meant}
use Rattle.smol_meaning.specs.Lines.{place_text}
use Rattle.smol_commands.proofs.printing.add_places.Given as goal

-- the coordinates of the molecules so far that are meant
abbrev pub invariant-loop-mol : goal.invariant-loop-mol
invariant-loop-mol l =
    l.page.items ≡ l.initial.page.items ++ flat_map (λ (mol : Mol). place_text l.config mol.place) (filter (is_meant l.who) (take l.mol-index l.mols))
