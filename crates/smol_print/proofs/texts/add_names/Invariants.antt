use Rattle.std.proofs.Common.{◌≡◌, ◌++◌, codes, flat_map, take}
use Rattle.smol_types.specs.declared.species.Species.{Species}
use Rattle.smol_print.specs.Page.{BeginsWith}
use Rattle.smol_print.proofs.texts.add_names.Given as goal

-- the names so far are added
abbrev pub invariant-loop-species : goal.invariant-loop-species
invariant-loop-species l = record {
  added : l.page.items ≡ l.initial.page.items ++ flat_map (λ (species : Species). codes " " ++ species.name) (take l.species-index l.all);
  begins : BeginsWith l.initial.page.items l.page.items;
}
