-- Output files that are opened one after the other.
use Rattle.std.proofs.Common.{[], refl, sym}
use Rattle.std.proofs.lemmas.List.{append-nil}
use Rattle.smol_edge.specs.Outlets.{Written}
use Rattle.smol_run.specs.Opening.{OpensAll}

pub none_opened : (a : Written) → OpensAll [] a a
none_opened a = record { names_are = sym (append-nil a.names); bytes = λ outlet. refl }
