-- Words that are lengths.
use Rattle.std.specs.Prelude.{ℕ, ℤ, pos, negsuc, List, Result}
use Rattle.smol_types.specs.declared.fault.Kind.{Kind}
use Rattle.smol_line.specs.Numbers.{decimal_in}

-- how far a coordinate may be from 0, in micros: a million length units
abbrev pub most_micros : ℕ
most_micros = 1000000000000

-- a length in micros
abbrev pub micros_in : List ℕ → Result ℤ Kind
micros_in word = decimal_in 6 (negsuc 999999999999) (pos most_micros) word
