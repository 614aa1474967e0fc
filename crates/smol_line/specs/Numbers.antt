-- Words that are numbers, each with its value in the unit of the place where it stands, or its fault.
use Rattle.std.specs.Prelude.{ℕ, ◌&&◌, nat_le, ℤ, pos, int_le, unsigned_abs, List, Result, Ok, Err, if◌then◌else◌}
use Rattle.smol_num.specs.declared.num_fault.NumFault.{NumFault}
use Rattle.smol_num.specs.declared.num_fault.NumFault.TheVariants as fault
use Rattle.smol_num.specs.Digits.{count_of}
use Rattle.smol_num.specs.Decimal.{decimal_of}
use Rattle.smol_types.specs.declared.fault.Kind.{Kind}
use Rattle.smol_types.specs.declared.fault.Kind.TheVariants.{NotNumber, TooFine, OutOfRange}

-- a number that is too large is out of range
abbrev pub kind_of : NumFault → Kind
kind_of fault.NotNumber = NotNumber
kind_of fault.TooFine = TooFine
kind_of fault.TooLarge = OutOfRange

abbrev pub count_between : ℕ → Result ℕ NumFault → Result ℕ Kind
count_between least (Ok n) = if nat_le least n then Ok n else Err OutOfRange
count_between least (Err fault) = Err (kind_of fault)

-- a count from the least to the most
abbrev pub count_in : ℕ → ℕ → List ℕ → Result ℕ Kind
count_in least most word = count_between least (count_of word most)

abbrev pub decimal_between : ℤ → ℤ → Result ℤ NumFault → Result ℤ Kind
decimal_between least most (Ok x) = if int_le least x && int_le x most then Ok x else Err OutOfRange
decimal_between least most (Err fault) = Err (kind_of fault)

-- a decimal in units of 10^-places, from the least to the most
abbrev pub decimal_in : ℕ → ℤ → ℤ → List ℕ → Result ℤ Kind
decimal_in places least most word = decimal_between least most (decimal_of word places)

-- the same of a decimal that isn't negative, as a number without a sign
abbrev pub unsigned : Result ℤ Kind → Result ℕ Kind
unsigned (Ok x) = Ok (unsigned_abs x)
unsigned (Err kind) = Err kind

abbrev pub unsigned_in : ℕ → ℕ → List ℕ → Result ℕ Kind
unsigned_in places most word = unsigned (decimal_in places (pos 0) (pos most) word)
