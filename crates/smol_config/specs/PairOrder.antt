-- `pair_order ORDER`: whether pairs of molecules react by their distances before their serials. It stands once. Without it they react
-- by their serials.
use Rattle.std.specs.Prelude.{ℕ, Bool, true, false, List, Option, None, Some, Result, Ok, Err, if◌then◌else◌, codes, unwrap_or}
use Rattle.std.specs.Str.{bytes_eq}
use Rattle.smol_text.specs.Reading.{Stated}
use Rattle.smol_types.specs.declared.fault.Kind.{Kind}
use Rattle.smol_types.specs.declared.fault.Kind.TheVariants.{NotInProfile}
use Rattle.smol_line.specs.LookingBack.{nearest}
use Rattle.smol_config.specs.Once.{stands_once}
use Rattle.smol_config.specs.Said.{Said, orders}

abbrev pub said_order : Said → Option Bool
said_order (orders by_distance) = Some by_distance
said_order other = None

-- whether the nearest come first, where a line before says it
abbrev pub pair_order_of : List Said → Option Bool
pair_order_of before = nearest said_order before

-- an order by its word
abbrev pub order_in : List ℕ → Result Bool Kind
order_in word =
    if bytes_eq word (codes "serial") then Ok false else (if bytes_eq word (codes "nearest") then Ok true else Err NotInProfile)

-- whether the nearest come first by a line, and by what a line before says
unfoldable pub pair_order_in : Option Bool → Stated → Result Bool Kind
pair_order_in given line = stands_once given order_in line

-- whether the nearest come first, where this is given of it
abbrev pub nearest_by : Option Bool → Bool
nearest_by given = unwrap_or given false
