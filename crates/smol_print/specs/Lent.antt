-- A page that is lent.
use Rattle.std.specs.Prelude.{ℕ, List, slice_set}
use Rattle.std.specs.Borrow.{Lends, MutBor, Fml, RattleType, u8}
use Rattle.std.specs.Global.{Vec}
use Rattle.std.specs.contracts.alloc.Global as global
use Rattle.std.specs.contracts.vec.Vec as vec
use Rattle.std.specs.contracts.impls.GlobalAllocator.TheImpl.{ghosts}
use Rattle.smol_print.specs.contracts.pages.Pages.{the_row}

-- a vector of bytes as the logic holds it
abbrev pub bytes_row : RattleType
bytes_row = vec.the_row u8 global.the_row ghosts

-- the pages end with this one set to what was last on the lent page
abbrev pub LendsPage : MutBor (List (List ℕ)) → ℕ → MutBor (Vec ℕ) → Fml
LendsPage pages outlet page = Lends the_row bytes_row pages page (λ last. slice_set pages.now outlet last.items)
