-- Pages: what commands print, until it is written.
use Rattle.std.specs.Prelude.{◌≡◌, ℕ, List, length, map, take}
use Rattle.std.specs.Global.{Vec}

-- a page that begins with what it had
abbrev pub BeginsWith : List ℕ → List ℕ → Type 0
BeginsWith old new = take (length old) new ≡ old

-- the bytes of each page
abbrev pub all_bytes : List (Vec ℕ) → List (List ℕ)
all_bytes pages = map (λ (page : Vec ℕ). page.items) pages
