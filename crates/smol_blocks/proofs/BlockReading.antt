-- Reading on in a block, line by line, and how it ends.
use Rattle.std.proofs.Common.{◌≡◌, ◌+◌, ◌∷◌, [], ℕ, Bool, true, false, List, Result, Ok, refl, ap, ◌∙◌}
use Rattle.smol_text.specs.Reading.{Stated}
use Rattle.smol_types.specs.declared.fault.Kind.{Kind}
use Rattle.smol_line.specs.Checks.{with_value}
use Rattle.smol_line.specs.Fault.{Fault, at_line}
use Rattle.smol_blocks.specs.BlockReads.{said_with, stays_open}
use Rattle.smol_blocks.specs.BlockText.{InBlock, passes, says, ends, behind_line, block_from}

-- a line that leaves the block open is read, and the reading goes on behind it
goes_on : {S : Type 0} (said : List S) (next : ℕ) (reading : List S → Result (List S × ℕ) Fault) (one : InBlock S) → stays_open one ≡ true → behind_line said next reading one ≡ reading (said_with one said)
goes_on said next reading passes stays = refl
goes_on said next reading (says more) stays = refl
goes_on said next reading ends stays = absurd cc

pub block_from-next : {S : Type 0} (rule : List S → Stated → Result (InBlock S) Kind) (opened : ℕ) (said : List S) (at : ℕ) (line : Stated) (lines : List Stated) (one : InBlock S)
    → rule said line ≡ Ok one → stays_open one ≡ true → block_from rule opened said at (line ∷ lines) ≡ block_from rule opened (said_with one said) (at + 1) lines
block_from-next {S = S} rule opened said at line lines one fine stays =
    ap (λ (found : Result (InBlock S) Kind). with_value (at_line line.number found) (behind_line said (at + 1) (λ more. block_from rule opened more (at + 1) lines))) fine
    ∙ goes_on said (at + 1) (λ more. block_from rule opened more (at + 1) lines) one stays

-- a line that ends the block ends the reading, and says no more
closed : {S : Type 0} (said : List S) (next : ℕ) (reading : List S → Result (List S × ℕ) Fault) (one : InBlock S) → stays_open one ≡ false → behind_line said next reading one ≡ Ok (said_with one said, next)
closed said next reading passes stays = absurd cc
closed said next reading (says more) stays = absurd cc
closed said next reading ends stays = refl

pub block_from-closed : {S : Type 0} (rule : List S → Stated → Result (InBlock S) Kind) (opened : ℕ) (said : List S) (at : ℕ) (line : Stated) (lines : List Stated) (one : InBlock S)
    → rule said line ≡ Ok one → stays_open one ≡ false → block_from rule opened said at (line ∷ lines) ≡ Ok (said_with one said, at + 1)
block_from-closed {S = S} rule opened said at line lines one fine stays =
    ap (λ (found : Result (InBlock S) Kind). with_value (at_line line.number found) (behind_line said (at + 1) (λ more. block_from rule opened more (at + 1) lines))) fine
    ∙ closed said (at + 1) (λ more. block_from rule opened more (at + 1) lines) one stays
