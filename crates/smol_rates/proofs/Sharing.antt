-- Shares that follow each other add up.
use Rattle.std.proofs.Common.{◌≡◌, ℕ, zero, suc, ◌+◌, ◌-◌, ◌*◌, ◌≤◌, ◌<◌, ◌==◌, false, refl, arith, ne_eqb}
use Rattle.std.proofs.lemmas.Nat.{mul-le}
use Rattle.std.proofs.Math.Nat.{mul-div_left, zero-div}
use Rattle.smol_num.specs.declared.quantities.Threshold.{Threshold}
use Rattle.smol_rates.specs.Rates.{share, words_upto}
use Rattle.smol_rates.proofs.SeriesLemmas.{div-le}

words_grow : (total less more all : ℕ) → less ≤ more → words_upto total less (suc all) ≤ words_upto total more (suc all)
words_grow total less more all order =
    div-le (total * less) (total * more) (suc all) (omega arith) (mul-le total less total more (omega arith) order)

-- where some rate is there, a share is the difference of the words up to its ends
pub share_between : (total : Threshold) (before upto all : ℕ) → (share total before upto (suc all)).0 ≡ words_upto total.0 upto (suc all) - words_upto total.0 before (suc all)
unfolding share
share_between total before upto all =
    let other : (suc all == 0) ≡ false = ne_eqb (suc all) 0 (λ same. omega arith) in rw other refl

pub share_nothing : (total : Threshold) (before upto : ℕ) → (share total before upto 0).0 ≡ 0
unfolding share
share_nothing total before upto = refl

pub shares_join : (total : Threshold) (first middle last all : ℕ) → first ≤ middle → middle ≤ last → (share total first middle all).0 + (share total middle last all).0 ≡ (share total first last all).0
shares_join total first middle last zero low high =
    omega (arith, share_nothing total first middle, share_nothing total middle last, share_nothing total first last)
shares_join total first middle last (suc all) low high =
    let front = words_grow total.0 first middle all low in
    let back = words_grow total.0 middle last all high in
    omega (arith, front, back, share_between total first middle all, share_between total middle last all, share_between total first last all)

none_upto : (total all : ℕ) → words_upto total 0 (suc all) ≡ 0
none_upto total all = let none : total * 0 ≡ 0 = omega arith in rw none (zero-div (suc all))

pub share_whole : (total : Threshold) (all : ℕ) → 0 < all → (share total 0 all all).0 ≡ total.0
share_whole total zero some = absurd (omega arith)
share_whole total (suc all) some =
    let whole : words_upto total.0 (suc all) (suc all) ≡ total.0 = mul-div_left total.0 (omega arith) in
    omega (arith, whole, none_upto total.0 all, share_between total 0 (suc all) all)

-- a share is no more than the total
pub share_most : (total : Threshold) (before upto all : ℕ) → upto ≤ all → (share total before upto all).0 ≤ total.0
share_most total before upto zero fits = omega (arith, share_nothing total before upto)
share_most total before upto (suc all) fits =
    let part = words_grow total.0 upto (suc all) all fits in
    let whole : words_upto total.0 (suc all) (suc all) ≡ total.0 = mul-div_left total.0 (omega arith) in
    omega (arith, part, whole, share_between total before upto all)
