-- How what is told before and after a call joins with that of the next call, and how counts rise.
use Rattle.std.proofs.Common.{ℕ, ◌≤◌, Option, None, Some, Result, Ok, Err, OnErr}
use Rattle.smol_edge.specs.Faults.{Tells}

-- a relation that each value has to itself holds where nothing was called
pub Tells-same : {T : Type 0} (a : Option T) (P : T → T → Type 0) → ((x : T) → P x x) → Tells a a P
Tells-same None P same = tt
Tells-same (Some x) P same = same x

-- a wider relation is told where a narrower one is
pub Tells-weaker : {T : Type 0} (a b : Option T) (P Q : T → T → Type 0) → ((x y : T) → P x y → Q x y) → Tells a b P → Tells a b Q
Tells-weaker None b P Q wider told = tt
Tells-weaker (Some x) None P Q wider told = absurd told
Tells-weaker (Some x) (Some y) P Q wider told = wider x y told

-- two calls one after the other
pub Tells-then : {T : Type 0} (a b c : Option T) (P Q R : T → T → Type 0) → ((x y z : T) → P x y → Q y z → R x z) → Tells a b P → Tells b c Q → Tells a c R
Tells-then None b c P Q R join first second = tt
Tells-then (Some x) None c P Q R join first second = absurd first
Tells-then (Some x) (Some y) None P Q R join first second = absurd second
Tells-then (Some x) (Some y) (Some z) P Q R join first second = join x y z first second

-- what always holds, holds at an error
pub OnErr-always : {T E : Type 0} (result : Result T E) (P : Type 0) → P → OnErr result P
OnErr-always (Ok x) P always = tt
OnErr-always (Err e) P always = always
