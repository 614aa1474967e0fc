use Rattle.std.proofs.Common.{◌≡◌, ◌+◌, vec_len, arith}
use Rattle.std.specs.Prelude.{⊤}
use Rattle.std.proofs.lemmas.Result.{err_from_is_err_and}
use Rattle.smol_edge.proofs.Telling.{Tells-then, OnErr-always}
use Rattle.smol_edge.proofs.Fronts.{TakesFront-after}
use Rattle.smol_edge.proofs.take.take_all.Goals as goal

-- the bytes taken before and the front of the rest are one longer front
pub returns-in_err-take_some-clause-front_taken : goal.returns-in_err-take_some-clause-front_taken
returns-in_err-take_some-clause-front_taken g c =
    OnErr-always _ _
    (Tells-then _ _ _ _ _ _
    (λ a b d first second. TakesFront-after c.loop-chunk.bytes.items a b d (λ _. ⊤) (λ _. ⊤) (λ n any. any) first second)
    c.loop-chunk.invariant.taken c.in_err-take_some.ensures.front_taken)

pub returns-in_err-take_some-clause-too_long : goal.returns-in_err-take_some-clause-too_long
returns-in_err-take_some-clause-too_long g c = λ at_too_long.
    let p = err_from_is_err_and c.from_residual-in_err-take_some.result c.from_residual-in_err-take_some.ensures.1 in
    Tells-then _ _ _ _ _ _
    (λ a b d first second.
    TakesFront-after c.loop-chunk.bytes.items a b d (λ n. vec_len c.loop-chunk.bytes + n ≡ c.args.limit + 1)
    (λ n. n ≡ c.args.limit + 1) (λ n sum. omega (arith, sum, c.loop-chunk.bytes.ok)) first second)
    c.loop-chunk.invariant.taken (c.in_err-take_some.ensures.too_long (cc (p.1, p.2, at_too_long)))
