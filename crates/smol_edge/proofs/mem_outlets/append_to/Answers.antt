use Rattle.std.proofs.Common.{◌<◌, ◌∙◌, ap, ℕ, Vec, Global, length, arith}
use Rattle.std.proofs.Math.Seq.{map-set_same}
use Rattle.smol_edge.proofs.Telling.{OnErr-always}
use Rattle.smol_edge.proofs.OutletBytes.{map-set-longer}
use Rattle.smol_edge.proofs.mem_outlets.append_to.Goals as goal

-- the bytes of the outlet stay
pub returns-in_err-append-clause-not_appended : goal.returns-in_err-append-clause-not_appended
returns-in_err-append-clause-not_appended c =
    OnErr-always _ _
    (map-set_same (λ (o : Vec ℕ Global). o.items) c.args.outlets.now.items c.args.outlet c.append.new.list c.index_mut-written.result.now
    (c.in_err-append.ensures.not_appended ∙ ap (λ (o : Vec ℕ Global). o.items) c.index_mut-written.ensures.value))

-- the bytes of the outlet got longer
pub returns-clause-appended : goal.returns-clause-appended
returns-clause-appended c =
    let within : c.args.outlet < length c.args.outlets.now.items = omega (arith, c.args.outlets.now.ok.0) in
    map-set-longer (λ (o : Vec ℕ Global). o.items) c.args.outlets.now.items c.args.outlet c.append.new.list c.index_mut-written.result.now c.args.bytes.now
    within c.index_mut-written.ensures.value c.in_ok-append.ensures.appended
