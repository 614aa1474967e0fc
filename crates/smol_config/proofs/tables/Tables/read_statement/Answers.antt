use Rattle.std.proofs.Common.{Some, refl, ap}
use Rattle.smol_line.specs.declared.axes.Axes.{Axes}
use Rattle.smol_blocks.specs.declared.statement.Statement.TheVariants as statement
use Rattle.smol_config.specs.declared.times.Times.{Times}
use Rattle.smol_config.specs.Dim.{dim_in}
use Rattle.smol_config.specs.Looked.{Looked}
use Rattle.smol_config.specs.MaxMol.{max_mol_in}
use Rattle.smol_config.specs.RandomSeed.{random_seed_in}
use Rattle.smol_config.specs.PairOrder.{pair_order_in}
use Rattle.smol_config.specs.Times.{given_time_in, time_step_in}
use Rattle.smol_config.specs.Said.{passed_over, axes, starts, stops, steps, of_times, limits, seeds, orders}
use Rattle.smol_config.specs.Reader.{statement_in}
use Rattle.smol_config.proofs.Held.{once_read, passed_over_held}
use Rattle.smol_config.proofs.tables.Tables.read_statement.Goals as goal

pub returns-in-PassedOver : goal.returns-in-PassedOver
unfolding statement_in
returns-in-PassedOver c before holds = (passed_over, rw c.in-PassedOver.is refl, passed_over_held c.args.self.now before holds)

pub returns-in-NotInProfile : goal.returns-in-NotInProfile
unfolding statement_in
returns-in-NotInProfile c before holds = rw c.in-NotInProfile.is refl

pub returns-in-Unknown : goal.returns-in-Unknown
unfolding statement_in
returns-in-Unknown c before holds = rw c.in-Unknown.is refl

pub returns-in-Block : goal.returns-in-Block
returns-in-Block c = absurd (c.requires.apart c.in-Block.field-0 c.in-Block.is)

-- values that stand once
pub returns-in-Dim : goal.returns-in-Dim
unfolding statement_in
returns-in-Dim c =
    let tables = c.args.self.now in
    rw c.in-Dim.is
    (once_read statement.Dim c.args.line.now tables (λ dims. record tables { axes = record (tables.axes) { dims = dims } }) axes (λ known. dim_in known.axes c.args.line.now) _ _ _ _ (λ before. refl) c.judge.ensures c.keep.ensures
    (λ dims before h. record { plain = ap (λ (old : Looked). let axes : Axes = record (old.axes) { dims = Some dims } in let new : Looked = record old { axes = axes } in new) h.plain; groups = h.groups }))

pub returns-in-TimeStart : goal.returns-in-TimeStart
unfolding statement_in
returns-in-TimeStart c =
    let tables = c.args.self.now in
    rw c.in-TimeStart.is
    (once_read statement.TimeStart c.args.line.now tables (λ time. record tables { times = record (tables.times) { start = time } }) (λ time. of_times (starts time)) (λ known. given_time_in known.times.start c.args.line.now) _ _ _ _ (λ before. refl) c.judge-in-TimeStart.ensures.rule c.keep-in-TimeStart.ensures
    (λ time before h. record { plain = ap (λ (old : Looked). let times : Times = record (old.times) { start = Some time } in let new : Looked = record old { times = times } in new) h.plain; groups = h.groups }))

pub returns-in-TimeStop : goal.returns-in-TimeStop
unfolding statement_in
returns-in-TimeStop c =
    let tables = c.args.self.now in
    rw c.in-TimeStop.is
    (once_read statement.TimeStop c.args.line.now tables (λ time. record tables { times = record (tables.times) { stop = time } }) (λ time. of_times (stops time)) (λ known. given_time_in known.times.stop c.args.line.now) _ _ _ _ (λ before. refl) c.judge-in-TimeStop.ensures.rule c.keep-in-TimeStop.ensures
    (λ time before h. record { plain = ap (λ (old : Looked). let times : Times = record (old.times) { stop = Some time } in let new : Looked = record old { times = times } in new) h.plain; groups = h.groups }))

pub returns-in-TimeStep : goal.returns-in-TimeStep
unfolding statement_in
returns-in-TimeStep c =
    let tables = c.args.self.now in
    rw c.in-TimeStep.is
    (once_read statement.TimeStep c.args.line.now tables (λ time. record tables { times = record (tables.times) { step = time } }) (λ time. of_times (steps time)) (λ known. time_step_in known.times.step c.args.line.now) _ _ _ _ (λ before. refl) c.judge_step.ensures.rule c.keep-in-TimeStep.ensures
    (λ time before h. record { plain = ap (λ (old : Looked). let times : Times = record (old.times) { step = Some time } in let new : Looked = record old { times = times } in new) h.plain; groups = h.groups }))

pub returns-in-MaxMol : goal.returns-in-MaxMol
unfolding statement_in
returns-in-MaxMol c =
    let tables = c.args.self.now in
    rw c.in-MaxMol.is
    (once_read statement.MaxMol c.args.line.now tables (λ count. record tables { max_mol = count }) limits (λ known. max_mol_in known.max_mol c.args.line.now) _ _ _ _ (λ before. refl) c.judge-in-MaxMol.ensures c.keep-in-MaxMol.ensures
    (λ count before h. record { plain = ap (λ (old : Looked). let new : Looked = record old { max_mol = Some count } in new) h.plain; groups = h.groups }))

pub returns-in-RandomSeed : goal.returns-in-RandomSeed
unfolding statement_in
returns-in-RandomSeed c =
    let tables = c.args.self.now in
    rw c.in-RandomSeed.is
    (once_read statement.RandomSeed c.args.line.now tables (λ seed. record tables { seed = seed }) seeds (λ known. random_seed_in known.seed c.args.line.now) _ _ _ _ (λ before. refl) c.judge-in-RandomSeed.ensures c.keep-in-RandomSeed.ensures
    (λ seed before h. record { plain = ap (λ (old : Looked). let new : Looked = record old { seed = Some seed } in new) h.plain; groups = h.groups }))

pub returns-in-PairOrder : goal.returns-in-PairOrder
unfolding statement_in
returns-in-PairOrder c =
    let tables = c.args.self.now in
    rw c.in-PairOrder.is
    (once_read statement.PairOrder c.args.line.now tables (λ nearest. record tables { nearest = nearest }) orders (λ known. pair_order_in known.nearest c.args.line.now) _ _ _ _ (λ before. refl) c.judge-in-PairOrder.ensures c.keep-in-PairOrder.ensures
    (λ nearest before h. record { plain = ap (λ (old : Looked). let new : Looked = record old { nearest = Some nearest } in new) h.plain; groups = h.groups }))
