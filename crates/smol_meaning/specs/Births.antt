-- What an event has to be for its products to be defined, and what holds of the products.
use Rattle.std.specs.Prelude.{◌≡◌, ◌*◌, ◌<◌, ◌≤◌, length, pos}
use Rattle.smol_geom.specs.Axes.{on_axis, EachAxis, IsEven, IsWithin}
use Rattle.smol_types.specs.declared.draft.Draft.{Draft}
use Rattle.smol_types.specs.Limits.{longest}
use Rattle.smol_meaning.specs.declared.event.Birth.{Birth}
use Rattle.smol_meaning.specs.declared.event.Fired.{Fired}

-- an event is of a reaction that there is, and its products are taken apart along an axis in use
pub record IsEvent (draft : Draft) (event : Fired) : Type 0 where
  pub reaction : event.reaction < length draft.reactions
  pub axis : event.axis < draft.dims

-- a product is of a species that there is, and goes an even way on the axes in use, on each no longer than an offset may be
pub record IsBirth (draft : Draft) (birth : Birth) : Type 0 where
  pub species : birth.species < length draft.species
  pub even : EachAxis (λ axis. IsEven (on_axis birth.by.0 axis))
  pub size : IsWithin (2 * longest) birth.by.0
  pub unused : EachAxis (λ axis. draft.dims ≤ axis → on_axis birth.by.0 axis ≡ pos 0)
