-- Reactions that a configuration may have.
use Rattle.std.specs.Prelude.{◌≡◌, ℕ, ◌*◌, ◌<◌, ◌≤◌, Bool, false, ◌==◌, ◌&&◌, ◌||◌, pos, ◌≤ℤ◌, List, [], ◌∷◌, length, All, IfSome, if◌then◌else◌, unsigned_abs}
use Rattle.smol_num.specs.declared.quantities.Micro.{Micro}
use Rattle.smol_geom.specs.Axes.{on_axis, EachAxis, IsEven, IsWithin}
use Rattle.smol_types.specs.declared.reaction.Placement.{Placement}
use Rattle.smol_types.specs.declared.reaction.Placement.TheVariants.{Offsets, Unbind}
use Rattle.smol_types.specs.declared.reaction.Product.{Product}
use Rattle.smol_types.specs.declared.reaction.Reaction.{Reaction}
use Rattle.smol_types.specs.Limits.{longest, fastest, certain, most_products}

-- whether the reaction has this species as its one reactant
abbrev pub reacts_alone : ℕ → List ℕ → Bool
reacts_alone species [] = false
reacts_alone species (one ∷ []) = one == species
reacts_alone species (one ∷ two ∷ more) = false

-- whether the reaction has these two species as its reactants, in either order
abbrev pub reacts_together : ℕ → ℕ → List ℕ → Bool
reacts_together a b [] = false
reacts_together a b (one ∷ []) = false
reacts_together a b (one ∷ two ∷ []) = ((one == a) && (two == b)) || ((one == b) && (two == a))
reacts_together a b (one ∷ two ∷ three ∷ more) = false

-- how many of the random words are a reaction's in which a molecule of the species reacts alone
abbrev pub share_of : ℕ → Reaction → ℕ
share_of species reaction = if reacts_alone species reaction.reactants then reaction.threshold.0 else 0

-- a product of a species that there is, at an even offset on the axes in use
pub record IsProduct (dims species_count : ℕ) (product : Product) : Type 0 where
  pub species : product.species < species_count
  pub axes : length product.offset.0 ≡ 3
  pub even : EachAxis (λ axis. IsEven (on_axis product.offset.0 axis))
  pub size : IsWithin (2 * longest) product.offset.0
  pub unused : EachAxis (λ axis. dims ≤ axis → on_axis product.offset.0 axis ≡ pos 0)

-- products that are unbound are two
abbrev pub IsPlacement : ℕ → Placement → Type 0
IsPlacement product_count Offsets = Unit {0}
IsPlacement product_count (Unbind distance) = (product_count ≡ 2) × (pos 0 ≤ℤ distance) × (unsigned_abs distance ≤ longest)

pub record IsReaction (dims species_count : ℕ) (reaction : Reaction) : Type 0 where
  pub order_above : 0 < reaction.order
  pub order_below : reaction.order ≤ 2
  pub reactant_count : length reaction.reactants ≡ reaction.order
  pub reactants : All (λ (species : ℕ). species < species_count) reaction.reactants
  pub product_count : length reaction.products ≤ most_products
  pub products : All (IsProduct dims species_count) reaction.products
  -- a radius is one of a reaction of two
  pub radius_order : IfSome reaction.radius (λ _. reaction.order ≡ 2)
  pub radius_above : IfSome reaction.radius (λ (radius : Micro). pos 0 ≤ℤ radius.0)
  pub radius_below : IfSome reaction.radius (λ (radius : Micro). unsigned_abs radius.0 ≤ longest)
  pub threshold : reaction.threshold.0 ≤ certain
  -- a rate is one of a reaction of one
  pub rate_order : IfSome reaction.rate (λ _. reaction.order ≡ 1)
  pub rate_below : IfSome reaction.rate (λ (rate : ℕ). rate ≤ fastest)
  pub placement : IsPlacement (length reaction.products) reaction.placement
