-- What lines without a fault say of reactions is sound.
use Rattle.std.proofs.Common.{◌≡◌, ℕ, zero, suc, ℤ, pos, negsuc, ◌+◌, ◌*◌, ◌%◌, ◌<◌, ◌≤◌, ◌≤ℤ◌, ◌*ℤ◌, ◌==◌, Bool, true, false, nat_le, nat_lt, List, [], ◌∷◌, ◌++◌, length, map, Option, None, Some, Result, Ok, All, unsigned_abs, slice_get, slice_index_or, if◌then◌else◌, refl, sym, ◌∙◌, arith, subst, length-append}
use Rattle.std.proofs.lemmas.Bool.Decides.{nat_tests}
use Rattle.std.proofs.lemmas.Int.{ints, unsigned_abs-mul}
use Rattle.std.proofs.lemmas.List.{length-map}
use Rattle.std.proofs.lemmas.List.Elements.{All-nil, All-cons, All-head, All-tail, All-map, All-push, All-weaker}
use Rattle.smol_num.specs.declared.quantities.Micro.{Micro}
use Rattle.smol_geom.specs.Axes.{on_axis, EachAxis, IsEven, IsWithin}
use Rattle.smol_geom.specs.declared.place.Step3.{Step3}
use Rattle.smol_text.specs.Reading.{Stated, words_of}
use Rattle.smol_types.specs.declared.fault.Kind.{Kind}
use Rattle.smol_types.specs.declared.fault.Kind.TheVariants.{BadOrder, BadReaction, UnknownName, WrongWordCount}
use Rattle.smol_types.specs.declared.reaction.Placement.{Placement}
use Rattle.smol_types.specs.declared.reaction.Product.{Product}
use Rattle.smol_types.specs.declared.reaction.Reaction.{Reaction}
use Rattle.smol_types.specs.Limits.{longest, certain}
use Rattle.smol_types.specs.Reactions.{IsPlacement, IsProduct, IsReaction}
use Rattle.smol_line.specs.Words.{word_at}
use Rattle.smol_line.specs.Checks.{with_value}
use Rattle.smol_line.specs.Numbers.{decimal_in}
use Rattle.smol_line.specs.SpeciesWord.{number_in}
use Rattle.smol_line.specs.Probability.{chance_in, whole_chance}
use Rattle.smol_line.proofs.Passing.{valued, held, is_there, no_value, same_value, said_by}
use Rattle.smol_line.proofs.Ranges.{decimal_in-within, number_in-within, chance_in-within, threshold_of-within}
use Rattle.smol_reactions.specs.declared.scheme.Scheme.{Scheme}
use Rattle.smol_reactions.specs.declared.product_placement.PlacementKind.{PlacementKind}
use Rattle.smol_reactions.specs.declared.product_placement.PlacementKind.TheVariants as kind
use Rattle.smol_reactions.specs.declared.product_placement.ProductPlacement.{ProductPlacement}
use Rattle.smol_reactions.specs.declared.product_placement.ProductPlacement.TheVariants as placement
use Rattle.smol_reactions.specs.Numbered.{changed}
use Rattle.smol_reactions.specs.Reaction.{reaction_names_of, reaction_in}
use Rattle.smol_reactions.specs.BindingRadius.{binding_radius_in, distance_in, reaction_at}
use Rattle.smol_reactions.specs.ReactionProbability.{reaction_probability_in}
use Rattle.smol_reactions.specs.ProductPlacement.{kind_in, offset_at, offset_in, placement_in, product_in, product_placement_in, product_species, takes, words_for}
use Rattle.smol_reactions.specs.ReactionSaid.{ReactionSaid, reacts, binds, happens, places}
use Rattle.smol_reactions.specs.Content.{kinds_of, reaction_made, reactions_of, schemes_of, usual_threshold}
use Rattle.smol_reactions.specs.Changes.{fresh_product, fresh_reaction, with_chance, with_offset, with_placement, with_radius}
use Rattle.smol_reactions.specs.Sound.{AreReactions, IsScheme}
use Rattle.smol_reactions.specs.Statements.{binding_radius_said, product_placement_said, reaction_probability_said, reaction_said}
use Rattle.smol_reactions.proofs.Lists.{length-changed, All-changed, length-numbered}
use Rattle.smol_reactions.proofs.MoreSaid.{chance_more, placement_more, radius_more, reaction_more}
use Rattle.smol_reactions.proofs.SchemeLemmas.{given_is}

-- what holds of all things holds of them behind a change of one, where it is kept there
All-changed_at : {X : Type 0} (P : X → Type 0) (change : X → X) (number : ℕ) (things : List X) (thing : X) → slice_get things number ≡ Some thing → (P thing → P (change thing)) → All P things → All P (changed change number things)
All-changed_at P change number [] thing at keeps all = All-nil P
All-changed_at P change zero (first ∷ things) thing at keeps all =
    let same : thing ≡ first = cc in
    All-cons P (change first) things (subst (λ x. P x → P (change x)) same keeps (All-head P first things all)) (All-tail P first things all)
All-changed_at P change (suc number) (first ∷ things) thing at keeps all =
    All-cons P first (changed change number things) (All-head P first things all) (All-changed_at P change number things thing at keeps (All-tail P first things all))

distance_within : (word : List ℕ) (distance : ℤ) → distance_in word ≡ Ok distance → (pos 0 ≤ℤ distance) × (unsigned_abs distance ≤ longest)
distance_within word distance is =
    let within = decimal_in-within 6 (pos 0) (pos longest) word distance is in
    let low = within.0 in
    let high = within.1 in
    (low, omega (arith, ints))

-- a reaction that has a radius
radius_sound : (axes count : ℕ) (radius : Micro) (reaction : Reaction) → reaction.order ≡ 2 → (pos 0 ≤ℤ radius.0) × (unsigned_abs radius.0 ≤ longest) → IsReaction axes count reaction → IsReaction axes count (with_radius radius reaction)
radius_sound axes count radius reaction two within sound = record {
  order_above = sound.order_above;
  order_below = sound.order_below;
  reactant_count = sound.reactant_count;
  reactants = sound.reactants;
  product_count = sound.product_count;
  products = sound.products;
  radius_order = two;
  radius_above = within.0;
  radius_below = within.1;
  threshold = sound.threshold;
  rate_order = sound.rate_order;
  rate_below = sound.rate_below;
  placement = sound.placement;
}

chance_sound : (axes count chance : ℕ) → chance ≤ whole_chance → (reaction : Reaction) → IsReaction axes count reaction → IsReaction axes count (with_chance chance reaction)
chance_sound axes count chance fits reaction sound = record {
  order_above = sound.order_above;
  order_below = sound.order_below;
  reactant_count = sound.reactant_count;
  reactants = sound.reactants;
  product_count = sound.product_count;
  products = sound.products;
  radius_order = sound.radius_order;
  radius_above = sound.radius_above;
  radius_below = sound.radius_below;
  threshold = threshold_of-within chance fits;
  rate_order = tt;
  rate_below = tt;
  placement = sound.placement;
}

usual_fits : (order : ℕ) → (usual_threshold order).0 ≤ certain
usual_fits order = elim (order == 1) as (λ one. (if one then 0 else certain) ≤ certain) [ true ↦ omega arith | false ↦ omega arith ]

fresh_product_sound : (axes count species : ℕ) → species < count → IsProduct axes count (fresh_product species)
fresh_product_sound axes count species below = record {
  species = below;
  axes = refl;
  even = (refl, refl, refl);
  size = (omega arith, omega arith, omega arith);
  unused = ((λ _. refl), (λ _. refl), (λ _. refl));
}

fresh_sound : (axes count : ℕ) (scheme : Scheme) → IsScheme count scheme → IsReaction axes count (fresh_reaction scheme)
fresh_sound axes count scheme sound =
    let few = sound.product_count in
    let many : length (map fresh_product scheme.products) ≡ length scheme.products = length-map scheme.products fresh_product in
    record {
      order_above = sound.order_above;
      order_below = sound.order_below;
      reactant_count = refl;
      reactants = sound.reactants;
      product_count = omega (arith, few, many);
      products = All-map (IsProduct axes count) fresh_product scheme.products
          (All-weaker (λ (species : ℕ). species < count) (λ species. IsProduct axes count (fresh_product species)) (fresh_product_sound axes count) scheme.products sound.products);
      radius_order = tt;
      radius_above = tt;
      radius_below = tt;
      threshold = usual_fits (length scheme.reactants);
      rate_order = sound.rate_order;
      rate_below = sound.rate_below;
      placement = tt;
    }

abbrev in_ticks : ℤ → Result ℤ Kind
in_ticks micros = Ok (pos 2 *ℤ micros)

-- the offset on an axis
record IsOffsetAt (dims axis : ℕ) (ticks : ℤ) : Type 0 where
  even : IsEven ticks
  size : unsigned_abs ticks ≤ 2 * longest
  unused : dims ≤ axis → ticks ≡ pos 0

doubled_even : (n m : ℕ) → n ≡ 2 * m → n % 2 ≡ 0
doubled_even n m is = omega arith

-- an offset that a line gives on an axis in use
given_offset : (dims axis : ℕ) (word : List ℕ) (ticks : ℤ) → axis < dims → with_value (decimal_in 6 (negsuc 999999999) (pos longest) word) in_ticks ≡ Ok ticks → IsOffsetAt dims axis ticks
given_offset dims axis word ticks used is =
    let micros = valued (decimal_in 6 (negsuc 999999999) (pos longest) word) in_ticks ticks is in
    let within = decimal_in-within 6 (negsuc 999999999) (pos longest) word micros.0 micros.1 in
    let low = within.0 in
    let high = within.1 in
    let size : unsigned_abs micros.0 ≤ longest = omega (arith, ints) in
    let twice : unsigned_abs (pos 2 *ℤ micros.0) ≡ 2 * unsigned_abs micros.0 = unsigned_abs-mul (pos 2) micros.0 in
    subst (IsOffsetAt dims axis) (same_value (pos 2 *ℤ micros.0) ticks micros.2)
    (record {
      even = doubled_even (unsigned_abs (pos 2 *ℤ micros.0)) (unsigned_abs micros.0) twice;
      size = omega (arith, twice, size);
      unused = λ beyond. absurd (omega (arith, used, beyond));
    })

no_offset_at : (dims axis : ℕ) (ticks : ℤ) → pos 0 ≡ ticks → IsOffsetAt dims axis ticks
no_offset_at dims axis ticks is = subst (IsOffsetAt dims axis) is (record { even = refl; size = omega arith; unused = λ _. refl })

chosen_offset : (used : Bool) (dims axis : ℕ) (word : List ℕ) (ticks : ℤ) → used ≡ nat_lt axis dims → (if used then with_value (decimal_in 6 (negsuc 999999999) (pos longest) word) in_ticks else Ok (pos 0)) ≡ Ok ticks → IsOffsetAt dims axis ticks
chosen_offset true dims axis word ticks used is = given_offset dims axis word ticks (grind (arith, nat_tests)) is
chosen_offset false dims axis word ticks used is = no_offset_at dims axis ticks (same_value (pos 0) ticks is)

offset_at_sound : (dims axis : ℕ) (line : Stated) (ticks : ℤ) → offset_at dims axis line ≡ Ok ticks → IsOffsetAt dims axis ticks
offset_at_sound dims axis line ticks is = chosen_offset (nat_lt axis dims) dims axis (word_at line (4 + axis)) ticks refl is

-- an offset in ticks that may be given where so many axes are in use
record IsOffset (dims : ℕ) (offset : Step3) : Type 0 where
  axes : length offset.0 ≡ 3
  even : EachAxis (λ axis. IsEven (on_axis offset.0 axis))
  size : IsWithin (2 * longest) offset.0
  unused : EachAxis (λ axis. dims ≤ axis → on_axis offset.0 axis ≡ pos 0)

offset_sound : (dims : ℕ) (line : Stated) (offset : Step3) → offset_in dims line ≡ Ok offset → IsOffset dims offset
unfolding offset_in
offset_sound dims line offset is =
    let x = valued (offset_at dims 0 line) _ offset is in
    let y = valued (offset_at dims 1 line) _ offset x.2 in
    let z = valued (offset_at dims 2 line) _ offset y.2 in
    let a = offset_at_sound dims 0 line x.0 x.1 in
    let b = offset_at_sound dims 1 line y.0 y.1 in
    let c = offset_at_sound dims 2 line z.0 z.1 in
    subst (IsOffset dims) (same_value (record { 0 = x.0 ∷ y.0 ∷ z.0 ∷ [] }) offset z.2)
    (record {
      axes = refl;
      even = (a.even, b.even, c.even);
      size = (a.size, b.size, c.size);
      unused = (a.unused, b.unused, c.unused);
    })

moved_sound : (dims count : ℕ) (offset : Step3) → IsOffset dims offset → (product : Product) → IsProduct dims count product → IsProduct dims count (with_offset offset product)
moved_sound dims count offset given product sound = record {
  species = sound.species;
  axes = given.axes;
  even = given.even;
  size = given.size;
  unused = given.unused;
}

placement_counts : (old new : ℕ) → new ≡ old → (given : Placement) → IsPlacement old given → IsPlacement new given
placement_counts old new is given sound = subst (λ (n : ℕ). IsPlacement n given) (sym is) sound

offset_keeps : (dims count product : ℕ) (offset : Step3) (reaction : Reaction) → IsOffset dims offset → IsReaction dims count reaction → IsReaction dims count (with_placement (placement.Offset product offset) reaction)
offset_keeps dims count product offset reaction given sound =
    let many = length-changed (with_offset offset) product reaction.products in
    let few = sound.product_count in
    record {
      order_above = sound.order_above;
      order_below = sound.order_below;
      reactant_count = sound.reactant_count;
      reactants = sound.reactants;
      product_count = omega (arith, many, few);
      products = All-changed (IsProduct dims count) (with_offset offset) product reaction.products (moved_sound dims count offset given) sound.products;
      radius_order = sound.radius_order;
      radius_above = sound.radius_above;
      radius_below = sound.radius_below;
      threshold = sound.threshold;
      rate_order = sound.rate_order;
      rate_below = sound.rate_below;
      placement = placement_counts (length reaction.products) _ many reaction.placement sound.placement;
    }

unbind_keeps : (dims count : ℕ) (distance : ℤ) (reaction : Reaction) → length reaction.products ≡ 2 → (pos 0 ≤ℤ distance) × (unsigned_abs distance ≤ longest) → IsReaction dims count reaction → IsReaction dims count (with_placement (placement.Unbind distance) reaction)
unbind_keeps dims count distance reaction two within sound = record {
  order_above = sound.order_above;
  order_below = sound.order_below;
  reactant_count = sound.reactant_count;
  reactants = sound.reactants;
  product_count = sound.product_count;
  products = sound.products;
  radius_order = sound.radius_order;
  radius_above = sound.radius_above;
  radius_below = sound.radius_below;
  threshold = sound.threshold;
  rate_order = sound.rate_order;
  rate_below = sound.rate_below;
  placement = (two, within.0, within.1);
}

-- what a placement that a line gives keeps
placement_keeps : (wanted : PlacementKind) (dims count : ℕ) (species : List (List ℕ)) (line : Stated) (given : ProductPlacement) (reaction : Reaction) → placement_in wanted dims species (product_species reaction.products) line ≡ Ok given → IsReaction dims count reaction → IsReaction dims count (with_placement given reaction)
unfolding placement_in
placement_keeps kind.Offset dims count species line given reaction is sound =
    let product = valued (product_in species (product_species reaction.products) (word_at line 3)) _ given is in
    let offset = valued (offset_in dims line) _ given product.2 in
    subst (λ given. IsReaction dims count (with_placement given reaction)) (same_value (placement.Offset product.0 offset.0) given offset.2)
    (offset_keeps dims count product.0 offset.0 reaction (offset_sound dims line offset.0 offset.1) sound)
placement_keeps kind.Unbindrad dims count species line given reaction is sound =
    let two = held (length (product_species reaction.products) == 2) BadReaction [] _ given is in
    let distance = valued (distance_in (word_at line 3)) _ given two.1 in
    let many : length (product_species reaction.products) ≡ length reaction.products = length-map reaction.products (λ (product : Product). product.species) in
    let count_is : length reaction.products ≡ 2 = let test = two.0 in grind (arith, nat_tests) in
    subst (λ given. IsReaction dims count (with_placement given reaction)) (same_value (placement.Unbind distance.0) given distance.2)
    (unbind_keeps dims count distance.0 reaction count_is (distance_within (word_at line 3) distance.0 distance.1) sound)

names_many : (said : List ReactionSaid) → length (reaction_names_of (reactions_of said)) ≡ length (schemes_of said)
names_many said =
    length-map (reactions_of said) (λ (reaction : Reaction). reaction.name) ∙ length-numbered (reaction_made said) 0 (schemes_of said)

number_behind : (said : List ReactionSaid) (word : List ℕ) (number : ℕ) → number_in (reaction_names_of (reactions_of said)) word ≡ Ok number → number < length (schemes_of said)
number_behind said word number is =
    subst (λ (count : ℕ). number < count) (names_many said) (number_in-within (reaction_names_of (reactions_of said)) word number is)

reacts_keeps : (dims : Option ℕ) (species : List (List ℕ)) (said : List ReactionSaid) (line : Stated) (scheme : Scheme) → reaction_in species (reaction_names_of (reactions_of said)) line ≡ Ok scheme → AreReactions dims (length species) said → AreReactions dims (length species) (reacts scheme ∷ said)
reacts_keeps dims species said line scheme rule sound =
    let given = given_is species (reaction_names_of (reactions_of said)) line scheme rule in
    let room = given.room in
    let many = names_many said in
    let more : length (schemes_of said ++ scheme ∷ []) ≡ length (schemes_of said) + 1 = length-append (schemes_of said) (scheme ∷ []) in
    record {
      ordered = sound.ordered;
      count = omega (arith, room, many, more);
      all = λ axes fits. subst (All (IsReaction axes (length species))) (sym (reaction_more said scheme sound.ordered))
          (All-push (IsReaction axes (length species)) (reactions_of said) (fresh_reaction scheme) (sound.all axes fits) (fresh_sound axes (length species) scheme given.sound));
    }

pub reaction_keeps : (dims : Option ℕ) (species : List (List ℕ)) (said : List ReactionSaid) (line : Stated) (more : ReactionSaid) → reaction_said species said line ≡ Ok more → AreReactions dims (length species) said → AreReactions dims (length species) (more ∷ said)
reaction_keeps dims species said line more is sound =
    let by = said_by reacts (reaction_in species (reaction_names_of (reactions_of said)) line) more is in
    subst (λ more. AreReactions dims (length species) (more ∷ said)) by.2 (reacts_keeps dims species said line by.0 by.1 sound)

-- what holds where a radius is given
record IsRadius (said : List ReactionSaid) (number : ℕ) (radius : Micro) : Type 0 where
  below : number < length (schemes_of said)
  reaction : Reaction
  at : slice_get (reactions_of said) number ≡ Some reaction
  two : reaction.order ≡ 2
  within : (pos 0 ≤ℤ radius.0) × (unsigned_abs radius.0 ≤ longest)

is_radius : (said : List ReactionSaid) (line : Stated) (given : ℕ × Micro) → binding_radius_in (reactions_of said) line ≡ Ok given → IsRadius said given.0 given.1
unfolding binding_radius_in
is_radius said line given is =
    let words = held (length (words_of line) == 3) WrongWordCount [] _ given is in
    let number = valued (number_in (reaction_names_of (reactions_of said)) (word_at line 1)) _ given words.1 in
    let reaction = valued (reaction_at (reactions_of said) number.0) _ given number.2 in
    let two = held (reaction.0.order == 2) BadReaction [] _ given reaction.2 in
    let radius = valued (distance_in (word_at line 2)) _ given two.1 in
    subst (λ (given : ℕ × Micro). IsRadius said given.0 given.1) (same_value (number.0, record { 0 = radius.0 }) given radius.2)
    (record {
      below = number_behind said (word_at line 1) number.0 number.1;
      reaction = reaction.0;
      at = is_there (slice_get (reactions_of said) number.0) UnknownName reaction.0 reaction.1;
      two = let test = two.0 in grind (arith, nat_tests);
      within = distance_within (word_at line 2) radius.0 radius.1;
    })

pub binding_radius_keeps : (dims : Option ℕ) (count : ℕ) (said : List ReactionSaid) (line : Stated) (more : ReactionSaid) → binding_radius_said said line ≡ Ok more → AreReactions dims count said → AreReactions dims count (more ∷ said)
binding_radius_keeps dims count said line more is sound =
    let by = said_by (λ given. binds given.0 given.1) (binding_radius_in (reactions_of said) line) more is in
    let given = is_radius said line by.0 by.1 in
    subst (λ more. AreReactions dims count (more ∷ said)) by.2
    (record {
      ordered = (given.below, sound.ordered);
      count = sound.count;
      all = λ axes fits. subst (All (IsReaction axes count)) (sym (radius_more said by.0.0 by.0.1))
          (All-changed_at (IsReaction axes count) (with_radius by.0.1) by.0.0 (reactions_of said) given.reaction given.at
          (radius_sound axes count by.0.1 given.reaction given.two given.within) (sound.all axes fits));
    })

record IsChance (said : List ReactionSaid) (number chance : ℕ) : Type 0 where
  below : number < length (schemes_of said)
  within : chance ≤ whole_chance

is_chance : (said : List ReactionSaid) (line : Stated) (given : ℕ × ℕ) → reaction_probability_in (reactions_of said) line ≡ Ok given → IsChance said given.0 given.1
unfolding reaction_probability_in
is_chance said line given is =
    let words = held (length (words_of line) == 3) WrongWordCount [] _ given is in
    let number = valued (number_in (reaction_names_of (reactions_of said)) (word_at line 1)) _ given words.1 in
    let chance = valued (chance_in (word_at line 2)) _ given number.2 in
    subst (λ (given : ℕ × ℕ). IsChance said given.0 given.1) (same_value (number.0, chance.0) given chance.2)
    (record { below = number_behind said (word_at line 1) number.0 number.1; within = chance_in-within (word_at line 2) chance.0 chance.1 })

pub reaction_probability_keeps : (dims : Option ℕ) (count : ℕ) (said : List ReactionSaid) (line : Stated) (more : ReactionSaid) → reaction_probability_said said line ≡ Ok more → AreReactions dims count said → AreReactions dims count (more ∷ said)
reaction_probability_keeps dims count said line more is sound =
    let by = said_by (λ given. happens given.0 given.1) (reaction_probability_in (reactions_of said) line) more is in
    let given = is_chance said line by.0 by.1 in
    subst (λ more. AreReactions dims count (more ∷ said)) by.2
    (record {
      ordered = (given.below, sound.ordered);
      count = sound.count;
      all = λ axes fits. subst (All (IsReaction axes count)) (sym (chance_more said by.0.0 by.0.1))
          (All-changed (IsReaction axes count) (with_chance by.0.1) by.0.0 (reactions_of said) (chance_sound axes count by.0.1 given.within) (sound.all axes fits));
    })

-- what holds where products are placed
record IsPlaced (dims count : ℕ) (said : List ReactionSaid) (number : ℕ) (given : ProductPlacement) : Type 0 where
  below : number < length (schemes_of said)
  reaction : Reaction
  at : slice_get (reactions_of said) number ≡ Some reaction
  keeps : IsReaction dims count reaction → IsReaction dims count (with_placement given reaction)

placed_in : (dims count : ℕ) (species : List (List ℕ)) (said : List ReactionSaid) (line : Stated) (given : ℕ × ProductPlacement) → product_placement_in (Some dims) species (reactions_of said) (kinds_of said) line ≡ Ok given → IsPlaced dims count said given.0 given.1
unfolding product_placement_in
placed_in dims count species said line given is =
    let words = held (nat_le 3 (length (words_of line))) WrongWordCount [] _ given is in
    let wanted = valued (kind_in (word_at line 2)) _ given words.1 in
    let exact = held (length (words_of line) == words_for wanted.0 dims) WrongWordCount [] _ given wanted.2 in
    let number = valued (number_in (reaction_names_of (reactions_of said)) (word_at line 1)) _ given exact.1 in
    let reaction = valued (reaction_at (reactions_of said) number.0) _ given number.2 in
    let taken = held (takes (slice_index_or (kinds_of said) number.0 None) wanted.0) BadReaction [] _ given reaction.2 in
    let placement = valued (placement_in wanted.0 dims species (product_species reaction.0.products) line) _ given taken.1 in
    subst (λ (given : ℕ × ProductPlacement). IsPlaced dims count said given.0 given.1) (same_value (number.0, placement.0) given placement.2)
    (record {
      below = number_behind said (word_at line 1) number.0 number.1;
      reaction = reaction.0;
      at = is_there (slice_get (reactions_of said) number.0) UnknownName reaction.0 reaction.1;
      keeps = placement_keeps wanted.0 dims count species line placement.0 reaction.0 placement.1;
    })

places_keeps : (dims count : ℕ) (species : List (List ℕ)) (said : List ReactionSaid) (line : Stated) (given : ℕ × ProductPlacement) → product_placement_in (Some dims) species (reactions_of said) (kinds_of said) line ≡ Ok given → AreReactions (Some dims) count said → AreReactions (Some dims) count (places given.0 given.1 ∷ said)
places_keeps dims count species said line given rule sound =
    let placed = placed_in dims count species said line given rule in
    let all = All-changed_at (IsReaction dims count) (with_placement given.1) given.0 (reactions_of said) placed.reaction placed.at placed.keeps (sound.all dims refl) in
    record {
      ordered = (placed.below, sound.ordered);
      count = sound.count;
      all = λ axes fits. subst (λ (axes : ℕ). All (IsReaction axes count) (reactions_of (places given.0 given.1 ∷ said))) fits
          (subst (All (IsReaction dims count)) (sym (placement_more said given.0 given.1)) all);
    }

no_dims : (species : List (List ℕ)) (said : List ReactionSaid) (line : Stated) (given : ℕ × ProductPlacement) (P : Type 0) → product_placement_in None species (reactions_of said) (kinds_of said) line ≡ Ok given → P
unfolding product_placement_in
no_dims species said line given P is = no_value BadOrder given is

pub product_placement_keeps : (dims : Option ℕ) (count : ℕ) (species : List (List ℕ)) (said : List ReactionSaid) (line : Stated) (more : ReactionSaid) → product_placement_said dims species said line ≡ Ok more → AreReactions dims count said → AreReactions dims count (more ∷ said)
product_placement_keeps (Some dims) count species said line more is sound =
    let by = said_by (λ given. places given.0 given.1) (product_placement_in (Some dims) species (reactions_of said) (kinds_of said) line) more is in
    subst (λ more. AreReactions (Some dims) count (more ∷ said)) by.2 (places_keeps dims count species said line by.0 by.1 sound)
product_placement_keeps None count species said line more is sound =
    let by = said_by (λ given. places given.0 given.1) (product_placement_in None species (reactions_of said) (kinds_of said) line) more is in
    no_dims species said line by.0 _ by.1

-- nothing that is said is sound
pub nothing_sound : (dims : Option ℕ) (count : ℕ) → AreReactions dims count []
nothing_sound dims count = record { ordered = tt; count = omega arith; all = λ axes fits. All-nil (IsReaction axes count) }

product_more : (axes count more : ℕ) → count ≤ more → (product : Product) → IsProduct axes count product → IsProduct axes more product
product_more axes count more fits product sound =
    let below = sound.species in
    record { species = omega (arith, fits, below); axes = sound.axes; even = sound.even; size = sound.size; unused = sound.unused }

reaction_wider : (axes count more : ℕ) → count ≤ more → (reaction : Reaction) → IsReaction axes count reaction → IsReaction axes more reaction
reaction_wider axes count more fits reaction sound = record {
  order_above = sound.order_above;
  order_below = sound.order_below;
  reactant_count = sound.reactant_count;
  reactants = All-weaker (λ (species : ℕ). species < count) (λ (species : ℕ). species < more) (λ species below. omega (arith, fits, below)) reaction.reactants sound.reactants;
  product_count = sound.product_count;
  products = All-weaker (IsProduct axes count) (IsProduct axes more) (product_more axes count more fits) reaction.products sound.products;
  radius_order = sound.radius_order;
  radius_above = sound.radius_above;
  radius_below = sound.radius_below;
  threshold = sound.threshold;
  rate_order = sound.rate_order;
  rate_below = sound.rate_below;
  placement = sound.placement;
}

-- more species leave reactions sound
pub species_keep : (dims : Option ℕ) (count more : ℕ) (said : List ReactionSaid) → count ≤ more → AreReactions dims count said → AreReactions dims more said
species_keep dims count more said fits sound = record {
  ordered = sound.ordered;
  count = sound.count;
  all = λ axes given. All-weaker (IsReaction axes count) (IsReaction axes more) (reaction_wider axes count more fits) (reactions_of said) (sound.all axes given);
}

-- the number of axes, once it is given, leaves reactions sound
pub dims_keep : (dims : Option ℕ) (count : ℕ) (said : List ReactionSaid) → AreReactions None count said → AreReactions dims count said
dims_keep dims count said sound = record {
  ordered = sound.ordered;
  count = sound.count;
  all = λ axes given. sound.all axes tt;
}
