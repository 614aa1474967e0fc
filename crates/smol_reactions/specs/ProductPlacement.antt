-- `product_placement REACTION offset PRODUCT X ...` and `product_placement REACTION unbindrad V`: where products go.
use Rattle.std.specs.Prelude.{ℕ, ◌+◌, ◌-◌, ◌==◌, nat_le, nat_lt, Bool, true, false, ℤ, pos, negsuc, ◌*ℤ◌, List, [], ◌∷◌, length, map, take, drop, position, slice_index_or, Option, None, Some, Result, Ok, Err, if◌then◌else◌, codes}
use Rattle.std.specs.Str.{bytes_eq}
use Rattle.smol_geom.specs.declared.place.Step3.{Step3}
use Rattle.smol_text.specs.Reading.{Stated, words_of}
use Rattle.smol_num.specs.declared.num_fault.NumFault.{NumFault}
use Rattle.smol_num.specs.declared.num_fault.NumFault.TheVariants as number
use Rattle.smol_num.specs.Digits.{count_of}
use Rattle.smol_types.specs.declared.fault.Kind.{Kind}
use Rattle.smol_types.specs.declared.fault.Kind.TheVariants.{WrongWordCount, UnknownName, BadOrder, BadReaction, NotInProfile}
use Rattle.smol_types.specs.declared.reaction.Product.{Product}
use Rattle.smol_types.specs.declared.reaction.Reaction.{Reaction}
use Rattle.smol_types.specs.Limits.{longest, most_products}
use Rattle.smol_line.specs.Words.{word_at}
use Rattle.smol_line.specs.Checks.{unless, there, word_count, passing, with_value}
use Rattle.smol_line.specs.Numbers.{decimal_in}
use Rattle.smol_line.specs.SpeciesWord.{number_found, number_in, species_word_in}
use Rattle.smol_reactions.specs.declared.product_placement.PlacementKind.{PlacementKind}
use Rattle.smol_reactions.specs.declared.product_placement.PlacementKind.TheVariants as kind
use Rattle.smol_reactions.specs.declared.product_placement.ProductPlacement.{ProductPlacement}
use Rattle.smol_reactions.specs.declared.product_placement.ProductPlacement.TheVariants as placement
use Rattle.smol_reactions.specs.Reaction.{reaction_names_of}
use Rattle.smol_reactions.specs.BindingRadius.{reaction_at, distance_in}

-- the kind of placement that a word names
unfoldable pub kind_in : List ℕ → Result PlacementKind Kind
kind_in word =
    if bytes_eq word (codes "offset")
    then Ok kind.Offset
    else (if bytes_eq word (codes "unbindrad") then Ok kind.Unbindrad else Err NotInProfile)

-- how many words a line of this kind has
abbrev pub words_for : PlacementKind → ℕ → ℕ
words_for kind.Offset dims = 4 + dims
words_for kind.Unbindrad dims = 4

-- a reaction that was given one kind of placement takes no other
abbrev pub takes : Option PlacementKind → PlacementKind → Bool
takes None kind = true
takes (Some kind.Offset) kind.Offset = true
takes (Some kind.Offset) kind.Unbindrad = false
takes (Some kind.Unbindrad) kind.Offset = false
takes (Some kind.Unbindrad) kind.Unbindrad = true

-- the species of products
abbrev pub product_species : List Product → List ℕ
product_species products = map (λ (product : Product). product.species) products

-- whether a word is `product_N`, N a count from 1, whose digits spell this
abbrev pub counts_from_1 : Result ℕ NumFault → Bool
counts_from_1 (Ok n) = nat_le 1 n
counts_from_1 (Err number.NotNumber) = false
counts_from_1 (Err number.TooFine) = false
counts_from_1 (Err number.TooLarge) = true

-- product N of so many products, numbered from 0
abbrev pub product_of : ℕ → Result ℕ NumFault → Result ℕ Kind
product_of count (Ok n) = if nat_le n count then Ok (n - 1) else Err UnknownName
product_of count (Err fault) = Err UnknownName

-- the count behind `product_` of a word that begins so
abbrev pub numeral_of : List ℕ → Result ℕ NumFault
numeral_of word =
    if bytes_eq (take 8 word) (codes "product_") then count_of (drop 8 word) most_products else Err number.NotNumber

-- the first product of a species
abbrev pub first_of_species : List ℕ → ℕ → Result ℕ Kind
first_of_species products species = number_found (position (λ product. product == species) products)

-- the number of the product that a word means, of products of these species: a count comes before a name
unfoldable pub product_in : List (List ℕ) → List ℕ → List ℕ → Result ℕ Kind
product_in species products word =
    if counts_from_1 (numeral_of word)
    then product_of (length products) (numeral_of word)
    else with_value (species_word_in species word) (first_of_species products)

-- the offset of a line on an axis in ticks, which is 0 where the axis isn't in use
abbrev pub offset_at : ℕ → ℕ → Stated → Result ℤ Kind
offset_at dims axis line =
    if nat_lt axis dims
    then with_value (decimal_in 6 (negsuc 999999999) (pos longest) (word_at line (4 + axis))) (λ micros. Ok (pos 2 *ℤ micros))
    else Ok (pos 0)

-- the offset of a line
unfoldable pub offset_in : ℕ → Stated → Result Step3 Kind
offset_in dims line =
    with_value (offset_at dims 0 line) (λ x.
    with_value (offset_at dims 1 line) (λ y.
    with_value (offset_at dims 2 line) (λ z.
    Ok (record { 0 = x ∷ y ∷ z ∷ [] }))))

-- how a line of this kind places products of these species
unfoldable pub placement_in : PlacementKind → ℕ → List (List ℕ) → List ℕ → Stated → Result ProductPlacement Kind
placement_in kind.Offset dims species products line =
    with_value (product_in species products (word_at line 3)) (λ product.
    with_value (offset_in dims line) (λ offset.
    Ok (placement.Offset product offset)))
placement_in kind.Unbindrad dims species products line =
    passing (unless (length products == 2) BadReaction ∷ [])
    (with_value (distance_in (word_at line 3)) (λ distance.
    Ok (placement.Unbind distance)))

-- the number of a reaction and how its products are placed, by the axes in use, beside these species and reactions,
-- and by the kinds of placement that the reactions were given
unfoldable pub product_placement_in : Option ℕ → List (List ℕ) → List Reaction → List (Option PlacementKind) → Stated
    → Result (ℕ × ProductPlacement) Kind
product_placement_in given species reactions kinds line =
    with_value (there given BadOrder) (λ dims.
    passing (unless (nat_le 3 (length (words_of line))) WrongWordCount ∷ [])
    (with_value (kind_in (word_at line 2)) (λ kind.
    passing (word_count (words_for kind dims) line ∷ [])
    (with_value (number_in (reaction_names_of reactions) (word_at line 1)) (λ number.
    with_value (reaction_at reactions number) (λ reaction.
    passing (unless (takes (slice_index_or kinds number None) kind) BadReaction ∷ [])
    (with_value (placement_in kind dims species (product_species reaction.products) line) (λ placement.
    Ok (number, placement)))))))))
