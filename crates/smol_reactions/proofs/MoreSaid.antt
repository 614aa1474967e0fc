-- What one line more says of reactions.
use Rattle.std.proofs.Common.{◌≡◌, ◌≢◌, ℕ, ℤ, ◌+◌, ◌≤◌, List, [], ◌∷◌, ◌++◌, length, map, Option, None, Some, refl, sym, ap, ◌∙◌, arith, ne_eqb, eq-eqb, length-append}
use Rattle.smol_num.specs.declared.quantities.Micro.{Micro}
use Rattle.smol_geom.specs.declared.place.Step3.{Step3}
use Rattle.smol_line.specs.LookingBack.{nearer, nearest}
use Rattle.smol_reactions.specs.declared.scheme.Scheme.{Scheme}
use Rattle.smol_reactions.specs.declared.product_placement.ProductPlacement.{ProductPlacement}
use Rattle.smol_reactions.specs.declared.product_placement.ProductPlacement.TheVariants.{Offset, Unbind}
use Rattle.smol_reactions.specs.Numbered.{numbered, changed}
use Rattle.smol_reactions.specs.ReactionSaid.{ReactionSaid, reacts, binds, happens, places}
use Rattle.smol_reactions.specs.Content.{schemes_of, of_reaction, radius_said, chance_said, offset_by, offset_said, unbinding, unbinding_said, placement_kind_of, kind_said, product_made, reaction_made, reactions_of, kinds_of, chances_of}
use Rattle.smol_reactions.specs.Changes.{fresh_product, fresh_reaction, with_chance, with_offset, with_placement, with_radius}
use Rattle.smol_reactions.specs.Order.{AreOrdered}
use Rattle.smol_reactions.proofs.Lists.{numbered-push, numbered_same, numbered_changed}

-- what is said of this reaction
pub this_reaction : {T : Type 0} (number : ℕ) (matter : Option T) → of_reaction number number matter ≡ matter
this_reaction number matter = rw (eq-eqb number number refl) refl

-- what is said of another
pub other_reaction : {T : Type 0} (number said : ℕ) (matter : Option T) → number ≢ said → of_reaction number said matter ≡ None
other_reaction number said matter other = rw (ne_eqb said number (λ same. other (sym same))) refl

pub radius_more : (said : List ReactionSaid) (number : ℕ) (radius : Micro) → reactions_of (binds number radius ∷ said) ≡ changed (with_radius radius) number (reactions_of said)
radius_more said number radius =
    numbered_changed (reaction_made said) (reaction_made (binds number radius ∷ said)) (with_radius radius) 0 number number (schemes_of said) (omega arith)
    (λ k scheme other. rw (other_reaction k number (Some radius) other) refl)
    (λ scheme. rw (this_reaction number (Some radius)) refl)

pub chance_more : (said : List ReactionSaid) (number chance : ℕ) → reactions_of (happens number chance ∷ said) ≡ changed (with_chance chance) number (reactions_of said)
chance_more said number chance =
    numbered_changed (reaction_made said) (reaction_made (happens number chance ∷ said)) (with_chance chance) 0 number number (schemes_of said) (omega arith)
    (λ k scheme other. rw (other_reaction k number (Some chance) other) refl)
    (λ scheme. rw (this_reaction number (Some chance)) refl)

pub chances_more : (said : List ReactionSaid) (number chance : ℕ) → chances_of (happens number chance ∷ said) ≡ changed (λ _. Some chance) number (chances_of said)
chances_more said number chance =
    numbered_changed (λ k (scheme : Scheme). nearest (chance_said k) said) (λ k (scheme : Scheme). nearest (chance_said k) (happens number chance ∷ said)) (λ _. Some chance) 0 number number (schemes_of said) (omega arith)
    (λ k scheme other. rw (other_reaction k number (Some chance) other) refl)
    (λ scheme. rw (this_reaction number (Some chance)) refl)

pub kinds_more : (said : List ReactionSaid) (number : ℕ) (placement : ProductPlacement) → kinds_of (places number placement ∷ said) ≡ changed (λ _. Some (placement_kind_of placement)) number (kinds_of said)
kinds_more said number placement =
    numbered_changed (λ k (scheme : Scheme). nearest (kind_said k) said) (λ k (scheme : Scheme). nearest (kind_said k) (places number placement ∷ said)) (λ _. Some (placement_kind_of placement)) 0 number number (schemes_of said) (omega arith)
    (λ k scheme other. rw (other_reaction k number (Some (placement_kind_of placement)) other) refl)
    (λ scheme. rw (this_reaction number (Some (placement_kind_of placement))) refl)

-- a placement of another reaction leaves the products of this one
products_elsewhere : (said : List ReactionSaid) (number k : ℕ) (placement : ProductPlacement) (products : List ℕ) → k ≢ number → numbered (product_made (places number placement ∷ said) k) 0 products ≡ numbered (product_made said k) 0 products
products_elsewhere said number k placement products other =
    numbered_same (product_made said k) (product_made (places number placement ∷ said) k) 0 products
    (λ product species past. rw (other_reaction k number (offset_by product placement) other) refl)

other_product : (number said : ℕ) (offset : Step3) → number ≢ said → offset_by number (Offset said offset) ≡ None
other_product number said offset other = rw (ne_eqb said number (λ same. other (sym same))) refl

this_product : (number : ℕ) (offset : Step3) → offset_by number (Offset number offset) ≡ Some offset
this_product number offset = rw (eq-eqb number number refl) refl

-- an offset moves the one product that it means
products_moved : (said : List ReactionSaid) (number product : ℕ) (offset : Step3) (products : List ℕ) → numbered (product_made (places number (Offset product offset) ∷ said) number) 0 products ≡ changed (with_offset offset) product (numbered (product_made said number) 0 products)
products_moved said number product offset products =
    numbered_changed (product_made said number) (product_made (places number (Offset product offset) ∷ said) number) (with_offset offset) 0 product product products (omega arith)
    (λ k species other. rw (this_reaction number (offset_by k (Offset product offset)), other_product k product offset other) refl)
    (λ species. rw (this_reaction number (offset_by product (Offset product offset)), this_product product offset) refl)

-- products that are unbound keep their offsets
products_unbound : (said : List ReactionSaid) (number : ℕ) (distance : ℤ) (products : List ℕ) → numbered (product_made (places number (Unbind distance) ∷ said) number) 0 products ≡ numbered (product_made said number) 0 products
products_unbound said number distance products =
    numbered_same (product_made said number) (product_made (places number (Unbind distance) ∷ said) number) 0 products
    (λ product species past. rw (this_reaction number (offset_by product (Unbind distance))) refl)

placed_elsewhere : (said : List ReactionSaid) (number k : ℕ) (placement : ProductPlacement) (scheme : Scheme) → k ≢ number → reaction_made (places number placement ∷ said) k scheme ≡ reaction_made said k scheme
placed_elsewhere said number k placement scheme other =
    rw (products_elsewhere said number k placement scheme.products other, other_reaction k number (unbinding placement) other) refl

placed_here : (said : List ReactionSaid) (number : ℕ) (placement : ProductPlacement) (scheme : Scheme) → reaction_made (places number placement ∷ said) number scheme ≡ with_placement placement (reaction_made said number scheme)
placed_here said number (Offset product offset) scheme =
    rw (products_moved said number product offset scheme.products, this_reaction number (unbinding (Offset product offset))) refl
placed_here said number (Unbind distance) scheme =
    rw (products_unbound said number distance scheme.products, this_reaction number (unbinding (Unbind distance))) refl

pub placement_more : (said : List ReactionSaid) (number : ℕ) (placement : ProductPlacement) → reactions_of (places number placement ∷ said) ≡ changed (with_placement placement) number (reactions_of said)
placement_more said number placement =
    numbered_changed (reaction_made said) (reaction_made (places number placement ∷ said)) (with_placement placement) 0 number number (schemes_of said) (omega arith)
    (λ k scheme other. placed_elsewhere said number k placement scheme other)
    (λ scheme. placed_here said number placement scheme)

-- of a reaction that isn't there yet nothing is said
quiet : {T : Type 0} (matter : ℕ → ReactionSaid → Option T) → ((number : ℕ) (scheme : Scheme) → matter number (reacts scheme) ≡ None) → ((number other : ℕ) (radius : Micro) → number ≢ other → matter number (binds other radius) ≡ None) → ((number other chance : ℕ) → number ≢ other → matter number (happens other chance) ≡ None) → ((number other : ℕ) (placement : ProductPlacement) → number ≢ other → matter number (places other placement) ≡ None) → (said : List ReactionSaid) (number : ℕ) → AreOrdered said → length (schemes_of said) ≤ number → nearest (matter number) said ≡ None
quiet matter at_reacts at_binds at_happens at_places [] number ordered past = refl
quiet matter at_reacts at_binds at_happens at_places (reacts scheme ∷ before) number ordered past =
    let count : length (schemes_of before ++ scheme ∷ []) ≡ length (schemes_of before) + 1 = length-append (schemes_of before) (scheme ∷ []) in
    ap (λ first. nearer first (nearest (matter number) before)) (at_reacts number scheme)
    ∙ quiet matter at_reacts at_binds at_happens at_places before number ordered (omega arith)
quiet matter at_reacts at_binds at_happens at_places (binds other radius ∷ before) number ordered past =
    let under = ordered.0 in
    ap (λ first. nearer first (nearest (matter number) before)) (at_binds number other radius (omega arith))
    ∙ quiet matter at_reacts at_binds at_happens at_places before number ordered.1 past
quiet matter at_reacts at_binds at_happens at_places (happens other chance ∷ before) number ordered past =
    let under = ordered.0 in
    ap (λ first. nearer first (nearest (matter number) before)) (at_happens number other chance (omega arith))
    ∙ quiet matter at_reacts at_binds at_happens at_places before number ordered.1 past
quiet matter at_reacts at_binds at_happens at_places (places other placement ∷ before) number ordered past =
    let under = ordered.0 in
    ap (λ first. nearer first (nearest (matter number) before)) (at_places number other placement (omega arith))
    ∙ quiet matter at_reacts at_binds at_happens at_places before number ordered.1 past

no_radius : (said : List ReactionSaid) (number : ℕ) → AreOrdered said → length (schemes_of said) ≤ number → nearest (radius_said number) said ≡ None
no_radius =
    quiet radius_said (λ number scheme. refl) (λ number other radius apart. other_reaction number other (Some radius) apart)
    (λ number other chance apart. refl) (λ number other placement apart. refl)

no_chance : (said : List ReactionSaid) (number : ℕ) → AreOrdered said → length (schemes_of said) ≤ number → nearest (chance_said number) said ≡ None
no_chance =
    quiet chance_said (λ number scheme. refl) (λ number other radius apart. refl)
    (λ number other chance apart. other_reaction number other (Some chance) apart) (λ number other placement apart. refl)

no_kind : (said : List ReactionSaid) (number : ℕ) → AreOrdered said → length (schemes_of said) ≤ number → nearest (kind_said number) said ≡ None
no_kind =
    quiet kind_said (λ number scheme. refl) (λ number other radius apart. refl)
    (λ number other chance apart. refl) (λ number other placement apart. other_reaction number other (Some (placement_kind_of placement)) apart)

no_unbinding : (said : List ReactionSaid) (number : ℕ) → AreOrdered said → length (schemes_of said) ≤ number → nearest (unbinding_said number) said ≡ None
no_unbinding =
    quiet unbinding_said (λ number scheme. refl) (λ number other radius apart. refl)
    (λ number other chance apart. refl) (λ number other placement apart. other_reaction number other (unbinding placement) apart)

no_offset_of : (product : ℕ) (said : List ReactionSaid) (number : ℕ) → AreOrdered said → length (schemes_of said) ≤ number → nearest (offset_said number product) said ≡ None
no_offset_of product =
    quiet (λ number. offset_said number product) (λ number scheme. refl) (λ number other radius apart. refl)
    (λ number other chance apart. refl) (λ number other placement apart. other_reaction number other (offset_by product placement) apart)

numbered_fresh : (said : List ReactionSaid) (number from : ℕ) (products : List ℕ) → AreOrdered said → length (schemes_of said) ≤ number → numbered (product_made said number) from products ≡ map fresh_product products
numbered_fresh said number from [] ordered past = refl
numbered_fresh said number from (species ∷ products) ordered past =
    rw (no_offset_of from said number ordered past, numbered_fresh said number (from + 1) products ordered past) refl

made_fresh : (said : List ReactionSaid) (number : ℕ) (scheme : Scheme) → AreOrdered said → length (schemes_of said) ≤ number → reaction_made said number scheme ≡ fresh_reaction scheme
made_fresh said number scheme ordered past =
    rw (numbered_fresh said number 0 scheme.products ordered past, no_radius said number ordered past, no_chance said number ordered past, no_unbinding said number ordered past) refl

pub reaction_more : (said : List ReactionSaid) (scheme : Scheme) → AreOrdered said → reactions_of (reacts scheme ∷ said) ≡ reactions_of said ++ fresh_reaction scheme ∷ []
reaction_more said scheme ordered =
    numbered-push (reaction_made said) 0 (schemes_of said) scheme
    ∙ ap (λ reaction. reactions_of said ++ reaction ∷ []) (made_fresh said (0 + length (schemes_of said)) scheme ordered (omega arith))

pub kind_none : (said : List ReactionSaid) (scheme : Scheme) → AreOrdered said → kinds_of (reacts scheme ∷ said) ≡ kinds_of said ++ None ∷ []
kind_none said scheme ordered =
    numbered-push (λ number (_ : Scheme). nearest (kind_said number) said) 0 (schemes_of said) scheme
    ∙ ap (λ kind. kinds_of said ++ kind ∷ []) (no_kind said (0 + length (schemes_of said)) ordered (omega arith))

pub chance_none : (said : List ReactionSaid) (scheme : Scheme) → AreOrdered said → chances_of (reacts scheme ∷ said) ≡ chances_of said ++ None ∷ []
chance_none said scheme ordered =
    numbered-push (λ number (_ : Scheme). nearest (chance_said number) said) 0 (schemes_of said) scheme
    ∙ ap (λ chance. chances_of said ++ chance ∷ []) (no_chance said (0 + length (schemes_of said)) ordered (omega arith))
