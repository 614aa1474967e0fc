-- The faults of a line that gives a reaction.
use Rattle.std.proofs.Common.{◌≡◌, ℕ, true, nat_le, nat_lt, List, length, Option, Some, Ok, Err, refl, sym}
use Rattle.smol_text.specs.Reading.{Stated, words_of}
use Rattle.smol_types.specs.declared.fault.Kind.{Kind}
use Rattle.smol_types.specs.declared.fault.Kind.TheVariants.{TooMany}
use Rattle.smol_types.specs.Limits.{most_products, most_reactions}
use Rattle.smol_line.specs.Words.{word_at}
use Rattle.smol_line.specs.Checks.{unless}
use Rattle.smol_line.specs.Names.{new_name_in}
use Rattle.smol_reactions.specs.Reaction.{arranged_words, reaction_in, sides_in}

pub name_fails : (species known : List (List ℕ)) (line : Stated) (kind : Kind) → nat_le 5 (length (words_of line)) ≡ true → new_name_in known (word_at line 1) ≡ Err kind → reaction_in species known line ≡ Err kind
unfolding reaction_in
name_fails species known line kind enough failed = rw (enough, failed) refl

pub products_fail : (species known : List (List ℕ)) (line : Stated) (kind : Kind) (name : List ℕ) (sides : List ℕ × List ℕ × Option ℕ) → nat_le 5 (length (words_of line)) ≡ true → new_name_in known (word_at line 1) ≡ Ok name → sides_in species (arranged_words line) ≡ Ok sides → Some kind ≡ unless (nat_le (length sides.1) most_products) TooMany → reaction_in species known line ≡ Err kind
unfolding reaction_in
products_fail species known line kind name sides enough named sided failed = rw (enough, named, sided, sym failed) refl

pub reactions_fail : (species known : List (List ℕ)) (line : Stated) (kind : Kind) (name : List ℕ) (sides : List ℕ × List ℕ × Option ℕ) → nat_le 5 (length (words_of line)) ≡ true → new_name_in known (word_at line 1) ≡ Ok name → sides_in species (arranged_words line) ≡ Ok sides → nat_le (length sides.1) most_products ≡ true → Some kind ≡ unless (nat_lt (length known) most_reactions) TooMany → reaction_in species known line ≡ Err kind
unfolding reaction_in
reactions_fail species known line kind name sides enough named sided few failed = rw (enough, named, sided, few, sym failed) refl

pub reaction_is : (species known : List (List ℕ)) (line : Stated) (name : List ℕ) (sides : List ℕ × List ℕ × Option ℕ) → nat_le 5 (length (words_of line)) ≡ true → new_name_in known (word_at line 1) ≡ Ok name → sides_in species (arranged_words line) ≡ Ok sides → nat_le (length sides.1) most_products ≡ true → nat_lt (length known) most_reactions ≡ true → reaction_in species known line ≡ Ok (record { name = name; reactants = sides.0; products = sides.1; rate = sides.2 })
unfolding reaction_in
reaction_is species known line name sides enough named sided few room = rw (enough, named, sided, few, room) refl
