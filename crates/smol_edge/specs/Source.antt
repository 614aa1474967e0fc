-- What a source tells, and how its calls change it.
use Rattle.std.specs.Prelude.{◌≡◌, ◌⊎◌, ℕ, List, [], ◌∷◌, ◌++◌, length, Option, Some}

-- the files that can be opened by name, the bytes left of the file that is open, and the names asked for so far, in order
pub record Reading : Type 0 where
  pub contents : List ℕ → Option (List ℕ)
  pub left : List ℕ
  pub asked : List (List ℕ)

-- the name was opened: it was asked for, and all its bytes are left
pub record Opens (name : List ℕ) (before after : Reading) : Type 0 where
  pub contents : after.contents ≡ before.contents
  pub asked : after.asked ≡ before.asked ++ name ∷ []
  pub left : before.contents name ≡ Some after.left

-- the name was not opened, whether or not it counts as asked for
pub record FailsToOpen (name : List ℕ) (before after : Reading) : Type 0 where
  pub contents : after.contents ≡ before.contents
  pub asked : (after.asked ≡ before.asked ++ name ∷ []) ⊎ (after.asked ≡ before.asked)

-- these bytes were taken from the front of what was left, and nothing else changed
pub record Takes (front : List ℕ) (before after : Reading) : Type 0 where
  pub contents : after.contents ≡ before.contents
  pub asked : after.asked ≡ before.asked
  pub left : before.left ≡ front ++ after.left

-- these bytes were all that was left
pub record TakesAll (bytes : List ℕ) (before after : Reading) : Type 0 where
  pub takes : Takes bytes before after
  pub none_left : after.left ≡ []

-- a front of what was left was taken, whose length is as said
pub record TakesFront (IsLength : ℕ → Type 0) (before after : Reading) : Type 0 where
  pub front : List ℕ
  pub takes : Takes front before after
  pub length_is : IsLength (length front)

-- the bytes by which the list grew were taken
pub record Gathers (list longer : List ℕ) (before after : Reading) : Type 0 where
  pub front : List ℕ
  pub takes : Takes front before after
  pub grown : longer ≡ list ++ front
