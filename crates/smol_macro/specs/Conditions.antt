-- The conditions that are open at a line, and which lines they leave out. The innermost one comes first.
use Rattle.std.specs.Prelude.{ℕ, Bool, true, false, not, ◌||◌, List, [], ◌∷◌, reverse, Option, None, Some, is_some, Result, Ok, Err}
use Rattle.smol_macro.specs.declared.expand_fault.MacroKind.TheVariants.{WrongWordCount, BadOrder}
use Rattle.smol_macro.specs.declared.conditions.Condition.{Condition}
use Rattle.smol_macro.specs.declared.conditions.Conditions.{Conditions}
use Rattle.smol_macro.specs.Refusal.{Refusal, at}

-- the conditions that are open, as they are kept
abbrev pub conditions_in : Option Condition → List Condition → List Condition
conditions_in None outer = []
conditions_in (Some innermost) outer = innermost ∷ reverse outer

abbrev pub conditions_of : Conditions → List Condition
conditions_of conditions = conditions_in conditions.innermost conditions.outer.items

-- a line is left out where the innermost condition doesn't hold, or where the line that opened it is left out
abbrev pub left_out : List Condition → Bool
left_out [] = false
left_out (condition ∷ outer) = not condition.holds || condition.outside

-- a name is tested for being defined, or for not being so
abbrev pub tests : Bool → (List ℕ → Option (List ℕ)) → List ℕ → Bool
tests true defined name = is_some (defined name)
tests false defined name = not (is_some (defined name))

-- a condition that the line of this number opens, by these words behind its first one, of which the one is tested
abbrev pub opened_by : ℕ → (List ℕ → Bool) → List Condition → List (List ℕ) → Result (List Condition) Refusal
opened_by number test here [] = Err (at number WrongWordCount)
opened_by number test here (name ∷ []) = Ok ((record { line = number; outside = left_out here; holds = test name; turned = false }) ∷ here)
opened_by number test here (name ∷ word ∷ words) = Err (at number WrongWordCount)

-- a condition is turned, unless it was turned before
abbrev pub turned_of : ℕ → Bool → Condition → List Condition → List (List ℕ) → Result (List Condition) Refusal
turned_of number true condition outer words = Err (at number BadOrder)
turned_of number false condition outer [] = Ok ((record { line = condition.line; outside = condition.outside; holds = not condition.holds; turned = true }) ∷ outer)
turned_of number false condition outer (word ∷ words) = Err (at number WrongWordCount)

-- the innermost condition is turned, once, by a line without more words
abbrev pub turned_by : ℕ → List Condition → List (List ℕ) → Result (List Condition) Refusal
turned_by number [] words = Err (at number BadOrder)
turned_by number (condition ∷ outer) words = turned_of number condition.turned condition outer words

-- the innermost condition is closed by a line without more words
abbrev pub closed_by : ℕ → List Condition → List (List ℕ) → Result (List Condition) Refusal
closed_by number [] words = Err (at number BadOrder)
closed_by number (condition ∷ outer) [] = Ok outer
closed_by number (condition ∷ outer) (word ∷ words) = Err (at number WrongWordCount)

-- the line that opened the outermost condition, if one is open
abbrev pub outermost : List Condition → Option ℕ
outermost [] = None
outermost (condition ∷ []) = Some condition.line
outermost (condition ∷ outer ∷ others) = outermost (outer ∷ others)
