-- The parts of an `echo` line, and its text byte by byte.
use Rattle.std.proofs.Common.{◌≡◌, ℕ, ◌+◌, ◌-◌, ◌<◌, ◌≤◌, Bool, true, false, List, [], ◌∷◌, length, take, drop, get_or, refl, add-one}
use Rattle.std.specs.List.{suffix_len}
use Rattle.std.proofs.lemmas.List.{at_drop_more, at_drop_all}
use Rattle.std.proofs.lemmas.List.Sums.{suffix_len-take_yes, suffix_len-take_no}
use Rattle.smol_text.specs.Lines.{separates}
use Rattle.smol_cmd.specs.Echo.{behind_words, from_word, past_word, text_from}

-- what stands behind one word more
pub behind_one_more : (count : ℕ) (part : List ℕ) → behind_words (count + 1) part ≡ past_word (from_word (behind_words count part))
behind_one_more count part = rw add-one refl

-- a separator at the end is taken off
pub trim_more : (part : List ℕ) (end : ℕ) → 0 < end → end ≤ length part → separates (get_or part (end - 1) 0) ≡ true → suffix_len separates (take end part) ≡ 1 + suffix_len separates (take (end - 1) part)
trim_more part end some within is = suffix_len-take_yes separates part end 0 some within is

-- another byte stays
pub trim_end : (part : List ℕ) (end : ℕ) → 0 < end → end ≤ length part → separates (get_or part (end - 1) 0) ≡ false → suffix_len separates (take end part) ≡ 0
trim_end part end some within is = suffix_len-take_no separates part end 0 some within is

-- the text of the bytes from here on, by the first of them
pub text_next : (escaped : Bool) (bytes : List ℕ) (i : ℕ) → i < length bytes → text_from escaped (drop i bytes) ≡ text_from escaped (get_or bytes i 0 ∷ drop (i + 1) bytes)
text_next escaped bytes i within = at_drop_more (text_from escaped) bytes i 0 within

pub text_end : (escaped : Bool) (bytes : List ℕ) (i : ℕ) → length bytes ≤ i → text_from escaped (drop i bytes) ≡ text_from escaped []
text_end escaped bytes i past = at_drop_all (text_from escaped) bytes i past
