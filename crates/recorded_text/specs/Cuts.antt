-- Cutting a text at a mark (own).
use Rattle.std.specs.Prelude.{ℕ, ◌-◌, nat_eq, if◌then◌else◌, List, [], ◌∷◌, length, take, drop, Option, Some, None, codes}
use Rattle.std.specs.Option.{option_map, option_or, option_map_or}
use Rattle.std.specs.List.{suffix_len, starts_with}
use Rattle.std.specs.Char.{is_ascii_whitespace}
use Rattle.memchr.specs.Find.{occurs_at}

-- what stands before and behind the first place of a mark
unfoldable pub first_cut : List ℕ → List ℕ → Option (List ℕ × List ℕ)
first_cut mark [] = None
first_cut mark (x ∷ xs) =
    if occurs_at (x ∷ xs) mark 0 then Some ([], drop (length mark) (x ∷ xs))
    else option_map (λ p. (x ∷ p.0, p.1)) (first_cut mark xs)

-- what stands before and behind the last place of a mark
unfoldable pub last_cut : List ℕ → List ℕ → Option (List ℕ × List ℕ)
last_cut mark [] = None
last_cut mark (x ∷ xs) =
    option_or (option_map (λ p. (x ∷ p.0, p.1)) (last_cut mark xs))
    (if occurs_at (x ∷ xs) mark 0 then Some ([], drop (length mark) (x ∷ xs)) else None)

-- without the white space at its end
unfoldable pub end_trimmed : List ℕ → List ℕ
end_trimmed text = take (length text - suffix_len is_ascii_whitespace text) text

-- what stands before the last word and its space, and the word
unfoldable pub last_word : List ℕ → List ℕ × List ℕ
last_word text =
    option_map_or (λ p. p) (last_cut (codes " ") (end_trimmed text)) ([], end_trimmed text)

-- what follows a mark that stands at the front
unfoldable pub cut_front : List ℕ → List ℕ → Option (List ℕ)
cut_front mark text = if starts_with nat_eq text mark then Some (drop (length mark) text) else None
