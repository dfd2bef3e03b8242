-- What explains a refusal (project rule).
use Rattle.std.specs.Prelude.{◌≡◌, ◌++◌, ℕ, List, MatchOption, None, Option, Some, codes, decimal}
use Rattle.front_core.specs.Refusal.{RefusalTexts, number_of_code, refusal_of}

-- the number that is given, or that of the refusal with this word
abbrev pub number_named : Option ℕ → Option (List ℕ) → Option ℕ
number_named (Some number) word = Some number
number_named None None = None
number_named None (Some word) = number_of_code word

-- what is refused, why, and what to do, a line each
abbrev pub explanation : ℕ → RefusalTexts → List ℕ
explanation number texts =
    codes "refusal " ++ decimal number ++ codes "\nrule: " ++ texts.meaning
    ++ codes "\ncause: " ++ texts.cause ++ codes "\nwhat to do: " ++ texts.remedy ++ codes "\n"

-- the text explains the refusal of this number
abbrev pub IsExplanation : ℕ → List ℕ → Type 0
IsExplanation number text =
    MatchOption (refusal_of number) ⊥ (λ texts. text ≡ explanation number texts)
