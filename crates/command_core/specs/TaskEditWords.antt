-- The tasks that the arguments of `put` and `delete` give (project rules).
use Rattle.std.specs.Prelude.{ℕ, List, Option, None, Some, codes, option_and_then, option_map}
use Rattle.clap.specs.Words.{Row, Text, all_of, first_of}

-- a label is put, or where there are no texts it is deleted
pub record EditWords : Type 0 where
  pub now : ℕ
  pub id : Text
  pub lang : Text
  pub texts : Option (List Text)

-- an edit of one label at a moment; none where a word is missing
abbrev pub edit_words : Option ℕ → Option (List Text) → List Row → Option EditWords
edit_words now texts rows =
    option_and_then
    (λ n. option_and_then
    (λ id. option_map (λ lang. record { now = n; id = id; lang = lang; texts = texts })
    (first_of (codes "lang") rows)) (first_of (codes "id") rows)) now

-- the edit that puts the texts; none where a word is missing
abbrev pub put_words : Option ℕ → List Row → Option EditWords
put_words now rows =
    option_and_then (λ texts. edit_words now (Some texts) rows) (all_of (codes "texts") rows)

-- the edit that deletes; none where a word is missing
abbrev pub delete_words : Option ℕ → List Row → Option EditWords
delete_words now rows = edit_words now None rows
