-- Where the rows of a document lie. Project rule.
use Rattle.std.specs.Prelude.{◌≡◌, ◌∷◌, ◌++◌, [], ℕ, List, codes, drop, true}
use Rattle.json.specs.Print.{quoted}
use Rattle.cell_core.specs.SiteName.{IsSiteName}
use Rattle.catalogue.specs.Entries.{Entries, Entry}
use Rattle.row_docs.specs.Entries.{cells_values}
use Rattle.site_docs.specs.Plain.{IsEnd, last_members, open_items}

-- `{"cells":[`
abbrev pub opening : List ℕ
opening = 123 ∷ (quoted (codes "cells") ++ 58 ∷ 91 ∷ [])

-- the bracket after all rows, and the members of a site after it
pub record IsTail (tail : List ℕ) : Type 0 where
  pub name : List ℕ
  pub end : List ℕ
  pub is_name : IsSiteName name
  pub is_end : IsEnd end
  pub tail_is : tail ≡ 93 ∷ last_members (codes "site") (codes "site") name end

-- the bracket at this place ends a row of the written document, and these last rows come after it
pub record IsRowEnd (text name : List ℕ) (cells : Entries) (place : ℕ) : Type 0 where
  pub before : Entries
  pub entry : Entry
  pub after : Entries
  pub end : List ℕ
  pub cells_are : cells ≡ before ++ entry ∷ after
  pub text_is : drop place text ≡ 93 ∷ (open_items true (cells_values (entry ∷ after))
      ++ 93 ∷ last_members (codes "site") (codes "site") name end)
