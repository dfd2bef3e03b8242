-- How the document of a site or a delta begins.
use Rattle.std.specs.Prelude.{◌∷◌, [], List, codes}
use Rattle.json.specs.Token.{Token, begin_array, begin_object, key}

-- `{"cells":[`
abbrev pub cells_opening : List Token
cells_opening = begin_object ∷ key (codes "cells") ∷ begin_array ∷ []
