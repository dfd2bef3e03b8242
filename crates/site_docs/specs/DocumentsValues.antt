-- The JSON values of the documents, version 2. Project rule: the members of an object are in byte
-- order of their names.
use Rattle.std.specs.Prelude.{ℕ, List, codes}
use Rattle.serde_json.specs.Data.{Data, object, array, number, unsigned, string, no_members, member}
use Rattle.serde_json.specs.View.{items_of}

-- `{"cells":[..],"kind":"site","site":NAME,"version":2}`
abbrev pub site_value : List ℕ → List Data → Data
site_value site rows = object
    (member (codes "cells") (array (items_of rows))
    (member (codes "kind") (string (codes "site"))
    (member (codes "site") (string site)
    (member (codes "version") (number (unsigned 2)) no_members))))

-- `{"cells":[..],"kind":"delta","to":NAME,"version":2}`
abbrev pub delta_value : List ℕ → List Data → Data
delta_value addressee rows = object
    (member (codes "cells") (array (items_of rows))
    (member (codes "kind") (string (codes "delta"))
    (member (codes "to") (string addressee)
    (member (codes "version") (number (unsigned 2)) no_members))))

-- `{"kind":"summary","owner":NAME,"stamps":[..],"version":2}`
abbrev pub summary_value : List ℕ → List Data → Data
summary_value owner rows = object
    (member (codes "kind") (string (codes "summary"))
    (member (codes "owner") (string owner)
    (member (codes "stamps") (array (items_of rows))
    (member (codes "version") (number (unsigned 2)) no_members))))
