-- The documents that have a kind, and the names of their members. Project rule.
use Rattle.std.specs.Prelude.{ℕ, List, [], ◌∷◌, Bool, codes, if◌then◌else◌}
use Rattle.std.specs.List.{list_any}
use Rattle.std.specs.Str.{bytes_eq}
use Rattle.row_docs.specs.declared.kind.Kind.{Kind}
use Rattle.row_docs.specs.declared.kind.Kind.TheVariants.{Site, Delta, Summary, Script}
use Rattle.row_docs.specs.declared.kind.Member.{Member}
use Rattle.row_docs.specs.declared.kind.Member.TheVariants.{Kind as KindMember, Version}
use Rattle.row_docs.specs.declared.kind.Member.TheVariants.{Subject, Rows, Other}

-- what the member "kind" says
abbrev pub kind_text : Kind → List ℕ
kind_text Site = codes "site"
kind_text Delta = codes "delta"
kind_text Summary = codes "summary"
kind_text Script = codes "script"

-- the member that names a site, or says how many there are
abbrev pub subject_of : Kind → List ℕ
subject_of Site = codes "site"
subject_of Delta = codes "to"
subject_of Summary = codes "owner"
subject_of Script = codes "sites"

-- the member that has the rows
abbrev pub rows_of : Kind → List ℕ
rows_of Site = codes "cells"
rows_of Delta = codes "cells"
rows_of Summary = codes "stamps"
rows_of Script = codes "steps"

-- all its members
abbrev pub names_of : Kind → List (List ℕ)
names_of kind = codes "kind" ∷ codes "version" ∷ subject_of kind ∷ rows_of kind ∷ []

-- whether a name is one of these
abbrev pub is_among : List ℕ → List (List ℕ) → Bool
is_among name names = list_any (λ known. bytes_eq name known) names

-- the member that has a name, by which of the four names of a document it is
abbrev pub member_by : Bool → Bool → Bool → Bool → Member
member_by is_kind is_version is_subject is_rows =
    if is_kind then KindMember else
    (if is_version then Version else
    (if is_subject then Subject else (if is_rows then Rows else Other)))

-- which member of a document of this kind has the name
abbrev pub member_of : Kind → List ℕ → Member
member_of kind name =
    member_by (bytes_eq name (codes "kind")) (bytes_eq name (codes "version"))
    (bytes_eq name (subject_of kind)) (bytes_eq name (rows_of kind))
