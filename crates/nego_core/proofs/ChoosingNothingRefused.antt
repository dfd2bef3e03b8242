-- Where no weight is 0 nothing is refused.
use Rattle.std.proofs.Common.{ℕ, ◌<◌, List, Some, None, Option, arith}
use Rattle.std.specs.Prelude.{IsSomeAnd}
use Rattle.lang_core.specs.Text.{pieces}
use Rattle.lang_core.specs.Lang.{tag_of}
use Rattle.list_core.proofs.Basics.{all_at}
use Rattle.list_core.specs.Item.{Item}
use Rattle.list_core.specs.Deciding.{IsDecidedBy, NamedRefuse, IsRefusedLang}
use Rattle.list_core.specs.Item.{AllPositive}
use Rattle.list_core.specs.declared.scheme.Scheme.{Scheme}

-- Where no weight is 0, the items other than "*" refuse no tag.
pub no_tag_refused : (items : List Item) (tag : List (List ℕ)) → AllPositive items
    → ¬ NamedRefuse items tag
no_tag_refused items tag positive r =
    let weight = all_at (λ i. 0 < i.weight) items r.0 r.1.0.item positive r.1.0.stands in
    let none = r.1.1 in
    omega arith

not_on : (scheme : Scheme) (items : List Item) (tag : Option (List ℕ)) (place : ℕ)
    → AllPositive items → ¬ IsSomeAnd tag (λ t. IsDecidedBy scheme items (pieces t) place 0)
not_on scheme items None place positive d = d
not_on scheme items (Some t) place positive d =
    let weight = all_at (λ i. 0 < i.weight) items place d.0.item positive d.0.stands in
    let none = d.1 in
    omega arith

-- Where no weight is 0, no language is refused.
pub no_lang_refused : (scheme : Scheme) (items : List Item) (lang : List ℕ) → AllPositive items
    → ¬ IsRefusedLang scheme items lang
no_lang_refused scheme items lang positive r = not_on scheme items (tag_of lang) r.0 positive r.1
