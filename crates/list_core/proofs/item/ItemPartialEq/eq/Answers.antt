use Rattle.std.proofs.Common.{ℕ, List, ◌≡◌, ◌∙◌, ap, rules}
use Rattle.std.specs.Prelude.{map, nat_eq, string_bytes}
use Rattle.std.specs.Option.{option_eq, option_map}
use Rattle.std.specs.Cmp.Lexicographic.{pointwise}
use Rattle.list_core.specs.Item.{Item}
use Rattle.list_core.proofs.ItemEqLemmas.{listed_eq}
use Rattle.list_core.proofs.item.ItemPartialEq.eq.Goals as goal

pub returns-then-self-other : goal.returns-then-self-other
returns-then-self-other c =
    let texts : c.eq-then-self-other.result
    ≡ option_eq (pointwise (pointwise nat_eq)) c.args.self.now.listed c.args.other.now.listed =
    c.eq-then-self-other.ensures
    ∙ (listed_eq (λ texts. texts.items) (λ text. string_bytes text) c.self.inside.listed
    c.other.inside.listed
    ∙ ap (λ (i : Item). option_eq (pointwise (pointwise nat_eq)) i.listed
    (option_map (λ texts. map (λ text. string_bytes text) texts.items) c.other.inside.listed))
    c.self.view_is
    ∙ ap (λ (i : Item). option_eq (pointwise (pointwise nat_eq)) c.args.self.now.listed i.listed)
    c.other.view_is) in
    search rules
