use Rattle.std.proofs.Common.{◌≡◌, sym, ◌∙◌, arith}
use Rattle.std.proofs.lemmas.Slice.Eq.{bytes_eq-Decides}
use Rattle.list_core.proofs.Basics.{stands_at}
use Rattle.list_core.proofs.IndexLemmas.{differs, none_found, other_found, one_found, text_stands}
use Rattle.list_core.proofs.index.sought_place.Goals as goal

pub returns-then-position-places : goal.returns-then-position-places
returns-then-position-places c =
    none_found c.args.items.now c.args.places.now c.args.text.now c.position_of-position.result
    c.requires
    c.position_of-position.ensures c.if-position-places.true

pub returns-then-is_range : goal.returns-then-is_range
returns-then-is_range c =
    let same : c.index-items-place.result.range ≡ c.args.text.now =
    (bytes_eq-Decides c.index-items-place.result.range c.args.text.now).0
    (sym c.is_range.ensures ∙ c.if-is_range.true) in
    one_found c.args.items.now c.args.places.now c.args.text.now c.position_of-position.result
    c.index-items-place.result c.requires c.position_of-position.ensures (omega arith)
    (stands_at c.args.items.now _ c.index-items-place.result
    (omega (arith, c.requires.within c.position_of-position.result 0 (omega arith)))
    c.index-items-place.is) same

pub returns-else-is_range : goal.returns-else-is_range
returns-else-is_range c =
    let stands =
    stands_at c.args.items.now _ c.index-items-place.result
    (omega (arith, c.requires.within c.position_of-position.result 0 (omega arith)))
    c.index-items-place.is in
    other_found c.args.items.now c.args.places.now c.args.text.now c.position_of-position.result
    c.requires
    c.position_of-position.ensures (omega arith)
    (λ e. differs c.index-items-place.result.range c.args.text.now
    (sym c.is_range.ensures ∙ c.if-is_range.false)
    (sym (text_stands c.args.items.now _ c.index-items-place.result stands) ∙ e))
