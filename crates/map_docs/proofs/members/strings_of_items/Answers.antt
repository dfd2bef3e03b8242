use Rattle.std.proofs.Common.{◌≡◌, ◌∙◌, ◌&&◌, [], ◌∷◌, ◌++◌, true, false, ap, ap₂, sym, arith}
use Rattle.std.specs.List.{filter_map}
use Rattle.serde_json.specs.Find.{as_str}
use Rattle.json_docs.specs.ScanningReads.{seen}
use Rattle.json_docs.proofs.PartsSeenLemmas.{IsRead-at}
use Rattle.map_docs.proofs.MembersLemmas.{item_strings-push, items_fit-push, misfit}
use Rattle.map_docs.proofs.members.strings_of_items.Goals as goal

pub add_string-requires : goal.add_string-requires
add_string-requires c =
    IsRead-at c.args.items.now c.loop-item.item-index c.item-item.result c.requires
    c.loop-item-test.true
    c.item-item.is

pub returns-then-not-branch : goal.returns-then-not-branch
returns-then-not-branch c =
    let misses : c.in_ok-add_string.field-0 ≡ false = grind arith in
    misfit c.args.items.now c.loop-item.item-index c.item-item.result c.loop-item-test.true
    c.item-item.is
    (sym c.in_ok-add_string.ensures.fits ∙ misses)

pub loop-item-preserved : goal.loop-item-preserved
loop-item-preserved c =
    let fits : c.in_ok-add_string.field-0 ≡ true = grind arith in
    let item = c.item-item.result in
    let at = c.loop-item.item-index in record {
      strings =
          c.in_ok-add_string.ensures.strings
          ∙ ap (λ t. t ++ filter_map as_str (seen item ∷ [])) c.loop-item.invariant.strings
          ∙ sym (item_strings-push c.args.items.now at item c.loop-item-test.true c.item-item.is);
      each =
          items_fit-push c.args.items.now at item c.loop-item-test.true c.item-item.is
          ∙ ap₂ (λ a b. a && b) c.loop-item.invariant.each
          (sym c.in_ok-add_string.ensures.fits ∙ fits);
    }
