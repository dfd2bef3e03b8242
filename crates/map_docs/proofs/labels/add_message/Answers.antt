use Rattle.std.proofs.Common.{◌∙◌, ◌++◌, List, ℕ, ap, string_bytes, subst, sym}
use Rattle.cell_core.specs.Keyed.{IsMap}
use Rattle.cell_core.specs.Entry.{key_cmp}
use Rattle.catalogue.specs.CatalogueFlat.{under}
use Rattle.map_docs.specs.inner.MembersRowsSeen.{keys_in_seen, keys_seen, live}
use Rattle.map_docs.proofs.MapsLabelsLemmas.{after_IsMap, live_IsMap, message_added}
use Rattle.map_docs.proofs.labels.add_message.Goals as goal

-- what was found ascends, and comes after smaller messages
pub push_languages-requires : goal.push_languages-requires
push_languages-requires c =
    subst (λ (id : List ℕ). IsMap key_cmp
    (c.args.maps.now ++ under id (live c.in_ok-found.found.entries))) (sym c.in_ok-id.ensures.1)
    (after_IsMap c.args.maps.now (string_bytes c.args.name) (live c.in_ok-found.found.entries)
    c.requires.sorted c.requires.lesser
    (live_IsMap c.in_ok-found.found.entries c.in_ok-found.ensures.1.map))

pub returns-clause-ok : goal.returns-clause-ok
returns-clause-ok c =
    message_added c.args.maps.now c.push_languages.new.maps c.args.row (string_bytes c.args.name)
    (keys_in_seen c.args.keys) (keys_seen c.in-Some.keys.items) c.in_ok-found.found.entries
    (ap keys_in_seen c.in-Some.is) c.in_ok-id.ensures.0 c.in_ok-found.ensures.0
    c.in_ok-found.ensures.1
    (c.in_ok-push_languages.ensures
    ∙ ap (λ (id : List ℕ). c.args.maps.now ++ under id (live c.in_ok-found.found.entries))
    c.in_ok-id.ensures.1)
