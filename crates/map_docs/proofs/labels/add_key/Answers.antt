use Rattle.std.proofs.Common.{◌≡◌, ◌∙◌, ◌++◌, [], ◌∷◌, Some, false, string_bytes, ap, subst, sym}
use Rattle.std.proofs.lemmas.Result.{err_from_is_err_and}
use Rattle.std.specs.BTreeMap.{is_at}
use Rattle.std.specs.Map.{lookup}
use Rattle.std.specs.Prelude.{is_some}
use Rattle.cell_core.specs.Entry.{text_cmp}
use Rattle.cell_core.specs.Label.{texts_of}
use Rattle.map_docs.specs.MembersRows.{Strings}
use Rattle.map_docs.specs.inner.MembersRowsSeen.{HoldsKeys, strings_seen}
use Rattle.map_docs.proofs.MapsLabelsLemmas.{HoldsKeys-next, key_passes, label_fails}
use Rattle.map_docs.proofs.MapsLabelsLemmas.{language_fails, lower_of, repeated_fails}
use Rattle.map_docs.proofs.MapsLabelsLemmas.{shape_fails}
use Rattle.map_docs.proofs.labels.add_key.Goals as goal

pub returns-in_err-lang-clause-err : goal.returns-in_err-lang-clause-err
returns-in_err-lang-clause-err c =
    let p = err_from_is_err_and c.from_residual.result c.from_residual.ensures.1 in
    rw (p.1, p.2) (language_fails c.args.found.now.entries c.args.row c.as_str.result.now
    (string_bytes c.args.key) (strings_seen c.args.strings) _ c.as_str.ensures.value
    c.in_err-lang.ensures)

pub returns-then-contains_key-clause-err : goal.returns-then-contains_key-clause-err
returns-then-contains_key-clause-err c =
    repeated_fails c.args.found.now.entries c.args.row c.as_str.result.now (string_bytes c.args.key)
    c.in_ok-lang.lang c.as_str.ensures.value c.in_ok-lang.ensures (strings_seen c.args.strings)
    (sym c.contains_key.ensures ∙ c.if-contains_key.true)

pub returns-in_default-clause-err : goal.returns-in_default-clause-err
returns-in_default-clause-err c =
    shape_fails c.args.found.now.entries c.args.row c.as_str.result.now (string_bytes c.args.key)
    c.in_ok-lang.lang c.as_str.ensures.value c.in_ok-lang.ensures
    (sym c.contains_key.ensures ∙ c.if-contains_key.false)
    (strings_seen c.args.strings) (ap strings_seen c.in_default.is)

pub returns-in_err-label-clause-err : goal.returns-in_err-label-clause-err
returns-in_err-label-clause-err c =
    let p =
    err_from_is_err_and c.from_residual-in_err-label.result
    c.from_residual-in_err-label.ensures.1 in
    rw (p.1, p.2)
    (label_fails c.args.found.now.entries c.args.row c.as_str.result.now (string_bytes c.args.key)
    c.in_ok-lang.lang c.as_str.ensures.value c.in_ok-lang.ensures
    (sym c.contains_key.ensures ∙ c.if-contains_key.false)
    (texts_of c.in-Some.strings.items) (strings_seen c.args.strings) _
    (ap strings_seen c.in-Some.is) c.in_err-label.ensures)

-- The key passes its tests, since it spells a language that is new here and its strings are a label
-- or none; and it is held with those before it, since it was inserted.
pub returns-clause-ok : goal.returns-clause-ok
returns-clause-ok c = λ before holds.
    let found = c.args.found.now.entries in
    let key = string_bytes c.args.key in
    let texts = texts_of c.in-Some.strings.items in
    let seen : strings_seen c.args.strings ≡ Some texts = ap strings_seen c.in-Some.is in
    let absent : is_some (lookup (is_at (text_cmp c.in_ok-lang.lang)) found) ≡ false =
    sym c.contains_key.ensures ∙ c.if-contains_key.false in
    let passes =
    key_passes found c.args.row c.as_str.result.now key c.in_ok-lang.lang c.as_str.ensures.value
    c.in_ok-lang.ensures absent texts (strings_seen c.args.strings) seen
    c.in_ok-label.ensures.0 before holds in
    let lower =
    lower_of c.as_str.result.now key c.in_ok-lang.lang c.as_str.ensures.value
    c.in_ok-lang.ensures in
    let next =
    HoldsKeys-next before found c.insert.new.self.entries key c.in_ok-lang.lang texts
    c.in_ok-label.label holds lower absent c.in_ok-label.ensures.1
    c.in_ok-insert.ensures.entries c.in_ok-insert.ensures.updates.0 in (
      passes,
      subst (λ (o : Strings). HoldsKeys (before ++ (key, o) ∷ []) c.insert.new.self.entries)
          (sym seen) next,
    )
