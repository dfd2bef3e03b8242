use Rattle.std.proofs.Common.{◌≡◌, ◌∙◌, ◌-◌, ◌<◌, ◌++◌, ◌∷◌, [], List, ℕ, length, None, Some, ap}
use Rattle.std.proofs.Common.{refl, subst, sym, arith, rules}
use Rattle.std.specs.declared.cmp.Ordering.TheVariants.{Less}
use Rattle.json.specs.Json.{read_key, value}
use Rattle.json.proofs.Grammar.{read_key-shorter}
use Rattle.serde_json.specs.Data.{no_members, put}
use Rattle.lang_core.specs.Lang.{SpellsLang}
use Rattle.cell_core.specs.Entry.{text_cmp}
use Rattle.catalogue.specs.Entries.{IsAboveAll}
use Rattle.catalogue.specs.CatalogueFlat.{under}
use Rattle.json_docs.proofs.ScanningReadingLemmas.{member_read, members_over}
use Rattle.map_docs.specs.MapsLabels.{languages_of}
use Rattle.map_docs.specs.MembersRows.{Keys, keys_of, strings_in}
use Rattle.map_docs.specs.Maps.{Labelled}
use Rattle.map_docs.specs.inner.AscendingLabels.{Takes}
use Rattle.map_docs.proofs.AscendingLemmas.{AreAscendingKeys, key_above, keys_next, member_behind}
use Rattle.map_docs.proofs.AscendingLemmas.{no_keys, takes_next, takes_none}
use Rattle.map_docs.proofs.ascending.take_languages.Goals as goal

-- no key was read yet
pub loop-key-init : goal.loop-key-init
loop-key-init g c = (
  search rules,
  (
    length c.args.reader.now,
    no_members,
    omega arith,
    refl,
    omega arith,
    no_keys [],
    takes_none g.T.TakeLabels.Holds c.args.taker.now c.args.id.now,
  ),
)

-- the key is above all that were taken
pub take-requires : goal.take-requires
take-requires g c =
    let inv = c.loop-key.invariant.1 in
    let keys = keys_of inv.1 in
    let first = c.requires.0 in
    let before = c.requires.1 in
    let lesser = c.requires.3 in
    let took = inv.6 first before c.requires.2 lesser c.requires.4 in
    let ascends : text_cmp c.loop-key.last.now c.in-Some.key.now ≡ Less =
    rw c.in-Some.is at c.in_ok-key.ensures.ascends in (
      first,
      before ++ under c.args.id.now (languages_of keys),
      took.1,
      subst (λ (l : List ℕ). IsAboveAll (c.args.id.now, l)
          (before ++ under c.args.id.now (languages_of keys))) (sym c.in_ok-lang.ensures.0)
          (key_above before c.args.id.now c.in-Some.key.now (languages_of keys) lesser
          (inv.5.languages c.in-Some.key.now ascends)),
    )

pub loop-key-smaller : goal.loop-key-smaller
loop-key-smaller g c =
    let named : read_key c.loop-key.reader ≡ Some (Some c.in-Some.key.now, c.name_after.new.reader)
    = rw c.in-Some.is at c.in_ok-key.ensures.read in
    let less = read_key-shorter c.loop-key.reader (Some c.in-Some.key.now) c.name_after.new.reader
    named in
    let lesser = c.in_ok-label.ensures.4 in
    omega (arith, less, lesser)

-- one key more
pub loop-key-preserved : goal.loop-key-preserved
loop-key-preserved g c =
    let inv = c.loop-key.invariant.1 in
    let n = inv.0 in
    let old = inv.1 in
    let last = c.loop-key.last.now in
    let key = c.in-Some.key.now in
    let s = c.name_after.new.reader in
    let r = c.next_label.new.reader in
    let named : read_key c.loop-key.reader ≡ Some (Some key, s) =
    rw c.in-Some.is at c.in_ok-key.ensures.read in
    let ascends : text_cmp last key ≡ Less = rw c.in-Some.is at c.in_ok-key.ensures.ascends in
    let less = read_key-shorter c.loop-key.reader (Some key) s named in
    let read = c.in_ok-label.ensures in
    let lesser : length r < length s = read.4 in
    let d = read.0 in
    let texts = c.in_ok-label.label in
    let spells = subst (SpellsLang key) c.in_ok-lang.ensures.0 c.in_ok-lang.ensures.1 in
    let takes = subst (λ (l : List ℕ). (first : g.row.T.Denot) (before : List Labelled)
    → g.T.TakeLabels.Holds first c.loop-key.taker before → IsAboveAll (c.args.id.now, l) before
    → g.T.TakeLabels.Holds first c.take.new.self (before ++ ((c.args.id.now, l), texts) ∷ []))
    c.in_ok-lang.ensures.0 c.in_ok-take.ensures in
    let is : keys_of (put key d old) ≡ keys_of old ++ (key, Some texts) ∷ [] =
    member_behind strings_in key d old (inv.5.above key ascends)
    ∙ ap (λ s. keys_of old ++ (key, s) ∷ []) read.2 in (
      search rules,
      (
        n - 1,
        put key d old,
        omega (arith, inv.2, less, lesser),
        inv.3
            ∙ member_read (value 125) old n key c.loop-key.reader s r d
            (omega (arith, inv.2, less)) named read.1,
        omega (arith, inv.4, less, lesser),
        subst (AreAscendingKeys key) (sym is)
            (keys_next last key (keys_of old) texts inv.5 ascends spells read.3),
        subst (λ (ks : Keys). Takes g.T.TakeLabels.Holds c.args.taker.now c.take.new.self
            c.args.id.now ks) (sym is)
            (takes_next last key (keys_of old) texts inv.5 ascends spells read.3
            g.T.TakeLabels.Holds c.args.taker.now c.loop-key.taker c.take.new.self c.args.id.now
            inv.6 takes),
      ),
    )

-- the end of the object
pub returns : goal.returns
returns g c =
    let inv = c.loop-key.invariant.1 in
    let over : read_key c.loop-key.reader ≡ Some (None, c.name_after.new.reader) =
    rw c.in_default.is at c.in_ok-key.ensures.read in
    let less = read_key-shorter c.loop-key.reader None c.name_after.new.reader over in (
      inv.1,
      inv.3
          ∙ members_over (value 125) inv.1 inv.0 c.loop-key.reader c.name_after.new.reader inv.2
          over,
      omega (arith, inv.4, less),
      (inv.5.passes, inv.6),
    )
