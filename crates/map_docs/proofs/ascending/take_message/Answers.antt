use Rattle.std.proofs.Common.{◌≡◌, ◌∷◌, List, ℕ, ap, arith, length, subst, sym}
use Rattle.json.specs.Token.{begin_object}
use Rattle.json_docs.proofs.ObjectMembersLemmas.{object_read}
use Rattle.map_docs.specs.MembersRows.{keys_of}
use Rattle.map_docs.specs.inner.MembersRowsSeen.{AreLesser}
use Rattle.map_docs.specs.inner.AscendingLabels.{IsUnder}
use Rattle.map_docs.proofs.ascending.take_message.Goals as goal

-- the id is the name
pub take_languages-requires : goal.take_languages-requires
take_languages-requires g c =
    let holds = c.requires in (
      holds.0,
      holds.1,
      holds.2,
      subst (AreLesser holds.1) (sym c.in_ok-id.ensures.0) holds.3,
      holds.4,
    )

pub returns : goal.returns
returns g c =
    let ts = c.begins_object.new.reader in
    let is : c.args.reader.now ≡ begin_object ∷ ts = c.if-not-begins_object.ensures in
    let read = c.in_ok-take_languages.ensures in
    let opened = ap length is in
    let lesser = read.2 in (
      read.0,
      object_read c.args.reader.now ts c.take_languages.new.reader read.0 is read.1,
      omega (arith, opened, lesser),
      c.in_ok-id.ensures.1,
      subst (λ (id : List ℕ). IsUnder g.T.TakeLabels.Holds c.args.taker.now
          c.take_languages.new.taker id (keys_of read.0)) c.in_ok-id.ensures.0 read.3,
    )
