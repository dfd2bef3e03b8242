use Rattle.std.proofs.Common.{◌≡◌, ◌∙◌, ◌∷◌, refl, subst, sym}
use Rattle.std.proofs.lemmas.List.Sorted.{IsPermutation-refl}
use Rattle.json.specs.Lex.{tokens}
use Rattle.json.specs.Token.{begin_object}
use Rattle.serde_json.specs.Data.{object}
use Rattle.json_docs.specs.inner.ObjectMembersRead.{ReadsMembers}
use Rattle.json_docs.proofs.TextWholeLemmas.{object_whole}
use Rattle.map_docs.specs.MapsLabels.{rows_labels}
use Rattle.map_docs.specs.MembersRows.{message_rows}
use Rattle.map_docs.proofs.ascending.take_text.Goals as goal

-- nothing follows the object
pub returns-in-None : goal.returns-in-None
returns-in-None g c =
    let ts = c.begins_object.new.reader in
    let first : tokens c.args.text.now ≡ begin_object ∷ ts =
    sym c.in-Ok.ensures.ok ∙ c.if-not-begins_object.ensures in
    let read = c.in_ok-take_messages.ensures in
    let rows = message_rows read.0 in
    let whole = subst (ReadsMembers 126 ts read.0) c.in-None.ensures.value.0 read.1 in (
      rows_labels rows,
      (
        object read.0,
        (c.requires.utf8, object_whole c.args.text.now ts first read.0 whole),
        (refl, read.2),
        (rows, refl, IsPermutation-refl (rows_labels rows), read.3),
      ),
      read.4,
    )
