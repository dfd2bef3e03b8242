use Rattle.std.proofs.Common.{◌≡◌, ◌∷◌, ◌∙◌, Some, ap, inr, refl, sym}
use Rattle.std.specs.Prelude.{option_map}
use Rattle.std.proofs.lemmas.Result.{err_from_is_err_and}
use Rattle.json.specs.Reads.{token_of}
use Rattle.json.specs.Token.{begin_array, begin_object}
use Rattle.serde_json.specs.Data.{array, object}
use Rattle.map_docs.specs.MembersRows.{keys_of}
use Rattle.json_docs.proofs.ObjectMembersLemmas.{array_read, no_array, no_object, no_scalar}
use Rattle.json_docs.proofs.ObjectMembersLemmas.{nothing_read}
use Rattle.json_docs.proofs.ObjectMembersLemmas.{object_read, scalar_read}
use Rattle.map_docs.proofs.MapsLabelsLemmas.{else_by}
use Rattle.map_docs.proofs.members.read_keys.Goals as goal

pub returns-in_default-clause-read : goal.returns-in_default-clause-read
returns-in_default-clause-read c =
    inr (refl, nothing_read c.args.reader.now c.in_default.ensures.value.0)

pub returns-in_err-keys-in-BeginObject-clause-read :
    goal.returns-in_err-keys-in-BeginObject-clause-read
returns-in_err-keys-in-BeginObject-clause-read c =
    let ts = c.next.new.self in
    let is : c.args.reader.now ≡ begin_object ∷ ts =
    c.in-Some.ensures.value ∙ ap (λ t. token_of t ∷ ts) c.in-BeginObject.is in
    let p = err_from_is_err_and c.from_residual.result c.from_residual.ensures.1 in
    rw (p.1, p.2) (else_by c.in_err-keys-in-BeginObject.ensures.read
    (λ h. (h.0, no_object c.args.reader.now ts is h.1)))

pub returns-in_err-pass_items-in-BeginArray-clause-read :
    goal.returns-in_err-pass_items-in-BeginArray-clause-read
returns-in_err-pass_items-in-BeginArray-clause-read c =
    let ts = c.next.new.self in
    let is : c.args.reader.now ≡ begin_array ∷ ts =
    c.in-Some.ensures.value ∙ ap (λ t. token_of t ∷ ts) c.in-BeginArray.is in
    let from = c.from_residual-in_err-pass_items-in-BeginArray in
    let p = err_from_is_err_and from.result from.ensures.1 in
    let e = c.in_err-pass_items-in-BeginArray.ensures.read in
    rw (p.1, p.2) (inr (e.0, no_array c.args.reader.now ts is e.1))

pub returns-then-not-is_scalar-clause-read : goal.returns-then-not-is_scalar-clause-read
returns-then-not-is_scalar-clause-read c =
    let first = c.in-Some.ensures.value in
    inr (
      refl,
      rw first
          (no_scalar c.in-Some.token c.next.new.self c.in_default-token.not-BeginArray
          c.in_default-token.not-BeginObject (sym c.if-not-is_scalar.ensures)),
    )

pub returns-in_ok-keys-in-BeginObject-clause-read :
    goal.returns-in_ok-keys-in-BeginObject-clause-read
returns-in_ok-keys-in-BeginObject-clause-read c =
    let ts = c.next.new.self in
    let is : c.args.reader.now ≡ begin_object ∷ ts =
    c.in-Some.ensures.value ∙ ap (λ t. token_of t ∷ ts) c.in-BeginObject.is in
    let read = c.in_ok-keys-in-BeginObject.ensures.read in (
      object read.0,
      object_read c.args.reader.now ts c.read_members.new.reader read.0 is read.1,
      ap Some read.2,
    )

pub returns-in_ok-pass_items-in-BeginArray-clause-read :
    goal.returns-in_ok-pass_items-in-BeginArray-clause-read
returns-in_ok-pass_items-in-BeginArray-clause-read c =
    let ts = c.next.new.self in
    let is : c.args.reader.now ≡ begin_array ∷ ts =
    c.in-Some.ensures.value ∙ ap (λ t. token_of t ∷ ts) c.in-BeginArray.is in
    let read = c.in_ok-pass_items-in-BeginArray.ensures.read in
    (array read.0, array_read c.args.reader.now ts c.pass_items.new.reader read.0 is read.1, refl)

pub returns-else-not-is_scalar-clause-read : goal.returns-else-not-is_scalar-clause-read
returns-else-not-is_scalar-clause-read c =
    let first = c.in-Some.ensures.value in
    let ts = c.next.new.self in
    let read =
    scalar_read (token_of c.in-Some.token) ts (sym c.if-not-is_scalar.ensures)
    (rw first at c.requires) in
    (read.0, rw first read.1, ap (option_map keys_of) read.3)
