use Rattle.std.proofs.Common.{◌≡◌, ◌∷◌, ◌∙◌, None, Some, ap, arith, inr, length, refl, sym}
use Rattle.std.proofs.lemmas.Result.{err_from_is_err_and}
use Rattle.json.specs.Reads.{token_of}
use Rattle.json.specs.Token.{begin_array, begin_object}
use Rattle.serde_json.specs.Data.{array, object}
use Rattle.json_docs.specs.Parts.{list_of}
use Rattle.json_docs.proofs.ScanningArraysLemmas.{not_json}
use Rattle.json_docs.proofs.ObjectMembersLemmas.{array_read, no_array, no_object, no_scalar}
use Rattle.json_docs.proofs.ObjectMembersLemmas.{nothing_read}
use Rattle.json_docs.proofs.ObjectMembersLemmas.{object_read, range_after, scalar_read}
use Rattle.row_docs.proofs.header.read_array.Goals as goal

pub returns-in_default : goal.returns-in_default
returns-in_default g c = inr (refl, nothing_read c.args.reader.now c.in_default.ensures.value.0)

pub returns-in_err-refusal-in-BeginArray : goal.returns-in_err-refusal-in-BeginArray
returns-in_err-refusal-in-BeginArray g c =
    let ts = c.next.new.self in
    let is : c.args.reader.now ≡ begin_array ∷ ts = c.in-Some.ensures.value
    ∙ ap (λ t. token_of t ∷ ts) c.in-BeginArray.is in
    let p = err_from_is_err_and c.from_residual.result c.from_residual.ensures.1 in
    rw (p.1, p.2) (not_json _ _ _ (no_array c.args.reader.now ts is)
    c.in_err-refusal-in-BeginArray.ensures.read)

pub returns-in_err-pass_members-in-BeginObject : goal.returns-in_err-pass_members-in-BeginObject
returns-in_err-pass_members-in-BeginObject g c =
    let ts = c.next.new.self in
    let is : c.args.reader.now ≡ begin_object ∷ ts = c.in-Some.ensures.value
    ∙ ap (λ t. token_of t ∷ ts) c.in-BeginObject.is in
    let from = c.from_residual-in_err-pass_members-in-BeginObject in
    let p = err_from_is_err_and from.result from.ensures.1 in
    let e = c.in_err-pass_members-in-BeginObject.ensures.read in
    rw (p.1, p.2) (inr (e.0, no_object c.args.reader.now ts is e.1))

pub returns-then-not-is_scalar : goal.returns-then-not-is_scalar
returns-then-not-is_scalar g c =
    let first = c.in-Some.ensures.value in
    inr (
      refl,
      rw first (no_scalar c.in-Some.token c.next.new.self c.in_default-token.not-BeginArray
          c.in_default-token.not-BeginObject (sym c.if-not-is_scalar.ensures)),
    )

-- An array was read: its items are the rows, which were taken or refused as they came.
pub returns-in_ok-refusal-in-BeginArray : goal.returns-in_ok-refusal-in-BeginArray
returns-in_ok-refusal-in-BeginArray g c =
    let ts = c.next.new.self in
    let is : c.args.reader.now ≡ begin_array ∷ ts = c.in-Some.ensures.value
    ∙ ap (λ t. token_of t ∷ ts) c.in-BeginArray.is in
    let e = c.in_ok-refusal-in-BeginArray.ensures in
    let less = e.shorter in
    let ds = e.read.0 in (
      array ds,
      record {
        read = array_read c.args.reader.now ts c.read_rows.new.reader ds is e.read.1;
        left =
            e.left;
        shorter = omega (arith, ap length is);
      },
      (Some c.in_ok-refusal-in-BeginArray.refusal, (list_of ds, refl, e.read.2), refl),
    )

-- An object was skipped: it is data with no rows, as its member shows.
pub returns-in_ok-pass_members-in-BeginObject : goal.returns-in_ok-pass_members-in-BeginObject
returns-in_ok-pass_members-in-BeginObject g c =
    let ts = c.next.new.self in
    let is : c.args.reader.now ≡ begin_object ∷ ts = c.in-Some.ensures.value
    ∙ ap (λ t. token_of t ∷ ts) c.in-BeginObject.is in
    let e = c.in_ok-pass_members-in-BeginObject.ensures in
    let less = e.shorter in
    let ms = e.read.0 in (
      object ms,
      record {
        read = object_read c.args.reader.now ts c.pass_members.new.reader ms is e.read.1;
        left = e.left;
        shorter = omega (arith, ap length is);
      },
      (None, refl, refl),
    )

pub returns-else-not-is_scalar : goal.returns-else-not-is_scalar
returns-else-not-is_scalar g c =
    let first = c.in-Some.ensures.value in
    let ts = c.next.new.self in
    let range = rw first at c.requires.numbers in
    let read = scalar_read (token_of c.in-Some.token) ts (sym c.if-not-is_scalar.ensures) range in (
      read.0,
      record {
        read = rw first read.1;
        left =
            range_after (token_of c.in-Some.token) ts range;
        shorter = omega (arith, ap length first);
      },
      (None, read.2, refl),
    )
