use Rattle.std.proofs.Common.{refl, subst}
use Rattle.std.specs.Prelude.{MatchOption, Option, ⊤}
use Rattle.serde_json.specs.Written.{compact_text}
use Rattle.row_docs.specs.Entries.{entry_value}
use Rattle.site_docs.specs.WrittenRows.{IsLastRead, entry_at}
use Rattle.site_docs.specs.declared.plain.written_rows.ReadRow.{ReadRow}
use Rattle.site_docs.proofs.WrittenRowsLemmas.{all_read, fewer_after, fewer_next, next_read}
use Rattle.site_docs.proofs.plain.written_rows.WrittenRows.advance.Goals as goal

-- no comma follows
pub returns-in_default-clause-read : goal.returns-in_default-clause-read
returns-in_default-clause-read c = λ bytes cells has.
    all_read bytes c.args.self.now _ cells has refl refl

-- less is left
pub returns-in_default-clause-fewer : goal.returns-in_default-clause-fewer
returns-in_default-clause-fewer c = λ some. fewer_after c.args.self.now some

-- the last row is one of those that were read
pub follow-requires : goal.follow-requires
follow-requires c =
    (subst (λ (o : Option ReadRow). MatchOption o ⊤ (IsLastRead c.requires.1)) c.in-Some-row.is
    c.requires.2.last).0.spelled

-- one row more
pub returns-in_ok-self-in-Some-row-clause-read : goal.returns-in_ok-self-in-Some-row-clause-read
returns-in_ok-self-in-Some-row-clause-read c = λ bytes cells has.
    let next = c.in_ok-self-in-Some-row.ensures in
    next_read bytes c.args.self.now _ cells c.in-Some-row.row c.follow.new.self c.in-Some.text.now
    has c.in-Some-row.is c.in-Some.ensures refl next.0 next.1 next.2

-- less is left
pub returns-in_ok-self-in-Some-row-clause-fewer : goal.returns-in_ok-self-in-Some-row-clause-fewer
returns-in_ok-self-in-Some-row-clause-fewer c = λ some.
    let next = c.in_ok-self-in-Some-row.ensures in
    fewer_next c.args.self.now c.in_ok-self-in-Some-row.field-0.now c.in-Some.text.now
    (compact_text (entry_value (entry_at c.follow.new.self))) c.in-Some.ensures next.2 some
