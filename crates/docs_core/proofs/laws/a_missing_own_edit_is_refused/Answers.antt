use Rattle.std.proofs.Common.{inl, inr, refl}
use Rattle.cata_core.proofs.OwnEditsLemmas.{first_of_lacked, none_or_first}
use Rattle.docs_core.proofs.laws.a_missing_own_edit_is_refused.Goals as goal

pub returns-clause-taken : goal.returns-clause-taken
returns-clause-taken c = λ limit a b site delta edit reads timely mine at lacked.
    let found = first_of_lacked site.name site.cells delta.cells edit at lacked in (
      found.0,
      inr (inr (
        site,
        delta,
        reads,
        timely,
        inr (inl (mine, (found.0, found.1, refl))),
      )),
    )

-- The rows of the first document come before those of the second.
pub returns-clause-synced : goal.returns-clause-synced
returns-clause-synced c = λ limit a b first second edit reads others in_time second_in_time why.
    elim (none_or_first second.name second.cells first.cells) [
      | inr (row, found) ↦ (
        1,
        row,
        inr (inr (inr (
          first,
          second,
          reads,
          others,
          in_time,
          second_in_time,
          inl (inl (row, found, refl)),
        ))),
      )
      | inl none ↦ elim why [
        | inl (at, lacked) ↦
            let found = first_of_lacked second.name second.cells first.cells edit at lacked in (
              1,
              found.0,
              inr (inr (inr (
                first,
                second,
                reads,
                others,
                in_time,
                second_in_time,
                inl (inl (found.0, found.1, refl)),
              ))),
            )
        | inr (at, lacked) ↦
            let found = first_of_lacked first.name first.cells second.cells edit at lacked in (
              2,
              found.0,
              inr (inr (inr (
                first,
                second,
                reads,
                others,
                in_time,
                second_in_time,
                inl (inr (none, (found.0, found.1, refl))),
              ))),
            )
      ]
    ]

pub returns-clause-merged : goal.returns-clause-merged
returns-clause-merged c = λ limit number site other b edit reads in_time at lacked.
    let found = first_of_lacked site.name site.cells other.cells edit at lacked in (
      found.0,
      inr (other, reads, inr (inl (in_time, (found.0, found.1, refl)))),
    )
