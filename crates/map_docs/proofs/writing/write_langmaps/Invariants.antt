use Rattle.std.proofs.Common.{drop}
use Rattle.std.specs.Prelude.{IfSome, option_map}
use Rattle.cell_core.specs.MessageId.{IsMessageId}
use Rattle.map_docs.specs.WritingMaps.{IsWriting}
use Rattle.map_docs.proofs.writing.write_langmaps.Given as goal

-- with the labels that are left it comes to all, and the message that is open has an id
abbrev pub invariant-loop-label : goal.invariant-loop-label
invariant-loop-label l =
    IsWriting l.draft (option_map (λ id. id.now) l.current)
    (drop l.label-index l.label-items) l.label-items
    × IfSome (option_map (λ id. id.now) l.current) IsMessageId
