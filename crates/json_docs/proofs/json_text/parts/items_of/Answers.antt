use Rattle.json_docs.proofs.PartsSeenLemmas.{items_in-Array, AreRead-Array}
use Rattle.json_docs.proofs.json_text.parts.items_of.Goals as goal

pub returns-in-Array-clause-items : goal.returns-in-Array-clause-items
returns-in-Array-clause-items c =
    items_in-Array c.args.value.now c.in-Array.items c.as_slice.result.now c.in-Array.is
    c.as_slice.ensures.value c.requires

pub returns-in-Array-clause-read : goal.returns-in-Array-clause-read
returns-in-Array-clause-read c =
    AreRead-Array c.args.value.now c.in-Array.items c.as_slice.result.now c.in-Array.is
    c.as_slice.ensures.value c.requires
