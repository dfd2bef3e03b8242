use Rattle.std.proofs.Common.{◌≡◌, ◌++◌, List, ℕ, false, take}
use Rattle.text_docs.specs.Row.{is_unclosed_from}
use Rattle.text_docs.specs.inner.Row.{is_simple_from}
use Rattle.text_docs.proofs.row.quote_in.Given as goal

-- what comes after the bytes so far goes on inside of the string, or after a backslash
abbrev pub invariant-loop-place : goal.invariant-loop-place
invariant-loop-place l = record {
  unclosed : (more : List ℕ)
      → is_unclosed_from false (take l.place l.text ++ more) ≡ is_unclosed_from l.escaped more;
  simple : (more : List ℕ)
      → is_simple_from false (take l.place l.text ++ more) ≡ is_simple_from l.escaped more;
}
