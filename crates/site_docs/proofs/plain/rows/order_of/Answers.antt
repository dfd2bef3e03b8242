use Rattle.std.proofs.Common.{◌≡◌, List, subst, sym, ℕ}
use Rattle.std.proofs.lemmas.Slice.Eq.{bytes_eq-Decides}
use Rattle.std.specs.Cmp.{tied_itself}
use Rattle.std.specs.Cmp.Lexicographic.{nat_list_cmp_total}
use Rattle.std.specs.declared.cmp.Ordering.TheVariants.{Equal}
use Rattle.cell_core.specs.Entry.{text_cmp}
use Rattle.site_docs.proofs.plain.rows.order_of.Goals as goal

-- a text is tied with itself
pub returns-then-eq : goal.returns-then-eq
returns-then-eq c =
    subst (λ (t : List ℕ). Equal ≡ text_cmp c.args.last.now t)
    ((bytes_eq-Decides c.args.last.now c.args.text.now).0 (sym c.if-eq.ensures))
    (sym (tied_itself nat_list_cmp_total c.args.last.now))
