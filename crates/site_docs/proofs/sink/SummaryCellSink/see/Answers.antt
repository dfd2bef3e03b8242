use Rattle.std.proofs.Common.{◌≡◌, List, subst, sym, ℕ}
use Rattle.std.proofs.lemmas.List.Elements.{All-map}
use Rattle.std.specs.declared.cmp.Ordering.TheVariants.{Less}
use Rattle.cell_core.specs.declared.stamp.Stamp.{Stamp}
use Rattle.cell_core.specs.Entry.{EntryKey, key_cmp}
use Rattle.catalogue.specs.Entries.{Entry, IsAboveAll}
use Rattle.site_docs.proofs.sink.SummaryCellSink.see.Goals as goal

-- the key is greater than those of the cells before
pub push-requires : goal.push-requires
push-requires c =
    let holds = c.requires.holds in
    let key : EntryKey = (c.args.cell.id.now, c.args.cell.lang.now) in
    let stamps = c.args.self.now.stamps in
    let above = subst (IsAboveAll key) (sym holds.2)
    (All-map (λ (s : EntryKey × Stamp). key_cmp s.0 key ≡ Less)
    (λ (e : Entry). (e.0, e.1.stamp)) holds.1 holds.3) in
    subst (λ (i : List ℕ). IsAboveAll (i, c.in_ok-lang.lang) stamps)
    (sym c.in_ok-id.ensures.equal)
    (subst (λ l. IsAboveAll (key.0, l) stamps) (sym c.in_ok-lang.ensures.equal) above)
