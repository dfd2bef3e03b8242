-- What `Eq` asks of sites.
use Rattle.std.specs.Cmp.{IsEquivalence, and_equiv, on_equiv}
use Rattle.std.specs.Cmp.Lexicographic.{on_texts_equal}
use Rattle.catalogue.specs.inner.Equality.{entries_equiv}
use Rattle.cata_core.specs.Site.{SiteState, site_eq}

-- equality of sites is an equivalence
pub site_equiv : IsEquivalence site_eq
site_equiv =
    and_equiv (on_texts_equal (λ (s : SiteState). s.name))
    (on_equiv (λ (s : SiteState). s.cells) entries_equiv)
