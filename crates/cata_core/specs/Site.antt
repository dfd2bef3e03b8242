-- Sites, and what each refusal of a site means (project rules).
use Rattle.std.specs.Prelude.{◌≡◌, ◌≢◌, ℕ, Bool, List, nat_eq}
use Rattle.std.specs.Ordering.{on, eq_of_both}
use Rattle.std.specs.Cmp.Lexicographic.{pointwise}
use Rattle.cell_core.specs.Stamp.{NoNext}
use Rattle.catalogue.specs.declared.cata_fault.CataFault.{CataFault}
use Rattle.catalogue.specs.declared.cata_fault.CataFault.TheVariants.{ClockSpent, NotForMe}
use Rattle.catalogue.specs.declared.cata_fault.CataFault.TheVariants.{NoMemory}
use Rattle.cata_core.specs.declared.delta.Delta.{Delta}
use Rattle.catalogue.specs.CataFault.{IsRefusal, IsLeft}
use Rattle.catalogue.specs.Entries.{Entries}
use Rattle.catalogue.specs.Equality.{entries_eq}
use Rattle.catalogue.specs.CatalogueLatest.{latest_of}

-- a site, by its name and its catalogue
pub record SiteState : Type 0 where
  pub name : List ℕ
  pub cells : Entries

-- an edit is refused where the site has no next stamp, else for lack of memory alone
abbrev pub RefusesEdit : SiteState → ℕ → CataFault → Type 0
RefusesEdit site now ClockSpent = NoNext (latest_of site.cells) now site.name
RefusesEdit site now NoMemory = ¬ (NoNext (latest_of site.cells) now site.name)
RefusesEdit site now _ = ⊥

-- a delta is refused where it is for another site, else as cells are
abbrev pub RefusesDelta : SiteState → Delta → CataFault → Type 0
RefusesDelta site delta (NotForMe addressee) =
    (addressee ≡ delta.addressee) × (site.name ≢ delta.addressee)
RefusesDelta site delta fault =
    (site.name ≡ delta.addressee) × IsRefusal site.cells delta.cells fault

-- the name stays, and of the cells what a refusal leaves
pub record IsLeftSite (old new : SiteState) (other : Entries) (fault : CataFault) : Type 0 where
  pub name : new.name ≡ old.name
  pub cells : IsLeft old.cells new.cells other fault

-- the same name and the same catalogue
abbrev pub site_eq : SiteState → SiteState → Bool
site_eq = eq_of_both (on (λ s. s.name) (pointwise nat_eq)) (on (λ s. s.cells) entries_eq)
