-- The tag at the place that lookup finds.
use Rattle.std.specs.Prelude.{◌≡◌, ◌<◌, List, Some, length, slice_get}
use Rattle.nego_core.specs.declared.lookup_places.Found.{Found}
use Rattle.front_core.specs.Preferences.{Text}
use Rattle.front_core.specs.declared.tag_pick.Picked.{Picked}
use Rattle.nego_core.specs.declared.lookup_places.Found.TheVariants as found
use Rattle.front_core.specs.declared.tag_pick.Picked.TheVariants as picked

-- there is a tag at the place that is found
abbrev pub HasPlace : List Text → Found → Type 0
HasPlace tags (found.Matched place) = place < length tags
HasPlace tags (found.Default place) = place < length tags
HasPlace tags found.Nothing = Unit {0}

-- it is this one
abbrev pub IsTagAt : List Text → Found → Picked → Type 0
IsTagAt tags (found.Matched place) (picked.Matched tag) = slice_get tags place ≡ Some tag.now
IsTagAt tags (found.Default place) (picked.Default tag) = slice_get tags place ≡ Some tag.now
IsTagAt tags found.Nothing picked.Nothing = Unit {0}
IsTagAt _ _ _ = ⊥
