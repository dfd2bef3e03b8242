-- What the code of a run keeps, and how it goes on by a step.
use Rattle.std.specs.Prelude.{◌≡◌, ℕ, ◌<◌, ◌≤◌, List, [], ◌++◌, All, slice_index_or, length, ⊤}
use Rattle.cata_core.specs.declared.step.Step.{Step}
use Rattle.cata_core.specs.declared.answer.Answer.{Answer}
use Rattle.cata_core.specs.declared.play_fault.PlayFault.{PlayFault}
use Rattle.cata_core.specs.declared.play_fault.PlayFault.TheVariants.{StampReused, NoMemory}
use Rattle.cata_core.specs.declared.runs.world.World.{World}
use Rattle.cell_core.specs.Entry.{key_cmp}
use Rattle.catalogue.specs.Entries.{Entries}
use Rattle.catalogue.specs.Clash.{IsFirstClash}
use Rattle.cata_core.specs.WorldHeld.{Held, held_step}
use Rattle.cata_core.specs.Answer.{IsAnswered}
use Rattle.cata_core.specs.PlayFault.{IsSound}

-- what the listed catalogues are at each site, and nothing past the last
abbrev pub at_sites : List Entries → ℕ → Entries
at_sites catalogues = λ site. slice_index_or catalogues site []

-- what the code keeps of a run, as the definitions have it
abbrev pub held_in : World → Held
held_in world =
    record {
      of_site = at_sites world.sites.items;
      told = world.told.items;
      posts =
          world.posts.items;
    }

-- the sites are few enough to be named by number, and who told, and whom is posted to, are sites
-- that there are
pub record IsRunning (sites : ℕ) (w : Held) : Type 0 where
  pub few : sites ≤ 1024
  pub told : All (λ t. t.teller < sites) w.told
  pub posts : All (λ p. p.addressee < sites) w.posts

-- the world went on by a step that is not faulty
pub record IsStepped (old new : World) (step : Step) : Type 0 where
  pub sound : IsSound (length old.sites.items) (held_in old) step
  pub held : held_in new ≡ held_step (held_in old) step
  pub answered : List Answer
  pub answers : new.answers.items ≡ old.answers.items ++ answered
  pub are_answers : IsAnswered (at_sites old.sites.items) step answered
  pub sites : length new.sites.items ≡ length old.sites.items
  pub addressed : IsRunning (length old.sites.items) (held_in new)

-- a fault of the step with this number, by which what comes in does not agree with what is held
abbrev pub IsClashAt : ℕ → Entries → Entries → PlayFault → Type 0
IsClashAt n own other (StampReused at place stamp) =
    (at ≡ n) × IsFirstClash key_cmp own other place stamp
IsClashAt n own other NoMemory = ⊤
IsClashAt n own other _ = ⊥
