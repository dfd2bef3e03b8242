-- What the sites of a run took, as lists of edits. No cell is compared, and nothing joins.
use Rattle.std.specs.Prelude.{ℕ, List, [], ◌∷◌, ◌++◌, Option, Some, None, if◌then◌else◌, ◌==◌}
use Rattle.std.specs.Prelude.{slice_get}
use Rattle.cata_core.specs.declared.step.Step.{Step}
use Rattle.cata_core.specs.declared.step.Step.TheVariants.{Edit, Merge, Tell, Post, Deliver}
use Rattle.catalogue.specs.Entries.{Entry}

-- what is on its way by a post: to whom, and all that the sender had taken
pub record PostedEdits : Type 0 where
  pub addressee : ℕ
  pub edits : List Entry

-- the edits that each site took, who told each summary, and what was posted
pub record Taken : Type 0 where
  pub of_site : ℕ → List Entry
  pub tellers : List ℕ
  pub posts : List PostedEdits

-- the edits of a post, and to which site they go; none where it was not posted
abbrev pub edits_delivered : Option PostedEdits → Option (ℕ × List Entry)
edits_delivered None = None
edits_delivered (Some post) = Some (post.addressee, post.edits)

-- the edits that come in by a step, and at which site
abbrev pub edits_in : Taken → Step → Option (ℕ × List Entry)
edits_in w (Edit site edit) = Some (site, edit ∷ [])
edits_in w (Merge into source) = Some (into, w.of_site source)
edits_in w (Deliver post) = edits_delivered (slice_get w.posts post)
edits_in w _ = None

-- a site takes edits after those that it took before
abbrev pub takes : (ℕ → List Entry) → Option (ℕ × List Entry) → ℕ → List Entry
takes of None = of
takes of (Some c) = λ s. if s == c.0 then of s ++ c.1 else of s

-- who tells a summary by a step
abbrev pub tellers_by : Step → List ℕ
tellers_by (Tell site) = site ∷ []
tellers_by _ = []

-- all that the sender took, to the teller of the summary, if it was told
abbrev pub post_to : List Entry → Option ℕ → List PostedEdits
post_to edits None = []
post_to edits (Some teller) = record { addressee = teller; edits = edits } ∷ []

-- what is posted by a step
abbrev pub edits_posted : Taken → Step → List PostedEdits
edits_posted w (Post site told) = post_to (w.of_site site) (slice_get w.tellers told)
edits_posted w _ = []

-- what the sites took, who told and what was posted, after one step more
abbrev pub taken_step : Taken → Step → Taken
taken_step w step =
    record {
      of_site = takes w.of_site (edits_in w step);
      tellers =
          w.tellers ++ tellers_by step;
      posts = w.posts ++ edits_posted w step;
    }

-- at first no site took anything
abbrev pub nothing_taken : Taken
nothing_taken = record { of_site = λ _. []; tellers = []; posts = [] }

-- the same after some steps more
abbrev pub taken_after : Taken → List Step → Taken
taken_after w [] = w
taken_after w (step ∷ steps) = taken_after (taken_step w step) steps

-- the edits that a site took in these steps
abbrev pub taken : List Step → ℕ → List Entry
taken steps site = let w = taken_after nothing_taken steps in w.of_site site

-- ---- the edits of a run

-- the edit that a step makes, if it makes one
abbrev pub edits_by : Step → List Entry
edits_by (Edit site edit) = edit ∷ []
edits_by _ = []

-- the edits of all steps, in order
abbrev pub edits_of : List Step → List Entry
edits_of [] = []
edits_of (step ∷ steps) = edits_by step ++ edits_of steps
