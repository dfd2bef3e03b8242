use Rattle.std.proofs.Common.{◌≡◌, ◌<◌, ◌∙◌, ◌++◌, ◌∷◌, [], ap, sym, subst, refl, length, arith}
use Rattle.std.specs.Prelude.{All}
use Rattle.cata_core.specs.Delta.{delta_of}
use Rattle.cata_core.specs.WorldHeld.{PostedCells}
use Rattle.cata_core.specs.inner.World.{at_sites}
use Rattle.catalogue.proofs.Basics.{append_nil}
use Rattle.cata_core.proofs.WorldLemmas.{posted_step, posted_addressed, at_site, named_one}
use Rattle.cata_core.proofs.runs.world.World.post.Goals as goal

-- The step is sound, since the site and the summary are there; the delta of the site's cells to
-- that summary is posted to its teller, which is a site, and nothing is answered.
pub returns-clause-ok : goal.returns-clause-ok
returns-clause-ok c =
    let w = c.args.self.now in
    let xs = w.sites.items in
    let t = c.index-told.result.now in
    let there : c.args.site < length xs = omega (arith, c.if-site-len.false, c.len.ensures) in
    let lt : c.args.told < length w.told.items =
    omega (arith, c.if-told-len.false, c.len-2.ensures) in
    let cells = c.in_ok-cells.cells in
    let p_is : c.new-posted.result ≡ record { addressee = t.teller; cells = cells } =
    c.new-posted.ensures ∙ (λ i. record { addressee = c.teller.ensures i; cells = cells }) in
    let posts_are =
    c.in_ok-push.ensures.items ∙ ap (λ (p : PostedCells). w.posts.items ++ p ∷ []) p_is in
    record {
      sound =
          record {
            sites_there = named_one (length xs) c.args.site there;
            posts_there = lt;
            agrees =
                tt;
          };
      held = ap (λ ps. record { of_site = at_sites xs; told = w.told.items; posts = ps }) posts_are
          ∙ posted_step (at_sites xs) w.told.items w.posts.items c.args.site c.args.told t cells lt
          c.index-told.ensures
          (c.in_ok-cells.ensures
          ∙ (λ i. delta_of (at_site xs c.args.site c.index.result.now there c.index.ensures i)
          (c.summary.ensures i)));
      answered = [];
      answers = sym (append_nil w.answers.items);
      are_answers = refl;
      sites = refl;
      addressed = record {
        few = c.requires.few;
        told = c.requires.told;
        posts = subst (λ ps. All (λ q. q.addressee < length xs) ps) (sym posts_are)
            (posted_addressed (length xs) w.told.items w.posts.items c.args.told t cells
            c.requires.told c.requires.posts lt c.index-told.ensures);
      };
    }
