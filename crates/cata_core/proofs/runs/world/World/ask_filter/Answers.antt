use Rattle.std.proofs.Common.{◌<◌, [], ◌∷◌, sym, subst, refl, length, arith}
use Rattle.cata_core.specs.declared.answer.Answer.TheVariants.{Filter}
use Rattle.catalogue.specs.Entries.{Entries}
use Rattle.catalogue.specs.Asking.{Weighed, IsFilterAnswer}
use Rattle.cata_core.specs.inner.World.{at_sites}
use Rattle.catalogue.proofs.Basics.{append_nil}
use Rattle.cata_core.proofs.WorldLemmas.{at_site, named_one}
use Rattle.cata_core.proofs.runs.world.World.ask_filter.Goals as goal

-- The step is sound, since the site is there; nothing that is held changes, and the one answer is
-- the filter's over what that site holds.
pub returns-clause-ok : goal.returns-clause-ok
returns-clause-ok c =
    let w = c.args.self.now in
    let xs = w.sites.items in
    let id = c.args.id.now in
    let items = c.args.list.now in
    let there : c.args.site < length xs = omega (arith, c.if-site-len.false, c.len.ensures) in
    let cells_are = at_site xs c.args.site c.index.result.now there c.index.ensures in
    let entries = c.in_ok-entries.entries in
    record {
      sound =
          record {
            sites_there = named_one (length xs) c.args.site there;
            posts_there = tt;
            agrees =
                tt;
          };
      held =
          λ i. record {
            of_site = at_sites xs;
            told = sym (append_nil w.told.items) i;
            posts =
                sym (append_nil w.posts.items) i;
          };
      answered = Filter entries ∷ [];
      answers = c.in_ok-push.ensures.items;
      are_answers = (
        entries,
        refl,
        subst (λ (x : Weighed). IsFilterAnswer (at_sites xs c.args.site) id c.args.scheme items x)
            (sym c.in_ok-entries.ensures)
            (subst (λ (x : Entries). IsFilterAnswer x id c.args.scheme items c.in_ok-lent.lent)
            cells_are c.in_ok-lent.ensures),
      );
      sites = refl;
      addressed = record { few = c.requires.few; told = c.requires.told; posts = c.requires.posts };
    }
