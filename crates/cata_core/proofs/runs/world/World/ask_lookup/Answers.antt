use Rattle.std.proofs.Common.{◌<◌, [], ◌∷◌, sym, subst, refl, length, arith, ℕ, List, Option}
use Rattle.std.specs.Option.{option_copied}
use Rattle.cata_core.specs.declared.answer.Answer.TheVariants.{Lookup}
use Rattle.catalogue.specs.declared.reply.Reply.{Reply}
use Rattle.catalogue.specs.Entries.{Entries}
use Rattle.catalogue.specs.Reply.{reply_of}
use Rattle.catalogue.specs.Asking.{IsLookupAnswer}
use Rattle.cata_core.specs.inner.World.{at_sites}
use Rattle.catalogue.proofs.Basics.{append_nil}
use Rattle.cata_core.proofs.WorldLemmas.{at_site, named_one}
use Rattle.cata_core.proofs.runs.world.World.ask_lookup.Goals as goal

-- The step is sound, since the site is there; nothing that is held changes, and the one answer is
-- the lookup's over what that site holds.
pub returns-clause-ok : goal.returns-clause-ok
returns-clause-ok c =
    let w = c.args.self.now in
    let xs = w.sites.items in
    let id = c.args.id.now in
    let items = c.args.list.now in
    let there : c.args.site < length xs = omega (arith, c.if-site-len.false, c.len.ensures) in
    let cells_are = at_site xs c.args.site c.index.result.now there c.index.ensures in
    let lent = reply_of c.ask_lookup-lent.result in
    let reply = c.in_ok-reply.reply in
    record {
      sound =
          record {
            sites_there = named_one (length xs) c.args.site there;
            posts_there = tt;
            agrees =
                tt;
          };
      held =
          λ i. record {
            of_site = at_sites xs;
            told = sym (append_nil w.told.items) i;
            posts =
                sym (append_nil w.posts.items) i;
          };
      answered = Lookup reply ∷ [];
      answers = c.in_ok-push.ensures.items;
      are_answers = (
        reply,
        refl,
        subst (λ (x : Reply). IsLookupAnswer (at_sites xs c.args.site) id items c.args.default.now
            x) (sym c.in_ok-reply.ensures)
            (subst
            (λ (x : Option (List ℕ)). IsLookupAnswer (at_sites xs c.args.site) id items x lent)
            c.as_ref.ensures.value
            (subst (λ (x : Entries). IsLookupAnswer x id items (option_copied c.as_ref.result) lent)
            cells_are c.ask_lookup-lent.ensures)),
      );
      sites = refl;
      addressed = record { few = c.requires.few; told = c.requires.told; posts = c.requires.posts };
    }
