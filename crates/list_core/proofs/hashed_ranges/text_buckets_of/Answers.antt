use Rattle.std.proofs.Common.{◌∙◌}
use Rattle.list_core.proofs.HashedRangesLemmas.{numbers_of_items, numbers_of_numbers}
use Rattle.list_core.proofs.hashed_ranges.text_buckets_of.Goals as goal

pub is_crowded-requires : goal.is_crowded-requires
is_crowded-requires c =
    numbers_of_numbers c.args.items.now c.deref.result.now c.requires
    (c.deref.ensures.value ∙ c.in_ok-numbers.ensures)

pub link_buckets-requires : goal.link_buckets-requires
link_buckets-requires c =
    numbers_of_items c.args.items.now c.deref-2.result.now c.requires
    (c.deref-2.ensures.value ∙ c.in_ok-numbers.ensures)
