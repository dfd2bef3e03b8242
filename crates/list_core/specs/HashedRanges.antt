-- Ranges in hash buckets.
use Rattle.std.specs.Prelude.{ℕ, ◌<◌, ◌%◌, List, length, map}
use Rattle.list_core.specs.Item.{Item}
use Rattle.list_core.specs.Fingerprint.{fingerprint_of}
use Rattle.list_core.specs.Buckets.{AreLinks}
use Rattle.list_core.specs.declared.buckets.Buckets.{Buckets}

-- the bucket of a text among so many
abbrev pub bucket_of : ℕ → List ℕ → ℕ
bucket_of buckets text = fingerprint_of text % buckets

-- the bucket of each item's range, among so many
abbrev pub bucket_numbers : ℕ → List Item → List ℕ
bucket_numbers buckets items = map (λ i. bucket_of buckets i.range) items

-- the items in their buckets, of which there are as many as items
abbrev pub AreTextBuckets : List Item → Buckets → Type 0
AreTextBuckets items buckets =
    (0 < length items) × AreLinks (length items) (bucket_numbers (length items) items) buckets
