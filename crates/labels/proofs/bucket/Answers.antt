-- `labels::bucket` meets its contract. Assumes nothing.
use Rattle.labels.proofs.Buckets.{bucket_is}
use Rattle.labels.proofs.bucket.Goals as goal

pub returns : goal.returns
returns c = let b = bucket_is _ _ _ _ _ c.size.ensures.0 c.hash.ensures c.bucket_of.ensures.0 c.requires in
    (b.0, b.1, b.2, c.bucket_of.ensures.1)
