mod BucketLemmas
mod HeldLemmas
mod TableLemmas
