-- What the proofs of `entry_at` and `marks` share.
mod Steps
