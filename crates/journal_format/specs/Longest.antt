-- How long the payload of an entry may be.
use Rattle.std.specs.Prelude.{ℕ, ◌+◌, ◌*◌, max}
use Rattle.pool_model.specs.Network.{Net}
use Rattle.row_model.specs.Catalogue.{rows}

-- the longest payload of an entry that is in order, in either version: a split with proofs of all rows on both halves, or a plan
abbrev pub longest : Net → ℕ
longest n = max (43 + 24 * rows n) (15 + 4 * n.feeds + 8 * n.outs + 8 * n.directs)
