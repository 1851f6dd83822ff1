-- What can be counted in 32 bits.
use Rattle.std.specs.Prelude.{◌<◌, ◌^◌, length}
use Rattle.std.specs.Option.{ForSome}
use Rattle.row_model.specs.Multipliers.{Proof}
use Rattle.row_model.specs.Entries.{Entry, root_proof, split_of, improve}

-- the parts of a proof can be counted in 32 bits
abbrev pub HasFewParts : Proof → Type 0
HasFewParts p = length p.parts < 2 ^ 32

-- the entry is a split, and so it is with the proofs of its halves
abbrev pub SplitsWithFew : Entry → Type 0
SplitsWithFew (split_of split left right) = ForSome left HasFewParts × ForSome right HasFewParts
SplitsWithFew (root_proof proof) = ⊥
SplitsWithFew (improve plan) = ⊥
