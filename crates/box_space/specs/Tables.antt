-- The row that a table stands for.
use Rattle.std.specs.Prelude.{◌≡◌, ℕ, suc, ◌<◌, ◌≤◌, List, [], ◌∷◌, ℤ, neg_ℤ, ◌-ℤ◌}
use Rattle.integers.specs.Numbers.{numbers_at}
use Rattle.pool_model.specs.Network.{Net}
use Rattle.row_model.specs.Variables.{PerVariable, none}
use Rattle.row_model.specs.Catalogue.{when, Row}
use Rattle.box_space.specs.Blocks.{IsBlock, rank, size_of, number_of, brought, Brings, with_block}
use Rattle.blend_network.specs.Keys.{key_of, nodes_of, count_of}
use Rattle.box_space.specs.Lines.{term_of, terms_at}
use Rattle.box_space.specs.Views.{shown_kind}
use Rattle.linear_program.specs.declared.terms.Term.{Term}
use Rattle.box_space.specs.declared.table.Block.{Block}
use Rattle.box_space.specs.declared.table.Rate.{Rate}
use Rattle.box_space.specs.declared.table.Rate.TheVariants.{Plain, Less, Below, Above}
use Rattle.box_space.specs.declared.table.Factor.{Factor}
use Rattle.box_space.specs.declared.table.Factor.TheVariants.{Same, OfQuality}
use Rattle.box_space.specs.declared.table.Terms.{Terms}
use Rattle.box_space.specs.declared.table.Terms.TheVariants.{Nothing, One, All}
use Rattle.box_space.specs.declared.table.RowTable.{RowTable}

-- what is made of what is brought of a quality
abbrev pub rated : Rate → ℤ → ℤ
rated Plain q = q
rated Less q = neg_ℤ q
rated (Below u) q = u -ℤ q
rated (Above u) q = q -ℤ u

-- the coefficient of a block's variable
abbrev pub factor_of : Net → Block → Factor → ℕ → ℤ
factor_of n b (Same c) i = c
factor_of n b (OfQuality k r) i = rated r (brought n b i k)

-- coefficients with those of some terms
abbrev pub with_terms : Net → Terms → PerVariable → PerVariable
with_terms n Nothing a = a
with_terms n (One b i c) a = with_block b (λ j. when j i c) a
with_terms n (All b key node f) a = with_block b (λ i. when (key_of n key i) node (factor_of n b f i)) a

-- the coefficients of all terms
abbrev pub coefs_of : Net → List Terms → PerVariable
coefs_of n [] = none
coefs_of n (t ∷ ts) = with_terms n t (coefs_of n ts)

-- the row of a table
abbrev pub row_of : Net → RowTable → Row
row_of n t = record { kind = shown_kind t.kind; coefs = coefs_of n t.terms; constant = t.constant }

-- ---- the terms as they are written

abbrev pub terms_of : Net → Terms → List Term
terms_of n Nothing = []
terms_of n (One b i c) = term_of (number_of n b i) c
terms_of n (All b key node f) = terms_at (number_of n b) (factor_of n b f) (numbers_at (key_of n key) node (count_of n key))

-- no more terms than these are written
abbrev pub most_of : Net → Terms → ℕ
most_of n Nothing = 0
most_of n (One b i c) = 1
most_of n (All b key node f) = size_of n b

-- ---- tables of a network

-- the quality that a coefficient comes of is there, and the variables bring it
abbrev pub IsFactor : Net → Block → Factor → Type 0
IsFactor n b (Same c) = Unit {0}
IsFactor n b (OfQuality k r) = (k < n.qualities) × Brings b

-- what the terms name is there
abbrev pub AreTerms : Net → Terms → Type 0
AreTerms n Nothing = Unit {0}
AreTerms n (One b i c) = IsBlock n b × (i < size_of n b)
AreTerms n (All b key node f) = IsBlock n b × (count_of n key ≡ size_of n b) × (node < nodes_of n key) × IsFactor n b f

-- terms of blocks that rise in rank, from a rank on
abbrev pub AreRising : ℕ → List Terms → Type 0
AreRising r [] = Unit {0}
AreRising r (Nothing ∷ ts) = AreRising r ts
AreRising r (One b i c ∷ ts) = (r ≤ rank b) × AreRising (suc (rank b)) ts
AreRising r (All b key node f ∷ ts) = (r ≤ rank b) × AreRising (suc (rank b)) ts

-- what all terms name is there
abbrev pub AreKnown : Net → List Terms → Type 0
AreKnown n [] = Unit {0}
AreKnown n (t ∷ ts) = AreTerms n t × AreKnown n ts

-- the table is one of the network: what its terms name is there, and their blocks rise
pub record IsTable (n : Net) (t : RowTable) : Type 0 where
  pub known : AreKnown n t.terms
  pub rising : AreRising 0 t.terms
