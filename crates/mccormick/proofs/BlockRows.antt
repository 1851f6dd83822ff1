-- Three variables of rising blocks: their terms are those of the row that has these three alone. For the forms' envelopes.
use Rattle.std.proofs.Common.{◌≡◌, ℕ, ◌<◌, List, [], ◌∷◌, ◌++◌, ℤ, sym, ◌∙◌, arith, append_assoc}
use Rattle.std.proofs.lemmas.List.{append-nil}
use Rattle.pool_model.specs.Network.{Net}
use Rattle.row_model.specs.Variables.{none, variables, by_number}
use Rattle.row_model.specs.Catalogue.{when}
use Rattle.linear_program.specs.declared.terms.Term.{Term}
use Rattle.box_space.specs.declared.table.Block.{Block}
use Rattle.box_space.specs.declared.table.Terms.TheVariants.{One}
use Rattle.box_space.specs.Blocks.{IsBlock, rank, size_of, number_of, with_block}
use Rattle.box_space.specs.Lines.{term_of, terms_from}
use Rattle.box_space.proofs.Segments.{whole_terms}
use Rattle.mccormick.specs.Coefs.{three_coefs}
use Rattle.mccormick.proofs.ThreeTerms.{rising}

-- a variable of a block, with its coefficient
abbrev pub block_term : Net → Block → ℕ → ℤ → Term
block_term n b i c = record { var = number_of n b i; coef = c }

-- the variable is there
pub record IsThere (n : Net) (b : Block) (i : ℕ) : Type 0 where
  pub block : IsBlock n b
  pub among : i < size_of n b

pub three_row : (n : Net) (x y z : Block) (i j k : ℕ) (s t u : ℤ) → IsThere n x i → IsThere n y j → IsThere n z k → rank x < rank y → rank y < rank z
    → number_of n x i < number_of n y j → number_of n y j < number_of n z k → number_of n z k < variables n
    → terms_from 0 (three_coefs (block_term n x i s) (block_term n y j t) (block_term n z k u)) (variables n)
    ≡ terms_from 0 (by_number n (with_block x (λ m. when m i s) (with_block y (λ m. when m j t) (with_block z (λ m. when m k u) none)))) (variables n)
three_row n x y z i j k s t u hx hy hz xy yz ij jk last =
    let X = term_of (number_of n x i) s in
    let Y = term_of (number_of n y j) t in
    let Z = term_of (number_of n z k) u in
    sym (rising (block_term n x i s) (block_term n y j t) (block_term n z k u) (variables n) ij jk last)
    ∙ regroup X Y Z
    ∙ whole_terms n (One x i s ∷ One y j t ∷ One z k u ∷ []) ((hx.block, hx.among), ((hy.block, hy.among), ((hz.block, hz.among), tt))) (omega arith, (xy, (yz, tt)))
  where
    regroup : (X Y Z : List Term) → [] ++ X ++ Y ++ Z ≡ X ++ (Y ++ (Z ++ []))
    regroup X Y Z = simp (append-nil, append_assoc)
