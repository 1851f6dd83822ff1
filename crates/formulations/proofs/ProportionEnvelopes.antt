-- The row of a side of an envelope, by the numbers of the path's feed and out.
use Rattle.std.proofs.Common.{◌≡◌, ℕ, ◌<◌, pos, arith, ap, ◌∙◌}
use Rattle.pool_model.specs.Network.{Net}
use Rattle.row_model.specs.Boxes.{Box, grain, prop_number, flow_number}
use Rattle.row_model.specs.Variables.{none, variables, by_number, path_count, path_feed, path_out}
use Rattle.row_model.specs.Envelopes.{Ends, Side, side}
use Rattle.row_model.specs.Catalogue.{Row, at_least, when, proportion_envelope_row}
use Rattle.box_space.specs.declared.table.Block.TheVariants.{Outs, Paths, Proportions}
use Rattle.box_space.specs.Blocks.{number_of}
use Rattle.box_space.specs.Lines.{terms_from}
use Rattle.mccormick.specs.Coefs.{side_coef}
use Rattle.mccormick.proofs.ThreeTerms.{turned}
use Rattle.mccormick.proofs.BlockRows.{block_term, three_row}

-- a row of three variables
abbrev pub three : (p e o : ℕ) → Side → Row
three p e o s = record {
  kind = at_least;
  coefs = record none { y = λ f. when f o s.of_b; w = λ q. when q p s.of_w; proportion = λ f. when f e s.of_a };
  constant = s.constant;
}

-- the ends of a feed's proportion and an out's flow
abbrev pub ends : Net → Box → (e o : ℕ) → Ends
ends n b e o = record { a_low = b.low (prop_number n e); a_high = b.high (prop_number n e); b_low = b.low (flow_number n o); b_high = b.high (flow_number n o) }

pub envelope_row : (n : Net) (b : Box) (p number e o : ℕ) (s : Side) (z : Ends) → e ≡ path_feed n p → o ≡ path_out n p → z ≡ ends n b e o → s ≡ side number (pos grain) z
    → three p e o s ≡ proportion_envelope_row n b p number
envelope_row n b p number e o s z feed out is by =
    ap (λ (t : Side). three p e o t) (by ∙ ap (λ (t : Ends). side number (pos grain) t) is)
    ∙ ap (λ (f : ℕ). three p f o (side number (pos grain) (ends n b f o))) feed
    ∙ ap (λ (f : ℕ). three p (path_feed n p) f (side number (pos grain) (ends n b (path_feed n p) f))) out

-- the numbers of the three variables
pub record AreNumbers (n : Net) (p e o a b w : ℕ) : Type 0 where
  pub path : p < path_count n
  pub feed : e < n.feeds
  pub out : o < n.outs
  pub a_is : a ≡ number_of n Proportions e
  pub b_is : b ≡ number_of n Outs o
  pub w_is : w ≡ number_of n Paths p

pub side_terms : (n : Net) (p e o a b w : ℕ) (s : Side) → AreNumbers n p e o a b w → terms_from 0 (side_coef a b w s) (variables n) ≡ terms_from 0 (by_number n (three p e o s).coefs) (variables n)
side_terms n p e o a b w s h =
    let first = block_term n Outs o s.of_b in
    let second = block_term n Paths p s.of_w in
    let third = block_term n Proportions e s.of_a in
    ap (λ (z : ℕ). terms_from 0 (side_coef z b w s) (variables n)) h.a_is
    ∙ ap (λ (z : ℕ). terms_from 0 (side_coef (number_of n Proportions e) z w s) (variables n)) h.b_is
    ∙ ap (λ (z : ℕ). terms_from 0 (side_coef (number_of n Proportions e) (number_of n Outs o) z s) (variables n)) h.w_is
    ∙ turned first second third (variables n)
    ∙ three_row n Outs Paths Proportions o p e s.of_b s.of_w s.of_a record { block = tt; among = h.out } record {
      block = tt;
      among =
          h.path;
    } record { block = tt; among = h.feed } (omega arith) (omega arith)
    (omega (arith, h.out)) (omega (arith, h.path)) (omega (arith, h.feed))
