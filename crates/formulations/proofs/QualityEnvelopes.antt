-- The row of a side of an envelope, by the number of the out's pool.
use Rattle.std.proofs.Common.{◌≡◌, ℕ, ◌+◌, ◌*◌, ◌/◌, ◌%◌, ◌<◌, pos, arith, refl, ap, ◌∙◌}
use Rattle.integers.proofs.Grids.{grid-below}
use Rattle.pool_model.specs.Network.{Net}
use Rattle.row_model.specs.Boxes.{Box, qual_number, flow_number}
use Rattle.row_model.specs.Variables.{none, variables, by_number}
use Rattle.row_model.specs.Envelopes.{Ends, Side, side}
use Rattle.row_model.specs.Catalogue.{Row, at_least, when, quality_envelope_row}
use Rattle.box_space.specs.declared.table.Block.TheVariants.{Outs, Qualities, Mixed}
use Rattle.box_space.specs.Blocks.{number_of}
use Rattle.box_space.specs.Lines.{terms_from}
use Rattle.mccormick.specs.Coefs.{side_coef}
use Rattle.mccormick.proofs.ThreeTerms.{swapped}
use Rattle.mccormick.proofs.BlockRows.{block_term, three_row}

-- a row of three variables
abbrev pub three : (o k l : ℕ) → Side → Row
three o k l s = record {
  kind = at_least;
  coefs = record none { y = λ f. when f o s.of_b; quality = λ p h. when h k (when p l s.of_a); mixed = λ f h. when h k (when f o s.of_w) };
  constant = s.constant;
}

-- the ends of a pool's quality and an out's flow
abbrev pub ends : Net → Box → (l k o : ℕ) → Ends
ends n b l k o = record { a_low = b.low (qual_number n l k); a_high = b.high (qual_number n l k); b_low = b.low (flow_number n o); b_high = b.high (flow_number n o) }

pub envelope_row : (n : Net) (b : Box) (o k number l : ℕ) (s : Side) (e : Ends) → l ≡ n.out_pool o → e ≡ ends n b l k o → s ≡ side number (pos 1) e
    → three o k l s ≡ quality_envelope_row n b o k number
envelope_row n b o k number l s e at is by =
    ap (λ (z : Side). three o k l z) (by ∙ ap (λ (z : Ends). side number (pos 1) z) is)
    ∙ ap (λ (z : ℕ). three o k z (side number (pos 1) (ends n b z k o))) at

-- the numbers of the three variables
pub record AreNumbers (n : Net) (o k l a b w : ℕ) : Type 0 where
  pub out : o < n.outs
  pub quality : k < n.qualities
  pub pool : l < n.pools
  pub a_is : a ≡ number_of n (Qualities k) l
  pub b_is : b ≡ number_of n Outs o
  pub w_is : w ≡ number_of n (Mixed k) o

-- they rise, and are numbers of variables
pub record AreApart (n : Net) (a b w : ℕ) : Type 0 where
  pub b_a : b < a
  pub a_w : a < w
  pub last : w < variables n

pub apart : (n : Net) (o k l a b w : ℕ) → AreNumbers n o k l a b w → AreApart n a b w
apart n o k l a b w h =
    let held = grid-below n.pools n.qualities l k h.pool h.quality in
    let mixed = grid-below n.outs n.qualities o k h.out h.quality in
    record { b_a = omega arith; a_w = omega arith; last = omega arith }

pub side_terms : (n : Net) (o k l a b w : ℕ) (s : Side) → AreNumbers n o k l a b w → terms_from 0 (side_coef a b w s) (variables n) ≡ terms_from 0 (by_number n (three o k l s).coefs) (variables n)
side_terms n o k l a b w s h =
    let first = block_term n Outs o s.of_b in
    let second = block_term n (Qualities k) l s.of_a in
    let third = block_term n (Mixed k) o s.of_w in
    let rising = apart n o k l _ _ _ record { out = h.out; quality = h.quality; pool = h.pool; a_is = refl; b_is = refl; w_is = refl } in
    ap (λ (z : ℕ). terms_from 0 (side_coef z b w s) (variables n)) h.a_is
    ∙ ap (λ (z : ℕ). terms_from 0 (side_coef (number_of n (Qualities k) l) z w s) (variables n)) h.b_is
    ∙ ap (λ (z : ℕ). terms_from 0 (side_coef (number_of n (Qualities k) l) (number_of n Outs o) z s) (variables n)) h.w_is
    ∙ swapped first second third (variables n)
    ∙ three_row n Outs (Qualities k)
    (Mixed k) o l o s.of_b s.of_a s.of_w record { block = tt; among = h.out } record { block = h.quality; among = h.pool } record { block = h.quality; among = h.out } (omega arith) (omega arith)
    rising.b_a rising.a_w rising.last

-- the row of a number
pub side_at : (n : Net) (b : Box) (i qualities out quality number : ℕ) → qualities ≡ n.qualities → out ≡ i / (qualities * 4) → quality ≡ i % (qualities * 4) / 4 → number ≡ i % 4 + 1
    → quality_envelope_row n b out quality number ≡ quality_envelope_row n b (i / (n.qualities * 4)) (i % (n.qualities * 4) / 4) (i % 4 + 1)
side_at n b i qualities out quality number q o k s =
    ap (λ (z : ℕ). quality_envelope_row n b z quality number) o ∙ ap (λ (z : ℕ). quality_envelope_row n b (i / (qualities * 4)) z number) k
    ∙ ap (λ (z : ℕ). quality_envelope_row n b (i / (qualities * 4)) (i % (qualities * 4) / 4) z) s
    ∙ ap (λ (z : ℕ). quality_envelope_row n b (i / (z * 4)) (i % (z * 4) / 4) (i % 4 + 1)) q
