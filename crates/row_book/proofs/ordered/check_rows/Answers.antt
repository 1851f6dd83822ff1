use Rattle.std.proofs.Common.{◌≡◌, ℕ, ◌<◌, List, All, length, get_or, true, arith, sym, subst}
use Rattle.pool_model.specs.Network.{net_of}
use Rattle.row_model.specs.Catalogue as catalogue
use Rattle.row_model.specs.Multipliers.{Part}
use Rattle.box_space.specs.Views.{shown_proof}
use Rattle.row_book.proofs.Rising.{no_more}
use Rattle.row_book.proofs.AllParts.{no_part, at_part, rising_at}
use Rattle.row_book.proofs.FirstFaults.{first-order, first-unknown}
use Rattle.row_book.proofs.ordered.check_rows.Goals as goal

-- row numbers below a count that is another
known_is : {a b : ℕ} (parts : List Part) → a ≡ b → All (λ q. q.row < a) parts → All (λ q. q.row < b) parts
known_is {a} {b} parts e h = subst (λ (z : ℕ). All (λ q. q.row < z) parts) e h

pub returns : goal.returns
returns c =
    let n = net_of c.args.net.now in
    let parts = c.args.proof.now.parts.items in
    let rising = c.is_rising.ensures.0 c.if-not-is_rising.false in
    let known = known_is (shown_proof c.args.proof.now).parts c.rows-count.ensures.count (c.are_rows.ensures.0 c.if-not-are_rows.false) in
    record {
      limited = c.rows-count.ensures.limited;
      rising = rising;
      known = known;
      few = omega (
        arith,
        c.rows-count.ensures.count,
        c.rows-count.ensures.few,
        no_more (λ k. (get_or parts k no_part).row) (length parts) (catalogue.rows n) (λ i j lt h. rising_at parts i j lt h rising) (λ i lt. at_part (λ q. q.row < catalogue.rows n) parts i lt known),
      );
      fault = λ b. tt;
    }

pub returns-then-not-is_rising-clause-fault : goal.returns-then-not-is_rising-clause-fault
returns-then-not-is_rising-clause-fault c =
    λ b. first-order (net_of c.args.net.now) b (shown_proof c.args.proof.now) (λ h. let yes : c.is_rising.result ≡ true = c.is_rising.ensures.1 h in cc)

pub returns-then-not-are_rows-clause-fault : goal.returns-then-not-are_rows-clause-fault
returns-then-not-are_rows-clause-fault c =
    λ b. first-unknown (net_of c.args.net.now) b (shown_proof c.args.proof.now) (c.is_rising.ensures.0 c.if-not-is_rising.false)
    (λ h. let yes : c.are_rows.result ≡ true = c.are_rows.ensures.1 (known_is (shown_proof c.args.proof.now).parts (sym c.rows-count.ensures.count) h) in cc)
