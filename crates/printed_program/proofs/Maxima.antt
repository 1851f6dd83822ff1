-- The ends that are printed keep flows within the maxima of arcs.
use Rattle.std.proofs.Common.{All, ◌≡◌, ℕ, ◌*◌, ◌<◌, ◌≤◌, min, Option, Some, ℤ, pos, ◌*ℤ◌, ◌≤ℤ◌, unsigned_abs, arith, refl, subst}
use Rattle.std.proofs.lemmas.Int.{ints}
use Rattle.std.proofs.Math.Nat.{mul-le-mul_right}
use Rattle.pool_model.specs.Network.{Net, capped}
use Rattle.pool_model.specs.Plan.{KeepsMaxima}
use Rattle.pool_model.proofs.Capped.{capped-max}
use Rattle.row_model.specs.Boxes.{root}
use Rattle.row_model.specs.Variables.{lows}
use Rattle.box_space.specs.declared.coordinates.Form.{Form}
use Rattle.program_text.specs.Names.{named}
use Rattle.program_text.specs.declared.names.Symbol.TheVariants as symbols
use Rattle.printed_program.specs.Numbers.{Numbers, Keeps}
use Rattle.printed_program.specs.Printed.{variable_lines}
use Rattle.printed_program.specs.Points.{flows_at}
use Rattle.printed_program.proofs.Ends.{IsWithin, flow-high}
use Rattle.printed_program.proofs.Parts.{feed-within, out-within, direct-within, feed-signed, out-signed, direct-signed, has-feeds, has-outs, has-directs}

-- a number that is not below 0 and lies under an end that a maximum caps
under-max : (o : Option ℕ) (amount base m : ℕ) (low v : ℤ) → o ≡ Some m → pos 0 ≤ℤ v → IsWithin base low (pos (capped o amount)) v → unsigned_abs v ≤ base * m
under-max o amount base m low v is signed within =
    below (unsigned_abs v) v (capped o amount) base m signed within.high (mul-le-mul_right base (capped-max o amount m is))
  where
    below : (x : ℕ) (v : ℤ) (end base m : ℕ) → pos 0 ≤ℤ v → v ≤ℤ (pos end *ℤ pos base) → end * base ≤ m * base → unsigned_abs v ≤ base * m
    below x v end base m signed high most = omega (arith, ints, most)

pub maxima-kept : (n : Net) (form : Form) (q : Numbers) → All (Keeps q) (variable_lines n form) → KeepsMaxima n (flows_at q)
maxima-kept n form q h = record {
  feeds = λ e m lt is.
      let nodes = min (n.source_max (n.feed_source e)) (n.pool_max (n.feed_pool e)) in
      under-max (n.feed_max e) nodes q.base m (pos 0) (q.value (named symbols.Feed e)) is (feed-signed n form q h e lt (has-feeds form)) (feed-within n form q h e lt (has-feeds form));
  outs = λ o m lt is.
      let nodes = min (n.pool_max (n.out_pool o)) (n.product_max (n.out_product o)) in
      let low = (lows n (root n)).y o in
      under-max (n.out_max o) nodes q.base m low (q.value (named symbols.Out o)) is (out-signed n form q h o lt (has-outs form))
      (subst (λ z. IsWithin q.base low z (q.value (named symbols.Out o))) (flow-high n o lt) (out-within n form q h o lt (has-outs form)));
  directs = λ e m lt is.
      let nodes = min (n.source_max (n.direct_source e)) (n.product_max (n.direct_product e)) in
      under-max (n.direct_max e) nodes q.base m (pos 0) (q.value (named symbols.Direct e)) is (direct-signed n form q h e lt (has-directs form)) (direct-within n form q h e lt (has-directs form));
}
