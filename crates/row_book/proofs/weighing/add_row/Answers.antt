use Rattle.std.proofs.Common.{◌≡◌, ℕ, ◌+◌, ◌*◌, ◌^◌, ◌<◌, ◌≤◌, List, All, length, ℤ, pos, get_or, unsigned_abs, FitsSigned, arith, rules, refl, ap, sym, subst, ◌∙◌}
use Rattle.std.specs.List.{sum_by}
use Rattle.std.proofs.lemmas.Int.{to_z-of_z}
use Rattle.std.proofs.lemmas.List.{take_all}
use Rattle.std.proofs.lemmas.List.Sums.{sum_by_more, sum_by_more_le}
use mir.Syntax.{w128}
use Rattle.pool_model.specs.Network.{net_of}
use Rattle.box_space.specs.Views.{shown_box}
use Rattle.linear_program.specs.declared.terms.Term.{Term}
use Rattle.row_book.specs.Sizes.{end_size, size_in}
use Rattle.row_book.proofs.Subtracting.{fits_here, one_more}
use Rattle.row_book.proofs.WeightSums.{size_is, on_err}
use Rattle.row_book.proofs.weighing.add_row.Goals as goal

-- what is required of the row's terms, of the terms that were read
known_in : {ts us : List Term} {m l : ℕ} → ts ≡ us → m ≡ l → All (λ t. t.var < l) us → All (λ t. t.var < m) ts
known_in {ts} {us} {m} {l} e f h = subst (λ xs. All (λ t. t.var < m) xs) (sym e) (λ i d lt. omega (arith, f, h i d lt))

room_in : {ts us : List Term} (old : List ℤ) (mult : ℤ) → ts ≡ us
    → ((i : ℕ) → i < length old → unsigned_abs (get_or old i (pos 0)) + unsigned_abs mult * size_in us i ≤ 2 ^ 126)
    → (i : ℕ) → i < length old → unsigned_abs (get_or old i (pos 0)) + unsigned_abs mult * size_in ts i ≤ 2 ^ 126
room_in old mult e h i lt = omega (arith, ap (λ xs. unsigned_abs mult * size_in xs i) e, h i lt)

pub bounds-rests-term : goal.bounds-rests-term
bounds-rests-term c =
    let known = known_in c.terms-terms.ensures c.requires.places c.requires.known in
    omega (arith, known c.loop-term.term-index record { var = 0; coef = pos 0 } c.loop-term-test.true, c.loop-term.auto.rests)

pub less_product-requires : goal.less_product-requires
less_product-requires c =
    let terms = c.terms-terms.result.now in
    let t : Term = get_or terms c.loop-term.term-index record { var = 0; coef = pos 0 } in
    let narrow = c.ranges.mult in
    let coef : FitsSigned w128 t.coef = search rules in
    let rest : FitsSigned w128 (get_or c.loop-term.rests t.var (pos 0)) = search rules in
    simp to_z-of_z (fits_here c.args.rests.now c.loop-term.rests c.args.mult terms c.loop-term.term-index _
    c.loop-term-test.true c.loop-term.auto.rests (known_in c.terms-terms.ensures c.requires.places c.requires.known)
    (room_in c.args.rests.now c.args.mult c.terms-terms.ensures c.requires.room) (simp to_z-of_z at c.loop-term.invariant.taken))

pub returns-in_err-add_product-2-clause-wide : goal.returns-in_err-add_product-2-clause-wide
returns-in_err-add_product-2-clause-wide c =
    let ends = end_size (net_of c.args.net.now) (shown_box c.args.v.now) in
    let d : Term = record { var = 0; coef = pos 0 } in
    let t : Term = get_or c.terms-terms.result.now c.loop-term.term-index d in
    let g : Term → ℕ = λ t. unsigned_abs c.args.mult * unsigned_abs t.coef * ends t.var in
    let mult = c.ranges.mult in
    let coef : FitsSigned w128 t.coef = search rules in
    let constant : FitsSigned w128 c.constant.result = search rules in
    let size : c.into.result ≡ unsigned_abs c.args.mult = omega (arith, c.into.ensures, simp to_z-of_z at c.unsigned_abs.ensures.value) in
    let first : c.into.result * c.unsigned_abs-2.result ≡ unsigned_abs c.args.mult * unsigned_abs c.args.row.now.constant =
    ap (λ z. z * c.unsigned_abs-2.result) size ∙ ap (λ z. unsigned_abs c.args.mult * z) (simp to_z-of_z at c.unsigned_abs-2.ensures.value ∙ ap unsigned_abs c.constant.ensures) in
    on_err c.from_residual-in_err-add_product-2.result (omega (
      arith,
      c.in_err-add_product-2.ensures.wide,
      simp to_z-of_z at c.loop-term.invariant.weight,
      c.in_ok-add_product.ensures.added,
      first,
      size_is (unsigned_abs c.args.mult) c.multiplied_size-size.result c.end_size.result t.coef t.coef (ends t.var) (simp to_z-of_z at c.multiplied_size-size.ensures) refl c.end_size.ensures,
      sum_by_more_le g c.terms-terms.result.now c.loop-term.term-index d c.loop-term-test.true,
      ap (sum_by g) c.terms-terms.ensures,
    ))

pub loop-term-preserved : goal.loop-term-preserved
loop-term-preserved c =
    let ends = end_size (net_of c.args.net.now) (shown_box c.args.v.now) in
    let d : Term = record { var = 0; coef = pos 0 } in
    let t : Term = get_or c.terms-terms.result.now c.loop-term.term-index d in
    let g : Term → ℕ = λ t. unsigned_abs c.args.mult * unsigned_abs t.coef * ends t.var in
    let mult = c.ranges.mult in
    let coef : FitsSigned w128 t.coef = search rules in
    let rest : FitsSigned w128 (get_or c.loop-term.rests t.var (pos 0)) = search rules in
    let less : FitsSigned w128 c.less_product.result = search rules in
    record {
      weight = simp to_z-of_z (omega (
        arith,
        c.in_ok-add_product-2.ensures.added,
        simp to_z-of_z at c.loop-term.invariant.weight,
        size_is (unsigned_abs c.args.mult) c.multiplied_size-size.result c.end_size.result t.coef t.coef (ends t.var) (simp to_z-of_z at c.multiplied_size-size.ensures) refl c.end_size.ensures,
        sum_by_more g c.terms-terms.result.now c.loop-term.term-index d c.loop-term-test.true,
      ));
      narrow = omega (arith, c.in_ok-add_product-2.ensures.added, c.in_ok-add_product-2.ensures.fits);
      taken = simp to_z-of_z (one_more c.args.rests.now c.loop-term.rests c.args.mult c.terms-terms.result.now c.loop-term.term-index _
          c.less_product.result c.loop-term-test.true c.loop-term.auto.rests (known_in c.terms-terms.ensures c.requires.places c.requires.known)
          (simp to_z-of_z at c.loop-term.invariant.taken) (simp to_z-of_z at c.less_product.ensures));
    }

pub returns-clause-added : goal.returns-clause-added
returns-clause-added c =
    let ends = end_size (net_of c.args.net.now) (shown_box c.args.v.now) in
    let g : Term → ℕ = λ t. unsigned_abs c.args.mult * unsigned_abs t.coef * ends t.var in
    let mult = c.ranges.mult in
    let constant : FitsSigned w128 c.constant.result = search rules in
    let size : c.into.result ≡ unsigned_abs c.args.mult = omega (arith, c.into.ensures, simp to_z-of_z at c.unsigned_abs.ensures.value) in
    let first : c.into.result * c.unsigned_abs-2.result ≡ unsigned_abs c.args.mult * unsigned_abs c.args.row.now.constant =
    ap (λ z. z * c.unsigned_abs-2.result) size ∙ ap (λ z. unsigned_abs c.args.mult * z) (simp to_z-of_z at c.unsigned_abs-2.ensures.value ∙ ap unsigned_abs c.constant.ensures) in
    omega (
      arith,
      simp to_z-of_z at c.loop-term.invariant.weight,
      c.in_ok-add_product.ensures.added,
      first,
      ap (sum_by g) (take_all c.loop-term.term-index c.terms-terms.result.now c.loop-term-test.false),
      ap (sum_by g) c.terms-terms.ensures,
    )
