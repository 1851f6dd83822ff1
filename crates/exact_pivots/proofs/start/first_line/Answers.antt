use Rattle.std.proofs.Common.{◌≡◌, ◌≢◌, ◌∙◌, ap, sym, refl, ℕ, ◌+◌, ◌^◌, ◌<◌, ◌≤◌, List, [], map, get_or, length, ℤ, pos, ◌+ℤ◌, ◌*ℤ◌, unsigned_abs, arith, to_z, of_z, if◌then◌else◌, ◌==◌}
use Rattle.std.proofs.lemmas.List.{get_or-map}
use mir.Syntax.{w128}
use Rattle.integers.proofs.AtKey.{chosen, passed}
use Rattle.exact_num.specs.Fraction.{Fraction}
use Rattle.exact_num.specs.Views.{shown_frac}
use Rattle.exact_run.specs.Operations.{whole}
use Rattle.exact_run.specs.Programs.{end_value}
use Rattle.exact_pivots.specs.Entries.{factor_at}
use Rattle.exact_pivots.specs.Fits.{end_size, weight_of}
use Rattle.exact_pivots.specs.Views.{program_of, stands_at}
use Rattle.exact_pivots.specs.declared.program.BoundedRow.{BoundedRow}
use Rattle.exact_pivots.specs.declared.program.Coefficient.{Coefficient}
use Rattle.exact_pivots.proofs.Entries.{below-more, factor-above, empty-is}
use Rattle.exact_pivots.proofs.Memory.{read_is, read_as, fits_is}
use Rattle.exact_pivots.proofs.Starting.{term_first, begun-at, begun-step, begun-end, sum-narrow, ends_within, sizes}
use Rattle.exact_pivots.proofs.start.first_line.Goals as goal

-- a constant is at most what its row weighs
constant_narrow : (a b w n : ℕ) → a + b ≡ w → w < n → a < n
constant_narrow a b w n h lt = omega arith

pub loop-term-init : goal.loop-term-init
loop-term-init c =
    let b = c.args.program.now in
    let p = program_of b in
    let r = c.args.row in
    let all : List Coefficient = get_or (map (λ (w : BoundedRow). w.terms.items) b.rows.items) r [] in
    let terms_are : c.index-2.result.now.terms.items ≡ all =
    ap (λ (w : BoundedRow). w.terms.items) c.index-2.ensures ∙ sym (get_or-map (λ (w : BoundedRow). w.terms.items) b.rows.items r c.index-2.result.now [] c.requires.row) in
    let constant_is : c.index.result.now.constant ≡ p.constant r =
    ap (λ (w : BoundedRow). w.constant) c.index.ensures ∙ sym (get_or-map (λ (w : BoundedRow). w.constant) b.rows.items r c.index.result.now (pos 0) c.requires.row) in
    let narrow : unsigned_abs (p.constant r) < 2 ^ 127 =
    constant_narrow (unsigned_abs (p.constant r)) (sizes all (end_size p) p.variables) (weight_of p r) (2 ^ 127) refl (c.requires.ready.short r c.requires.row) in (
      0,
      begun-at all c.as_slice-rest.result.now (λ v. end_value p v (stands_at c.args.stands.now v)) (end_size p) p.variables (p.constant r)
          (to_z w128 (of_z w128 c.index.result.now.constant)) c.new-factors.result.entries.items (c.as_slice-rest.ensures.value ∙ terms_are)
          (read_as c.index.result.now.constant (p.constant r) constant_is narrow) (c.requires.ready.terms r c.requires.row) c.new-factors.ensures.under,
    )

pub push-requires : goal.push-requires
push-requires c =
    let m = c.loop-term.invariant in
    let t = c.in-Some.term.now in
    let first = term_first c.loop-term.rest.now c.in-Some.later.now t (program_of c.args.program.now).variables m.0 m.1.terms c.in-Some.ensures.cases.0 in
    below-more c.loop-term.factors.entries.items m.0 t.variable first.0 m.1.under

-- the product of what is read, and the sum with it
product_is : (t e x : ℤ) → unsigned_abs t < 2 ^ 127 → unsigned_abs e < 2 ^ 127 → e ≡ x → to_z w128 (of_z w128 t) *ℤ to_z w128 (of_z w128 e) ≡ t *ℤ x
product_is t e x ht he is = ap (λ (z : ℤ). z *ℤ to_z w128 (of_z w128 e)) (read_is t ht) ∙ ap (λ (z : ℤ). t *ℤ z) (read_is e he ∙ is)

sum_is : (s p q : ℤ) → p ≡ q → unsigned_abs q < 2 ^ 127 → s +ℤ to_z w128 (of_z w128 p) ≡ s +ℤ q
sum_is s p q e h = ap (λ (z : ℤ). s +ℤ z) (read_as p q e h)

at_most : (a b n : ℕ) → a ≤ b → b < n → a < n
at_most a b n h k = omega arith

pub overflow_mul-sum : goal.overflow_mul-sum
overflow_mul-sum c =
    let p = program_of c.args.program.now in
    let r = c.args.row in
    let m = c.loop-term.invariant in
    let t = c.in-Some.term.now in
    let x : ℕ → ℤ = λ v. end_value p v (stands_at c.args.stands.now v) in
    let all : List Coefficient = get_or (map (λ (w : BoundedRow). w.terms.items) c.args.program.now.rows.items) r [] in
    let narrow = sum-narrow all c.loop-term.rest.now c.in-Some.later.now t x (end_size p) p.variables (p.constant r) (to_z w128 c.loop-term.sum-bits) (weight_of p r)
    c.loop-term.factors.entries.items m.0 (ends_within p (stands_at c.args.stands.now)) m.1 c.in-Some.ensures.cases.0 in
    fits_is (to_z w128 (of_z w128 t.value) *ℤ to_z w128 (of_z w128 c.end_value.result)) (t.value *ℤ x t.variable) (product_is t.value c.end_value.result (x t.variable) t.short c.end_value.ensures.short c.end_value.ensures.value)
    (at_most (unsigned_abs (t.value *ℤ x t.variable)) (weight_of p r) (2 ^ 127) narrow.0 (c.requires.ready.short r c.requires.row))

pub overflow_add-sum : goal.overflow_add-sum
overflow_add-sum c =
    let p = program_of c.args.program.now in
    let r = c.args.row in
    let m = c.loop-term.invariant in
    let t = c.in-Some.term.now in
    let x : ℕ → ℤ = λ v. end_value p v (stands_at c.args.stands.now v) in
    let all : List Coefficient = get_or (map (λ (w : BoundedRow). w.terms.items) c.args.program.now.rows.items) r [] in
    let sum = to_z w128 c.loop-term.sum-bits in
    let product = to_z w128 (of_z w128 t.value) *ℤ to_z w128 (of_z w128 c.end_value.result) in
    let narrow = sum-narrow all c.loop-term.rest.now c.in-Some.later.now t x (end_size p) p.variables (p.constant r) sum (weight_of p r)
    c.loop-term.factors.entries.items m.0 (ends_within p (stands_at c.args.stands.now)) m.1 c.in-Some.ensures.cases.0 in
    let product_short = at_most (unsigned_abs (t.value *ℤ x t.variable)) (weight_of p r) (2 ^ 127) narrow.0 (c.requires.ready.short r c.requires.row) in
    fits_is (sum +ℤ to_z w128 (of_z w128 product)) (sum +ℤ t.value *ℤ x t.variable)
    (sum_is sum product (t.value *ℤ x t.variable) (product_is t.value c.end_value.result (x t.variable) t.short c.end_value.ensures.short c.end_value.ensures.value) product_short)
    (at_most (unsigned_abs (sum +ℤ t.value *ℤ x t.variable)) (weight_of p r) (2 ^ 127) narrow.1 (c.requires.ready.short r c.requires.row))

pub loop-term-preserved : goal.loop-term-preserved
loop-term-preserved c =
    let p = program_of c.args.program.now in
    let r = c.args.row in
    let m = c.loop-term.invariant in
    let t = c.in-Some.term.now in
    let x : ℕ → ℤ = λ v. end_value p v (stands_at c.args.stands.now v) in
    let all : List Coefficient = get_or (map (λ (w : BoundedRow). w.terms.items) c.args.program.now.rows.items) r [] in
    let sum = to_z w128 c.loop-term.sum-bits in
    let product = to_z w128 (of_z w128 t.value) *ℤ to_z w128 (of_z w128 c.end_value.result) in
    let narrow = sum-narrow all c.loop-term.rest.now c.in-Some.later.now t x (end_size p) p.variables (p.constant r) sum (weight_of p r)
    c.loop-term.factors.entries.items m.0 (ends_within p (stands_at c.args.stands.now)) m.1 c.in-Some.ensures.cases.0 in
    let product_short = at_most (unsigned_abs (t.value *ℤ x t.variable)) (weight_of p r) (2 ^ 127) narrow.0 (c.requires.ready.short r c.requires.row) in
    let is : shown_frac c.whole.result ≡ whole t.value = c.whole.ensures ∙ ap whole (read_is t.value t.short) in
    let old = c.loop-term.factors.entries.items in (
      t.variable + 1,
      begun-step all c.loop-term.rest.now c.in-Some.later.now t x (end_size p) p.variables (p.constant r) sum (to_z w128 (of_z w128 (sum +ℤ to_z w128 (of_z w128 product)))) (weight_of p r)
          old c.push.new.self.entries.items m.0 (ends_within p (stands_at c.args.stands.now)) m.1 c.in-Some.ensures.cases.0 c.in_ok-push.ensures.under
          (λ j. c.in_ok-push.ensures.factor j ∙ ap (λ (f : Fraction). if t.variable == j then f else factor_at old j) is)
          (read_as (sum +ℤ to_z w128 (of_z w128 product)) (sum +ℤ t.value *ℤ x t.variable)
          (sum_is sum product (t.value *ℤ x t.variable) (product_is t.value c.end_value.result (x t.variable) t.short c.end_value.ensures.short c.end_value.ensures.value) product_short)
          (at_most (unsigned_abs (sum +ℤ t.value *ℤ x t.variable)) (weight_of p r) (2 ^ 127) narrow.1 (c.requires.ready.short r c.requires.row))),
    )

pub push-requires-2 : goal.push-requires-2
push-requires-2 c =
    let m = c.loop-term.invariant in
    below-more c.loop-term.factors.entries.items m.0 (c.len.result + c.args.row) (omega (arith, m.1.within, c.len.ensures)) m.1.under

-- a column of its own, past the variables
apart_from : (len n r v : ℕ) → len ≡ n → v < n → len + r ≢ v
apart_from len n r v h lt = omega arith

pub returns : goal.returns
returns c =
    let p = program_of c.args.program.now in
    let r = c.args.row in
    let m = c.loop-term.invariant in
    let x : ℕ → ℤ = λ v. end_value p v (stands_at c.args.stands.now v) in
    let all : List Coefficient = get_or (map (λ (w : BoundedRow). w.terms.items) c.args.program.now.rows.items) r [] in
    let sum = to_z w128 c.loop-term.sum-bits in
    let old = c.loop-term.factors.entries.items in
    let own = shown_frac c.whole-2.result in
    let column : ℕ = c.len.result + r in
    let len_is : c.len.result ≡ length c.args.program.now.variables.items = omega (arith, c.len.ensures) in
    let basic_is : column ≡ p.variables + r = ap (λ (n : ℕ). n + r) len_is in
    let done = begun-end all c.loop-term.rest.now x (end_size p) p.variables (p.constant r) sum (weight_of p r) old m.0 m.1 (empty-is c.loop-term.rest.now c.in_default.ensures.cases) in record {
      basic = basic_is;
      variables = λ v lt. c.in_ok-push-2.ensures.factor v ∙ passed column v own (factor_at old v) (apart_from c.len.result p.variables r v len_is lt) ∙ done.0 v;
      own = c.in_ok-push-2.ensures.factor (p.variables + r) ∙ chosen column (p.variables + r) own (factor_at old (p.variables + r)) basic_is ∙ c.whole-2.ensures;
      others = λ j le ne. c.in_ok-push-2.ensures.factor j ∙ passed column j own (factor_at old j) (λ e. ne (sym e ∙ basic_is)) ∙ factor-above old m.0 j m.1.under (omega (arith, m.1.within));
      value = c.whole-3.ensures ∙ ap whole done.1;
    }
