use Rattle.std.proofs.Common.{◌≡◌, ◌≢◌, ◌∙◌, ◌+◌, ◌-◌, ◌<◌, ◌++◌, ◌∷◌, [], ℕ, List, Vec, Global, length, take, map, pos, sym, ap, subst, arith}
use Rattle.std.proofs.lemmas.List.{get_or_read, map_push, take_all, take_more}
use Rattle.exact_num.specs.Fraction.{Fraction}
use Rattle.exact_num.specs.Views.{shown_frac}
use Rattle.exact_num.specs.declared.frac.Frac.{Frac}
use Rattle.exact_pivots.specs.Entries.{AreRising, factor_at}
use Rattle.exact_pivots.specs.Factors.{factors_of}
use Rattle.exact_pivots.specs.declared.entry.Entry.{Entry}
use Rattle.std.specs.Prelude.{get_or}
use Rattle.tight_leaf.specs.Parts.{AreMultipliers}
use Rattle.tight_leaf.proofs.Places.{IsListed, entry-factor, entry-other, listed-all, listed-more, listed-none, listed-skip}
use Rattle.tight_leaf.proofs.proof.listed.Goals as goal
use Rattle.tight_leaf.proofs.proof.listed.Goals.{then-entry-first+in_ok-push+in_ok-push-2, else-entry-first}

-- an entry of the factors is that on its column
hit-at : (f : ℕ → Fraction) (xs : List Entry) (i : ℕ) (e : Entry) → AreRising 0 xs → ((j : ℕ) → factor_at xs j ≡ f j) → i < length xs → e ≡ get_or xs i e → f e.column ≡ shown_frac e.value
hit-at f xs i e rising same lt is =
    sym (same e.column) ∙ subst (λ (y : Entry). factor_at xs y.column ≡ shown_frac y.value) (sym is) (entry-factor xs 0 i e rising lt)

-- and is not 0
nonzero-at : (f : ℕ → Fraction) (xs : List Entry) (i : ℕ) (e : Entry) → AreRising 0 xs → ((j : ℕ) → factor_at xs j ≡ f j) → i < length xs → e ≡ get_or xs i e → (f e.column).num ≢ pos 0
nonzero-at f xs i e rising same lt is =
    subst (λ (x : Fraction). x.num ≢ pos 0) (sym (hit-at f xs i e rising same lt is))
    (subst (λ (y : Entry). (shown_frac y.value).num ≢ pos 0) (sym is) (entry-other xs 0 i e rising lt))

pub index-requires : goal.index-requires
index-requires c =
    let xs : List Entry = c.entries-entry-items.result.now in
    let e : Entry = c.entry-item.result in
    let within = c.requires.under e.column
    (nonzero-at (factors_of c.args.factors.now) xs c.loop-entry.entry-index e c.entries-entry-items.ensures.rising c.entries-entry-items.ensures.factor c.loop-entry-test.true c.entry-item.is) in
    omega (arith, within, c.requires.rows, c.args.leaf.now.rows.ok, c.len-first.ensures)

pub loop-entry-init : goal.loop-entry-init
loop-entry-init c =
    listed-none c.args.leaf.now.rows.items c.len-first.result c.args.negated (factors_of c.args.factors.now) c.new-rows.result.items (map shown_frac c.new-values.result.items)
    c.new-rows.ensures.items (ap (map shown_frac) c.new-values.ensures.items)

pub loop-entry-preserved : goal.loop-entry-preserved
loop-entry-preserved c =
    let xs : List Entry = c.entries-entry-items.result.now in
    let i = c.loop-entry.entry-index in
    let e : Entry = c.entry-item.result in
    let f : ℕ → Fraction = factors_of c.args.factors.now in
    let numbers = c.args.leaf.now.rows.items in
    let first = c.len-first.result in
    let rows = c.loop-entry.rows.items in
    let values = c.loop-entry.values.items in
    let more : take (i + 1) xs ≡ take i xs ++ e ∷ [] = take_more xs i e c.loop-entry-test.true ∙ ap (λ (y : Entry). take i xs ++ y ∷ []) (sym c.entry-item.is) in
    let hit : f e.column ≡ shown_frac e.value =
    hit-at f xs i e c.entries-entry-items.ensures.rising c.entries-entry-items.ensures.factor c.loop-entry-test.true c.entry-item.is in
    elim c.if-entry-first.branch [
      | then-entry-first+in_ok-push+in_ok-push-2 w ↦
          listed-more numbers first c.args.negated f (take i xs) (take (i + 1) xs) e rows (map shown_frac values) more c.loop-entry.invariant
          w.index.result.now (shown_frac w.signed.result) c.if-entry-first.rows.items (map shown_frac c.if-entry-first.values.items)
          (omega arith) hit
          (get_or_read numbers (e.column - first) w.index.result.now (let within = c.requires.under e.column
          (nonzero-at f xs i e c.entries-entry-items.ensures.rising c.entries-entry-items.ensures.factor c.loop-entry-test.true c.entry-item.is) in
          omega (arith, within, c.requires.rows, c.len-first.ensures)) w.index.ensures 0)
          w.signed.ensures
          (ap (λ (v : Vec ℕ Global). v.items) w.rows-is ∙ w.in_ok-push.ensures.items)
          (ap (λ (v : Vec Frac Global). map shown_frac v.items) w.values-is ∙ ap (map shown_frac) w.in_ok-push-2.ensures.items ∙ map_push shown_frac values w.signed.result)
      | else-entry-first w ↦
          subst (λ (rs : List ℕ). IsListed numbers first c.args.negated f (take (i + 1) xs) rs (map shown_frac c.if-entry-first.values.items)) (sym (ap (λ (v : Vec ℕ Global). v.items) w.rows-is))
          (subst (λ (vs : List Fraction). IsListed numbers first c.args.negated f (take (i + 1) xs) rows vs) (sym (ap (λ (v : Vec Frac Global). map shown_frac v.items) w.values-is))
          (listed-skip numbers first c.args.negated f (take i xs) (take (i + 1) xs) e rows (map shown_frac values) more c.loop-entry.invariant (omega arith)))
    ]

pub returns : goal.returns
returns c =
    let xs : List Entry = c.entries-entry-items.result.now in
    let f : ℕ → Fraction = factors_of c.args.factors.now in
    let numbers = c.args.leaf.now.rows.items in
    let first = c.len-first.result in
    let all : take c.loop-entry.entry-index xs ≡ xs = take_all c.loop-entry.entry-index xs (omega arith) in
    let first_is : first ≡ length c.args.leaf.now.program.variables.items = omega (arith, c.len-first.ensures) in
    subst (λ (k : ℕ). AreMultipliers numbers k c.args.negated f record { rows = c.loop-entry.rows; values = c.loop-entry.values }) first_is
    (listed-all numbers first c.args.negated f record { rows = c.loop-entry.rows; values = c.loop-entry.values } xs c.entries-entry-items.ensures.rising c.entries-entry-items.ensures.factor
    (λ j nz. let within = c.requires.under j nz in omega (arith, within, c.requires.rows, first_is))
    (subst (λ (done : List Entry). IsListed numbers first c.args.negated f done c.loop-entry.rows.items (map shown_frac c.loop-entry.values.items)) all c.loop-entry.invariant))
