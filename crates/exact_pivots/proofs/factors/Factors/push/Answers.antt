use Rattle.exact_pivots.proofs.Entries.{factor-nothing_pushed, below-more, rising-kept, factor-push, below-push}
use Rattle.exact_pivots.proofs.Reduced.{zero_from_bits, other_from_bits}
use Rattle.std.proofs.Common.{◌≡◌, ◌≢◌, ◌∙◌, ap, sym, subst, List, pos, ◌+◌, arith, is_ok}
use Rattle.exact_pivots.specs.Entries.{factor_at, AreBelow}
use Rattle.exact_pivots.specs.declared.entry.Entry.{Entry}
use Rattle.exact_num.specs.Views.{shown_frac}
use Rattle.exact_pivots.proofs.factors.Factors.push.Goals as goal

pub returns-then-num-eq0-clause-factor : goal.returns-then-num-eq0-clause-factor
returns-then-num-eq0-clause-factor c =
    let zero : (shown_frac c.args.value).num ≡ pos 0 = zero_from_bits c.num.result c.args.value.num c.num.ensures c.args.value.short_num c.if-num-eq0.true in
    λ j. factor-nothing_pushed c.args.self.now.entries.items c.args.column c.args.value j c.requires zero

pub returns-then-num-eq0-clause-under : goal.returns-then-num-eq0-clause-under
returns-then-num-eq0-clause-under c = below-more c.args.self.now.entries.items c.args.column (c.args.column + 1) (omega arith) c.requires

pub invariant_of-self : goal.invariant_of-self
invariant_of-self c =
    let e : Entry = record { column = c.args.column; value = c.args.value } in
    let other : (shown_frac c.args.value).num ≢ pos 0 = other_from_bits c.num.result c.args.value.num c.num.ensures c.if-num-eq0.false in
    record { rising = rising-kept (is_ok c.push.result) c.args.self.now.entries.items c.push.new.self.items e c.push.ensures.items c.args.self.now.rising c.requires other }

pub returns-clause-factor : goal.returns-clause-factor
returns-clause-factor c =
    let e : Entry = record { column = c.args.column; value = c.args.value } in
    λ j. ap (λ (l : List Entry). factor_at l j) c.in_ok-push.ensures.items ∙ factor-push c.args.self.now.entries.items e j c.requires

pub returns-clause-under : goal.returns-clause-under
returns-clause-under c =
    let e : Entry = record { column = c.args.column; value = c.args.value } in
    subst (AreBelow (c.args.column + 1)) (sym c.in_ok-push.ensures.items) (below-push c.args.self.now.entries.items e c.requires)
