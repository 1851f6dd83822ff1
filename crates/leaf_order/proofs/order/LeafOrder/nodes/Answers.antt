use Rattle.std.proofs.Common.{◌≡◌, List, Option, length, sym, ap, subst, ◌∙◌, rules}
use Rattle.std.specs.Map.Iter.{TakesFirst, deref}
use Rattle.std.proofs.lemmas.Iterator.{YieldsList, YieldsList-from_take, YieldsList-from_map, items_from_collect}
use Rattle.std.proofs.lemmas.Iterator.Consumers.{YieldsList-from_shown}
use Rattle.leaf_order.specs.declared.leaf.OpenLeaf.{OpenLeaf}
use Rattle.leaf_order.proofs.order.LeafOrder.nodes.Goals as goal

-- the same, of an iterator that is the same
yields-at : {S A B : Type 0} {steps : S → Option A → S → Type 0} {v : A → B} {ys : List B} {s t : S} → t ≡ s → YieldsList steps v s ys → YieldsList steps v t ys
yields-at {steps = steps} {v = v} {ys = ys} e h = subst (λ s. YieldsList steps v s ys) (sym e) h

pub returns-clause-nodes : goal.returns-clause-nodes
returns-clause-nodes c =
    let all : YieldsList (TakesFirst deref) deref c.iter.result c.iter.result = YieldsList-from_shown (TakesFirst deref) deref (λ s. s) (λ s t h. ap (λ xs. length xs) h.0)
    (λ s x t h. h) c.iter.result in
    let begun : YieldsList (TakesFirst deref) deref c.iter.result c.args.self.now = subst (λ (xs : List OpenLeaf). YieldsList (TakesFirst deref) deref c.iter.result xs)
    (c.iter.ensures.rest ∙ c.self.view_is) all in
    items_from_collect c.collect.result c.collect.ensures.ran
    (YieldsList-from_map _ (λ (leaf : OpenLeaf). leaf.node)
    (yields-at c.map.ensures.source (YieldsList-from_take c.args.most (yields-at c.take.ensures.source begun) c.take.ensures.count)) c.map.ensures.closure
    (λ x r q k. search rules))
