use Rattle.std.proofs.Common.{false, map}
use Rattle.std.proofs.lemmas.Result.{err_from_is_err_and}
use Rattle.cert_text.specs.Reading.{each_at}
use Rattle.cert_text.proofs.Each.{each-push, each-end}
use Rattle.tight_texts.specs.Views.{shown_leaf}
use Rattle.tight_texts.specs.Reading.{leaf_at}
use Rattle.tight_texts.specs.Views.{place_of}
use Rattle.cert_text.proofs.Outcomes.{each-halts}
use Rattle.tight_texts.proofs.reading.leaf_list.Goals as goal

pub returns-in_err-leaf : goal.returns-in_err-leaf
returns-in_err-leaf c =
    let p = err_from_is_err_and c.from_residual.result c.from_residual.ensures.1 in
    rw (p.1, p.2) (each-halts (λ _. leaf_at) c.args.n c.loop.counter (map shown_leaf c.loop.leaves.items)
    (place_of c.loop.src) c.in_err-leaf.field-0.0 false (each_at (λ _. leaf_at) c.args.n (place_of c.args.src.now)) c.loop-test.true
    c.in_err-leaf.ensures c.loop.invariant)

pub loop-preserved : goal.loop-preserved
loop-preserved c =
    each-push shown_leaf (λ _. leaf_at) c.args.n c.loop.counter c.loop.leaves.items c.push.new.self.items (place_of c.loop.src)
    (place_of c.leaf.new.src) c.in_ok-leaf.leaf (each_at (λ _. leaf_at) c.args.n (place_of c.args.src.now)) c.in_ok-push.ensures.items c.loop-test.true
    c.in_ok-leaf.ensures c.loop.invariant

pub returns : goal.returns
returns c = each-end (λ _. leaf_at) c.args.n c.loop.counter (map shown_leaf c.loop.leaves.items) (place_of c.loop.src)
    (each_at (λ _. leaf_at) c.args.n (place_of c.args.src.now)) c.loop-test.false c.loop.invariant
