-- The jobs that a tree hands out are on leaves of it.
use Rattle.std.proofs.Common.{◌≡◌, ◌≢◌, ℕ, ◌<◌, ◌≤◌, if◌then◌else◌, List, length, get_or, Bool, true, false, Option, None, ℤ, arith, refl, sym, ap, subst, ◌∙◌}
use Rattle.std.proofs.lemmas.List.{get_or-take, length-take}
use Rattle.std.proofs.lemmas.List.Elements.{Contains-get_or}
use Rattle.pool_model.specs.Network.{Net}
use Rattle.row_model.specs.Trees.{Tree, is_cut, node_bound, IsLeaf}
use Rattle.box_tree.specs.Open.{MayHold}
use Rattle.work_units.specs.Units.{node_of}
use Rattle.work_units.specs.Handed.{AreFirstJobs}
use Rattle.work_units.specs.declared.job.Job.{Job}

uncut : (b : Bool) (o : Option ℤ) → (if b then None else o) ≢ None → b ≡ false
uncut false o h = refl
uncut true o h = absurd (h refl)

-- a node that may hold a plan is a leaf
open-leaf : (n : Net) (tree : Tree) (node : ℕ) → MayHold n tree node → IsLeaf tree.splits node
open-leaf n tree node may = record { there = may.there; uncut = uncut (is_cut tree.splits node) (node_bound n tree node) may.bounded }

pub first-on-leaves : (n : Net) (tree : Tree) (most : ℕ) (jobs : List Job) → AreFirstJobs n tree most jobs → (k : ℕ) → k < length jobs → IsLeaf tree.splits (node_of jobs k)
first-on-leaves n tree most jobs is k h =
    let all = is.first.all in
    let taken = length-take most all in
    let long = ap (λ (xs : List ℕ). length xs) is.first.first in
    let few : length is.leaves ≤ most = omega (arith, long, taken) in
    let place : k < length all = omega (arith, is.each.many, long, taken, h) in
    let node : node_of jobs k ≡ get_or all k 0 =
    ap (λ (j : Job). j.node) (is.each.each k (omega (arith, is.each.many, h)))
    ∙ ap (λ (xs : List ℕ). get_or xs k 0) is.first.first
    ∙ get_or-take most all k 0 (omega (arith, few, is.each.many, h)) in
    subst (λ (m : ℕ). IsLeaf tree.splits m) (sym node) (open-leaf n tree (get_or all k 0) ((is.first.are.members (get_or all k 0)).0 (Contains-get_or all k 0 place)))
