use Rattle.std.proofs.Common.{List, [], ◌∷◌, All, Option, IfSome, sym, subst, ◌∙◌}
use Rattle.std.proofs.lemmas.List.Elements.{All-append, All-cons, All-nil}
use Rattle.pool_model.specs.Network.{net_of}
use Rattle.box_space.specs.declared.coordinates.Form.{Form}
use Rattle.leaf_cuts.specs.declared.halving.Halving.{Halving}
use Rattle.leaf_cuts.specs.Halvings.{IsHalvingOf}
use Rattle.leaf_cuts.proofs.bench.Bench.halved.Goals as goal
use Rattle.leaf_cuts.proofs.bench.Bench.halved.Goals.{
  then-race-look+then-coord-coords+then-can_cut+in_ok-found+in-Some+in_ok-push,
  then-race-look+then-coord-coords+then-can_cut+in_ok-found+in_default,
  else-race-look,
}

pub loop-coord-preserved : goal.loop-coord-preserved
loop-coord-preserved c =
    let n = net_of c.args.net.now in
    let form = c.args.self.now.form in
    let least = c.args.leaf.now.bound in
    let halvings = c.loop-coord.halvings.items in
    elim c.if-race-look.branch [
      | then-race-look+then-coord-coords+then-can_cut+in_ok-found+in-Some+in_ok-push w ↦ rw w.self-is (rw w.halvings-is record {
        bench = w.halve_to_lead.ensures.bench;
        form = w.halve_to_lead.ensures.form ∙ c.loop-coord.invariant.form;
        halvings = λ b is.
            let halving = w.in-Some.halving in
            let found = subst (λ (o : Option Halving). IfSome o (IsHalvingOf n c.loop-coord.self.form b least)) w.in-Some.is (w.in_ok-found.ensures.halving b is) in
            let this = subst (λ (f : Form). IsHalvingOf n f b least halving) c.loop-coord.invariant.form found in
            subst (λ (xs : List Halving). All (IsHalvingOf n form b least) xs) (sym w.in_ok-push.ensures.items)
            (All-append (IsHalvingOf n form b least) halvings (halving ∷ []) (c.loop-coord.invariant.halvings b is)
            (All-cons (IsHalvingOf n form b least) halving [] this (All-nil (IsHalvingOf n form b least))));
      })
      | then-race-look+then-coord-coords+then-can_cut+in_ok-found+in_default w ↦ rw w.self-is (rw w.halvings-is record {
        bench = w.halve_to_lead.ensures.bench;
        form = w.halve_to_lead.ensures.form ∙ c.loop-coord.invariant.form;
        halvings = c.loop-coord.invariant.halvings;
      })
      | else-race-look w ↦ rw w.self-is (rw w.halvings-is c.loop-coord.invariant)
    ]
