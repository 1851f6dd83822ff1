use Rattle.std.proofs.Common.{List, ℕ, ap, subst, ◌∙◌}
use Rattle.edge_io.specs.Writing.{behind, TookFront}
use Rattle.pool_model.specs.Network.{net_of}
use Rattle.row_model.specs.Boxes.{root}
use Rattle.box_space.specs.Views.{shown_box}
use Rattle.program_text.proofs.RootText.{program_in-same, view-agrees}
use Rattle.program_text.proofs.formulation.write_formulation.Goals as goal

pub returns-in-Ok-clause-wrote : goal.returns-in-Ok-clause-wrote
returns-in-Ok-clause-wrote g c =
    let n = net_of c.args.net.now in
    let agree = view-agrees n c.in_ok-root.root c.view.result c.view.ensures.low c.view.ensures.high c.in_ok-root.ensures.root in
    c.in-Ok.ensures.wrote ∙ ap (λ (w : List ℕ). behind (g.K.Sink.taken c.args.out.now) w) (program_in-same n (shown_box c.view.result) (root n) c.args.form c.in_ok-root.ensures.limited agree)

pub returns-clause-wrote : goal.returns-clause-wrote
returns-clause-wrote g c =
    let n = net_of c.args.net.now in
    let agree = view-agrees n c.in_ok-root.root c.view.result c.view.ensures.low c.view.ensures.high c.in_ok-root.ensures.root in
    subst (λ (w : List ℕ). TookFront (g.K.Sink.taken c.args.out.now) w (g.K.Sink.taken c.write_program.new.out))
    (program_in-same n (shown_box c.view.result) (root n) c.args.form c.in_ok-root.ensures.limited agree) c.in-Err.ensures.wrote
