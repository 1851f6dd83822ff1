use Rattle.std.proofs.Common.{◌∙◌, sym, arith}
use Rattle.pool_model.specs.Network.{net_of}
use Rattle.box_space.specs.Views.{shown_box}
use Rattle.tight_leaf.proofs.Rewriting.{box-program, count-low, narrow, ready}
use Rattle.tight_leaf.proofs.program.leaf_program.Goals as goal

pub bounded-requires-clause-narrow : goal.bounded-requires-clause-narrow
bounded-requires-clause-narrow c =
    narrow (net_of c.args.net.now) c.args.form (shown_box c.args.v.now) c.in_ok-lp.lp c.vars-count.ensures.limited c.requires.proper c.in_ok-lp.ensures

pub bounded-requires-clause-count : goal.bounded-requires-clause-count
bounded-requires-clause-count c =
    count-low (net_of c.args.net.now) c.args.form (shown_box c.args.v.now) c.in_ok-lp.lp c.vars-count.ensures.limited c.requires.proper c.in_ok-lp.ensures ∙ sym c.vars-count.ensures.count

pub returns-clause-program : goal.returns-clause-program
returns-clause-program c =
    box-program (net_of c.args.net.now) c.args.form (shown_box c.args.v.now) c.in_ok-lp.lp c.in_ok-program.program c.vars-count.ensures.limited c.requires.proper c.in_ok-lp.ensures
    c.in_ok-program.ensures.variables c.in_ok-program.ensures.rows

pub returns-clause-ready : goal.returns-clause-ready
returns-clause-ready c =
    ready (net_of c.args.net.now) c.args.form (shown_box c.args.v.now) c.in_ok-lp.lp c.in_ok-program.program c.vars-count.ensures.limited c.requires.proper c.in_ok-lp.ensures
    c.in_ok-program.ensures.variables c.in_ok-program.ensures.rows (omega (arith, c.vars-count.ensures.count, c.vars-count.ensures.small))
