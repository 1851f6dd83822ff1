use Rattle.std.proofs.lemmas.Int.{to_z-of_z}
use Rattle.box_space.proofs.Halving.{cut-proper, cut-covers}
use Rattle.box_space.proofs.boxes.halves.Goals as goal

pub returns-clause-proper : goal.returns-clause-proper
returns-clause-proper c =
    let fits = c.ranges.cut in
    cut-proper c.args.b.now c.args.coord c.args.cut c.cut_at.result c.requires.low c.requires.high c.requires.inside.0 c.requires.inside.1 (simp to_z-of_z at c.cut_at.ensures)

pub returns-clause-covers : goal.returns-clause-covers
returns-clause-covers c =
    let fits = c.ranges.cut in
    cut-covers c.args.b.now c.args.coord c.args.cut c.cut_at.result c.requires.low c.requires.high c.requires.inside.0 c.requires.inside.1 (simp to_z-of_z at c.cut_at.ensures)
