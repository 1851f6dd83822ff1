-- What is claimed, by its kind.
use Rattle.std.proofs.Common.{refl}
use Rattle.pool_model.specs.Network.{net_of}
use Rattle.proof_lines.specs.Runs.{moment}
use Rattle.cert_checker.specs.declared.opening.Opening.TheVariants as openings
use Rattle.cert_checker.proofs.Claiming.{opens-bare}
use Rattle.cert_checker.proofs.opening.read_opening.Goals as goal

pub returns-in-Bound : goal.returns-in-Bound
returns-in-Bound g c = opens-bare (net_of c.args.net.now) c.args.kind (moment c.args.reader.now (g.S.Shelf.told c.args.shelf.now)) openings.Bound c.in-Bound.is tt refl refl c.requires.ready

pub returns-in-NoPlan : goal.returns-in-NoPlan
returns-in-NoPlan g c = opens-bare (net_of c.args.net.now) c.args.kind (moment c.args.reader.now (g.S.Shelf.told c.args.shelf.now)) openings.NoPlan c.in-NoPlan.is tt refl refl c.requires.ready
