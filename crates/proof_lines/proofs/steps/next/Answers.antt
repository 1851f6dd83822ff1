-- What the reader answers, as the item that came or the fault.
use Rattle.proof_lines.specs.Runs.{Moment, moment}
use Rattle.proof_lines.proofs.Coming.{call-came}
use Rattle.proof_lines.proofs.steps.next.Goals as goal

pub returns : goal.returns
returns g c =
    let m : Moment = moment c.args.reader.now (g.S.Shelf.told c.args.shelf.now) in
    let k : Moment = moment c.next_item.new.self (g.S.Shelf.told c.next_item.new.shelf) in
    let e = c.next_item.ensures in
    call-came m k c.next_item.result c.requires.going c.requires.used_up e.kept
    e.item e.counted e.text e.too_long e.took_more e.read e.quiet
