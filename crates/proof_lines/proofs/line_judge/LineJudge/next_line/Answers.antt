-- The next line, in its place or not, and its proof in order or not.
use Rattle.std.proofs.Common.{◌≡◌, ◌-◌, ◌+◌, ◌<◌, ◌≤◌, ℕ, List, [], ◌∷◌, ◌++◌, length, Ok, Err, sym, ap, subst, ◌∙◌}
use Rattle.std.proofs.lemmas.Result.{err_from_is_err_and}
use Rattle.pool_model.specs.Network.{Net, net_of}
use Rattle.row_model.specs.Trees.{Split, nodes}
use Rattle.cert_format.specs.declared.reading.Kind.{Kind}
use Rattle.cert_items.specs.declared.items.State.{State}
use Rattle.cert_stream.specs.Items.{parts_left}
use Rattle.proof_lines.specs.Grammar.{head_item, behind_item}
use Rattle.cert_format.specs.Cert.{NodeProof}
use Rattle.proof_lines.specs.Lines.{AreLinesTaken, ArePlacedTo}
use Rattle.proof_lines.proofs.Placing.{line_of, one-line}
use Rattle.proof_lines.specs.Parts.{IsWrongLineList}
use Rattle.proof_lines.specs.Runs.{Moment, moment, IsReady}
use Rattle.proof_lines.proofs.Judged.{taken-wrong, taken-next, taken-more, taken-placed, taken-refused}
use Rattle.proof_lines.proofs.States.{head-left}
use Rattle.proof_lines.proofs.Running.{failed-halts, failed-then, run-then}
use Rattle.proof_lines.proofs.line_judge.LineJudge.next_line.Goals as goal

pub returns-in_err-line-clause-taken : goal.returns-in_err-line-clause-taken
returns-in_err-line-clause-taken g c =
    let n : Net = net_of c.args.net.now in
    let j : Moment = moment c.args.reader.now (g.S.Shelf.told c.args.shelf.now) in
    let h : Moment = moment c.head.new.reader (g.S.Shelf.told c.head.new.shelf) in
    let p = err_from_is_err_and c.from_residual.result c.from_residual.ensures.1 in
    rw (p.1, p.2) (λ kind m are.
    failed-halts (IsWrongLineList n c.args.tree.now.list c.args.count) m h c.in_err-line.field-0.0 (failed-then m j h _ c.in_err-line.field-0.0 are.run c.in_err-line.ensures))

pub returns-in_err-least-clause-taken : goal.returns-in_err-least-clause-taken
returns-in_err-least-clause-taken g c =
    let n : Net = net_of c.args.net.now in
    let list : List Split = c.args.tree.now.list in
    let j : Moment = moment c.args.reader.now (g.S.Shelf.told c.args.shelf.now) in
    let h : Moment = moment c.head.new.reader (g.S.Shelf.told c.head.new.shelf) in
    let count = c.args.count in
    let k = c.args.k in
    let p = err_from_is_err_and c.from_residual-in_err-least.result c.from_residual-in_err-least.ensures.1 in
    rw (p.1, p.2, c.in_err-least.ensures.place) (λ kind m are.
    let line = c.in_ok-line.line in
    let asks = are.ready.at ∙ head-left kind count k c.requires.there in
    let headed : IsReady h (parts_left kind line.count (count - (k + 1))) = subst (λ (s : State). IsReady h (behind_item s (head_item line))) asks c.in_ok-line.ensures.1 in
    let wrong = λ (x : (c.args.least ≤ line.node) × (line.node < nodes list)). c.in_err-least.ensures.wrong (x.0, subst (λ (i : ℕ). line.node < i) (sym c.node_count-nodes.ensures) x.1) in
    taken-wrong n list kind m j h count k c.args.least line.node line.scale line.count c.args.self.now.judge are c.requires.there c.in_ok-line.ensures.0 headed wrong)

pub read_parts-requires-clause-asks : goal.read_parts-requires-clause-asks
read_parts-requires-clause-asks g c =
    let h : Moment = moment c.head.new.reader (g.S.Shelf.told c.head.new.shelf) in
    let count = c.args.count in
    let k = c.args.k in
    let kind : Kind = c.requires.asks.0 in
    let line = c.in_ok-line.line in
    let asks = c.requires.asks.1.at ∙ head-left kind count k c.requires.there in
    let headed : IsReady h (parts_left kind line.count (count - (k + 1))) = subst (λ (s : State). IsReady h (behind_item s (head_item line))) asks c.in_ok-line.ensures.1 in
    (kind, count - (k + 1), headed)

pub returns-in_err-excess-clause-taken : goal.returns-in_err-excess-clause-taken
returns-in_err-excess-clause-taken g c =
    let n : Net = net_of c.args.net.now in
    let j : Moment = moment c.args.reader.now (g.S.Shelf.told c.args.shelf.now) in
    let h : Moment = moment c.head.new.reader (g.S.Shelf.told c.head.new.shelf) in
    let l : Moment = moment c.read_parts.new.reader (g.S.Shelf.told c.read_parts.new.shelf) in
    let count = c.args.count in
    let k = c.args.k in
    let p = err_from_is_err_and c.from_residual-in_err-excess.result c.from_residual-in_err-excess.ensures.1 in
    rw (p.1, p.2) (λ kind m are.
    let line = c.in_ok-line.line in
    let asks = are.ready.at ∙ head-left kind count k c.requires.there in
    let headed : IsReady h (parts_left kind line.count (count - (k + 1))) = subst (λ (s : State). IsReady h (behind_item s (head_item line))) asks c.in_ok-line.ensures.1 in
    failed-halts (IsWrongLineList n c.args.tree.now.list count) m l c.in_err-excess.field-0.0
    (failed-then m h l _ c.in_err-excess.field-0.0 (run-then m j h _ _ are.run c.in_ok-line.ensures.0) (c.in_err-excess.ensures.read kind (count - (k + 1)) headed.at)))

pub check_places-requires-clause-asks : goal.check_places-requires-clause-asks
check_places-requires-clause-asks g c =
    let h : Moment = moment c.head.new.reader (g.S.Shelf.told c.head.new.shelf) in
    let count = c.args.count in
    let k = c.args.k in
    let kind : Kind = c.requires.asks.0 in
    let line = c.in_ok-line.line in
    let asks = c.requires.asks.1.at ∙ head-left kind count k c.requires.there in
    let headed : IsReady h (parts_left kind line.count (count - (k + 1))) = subst (λ (s : State). IsReady h (behind_item s (head_item line))) asks c.in_ok-line.ensures.1 in
    (kind, (c.in_ok-excess.ensures.read kind (count - (k + 1)) headed.at).ready)

pub returns-in_err-check_places-clause-taken : goal.returns-in_err-check_places-clause-taken
returns-in_err-check_places-clause-taken g c =
    let n : Net = net_of c.args.net.now in
    let list : List Split = c.args.tree.now.list in
    let j : Moment = moment c.args.reader.now (g.S.Shelf.told c.args.shelf.now) in
    let h : Moment = moment c.head.new.reader (g.S.Shelf.told c.head.new.shelf) in
    let l : Moment = moment c.read_parts.new.reader (g.S.Shelf.told c.read_parts.new.shelf) in
    let q : Moment = moment c.check_places.new.reader (g.S.Shelf.told c.check_places.new.shelf) in
    let count = c.args.count in
    let k = c.args.k in
    let line = c.in_ok-line.line in
    let right = c.in_ok-least.ensures.placed in
    let there : line.node < nodes list = subst (λ (i : ℕ). line.node < i) c.node_count-nodes.ensures right.1 in
    let p = err_from_is_err_and c.from_residual-in_err-check_places.result c.from_residual-in_err-check_places.ensures.1 in
    rw (p.1, p.2) (λ kind m are.
    let asks = are.ready.at ∙ head-left kind count k c.requires.there in
    let headed : IsReady h (parts_left kind line.count (count - (k + 1))) = subst (λ (s : State). IsReady h (behind_item s (head_item line))) asks c.in_ok-line.ensures.1 in
    let read = c.in_ok-excess.ensures.read kind (count - (k + 1)) headed.at in
    let kept = read.kept n (sym c.requires.room.rows_are) in
    let so_far : List NodeProof = are.lines ++ line_of line.node line.scale read.parts ∷ [] in
    let placed : ArePlacedTo list so_far c.in_ok-least.least = subst (ArePlacedTo list so_far) (sym c.in_ok-least.ensures.next)
    (taken-placed n list kind m j h count k c.args.least line.node line.scale line.count c.args.self.now.judge are c.requires.there c.in_ok-line.ensures.0 l
    read.parts read.long read.run right.0 there) in
    let long : length so_far ≡ k + 1 = one-line are.lines (line_of line.node line.scale read.parts) ∙ ap (λ (i : ℕ). i + 1) are.long in
    taken-refused n list kind m j h count k c.args.least line.node line.scale line.count c.args.self.now.judge are c.requires.there c.in_ok-line.ensures.0 l read.parts read.long read.run right.0 there
    c.in_ok-excess.excess c.read_parts.new.self c.take.new.self c.in-Err.refusal q (Err c.in_err-check_places.field-0.0) c.in_ok-excess.ensures.judge c.requires.next
    c.requires.bounds kept c.in-Err.ensures.taken
    (c.in_err-check_places.ensures kind list so_far read.ready.at c.node_count-nodes.ensures long placed))

pub returns-in-Err-clause-taken : goal.returns-in-Err-clause-taken
returns-in-Err-clause-taken g c =
    let n : Net = net_of c.args.net.now in
    let list : List Split = c.args.tree.now.list in
    let j : Moment = moment c.args.reader.now (g.S.Shelf.told c.args.shelf.now) in
    let h : Moment = moment c.head.new.reader (g.S.Shelf.told c.head.new.shelf) in
    let l : Moment = moment c.read_parts.new.reader (g.S.Shelf.told c.read_parts.new.shelf) in
    let q : Moment = moment c.check_places.new.reader (g.S.Shelf.told c.check_places.new.shelf) in
    let count = c.args.count in
    let k = c.args.k in
    let line = c.in_ok-line.line in
    let right = c.in_ok-least.ensures.placed in
    let there : line.node < nodes list = subst (λ (i : ℕ). line.node < i) c.node_count-nodes.ensures right.1 in
    rw c.from.ensures (λ kind m are.
    let asks = are.ready.at ∙ head-left kind count k c.requires.there in
    let headed : IsReady h (parts_left kind line.count (count - (k + 1))) = subst (λ (s : State). IsReady h (behind_item s (head_item line))) asks c.in_ok-line.ensures.1 in
    let read = c.in_ok-excess.ensures.read kind (count - (k + 1)) headed.at in
    let kept = read.kept n (sym c.requires.room.rows_are) in
    let so_far : List NodeProof = are.lines ++ line_of line.node line.scale read.parts ∷ [] in
    let placed : ArePlacedTo list so_far c.in_ok-least.least = subst (ArePlacedTo list so_far) (sym c.in_ok-least.ensures.next)
    (taken-placed n list kind m j h count k c.args.least line.node line.scale line.count c.args.self.now.judge are c.requires.there c.in_ok-line.ensures.0 l
    read.parts read.long read.run right.0 there) in
    let long : length so_far ≡ k + 1 = one-line are.lines (line_of line.node line.scale read.parts) ∙ ap (λ (i : ℕ). i + 1) are.long in
    taken-refused n list kind m j h count k c.args.least line.node line.scale line.count c.args.self.now.judge are c.requires.there c.in_ok-line.ensures.0 l read.parts read.long read.run right.0 there
    c.in_ok-excess.excess c.read_parts.new.self c.take.new.self c.in-Err.refusal q (Ok tt) c.in_ok-excess.ensures.judge c.requires.next c.requires.bounds kept c.in-Err.ensures.taken
    (c.in_ok-check_places.ensures kind list so_far read.ready.at c.node_count-nodes.ensures long placed))

pub returns-clause-taken : goal.returns-clause-taken
returns-clause-taken g c =
    let n : Net = net_of c.args.net.now in
    let list : List Split = c.args.tree.now.list in
    let j : Moment = moment c.args.reader.now (g.S.Shelf.told c.args.shelf.now) in
    let h : Moment = moment c.head.new.reader (g.S.Shelf.told c.head.new.shelf) in
    let l : Moment = moment c.read_parts.new.reader (g.S.Shelf.told c.read_parts.new.shelf) in
    let count = c.args.count in
    let k = c.args.k in
    let line = c.in_ok-line.line in
    let right = c.in_ok-least.ensures.placed in
    let there : line.node < nodes list = subst (λ (i : ℕ). line.node < i) c.node_count-nodes.ensures right.1 in
    λ kind m are.
    let asks = are.ready.at ∙ head-left kind count k c.requires.there in
    let headed : IsReady h (parts_left kind line.count (count - (k + 1))) = subst (λ (s : State). IsReady h (behind_item s (head_item line))) asks c.in_ok-line.ensures.1 in
    let read = c.in_ok-excess.ensures.read kind (count - (k + 1)) headed.at in
    let kept = read.kept n (sym c.requires.room.rows_are) in
    subst (λ (i : ℕ). AreLinesTaken n list kind m l count (k + 1) i c.take.new.self.judge) (sym c.in_ok-least.ensures.next)
    (taken-more n list kind m j h count k c.args.least line.node line.scale line.count c.args.self.now.judge are c.requires.there c.in_ok-line.ensures.0 l read.parts
    read.long read.run right.0 there c.take.new.self.judge read.ready
    (λ all more e placed. c.in_default.ensures.taken all
    (taken-next n list kind m j h count k c.args.least line.node line.scale line.count c.args.self.now.judge are c.requires.there c.in_ok-line.ensures.0 l read.parts
    read.long read.run right.0 there c.in_ok-excess.excess c.read_parts.new.self c.in_ok-excess.ensures.judge c.requires.next c.requires.bounds kept all more e placed)))
