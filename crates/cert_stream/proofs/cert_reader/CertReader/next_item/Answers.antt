use Rattle.std.proofs.Common.{rules, ◌≡◌, Err, ap, subst, ◌∙◌}
use Rattle.cert_text.specs.declared.fault.TextFault.{TextFault}
use Rattle.cert_stream.specs.declared.fault.ItemFault.TheVariants as faults
use Rattle.cert_items.specs.declared.items.Item.{Item}
use Rattle.cert_items.specs.Items.{shown_item}
use Rattle.cert_stream.specs.Streams.{Reader, ReaderTook}
use Rattle.cert_stream.proofs.NextItem.{Stepped, gives-item, gives-last, gives-fault, gives-behind, same-text}
use Rattle.cert_stream.proofs.cert_reader.CertReader.next_item.Goals as goal

pub returns-in_err-close-in-Ok-clause-text : goal.returns-in_err-close-in-Ok-clause-text
returns-in_err-close-in-Ok-clause-text g c = λ f e.
    let told : c.close.result ≡ Err (faults.Text f) = search rules in
    let stepped : Stepped c.fill.new.self c.step.new.self (shown_item c.in-Ok.item) =
    record { reads = c.in-Ok.ensures.item; some = c.in-Ok.ensures.some; left = c.step.ensures.left; ended = c.step.ensures.ended } in
    gives-behind f (shown_item c.in-Ok.item) c.requires.going c.in_ok-fill.ensures.filled stepped (c.has_ended.ensures.ended c.if-has_ended.true) (c.close.ensures.text f told)

pub returns-in_ok-close-in-Ok-clause-item : goal.returns-in_ok-close-in-Ok-clause-item
returns-in_ok-close-in-Ok-clause-item g c =
    let stepped : Stepped c.fill.new.self c.step.new.self (shown_item c.in-Ok.item) =
    record { reads = c.in-Ok.ensures.item; some = c.in-Ok.ensures.some; left = c.step.ensures.left; ended = c.step.ensures.ended } in
    gives-last c.in-Ok.item c.in_ok-fill.ensures.filled stepped c.in_ok-close-in-Ok.ensures.filled c.in_ok-close-in-Ok.ensures.at_end

pub returns-in-Ok-2-clause-item : goal.returns-in-Ok-2-clause-item
returns-in-Ok-2-clause-item g c =
    let stepped : Stepped c.fill.new.self c.step.new.self (shown_item c.in-Ok.item) =
    record { reads = c.in-Ok.ensures.item; some = c.in-Ok.ensures.some; left = c.step.ensures.left; ended = c.step.ensures.ended } in
    gives-item c.in-Ok.item c.in_ok-fill.ensures.filled stepped (c.has_ended.ensures.going c.if-has_ended.false)

pub returns-in_ok-drain-in-Err-clause-text : goal.returns-in_ok-drain-in-Err-clause-text
returns-in_ok-drain-in-Err-clause-text g c = λ f e.
    let same : c.in-Err.fault ≡ f = same-text Item c.in-Err.fault f e in
    let took : ReaderTook c.fill.new.self (g.S.Shelf.told c.fill.new.shelf).rest c.drain.new.self (g.S.Shelf.told c.drain.new.shelf).rest =
    subst (λ (r : Reader). ReaderTook r (g.S.Shelf.told c.fill.new.shelf).rest c.drain.new.self (g.S.Shelf.told c.drain.new.shelf).rest) c.in-Err.ensures.unchanged c.in_ok-drain-in-Err.ensures.took in
    gives-fault f c.requires.going c.in_ok-fill.ensures.filled (λ more m. c.in-Err.ensures.fault more m ∙ ap (λ (x : TextFault). Err x.line) same) took c.in_ok-drain-in-Err.ensures.ended
