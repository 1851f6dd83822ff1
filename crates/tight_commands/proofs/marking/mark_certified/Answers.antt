use Rattle.pool_model.specs.Network.{net_of}
use Rattle.cert_format.specs.Views.{shown_cert}
use Rattle.run_status.specs.declared.status.Status.TheVariants.{Done}
use Rattle.tight_texts.specs.Texts.{marks_text}
use Rattle.tight_texts.specs.Views.{shown_marks}
use Rattle.tight_commands.proofs.ShortText.{not-large, text-of}
use Rattle.tight_commands.proofs.marking.mark_certified.Goals as goal

pub returns-in-Ok-write_tight-clause-took : goal.returns-in-Ok-write_tight-clause-took
returns-in-Ok-write_tight-clause-took g c =
    let size = not-large (net_of c.args.network.now) (shown_cert c.args.certificate.now) c.is_large.result c.is_large.ensures c.if-is_large.false in
    let text = text-of (net_of c.args.network.now) (shown_cert c.args.certificate.now) c.in-Ok.text c.args.form c.args.pivots c.requires size c.in-Ok.ensures.marks c.in-Ok.ensures.spelled in
    (marks_text (shown_marks c.in-Ok.text), text, c.in-Ok-write_tight.ensures.wrote)

pub returns-in-Ok-clause-took : goal.returns-in-Ok-clause-took
returns-in-Ok-clause-took g c =
    let size = not-large (net_of c.args.network.now) (shown_cert c.args.certificate.now) c.is_large.result c.is_large.ensures c.if-is_large.false in
    let text = text-of (net_of c.args.network.now) (shown_cert c.args.certificate.now) c.in-Ok.text c.args.form c.args.pivots c.requires size c.in-Ok.ensures.marks c.in-Ok.ensures.spelled in
    (marks_text (shown_marks c.in-Ok.text), (Done, text), c.in-Err-write_tight.ensures.wrote)
