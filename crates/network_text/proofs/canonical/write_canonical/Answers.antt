use Rattle.serde_json.specs.View.{view}
use Rattle.network_text.proofs.CanonicalText.{text_is, short_is, read_is}
use Rattle.network_text.proofs.canonical.write_canonical.Goals as goal

pub returns-clause-text : goal.returns-clause-text
returns-clause-text c =
    text_is c.args.net.now c.network_value.ensures.made c.network_value.ensures.limited c.in_ok-to_vec.field-0.items (view c.in_ok-value.value) c.in_ok-value.ensures.data c.in_ok-to_vec.ensures.text

pub returns-clause-short : goal.returns-clause-short
returns-clause-short c =
    short_is c.args.net.now c.network_value.ensures.made c.network_value.ensures.limited c.in_ok-to_vec.field-0.items (view c.in_ok-value.value) c.in_ok-value.ensures.data c.in_ok-to_vec.ensures.text

pub returns-clause-read : goal.returns-clause-read
returns-clause-read c =
    read_is c.args.net.now c.network_value.ensures.made c.network_value.ensures.limited c.in_ok-to_vec.field-0.items (view c.in_ok-value.value) c.in_ok-value.ensures.data c.in_ok-to_vec.ensures.text
    c.in_ok-to_vec.ensures.utf8 c.in_ok-to_vec.ensures.reads_back
