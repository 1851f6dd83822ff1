use Rattle.std.proofs.Common.{◌≡◌, ◌∙◌, ◌&&◌, sym, true, false, not}
use Rattle.std.specs.Prelude.{count_by, is_some, nat_le}
use Rattle.std.specs.List.{list_any, list_all}
use Rattle.std.specs.Option.{option_map_or}
use Rattle.std.specs.Str.{bytes_eq}
use Rattle.command_items.proofs.Lists.{fits_shown}
use Rattle.command_items.proofs.Walks.{and_false}
use Rattle.command_items.proofs.items.fits.Goals as goal

pub returns-then-not-has_count : goal.returns-then-not-has_count
returns-then-not-has_count c =
    let off : (nat_le c.args.least (count_by (λ x. not (is_some x.name)) c.args.items.now) && nat_le (count_by (λ x. not (is_some x.name)) c.args.items.now) c.args.most) ≡ false = cc in
    rw off at (fits_shown c.args.least c.args.most c.args.options.now c.args.items.now)

pub returns-then-not-has_only : goal.returns-then-not-has_only
returns-then-not-has_only c =
    let off : list_all (λ x. option_map_or (λ n. list_any (λ o. bytes_eq o.now n.now) c.args.options.now) x.name true) c.args.items.now ≡ false = cc in
    sym (and_false (nat_le c.args.least (count_by (λ x. not (is_some x.name)) c.args.items.now) && nat_le (count_by (λ x. not (is_some x.name)) c.args.items.now) c.args.most))
    ∙ rw off at (fits_shown c.args.least c.args.most c.args.options.now c.args.items.now)

pub returns : goal.returns
returns c =
    let on : (nat_le c.args.least (count_by (λ x. not (is_some x.name)) c.args.items.now) && nat_le (count_by (λ x. not (is_some x.name)) c.args.items.now) c.args.most) ≡ true = cc in
    let only : list_all (λ x. option_map_or (λ n. list_any (λ o. bytes_eq o.now n.now) c.args.options.now) x.name true) c.args.items.now ≡ true = cc in
    c.once.ensures ∙ rw (on, only) at (fits_shown c.args.least c.args.most c.args.options.now c.args.items.now)
