use Rattle.std.proofs.Common.{◌≡◌, List, [], length, get_or, arith, refl, ap, ◌∙◌, FitsSigned, rules}
use Rattle.std.specs.List.{flat_map}
use Rattle.std.proofs.lemmas.Int.{to_z-of_z}
use Rattle.std.proofs.lemmas.List.{take_all}
use mir.Syntax.{w128}
use Rattle.pool_model.specs.Network.{net_of}
use Rattle.box_space.specs.declared.table.Terms.{Terms}
use Rattle.box_space.specs.declared.table.Terms.TheVariants.{Nothing}
use Rattle.box_space.specs.Tables.{terms_of, most_of}
use Rattle.box_space.proofs.Segments.{whole_terms}
use Rattle.box_space.proofs.Writing.{more, more-room, known-at, short-terms, table-few}
use Rattle.box_space.proofs.rows.LinRow.write.Goals as goal

pub add_terms-requires-clause-known : goal.add_terms-requires-clause-known
add_terms-requires-clause-known c =
    let three : length c.args.table.now.terms ≡ 3 = omega arith in
    known-at (net_of c.args.net.now) c.args.table.now.terms c.loop-terms.terms-index Nothing (omega arith) c.requires.known

pub add_terms-requires-clause-room : goal.add_terms-requires-clause-room
add_terms-requires-clause-room c =
    let n = net_of c.args.net.now in
    let ts = c.args.table.now.terms in
    let three : length ts ≡ 3 = omega arith in
    omega (
      arith,
      more-room (terms_of n) (most_of n) [] c.loop-terms.self.terms ts c.loop-terms.terms-index Nothing (omega arith)
          (λ i lt. short-terms n (get_or ts i Nothing) (known-at n ts i Nothing lt c.requires.known)) c.loop-terms.invariant.terms,
      table-few n 0 ts c.sizes-counts.ensures.limited c.sizes-counts.ensures.paths c.requires.known c.requires.rising,
    )

pub loop-terms-preserved : goal.loop-terms-preserved
loop-terms-preserved c =
    let ts = c.args.table.now.terms in
    let three : length ts ≡ 3 = omega arith in
    record {
      terms = more (terms_of (net_of c.args.net.now)) [] c.loop-terms.self.terms c.add_terms.new.self.terms ts c.loop-terms.terms-index Nothing
          (omega arith) c.loop-terms.invariant.terms c.add_terms.ensures.terms;
      constant = c.add_terms.ensures.constant ∙ c.loop-terms.invariant.constant;
    }

pub returns : goal.returns
returns c =
    let n = net_of c.args.net.now in
    let ts = c.args.table.now.terms in
    let three : length ts ≡ 3 = omega arith in
    let fits : FitsSigned w128 c.args.table.now.constant = search rules in
    record {
      terms = c.loop-terms.invariant.terms ∙ ap (λ (us : List Terms). flat_map (terms_of n) us) (take_all c.loop-terms.terms-index ts (omega arith))
          ∙ whole_terms n ts c.requires.known c.requires.rising;
      constant = c.loop-terms.invariant.constant ∙ (simp to_z-of_z at c.set_constant.ensures.constant);
      kind = refl;
    }
