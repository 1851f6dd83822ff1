use Rattle.std.proofs.Common.{◌≡◌, ℕ, ◌<◌, ◌≤◌, List, All, map, take, length, get_or, ℤ, ◌-ℤ◌, FitsSigned, Result, Ok, true, arith, rules, ap, sym, subst, below_more}
use Rattle.std.proofs.lemmas.List.{length-map, take_all}
use Rattle.std.proofs.lemmas.Result.{err_from_is_err_and}
use Rattle.std.proofs.lemmas.Int.{to_z-of_z}
use mir.Syntax.{w128}
use Rattle.exact_num.specs.declared.weight.Wide.{Wide}
use Rattle.pool_model.specs.Network.{Net, net_of}
use Rattle.row_model.specs.Boxes.{Box}
use Rattle.row_model.specs.Catalogue.{Kind, rows}
use Rattle.row_model.specs.Multipliers.{IsSigned}
use Rattle.box_space.specs.Views.{shown_part, shown_kind, shown_proof, shown_box}
use Rattle.linear_program.specs.declared.multipliers.Part.{Part}
use Rattle.row_book.specs.PartRows.{kind_at}
use Rattle.row_book.specs.PartSums.{AreInOrder}
use Rattle.row_book.specs.Passing.{AreNarrow, AreSums, IsAdded}
use Rattle.row_book.specs.declared.sums.Sums.{Sums}
use Rattle.row_book.proofs.AllParts.{no_part, at_part, all_parts, signed_same}
use Rattle.row_book.proofs.FirstFaults.{first-sign, first-zero, first-wide}
use Rattle.row_book.proofs.Passing.{sums-room, sums-more, sums-light, sums-number, sums-fit}
use Rattle.row_book.proofs.summing.number_by.Goals as goal

-- all multipliers have their rows' signs, where each of the parts that were read has
all_signed : (kinds : ℕ → Kind) (parts read : List Part) (k : ℕ) → read ≡ parts → length read ≤ k
    → ((i : ℕ) → i < k → IsSigned (kinds (get_or parts i no_part).row) (get_or parts i no_part).mult)
    → All (λ q. IsSigned (kinds q.row) q.mult) (map shown_part parts)
all_signed kinds parts read k e past h =
    all_parts (λ q. IsSigned (kinds q.row) q.mult) parts (λ i lt. h i (omega (arith, ap length e)))

-- the sums of all parts, where all were read
all_summed : (n : Net) (b : Box) (scale : ℕ) (parts read : List Part) (k : ℕ) (rests : List ℤ) (sums : Result Sums Wide) → read ≡ parts → length read ≤ k
    → AreSums n b scale (take k (map shown_part parts)) rests sums → AreSums n b scale (map shown_part parts) rests sums
all_summed n b scale parts read k rests sums e past h =
    subst (λ ps. AreSums n b scale ps rests sums) (take_all k (map shown_part parts) (omega (arith, length-map parts shown_part, ap length e))) h

all_narrow : (n : Net) (b : Box) (scale : ℕ) (parts read : List Part) (k : ℕ) (rests : List ℤ) (sums : Result Sums Wide) (narrow : Sums) → read ≡ parts → length read ≤ k
    → sums ≡ Ok narrow → AreSums n b scale (take k (map shown_part parts)) rests sums → AreNarrow n b scale (map shown_part parts) rests narrow
all_narrow n b scale parts read k rests sums narrow e past is h =
    subst (AreSums n b scale (map shown_part parts) rests) is (all_summed n b scale parts read k rests sums e past h)

pub row_at-kind-requires-clause-known : goal.row_at-kind-requires-clause-known
row_at-kind-requires-clause-known c =
    let k = c.loop-part.part-index in
    let same = c.deref-part-items.ensures.value in
    let inside : k < length c.args.proof.now.parts.items = omega (arith, ap length same) in
    omega (
      arith,
      at_part (λ q. q.row < rows (net_of c.args.net.now)) c.args.proof.now.parts.items k inside c.requires.known,
      ap (λ xs. (get_or xs k no_part).row) same,
    )

pub returns-then-not-may_stand-clause-fault : goal.returns-then-not-may_stand-clause-fault
returns-then-not-may_stand-clause-fault c =
    let n = net_of c.args.net.now in
    let b = shown_box c.args.v.now in
    let parts = c.args.proof.now.parts.items in
    let read = c.deref-part-items.result.now in
    let same = c.deref-part-items.ensures.value in
    let k = c.loop-part.part-index in
    let t : Part = get_or read k no_part in
    let inside : k < length parts = omega (arith, ap length same) in
    let back : ¬ IsSigned (shown_kind c.row_at-kind.result) t.mult =
    λ h. let yes : c.may_stand.result ≡ true = c.may_stand.ensures.1 h in cc in
    first-sign n b (shown_proof c.args.proof.now) c.requires.rising c.requires.known
    (λ all. back (subst (λ (kind : Kind). IsSigned kind t.mult) (sym c.row_at-kind.ensures.kind)
    (signed_same (kind_at n b) parts read k (sym same) (at_part (λ q. IsSigned (kind_at n b q.row) q.mult) parts k inside all))))

pub with_part-sums-requires-clause-room : goal.with_part-sums-requires-clause-room
with_part-sums-requires-clause-room c =
    let parts = c.args.proof.now.parts.items in
    let k = c.loop-part.part-index in
    let inside : k < length parts = omega (arith, ap length c.deref-part-items.ensures.value) in
    sums-room (net_of c.args.net.now) (shown_box c.args.v.now) c.args.proof.now.scale parts k inside
    c.loop-part.rests c.loop-part.sums c.requires.few c.loop-part.invariant.sums

pub loop-part-preserved : goal.loop-part-preserved
loop-part-preserved c =
    let n = net_of c.args.net.now in
    let b = shown_box c.args.v.now in
    let parts = c.args.proof.now.parts.items in
    let read = c.deref-part-items.result.now in
    let same = c.deref-part-items.ensures.value in
    let k = c.loop-part.part-index in
    let t : Part = get_or read k no_part in
    let inside : k < length parts = omega (arith, ap length same) in
    let rests = c.with_part-sums.new.rests in
    let sums = c.with_part-sums.result in
    record {
      signed = below_more _ _ c.loop-part.invariant.signed (signed_same (kind_at n b) read parts k same
          (subst (λ (kind : Kind). IsSigned kind t.mult) c.row_at-kind.ensures.kind (c.may_stand.ensures.0 c.if-not-may_stand.false)));
      sums = sums-more n b c.args.proof.now.scale parts k inside c.loop-part.rests rests c.loop-part.sums sums c.loop-part.invariant.sums
          (subst (λ (xs : List Part). IsAdded n b (shown_part (get_or xs k no_part)) c.loop-part.rests rests c.loop-part.sums sums)
          same c.with_part-sums.ensures);
    }

pub returns-then-not-are_nonzero-clause-fault : goal.returns-then-not-are_nonzero-clause-fault
returns-then-not-are_nonzero-clause-fault c =
    let n = net_of c.args.net.now in
    let b = shown_box c.args.v.now in
    first-zero n b (shown_proof c.args.proof.now) c.requires.rising c.requires.known
    (all_signed (kind_at n b) c.args.proof.now.parts.items c.deref-part-items.result.now c.loop-part.part-index
    c.deref-part-items.ensures.value c.loop-part-test.false c.loop-part.invariant.signed)
    (λ h. let yes : c.are_nonzero.result ≡ true = c.are_nonzero.ensures.1 h in cc)

pub returns-in_err-sums-clause-fault : goal.returns-in_err-sums-clause-fault
returns-in_err-sums-clause-fault c =
    let n = net_of c.args.net.now in
    let b = shown_box c.args.v.now in
    let parts = c.args.proof.now.parts.items in
    let same = c.deref-part-items.ensures.value in
    let k = c.loop-part.part-index in
    let order : AreInOrder n b (shown_proof c.args.proof.now) = record {
      rising = c.requires.rising;
      known = c.requires.known;
      signed = all_signed (kind_at n b) parts c.deref-part-items.result.now k same c.loop-part-test.false c.loop-part.invariant.signed;
      nonzero = c.are_nonzero.ensures.0 c.if-not-are_nonzero.false;
    } in
    let sums = all_summed n b c.args.proof.now.scale parts c.deref-part-items.result.now k c.loop-part.rests c.loop-part.sums same
    c.loop-part-test.false c.loop-part.invariant.sums in
    let wide = subst (AreSums n b c.args.proof.now.scale (map shown_part parts) c.loop-part.rests) c.in_err-sums.was sums in
    let exit = err_from_is_err_and c.from_residual.result c.from_residual.ensures.1 in
    rw (exit.1, exit.2) (first-wide n b (shown_proof c.args.proof.now) order wide)

pub returns-clause-in_order : goal.returns-clause-in_order
returns-clause-in_order c = record {
  rising = c.requires.rising;
  known = c.requires.known;
  signed = all_signed (kind_at (net_of c.args.net.now) (shown_box c.args.v.now)) c.args.proof.now.parts.items c.deref-part-items.result.now
      c.loop-part.part-index c.deref-part-items.ensures.value c.loop-part-test.false c.loop-part.invariant.signed;
  nonzero = c.are_nonzero.ensures.0 c.if-not-are_nonzero.false;
}

pub sum_of_ends-requires-clause-room : goal.sum_of_ends-requires-clause-room
sum_of_ends-requires-clause-room c =
    let are = all_narrow (net_of c.args.net.now) (shown_box c.args.v.now) c.args.proof.now.scale c.args.proof.now.parts.items c.deref-part-items.result.now
    c.loop-part.part-index c.loop-part.rests c.loop-part.sums c.in_ok-sums.sums c.deref-part-items.ensures.value c.loop-part-test.false
    c.in_ok-sums.was c.loop-part.invariant.sums in
    sums-light (net_of c.args.net.now) (shown_box c.args.v.now) c.args.proof.now.scale (map shown_part c.args.proof.now.parts.items) c.loop-part.rests
    c.in_ok-sums.sums are

pub overflow_sub-result : goal.overflow_sub-result
overflow_sub-result c =
    let are = all_narrow (net_of c.args.net.now) (shown_box c.args.v.now) c.args.proof.now.scale c.args.proof.now.parts.items c.deref-part-items.result.now
    c.loop-part.part-index c.loop-part.rests c.loop-part.sums c.in_ok-sums.sums c.deref-part-items.ensures.value c.loop-part-test.false
    c.in_ok-sums.was c.loop-part.invariant.sums in
    let ends : FitsSigned w128 c.sum_of_ends.result = search rules in
    let constants : FitsSigned w128 c.in_ok-sums.sums.constants = search rules in
    simp to_z-of_z (sums-fit (net_of c.args.net.now) (shown_box c.args.v.now) c.args.proof.now.scale (map shown_part c.args.proof.now.parts.items) c.loop-part.rests
    c.in_ok-sums.sums are c.sum_of_ends.result c.sum_of_ends.ensures)

pub returns-clause-number : goal.returns-clause-number
returns-clause-number c =
    let are = all_narrow (net_of c.args.net.now) (shown_box c.args.v.now) c.args.proof.now.scale c.args.proof.now.parts.items c.deref-part-items.result.now
    c.loop-part.part-index c.loop-part.rests c.loop-part.sums c.in_ok-sums.sums c.deref-part-items.ensures.value c.loop-part-test.false
    c.in_ok-sums.was c.loop-part.invariant.sums in
    let ends : FitsSigned w128 c.sum_of_ends.result = search rules in
    let constants : FitsSigned w128 c.in_ok-sums.sums.constants = search rules in
    let fits : FitsSigned w128 (c.sum_of_ends.result -ℤ c.in_ok-sums.sums.constants) =
    sums-fit (net_of c.args.net.now) (shown_box c.args.v.now) c.args.proof.now.scale (map shown_part c.args.proof.now.parts.items) c.loop-part.rests
    c.in_ok-sums.sums are c.sum_of_ends.result c.sum_of_ends.ensures in
    simp to_z-of_z (sums-number (net_of c.args.net.now) (shown_box c.args.v.now) c.args.proof.now.scale (map shown_part c.args.proof.now.parts.items) c.loop-part.rests
    c.in_ok-sums.sums are c.sum_of_ends.result c.sum_of_ends.ensures)
