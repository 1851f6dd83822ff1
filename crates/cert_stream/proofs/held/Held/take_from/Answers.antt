use Rattle.std.proofs.Common.{rules, ◌≡◌, ◌+◌, ◌-◌, ◌≤◌, ◌++◌, ℕ, List, length, take, slice_range, ap, ◌∙◌, arith, length-take-le, inl, inr}
use borrow.Rule.Slice.PartMut.{put_mid}
use Rattle.std.proofs.lemmas.List.{with_items_is, places}
use Rattle.std.proofs.lemmas.Slice.{between_is}
use Rattle.cert_stream.proofs.Places.{front-moved, grown}
use Rattle.cert_stream.proofs.held.Held.take_from.Goals as goal

pub returns-clause-handed : goal.returns-clause-handed
returns-clause-handed g c =
    let h = c.self.inside in
    let a : ℕ = h.to - h.from in
    let n = c.in_ok-count.count in
    let all = c.as_mut_slice.result.now in
    let got = c.read_some.new.into in
    let k : ℕ = length all - a in
    let fits : n ≤ length got = c.in_ok-count.ensures.part in
    let room : a ≤ length all = search (rules, places) in
    let after : slice_range (put_mid a k all got) 0 (a + n) ≡ take a all ++ take n got = between_is (put_mid a k all got) 0 (a + n) ∙ grown all got a k n room fits in
    let front : take a all ≡ c.args.self.now =
    front-moved all c.copy_within.new.self.items h.buffer.items c.args.self.now h.from h.to c.as_mut_slice.ensures.value c.copy_within.ensures.items
    c.self.invariant.order (omega (arith, c.self.invariant.long, c.self.invariant.within)) c.self.view_is in
    record {
      piece = take n got;
      long = length-take-le n got fits;
      behind = ap (λ (xs : List ℕ). slice_range xs 0 (a + n)) (with_items_is c.copy_within.new.self (put_mid a k all got) (search (rules, places)))
          ∙ after ∙ ap (λ (xs : List ℕ). xs ++ take n got) front;
      parts = c.in_ok-count.ensures.handed;
      some = λ e. elim (c.in_ok-count.ensures.some e) [ inl z ↦ absurd (search (rules, places)) | inr u ↦ u ];
    }
