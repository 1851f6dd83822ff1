-- How long the payloads of entries in order are.
use Rattle.std.proofs.Common.{◌≡◌, ℕ, max, ap, ◌∙◌, ◌+◌, ◌*◌, ◌≤◌, ◌++◌, List, [], ◌∷◌, length, get_or, Option, Some, None, inl, inr, refl, sym, subst, pos, arith, length-append}
use Rattle.std.specs.Option.{ForSome}
use Rattle.std.specs.List.{AllByRecursion}
use Rattle.pool_model.specs.Network.{Net, IsLimited}
use Rattle.row_model.specs.Boxes.{Box}
use Rattle.row_model.specs.Catalogue.{rows}
use Rattle.row_model.specs.Multipliers.{Proof, IsInOrder}
use Rattle.row_model.specs.Entries.{Entry, root_proof, split_of, improve, Searched, start, after, made_from, IsEntryInOrder, AreInOrderFrom, AreInOrder}
use Rattle.row_book.proofs.Rising.{no_more}
use Rattle.journal_format.specs.Versions.{leaf_width}
use Rattle.journal_format.specs.Payload.{payload, split_bytes, half_bytes, IsNarrow}
use Rattle.journal_format.specs.Histories.{History, unturned, turned, entries_of, EachEntry}
use Rattle.journal_format.specs.Files.{IsRecordable, IsHistoryOf}
use Rattle.journal_format.specs.declared.version.Version.{Version}
use Rattle.journal_format.specs.declared.version.Version.TheVariants.{One, Two}
use Rattle.journal_format.specs.Faults.{IsAllowed}
use Rattle.journal_format.specs.Longest.{longest}
use Rattle.journal_format.proofs.Lengths.{length-proof_bytes, length-split_bytes, length-plan_bytes}

-- a proof in order has no more parts than there are rows
few_parts : (n : Net) (b : Box) (proof : Proof) → IsInOrder n b proof → length proof.parts ≤ rows n
few_parts n b proof is =
    no_more (λ i. (get_or proof.parts i record { row = 0; mult = pos 0 }).row) (length proof.parts) (rows n) is.rising
    (λ i lt. is.known i record { row = 0; mult = pos 0 } lt)

short_half : (n : Net) (b : Box) (half : Option Proof) → ForSome half (IsInOrder n b) → length (half_bytes half) ≤ 13 + 12 * rows n
short_half n b None is = omega arith
short_half n b (Some proof) is = omega (arith, length-proof_bytes proof, few_parts n b proof (is proof refl))

leaf_width-small : (v : Version) → leaf_width v ≤ 4
leaf_width-small One = omega arith
leaf_width-small Two = omega arith

pub short_payload : (n : Net) (v : Version) (s : Searched) (e : Entry) → IsEntryInOrder n s e → length (payload v e) ≤ longest n
short_payload n v s (root_proof proof) is = omega (arith, length-proof_bytes proof, few_parts n _ proof is.shows)
short_payload n v s (split_of split left right) is =
    omega (
      arith,
      length-append (split_bytes v split ++ half_bytes left) (half_bytes right),
      length-append (split_bytes v split) (half_bytes left),
      length-split_bytes v split,
      leaf_width-small v,
      short_half n _ left is.left_proof,
      short_half n _ right is.right_proof,
    )
short_payload n v s (improve plan) is = omega (arith, length-plan_bytes plan, is.written.weights, is.written.outflows, is.written.direct)

pub narrow_entry : (n : Net) (s : Searched) (e : Entry) → IsLimited n → IsEntryInOrder n s e → IsNarrow e
narrow_entry n s (root_proof proof) limited is = tt
narrow_entry n s (split_of split left right) limited is = tt
narrow_entry n s (improve plan) limited is = record {
  weights = omega (arith, limited.feeds, is.written.weights);
  outflows = omega (arith, limited.outs, is.written.outflows);
  direct = omega (arith, limited.directs, is.written.direct);
}

-- entries in order that a file holds are no longer than the longest
allowed_from : (n : Net) (v : Version) (s : Searched) (list : List Entry) → AreInOrderFrom n s list → AllByRecursion (IsRecordable v) list → AllByRecursion (IsAllowed (longest n) v) list
allowed_from n v s [] are each = tt
allowed_from n v s (e ∷ list) are each = (record { recordable = each.0; short = short_payload n v s e are.0 }, allowed_from n v (after s e) list are.1 each.1)

in_order-front : (n : Net) (s : Searched) (front rest : List Entry) → AreInOrderFrom n s (front ++ rest) → AreInOrderFrom n s front × AreInOrderFrom n (made_from s front) rest
in_order-front n s [] rest are = (tt, are)
in_order-front n s (e ∷ front) rest are = let others = in_order-front n (after s e) front rest are.1 in ((are.0, others.0), others.1)

allowed_history : (n : Net) (h : History) → AreInOrder n (entries_of h) → EachEntry IsRecordable h → EachEntry (IsAllowed (longest n)) h
allowed_history n (unturned v list) are each = allowed_from n v start list are each
allowed_history n (turned before behind) are each =
    let parts = in_order-front n start before behind are in
    (allowed_from n One start before parts.0 each.0, allowed_from n Two (made_from start before) behind parts.1 each.1)

pub allowed_in_order : (n : Net) (text file : List ℕ) (h : History) → AreInOrder n (entries_of h) → IsHistoryOf file text h → EachEntry (IsAllowed (longest n)) h
allowed_in_order n text file h are (inl none) = subst (EachEntry (IsAllowed (longest n))) (sym none.1) tt
allowed_in_order n text file h are (inr born) = allowed_history n h are born.2.each

-- the longest payload, by counts that code holds
pub longest_is : (n : Net) (row_count feeds outs directs m : ℕ) → row_count ≡ rows n → feeds ≡ n.feeds → outs ≡ n.outs → directs ≡ n.directs
    → m ≡ max (43 + 24 * row_count) (15 + 4 * feeds + 8 * outs + 8 * directs) → m ≡ longest n
longest_is n row_count feeds outs directs m a b d e is =
    is ∙ ap (λ (k : ℕ). max (43 + 24 * k) (15 + 4 * feeds + 8 * outs + 8 * directs)) a
    ∙ ap (λ (k : ℕ). max (43 + 24 * rows n) (15 + 4 * k + 8 * outs + 8 * directs)) b
    ∙ ap (λ (k : ℕ). max (43 + 24 * rows n) (15 + 4 * n.feeds + 8 * k + 8 * directs)) d
    ∙ ap (λ (k : ℕ). max (43 + 24 * rows n) (15 + 4 * n.feeds + 8 * n.outs + 8 * k)) e
